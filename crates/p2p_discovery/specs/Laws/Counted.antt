-- Lengths within a limit, and bytes behind their length, are read by their spelling.
use Rattle.std.proofs.Common.{◌≡◌, ℕ, ◌+◌, ◌≤◌, ◌<◌, ◌^◌, true, false, not, ◌==◌, List, length}
use Rattle.std.proofs.Common.{lit<, arith}
use Rattle.std.proofs.lemmas.List.{length-append}
use Rattle.p2p_discovery.specs.declared.codec.error.RangeCfg.{RangeCfg}
use Rattle.p2p_discovery.specs.declared.codec.error.CodecError.TheVariants.{InvalidLength}
use Rattle.p2p_discovery.specs.Reading.{Lawful, cut_at, is_within}
use Rattle.p2p_discovery.specs.Laws.Fields.{lawful_checked, lawful_kept, lawful_part}
use Rattle.p2p_discovery.specs.Varint.{varint32}
use Rattle.p2p_discovery.specs.Laws.Varint.{groups_lawful, groups_short}
use Rattle.p2p_discovery.specs.Counted.{counted_spelling, length_at}

pub lawful_length : (limit : RangeCfg)
    → Lawful (length_at limit) varint32 (λ n. (is_within limit n ≡ true) × (n < 2 ^ 32))
unfolding length_at
lawful_length limit =
    lawful_checked false (is_within limit) InvalidLength (groups_lawful 5 15 4 (lit< tt))

pub lawful_cut : (n : ℕ) → Lawful (cut_at n) (λ b. b) (λ b. Unit {0} × (length b ≡ n))
lawful_cut n = lawful_kept (not (n == 0)) (lawful_part n)

pub counted_short : (bytes : List ℕ) → length (counted_spelling bytes) ≤ length bytes + 5
counted_short bytes =
    omega (arith, groups_short 5 (length bytes), length-append (varint32 (length bytes)) bytes)
