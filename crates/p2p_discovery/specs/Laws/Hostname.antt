-- Names are read by their spelling, which is short.
use Rattle.std.proofs.Common.{◌≡◌, ℕ, ◌≤◌, true, List, length, arith, refl}
use Rattle.std.proofs.lemmas.Bool.{le-leb}
use Rattle.std.proofs.lemmas.Bool.Decides.{nat_tests}
use Rattle.p2p_discovery.specs.declared.codec.error.CodecError.TheVariants.{Invalid}
use Rattle.p2p_discovery.specs.declared.codec.error.What.TheVariants as what
use Rattle.p2p_discovery.specs.Reading.{◌>>=◌, counted_at, Lawful, is_within}
use Rattle.p2p_discovery.specs.Laws.Fields.{lawful_sized, lawful_checked, lawful_part, lawful_same}
use Rattle.p2p_discovery.specs.Laws.Counted.{lawful_length, counted_short}
use Rattle.p2p_discovery.specs.Hostname.{is_hostname, host_limit, hostname_spelling, IsHostname}
use Rattle.p2p_discovery.specs.Hostname.{formed, hostname_at}

-- what the limit says
pub limit_is : (n : ℕ) → is_within host_limit n ≡ true → (1 ≤ n) × (n ≤ 253)
limit_is n h = (grind (arith, nat_tests), grind (arith, nat_tests))

pub limit_has : (n : ℕ) → 1 ≤ n → n ≤ 253 → is_within host_limit n ≡ true
limit_has n h k = rw (le-leb 1 n h, le-leb n 253 k) refl

pub hostname_short : (t : List ℕ) → IsHostname t → length (hostname_spelling t) ≤ 258
hostname_short t h = omega (arith, h.short, counted_short t)

text_of_length : (n : ℕ)
    → Lawful (counted_at n >>= formed) (λ b. b) (λ b. (is_hostname b ≡ true) × (length b ≡ n))
unfolding formed
text_of_length n =
    lawful_same (λ v h. (h.0, h.1.1)) (λ v h. (h.0, (tt, h.1)))
    (lawful_checked true is_hostname (λ _. Invalid what.Hostname) (lawful_part n))

pub lawful_hostname : Lawful hostname_at hostname_spelling IsHostname
unfolding hostname_at
lawful_hostname =
    lawful_same
    (λ v h. let k = limit_is (length v) h.1.0 in record { some = k.0; short = k.1; form = h.0 })
    (λ v h. (h.form, (limit_has (length v) h.some h.short, omega (arith, h.short))))
    (lawful_sized length (lawful_length host_limit) (λ n _. text_of_length n))
