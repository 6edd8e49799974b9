-- Writing the groups of a number two at a time.
use Rattle.std.proofs.Common.{◌≡◌, ℕ, suc, ◌+◌, ◌-◌, ◌*◌, ◌/◌, ◌%◌, ◌^◌, ◌≤◌, ◌<◌, List, [], ◌∷◌, ap, ◌∙◌, arith}
use Rattle.p2p_discovery.specs.Varint.{groups}
use Rattle.p2p_discovery.specs.Laws.Varint.{groups_small, groups_more, groups_step}

pub one_group : (most n : ℕ) → 0 < most → n / 128 ≡ 0 → groups most n ≡ (n % 128) ∷ []
one_group most n some e =
    let k : n ≡ n % 128 = omega (arith, e) in
    groups_small most n some (omega (arith, e)) ∙ ap (λ (b : ℕ). b ∷ []) k

pub two_groups : (most n : ℕ) → n < 128 ^ most → (n / 128 ≡ 0 → ⊥) → n / 128 < 128 → groups most n ≡ (n % 128 + 128) ∷ (n / 128) ∷ []
two_groups most n h some lt =
    let m = groups_more most n h (omega (arith, some)) in
    m.is ∙ ap (λ (bytes : List ℕ). (n % 128 + 128) ∷ bytes) (groups_small m.less (n / 128) m.some lt)

-- what is left of a number behind its two lowest groups
pub record Shorter (most n : ℕ) : Type 0 where
  pub less : ℕ
  pub some : 0 < less
  pub fits : n / 128 / 128 < 128 ^ less
  pub is : groups most n ≡ (n % 128 + 128) ∷ (n / 128 % 128 + 128) ∷ groups less (n / 128 / 128)

pub more_groups : (most n : ℕ) → n < 128 ^ most → 128 ≤ n / 128 → Shorter most n
more_groups most n h le =
    let m = groups_more most n h (omega (arith, le)) in
    let k = groups_more m.less (n / 128) m.fits le in
    record {
      less = k.less;
      some = k.some;
      fits = k.fits;
      is = m.is ∙ ap (λ (bytes : List ℕ). (n % 128 + 128) ∷ bytes) k.is;
    }

-- a number of two groups, of which the second is 1
pub groups_two : (left n : ℕ) → 128 ≤ n → n < 256 → groups (suc (suc left)) n ≡ n ∷ 1 ∷ []
groups_two left n le lt =
    let e : n ≡ n - 128 + 128 * 1 = omega arith in
    ap (groups (suc (suc left))) e ∙ groups_step left n 1 le lt (omega arith)
    ∙ ap (λ (w : List ℕ). n ∷ w) (groups_small (suc left) 1 (omega arith) (omega arith))
