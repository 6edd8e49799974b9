-- Bytes spell a number by the grammar exactly where they are its groups.
use Rattle.std.proofs.Common.{◌≡◌, ◌↔◌, ℕ, zero, suc, ◌+◌, ◌-◌, ◌*◌, ◌/◌, ◌%◌, ◌^◌, ◌≤◌, ◌<◌, Bool, true, false}
use Rattle.std.proofs.Common.{List, [], ◌∷◌, refl, sym, ap, subst, ◌∙◌, arith, inl, inr}
use Rattle.std.proofs.lemmas.Bool.{cases_lt}
use Rattle.p2p_discovery.specs.Varint.{SpellsFrom, groups}
use Rattle.p2p_discovery.specs.Laws.Varint.{groups_small, groups_step, div_fits, bound_low, bound_more, bound_split}

-- what follows from bytes that spell n behind the bytes that there were
pub record Spelled (more : Bool) (top left : ℕ) (bytes : List ℕ) (n : ℕ) : Type 0 where
  pub small : n < (top + 1) * 128 ^ left
  pub some : more ≡ true → 0 < n
  pub is : bytes ≡ groups (suc left) n

above_zero : (n : ℕ) → (n ≡ 0 → ⊥) → 0 < n
above_zero zero h = absurd (h refl)
above_zero (suc n) h = omega arith

pub spelled_is : (more : Bool) (top left : ℕ) (bytes : List ℕ) (n : ℕ) → top < 128
    → SpellsFrom more top left bytes n → Spelled more top left bytes n
unfolding SpellsFrom
spelled_is more top left [] n lt h = absurd h
spelled_is more top zero (b ∷ []) n lt h = record {
  small = omega (arith, h.0, h.2 refl);
  some = λ m. rw h.0 (above_zero b (h.3 m));
  is = rw (h.0, groups_small 1 b (omega arith) h.1) refl;
}
spelled_is more top (suc left) (b ∷ []) n lt h = record {
  small = bound_low n top (suc left) left refl (omega (arith, h.0, h.1));
  some = λ m. rw h.0 (above_zero b (h.3 m));
  is = rw (h.0, groups_small (suc (suc left)) b (omega arith) h.1) refl;
}
spelled_is more top zero (b ∷ c ∷ bytes) n lt h = absurd h
spelled_is more top (suc left) (b ∷ c ∷ bytes) n lt h =
    let high = h.2.0 in
    let s = spelled_is true top left (c ∷ bytes) high lt h.2.2 in
    record {
      small = rw h.2.1 (bound_more b high top (suc left) left refl h.1 s.small);
      some = λ m. omega (arith, h.2.1, s.some refl);
      is =
          rw (h.2.1, groups_step left b high h.0 h.1 (s.some refl))
          (ap (λ (w : List ℕ). b ∷ w) s.is);
    }

spells_behind : (more : Bool) (top left b high : ℕ) (tail : List ℕ) (n : ℕ) → 128 ≤ b → b < 256
    → n ≡ b - 128 + 128 * high → SpellsFrom true top left tail high
    → SpellsFrom more top (suc left) (b ∷ tail) n
unfolding SpellsFrom
spells_behind more top left b high [] n p q e h = absurd h
spells_behind more top left b high (c ∷ bytes) n p q e h = (p, q, (high, e, h))

spells_last : (more : Bool) (top left n : ℕ) → n < 128 → (left ≡ 0 → n ≤ top)
    → (more ≡ true → 0 < n) → SpellsFrom more top left (n ∷ []) n
unfolding SpellsFrom
spells_last more top left n p q some =
    (refl, p, q, λ m z. let k : 0 < n = some m in absurd (omega (arith, z)))

pub spells_again : (more : Bool) (top left n : ℕ) → top < 128 → n < (top + 1) * 128 ^ left
    → (more ≡ true → 0 < n) → SpellsFrom more top left (groups (suc left) n) n
spells_again more top zero n lt small some =
    rw (groups_small 1 n (omega arith) (omega arith))
    (spells_last more top zero n (omega arith) (λ _. omega arith) some)
spells_again more top (suc left) n lt small some =
    elim (cases_lt n 128) [
      | inl low ↦
          rw (groups_small (suc (suc left)) n (omega arith) low)
          (spells_last more top (suc left) n low (λ z. absurd (omega (arith, z))) some)
      | inr high ↦
          let w = (n % 128 + 128) in
          let v : n % 128 + 128 - 128 + 128 * (n / 128) ≡ n = omega arith in
          let g : groups (suc (suc left)) n ≡ w ∷ groups (suc left) (n / 128) =
          ap (groups (suc (suc left))) (sym v)
          ∙ groups_step left w (n / 128) (omega arith) (omega arith) (omega arith) in
          let again =
          spells_again true top left (n / 128) lt
          (div_fits n ((top + 1) * 128 ^ left) (bound_split top left n small))
          (λ _. omega arith) in
          rw g
          (spells_behind more top left w (n / 128) (groups (suc left) (n / 128)) n (omega arith)
          (omega arith) (sym v) again)
    ]

-- Bytes spell n by the grammar exactly where they are its groups.
pub grammar_is : (top left : ℕ) (bytes : List ℕ) (n : ℕ) → top < 128
    → SpellsFrom false top left bytes n
    ↔ ((n < (top + 1) * 128 ^ left) × (bytes ≡ groups (suc left) n))
grammar_is top left bytes n lt = (
  λ h. let s = spelled_is false top left bytes n lt h in (s.small, s.is),
  λ h. subst (λ (w : List ℕ). SpellsFrom false top left w n) (sym h.1)
      (spells_again false top left n lt h.0 (λ e. absurd cc)),
)
