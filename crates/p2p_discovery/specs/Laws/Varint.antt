-- A number's groups are read again, and what is read are a number's groups.
use Rattle.std.proofs.Common.{◌≡◌, ℕ, zero, suc, ◌+◌, ◌-◌, ◌*◌, ◌/◌, ◌%◌, ◌^◌, ◌≤◌, ◌<◌, Bool}
use Rattle.std.proofs.Common.{true, false, cond, ◌&&◌, ◌||◌, List, [], ◌∷◌, ◌++◌, length}
use Rattle.std.proofs.Common.{Ok, Err, refl, sym, ap, subst, ◌∙◌, arith, eqb, ltb, inl, inr}
use Rattle.std.proofs.Math.Nat.{pow-suc, mul-le-mul_left}
use Rattle.std.proofs.Math.Dec.{eqb-suc-zero}
use Rattle.std.proofs.lemmas.Bool.{cases_lt, ltb-false, le-ltb, lt-ltb}
use Rattle.p2p_discovery.specs.declared.codec.error.CodecError.TheVariants.{EndOfBuffer}
use Rattle.p2p_discovery.specs.declared.codec.error.CodecError.TheVariants.{InvalidVarint}
use Rattle.p2p_discovery.specs.Reading.{◌>>=◌, reads, byte_at, Lawful, IsBytes}
use Rattle.p2p_discovery.specs.Varint.{groups, groups_at, last_group}
use Rattle.p2p_discovery.specs.Laws.Reading.{guard_ok, done, ok_is, bind_ok}
use Rattle.p2p_discovery.specs.Laws.Reading.{head_is, tail_is, one_byte_front}

pub groups_small : (most n : ℕ) → 0 < most → n < 128 → groups most n ≡ n ∷ []
unfolding groups
groups_small zero n p q = absurd (omega arith)
groups_small (suc most) n p q = rw (lt-ltb n 128 q) refl

-- what is left of a number behind its lowest group
pub record Shorter (most n : ℕ) : Type 0 where
  pub less : ℕ
  pub some : 0 < less
  pub fits : n / 128 < 128 ^ less
  pub is : groups most n ≡ (n % 128 + 128) ∷ groups less (n / 128)

pub div_fits : (n p : ℕ) → n < p * 128 → n / 128 < p
div_fits n p h = omega arith

pub groups_more : (most n : ℕ) → n < 128 ^ most → 128 ≤ n → Shorter most n
unfolding groups
groups_more zero n p q = absurd (omega (arith, p))
groups_more (suc zero) n p q = absurd (omega arith)
groups_more (suc (suc most)) n p q = record {
  less = suc most;
  some = omega arith;
  fits = div_fits n (128 ^ suc most) (rw (← pow-suc 128 (suc most)) p);
  is = rw (le-ltb n 128 q) refl;
}

pub at_zero : (most top : ℕ) (started : Bool) (left : ℕ) (bytes : List ℕ) → left ≡ 0
    → groups_at most top started left bytes ≡ (byte_at >>= last_group most top started) bytes
unfolding groups_at
at_zero most top started zero bytes e = refl
at_zero most top started (suc left) bytes e = absurd (omega (arith, e))

pub at_more : (most top : ℕ) (started : Bool) (left less : ℕ) (bytes : List ℕ) → left ≡ suc less
    → groups_at most top started left bytes
    ≡ (byte_at
    >>= λ b rest. cond (ltb b 128) (last_group most 127 started b rest)
    ((groups_at most top true less >>= λ high. reads (b - 128 + 128 * high)) rest)) bytes
unfolding groups_at
at_more most top started left less bytes e = rw e refl

-- ---- the steps of the reader

-- ---- how large a number is

some_power : (k : ℕ) → 0 < 128 ^ k
some_power zero = omega arith
some_power (suc k) = rw (pow-suc 128 k) (omega (arith, some_power k))

bound_step : (b high p : ℕ) → b < 256 → high < p → b - 128 + 128 * high < p * 128
bound_step b high p lt h = omega arith

pub bound_more : (b high top left less : ℕ) → left ≡ suc less → b < 256
    → high < (top + 1) * 128 ^ less → b - 128 + 128 * high < (top + 1) * 128 ^ left
bound_more b high top left less e lt h = rw (e, pow-suc 128 less) (omega arith)

pub bound_low : (n top left less : ℕ) → left ≡ suc less → n ≤ 127 → n < (top + 1) * 128 ^ left
bound_low n top left less e h =
    rw (e, pow-suc 128 less)
    (let p : 0 < 128 ^ less = some_power less in
    omega (arith, mul-le-mul_left (128 ^ less * 128) p))

-- ---- what is read are the groups of the number, and they are read again

or_false : (a b : Bool) → a || b ≡ false → (a ≡ false) × (b ≡ false)
or_false true b e = absurd cc
or_false false b e = (refl, e)

not_padded : (started : Bool) (b : ℕ) → started && eqb b 0 ≡ false → started ≡ true → 0 < b
not_padded true zero e h = absurd cc
not_padded true (suc b) e h = omega arith
not_padded false b e h = absurd cc

last_takes : (most top : ℕ) (started : Bool) (b : ℕ) (rest : List ℕ) (n : ℕ) (new : List ℕ)
    → (last_group most top started b rest).outcome ≡ Ok (n, new)
    → (b ≤ top) × (started ≡ true → 0 < b) × (b ≡ n) × (rest ≡ new)
last_takes most top started b rest n new e =
    let g = guard_ok (ltb top b || (started && eqb b 0)) (InvalidVarint most) b rest n new e in
    let o = or_false (ltb top b) (started && eqb b 0) g.0 in
    (ltb-false top b o.0, not_padded started b o.1, g.1, g.2)

pos-eqb : (b : ℕ) → 0 < b → eqb b 0 ≡ false
pos-eqb zero p = absurd (omega arith)
pos-eqb (suc b) p = eqb-suc-zero b

last_again : (most top : ℕ) (started : Bool) (b : ℕ) (rest : List ℕ) → b ≤ top
    → (started ≡ true → 0 < b) → (last_group most top started b rest).outcome ≡ Ok (b, rest)
last_again most top true b rest le some =
    let p : 0 < b = some refl in rw (le-ltb top b le, pos-eqb b p) refl
last_again most top false b rest le some = rw (le-ltb top b le) refl

pairs : (a b : ℕ) (x y : List ℕ) → a ≡ b → x ≡ y → ◌≡◌ {A = ℕ × List ℕ} (a, x) (b, y)
pairs a b x y e f = cc

pub record Took (top left : ℕ) (started : Bool) (bytes : List ℕ) (n : ℕ)
    (rest : List ℕ) : Type 0 where
  pub small : n < (top + 1) * 128 ^ left
  pub some : started ≡ true → 0 < n
  pub parts : bytes ≡ groups (suc left) n ++ rest

pub bound_split : (top left n : ℕ) → n < (top + 1) * 128 ^ suc left → n < ((top + 1) * 128 ^ left) * 128
bound_split top left n h =
    let k : n < (top + 1) * (128 ^ left * 128) = rw (pow-suc 128 left) at h in omega arith

value_is : (b high : ℕ) → 128 ≤ b → b < 256 → 0 < high
    → (128 ≤ b - 128 + 128 * high) × ((b - 128 + 128 * high) % 128 + 128 ≡ b)
    × ((b - 128 + 128 * high) / 128 ≡ high)
value_is b high le lt some = (omega arith, omega arith, omega arith)

pub groups_step : (left b high : ℕ) → 128 ≤ b → b < 256 → 0 < high
    → groups (suc (suc left)) (b - 128 + 128 * high) ≡ b ∷ groups (suc left) high
unfolding groups
groups_step left b high le lt some =
    let v = value_is b high le lt some in
    rw (le-ltb (b - 128 + 128 * high) 128 v.0, v.1, v.2) refl

pub groups_take : (most top : ℕ) (started : Bool) (left : ℕ) (bytes : List ℕ) (n : ℕ)
    (rest : List ℕ) → top < 128 → IsBytes bytes
    → (groups_at most top started left bytes).outcome ≡ Ok (n, rest)
    → Took top left started bytes n rest
unfolding groups_at
groups_take most top started zero [] n rest lt fits e = absurd cc
groups_take most top started zero (b ∷ bytes) n rest lt fits e =
    let l = last_takes most top started b bytes n rest e in
    subst (λ (p : ℕ × List ℕ). Took top 0 started (b ∷ bytes) p.0 p.1)
    (pairs b n bytes rest l.2 l.3) (record {
      small = omega (arith, l.0);
      some = l.1;
      parts = rw (groups_small 1 b (omega arith) (omega (arith, l.0))) refl;
    })
groups_take most top started (suc left) [] n rest lt fits e = absurd cc
groups_take most top started (suc left) (b ∷ bytes) n rest lt fits e =
    elim (cases_lt b 128) [
      | inl low ↦
          let l = last_takes most 127 started b bytes n rest (rw (lt-ltb b 128 low) at e) in
          subst (λ (p : ℕ × List ℕ). Took top (suc left) started (b ∷ bytes) p.0 p.1)
          (pairs b n bytes rest l.2 l.3) (record {
            small = bound_low b top (suc left) left refl l.0;
            some = l.1;
            parts = rw (groups_small (suc (suc left)) b (omega arith) low) refl;
          })
      | inr high ↦
          let a =
          bind_ok (groups_at most top true left bytes).outcome (λ h. reads (b - 128 + 128 * h))
          (n, rest) (rw (le-ltb b 128 high) at e) in
          let t = groups_take most top true left bytes a.0.0 a.0.1 lt (λ i. fits (suc i)) a.1 in
          let byte : b < 256 = fits 0 in
          let p : ◌≡◌ {A = ℕ × List ℕ} (b - 128 + 128 * a.0.0, a.0.1) (n, rest) =
          ok_is (b - 128 + 128 * a.0.0, a.0.1) (n, rest) a.2 in
          subst (λ (p : ℕ × List ℕ). Took top (suc left) started (b ∷ bytes) p.0 p.1) p (record {
            small = bound_more b a.0.0 top (suc left) left refl byte t.small;
            some = λ _. omega (arith, t.some refl);
            parts =
                rw (groups_step left b a.0.0 high byte (t.some refl))
                (ap (λ (w : List ℕ). b ∷ w) t.parts);
          })
    ]

step_low : (most top : ℕ) (started : Bool) (left b : ℕ) (rest : List ℕ) → b < 128
    → groups_at most top started (suc left) (b ∷ rest)
    ≡ (byte_at >>= λ b rest. last_group most 127 started b rest) (b ∷ rest)
unfolding groups_at
step_low most top started left b rest lt =
    ap
    (λ (t : Bool).
    (byte_at
    >>= λ b rest. cond t (last_group most 127 started b rest)
    ((groups_at most top true left >>= λ high. reads (b - 128 + 128 * high)) rest))
    (b ∷ rest)) (lt-ltb b 128 lt)

step_high : (most top : ℕ) (started : Bool) (left b : ℕ) (rest : List ℕ) → 128 ≤ b
    → groups_at most top started (suc left) (b ∷ rest)
    ≡ (byte_at
    >>= λ b rest. (groups_at most top true left >>= λ high. reads (b - 128 + 128 * high)) rest)
    (b ∷ rest)
unfolding groups_at
step_high most top started left b rest le =
    ap
    (λ (t : Bool).
    (byte_at
    >>= λ b rest. cond t (last_group most 127 started b rest)
    ((groups_at most top true left >>= λ high. reads (b - 128 + 128 * high)) rest))
    (b ∷ rest)) (le-ltb b 128 le)

pub groups_again : (most top : ℕ) (started : Bool) (left n : ℕ) (rest : List ℕ) → top < 128
    → n < (top + 1) * 128 ^ left → (started ≡ true → 0 < n)
    → (groups_at most top started left (groups (suc left) n ++ rest)).outcome ≡ Ok (n, rest)
groups_again most top started zero n rest lt small some =
    rw (groups_small 1 n (omega arith) (omega arith), at_zero most top started zero (n ∷ rest) refl)
    (last_again most top started n rest (omega arith) some)
groups_again most top started (suc left) n rest lt small some =
    elim (cases_lt n 128) [
      | inl low ↦
          rw (
            groups_small (suc (suc left)) n (omega arith) low,
            step_low most top started left n rest low,
          )
          (last_again most 127 started n rest (omega arith) some)
      | inr high ↦
          let w = (n % 128 + 128) in
          let v : n % 128 + 128 - 128 + 128 * (n / 128) ≡ n = omega arith in
          let g : groups (suc (suc left)) n ≡ w ∷ groups (suc left) (n / 128) =
          ap (groups (suc (suc left))) (sym v)
          ∙ groups_step left w (n / 128) (omega arith) (omega arith) (omega arith) in
          let again =
          groups_again most top true left (n / 128) rest lt
          (div_fits n ((top + 1) * 128 ^ left) (bound_split top left n small))
          (λ _. omega arith) in
          rw (
            g,
            step_high most top started left w (groups (suc left) (n / 128) ++ rest)
                (omega arith),
            again,
          ) (ap (λ (k : ℕ). done (k, rest)) v)
    ]

-- a proper front of the groups ends too early
pub groups_cut : (most top : ℕ) (started : Bool) (left n : ℕ) (front rest : List ℕ) → top < 128
    → n < (top + 1) * 128 ^ left → groups (suc left) n ≡ front ++ rest → 0 < length rest
    → (groups_at most top started left front).outcome ≡ Err EndOfBuffer
groups_cut most top started zero n [] rest lt small e some =
    rw (at_zero most top started zero [] refl) refl
groups_cut most top started zero n (b ∷ front) rest lt small e some =
    absurd
    (one_byte_front n b front rest (sym (groups_small 1 n (omega arith) (omega arith)) ∙ e)
    some)
groups_cut most top started (suc left) n [] rest lt small e some =
    rw (at_more most top started (suc left) left [] refl) refl
groups_cut most top started (suc left) n (b ∷ front) rest lt small e some =
    elim (cases_lt n 128) [
      | inl low ↦
          absurd
          (one_byte_front n b front rest
          (sym (groups_small (suc (suc left)) n (omega arith) low) ∙ e) some)
      | inr high ↦
          let w = (n % 128 + 128) in
          let v : n % 128 + 128 - 128 + 128 * (n / 128) ≡ n = omega arith in
          let g : groups (suc (suc left)) n ≡ w ∷ groups (suc left) (n / 128) =
          ap (groups (suc (suc left))) (sym v)
          ∙ groups_step left w (n / 128) (omega arith) (omega arith) (omega arith) in
          let h : w ≡ b = head_is w b (groups (suc left) (n / 128)) (front ++ rest) (sym g ∙ e) in
          let t : groups (suc left) (n / 128) ≡ front ++ rest =
          tail_is w b (groups (suc left) (n / 128)) (front ++ rest) (sym g ∙ e) in
          let k =
          groups_cut most top true left (n / 128) front rest lt
          (div_fits n ((top + 1) * 128 ^ left) (bound_split top left n small)) t some in
          rw (step_high most top started left b front (omega (arith, h)), k) refl
    ]

pub groups_lawful : (most top left : ℕ) → top < 128
    → Lawful (groups_at most top false left) (groups (suc left)) (λ n. n < (top + 1) * 128 ^ left)
groups_lawful most top left lt = record {
  takes =
      λ bytes n rest fits e. let t = groups_take most top false left bytes n rest lt fits e in
      (t.small, t.parts);
  again = λ n rest small. groups_again most top false left n rest lt small (λ e. absurd cc);
  cut = λ n front rest small e some. groups_cut most top false left n front rest lt small e some;
}

pub groups_short : (most n : ℕ) → length (groups most n) ≤ most
unfolding groups
groups_short zero n = omega arith
groups_short (suc most) n =
    elim (cases_lt n 128) [
      | inl low ↦ rw (lt-ltb n 128 low) (omega arith)
      | inr high ↦ rw (le-ltb n 128 high) (omega (arith, groups_short most (n / 128)))
    ]
