-- What heads of frames spell, byte by byte.
use Rattle.std.proofs.Common.{◌≡◌, ℕ, zero, suc, ◌+◌, ◌-◌, ◌*◌, ◌^◌, ◌≤◌, ◌<◌, Bool, true}
use Rattle.std.proofs.Common.{List, [], ◌∷◌, Result, Ok, Err, Option, Some, None, option_map, length, get_or, inl, inr, refl, sym, ap, ◌∙◌, arith}
use Rattle.std.specs.Prelude.{find, IfSome}
use Rattle.std.specs.List.{position, position_or_len, slice_get}
use Rattle.std.proofs.Math.Nat.{pow-suc}
use Rattle.std.proofs.lemmas.Bool.{cases_lt, lt-ltb, le-ltb}
use Rattle.std.proofs.lemmas.List.Folds.{find_at}
use Rattle.std.proofs.lemmas.Option.{slice_get_past, slice_get_read}
use Rattle.p2p_discovery.specs.declared.codec.error.CodecError.{CodecError}
use Rattle.p2p_discovery.specs.Reading.{reads, outcome_then}
use Rattle.p2p_discovery.specs.Varint.{groups_at, last_group}
use Rattle.p2p_driver.specs.Heads.{value_of}

-- without a byte there is no number
pub no_byte : (most top : ℕ) (more : Bool) (left : ℕ) (bytes : List ℕ) → length bytes ≡ 0 →
    None ≡ value_of (groups_at most top more left bytes).outcome
unfolding groups_at
no_byte most top more zero [] none = refl
no_byte most top more (suc left) [] none = refl
no_byte most top more left (b ∷ bytes) none = absurd (omega (arith, none))

-- behind the last byte that there may be, none is
pub last_byte : (most top : ℕ) (more : Bool) (left b : ℕ) (rest : List ℕ) → left ≡ 0 →
    value_of (groups_at most top more left (b ∷ rest)).outcome
    ≡ value_of (last_group most top more b rest).outcome
unfolding groups_at
last_byte most top more zero b rest e = refl
last_byte most top more (suc left) b rest e = absurd (omega (arith, e))

-- .. nor behind one whose top bit isn't set
pub low_byte : (most top : ℕ) (more : Bool) (left less b : ℕ) (rest : List ℕ) → left ≡ suc less →
    b < 128 → value_of (groups_at most top more left (b ∷ rest)).outcome
    ≡ value_of (last_group most 127 more b rest).outcome
unfolding groups_at
low_byte most top more zero less b rest e low = absurd (omega (arith, e))
low_byte most top more (suc left) less b rest e low = rw (lt-ltb b 128 low) refl

-- what is read of a number that was read
mapped : (f : ℕ → ℕ) (r : Result (ℕ × List ℕ) CodecError) →
    value_of (outcome_then r (λ high. reads (f high))) ≡ option_map f (value_of r)
mapped f (Ok x) = refl
mapped f (Err e) = refl

-- behind any other byte stands what is left of the number
pub high_byte : (most top : ℕ) (more : Bool) (left less b : ℕ) (rest : List ℕ) → left ≡ suc less →
    128 ≤ b → value_of (groups_at most top more left (b ∷ rest)).outcome
    ≡ option_map (λ high. b - 128 + 128 * high) (value_of (groups_at most top true less rest).outcome)
unfolding groups_at
high_byte most top more zero less b rest e high = absurd (omega (arith, e))
high_byte most top more (suc left) less b rest e high =
    let same : left ≡ less = omega (arith, e) in
    rw (le-ltb b 128 high, ← same)
    (mapped (λ high. b - 128 + 128 * high) (groups_at most top true left rest).outcome)

-- a number of one byte less fits
pub fits_less : (left less : ℕ) → left ≡ suc less → 2 * 128 ^ left ≤ 2 ^ 64 →
    2 * 128 ^ less * 128 ≤ 2 ^ 64
fits_less left less e fits =
    let k : 2 * (128 ^ less * 128) ≤ 2 ^ 64 = rw (← pow-suc 128 less, ← e) fits in omega (arith, k)

-- no place is found of which none passes
pub none_found : {X : Type 0} (p : X → Bool) (xs : List X) → None ≡ position p xs →
    find p xs ≡ None
none_found p xs none = elim (cases_lt (position_or_len p xs) (length xs)) [
  | inl within ↦
      let some : position p xs ≡ Some (position_or_len p xs) =
      rw (lt-ltb (position_or_len p xs) (length xs) within) refl in
      absurd (let e = none ∙ some in cc)
  | inr past ↦ find_at p xs ∙ slice_get_past xs (position_or_len p xs) past
]

-- what stands at the place that is found is what is found
pub found_there : {X : Type 0} (p : X → Bool) (xs : List X) (k : ℕ) (x : X) →
    Some k ≡ position p xs → x ≡ get_or xs k x →
    (position_or_len p xs ≡ k) × (find p xs ≡ Some x) × (k < length xs)
found_there p xs k x some is = elim (cases_lt (position_or_len p xs) (length xs)) [
  | inl within ↦
      let at : Some k ≡ Some (position_or_len p xs) = some
      ∙ rw (lt-ltb (position_or_len p xs) (length xs) within) refl in
      let same : k ≡ position_or_len p xs = cc in
      let less : k < length xs = omega (arith, same, within) in (
        sym same,
        find_at p xs ∙ ap (slice_get xs) (sym same) ∙ slice_get_read xs (length xs) k x refl less is,
        less,
      )
  | inr past ↦
      let none : position p xs ≡ None =
      rw (le-ltb (position_or_len p xs) (length xs) past) refl in
      absurd (let e = some ∙ none in cc)
]

-- what holds of each that is small holds of what there is, if it is small
pub weaker : (r : Option ℕ) (P Q : ℕ → Type 0) → ((n : ℕ) → P n → Q n) → IfSome r P → IfSome r Q
weaker (Some n) P Q all small = all n small
weaker None P Q all small = tt
