-- What the law of a reader says of one call.
use Rattle.std.proofs.Common.{◌≡◌, ℕ, ◌-◌, ◌≤◌, ◌<◌, false, List, ◌++◌, length, drop, Result, Ok, Err, refl, sym, ap, subst, ◌∙◌, arith, eqb, ◌≢◌, ◌⊎◌, inl, inr}
use Rattle.std.proofs.lemmas.List.{drop_at, length-append}
use Rattle.std.proofs.lemmas.Bool.Decides.{nat_tests}
use Rattle.p2p_discovery.specs.declared.codec.error.CodecError.{CodecError}
use Rattle.p2p_discovery.specs.declared.codec.error.CodecError.TheVariants.{EndOfBuffer, ExtraData, InvalidLength, InvalidVarint, InvalidEnum, Invalid, Memory}
use Rattle.p2p_discovery.specs.Reading.{Reading, ◌>>=◌, grows_then, Lawful, Fails, Gives, IsBytes}
use Rattle.p2p_discovery.specs.Laws.Reading.{or_left, or_right}

is_memory : (e : CodecError) → (e ≡ Memory) ⊎ (e ≢ Memory)
is_memory EndOfBuffer = inr (λ h. cc)
is_memory (ExtraData n) = inr (λ h. cc)
is_memory (InvalidLength n) = inr (λ h. cc)
is_memory (InvalidVarint n) = inr (λ h. cc)
is_memory (InvalidEnum n) = inr (λ h. cc)
is_memory (Invalid w) = inr (λ h. cc)
is_memory Memory = inl refl

-- An error where a value is to be had is want of memory.
pub fails_memory : {A : Type 0} (e : CodecError) (read : Reading A) (x : A × List ℕ) → Fails e read → read.outcome ≡ Ok x → e ≡ Memory
fails_memory e read x f o =
    elim (is_memory e) [
      | inl m ↦ m
      | inr n ↦ let g = sym o ∙ f.0 n in cc
    ]

pub rest_fits : (old front new : List ℕ) → old ≡ front ++ new → length new ≤ length old
rest_fits old front new e = omega (arith, ap length e, length-append front new)

pub rest_is : (old front new : List ℕ) → old ≡ front ++ new → drop (length old - length new) old ≡ new
rest_is old front new e =
    let k : length front ≡ length old - length new = omega (arith, ap length e, length-append front new) in
    subst (λ (s : List ℕ). drop (length old - length new) s ≡ new) (sym e) (drop_at front new (length old - length new) k)

module _ {A : Type 0} {r : List ℕ → Reading A} {sp : A → List ℕ} {Admits : A → Type 0} (law : Lawful r sp Admits)
    (bytes old : List ℕ) (same : bytes ≡ old) where
  pub again_at : (v : A) (rest : List ℕ) → Admits v → old ≡ sp v ++ rest → (r bytes).outcome ≡ Ok (v, rest)
  again_at v rest a e = rw (same, e) (law.again v rest a)

  pub only_err : (e : CodecError) (v : A) (rest : List ℕ) → Fails e (r bytes) → Admits v → old ≡ sp v ++ rest → e ≡ Memory
  only_err e v rest f a s = fails_memory e (r bytes) (v, rest) f (again_at v rest a s)

  pub only_ok : (x : A) (new : List ℕ) (v : A) (rest : List ℕ) → (r bytes).outcome ≡ Ok (x, new) → Admits v → old ≡ sp v ++ rest → (x ≡ v) × (new ≡ rest)
  only_ok x new v rest o a s =
      let both = sym o ∙ again_at v rest a s in
      let pair : ◌≡◌ {A = A × List ℕ} (x, new) (v, rest) = cc in
      (ap (λ (p : A × List ℕ). p.0) pair, ap (λ (p : A × List ℕ). p.1) pair)

  pub found_at : (x : A) (new : List ℕ) → IsBytes old → (r bytes).outcome ≡ Ok (x, new) → Admits x × (old ≡ sp x ++ new)
  found_at x new fits o = law.takes old x new fits (rw same at o)

  pub left_fits : (x : A) (new : List ℕ) → IsBytes old → (r bytes).outcome ≡ Ok (x, new) → length new ≤ length old
  left_fits x new fits o = rest_fits old (sp x) new (found_at x new fits o).1

  pub left_is : (x : A) (new : List ℕ) → IsBytes old → (r bytes).outcome ≡ Ok (x, new) → drop (length old - length new) old ≡ new
  left_is x new fits o = rest_is old (sp x) new (found_at x new fits o).1

some_left : (n : ℕ) → 0 < n → eqb n 0 ≡ false
some_left n p = grind (arith, nat_tests)

-- What begins with two spellings was spelled from one value.
pub one_value : {A : Type 0} {r : List ℕ → Reading A} {sp : A → List ℕ} {Admits : A → Type 0} →
    Lawful r sp Admits → (v w : A) (x y : List ℕ) → Admits v → Admits w → sp v ++ x ≡ sp w ++ y → (v ≡ w) × (x ≡ y)
one_value {sp = sp} law v w x y a b e = only_ok law (sp v ++ x) (sp w ++ y) e v x w y (law.again v x a) b refl

-- TWO FIELDS, one behind the other

-- A fault of the first field is the fault.
pub fails_first : {A B : Type 0} (e : CodecError) (r : List ℕ → Reading A)
    (f : A → List ℕ → Reading B) (bytes : List ℕ) → Fails e (r bytes) → Fails e ((r >>= f) bytes)
fails_first e r f bytes h =
    (λ n. rw (h.0 n) refl, λ m. or_left (r bytes).grows (grows_then (r bytes).outcome f) (h.1 m))

-- Behind the first field comes what follows it.
pub fails_next : {A B : Type 0} (e : CodecError) (r : List ℕ → Reading A)
    (f : A → List ℕ → Reading B) (bytes : List ℕ) (x : A) (rest : List ℕ)
    → (r bytes).outcome ≡ Ok (x, rest) → Fails e (f x rest) → Fails e ((r >>= f) bytes)
fails_next e r f bytes x rest o h = (
  λ n. rw o (h.0 n),
  λ m. or_right (r bytes).grows (grows_then (r bytes).outcome f) (rw o (h.1 m)),
)

pub gives_next : {A B : Type 0} (result : Result B CodecError) (new : List ℕ)
    (r : List ℕ → Reading A) (f : A → List ℕ → Reading B) (bytes : List ℕ) (x : A) (rest : List ℕ)
    → (r bytes).outcome ≡ Ok (x, rest) → Gives result new (f x rest)
    → Gives result new ((r >>= f) bytes)
gives_next (Ok y) new r f bytes x rest o h = rw o h
gives_next (Err e) new r f bytes x rest o h = fails_next e r f bytes x rest o h
