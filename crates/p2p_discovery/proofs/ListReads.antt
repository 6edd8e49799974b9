-- Reading and writing values one after the other, as a loop does.
use Rattle.std.proofs.Common.{◌≡◌, ℕ, suc, ◌+◌, ◌*◌, ◌/◌, ◌≤◌, ◌<◌, true, List, [], ◌∷◌, ◌++◌, length, Result, Ok, Err}
use Rattle.std.proofs.Common.{refl, sym, ap, ◌∙◌, append_assoc, arith, min, ltb, leb, get_or, drop, add-one, drop-cons}
use Rattle.std.specs.List.{AllByRecursion}
use Rattle.p2p_discovery.specs.Lists.{spellings, elems, items_at, has_room}
use Rattle.std.proofs.Math.Nat.{le-div_iff_mul-le}
use Rattle.std.proofs.lemmas.Bool.{lt-ltb, le-leb, or_left, or_right}
use Rattle.std.proofs.lemmas.List.{append-nil, length-append, length-drop, nil_from_length}
use Rattle.p2p_discovery.specs.declared.codec.error.CodecError.{CodecError}
use Rattle.p2p_discovery.specs.declared.codec.error.CodecError.TheVariants.{Memory}
use Rattle.p2p_discovery.specs.Reading.{Reading, ◌>>=◌, reads, outcome_then, grows_then, Fails}

-- what was read before, and what is still read
abbrev pub with_front : {A : Type 0} → List A → Result (List A × List ℕ) CodecError → Result (List A × List ℕ) CodecError
with_front front (Ok x) = Ok (front ++ x.0, x.1)
with_front front (Err e) = Err e

pub record GoesTo {A : Type 0} (r : List ℕ → Reading A) (front : List A) (left : ℕ) (rest : List ℕ) (total : Reading (List A)) : Type 0 where
  pub outcome : with_front front (elems r left rest).outcome ≡ total.outcome
  pub grows : (elems r left rest).grows ≡ true → total.grows ≡ true

regroup : {A : Type 0} (front : List A) (x : A) (read : Result (List A × List ℕ) CodecError) →
    with_front front (outcome_then read (λ xs. reads (x ∷ xs))) ≡ with_front (front ++ x ∷ []) read
regroup front x (Ok y) = ap (λ xs. Ok (xs, y.1)) (sym (append_assoc front (x ∷ []) y.0))
regroup front x (Err e) = refl

pub goes_on : {A : Type 0} (r : List ℕ → Reading A) (front : List A) (left less : ℕ) (rest : List ℕ)
    (total : Reading (List A)) (x : A) (after : List ℕ) → left ≡ suc less → (r rest).outcome ≡ Ok (x, after)
    → GoesTo r front left rest total → GoesTo r (front ++ x ∷ []) less after total
unfolding elems
goes_on r front left less rest total x after k h so_far = record {
  outcome =
      let one : with_front front (elems r (suc less) rest).outcome
      ≡ with_front front (outcome_then (elems r less after).outcome (λ xs. reads (x ∷ xs))) =
      ap (λ o. with_front front (outcome_then o (λ x. elems r less >>= λ xs. reads (x ∷ xs)))) h in
      sym (regroup front x (elems r less after).outcome) ∙ sym one ∙ (rw k at so_far.outcome);
  grows = λ g.
      let now : (elems r (suc less) rest).grows ≡ true =
      or_right (r rest).grows (grows_then (r rest).outcome (λ x. elems r less >>= λ xs. reads (x ∷ xs)))
      (rw h (or_left (elems r less after).grows _ g)) in
      so_far.grows (rw k now);
}

pub ends : {A : Type 0} (e : CodecError) (r : List ℕ → Reading A) (front : List A) (left less : ℕ) (rest : List ℕ)
    (total : Reading (List A)) → left ≡ suc less → Fails e (r rest) → GoesTo r front left rest total → Fails e total
unfolding elems
ends e r front left less rest total k f so_far = (
  λ n.
      let one : with_front front (elems r (suc less) rest).outcome ≡ Err e =
      ap (λ o. with_front front (outcome_then o (λ x. elems r less >>= λ xs. reads (x ∷ xs)))) (f.0 n) in
      sym (rw k at so_far.outcome) ∙ one,
  λ m.
      let now : (elems r (suc less) rest).grows ≡ true = or_left (r rest).grows _ (f.1 m) in
      so_far.grows (rw k now),
)

pub is_done : {A : Type 0} (r : List ℕ → Reading A) (front : List A) (left : ℕ) (rest : List ℕ)
    (total : Reading (List A)) → left ≡ 0 → GoesTo r front left rest total → total.outcome ≡ Ok (front, rest)
unfolding elems
is_done r front left rest total k so_far =
    let one : with_front front (elems r 0 rest).outcome ≡ Ok (front, rest) = ap (λ xs. Ok (xs, rest)) (append-nil front) in
    sym (rw k at so_far.outcome) ∙ one

same_front : {A : Type 0} (read : Result (List A × List ℕ) CodecError) → with_front [] read ≡ read
same_front (Ok x) = refl
same_front (Err e) = refl

pub begins : {A : Type 0} (least : ℕ) (r : List ℕ → Reading A) (count left : ℕ) (bytes : List ℕ) → left ≡ count →
    GoesTo r [] left bytes (items_at least r count bytes)
unfolding items_at
begins least r count left bytes k =
    rw k (record {
      outcome = same_front (elems r count bytes).outcome;
      grows =
          λ g. or_right (has_room count least bytes) (elems r count bytes).grows g;
    })

-- ---- room

one_fits : (least total : ℕ) → 0 < least → 0 < total / least → least ≤ total
one_fits least total p h = let k : 1 * least ≤ total = (le-div_iff_mul-le p).0 h in omega arith

pub no_memory : {A : Type 0} (least : ℕ) (r : List ℕ → Reading A) (n : ℕ) (rest : List ℕ) → 0 < least →
    0 < min n (length rest / least) → Fails Memory (items_at least r n rest)
unfolding items_at
no_memory least r n rest p some =
    let fits = one_fits least (length rest) p (omega arith) in
    let t : ltb 0 n ≡ true = lt-ltb 0 n (omega arith) in
    let u : leb least (length rest) ≡ true = le-leb least (length rest) fits in
    (λ n. absurd (n refl), λ _. or_left (has_room n least rest) _ (rw (t, u) refl))

pub is_room : (least i n total room : ℕ) → 0 < least → i < n → least * (i + 1) ≤ total → room ≡ min n (total / least) → i < room
is_room least i n total room p lt h e =
    let k : i + 1 ≤ total / least = (le-div_iff_mul-le p).1 (omega arith) in
    omega arith

pub room_fits : (least n total room : ℕ) → 0 < least → room ≡ min n (total / least) → room * least ≤ total
room_fits least n total room p e =
    let k : room ≤ total / least = omega (arith, e) in
    (le-div_iff_mul-le p).0 k

pub used_more : (least i total : ℕ) (rest front new : List ℕ) → rest ≡ front ++ new → least ≤ length front →
    least * i + length rest ≤ total → least * (i + 1) + length new ≤ total
used_more least i total rest front new e le h = omega (arith, ap length e, length-append front new)

-- ---- spellings, one after the other

pub next_is : {A : Type 0} (sp : A → List ℕ) (xs : List A) (i : ℕ) (x : A) → i < length xs → x ≡ get_or xs i x →
    spellings sp (drop i xs) ≡ sp x ++ spellings sp (drop (i + 1) xs)
unfolding spellings
next_is sp xs i x lt e = rw (add-one, drop-cons xs i x lt, ← e) refl

pub none_left : {A : Type 0} (sp : A → List ℕ) (xs : List A) (i : ℕ) → length xs ≤ i → spellings sp (drop i xs) ≡ []
unfolding spellings
none_left sp xs i le = rw (nil_from_length (drop i xs) (omega (arith, length-drop i xs))) refl

-- ---- a fact of each value

pub each_next : {A : Type 0} (P : A → Type 0) (xs : List A) (i : ℕ) (x : A) → i < length xs → x ≡ get_or xs i x →
    P x → AllByRecursion P (drop (i + 1) xs) → AllByRecursion P (drop i xs)
each_next P xs i x lt e here later = rw (drop-cons xs i x lt, ← e) (here, rw add-one at later)
