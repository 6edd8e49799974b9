-- Retained sets with their bits: what a new bit leaves, and that their indices ascend.
use Rattle.std.proofs.Common.{◌≡◌, ℕ, zero, suc, ◌<◌, ◌+◌, Bool, true, false, cond, List, [], ◌∷◌, ◌++◌, map, take}
use Rattle.std.proofs.Common.{drop, length, get_or, Option, Some, None, sym, ap, refl, subst, ◌∙◌, arith}
use Rattle.std.specs.Prelude.{◌==◌, nat_lt, nat_eq, find, slice_get}
use Rattle.std.specs.declared.cmp.Ordering.{Ordering}
use Rattle.std.specs.declared.cmp.Ordering.TheVariants.{Less, Equal, Greater}
use Rattle.std.specs.Ordering.{nat_cmp}
use Rattle.std.specs.Cmp.{nat_cmp_total}
use Rattle.std.specs.Option.{option_map}
use Rattle.std.specs.List.{last_or, AllByRecursion}
use Rattle.std.specs.List.Sorted.{IsStrictlySortedBy}
use Rattle.std.specs.Map.{keys_of, values_of}
use Rattle.std.specs.BTreeMap.{is_at}
use Rattle.std.proofs.lemmas.List.{map-append}
use Rattle.std.proofs.lemmas.Option.{slice_get-map}
use Rattle.std.proofs.lemmas.Map.{NonePasses}
use Rattle.p2p_discovery.specs.BitSets.{with_bit, unset}
use Rattle.p2p_discovery.proofs.Truth.{suc-plus_one}
use Rattle.p2p_tracker.specs.PeerSets.{latest_index, is_above, set_with}
use Rattle.p2p_tracker.proofs.SetsAndRecords.Naming.{all_joined}
use Rattle.p2p_tracker.specs.Calls.{SetAt}
use Rattle.p2p_tracker.specs.Private.Window.{SetWithBits, plain_set, plain_sets, set_with_bits, sets_with_bits, bits_with, with_bit_of, IsAscending, set_at}

-- BITS BESIDE PEERS

-- no bit is set
pub unset_is : {P : Type 0} (peers : List P) → unset peers ≡ map (λ q. (q, false)) peers
unset_is [] = refl
unset_is (q ∷ peers) = ap (λ es. (q, false) ∷ es) (unset_is peers)

-- a new bit leaves the peers
pub keys_with_bit : {P : Type 0} (es : List (P × Bool)) (i : ℕ) (b : Bool) → keys_of (with_bit es i b) ≡ keys_of es
keys_with_bit (e ∷ es) (suc i) b = ap (λ ks. e.0 ∷ ks) (keys_with_bit es i b)
keys_with_bit _ _ b = refl

pub keys_with_bits : {P : Type 0} (known : P → Bool) (peers : List P) → keys_of (map (λ q. (q, known q)) peers) ≡ peers
keys_with_bits known [] = refl
keys_with_bits known (q ∷ peers) = ap (λ ks. q ∷ ks) (keys_with_bits known peers)

-- the bits of the first peers, and one more
pub bits_more : {P : Type 0} (known : P → Bool) (es : List (P × Bool)) (i : ℕ) (x : P) → i < length es → x ≡ get_or (keys_of es) i x →
    with_bit (map (λ q. (q, known q)) (take i (keys_of es)) ++ drop i es) i (known x) ≡ map (λ q. (q, known q)) (take (i + 1) (keys_of es)) ++ drop (i + 1) es
bits_more known es i x low is = go known es i x low is ∙ ap (λ k. map (λ q. (q, known q)) (take k (keys_of es)) ++ drop k es) (suc-plus_one i)
  where
    go : {P : Type 0} (known : P → Bool) (es : List (P × Bool)) (i : ℕ) (x : P) → i < length es → x ≡ get_or (keys_of es) i x →
        with_bit (map (λ q. (q, known q)) (take i (keys_of es)) ++ drop i es) i (known x)
        ≡ map (λ q. (q, known q)) (take (suc i) (keys_of es)) ++ drop (suc i) es
    go known [] i x low is = absurd (omega (arith, low))
    go known (e ∷ es) zero x low is = ap (λ y. (e.0, known y) ∷ es) is
    go known (e ∷ es) (suc i) x low is = ap (λ rest. (e.0, known e.0) ∷ rest) (go known es i x (omega (arith, low)) is)

pub plain_again : {C : Type 0} (known : C → Bool) (set : SetAt C) → plain_set (set_with_bits known set) ≡ set
plain_again known set = λ i. record { index = set.index; primary = keys_with_bits known set.primary i; secondary = set.secondary }

-- the bits of the first peers leave the peers
pub keys_of_front : {P : Type 0} (known : P → Bool) (es : List (P × Bool)) (i : ℕ) →
    keys_of (map (λ q. (q, known q)) (take i (keys_of es)) ++ drop i es) ≡ keys_of es
keys_of_front known [] zero = refl
keys_of_front known [] (suc i) = refl
keys_of_front known (e ∷ es) zero = refl
keys_of_front known (e ∷ es) (suc i) = ap (λ ks. e.0 ∷ ks) (keys_of_front known es i)

module _ {C : Type 0} (cmp : C → C → Ordering) where
  pub keys_bits_with : (p : C) (b : Bool) (es : List (C × Bool)) → keys_of (bits_with cmp p b es) ≡ keys_of es
  keys_bits_with p b [] = refl
  keys_bits_with p b (e ∷ es) = ap (λ ks. e.0 ∷ ks) (keys_bits_with p b es)

  -- where p is none of the peers, no bit changes
  pub bits_without : (p : C) (b : Bool) (es : List (C × Bool)) → NonePasses (is_at (cmp p)) es → bits_with cmp p b es ≡ es
  bits_without p b [] none = refl
  bits_without p b (e ∷ es) none = λ i. (e.0, cond (none.0 i) b e.1) ∷ bits_without p b es none.1 i

  -- a new bit leaves the sets
  pub plain_with_bit : (p : C) (b : Bool) (sets : List (SetWithBits C)) → plain_sets (map (with_bit_of cmp p b) sets) ≡ plain_sets sets
  plain_with_bit p b [] = refl
  plain_with_bit p b (x ∷ sets) = λ i. record { index = x.index; primary = keys_bits_with p b x.primary i; secondary = x.secondary } ∷ plain_with_bit p b sets i

-- INDICES

-- no set ascends
pub none_ascends : (C : Type 0) → IsAscending {C = C} []
unfolding IsStrictlySortedBy
none_ascends C = tt

-- each number is below one that is above the last of ascending ones
all_below : (n x : ℕ) (ns : List ℕ) → IsStrictlySortedBy nat_cmp (x ∷ ns) →
    is_above n (last_or (Some x) ns) ≡ true → AllByRecursion (λ y. nat_cmp y n ≡ Less) (x ∷ ns)
unfolding IsStrictlySortedBy
all_below n x [] up above = (less x n above, tt)
  where
    less : (x n : ℕ) → nat_lt x n ≡ true → nat_cmp x n ≡ Less
    less x n e = ap (λ b. cond b Less (cond (nat_eq x n) Equal Greater)) e
all_below n x (y ∷ ns) up above =
    let rest = all_below n y ns up.1 above in
    (nat_cmp_total.trans x y n up.0.0 rest.0, rest)

pushed : (n : ℕ) (ns : List ℕ) → IsStrictlySortedBy nat_cmp ns → AllByRecursion (λ y. nat_cmp y n ≡ Less) ns → IsStrictlySortedBy nat_cmp (ns ++ n ∷ [])
unfolding IsStrictlySortedBy
pushed n [] up below = (tt, tt)
pushed n (x ∷ ns) up below = (all_joined (λ y. nat_cmp x y ≡ Less) ns (n ∷ []) up.0 (below.0, tt), pushed n ns up.1 below.1)

module _ {C : Type 0} where
  -- the index of the latest set
  last_index : (o : Option (SetWithBits C)) (sets : List (SetWithBits C)) →
      option_map (λ set. set.index) (last_or (option_map plain_set o) (plain_sets sets)) ≡ option_map (λ set. set.index) (last_or o sets)
  last_index None [] = refl
  last_index (Some x) [] = refl
  last_index o (x ∷ sets) = last_index (Some x) sets

  pub latest_plain : (sets : List (SetWithBits C)) → latest_index (plain_sets sets) ≡ option_map (λ set. set.index) (last_or None sets)
  latest_plain sets = last_index None sets

  -- a set whose index is above the latest ascends
  pub ascending_push : (sets : List (SetWithBits C)) (set : SetWithBits C) → IsAscending sets →
      is_above set.index (latest_index (plain_sets sets)) ≡ true → IsAscending (sets ++ set ∷ [])
  ascending_push [] set up above = pushed set.index [] up tt
  ascending_push (x ∷ sets) set up above =
      subst (IsStrictlySortedBy nat_cmp) (sym (map-append (λ (y : SetWithBits C). y.index) (x ∷ sets) (set ∷ [])))
      (pushed set.index (map (λ y. y.index) (x ∷ sets)) up
      (all_below set.index x.index (map (λ y. y.index) sets) up
      (ap (is_above set.index) (indices (Some x) sets) ∙ above)))
    where
      indices : (o : Option (SetWithBits C)) (sets : List (SetWithBits C)) →
          last_or (option_map (λ y. y.index) o) (map (λ y. y.index) sets) ≡ option_map (λ y. y.index) (last_or (option_map plain_set o) (plain_sets sets))
      indices None [] = refl
      indices (Some x) [] = refl
      indices o (x ∷ sets) = indices (Some x) sets

  -- new bits leave the indices
  pub ascending_with_bit : (cmp : C → C → Ordering) (p : C) (b : Bool) (old new : List (SetWithBits C)) →
      new ≡ map (with_bit_of cmp p b) old → IsAscending old → IsAscending new
  ascending_with_bit cmp p b old new e up = subst IsAscending (sym e) (subst (IsStrictlySortedBy nat_cmp) (sym (go old)) up)
    where
      go : (sets : List (SetWithBits C)) → map (λ y. y.index) (map (with_bit_of cmp p b) sets) ≡ map (λ y. y.index) sets
      go [] = refl
      go (x ∷ sets) = ap (λ ns. x.index ∷ ns) (go sets)

-- ONE AFTER THE OTHER

-- what is found is the first that passes a test
pub found_at : {A : Type 0} (test : A → Bool) (xs : List A) (i : ℕ) (x : A) → find test (take i xs) ≡ None →
    i < length xs → x ≡ get_or xs i x → test x ≡ true → find test xs ≡ Some x
found_at test [] i x none low is passes = absurd (omega (arith, low))
found_at test (y ∷ ys) zero x none low is passes = (λ i. cond (test (sym is i)) (Some y) (find test ys))
    ∙ (λ i. cond (passes i) (Some (sym is i)) (find test ys))
found_at test (y ∷ ys) (suc i) x none low is passes = go (test y) none (λ n. found_at test ys i x n (omega (arith, low)) is passes)
  where
    go : (b : Bool) → cond b (Some y) (find test (take i ys)) ≡ None →
        (find test (take i ys) ≡ None → find test ys ≡ Some x) → cond b (Some y) (find test ys) ≡ Some x
    go true e h = absurd cc
    go false e h = h e

-- .. and none so far, where one more doesn't pass it
pub not_found_more : {A : Type 0} (test : A → Bool) (xs : List A) (i : ℕ) (x : A) → find test (take i xs) ≡ None →
    i < length xs → x ≡ get_or xs i x → test x ≡ false → find test (take (i + 1) xs) ≡ None
not_found_more test xs i x none low is fails = ap (λ k. find test (take k xs)) (sym (suc-plus_one i)) ∙ go test xs i x none low is fails
  where
    one_more : {A : Type 0} (b : Bool) (y : A) (before after : Option A) → cond b (Some y) before ≡ None →
        (before ≡ None → after ≡ None) → cond b (Some y) after ≡ None
    one_more true y before after e h = e
    one_more false y before after e h = h e

    go : {A : Type 0} (test : A → Bool) (xs : List A) (i : ℕ) (x : A) → find test (take i xs) ≡ None →
        i < length xs → x ≡ get_or xs i x → test x ≡ false → find test (take (suc i) xs) ≡ None
    go test [] i x none low is fails = absurd (omega (arith, low))
    go test (y ∷ ys) zero x none low is fails = λ i. cond ((ap test (sym is) ∙ fails) i) (Some y) None
    go test (y ∷ ys) (suc i) x none low is fails =
        one_more (test y) y (find test (take i ys)) (find test (take (suc i) ys)) none
        (λ n. go test ys i x n (omega (arith, low)) is fails)

-- SHOWN BITS

module _ {C : Type 0} where
  bits_of_known : (known : C → Bool) (peers : List C) → values_of (map (λ q. (q, known q)) peers) ≡ map known peers
  bits_of_known known [] = refl
  bits_of_known known (q ∷ peers) = ap (λ bits. known q ∷ bits) (bits_of_known known peers)

  -- the stored bits of the set at a place are those that peers have
  pub bits_shown : (known : C → Bool) (window : List (SetWithBits C)) (place : ℕ) (x : SetWithBits C) →
      window ≡ sets_with_bits known (plain_sets window) → slice_get window place ≡ Some x →
      (set : SetAt C) × (slice_get (plain_sets window) place ≡ Some set) × (x.index ≡ set.index) × (values_of x.primary ≡ map known set.primary)
  bits_shown known window place x is found =
      go (slice_get (plain_sets window) place) refl
      (sym (slice_get-map (set_with_bits known) (plain_sets window) place) ∙ ap (λ w. slice_get w place) (sym is)
      ∙ found)
    where
      go : (o : Option (SetAt C)) → slice_get (plain_sets window) place ≡ o → option_map (set_with_bits known) o ≡ Some x →
          (set : SetAt C) × (slice_get (plain_sets window) place ≡ Some set) × (x.index ≡ set.index) × (values_of x.primary ≡ map known set.primary)
      go None e f = absurd cc
      go (Some set) e f =
          let same : set_with_bits known set ≡ x = cc in
          (set, e, ap (λ (y : SetWithBits C). y.index) (sym same), ap (λ (y : SetWithBits C). values_of y.primary) (sym same) ∙ bits_of_known known set.primary)

  -- and there is none where there is no such place
  pub none_shown : (window : List (SetWithBits C)) (place : ℕ) → slice_get window place ≡ None → slice_get (plain_sets window) place ≡ None
  none_shown window place e = slice_get-map plain_set window place ∙ ap (option_map plain_set) e

  -- SETS WITHOUT THEIR BITS

  -- the set with an index
  pub set_with_plain : (window : List (SetWithBits C)) (index : ℕ) → set_with index (plain_sets window) ≡ option_map plain_set (set_at window index)
  set_with_plain [] index = refl
  set_with_plain (x ∷ window) index = go (x.index == index) (set_with_plain window index)
    where
      go : (b : Bool) → set_with index (plain_sets window) ≡ option_map plain_set (set_at window index) →
          cond b (Some (plain_set x)) (set_with index (plain_sets window)) ≡ option_map plain_set (cond b (Some x) (set_at window index))
      go true rest = refl
      go false rest = rest

  -- the last set
  pub last_plain : (window : List (SetWithBits C)) → last_or None (plain_sets window) ≡ option_map plain_set (last_or None window)
  last_plain window = go None window
    where
      go : (o : Option (SetWithBits C)) (window : List (SetWithBits C)) →
          last_or (option_map plain_set o) (plain_sets window) ≡ option_map plain_set (last_or o window)
      go o [] = refl
      go o (x ∷ window) = go (Some x) window
