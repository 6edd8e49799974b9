-- What is shared of peers with their bits, by a walk along them and the records.
use Rattle.std.proofs.Common.{◌≡◌, Bool, true, false, ◌||◌, cond, ℕ, zero, suc, ◌+◌, ◌≤◌, ◌<◌, List, []}
use Rattle.std.proofs.Common.{◌∷◌, ◌++◌, length, drop, Option, Some, None, refl, sym, ◌∙◌, ap}
use Rattle.std.proofs.Common.{subst, arith, zip, filter_map, get_or, slice_get}
use Rattle.std.specs.Prelude.{option_to_list, if◌then◌else◌, nat_le}
use Rattle.std.specs.BTreeMap.{is_at}
use Rattle.std.specs.Cmp.{IsTotalOrder}
use Rattle.std.specs.List.{AllByRecursion, cons_option}
use Rattle.std.specs.List.Sorted.{IsStrictlySortedBy}
use Rattle.std.specs.Map.{keys_of}
use Rattle.std.specs.Option.{option_and_then}
use Rattle.std.specs.Ordering.{is_eq, is_lt, ordering_reverse}
use Rattle.std.specs.declared.cmp.Ordering.{Ordering}
use Rattle.std.specs.declared.cmp.Ordering.TheVariants.{Less, Equal, Greater}
use Rattle.std.proofs.lemmas.Map.{lookup-none}
use Rattle.std.proofs.lemmas.Map.Entries.{none_below_head, lookup_head, lookup_tail}
use Rattle.std.proofs.lemmas.Map.Keys.{sorted_head, sorted_tail}
use Rattle.std.proofs.lemmas.Bool.{or_parts}
use Rattle.p2p_discovery.specs.declared.discovery.Info.{Info}
use Rattle.p2p_discovery.proofs.Truth.{Equal-from_is_eq, suc-plus_one}
use Rattle.p2p_tracker.specs.Seen.{RecordView}
use Rattle.p2p_tracker.specs.Directory.{shared_at, sharable_of_record}
use Rattle.p2p_tracker.specs.Private.Asked.{shared_of_record, asked_from}
use Rattle.p2p_tracker.proofs.SetsAndRecords.Shared.{chosen_from, chosen_behind}
use Rattle.p2p_tracker.proofs.SetsAndRecords.Walked.{behind_equal, behind_greater}

-- THE PEERS THAT ARE LEFT

all_zip : {A B : Type 0} (P : A → Type 0) (ps : List A) (bs : List B) → AllByRecursion P ps → AllByRecursion P (keys_of (zip ps bs))
all_zip P (p ∷ ps) (b ∷ bs) all = (all.0, all_zip P ps bs all.1)
all_zip P _ _ all = tt

-- with their bits they are in order
pub sorted_zip : {A B : Type 0} (cmp : A → A → Ordering) (ps : List A) (bs : List B) → IsStrictlySortedBy cmp ps → IsStrictlySortedBy cmp (keys_of (zip ps bs))
unfolding IsStrictlySortedBy
sorted_zip cmp (p ∷ ps) (b ∷ bs) up = (all_zip (λ y. cmp p y ≡ Less) ps bs up.0, sorted_zip cmp ps bs up.1)
sorted_zip cmp _ _ up = tt

sorted_drop : {A B : Type 0} (cmp : A → A → Ordering) (n : ℕ) (es : List (A × B)) → IsStrictlySortedBy cmp (keys_of es) → IsStrictlySortedBy cmp (keys_of (drop n es))
sorted_drop cmp (suc n) (e ∷ es) up = sorted_drop cmp n es (sorted_tail cmp e.0 (keys_of es) up)
sorted_drop cmp _ _ up = up

-- the one at a place, with its bit, and those behind it
head_at : {A B : Type 0} (ps : List A) (bs : List B) (j : ℕ) (q : A) → j < length ps → length bs ≡ length ps → q ≡ get_or ps j q →
    (b : B) × (drop j (zip ps bs) ≡ (q, b) ∷ drop (suc j) (zip ps bs))
head_at [] bs j q within same is = absurd (omega (arith, within))
head_at (p ∷ ps) [] j q within same is = absurd (omega (arith, same))
head_at (p ∷ ps) (b ∷ bs) zero q within same is = (b, λ i. (sym is i, b) ∷ zip ps bs)
head_at (p ∷ ps) (b ∷ bs) (suc j) q within same is = head_at ps bs j q (omega (arith, within)) (omega (arith, same)) is

-- .. where the bit is known
bit_at : {A B : Type 0} (ps : List A) (bs : List B) (j : ℕ) (b : B) → j < length ps → slice_get bs j ≡ Some b →
    (q : A) × (drop j (zip ps bs) ≡ (q, b) ∷ drop (suc j) (zip ps bs))
bit_at [] bs j b within is = absurd (omega (arith, within))
bit_at (p ∷ ps) [] j b within is = absurd cc
bit_at (p ∷ ps) (x ∷ bs) zero b within is = let same : x ≡ b = cc in (p, λ i. (p, same i) ∷ zip ps bs)
bit_at (p ∷ ps) (x ∷ bs) (suc j) b within is = bit_at ps bs j b (omega (arith, within)) is

both_at : {A B : Type 0} (ps : List A) (bs : List B) (j : ℕ) (q : A) (b : B) → j < length ps → q ≡ get_or ps j q → slice_get bs j ≡ Some b →
    drop j (zip ps bs) ≡ (q, b) ∷ drop (suc j) (zip ps bs)
both_at [] bs j q b within at is = absurd (omega (arith, within))
both_at (p ∷ ps) [] j q b within at is = absurd cc
both_at (p ∷ ps) (x ∷ bs) zero q b within at is = let same : x ≡ b = cc in λ i. (sym at i, same i) ∷ zip ps bs
both_at (p ∷ ps) (x ∷ bs) (suc j) q b within at is = both_at ps bs j q b (omega (arith, within)) at is

-- behind the last there is none
pub zip_behind : {A B : Type 0} (ps : List A) (bs : List B) (j : ℕ) → length ps ≤ j → drop j (zip ps bs) ≡ []
zip_behind [] bs zero past = refl
zip_behind [] bs (suc j) past = refl
zip_behind (q ∷ ps) bs zero past = absurd (omega (arith, past))
zip_behind (q ∷ ps) [] (suc j) past = refl
zip_behind (q ∷ ps) (c ∷ bs) (suc j) past = zip_behind ps bs j (omega (arith, past))

module _ {C : Type 0} (cmp : C → C → Ordering) (key : C) where
  -- the first of those from the key on has bit 0, and isn't below the key
  asked_head : (ps : List (C × Bool)) (p : C × Bool) (rest : List (C × Bool)) → asked_from cmp key ps ≡ p ∷ rest →
      (p.1 || is_lt (cmp p.0 key)) ≡ false
  asked_head [] p rest is = absurd cc
  asked_head (q ∷ ps) p rest is = go (q.1 || is_lt (cmp q.0 key)) refl is (asked_head ps p rest)
    where
      go : (b : Bool) → (q.1 || is_lt (cmp q.0 key)) ≡ b → cond b (asked_from cmp key ps) (q ∷ ps) ≡ p ∷ rest →
          (asked_from cmp key ps ≡ p ∷ rest → (p.1 || is_lt (cmp p.0 key)) ≡ false) → (p.1 || is_lt (cmp p.0 key)) ≡ false
      go true passed is later = later is
      go false kept is later = let one : q ≡ p = cc in subst (λ (x : C × Bool). (x.1 || is_lt (cmp x.0 key)) ≡ false) one kept

  module _ (ps : List C) (bs : List Bool) (j : ℕ) (b : Bool) (within : j < length ps) (bit : slice_get bs j ≡ Some b) where
    passed : (q : C) → drop j (zip ps bs) ≡ (q, b) ∷ drop (suc j) (zip ps bs) → (b || is_lt (cmp q key)) ≡ true →
        asked_from cmp key (drop (j + 1) (zip ps bs)) ≡ asked_from cmp key (drop j (zip ps bs))
    passed q is passes =
        ap (λ n. asked_from cmp key (drop n (zip ps bs))) (sym (suc-plus_one j))
        ∙ ap (λ t. cond t (asked_from cmp key (drop (suc j) (zip ps bs))) ((q, b) ∷ drop (suc j) (zip ps bs))) (sym passes)
        ∙ ap (asked_from cmp key) (sym is)

    -- a place with bit 1 is passed over
    pub asked_known : b ≡ true → asked_from cmp key (drop (j + 1) (zip ps bs)) ≡ asked_from cmp key (drop j (zip ps bs))
    asked_known known =
        let one = bit_at ps bs j b within bit in
        passed one.0 one.1 (ap (λ b. b || is_lt (cmp one.0 key)) known)

    module _ (q : C) (at : q ≡ get_or ps j q) (unset : b ≡ false) where
      -- .. and so is one below the key
      pub asked_below : is_lt (cmp q key) ≡ true → asked_from cmp key (drop (j + 1) (zip ps bs)) ≡ asked_from cmp key (drop j (zip ps bs))
      asked_below below = passed q (both_at ps bs j q b within at bit) (ap (λ b. b || is_lt (cmp q key)) unset ∙ below)

      -- .. else it is the first of those from the key on
      pub asked_here : is_lt (cmp q key) ≡ false → drop j (zip ps bs) ≡ asked_from cmp key (drop j (zip ps bs))
      asked_here other =
          let is = both_at ps bs j q b within at bit in
          is ∙ ap (λ t. cond t (asked_from cmp key (drop (suc j) (zip ps bs))) ((q, b) ∷ drop (suc j) (zip ps bs)))
          (sym (ap (λ b. b || is_lt (cmp q key)) unset ∙ other))
          ∙ ap (asked_from cmp key) (sym is)

-- THE RECORDS THAT ARE LEFT

is_less : (o : Ordering) → is_lt o ≡ true → o ≡ Less
is_less Less e = refl
is_less _ e = absurd cc

is_greater : (o : Ordering) → is_lt o ≡ false → is_eq o ≡ false → o ≡ Greater
is_greater Greater e f = refl
is_greater _ e f = absurd cc

module _ {C S : Type 0} {cmp : C → C → Ordering} (total : IsTotalOrder cmp) (millis : ℕ) where
  -- what is shared of what was found at a peer whose bit is 0
  abbrev by_found : Option (RecordView C S) → Option (Info C S)
  by_found o = elim (option_and_then sharable_of_record o) [
    | None ↦ None
    | Some i ↦ if nat_le i.timestamp millis then Some i else None
  ]

  abbrev told : List (C × RecordView C S) → List (C × Bool) → List (Info C S)
  told es ps = filter_map (shared_at cmp es millis) ps

  module _ (e : C × RecordView C S) (es : List (C × RecordView C S)) where
    -- nothing is shared of a peer below the records
    none_below : IsStrictlySortedBy cmp (keys_of (e ∷ es)) → (p : C × Bool) → (p.1 || is_lt (cmp p.0 e.0)) ≡ true → shared_at cmp (e ∷ es) millis p ≡ None
    none_below up (q, true) passed = refl
    none_below up (q, false) passed =
        ap by_found (lookup-none (is_at (cmp q)) (e ∷ es) (none_below_head total q e es up (is_less (cmp q e.0) passed)))

    skipped : IsStrictlySortedBy cmp (keys_of (e ∷ es)) → (ps : List (C × Bool)) → told (e ∷ es) (asked_from cmp e.0 ps) ≡ told (e ∷ es) ps
    skipped up [] = refl
    skipped up (p ∷ ps) = go (p.1 || is_lt (cmp p.0 e.0)) refl (skipped up ps)
      where
        go : (b : Bool) → (p.1 || is_lt (cmp p.0 e.0)) ≡ b → told (e ∷ es) (asked_from cmp e.0 ps) ≡ told (e ∷ es) ps →
            told (e ∷ es) (cond b (asked_from cmp e.0 ps) (p ∷ ps)) ≡ told (e ∷ es) (p ∷ ps)
        go true passed later = later ∙ ap (λ o. cons_option o (told (e ∷ es) ps)) (sym (none_below up p passed))
        go false kept later = refl

    apart : (q : C) → cmp e.0 q ≡ Less → is_at (cmp q) e.0 ≡ false
    apart q less = ap is_eq (total.antisymm q e.0 ∙ ap ordering_reverse less)

    -- of peers behind the first record the others tell
    past : (ps : List (C × Bool)) → AllByRecursion (λ q. cmp e.0 q ≡ Less) (keys_of ps) → told (e ∷ es) ps ≡ told es ps
    past [] all = refl
    past (p ∷ ps) all = λ i. cons_option (here p all.0 i) (past ps all.1 i)
      where
        here : (p : C × Bool) → cmp e.0 p.0 ≡ Less → shared_at cmp (e ∷ es) millis p ≡ shared_at cmp es millis p
        here (q, true) less = refl
        here (q, false) less = ap by_found (lookup_tail (is_at (cmp q)) e es (apart q less))

    -- where the first peer is that of the first record
    met : (q : C) (b : Bool) (rest : List (C × Bool)) → IsStrictlySortedBy cmp (keys_of ((q, b) ∷ rest)) → b ≡ false → cmp q e.0 ≡ Equal →
        told (e ∷ es) ((q, b) ∷ rest) ≡ option_to_list (shared_of_record millis e.1) ++ told es rest
    met q b rest up unset equal =
        ap (λ b. told (e ∷ es) ((q, b) ∷ rest)) unset
        ∙ (λ i. cons_option (by_found (lookup_head (is_at (cmp q)) e es (ap is_eq equal) i))
        (past rest (behind_equal total e.0 q equal (keys_of rest) (sorted_head cmp q (keys_of rest) up)) i))
        ∙ joined (shared_of_record millis e.1) (told es rest)
      where
        joined : (o : Option (Info C S)) (xs : List (Info C S)) → cons_option o xs ≡ option_to_list o ++ xs
        joined None xs = refl
        joined (Some x) xs = refl

    -- .. and where it is behind it
    missed : (q : C) (b : Bool) (rest : List (C × Bool)) → IsStrictlySortedBy cmp (keys_of ((q, b) ∷ rest)) → cmp q e.0 ≡ Greater →
        told (e ∷ es) ((q, b) ∷ rest) ≡ told es ((q, b) ∷ rest)
    missed q b rest up greater =
        let less : cmp e.0 q ≡ Less = total.antisymm e.0 q ∙ ap ordering_reverse greater in
        past ((q, b) ∷ rest) (less, behind_greater total e.0 q less (keys_of rest) (sorted_head cmp q (keys_of rest) up))

  -- with no records nothing is shared
  pub none_left : (ps : List (C × Bool)) → told [] ps ≡ []
  none_left [] = refl
  none_left ((q, true) ∷ ps) = none_left ps
  none_left ((q, false) ∷ ps) = none_left ps

  -- THE WALK: the next record, and the first place from which its peer may be asked for
  module _ (ps : List C) (bs : List Bool) (left left2 : List (C × RecordView C S)) (e : C × RecordView C S) (is : left ≡ e ∷ left2)
      (ordered : IsStrictlySortedBy cmp (keys_of left)) (i j : ℕ) (first : drop j (zip ps bs) ≡ asked_from cmp e.0 (drop i (zip ps bs))) where
    abbrev from_place : List (C × RecordView C S) → ℕ → List (Info C S)
    from_place es n = chosen_from (shared_at cmp es millis) n ps bs

    moved : from_place left i ≡ from_place (e ∷ left2) j
    moved =
        ap (λ es. from_place es i) is
        ∙ sym (skipped e left2 (subst (λ es. IsStrictlySortedBy cmp (keys_of es)) is ordered) (drop i (zip ps bs)))
        ∙ ap (told (e ∷ left2)) (sym first)

    pub ordered_left : IsStrictlySortedBy cmp (keys_of left2)
    ordered_left = sorted_tail cmp e.0 (keys_of left2) (subst (λ es. IsStrictlySortedBy cmp (keys_of es)) is ordered)

    -- where no such place is left
    pub walked_past : length ps ≤ j → from_place left i ≡ []
    walked_past past = moved ∙ chosen_behind (shared_at cmp (e ∷ left2) millis) ps bs j past

    module _ (up : IsStrictlySortedBy cmp ps) (same : length bs ≡ length ps) (q : C) (within : j < length ps) (at : q ≡ get_or ps j q) where
      one : (b : Bool) × (drop j (zip ps bs) ≡ (q, b) ∷ drop (suc j) (zip ps bs))
      one = head_at ps bs j q within same at

      kept : (one.0 ≡ false) × (is_lt (cmp q e.0) ≡ false)
      kept = or_parts one.0 (is_lt (cmp q e.0)) (asked_head cmp e.0 (drop i (zip ps bs)) (q, one.0) (drop (suc j) (zip ps bs)) (sym first ∙ one.1))

      in_order : IsStrictlySortedBy cmp (keys_of ((q, one.0) ∷ drop (suc j) (zip ps bs)))
      in_order = subst (λ es. IsStrictlySortedBy cmp (keys_of es)) one.1 (sorted_drop cmp j (zip ps bs) (sorted_zip cmp ps bs up))

      -- where the record is that of the peer there
      pub walked_met : is_eq (cmp q e.0) ≡ true → from_place left i ≡ option_to_list (shared_of_record millis e.1) ++ from_place left2 (j + 1)
      walked_met equal =
          moved ∙ ap (told (e ∷ left2)) one.1
          ∙ met e left2 q one.0 (drop (suc j) (zip ps bs)) in_order kept.0 (Equal-from_is_eq (cmp q e.0) equal)
          ∙ ap (λ n. option_to_list (shared_of_record millis e.1) ++ from_place left2 n) (suc-plus_one j)

      -- .. and where it isn't
      pub walked_missed : is_eq (cmp q e.0) ≡ false → from_place left i ≡ from_place left2 j
      walked_missed other =
          moved ∙ ap (told (e ∷ left2)) one.1
          ∙ missed e left2 q one.0 (drop (suc j) (zip ps bs)) in_order (is_greater (cmp q e.0) kept.1 other)
          ∙ ap (told left2) (sym one.1)
