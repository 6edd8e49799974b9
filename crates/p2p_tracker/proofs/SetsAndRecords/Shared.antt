-- What is told of a set: the set with an index, and what is chosen of two lists side by side.
use Rattle.std.proofs.Common.{◌≡◌, ◌==◌, Bool, true, false, cond, ℕ, zero, suc, ◌+◌, ◌≤◌, List, []}
use Rattle.std.proofs.Common.{◌∷◌, ◌++◌, length, drop, Option, Some, None, refl, sym, ◌∙◌, ap}
use Rattle.std.proofs.Common.{subst, arith, zip, map, filter_map, slice_get}
use Rattle.std.specs.Prelude.{option_to_list, if◌then◌else◌}
use Rattle.std.specs.Option.{option_map}
use Rattle.std.specs.List.{cons_option}
use Rattle.std.specs.Map.{keys_of, values_of}
use Rattle.std.specs.declared.cmp.Ordering.{Ordering}
use Rattle.p2p_discovery.specs.declared.discovery.Info.{Info}
use Rattle.p2p_discovery.proofs.Truth.{suc-plus_one}
use Rattle.p2p_tracker.specs.Calls.{SetAt}
use Rattle.p2p_tracker.specs.Moments.{epoch_millis}
use Rattle.p2p_tracker.specs.PeerSets.{set_with}
use Rattle.p2p_tracker.specs.Seen.{RecordView, DirectoryView, record_at}
use Rattle.p2p_tracker.specs.Directory.{shared_at, shared_of, shared_for, infos_in, is_known, known_bits, bit_vec_at}
use Rattle.p2p_tracker.specs.Private.Window.{SetWithBits, plain_set, plain_sets, set_at, sets_with_bits}
use Rattle.p2p_tracker.proofs.SetsAndRecords.Windows.{bits_shown, none_shown}

-- the set with an index, without its bits
plain_found : {C : Type 0} (window : List (SetWithBits C)) (index : ℕ) → set_with index (plain_sets window) ≡ option_map plain_set (set_at window index)
plain_found [] index = refl
plain_found (x ∷ window) index = go (x.index == index) (plain_found window index)
  where
    go : (b : Bool) → set_with index (plain_sets window) ≡ option_map plain_set (set_at window index) →
        cond b (Some (plain_set x)) (set_with index (plain_sets window)) ≡ option_map plain_set (cond b (Some x) (set_at window index))
    go true later = refl
    go false later = later

module _ {C S : Type 0} (cmp : C → C → Ordering) where
  -- what is answered of the set that is found, if one is
  abbrev answered_of : List (C × RecordView C S) → List Bool → ℕ → Option (SetAt C) → Option (List (Info C S))
  answered_of records bits now o = elim o [
    | None ↦ Some []
    | Some set ↦ shared_for cmp records (epoch_millis now) set.primary bits
  ]

  infos_found : (d : DirectoryView C S) (window : List (SetWithBits C)) (index : ℕ) (bits : List Bool)
      (now : ℕ) (x : SetWithBits C) → d.sets ≡ plain_sets window → set_at window index ≡ Some x →
      infos_in cmp d index bits now ≡ shared_for cmp d.records (epoch_millis now) (keys_of x.primary) bits
  infos_found d window index bits now x sets is =
      ap (answered_of d.records bits now) (ap (set_with index) sets ∙ plain_found window index ∙ ap (option_map plain_set) is)

  -- what is told of the peers of the set that was found
  pub infos_told : (d : DirectoryView C S) (window : List (SetWithBits C)) (records : List (C × RecordView C S))
      (index : ℕ) (bits : List Bool) (now : ℕ) (x : SetWithBits C) (millis : ℕ) (ps : List C) →
      d.sets ≡ plain_sets window → d.records ≡ records → set_at window index ≡ Some x →
      millis ≡ epoch_millis now → ps ≡ keys_of x.primary →
      shared_for cmp records millis ps bits ≡ infos_in cmp d index bits now
  infos_told d window records index bits now x millis ps sets recorded is at peers =
      (λ i. shared_for cmp (sym recorded i) (at i) (peers i) bits)
      ∙ sym (infos_found d window index bits now x sets is)

  -- what is told of the bits of the set at a place
  pub bit_vec_told : (d : DirectoryView C S) (window : List (SetWithBits C)) (records : List (C × RecordView C S))
      (limit place : ℕ) (x : SetWithBits C) → d.sets ≡ plain_sets window → d.records ≡ records →
      d.config.dial_fail_limit ≡ limit →
      window ≡ sets_with_bits (λ q. is_known limit (record_at cmp records q)) (plain_sets window) →
      slice_get window place ≡ Some x →
      Some (record { index = x.index; bits = values_of x.primary }) ≡ bit_vec_at cmp d place
  bit_vec_told d window records limit place x sets recorded limited bits is =
      let known = λ (q : C). is_known limit (record_at cmp records q) in
      let found = bits_shown known window place x bits is in
      sym (ap (option_map (λ (set : SetAt C). record { index = set.index; bits = known_bits cmp d set }))
      (ap (λ sets. slice_get sets place) sets ∙ found.1)
      ∙ (λ i. Some (record {
        index = sym found.2 i;
        bits = ((λ k. map (λ q. is_known (limited k) (record_at cmp (recorded k) q)) found.0.primary)
            ∙ sym found.3) i;
      })))

  pub no_bit_vec_told : (d : DirectoryView C S) (window : List (SetWithBits C)) (place : ℕ) →
      d.sets ≡ plain_sets window → slice_get window place ≡ None → None ≡ bit_vec_at cmp d place
  no_bit_vec_told d window place sets is =
      sym (ap (option_map (λ (set : SetAt C). record { index = set.index; bits = known_bits cmp d set }))
      (ap (λ sets. slice_get sets place) sets ∙ none_shown window place is))

  pub infos_not_found : (d : DirectoryView C S) (window : List (SetWithBits C)) (index : ℕ) (bits : List Bool)
      (now : ℕ) → d.sets ≡ plain_sets window → set_at window index ≡ None → infos_in cmp d index bits now ≡ Some []
  infos_not_found d window index bits now sets is =
      ap (answered_of d.records bits now) (ap (set_with index) sets ∙ plain_found window index ∙ ap (option_map plain_set) is)

-- the pair at a place, and those behind it
pub pair_at : {A B : Type 0} (ps : List A) (bs : List B) (i : ℕ) (p : A) (b : B) → slice_get ps i ≡ Some p →
    slice_get bs i ≡ Some b → drop i (zip ps bs) ≡ (p, b) ∷ drop (suc i) (zip ps bs)
pair_at (q ∷ ps) (c ∷ bs) zero p b e f = λ k. (some_is q p e k, some_is c b f k) ∷ zip ps bs
  where
    some_is : {X : Type 0} (x y : X) → Some x ≡ Some y → x ≡ y
    some_is x y e = cc
pair_at (q ∷ ps) (c ∷ bs) (suc i) p b e f = pair_at ps bs i p b e f
pair_at _ _ i p b e f = absurd cc

-- no more is chosen than there are
few_chosen : {A B X : Type 0} (choose : A × B → Option X) (ps : List A) (bs : List B) → length (filter_map choose (zip ps bs)) ≤ length bs
few_chosen choose [] bs = omega (arith)
few_chosen choose (p ∷ ps) [] = omega (arith)
few_chosen {X = X} choose (p ∷ ps) (b ∷ bs) = go (choose (p, b)) (few_chosen choose ps bs)
  where
    go : (o : Option X) → length (filter_map choose (zip ps bs)) ≤ length bs → length (cons_option o (filter_map choose (zip ps bs))) ≤ suc (length bs)
    go None h = omega (arith, h)
    go (Some x) h = omega (arith, h)

-- no more infos are told than there are bits
pub few_told : {C S : Type 0} (cmp : C → C → Ordering) (d : DirectoryView C S) (index : ℕ) (bits : List Bool)
    (now : ℕ) (is : List (Info C S)) → Some is ≡ infos_in cmp d index bits now → length is ≤ length bits
few_told {C = C} {S = S} cmp d index bits now is told = go (set_with index d.sets) told
  where
    one : (b : Bool) (all : List (Info C S)) → length all ≤ length bits → Some is ≡ (if b then Some all else None) → length is ≤ length bits
    one true all h e = let same : is ≡ all = cc in subst (λ xs. length xs ≤ length bits) (sym same) h
    one false all h e = absurd cc

    go : (o : Option (SetAt C)) → Some is ≡ answered_of cmp d.records bits now o → length is ≤ length bits
    go None e = let same : is ≡ [] = cc in subst (λ xs. length xs ≤ length bits) (sym same) (omega (arith))
    go (Some x) e =
        one (length bits == length x.primary) (shared_of cmp d.records (epoch_millis now) x.primary bits)
        (few_chosen (shared_at cmp d.records (epoch_millis now)) x.primary bits) e

module _ {A B X : Type 0} (choose : A × B → Option X) where
  -- what is chosen from a place on
  abbrev pub chosen_from : ℕ → List A → List B → List X
  chosen_from i ps bs = filter_map choose (drop i (zip ps bs))

  -- .. is what is chosen there, and from the next place on
  pub chosen_at : (ps : List A) (bs : List B) (i : ℕ) (p : A) (b : B) → slice_get ps i ≡ Some p → slice_get bs i ≡ Some b →
      chosen_from i ps bs ≡ option_to_list (choose (p, b)) ++ chosen_from (i + 1) ps bs
  chosen_at ps bs i p b e f =
      ap (filter_map choose) (pair_at ps bs i p b e f) ∙ joined (choose (p, b)) (chosen_from (suc i) ps bs)
      ∙ ap (λ k. option_to_list (choose (p, b)) ++ chosen_from k ps bs) (suc-plus_one i)
    where
      joined : (o : Option X) (xs : List X) → cons_option o xs ≡ option_to_list o ++ xs
      joined None xs = refl
      joined (Some x) xs = refl

  -- behind the last nothing is
  pub chosen_behind : (ps : List A) (bs : List B) (i : ℕ) → length ps ≤ i → chosen_from i ps bs ≡ []
  chosen_behind ps bs i past = ap (filter_map choose) (none ps bs i past)
    where
      none : (ps : List A) (bs : List B) (i : ℕ) → length ps ≤ i → drop i (zip ps bs) ≡ []
      none [] bs zero past = refl
      none [] bs (suc i) past = refl
      none (q ∷ ps) bs zero past = absurd (omega (arith, past))
      none (q ∷ ps) [] (suc i) past = refl
      none (q ∷ ps) (c ∷ bs) (suc i) past = none ps bs i (omega (arith, past))

  -- no more is chosen from a place on than at all
  pub chosen_within : (ps : List A) (bs : List B) (i : ℕ) → length (chosen_from i ps bs) ≤ length (filter_map choose (zip ps bs))
  chosen_within ps bs i = go (zip ps bs) i
    where
      grown : (o : Option X) (xs : List X) → length xs ≤ length (cons_option o xs)
      grown None xs = omega (arith)
      grown (Some x) xs = omega (arith)

      go : (es : List (A × B)) (i : ℕ) → length (filter_map choose (drop i es)) ≤ length (filter_map choose es)
      go es zero = omega (arith)
      go [] (suc i) = omega (arith)
      go (e ∷ es) (suc i) = omega (arith, go es i, grown (choose e) (filter_map choose es))
