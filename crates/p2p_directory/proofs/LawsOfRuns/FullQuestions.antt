-- What a full question brings: all that may be shared but of the asker.
use Rattle.std.proofs.Common.{◌≡◌, ◌==◌, ℕ, Bool, true, false, not, List, [], ◌∷◌, length, map, filter, filter_map, Option, Some, None, refl, sym, ◌∙◌, ap}
use Rattle.std.specs.Prelude.{if◌then◌else◌}
use Rattle.std.specs.List.{cons_option}
use Rattle.std.specs.Option.{option_map}
use Rattle.std.proofs.lemmas.List.{length-map}
use Rattle.p2p_discovery.proofs.Truth.{nat_eq-itself}
use Rattle.p2p_discovery.specs.declared.discovery.BitVec.{BitVec}
use Rattle.p2p_tracker.specs.Answers.{shared_info, shared_infos, set_at_place, set_with_index, infos_for}
use Rattle.p2p_tracker.specs.Calls.{Settings, SetAt}
use Rattle.p2p_tracker.specs.History.{is_own}
use Rattle.p2p_tracker.specs.Moments.{epoch_millis}
use Rattle.p2p_tracker.specs.World.{World}
use Rattle.p2p_directory.specs.Laws.Steps.{all_infos_for}
use Rattle.p2p_directory.specs.Run.{bit_vec_of, full_bit_vec_in}

module _ {C S : Type 0} (a s : Settings C S) (w : World C S) where
  -- the infos for a bit of each peer whether it is the asker
  shared : (millis : ℕ) (ps : List C) → shared_infos s w millis ps (map (is_own a) ps) ≡ all_infos_for a s w millis ps
  shared millis [] = refl
  shared millis (p ∷ ps) = go (is_own a p) (shared millis ps)
    where
      go : (b : Bool) → shared_infos s w millis ps (map (is_own a) ps) ≡ all_infos_for a s w millis ps →
          cons_option (shared_info s w millis (p, b)) (shared_infos s w millis ps (map (is_own a) ps))
          ≡ filter_map (λ q. shared_info s w millis (q, false)) (if not b then p ∷ filter (λ q. not (is_own a q)) ps else filter (λ q. not (is_own a q)) ps)
      go true h = h
      go false h = ap (cons_option (shared_info s w millis (p, false))) h

  answered : (kept : SetAt C) (bits : List Bool) (t : ℕ) → bits ≡ map (is_own a) kept.primary →
      (if length bits == length kept.primary then Some (shared_infos s w (epoch_millis t) kept.primary bits) else None)
      ≡ Some (all_infos_for a s w (epoch_millis t) kept.primary)
  answered kept bits t is =
      ap (λ bits. if length bits == length kept.primary then Some (shared_infos s w (epoch_millis t) kept.primary bits) else None) is
      ∙ ap (λ n. if n == length kept.primary then Some (shared_infos s w (epoch_millis t) kept.primary (map (is_own a) kept.primary)) else None)
      (length-map kept.primary (is_own a))
      ∙ ap (λ b. if b then Some (shared_infos s w (epoch_millis t) kept.primary (map (is_own a) kept.primary)) else None)
      (nat_eq-itself (length kept.primary))
      ∙ ap Some (shared (epoch_millis t) kept.primary)

  pub brings_all : (v : World C S) (place : ℕ) (asked kept : SetAt C) (bits : BitVec) (t : ℕ) →
      set_at_place a v place ≡ Some asked → full_bit_vec_in a v place ≡ Some bits →
      set_with_index s w bits.index ≡ Some kept → kept.primary ≡ asked.primary →
      infos_for s w bits.index bits.bits t ≡ Some (all_infos_for a s w (epoch_millis t) kept.primary)
  brings_all v place asked kept bits t at full found same =
      let told : Some (bit_vec_of (asked.index, map (is_own a) asked.primary)) ≡ Some bits =
      sym (ap (option_map (λ (x : SetAt C). bit_vec_of (x.index, map (is_own a) x.primary))) at) ∙ full
      in
      let is : bit_vec_of (asked.index, map (is_own a) asked.primary) ≡ bits = cc in
      let listed : bits.bits ≡ map (is_own a) kept.primary = sym (ap (λ (b : BitVec). b.bits) is) ∙ sym (ap (map (is_own a)) same) in
      of_set (set_with_index s w bits.index) found ∙ answered kept bits.bits t listed
    where
      of_set : (o : Option (SetAt C)) → o ≡ Some kept →
          (elim o [
            | None ↦ Some []
            | Some x ↦ if length bits.bits == length x.primary then Some (shared_infos s w (epoch_millis t) x.primary bits.bits) else None
          ])
          ≡ (if length bits.bits == length kept.primary then Some (shared_infos s w (epoch_millis t) kept.primary bits.bits) else None)
      of_set o e = ap (λ (o : Option (SetAt C)). elim o [
        | None ↦ Some []
        | Some x ↦ if length bits.bits == length x.primary then Some (shared_infos s w (epoch_millis t) x.primary bits.bits) else None
      ]) e
