use Rattle.std.proofs.Common.{◌≡◌, ℕ, Bool, List, map, Option, Some, None, sym, ◌∙◌, ap, slice_get}
use Rattle.std.specs.BTreeMap.{is_at}
use Rattle.std.specs.Map.{keys_of}
use Rattle.std.specs.Option.{option_map}
use Rattle.std.specs.declared.cmp.Ordering.{Ordering}
use Rattle.std.proofs.lemmas.Option.{slice_get-map}
use Rattle.p2p_discovery.specs.declared.discovery.BitVec.{BitVec}
use Rattle.p2p_tracker.specs.Calls.{SetAt}
use Rattle.p2p_tracker.specs.Directory.{full_bit_vec_at, is_own_in}
use Rattle.p2p_tracker.specs.Private.Window.{SetWithBits, plain_set, plain_sets}
use Rattle.p2p_tracker.specs.Seen.{DirectoryView}
use Rattle.p2p_tracker.proofs.directory.Directory.get_full_bit_vec.Goals as goal

module _ {C S : Type 0} (cmp : C → C → Ordering) (d : DirectoryView C S) (window : List (SetWithBits C)) (place : ℕ)
    (sets : d.sets ≡ plain_sets window) where
  abbrev bits_with : (C → Bool) → SetAt C → BitVec
  bits_with test set = record { index = set.index; bits = map test set.primary }

  -- the bits of the set at the place in the window, if there is one
  found : (o : Option (SetWithBits C)) → slice_get window place ≡ o →
      full_bit_vec_at cmp d place ≡ option_map (bits_with (is_own_in cmp d)) (option_map plain_set o)
  found o is = ap (option_map (bits_with (is_own_in cmp d)))
      (ap (λ sets. slice_get sets place) sets ∙ slice_get-map plain_set window place ∙ ap (option_map plain_set) is)

  -- .. of each peer whether it is the own one
  of_own : (own : C) (x : SetWithBits C) → ((q : C) → is_own_in cmp d q ≡ is_at (cmp own) q) → slice_get window place ≡ Some x →
      full_bit_vec_at cmp d place ≡ Some (record { index = x.index; bits = map (is_at (cmp own)) (keys_of x.primary) })
  of_own own x same is = found (Some x) is ∙ (λ i. Some (record { index = x.index; bits = map (λ q. same q i) (keys_of x.primary) }))

pub returns-in_ok-bits_at-in-Some-clause-bits : goal.returns-in_ok-bits_at-in-Some-clause-bits
returns-in_ok-bits_at-in-Some-clause-bits g c =
    (λ i. Some (record {
      index = c.index.ensures i;
      bits = (c.in_ok-bits_at-in-Some.ensures ∙ ap (map (is_at (g.C.Ord.cmp c.self.inside.own))) (c.ordered.ensures ∙ ap keys_of c.primary.ensures.bits)) i;
    }))
    ∙ sym (of_own g.C.Ord.cmp c.args.self.now c.self.inside.sets c.args.place
    (ap (λ (d : DirectoryView g.row.C.Denot g.row.C-Signature.Denot). d.sets) (sym c.self.view_is))
    c.self.inside.own c.in-Some.set.now
    (λ q. ap (λ (d : DirectoryView g.row.C.Denot g.row.C-Signature.Denot). is_own_in g.C.Ord.cmp d q) (sym c.self.view_is)
    ∙ c.self.invariant.whole.own.is_own q)
    (sym c.in-Some.ensures))

pub returns-in-None-clause-bits : goal.returns-in-None-clause-bits
returns-in-None-clause-bits g c =
    sym (found g.C.Ord.cmp c.args.self.now c.self.inside.sets c.args.place
    (ap (λ (d : DirectoryView g.row.C.Denot g.row.C-Signature.Denot). d.sets) (sym c.self.view_is)) None (sym c.in-None.ensures))
