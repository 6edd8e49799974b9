-- Private: what is shared of peers with their bits, by a search for each of some keys.
use Rattle.std.specs.Prelude.{ℕ, Bool, List, [], ◌∷◌, Option, zip, if◌then◌else◌}
use Rattle.std.specs.BTreeMap.{is_at}
use Rattle.std.specs.Map.{lookup}
use Rattle.std.specs.Option.{option_and_then}
use Rattle.std.specs.Ordering.{match_ordering}
use Rattle.std.specs.declared.cmp.Ordering.{Ordering}
use Rattle.p2p_discovery.specs.declared.discovery.Info.{Info}
use Rattle.p2p_tracker.specs.Seen.{RecordView}
use Rattle.p2p_tracker.specs.Directory.{shared_at}

module _ {C : Type 0} (cmp : C → C → Ordering) where
  -- what is shared of q, if it is one of these peers
  abbrev pub shared_with : {S : Type 0} → List (C × RecordView C S) → ℕ → List C → List Bool → C →
      Option (Info C S)
  shared_with records millis ps bits q = option_and_then
      (λ known. shared_at cmp records millis (q, known)) (lookup (is_at (cmp q)) (zip ps bits))

  -- a key and others, which are in order: it is at its place, once
  abbrev pub with_key : C → List C → List C
  with_key own [] = own ∷ []
  with_key own (k ∷ ks) =
      match_ordering (cmp own k) (own ∷ k ∷ ks) (k ∷ ks) (k ∷ with_key own ks)

  -- the keys that are left, with the own one if that is left, too
  abbrev pub left_keys : Bool → C → List C → List C
  left_keys own_left own keys = if own_left then with_key own keys else keys
