-- What an exchange of two nodes is to bring, and what it is for a node to know an info.
use Rattle.std.specs.Prelude.{ℕ, ◌≡◌, ◌≤◌, List}
use Rattle.std.specs.Prelude.{Option, Some, None, if◌then◌else◌, nat_le, filter_map}
use Rattle.std.specs.List.{AllByRecursion}
use Rattle.std.specs.declared.cmp.Ordering.{Ordering}
use Rattle.p2p_discovery.specs.declared.discovery.Info.{Info}
use Rattle.p2p_tracker.specs.Calls.{Call}
use Rattle.p2p_tracker.specs.Calls.Call.{Update}
use Rattle.p2p_tracker.specs.World.{World}
use Rattle.p2p_tracker.specs.Answers.{wants, sharable_info}
use Rattle.p2p_tracker.specs.Moments.{epoch_millis}
use Rattle.p2p_directory.specs.Nodes.{Made}

module _ {C S : Type 0} where
  -- there is an info, and its timestamp is at least n
  abbrev pub IsSince : ℕ → Option (Info C S) → Type 0
  IsSince n None = ⊥
  IsSince n (Some i) = n ≤ i.timestamp

  -- what is known of the peer of an info is at least as new
  abbrev pub IsUpToDate : World C S → Info C S → Type 0
  IsUpToDate w i = IsSince i.timestamp (w.peer i.public_key).known.info

  -- WHAT AN EXCHANGE IS TO BRING

  -- the info, unless its timestamp is above these milliseconds
  abbrev pub unless_above : ℕ → Option (Info C S) → Option (Info C S)
  unless_above millis None = None
  unless_above millis (Some i) = if nat_le i.timestamp millis then Some i else None

  -- of a peer: what the replier may share of it, where the asker wants its info. The asker's
  -- directory is made from a and stands at w, the replier's is made from b and stands at v
  abbrev pub wanted_info : Made C S → World C S → Made C S → World C S → ℕ → C →
      Option (Info C S)
  wanted_info a w b v millis p =
      if wants a.directory p (w.peer p)
      then unless_above millis (sharable_info b.directory v p)
      else None

  -- .. of each of these peers, in order, at a moment of the replier
  abbrev pub wanted_infos : Made C S → World C S → Made C S → World C S → ℕ → List C →
      List (Info C S)
  wanted_infos a w b v now ps = filter_map (wanted_info a w b v (epoch_millis now)) ps

  -- P holds of each info that the call gives
  abbrev pub GivesOnly : (Info C S → Type 0) → Call C S → Type 0
  GivesOnly P (Update infos) = AllByRecursion P infos
  GivesOnly P _ = Unit {0}

  -- what a node is made from is one setup: the keys in this order, its own key that of its own
  -- info, and one set or more
  pub record IsMade (cmp : C → C → Ordering) (m : Made C S) : Type 0 where
    pub order : m.directory.cmp ≡ cmp
    pub me : m.verifier.me ≡ m.directory.own.public_key
    pub sets : 1 ≤ m.directory.max_sets
