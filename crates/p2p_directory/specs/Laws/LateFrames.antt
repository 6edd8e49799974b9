-- Frames with infos, which may come late, and more than once.
use Rattle.std.specs.Prelude.{ℕ, ◌≡◌, ◌≤◌, ◌<◌, ◌+◌, ◌^◌, true, false, List, ◌∷◌, length, ◌⊎◌}
use Rattle.std.specs.List.{AllByRecursion}
use Rattle.p2p_discovery.specs.declared.discovery.Info.{Info}
use Rattle.p2p_discovery.specs.declared.discovery.Payload.TheVariants as said
use Rattle.p2p_discovery.specs.Judgement.{is_signed_in}
use Rattle.p2p_directory.specs.declared.node.received.Received.{Received}
use Rattle.p2p_directory.specs.declared.node.received.Received.TheVariants as received
use Rattle.p2p_tracker.specs.Calls.{Call}
use Rattle.p2p_tracker.specs.Calls.Call.{Update}
use Rattle.p2p_tracker.specs.History.{is_own}
use Rattle.p2p_tracker.specs.World.{World}
use Rattle.p2p_tracker.specs.Answers.{is_present_in}
use Rattle.p2p_tracker.specs.Moments.{epoch_millis}
use Rattle.p2p_directory.specs.Run.{world_after}
use Rattle.p2p_directory.specs.Received.{Wire, received_at, applied_with}
use Rattle.p2p_directory.specs.Nodes.{Made, AreValues, standing_in, calls_with}
use Rattle.p2p_directory.specs.Laws.Gossip.{IsUpToDate}

module _ {C S : Type 0} where
  -- what is known of the peer of each info, where it is present, is at least as new
  abbrev pub AreKnown : Made C S → World C S → List (Info C S) → Type 0
  AreKnown m w infos = AllByRecursion
      (λ i. is_present_in m.directory w i.public_key ≡ true → IsUpToDate w i) infos

  -- what comes of a frame with these infos: after the accepted calls `before` it was answered r,
  -- and then the accepted calls are `after`
  pub record IsTaken (m : Made C S) (before : List (Call C S)) (infos : List (Info C S))
      (r : Received C S) (after : List (Call C S)) : Type 0 where
    -- they are applied, want of memory aside
    pub answer : (r ≡ received.Applied (length infos)) ⊎ (r ≡ received.Memory)
    -- afterwards what is known of their peers is at least as new
    pub known : r ≡ received.Applied (length infos) →
        AreKnown m (world_after m.directory after) infos
    -- where it was so before, nothing changes
    pub unchanged : AreKnown m (world_after m.directory before) infos →
        world_after m.directory after ≡ world_after m.directory before
    -- and nothing by a copy that follows at once
    pub copy : r ≡ received.Applied (length infos) →
        world_after m.directory (Update infos ∷ after) ≡ world_after m.directory after

  -- a node takes so many infos, which were told at the moment t, at the moment now
  pub record FitsAt (m : Made C S) (t now : ℕ) (infos : List (Info C S)) : Type 0 where
    pub peers : length infos ≤ m.limits.max_peers
    pub count : length infos ≤ m.verifier.greatest_count
    pub moments : t ≤ now + m.verifier.synchrony_bound

  -- an info for a node, told at the moment t: its signature is right in the namespace of the node,
  -- its key is another than the node's, and its timestamp isn't above the milliseconds of t
  pub record IsFor (wire : Wire C S) (m : Made C S) (t : ℕ) (i : Info C S) : Type 0 where
    pub signed : is_signed_in wire.verifies m.verifier.namespace i ≡ true
    pub of_another : is_own m.directory i.public_key ≡ false
    pub timely : i.timestamp ≤ epoch_millis t

module _ {C S : Type 0} (wire : Wire C S) (IsKey : C → Type 0) (IsSignature : S → Type 0) where
  -- the frame spells infos for a node, told at the moment t: they are made of values of their types
  pub record SpellsFor (m : Made C S) (t : ℕ) (frame : List ℕ)
      (infos : List (Info C S)) : Type 0 where
    pub spelled : frame ≡ wire.spelling (said.Peers infos)
    pub small : length infos < 2 ^ 32
    pub values : AreValues IsKey IsSignature infos
    pub each : AllByRecursion (IsFor wire m t) infos

  -- a frame that spells infos for a node, told at any moment, is taken where they fit
  abbrev pub TakesLate : Made C S → List (Call C S) → List ℕ → ℕ → Received C S → List (Call C S) →
      Type 0
  TakesLate m before frame now r after = (t : ℕ) (infos : List (Info C S)) →
      SpellsFor m t frame infos → FitsAt m t now infos → IsTaken m before infos r after

  -- .. by a node that stands after these calls
  abbrev pub TakesLateAt : Made C S → List (Call C S) → List ℕ → ℕ → Received C S → Type 0
  TakesLateAt m calls frame now r = TakesLate m calls frame now r (calls_with (applied_with
      (received_at wire (standing_in m wire (world_after m.directory calls)) frame now) r) calls)
