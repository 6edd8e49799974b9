-- Greetings and late frames between any of the nodes.
use Rattle.std.proofs.Common.{◌≡◌, ℕ, ◌*◌, ◌^◌, ◌+◌, min, true, List, [], ◌∷◌, Option, sym, ◌∙◌, ap, subst, Bool}
use Rattle.std.specs.Cmp.{IsTotalOrder}
use Rattle.std.specs.Duration.{as_nanos, max_nanos}
use Rattle.std.specs.Ordering.{is_eq}
use Rattle.std.specs.declared.cmp.Ordering.{Ordering}
use Rattle.std.specs.declared.cmp.Ordering.TheVariants.{Equal}
use Rattle.std.specs.declared.time.Duration.{Duration}
use Rattle.std.proofs.lemmas.Bool.{le-ltb}
use Rattle.p2p_discovery.specs.declared.discovery.Info.{Info}
use Rattle.p2p_discovery.specs.declared.discovery.Payload.TheVariants as said
use Rattle.p2p_discovery.specs.Fixed.{IsFixed}
use Rattle.p2p_discovery.specs.Info.{IsInfo, IsKeyed}
use Rattle.p2p_directory.specs.declared.node.received.Received.{Received}
use Rattle.p2p_directory.specs.declared.node.received.Received.TheVariants as received
use Rattle.p2p_directory.specs.declared.node.network.commands.NetworkCommand.{NetworkCommand}
use Rattle.p2p_directory.specs.declared.node.network.commands.NetworkCommand.TheVariants as command
use Rattle.p2p_directory.specs.declared.node.network.commands.NetworkReply.{NetworkReply}
use Rattle.p2p_directory.specs.declared.node.network.commands.NetworkReply.TheVariants as reply
use Rattle.p2p_directory.specs.Received.{Wire, Standing, FrameOutcome, applying, greeted}
use Rattle.p2p_directory.specs.Received.{read_at, received_at, applied_with}
use Rattle.p2p_directory.specs.Nodes.{Made, calls_with}
use Rattle.p2p_directory.specs.Network.{Done, is_node, calls_at, calls_then, standing_at, IsNetworkAnswer}
use Rattle.p2p_directory.specs.Laws.LateFrames.{TakesLate}
use Rattle.p2p_directory.specs.Laws.Network.{AreMade, TakesGreeting, TakesFrame}
use Rattle.p2p_directory.proofs.Nodes.ReadBack.{wire_by}
use Rattle.p2p_directory.proofs.LawsOfGossip.Greetings.{answer_or_memory, read_back}
use Rattle.p2p_directory.proofs.LawsOfGossip.Judged
use Rattle.p2p_directory.proofs.LawsOfGossip.Late
use Rattle.p2p_directory.proofs.Nodes.Frames.{calls_after_frame, frame_may_want_memory}
use Rattle.p2p_directory.proofs.LawsOfNetworks.Exchanges.{one_itself}

module _ {C S : Type 0} {key_size signature_size : ℕ} {key : C → List ℕ} {signature : S → List ℕ}
    {key_of : List ℕ → Option C} {signature_of : List ℕ → Option S}
    {IsKey : C → Type 0} {IsSignature : S → Type 0} (k : IsFixed key_size key key_of IsKey)
    (s : IsFixed signature_size signature signature_of IsSignature)
    (verifies : C → List ℕ → List ℕ → S → Bool) (size : ℕ) (node : ℕ → Made C S) where
  abbrev wire : Wire C S
  wire = wire_by key_size key key_of signature_size signature signature_of verifies

  abbrev own : ℕ → Info C S
  own i = (node i).directory.own

  -- GREETINGS

  module _ (cmp : C → C → Ordering) (made : AreMade wire size node cmp)
      (is_info : (i : ℕ) → is_node wire size node i ≡ true → IsInfo (own i))
      (is_keyed : (i : ℕ) → is_node wire size node i ≡ true →
      IsKeyed IsKey IsSignature (own i)) where
    pub takes_greeting : (done : Done C S) (c : NetworkCommand C S) (r : NetworkReply C S) →
        IsNetworkAnswer wire size node done c r → TakesGreeting wire size node done c r
    takes_greeting done (command.Frame i frame now) (reply.Frame r) is =
        λ other there signed same apart within.
        let n : Standing C S = standing_at wire size node done i in
        let o : Info C S = own other in
        let told : received_at wire n (wire.spelling (said.Greeting o)) (as_nanos now)
        ≡ applying (received.Greeted o.public_key) (o ∷ []) =
        ap (read_at wire n (as_nanos now))
        (read_back k s n.limits (said.Greeting o) (is_info other there, is_keyed other there))
        ∙ ap (greeted wire o) (Judged.fine n.judge (as_nanos now) o
        (ap (λ q. is_eq ((node i).directory.cmp q o.public_key)) (made i is.0).me ∙ apart)
        (le-ltb (min (as_nanos now + n.judge.synchrony_bound) max_nanos) (o.timestamp * 10 ^ 6)
        within) signed) in
        answer_or_memory r _ (received_at wire n frame (as_nanos now)) (received.Greeted o.public_key) is.1
        (ap (λ (x : FrameOutcome C S). x.answer)
        (ap (λ f. received_at wire n f (as_nanos now)) same ∙ told))
    takes_greeting done c r is = tt

  -- LATE FRAMES

  module _ (cmp : C → C → Ordering) (total : IsTotalOrder cmp)
      (exact_keys : (q p : C) → cmp q p ≡ Equal → q ≡ p)
      (made : AreMade wire size node cmp) where
    after_frame : (done : Done C S) (i : ℕ) (frame : List ℕ) (now : Duration) (r : Received C S) →
        IsNetworkAnswer wire size node done (command.Frame i frame now) (reply.Frame r) →
        calls_at wire size node ((command.Frame i frame now, reply.Frame r) ∷ done) i
        ≡ calls_with (applied_with (received_at wire (standing_at wire size node done i) frame
        (as_nanos now)) r) (calls_at wire size node done i)
    after_frame done i frame now r is =
        one_itself i
        (calls_then wire (node i) (command.Frame i frame now) (reply.Frame r)
        (calls_at wire size node done i))
        (calls_at wire size node done i)
        ∙ sym (calls_after_frame wire (standing_at wire size node done i) (as_nanos now)
        (calls_at wire size node done i) frame
        (frame_may_want_memory wire (standing_at wire size node done i) frame (as_nanos now)) r
        is.1)

    pub takes_frame : (done : Done C S) (c : NetworkCommand C S) (r : NetworkReply C S) →
        IsNetworkAnswer wire size node done c r →
        TakesFrame wire size node IsKey IsSignature done c r
    takes_frame done (command.Frame i frame now) (reply.Frame r) is =
        subst (λ after. TakesLate wire IsKey IsSignature (node i) (calls_at wire size node done i)
        frame (as_nanos now) r after)
        (sym (after_frame done i frame now r is))
        (Late.takes_late k s verifies cmp total exact_keys (node i) (made i is.0)
        (calls_at wire size node done i) frame (as_nanos now) r
        (frame_may_want_memory wire (standing_at wire size node done i) frame (as_nanos now))
        is.1)
    takes_frame done c r is = tt
