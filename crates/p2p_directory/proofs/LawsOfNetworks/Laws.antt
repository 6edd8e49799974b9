-- All laws of a network: of what was done, and of each reply.
use Rattle.std.proofs.Common.{◌≡◌, ℕ, ◌<◌, ◌^◌, Bool, true, List, [], ◌∷◌, Option}
use Rattle.std.specs.Cmp.{IsTotalOrder}
use Rattle.std.specs.declared.cmp.Ordering.{Ordering}
use Rattle.std.specs.declared.cmp.Ordering.TheVariants.{Equal}
use Rattle.p2p_discovery.specs.Fixed.{IsFixed}
use Rattle.p2p_discovery.specs.Info.{IsInfo, IsKeyed}
use Rattle.p2p_directory.specs.declared.node.network.commands.NetworkCommand.{NetworkCommand}
use Rattle.p2p_directory.specs.declared.node.network.commands.NetworkReply.{NetworkReply}
use Rattle.p2p_directory.specs.Received.{Wire}
use Rattle.p2p_directory.specs.Nodes.{Made}
use Rattle.p2p_directory.specs.Network.{Done, is_node, calls_at, AreNetworkAnswers}
use Rattle.p2p_directory.specs.Laws.Network.{AreMade, Isolate, Reorder, PointLaws, ReplyLaws, OfEachReply}
use Rattle.p2p_directory.specs.Laws.Network.{CarriesExchange, AreWritten, AtEachPoint, RepliesInfos}
use Rattle.p2p_directory.proofs.Definitions.Keys.{exact_from}
use Rattle.p2p_directory.proofs.Nodes.ReadBack.{wire_by}
use Rattle.p2p_directory.proofs.LawsOfRuns.Isolation
use Rattle.p2p_directory.proofs.LawsOfRuns.OrderRuns
use Rattle.p2p_directory.proofs.LawsOfNetworks.Provenance
use Rattle.p2p_directory.proofs.LawsOfNetworks.Exchanges
use Rattle.p2p_directory.proofs.LawsOfNetworks.Reach
use Rattle.p2p_directory.proofs.LawsOfNetworks.Frames
use Rattle.p2p_directory.proofs.LawsOfNetworks.Replied

module _ {C S : Type 0} (wire : Wire C S) (size : ℕ) (node : ℕ → Made C S)
    (cmp : C → C → Ordering) (made : AreMade wire size node cmp) where
  pub reordered : (done : Done C S) → Reorder wire size node done
  reordered done n there later before first some more others is one have =
      OrderRuns.reordered (node n).directory (made n there).sets (calls_at wire size node done n)
      later before first some more others is one have

  module _ (exact : (q p : C) → cmp q p ≡ Equal → q ≡ p) where
    pub isolated : (done : Done C S) → Isolate wire size node done
    isolated done n there p = Isolation.isolated (node n).directory (made n there).sets
        (exact_from (node n).directory cmp (made n there).order exact) p
        (calls_at wire size node done n)

    pub point_laws : IsTotalOrder cmp → (done : Done C S) →
        Provenance.AreAnswered wire size node done → PointLaws wire size node done
    point_laws total done answered = record {
      provenance = Provenance.provenance wire size node done answered;
      given = Provenance.gives_signed wire size node done answered;
      reach = Reach.reach wire size node cmp total exact made done answered;
      acquaintance = Reach.acquaint wire size node cmp total exact made done answered;
    }

    pub at_each_point : IsTotalOrder cmp → (cs : List (NetworkCommand C S))
        (rs : List (NetworkReply C S)) → AreNetworkAnswers wire size node [] cs rs →
        AtEachPoint wire size node (PointLaws wire size node) [] cs rs
    at_each_point total cs rs answers =
        Provenance.at_each_point wire size node (PointLaws wire size node) (point_laws total)
        [] tt cs rs answers

module _ {C S : Type 0} {key_size signature_size : ℕ} {key : C → List ℕ} {signature : S → List ℕ}
    {key_of : List ℕ → Option C} {signature_of : List ℕ → Option S}
    {IsKey : C → Type 0} {IsSignature : S → Type 0} (k : IsFixed key_size key key_of IsKey)
    (s : IsFixed signature_size signature signature_of IsSignature)
    (verifies : C → List ℕ → List ℕ → S → Bool) (size : ℕ) (node : ℕ → Made C S)
    (cmp : C → C → Ordering) (total : IsTotalOrder cmp)
    (exact : (q p : C) → cmp q p ≡ Equal → q ≡ p) where
  abbrev wire : Wire C S
  wire = wire_by key_size key key_of signature_size signature signature_of verifies

  module _ (made : AreMade wire size node cmp)
      (few : (i : ℕ) → is_node wire size node i ≡ true → (node i).limits.max_bit_vec < 2 ^ 32)
      (is_info : (i : ℕ) → is_node wire size node i ≡ true → IsInfo (node i).directory.own)
      (is_keyed : (i : ℕ) → is_node wire size node i ≡ true →
      IsKeyed IsKey IsSignature (node i).directory.own) where
    -- where exchanges are carried, and infos replied for the asker
    joined : (done : Done C S) → Provenance.AreAnswered wire size node done →
        (cs : List (NetworkCommand C S)) (rs : List (NetworkReply C S)) →
        AreNetworkAnswers wire size node done cs rs →
        OfEachReply wire size node (CarriesExchange wire size node) done cs rs →
        OfEachReply wire size node (RepliesInfos wire size node IsKey IsSignature) done cs rs →
        OfEachReply wire size node (ReplyLaws wire size node IsKey IsSignature) done cs rs
    joined done answered [] rs h carried replied = tt
    joined done answered (c ∷ cs) [] h carried replied = tt
    joined done answered (c ∷ cs) (r ∷ rs) h carried replied = (
      record {
        exchanges = Exchanges.wanted wire size node cmp total exact made done answered c r h.0;
        carried = carried.0;
        greetings = Frames.takes_greeting k s verifies size node cmp made is_info is_keyed done c r
            h.0;
        infos_replied = replied.0;
        late = Frames.takes_frame k s verifies size node cmp total exact made done c r h.0;
      },
      joined ((c, r) ∷ done) (h.0, answered) cs rs h.1 carried.1 replied.1,
    )

    pub of_each_reply : (cs : List (NetworkCommand C S)) (rs : List (NetworkReply C S)) →
        AreNetworkAnswers wire size node [] cs rs →
        OfEachReply wire size node (CarriesExchange wire size node) [] cs rs →
        AreWritten wire size node IsKey IsSignature [] cs rs →
        OfEachReply wire size node (ReplyLaws wire size node IsKey IsSignature) [] cs rs
    of_each_reply cs rs answers carried written = joined [] tt cs rs answers carried
        (Replied.keep_replies k s verifies size node cmp exact made few [] tt tt cs rs answers
        written)
