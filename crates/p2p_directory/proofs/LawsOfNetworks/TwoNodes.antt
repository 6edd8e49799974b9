-- What is said of two nodes follows from what is said of a network of two.
use Rattle.std.proofs.Common.{List, [], ◌∷◌, ℕ}
use Rattle.p2p_directory.specs.declared.node.network.commands.NetworkCommand.{NetworkCommand}
use Rattle.p2p_directory.specs.declared.node.network.commands.NetworkReply.{NetworkReply}
use Rattle.p2p_directory.specs.declared.node.pair.PairCommand.{PairCommand}
use Rattle.p2p_directory.specs.declared.node.pair.PairReply.{PairReply}
use Rattle.p2p_directory.specs.Received.{Wire}
use Rattle.p2p_directory.specs.Nodes.{Made}
use Rattle.p2p_directory.specs.Network.{Done}
use Rattle.p2p_directory.specs.Pairs.{two, commands_in, replies_in}
use Rattle.p2p_directory.specs.Laws.Network as law
use Rattle.p2p_directory.specs.Laws.Network.{AtEachPoint, OfEachReply, PointLaws, ReplyLaws}
use Rattle.p2p_directory.specs.Laws.TwoNodes.{LawsOfPair}
use Rattle.p2p_directory.proofs.LawsOfNetworks.Provenance

-- a weaker law of what was done
weaker : {C S : Type 0} (wire : Wire C S) (size : ℕ) (node : ℕ → Made C S)
    (P Q : Done C S → Type 0) → ((done : Done C S) → P done → Q done) →
    (done : Done C S) (cs : List (NetworkCommand C S)) (rs : List (NetworkReply C S)) →
    AtEachPoint wire size node P done cs rs → AtEachPoint wire size node Q done cs rs
weaker wire size node P Q gives done (c ∷ cs) (r ∷ rs) h =
    (gives done h.0, weaker wire size node P Q gives ((c, r) ∷ done) cs rs h.1)
weaker wire size node P Q gives done _ _ h = gives done h

pub laws_of_pair : {C S : Type 0} (wire : Wire C S) (IsKey : C → Type 0) (IsSignature : S → Type 0)
    (left right : Made C S) (cs : List (PairCommand C S)) (rs : List (PairReply C S)) →
    AtEachPoint wire 2 (two left right) (PointLaws wire 2 (two left right)) []
    (commands_in cs) (replies_in rs) →
    OfEachReply wire 2 (two left right) (ReplyLaws wire 2 (two left right) IsKey IsSignature) []
    (commands_in cs) (replies_in rs) →
    LawsOfPair wire IsKey IsSignature left right cs rs
laws_of_pair {C} {S} wire IsKey IsSignature left right cs rs points replies = record {
  given = weaker wire 2 (two left right) (PointLaws wire 2 (two left right))
      (law.GivesSigned wire 2 (two left right)) (λ done laws. laws.given) [] (commands_in cs)
      (replies_in rs) points;
  infos = Provenance.at_any_point wire 2 (two left right) (law.HoldSigned wire 2 (two left right))
      (Provenance.hold_signed wire 2 (two left right)) [] (commands_in cs) (replies_in rs);
  of_each_reply = replies;
}
