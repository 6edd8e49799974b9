use Rattle.std.proofs.Common.{[]}
use Rattle.p2p_directory.specs.Laws.Network as law
use Rattle.p2p_directory.proofs.LawsOfNetworks.Provenance
use Rattle.p2p_directory.proofs.LawsOfNetworks.Newer
use Rattle.p2p_directory.proofs.LawsOfNetworks.Exchanges
use Rattle.p2p_directory.proofs.LawsOfNetworks.Frames
use Rattle.p2p_directory.proofs.LawsOfNetworks.Replied
use Rattle.p2p_directory.proofs.LawsOfNetworks.Laws
use Rattle.p2p_directory.proofs.Nodes.ReadBack.{wire_in}
use Rattle.p2p_directory.proofs.laws.gossip.gossip_of_a_network.Goals as goal

pub returns-clause-at_each_point : goal.returns-clause-at_each_point
returns-clause-at_each_point g c = λ wire size node made.
    Laws.at_each_point wire size node g.C.Ord.cmp made g.met.C.PublicKey.exact g.met.C.Ord.total

pub returns-clause-provenance : goal.returns-clause-provenance
returns-clause-provenance g c = λ wire size node.
    Provenance.at_each_point wire size node (law.Provenance wire size node)
    (Provenance.provenance wire size node) [] tt

pub returns-clause-given : goal.returns-clause-given
returns-clause-given g c = λ wire size node.
    Provenance.at_each_point wire size node (law.GivesSigned wire size node)
    (Provenance.gives_signed wire size node) [] tt

pub returns-clause-infos : goal.returns-clause-infos
returns-clause-infos g c = λ wire size node.
    Provenance.at_any_point wire size node (law.HoldSigned wire size node)
    (Provenance.hold_signed wire size node) []

pub returns-clause-newer : goal.returns-clause-newer
returns-clause-newer g c = λ wire size node made.
    Provenance.at_any_point wire size node (law.OnlyGetNewer wire size node)
    (Newer.only_get_newer wire size node g.C.Ord.cmp made) []

pub returns-clause-isolation : goal.returns-clause-isolation
returns-clause-isolation g c = λ wire size node made.
    Provenance.at_any_point wire size node (law.Isolate wire size node)
    (Laws.isolated wire size node g.C.Ord.cmp made g.met.C.PublicKey.exact) []

pub returns-clause-order : goal.returns-clause-order
returns-clause-order g c = λ wire size node made.
    Provenance.at_any_point wire size node (law.Reorder wire size node)
    (Laws.reordered wire size node g.C.Ord.cmp made) []

pub returns-clause-exchanges : goal.returns-clause-exchanges
returns-clause-exchanges g c = λ wire size node made.
    Exchanges.keep_exchanges wire size node g.C.Ord.cmp g.met.C.Ord.total g.met.C.PublicKey.exact
    made [] tt

pub returns-clause-others : goal.returns-clause-others
returns-clause-others g c = λ wire size node.
    Provenance.of_any_reply wire size node (law.LeavesOtherNodes wire size node)
    (Provenance.leaves_others wire size node) []

pub returns-clause-greetings : goal.returns-clause-greetings
returns-clause-greetings g c = λ verifies size node made is_info is_keyed.
    let wire = wire_in verifies g.C.FixedBytes g.C.Signature.FixedBytes in
    Provenance.of_each_reply wire size node (law.TakesGreeting wire size node)
    (λ done answered. Frames.takes_greeting g.met.C.FixedBytes.fixed
    g.met.C.Signature.FixedBytes.fixed verifies size node g.C.Ord.cmp made is_info
    is_keyed done) [] tt

pub returns-clause-late : goal.returns-clause-late
returns-clause-late g c = λ verifies size node made.
    let wire = wire_in verifies g.C.FixedBytes g.C.Signature.FixedBytes in
    Provenance.of_each_reply wire size node _
    (λ done answered. Frames.takes_frame g.met.C.FixedBytes.fixed
    g.met.C.Signature.FixedBytes.fixed verifies size node g.C.Ord.cmp
    g.met.C.Ord.total g.met.C.PublicKey.exact made done) [] tt

pub returns-clause-replies : goal.returns-clause-replies
returns-clause-replies g c = λ verifies size node made few.
    Replied.keep_replies g.met.C.FixedBytes.fixed g.met.C.Signature.FixedBytes.fixed
    verifies size node g.C.Ord.cmp g.met.C.PublicKey.exact made few [] tt tt
