-- Each law of `laws::gossip_of_a_network` that has premises, for the run of ShownRun: it meets all of
-- them together.
use Rattle.std.proofs.Common.{◌≡◌, ℕ, List, [], ◌∷◌}
use Rattle.std.specs.Ordering.{nat_cmp}
use Rattle.std.proofs.lemmas.Cmp.{nat_cmp_total}
use Rattle.p2p_directory.specs.declared.node.network.commands.NetworkCommand.{NetworkCommand}
use Rattle.p2p_directory.specs.declared.node.network.commands.NetworkReply.{NetworkReply}
use Rattle.p2p_directory.specs.Network.{AreNetworkAnswers}
use Rattle.p2p_directory.specs.Laws.Network as law
use Rattle.p2p_directory.specs.Laws.Network.{AtEachPoint, OfEachReply}
use Rattle.p2p_directory.proofs.LawsOfNetworks.Provenance
use Rattle.p2p_directory.proofs.LawsOfNetworks.Exchanges
use Rattle.p2p_directory.proofs.LawsOfNetworks.Frames
use Rattle.p2p_directory.proofs.LawsOfNetworks.Replied
use Rattle.p2p_directory.proofs.LawsOfNetworks.Laws
use Rattle.p2p_directory.proofs.Definitions.GossipExamples.{wire, signed}
use Rattle.p2p_directory.proofs.Definitions.ByteKeys.{IsByte, is_fixed}
use Rattle.p2p_directory.proofs.Definitions.ExchangePremises.{three}
use Rattle.p2p_directory.proofs.Definitions.ShownRun.{Infos, commands, replies, are_answers}
use Rattle.p2p_directory.proofs.Definitions.RunPremises.{are_made, exact, bits_are_few, own_are_infos, own_are_keyed}
use Rattle.p2p_directory.proofs.Definitions.RunFrames.{are_written}

-- whatever has the infos that were brought, none, and the info that a command passes
module _ (brought none passed : Infos) (is_brought : brought.items ≡ signed 1 100000 ∷ [])
    (is_none : none.items ≡ []) (is_passed : passed.items ≡ signed 2 50000 ∷ []) where
  abbrev cs : List (NetworkCommand ℕ ℕ)
  cs = commands brought none passed

  abbrev rs : List (NetworkReply ℕ ℕ)
  rs = replies brought none passed

  abbrev answers : AreNetworkAnswers wire 3 three [] cs rs
  answers = are_answers brought none passed is_brought is_none is_passed

  exchanges : OfEachReply wire 3 three (law.BringsWanted wire 3 three) [] cs rs
  exchanges = Exchanges.keep_exchanges wire 3 three nat_cmp nat_cmp_total exact are_made [] tt cs rs answers

  at_each_point : AtEachPoint wire 3 three (law.PointLaws wire 3 three) [] cs rs
  at_each_point = Laws.at_each_point wire 3 three nat_cmp are_made exact nat_cmp_total cs rs answers

  greetings : OfEachReply wire 3 three (law.TakesGreeting wire 3 three) [] cs rs
  greetings = Provenance.of_each_reply wire 3 three (law.TakesGreeting wire 3 three)
      (λ done answered x r is. Frames.takes_greeting is_fixed is_fixed wire.verifies 3 three nat_cmp are_made
      own_are_infos own_are_keyed done x r is) [] tt cs rs answers

  late : OfEachReply wire 3 three (law.TakesFrame wire 3 three IsByte IsByte) [] cs rs
  late = Provenance.of_each_reply wire 3 three (law.TakesFrame wire 3 three IsByte IsByte)
      (λ done answered x r is. Frames.takes_frame is_fixed is_fixed wire.verifies 3 three nat_cmp
      nat_cmp_total exact are_made done x r is) [] tt cs rs answers

  infos_replied : OfEachReply wire 3 three (law.RepliesInfos wire 3 three IsByte IsByte) [] cs rs
  infos_replied = Replied.keep_replies is_fixed is_fixed wire.verifies 3 three nat_cmp exact are_made bits_are_few
      [] tt tt cs rs answers (are_written brought none passed)
