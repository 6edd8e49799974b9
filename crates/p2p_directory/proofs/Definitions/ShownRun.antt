-- One list of commands to three nodes, and its replies, each of which is the answer at its point: a
-- run. It has each variant of NetworkReply, Received and Exchanged, and it goes on from the commands
-- of ExchangePremises.
use Rattle.std.proofs.Common.{◌≡◌, ℕ, true, false, List, [], ◌∷◌, ◌++◌, Some, inr, refl, sym, subst, ap, ◌∙◌}
use Rattle.std.proofs.Common.{Vec, Global, map}
use Rattle.std.specs.List.Sorted.{IsStrictlySortedBy}
use Rattle.p2p_discovery.specs.declared.codec.error.CodecError.TheVariants.{InvalidLength, EndOfBuffer}
use Rattle.p2p_discovery.specs.declared.discovery.Error.TheVariants.{SynchronyBound}
use Rattle.p2p_discovery.specs.declared.discovery.Info.{Info}
use Rattle.p2p_discovery.specs.Payload.{body_at, payload_at}
use Rattle.p2p_discovery.specs.Data.{data_at, message_at}
use Rattle.p2p_discovery.specs.Counted.{length_at}
use Rattle.p2p_discovery.specs.Varint.{groups, groups_at}
use Rattle.p2p_discovery.specs.Info as texts
use Rattle.p2p_discovery.specs.Ingress.{ingress_at}
use Rattle.p2p_discovery.specs.Socket.{ip_at, socket_at}
use Rattle.p2p_discovery.specs.BitVec.{bits_read_at, bit_vec_read_at}
use Rattle.p2p_discovery.specs.Bits.{bits_in, packed}
use Rattle.p2p_discovery.specs.Lists.{spellings, elems, items_at, list_at}
use Rattle.p2p_tracker.specs.declared.directory.TrackedPeers.{TrackedPeers}
use Rattle.p2p_tracker.specs.Calls.Call.{Update}
use Rattle.p2p_tracker.specs.History.{life}
use Rattle.p2p_directory.specs.declared.node.received.Received.TheVariants as received
use Rattle.p2p_directory.specs.declared.node.exchanged.Exchanged.TheVariants as exchanged
use Rattle.p2p_directory.specs.declared.node.network.commands.NetworkCommand.{NetworkCommand}
use Rattle.p2p_directory.specs.declared.node.network.commands.NetworkCommand.TheVariants as network
use Rattle.p2p_directory.specs.declared.node.network.commands.NetworkReply.{NetworkReply}
use Rattle.p2p_directory.specs.declared.node.network.commands.NetworkReply.TheVariants as answer
use Rattle.p2p_directory.specs.declared.run.commands.Command.TheVariants as command
use Rattle.p2p_directory.specs.declared.run.commands.Reply.TheVariants as reply
use Rattle.p2p_directory.specs.Exchange.{ExchangeOutcome, exchanged_at}
use Rattle.p2p_directory.specs.Exchange.ExchangeOutcome.{Applied}
use Rattle.p2p_directory.specs.Nodes.{standing_in}
use Rattle.p2p_directory.specs.Run.{world_after}
use Rattle.p2p_directory.specs.Network.{Done, calls_at, standing_at, IsNetworkAnswer, AreNetworkAnswers, done_after}
use Rattle.p2p_directory.proofs.LawsOfNetworks.Provenance.{AreAnswered}
use Rattle.p2p_directory.proofs.Definitions.Setting.{sec}
use Rattle.p2p_directory.proofs.Definitions.GossipExamples.{wire, signed, asker}
use Rattle.p2p_directory.proofs.Definitions.LatePremises.{peers_1}
use Rattle.p2p_directory.proofs.Definitions.ExchangePremises.{three, done, seconds, peers12, greeting_1}

-- COMMANDS WITH THEIR REPLIES, in order

abbrev pub Steps : Type 0
Steps = List (NetworkCommand ℕ ℕ × NetworkReply ℕ ℕ)

-- each reply is the answer at its point
abbrev pub AreSteps : Done ℕ ℕ → Steps → Type 0
AreSteps before [] = Unit {0}
AreSteps before (x ∷ xs) = IsNetworkAnswer wire 3 three before x.0 x.1 × AreSteps (x ∷ before) xs

-- what was done after them, the newest first
abbrev pub after : Steps → Done ℕ ℕ → Done ℕ ℕ
after [] before = before
after (x ∷ xs) before = after xs (x ∷ before)

abbrev pub commands_of : Steps → List (NetworkCommand ℕ ℕ)
commands_of xs = map (λ x. x.0) xs

abbrev pub replies_of : Steps → List (NetworkReply ℕ ℕ)
replies_of xs = map (λ x. x.1) xs

-- steps are a run
are_answers_of : (before : Done ℕ ℕ) (xs : Steps) → AreSteps before xs →
    AreNetworkAnswers wire 3 three before (commands_of xs) (replies_of xs)
are_answers_of before [] h = tt
are_answers_of before (x ∷ xs) h = (h.0, are_answers_of (x ∷ before) xs h.1)

done_of : (before : Done ℕ ℕ) (xs : Steps) →
    done_after wire 3 three before (commands_of xs) (replies_of xs) ≡ after xs before
done_of before [] = refl
done_of before (x ∷ xs) = done_of (x ∷ before) xs

-- after steps come more
joined : (before : Done ℕ ℕ) (xs ys : Steps) → AreSteps before xs → AreSteps (after xs before) ys →
    AreSteps before (xs ++ ys)
joined before [] ys h k = k
joined before (x ∷ xs) ys h k = (h.0, joined (x ∷ before) xs ys h.1 k)

pub answered_of : (before : Done ℕ ℕ) → AreAnswered wire 3 three before → (xs : Steps) → AreSteps before xs →
    AreAnswered wire 3 three (after xs before)
answered_of before answered [] h = answered
answered_of before answered (x ∷ xs) h = answered_of (x ∷ before) (h.0, answered) xs h.1

-- THE LIST

-- the ten commands of ExchangePremises
abbrev pub first : Steps
first =
    (network.Call 0 (command.Track 0 peers12), answer.Call (reply.Track (Some [])))
    ∷ (network.Call 1 (command.Track 0 peers12), answer.Call (reply.Track (Some [])))
    ∷ (network.Call 2 (command.Track 0 peers12), answer.Call (reply.Track (Some [])))
    ∷ (network.Frame 2 greeting_1 (seconds 100), answer.Frame received.Memory)
    ∷ (network.Frame 0 greeting_1 (seconds 0), answer.Frame (received.Invalid SynchronyBound))
    ∷ (network.Frame 1 greeting_1 (seconds 100), answer.Frame (received.Greeted 1))
    ∷ (network.Call 3 (command.Track 0 peers12), answer.NoNode)
    ∷ (network.Call 0 (command.Connect 1 false), answer.Call reply.NotReserved)
    ∷ (network.Call 1 (command.Listen 1 (seconds 50) (seconds 0)), answer.Call (reply.Listen true))
    ∷ (network.Call 1 (command.Connect 1 false), answer.Call reply.Connect)
    ∷ []

is_done : after first [] ≡ done
is_done = refl

-- the bits of node 0, which knows nobody, and bits of one peer only
abbrev pub bits : List ℕ
bits = 2 ∷ 0 ∷ 2 ∷ 0 ∷ []

abbrev pub too_few : List ℕ
too_few = 2 ∷ 0 ∷ 1 ∷ 0 ∷ []

abbrev pub greeting_of_8 : List ℕ
greeting_of_8 = 1 ∷ 0 ∷ 4 ∷ 8 ∷ 8 ∷ 4 ∷ 4 ∷ 35 ∷ 40 ∷ 0 ∷ 8 ∷ 48 ∷ []

-- five bytes on channel 1
abbrev pub hello : List ℕ
hello = 104 ∷ 101 ∷ 108 ∷ 108 ∷ 111 ∷ []

abbrev pub data_frame : List ℕ
data_frame = 0 ∷ 1 ∷ 5 ∷ hello

-- bits, a reply, a greeting of a node, and a frame of each other kind
abbrev pub frames : Steps
frames =
    (network.Ask 0 0, answer.Ask (Some bits))
    ∷ (network.Ask 0 0, answer.OutOfMemory)
    ∷ (network.Frame 1 bits (seconds 100), answer.Frame (received.Reply peers_1))
    ∷ (network.Frame 0 greeting_of_8 (seconds 100), answer.Frame (received.Greeted 8))
    ∷ (
      network.Frame 1 data_frame (seconds 100),
      answer.Frame (received.Data (record { channel = 1; message = hello })),
    )
    ∷ (network.Frame 1 [] (seconds 100), answer.Frame (received.Codec EndOfBuffer))
    ∷ (network.Frame 1 too_few (seconds 100), answer.Frame received.Malformed)
    ∷ []

abbrev pub peers : List ℕ → TrackedPeers ℕ ℕ
peers primary = record { primary = primary; secondary = [] }

abbrev pub nine : List ℕ
nine = 1 ∷ 2 ∷ 3 ∷ 4 ∷ 5 ∷ 6 ∷ 7 ∷ 8 ∷ 9 ∷ []

-- exchanges that are refused
abbrev pub refused : Steps
refused =
    (network.Exchange 0 1 5 (seconds 70) (seconds 100), answer.Exchange exchanged.NoSet)
    ∷ (
      network.Exchange 2 1 0 (seconds 70) (seconds 100),
      answer.Exchange (exchanged.ReplyRefused (InvalidLength 1)),
    )
    ∷ (
      network.Exchange 0 1 0 (seconds 0) (seconds 100),
      answer.Exchange (exchanged.Invalid SynchronyBound),
    )
    ∷ (network.Call 2 (command.Track 1 (peers nine)), answer.Call (reply.Track (Some [])))
    ∷ (
      network.Exchange 2 1 0 (seconds 70) (seconds 100),
      answer.Exchange (exchanged.AskRefused (InvalidLength 9)),
    )
    ∷ (network.Call 2 (command.Track 2 (peers (1 ∷ []))), answer.Call (reply.Track (Some [])))
    ∷ (network.Exchange 0 1 0 (seconds 70) (seconds 100), answer.Exchange exchanged.Memory)
    ∷ []

abbrev pub asked : NetworkCommand ℕ ℕ
asked = network.Exchange 0 1 0 (seconds 70) (seconds 100)

abbrev pub Infos : Type 0
Infos = Vec (Info ℕ ℕ) Global

-- an exchange is applied, and directly repeated; its peer is released at the replier
abbrev pub applied : Infos → Infos → Steps
applied brought none =
    (asked, answer.Exchange (exchanged.Applied brought))
    ∷ (asked, answer.Exchange (exchanged.Applied none))
    ∷ (network.Call 1 (command.Release 1), answer.Call reply.Release)
    ∷ []

-- the reply of before comes late, and again after the set of its peer was dropped
abbrev pub late : Infos → Steps
late passed =
    (network.Frame 0 peers_1 (seconds 1000), answer.Frame (received.Applied 1))
    ∷ (network.Call 0 (command.Track 2 (peers (2 ∷ 3 ∷ []))), answer.Call (reply.Track (Some [])))
    ∷ (network.Frame 0 peers_1 (seconds 2000), answer.Frame (received.Applied 1))
    ∷ (network.Call 0 (command.UpdatePeers passed), answer.Call reply.UpdatePeers)
    ∷ (network.Exchange 2 0 0 (seconds 70) (seconds 100), answer.Exchange exchanged.Malformed)
    ∷ []

abbrev pub steps : Infos → Infos → Infos → Steps
steps brought none passed = first ++ (frames ++ (refused ++ (applied brought none ++ late passed)))

abbrev pub commands : Infos → Infos → Infos → List (NetworkCommand ℕ ℕ)
commands brought none passed = commands_of (steps brought none passed)

abbrev pub replies : Infos → Infos → Infos → List (NetworkReply ℕ ℕ)
replies brought none passed = replies_of (steps brought none passed)

-- POINTS

abbrev pub after_frames : Done ℕ ℕ
after_frames = after frames done

abbrev pub after_refused : Done ℕ ℕ
after_refused = after refused after_frames

-- .. after the exchange that was applied, and before the late frames
abbrev pub once : Infos → Done ℕ ℕ
once brought = (asked, answer.Exchange (exchanged.Applied brought)) ∷ after_refused

abbrev pub before_late : Infos → Infos → Done ℕ ℕ
before_late brought none = after (applied brought none) after_refused

-- EACH REPLY IS THE ANSWER

pub are_first : AreSteps [] first
unfolding life IsStrictlySortedBy payload_at body_at data_at message_at length_at groups groups_at texts.info_at
    ingress_at ip_at socket_at bits_read_at bit_vec_read_at bits_in packed spellings elems items_at list_at
are_first = (
  (refl, inr (refl, record { sorted = tt; members = λ p. refl })),
  (
    (refl, inr (refl, record { sorted = tt; members = λ p. refl })),
    (
      (refl, inr (refl, record { sorted = tt; members = λ p. refl })),
      ((refl, refl), ((refl, refl), ((refl, refl), (refl, ((refl, inr refl), ((refl, inr refl), ((refl, inr refl), tt))))))),
    ),
  ),
)

are_frames : AreSteps done frames
unfolding life payload_at body_at data_at message_at length_at groups groups_at texts.info_at ingress_at ip_at
    socket_at bits_read_at bit_vec_read_at bits_in packed spellings elems items_at list_at
are_frames = (
  (refl, refl),
  ((refl, refl), ((refl, refl), ((refl, refl), ((refl, refl), ((refl, refl), ((refl, refl), tt)))))),
)

are_refused : AreSteps after_frames refused
unfolding life IsStrictlySortedBy payload_at body_at data_at message_at length_at groups groups_at texts.info_at
    ingress_at ip_at socket_at bits_read_at bit_vec_read_at bits_in packed spellings elems items_at list_at
are_refused = (
  (refl, refl),
  (
    (refl, refl),
    (
      (refl, refl),
      (
        (refl, inr (refl, record { sorted = tt; members = λ p. refl })),
        ((refl, refl), ((refl, inr (refl, record { sorted = tt; members = λ p. refl })), ((refl, refl), tt))),
      ),
    ),
  ),
)

pub answered : AreAnswered wire 3 three after_refused
answered = answered_of after_frames (answered_of done (answered_of [] tt first are_first) frames are_frames) refused
    are_refused

-- whatever has the infos that were brought, none, and the info that a command passes
module _ (brought none passed : Infos) (is_brought : brought.items ≡ signed 1 100000 ∷ [])
    (is_none : none.items ≡ []) (is_passed : passed.items ≡ signed 2 50000 ∷ []) where
  -- what the exchange comes to once more, after an update with these infos
  abbrev once_more : List (Info ℕ ℕ) → ExchangeOutcome ℕ ℕ
  once_more infos = exchanged_at
      (standing_in asker wire (world_after asker.directory (Update infos ∷ calls_at wire 3 three after_refused 0)))
      (standing_at wire 3 three after_refused 1) 0 (sec 70) (sec 100)

  nothing_more : once_more brought.items ≡ Applied none.items
  unfolding life payload_at body_at data_at message_at length_at groups groups_at texts.info_at ingress_at ip_at
      socket_at bits_read_at bit_vec_read_at bits_in packed spellings elems items_at list_at
  nothing_more = subst (λ infos. once_more infos ≡ Applied []) (sym is_brought) refl ∙ ap Applied (sym is_none)

  pub are_applied : AreSteps after_refused (applied brought none)
  unfolding life payload_at body_at data_at message_at length_at groups groups_at texts.info_at ingress_at ip_at
      socket_at bits_read_at bit_vec_read_at bits_in packed spellings elems items_at list_at
  are_applied = ((refl, ap Applied (sym is_brought)), ((refl, nothing_more), ((refl, inr refl), tt)))

  pub are_late : AreSteps (after (applied brought none) after_refused) (late passed)
  unfolding life IsStrictlySortedBy payload_at body_at data_at message_at length_at groups groups_at texts.info_at
      ingress_at ip_at socket_at bits_read_at bit_vec_read_at bits_in packed spellings elems items_at list_at
  are_late = (
    (refl, refl),
    (
      (refl, inr (refl, record { sorted = tt; members = λ p. refl })),
      ((refl, refl), ((refl, inr refl), ((refl, refl), tt))),
    ),
  )

  pub are_steps : AreSteps [] (steps brought none passed)
  are_steps = joined [] first (frames ++ (refused ++ (applied brought none ++ late passed))) are_first
      (joined done frames (refused ++ (applied brought none ++ late passed)) are_frames
      (joined after_frames refused (applied brought none ++ late passed) are_refused
      (joined after_refused (applied brought none) (late passed) are_applied are_late)))

  pub are_answers : AreNetworkAnswers wire 3 three [] (commands brought none passed) (replies brought none passed)
  are_answers = are_answers_of [] (steps brought none passed) are_steps

  pub answered_before_late : AreAnswered wire 3 three (before_late brought none)
  answered_before_late = answered_of after_refused answered (applied brought none) are_applied

  -- the replies are those of what was done
  pub is_done_after : done_after wire 3 three [] (commands brought none passed) (replies brought none passed)
      ≡ after (late passed) (before_late brought none)
  is_done_after = done_of [] (steps brought none passed)
