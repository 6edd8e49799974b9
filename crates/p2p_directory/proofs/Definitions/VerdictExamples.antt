-- Computed values of verdicts on signatures, worked out by hand beforehand: some that suffice at a
-- moment, some that don't, and some that no longer do. The node's own keys have no right signature.
use Rattle.std.proofs.Common.{◌≡◌, ℕ, Bool, true, false, List, [], ◌∷◌, ◌++◌, Option, Some, None}
use Rattle.std.proofs.Common.{refl, arith}
use Rattle.std.specs.Ordering.{nat_cmp}
use Rattle.std.specs.Prelude.{◌⊎◌}
use Rattle.std.proofs.lemmas.Cmp.{nat_cmp_total}
use Rattle.p2p_discovery.specs.declared.discovery.Error.{Error}
use Rattle.p2p_discovery.specs.declared.discovery.Error.TheVariants.{TooManyPeers, ReceivedSelf}
use Rattle.p2p_discovery.specs.declared.discovery.Error.TheVariants.{InvalidSignature}
use Rattle.p2p_discovery.specs.declared.discovery.Error.TheVariants.{SynchronyBound}
use Rattle.p2p_discovery.specs.declared.discovery.Info.{Info}
use Rattle.p2p_discovery.specs.Judgement.{Judge, judge_of, refusal, refusal_if, list_refusal}
use Rattle.p2p_discovery.specs.Judgement.{list_refusal_by, judged_before, to_verify}
use Rattle.p2p_discovery.specs.Payload.{body_at, payload_at}
use Rattle.p2p_discovery.specs.Data.{data_at, message_at}
use Rattle.p2p_discovery.specs.Counted.{length_at}
use Rattle.p2p_discovery.specs.Varint.{groups, groups_at}
use Rattle.p2p_discovery.specs.Info as texts
use Rattle.p2p_discovery.specs.Ingress.{ingress_at}
use Rattle.p2p_discovery.specs.Socket.{ip_at, socket_at}
use Rattle.p2p_discovery.specs.BitVec.{bits_read_at, bit_vec_read_at}
use Rattle.p2p_discovery.specs.Bits.{bits_in, packed}
use Rattle.p2p_discovery.specs.Lists.{spellings, elems, items_at, list_at}
use Rattle.p2p_tracker.specs.History.{life}
use Rattle.p2p_tracker.specs.Calls.{Call}
use Rattle.p2p_directory.specs.declared.node.received.Received.TheVariants as received
use Rattle.p2p_directory.specs.declared.node.received.Received.{Received}
use Rattle.p2p_directory.specs.Received.{Wire, Standing, FrameOutcome, first_verdict, received_at}
use Rattle.p2p_directory.specs.Received.{verdicts_of, received_by, only, applying}
use Rattle.p2p_directory.specs.Run.{world_after}
use Rattle.p2p_directory.specs.Nodes.{standing_in, NodeView, IsReceivedAt, given_verdicts}
use Rattle.p2p_directory.specs.Laws.Gossip.{IsMade}
use Rattle.p2p_directory.specs.Laws.LateFrames.{FitsAt, IsTaken}
use Rattle.p2p_directory.specs.Laws.Verdicts.{judge_with, AreToldBy, AreToldOf}
use Rattle.p2p_directory.proofs.Nodes.Frames.{frame_may_want_memory}
use Rattle.p2p_directory.proofs.Nodes.ReadBack.{wire_by}
use Rattle.p2p_directory.proofs.LawsOfGossip.FramesByVerdicts.{received_over}
use Rattle.p2p_directory.proofs.LawsOfGossip.Late.{takes_late}
use Rattle.p2p_directory.proofs.Definitions.ByteKeys.{is_fixed, spells}
use Rattle.p2p_directory.proofs.Definitions.LatePremises.{peers_1}
use Rattle.p2p_directory.proofs.Definitions.RunPremises.{exact}
use Rattle.p2p_directory.proofs.Definitions.Setting.{sec}
use Rattle.p2p_directory.proofs.Definitions.GossipExamples.{one, wire, signed, signed_elsewhere}
use Rattle.p2p_directory.proofs.Definitions.GossipExamples.{asker, asker_calls, at, stands}

-- ---- the setting: key 9, a bound of 30 s; the signature of p is right if it is p + 40

-- by the node's own keys no signature is right
abbrev none_is_right : ℕ → List ℕ → List ℕ → ℕ → Bool
none_is_right p namespace bytes signature = false

abbrev judge : Judge ℕ ℕ
judge = judge_of nat_cmp none_is_right asker.verifier

abbrev signed_judge : Judge ℕ ℕ
signed_judge = judge_with wire.verifies judge

abbrev AreTold : List (Info ℕ ℕ) → List Bool → Type 0
AreTold asked verdicts = AreToldBy wire.verifies judge.namespace asked verdicts

no : {A : Type 0} → false ≡ true → A
no e = absurd (cc)

wrong : {A : Type 0} → true ≡ false → A
wrong e = absurd (cc)

-- why infos are refused, by verdicts and by the signatures
abbrev by_verdicts : List Bool → ℕ → List (Info ℕ ℕ) → Option Error
by_verdicts verdicts now infos = list_refusal_by judge verdicts now infos

abbrev by_signatures : ℕ → List (Info ℕ ℕ) → Option Error
by_signatures now infos = list_refusal signed_judge now infos

-- ---- behind the first wrong signature nothing decides

abbrev mixed : List (Info ℕ ℕ)
mixed = signed 1 1000 ∷ signed_elsewhere 2 1000 ∷ signed_elsewhere 3 1000 ∷ signed 9 1000 ∷ []

-- the own key is refused without a signature
are_listed : to_verify judge (sec 100) mixed
    ≡ signed 1 1000 ∷ signed_elsewhere 2 1000 ∷ signed_elsewhere 3 1000 ∷ []
are_listed = refl

-- those of the signatures, one that is wrong behind the first denied, and too few
told :
    AreTold (to_verify judge (sec 100) mixed) (true ∷ false ∷ false ∷ false ∷ [])
    × AreTold (to_verify judge (sec 100) mixed) (true ∷ false ∷ true ∷ true ∷ [])
    × AreTold (to_verify judge (sec 100) mixed) (true ∷ false ∷ [])
told = ((refl, λ e. (refl, no)), (refl, λ e. (refl, no)), (refl, λ e. (refl, no)))

suffice :
    (by_signatures (sec 100) mixed ≡ Some InvalidSignature)
    × (by_verdicts (true ∷ false ∷ false ∷ false ∷ []) (sec 100) mixed ≡ Some InvalidSignature)
    × (by_verdicts (true ∷ false ∷ true ∷ true ∷ []) (sec 100) mixed ≡ Some InvalidSignature)
    × (by_verdicts (true ∷ false ∷ []) (sec 100) mixed ≡ Some InvalidSignature)
suffice = (refl, refl, refl, refl)

-- a wrong verdict on a signature that decides isn't told, and the refusal is another
not_told : AreTold (to_verify judge (sec 100) mixed) (true ∷ true ∷ true ∷ true ∷ []) → ⊥
not_told h = wrong (h.1 refl).0

no_verdict : AreTold (to_verify judge (sec 100) mixed) (true ∷ []) → ⊥
no_verdict h = h.1 refl

dont_suffice : by_verdicts (true ∷ true ∷ true ∷ true ∷ []) (sec 100) mixed ≡ Some ReceivedSelf
dont_suffice = refl

-- nor do verdicts on fewer infos than are to be verified: a list without the second would be wrong
fewer : AreTold (signed 1 1000 ∷ []) (true ∷ true ∷ true ∷ true ∷ [])
fewer = (refl, λ e. tt)

-- too many infos: nothing is listed, and no verdict decides
abbrev many : List (Info ℕ ℕ)
many = mixed ++ mixed ++ mixed

too_many :
    (to_verify judge (sec 100) many ≡ [])
    × (by_signatures (sec 100) many ≡ Some (TooManyPeers 12))
    × (by_verdicts [] (sec 100) many ≡ Some (TooManyPeers 12))
too_many = (refl, refl, refl)

-- ---- a later moment

-- the second info is of the future at 100 s, and its signature is wrong. That doesn't decide: a list
-- with it would be too long
abbrev early : List (Info ℕ ℕ)
early = signed 1 1000 ∷ signed_elsewhere 2 200000 ∷ []

told_then :
    (to_verify judge (sec 100) early ≡ signed 1 1000 ∷ [])
    × AreTold (to_verify judge (sec 100) early) (true ∷ true ∷ [])
    × (by_signatures (sec 100) early ≡ Some SynchronyBound)
    × (by_verdicts (true ∷ true ∷ []) (sec 100) early ≡ Some SynchronyBound)
told_then = (refl, (refl, λ e. tt), refl, refl)

-- at 170 s it is decided by an entry that nobody verified: the list would be taken
not_told_later : AreTold (to_verify judge (sec 170) early) (true ∷ true ∷ []) → ⊥
not_told_later h = wrong (h.1 refl).0

dont_suffice_later :
    (to_verify judge (sec 170) early ≡ early)
    × (by_signatures (sec 170) early ≡ Some InvalidSignature)
    × (by_verdicts (true ∷ true ∷ []) (sec 170) early ≡ None)
dont_suffice_later = (refl, refl, refl)

-- ---- the info of a greeting

abbrev once : Info ℕ ℕ
once = signed 1 1000

abbrev future : Info ℕ ℕ
future = signed 1 200000

greetings :
    AreTold (judged_before judge (sec 100) (once ∷ [])) (true ∷ [])
    × (refusal_if judge (first_verdict (true ∷ [])) (sec 100) once ≡ None)
    × (refusal signed_judge (sec 100) once ≡ None)
    × (refusal judge (sec 100) once ≡ Some InvalidSignature)
    × AreTold (judged_before judge (sec 100) (future ∷ [])) (false ∷ [])
    × (refusal_if judge (first_verdict (false ∷ [])) (sec 100) future ≡ Some SynchronyBound)
    × (refusal signed_judge (sec 100) future ≡ Some SynchronyBound)
greetings = ((refl, λ e. tt), refl, refl, refl, tt, refl, refl)

-- ---- frames

abbrev wire_of_none : Wire ℕ ℕ
wire_of_none = wire_by 1 (λ p. p ∷ []) one 1 (λ s. s ∷ []) one none_is_right

-- the node of key 9 after track(0, [1, 2]), by no signature
abbrev node : Standing ℕ ℕ
node = standing_in asker wire_of_none (at asker asker_calls)

-- encodings: 1@1000, and 2@200000 with a wrong signature
abbrev one_at_1000 : List ℕ
one_at_1000 = 0 ∷ 4 ∷ 1 ∷ 2 ∷ 3 ∷ 4 ∷ 31 ∷ 65 ∷ 232 ∷ 7 ∷ 1 ∷ 41 ∷ []

abbrev two_at_200000 : List ℕ
two_at_200000 = 0 ∷ 4 ∷ 1 ∷ 2 ∷ 3 ∷ 4 ∷ 31 ∷ 66 ∷ 192 ∷ 154 ∷ 12 ∷ 2 ∷ 52 ∷ []

-- a greeting, and infos: one, and both
abbrev greeting : List ℕ
greeting = 1 ∷ one_at_1000

abbrev peers : List ℕ
peers = 3 ∷ 1 ∷ one_at_1000

abbrev both : List ℕ
both = 3 ∷ 2 ∷ one_at_1000 ++ two_at_200000

abbrev AreToldOfFrame : List ℕ → ℕ → List Bool → Type 0
AreToldOfFrame frame now verdicts = AreToldOf wire.verifies wire_of_none node frame now verdicts

-- what is answered: by verdicts, by the signatures, and by the node's own keys
abbrev given : List Bool → List ℕ → ℕ → FrameOutcome ℕ ℕ
given verdicts frame now = received_by wire_of_none (λ _. verdicts) node frame now

abbrev by_wire : List ℕ → ℕ → FrameOutcome ℕ ℕ
by_wire frame now = received_at wire (stands asker asker_calls) frame now

abbrev by_keys : List ℕ → ℕ → FrameOutcome ℕ ℕ
by_keys frame now = received_at wire_of_none node frame now

abbrev is_greeted : FrameOutcome ℕ ℕ
is_greeted = applying (received.Greeted 1) (signed 1 1000 ∷ [])

abbrev is_applied : FrameOutcome ℕ ℕ
is_applied = applying (received.Applied 1) (signed 1 1000 ∷ [])

frames_by_verdicts :
    AreToldOfFrame peers (sec 100) (true ∷ [])
    × (given (true ∷ []) peers (sec 100) ≡ is_applied)
    × (by_wire peers (sec 100) ≡ is_applied)
    × (by_keys peers (sec 100) ≡ only (received.Invalid InvalidSignature))
    × AreToldOfFrame greeting (sec 100) (true ∷ [])
    × (given (true ∷ []) greeting (sec 100) ≡ is_greeted)
    × (by_wire greeting (sec 100) ≡ is_greeted)
    -- an info of the future
    × AreToldOfFrame both (sec 100) (true ∷ true ∷ [])
    × (given (true ∷ true ∷ []) both (sec 100) ≡ only (received.Invalid SynchronyBound))
    × (by_wire both (sec 100) ≡ only (received.Invalid SynchronyBound))
    -- .. and the same verdicts when it no longer is one
    × (given (true ∷ true ∷ []) both (sec 170) ≡ applying (received.Applied 2) early)
    × (by_wire both (sec 170) ≡ only (received.Invalid InvalidSignature))
unfolding life payload_at body_at data_at message_at length_at groups groups_at texts.info_at
    ingress_at ip_at socket_at bits_read_at bit_vec_read_at bits_in packed spellings elems items_at
    list_at
frames_by_verdicts = (
  (refl, λ e. tt),
  refl,
  refl,
  refl,
  (refl, λ e. tt),
  refl,
  refl,
  (refl, λ e. tt),
  refl,
  refl,
  refl,
  refl,
)

not_told_of_frame : AreToldOfFrame both (sec 170) (true ∷ true ∷ []) → ⊥
unfolding life payload_at body_at data_at message_at length_at groups groups_at texts.info_at
    ingress_at ip_at socket_at bits_read_at bit_vec_read_at bits_in packed spellings elems items_at
    list_at
not_told_of_frame h = wrong (h.1 refl).0

-- ---- a late frame: whatever was done to the node before, which has no right signature by its keys

made : IsMade nat_cmp asker
made = record { order = refl; me = refl; sets = omega arith }

fits : FitsAt asker (sec 100) (sec 70) (signed 1 100000 ∷ [])
fits = record { peers = omega arith; count = omega arith; moments = omega arith }

late_is_taken : (calls : List (Call ℕ ℕ)) (r : Received ℕ ℕ) (v : NodeView ℕ ℕ) →
    IsReceivedAt asker wire_of_none calls (given_verdicts (true ∷ [])) peers_1 (sec 70) r v →
    (r ≡ received.Applied 1) ⊎ (r ≡ received.Memory)
unfolding payload_at body_at data_at message_at length_at groups groups_at texts.info_at
    ingress_at ip_at socket_at bits_read_at bit_vec_read_at bits_in packed spellings elems items_at
    list_at
late_is_taken calls r v is =
    let over : IsReceivedAt asker wire calls verdicts_of peers_1 (sec 70) r v =
    received_over wire.verifies wire_of_none (sec 70) (true ∷ []) asker calls peers_1 r v
    (refl, λ e. tt) is in
    let taken : IsTaken asker calls (signed 1 100000 ∷ []) r _ =
    takes_late is_fixed is_fixed wire.verifies nat_cmp nat_cmp_total exact asker made calls peers_1
    (sec 70) r (frame_may_want_memory wire (standing_in asker wire (world_after asker.directory
    calls)) peers_1 (sec 70)) over.answer (sec 100) (signed 1 100000 ∷ []) spells fits in
    taken.answer
