-- Frames of the run of ShownRun that meet the premises of the laws of greetings, replies and late
-- frames, and points of it where those of isolation and order speak. Wrong results are then refused.
use Rattle.std.proofs.Common.{◌≡◌, ℕ, true, false, List, [], ◌∷◌, ◌++◌, Some, inl, inr, refl}
use Rattle.std.proofs.Common.{sym, subst, ap, arith, ◌∙◌}
use Rattle.std.specs.Prelude.{◌⊎◌}
use Rattle.p2p_discovery.specs.declared.discovery.Info.{Info}
use Rattle.p2p_discovery.specs.declared.discovery.Payload.TheVariants as said
use Rattle.p2p_discovery.specs.Payload.{body_at, payload_at}
use Rattle.p2p_discovery.specs.Data.{data_at, message_at}
use Rattle.p2p_discovery.specs.Counted.{length_at}
use Rattle.p2p_discovery.specs.Varint.{groups, groups_at}
use Rattle.p2p_discovery.specs.Info as texts
use Rattle.p2p_discovery.specs.Ingress.{ingress_at}
use Rattle.p2p_discovery.specs.Socket.{ip_at, socket_at}
use Rattle.p2p_discovery.specs.BitVec.{bits_read_at, bit_vec_read_at}
use Rattle.p2p_discovery.specs.Bits.{bits_in, packed}
use Rattle.p2p_discovery.specs.Lists.{spellings, elems, items_at, list_at}
use Rattle.p2p_tracker.specs.Calls.Call.{Update}
use Rattle.p2p_tracker.specs.History.{life}
use Rattle.p2p_directory.specs.declared.node.received.Received.{Received}
use Rattle.p2p_directory.specs.declared.node.received.Received.TheVariants as received
use Rattle.p2p_directory.specs.declared.node.network.commands.NetworkCommand.{NetworkCommand}
use Rattle.p2p_directory.specs.declared.node.network.commands.NetworkCommand.TheVariants as network
use Rattle.p2p_directory.specs.declared.node.network.commands.NetworkReply.TheVariants as answer
use Rattle.p2p_directory.specs.declared.run.commands.Command.TheVariants as command
use Rattle.p2p_directory.specs.declared.run.commands.Reply.TheVariants as reply
use Rattle.p2p_directory.specs.Run.{world_after}
use Rattle.p2p_directory.specs.Network.{Done, calls_at, world_at_node}
use Rattle.p2p_directory.specs.Laws.Isolation.{left_for}
use Rattle.p2p_directory.specs.Laws.LateFrames.{FitsAt, AreKnown, IsTaken}
use Rattle.p2p_directory.specs.Laws.Network.{IsGivenOnly, HaveOneList}
use Rattle.p2p_directory.specs.Laws.Network.{TakesGreeting, TakesFrame, RepliesInfos, IsReplyFor, AreWritten}
use Rattle.p2p_directory.specs.Laws.Order.{HaveSame, IsUnambiguous, Member}
use Rattle.p2p_directory.specs.Laws.OrderRuns.{with_updates}
use Rattle.p2p_directory.proofs.Definitions.Setting.{sec, track}
use Rattle.p2p_directory.proofs.Definitions.GossipExamples.{wire, signed, asker, replier, own_of_8}
use Rattle.p2p_directory.proofs.Definitions.LatePremises.{peers_1}
use Rattle.p2p_directory.proofs.Definitions.ByteKeys.{IsByte, spells}
use Rattle.p2p_directory.proofs.Definitions.ExchangePremises.{three, done, seconds, x, IsHonest, honest, one_list}
use Rattle.p2p_directory.proofs.Definitions.ShownRun.{Infos, Steps, commands_of, replies_of, first, bits, peers, greeting_of_8, frames, after, after_refused}
use Rattle.p2p_directory.proofs.Definitions.ShownRun.{once, before_late, after_frames, refused, applied, late, commands, replies}

-- REPLIES: node 0 was asked for its bits, and node 1 is handed them

abbrev questioned : Done ℕ ℕ
questioned = (network.Ask 0 0, answer.OutOfMemory) ∷ (network.Ask 0 0, answer.Ask (Some bits)) ∷ done

replier_is_honest : IsGivenOnly wire 3 three 1 IsHonest questioned
replier_is_honest = record { own = honest.own; given = ((λ e. tt), ((λ e. tt), honest.given)) }

have_one_list : HaveOneList wire 3 three done questioned 0 1 0 x
have_one_list = record {
  at_place = one_list.at_place;
  kept = one_list.kept;
  retained = one_list.retained;
  one_list = one_list.one_list;
}

-- each reply is then for node 0
is_for_0 : (given : List ℕ) →
    RepliesInfos wire 3 three IsByte IsByte questioned (network.Frame 1 bits (seconds 100)) (answer.Frame (received.Reply given)) →
    IsReplyFor wire 3 three IsByte IsByte 0 1 (sec 100) given
is_for_0 given kept = kept ((network.Ask 0 0, answer.OutOfMemory) ∷ []) done 0 0 x given refl replier_is_honest
    have_one_list refl

-- and no empty frame is one
empty_is_refused : RepliesInfos wire 3 three IsByte IsByte questioned (network.Frame 1 bits (seconds 100))
    (answer.Frame (received.Reply [])) → ⊥
empty_is_refused kept =
    let is : IsReplyFor wire 3 three IsByte IsByte 0 1 (sec 100) [] = is_for_0 [] kept in
    absurd (let e : [] ≡ wire.spelling (said.Peers is.infos) = is.spells.spelled in cc)

-- all that is told in the run is made of values of their types, as the law wants it

abbrev AreWrittenFrom : Done ℕ ℕ → Steps → Type 0
AreWrittenFrom before xs = AreWritten wire 3 three IsByte IsByte before (commands_of xs) (replies_of xs)

first_written : AreWrittenFrom [] first
unfolding life payload_at body_at data_at message_at length_at groups groups_at texts.info_at ingress_at ip_at
    socket_at bits_read_at bit_vec_read_at bits_in packed spellings elems items_at list_at
first_written =
    (tt, (tt, (tt, ((tt, tt), ((tt, tt), ((tt, tt), (tt, (tt, (tt, (tt, tt))))))))))

frames_written : AreWrittenFrom done frames
unfolding life payload_at body_at data_at message_at length_at groups groups_at texts.info_at ingress_at ip_at
    socket_at bits_read_at bit_vec_read_at bits_in packed spellings elems items_at list_at
frames_written =
    ((omega arith, omega arith), (tt, (spells.values, ((tt, tt), ((tt, tt), ((tt, tt), ((tt, tt), tt)))))))

refused_written : AreWrittenFrom after_frames refused
refused_written = (tt, (tt, (tt, (tt, (tt, (tt, (tt, tt)))))))

joined_written : (before : Done ℕ ℕ) (xs ys : Steps) → AreWrittenFrom before xs → AreWrittenFrom (after xs before) ys →
    AreWrittenFrom before (xs ++ ys)
joined_written before [] ys h k = k
joined_written before (x ∷ xs) ys h k = (h.0, joined_written (x ∷ before) xs ys h.1 k)

module _ (brought none passed : Infos) where
  applied_written : AreWrittenFrom after_refused (applied brought none)
  applied_written = (tt, (tt, (tt, tt)))

  late_written : AreWrittenFrom (before_late brought none) (late passed)
  unfolding life payload_at body_at data_at message_at length_at groups groups_at texts.info_at ingress_at ip_at
      socket_at bits_read_at bit_vec_read_at bits_in packed spellings elems items_at list_at
  late_written = ((tt, tt), (tt, ((tt, tt), (tt, (tt, tt)))))

  pub are_written : AreWritten wire 3 three IsByte IsByte [] (commands brought none passed) (replies brought none passed)
  are_written = joined_written [] first (frames ++ (refused ++ (applied brought none ++ late passed))) first_written
      (joined_written done frames (refused ++ (applied brought none ++ late passed)) frames_written
      (joined_written after_frames refused (applied brought none ++ late passed) refused_written
      (joined_written after_refused (applied brought none) (late passed) applied_written late_written)))

-- GREETINGS: node 0 receives that of node 1

abbrev before_greeting : Done ℕ ℕ
before_greeting = (network.Frame 1 bits (seconds 100), answer.Frame (received.Reply peers_1)) ∷ questioned

greeting_is_taken : (r : Received ℕ ℕ) →
    TakesGreeting wire 3 three before_greeting (network.Frame 0 greeting_of_8 (seconds 100)) (answer.Frame r) →
    (r ≡ received.Greeted 8) ⊎ (r ≡ received.Memory)
unfolding groups
greeting_is_taken r takes = takes 1 refl refl refl refl (omega arith)

-- LATE FRAMES: the reply comes at 1000 s, and again at 2000 s, when the set of its peer was dropped

abbrev late_frame : ℕ → NetworkCommand ℕ ℕ
late_frame n = network.Frame 0 peers_1 (seconds n)

fits_at : FitsAt asker (sec 100) (sec 1000) (signed 1 100000 ∷ [])
fits_at = record { peers = omega arith; count = omega arith; moments = omega arith }

fits_later : FitsAt asker (sec 100) (sec 2000) (signed 1 100000 ∷ [])
fits_later = record { peers = omega arith; count = omega arith; moments = omega arith }

-- whatever has the infos that were brought, and none
module _ (brought none : Infos) (is_brought : brought.items ≡ signed 1 100000 ∷ []) (is_none : none.items ≡ []) where
  abbrev first_late : Done ℕ ℕ
  first_late = before_late brought none

  abbrev dropped : Done ℕ ℕ
  dropped = (network.Call 0 (command.Track 2 (peers (2 ∷ 3 ∷ []))), answer.Call (reply.Track (Some [])))
      ∷ (late_frame 1000, answer.Frame (received.Applied 1)) ∷ first_late

  is_taken : (r : Received ℕ ℕ) → TakesFrame wire 3 three IsByte IsByte first_late (late_frame 1000) (answer.Frame r) →
      (r ≡ received.Applied 1) ⊎ (r ≡ received.Memory)
  is_taken r takes = let taken : IsTaken asker (calls_at wire 3 three first_late 0) (signed 1 100000 ∷ []) r
      (calls_at wire 3 three ((late_frame 1000, answer.Frame r) ∷ first_late) 0) =
      takes (sec 100) (signed 1 100000 ∷ []) spells fits_at in taken.answer

  is_taken_later : (r : Received ℕ ℕ) → TakesFrame wire 3 three IsByte IsByte dropped (late_frame 2000) (answer.Frame r) →
      (r ≡ received.Applied 1) ⊎ (r ≡ received.Memory)
  is_taken_later r takes = let taken : IsTaken asker (calls_at wire 3 three dropped 0) (signed 1 100000 ∷ []) r
      (calls_at wire 3 three ((late_frame 2000, answer.Frame r) ∷ dropped) 0) =
      takes (sec 100) (signed 1 100000 ∷ []) spells fits_later in taken.answer

  -- both change nothing: the first info is known, and the peer of the second is absent
  abbrev known_after : List (Info ℕ ℕ) → List (Info ℕ ℕ) → Type 0
  known_after infos more = AreKnown asker
      (world_after asker.directory (Update more ∷ Update infos ∷ calls_at wire 3 three after_refused 0)) (signed 1 100000 ∷ [])

  known : AreKnown asker (world_at_node wire 3 three first_late 0) (signed 1 100000 ∷ [])
  unfolding life payload_at body_at data_at message_at length_at groups groups_at texts.info_at ingress_at ip_at
      socket_at bits_read_at bit_vec_read_at bits_in packed spellings elems items_at list_at
  known = subst (λ more. known_after brought.items more) (sym is_none)
      (subst (λ infos. known_after infos []) (sym is_brought) ((λ present. omega arith), tt))

  absent : AreKnown asker (world_at_node wire 3 three dropped 0) (signed 1 100000 ∷ [])
  unfolding life payload_at body_at data_at message_at length_at groups groups_at texts.info_at ingress_at ip_at
      socket_at bits_read_at bit_vec_read_at bits_in packed spellings elems items_at list_at
  absent = ((λ present. absurd (let e : false ≡ true = present in cc)), tt)

  -- ISOLATION: of the calls of node 1, those on peer 1 are left out for peer 2

  left_out : left_for replier.directory 2 (calls_at wire 3 three first_late 1) ≡ Update [] ∷ track 0 (1 ∷ 2 ∷ []) ∷ []
  unfolding payload_at body_at data_at message_at length_at groups groups_at texts.info_at ingress_at ip_at
      socket_at bits_read_at bit_vec_read_at bits_in packed spellings elems items_at list_at
  left_out = refl

  -- ORDER: node 0 was given two infos one after the other, which may be given in the other order

  abbrev some : List (Info ℕ ℕ)
  some = own_of_8 ∷ []

  in_order : calls_at wire 3 three (once brought) 0
      ≡ [] ++ with_updates asker.directory (some ∷ brought.items ∷ []) (track 0 (1 ∷ 2 ∷ []) ∷ [])
  unfolding payload_at body_at data_at message_at length_at groups groups_at texts.info_at ingress_at ip_at
      socket_at bits_read_at bit_vec_read_at bits_in packed spellings elems items_at list_at
  in_order = refl

  in_other_order : HaveSame (own_of_8 ∷ signed 1 100000 ∷ []) (signed 1 100000 ∷ own_of_8 ∷ [])
  in_other_order i = (swapped, swapped_back)
    where
      swapped : Member (own_of_8 ∷ signed 1 100000 ∷ []) i → Member (signed 1 100000 ∷ own_of_8 ∷ []) i
      swapped (inl e) = inr (inl e)
      swapped (inr (inl e)) = inl e
      swapped (inr (inr none)) = absurd none

      swapped_back : Member (signed 1 100000 ∷ own_of_8 ∷ []) i → Member (own_of_8 ∷ signed 1 100000 ∷ []) i
      swapped_back (inl e) = inr (inl e)
      swapped_back (inr (inl e)) = inl e
      swapped_back (inr (inr none)) = absurd none

  apart : IsUnambiguous asker.directory (own_of_8 ∷ signed 1 100000 ∷ [])
  apart p i j (inl e) (inl f) a b t = e ∙ sym f
  apart p i j (inl e) (inr (inl f)) a b t =
      absurd (let no : 0 ≡ 100000 = sym (ap (λ k. k.timestamp) e) ∙ (t ∙ ap (λ k. k.timestamp) f) in cc)
  apart p i j (inr (inl e)) (inl f) a b t =
      absurd (let no : 100000 ≡ 0 = sym (ap (λ k. k.timestamp) e) ∙ (t ∙ ap (λ k. k.timestamp) f) in cc)
  apart p i j (inr (inl e)) (inr (inl f)) a b t = e ∙ sym f
  apart p i j (inl e) (inr (inr none)) a b t = absurd none
  apart p i j (inr (inl e)) (inr (inr none)) a b t = absurd none
  apart p i j (inr (inr none)) m a b t = absurd none
