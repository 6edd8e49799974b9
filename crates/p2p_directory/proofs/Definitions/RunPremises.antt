-- The run of ShownRun meets the premises of the laws of exchanges, given, infos, newer, reach and
-- acquaintance where their conclusions speak. Those of frames, isolation and order are in RunFrames.
use Rattle.std.proofs.Common.{◌≡◌, ℕ, zero, suc, ◌^◌, ◌<◌, true, false, List, [], ◌∷◌, Option, Some, refl}
use Rattle.std.proofs.Common.{sym, subst, ap, arith, ◌∙◌}
use Rattle.std.specs.Prelude.{◌⊎◌, IfSome}
use Rattle.std.specs.List.{AllByRecursion}
use Rattle.std.specs.Ordering.{nat_cmp}
use Rattle.std.specs.declared.cmp.Ordering.TheVariants.{Equal}
use Rattle.std.proofs.lemmas.Cmp.{nat_cmp_total, ranked}
use Rattle.p2p_discovery.specs.declared.discovery.Info.{Info}
use Rattle.p2p_discovery.specs.Reading.{IsBytes}
use Rattle.p2p_discovery.specs.Info.{IsInfo, IsKeyed}
use Rattle.p2p_discovery.specs.Payload.{body_at, payload_at}
use Rattle.p2p_discovery.specs.Data.{data_at, message_at}
use Rattle.p2p_discovery.specs.Counted.{length_at}
use Rattle.p2p_discovery.specs.Varint.{groups, groups_at}
use Rattle.p2p_discovery.specs.Info as texts
use Rattle.p2p_discovery.specs.Ingress.{ingress_at}
use Rattle.p2p_discovery.specs.Socket.{ip_at, socket_at}
use Rattle.p2p_discovery.specs.BitVec.{bits_read_at, bit_vec_read_at}
use Rattle.p2p_discovery.specs.Bits.{bits_in, packed}
use Rattle.p2p_discovery.specs.Lists.{spellings, elems, items_at, list_at}
use Rattle.p2p_tracker.specs.Calls.Call.{Update}
use Rattle.p2p_tracker.specs.History.{life}
use Rattle.p2p_directory.specs.declared.node.exchanged.Exchanged.{Exchanged}
use Rattle.p2p_directory.specs.declared.node.exchanged.Exchanged.TheVariants as exchanged
use Rattle.p2p_directory.specs.Exchange.{infos_applied}
use Rattle.p2p_directory.specs.declared.node.network.commands.NetworkCommand.{NetworkCommand}
use Rattle.p2p_directory.specs.declared.node.network.commands.NetworkCommand.TheVariants as network
use Rattle.p2p_directory.specs.declared.node.network.commands.NetworkReply.{NetworkReply}
use Rattle.p2p_directory.specs.declared.node.network.commands.NetworkReply.TheVariants as answer
use Rattle.p2p_tracker.specs.Answers.{sharable_info}
use Rattle.p2p_directory.specs.declared.run.commands.Command.TheVariants as command
use Rattle.p2p_directory.specs.declared.run.commands.Reply.TheVariants as reply
use Rattle.p2p_directory.specs.Run.{world_after}
use Rattle.p2p_directory.specs.Network.{Done, is_node, calls_at, world_at_node}
use Rattle.p2p_directory.specs.Laws.Gossip.{IsSince, unless_above}
use Rattle.p2p_directory.specs.Laws.Network.{AreMade, GivesTo, AreAllGiven, IsGivenOnly, HoldsOnly, IsSignedFor, HaveOneList, Fits}
use Rattle.p2p_directory.specs.Laws.Network.{MayBring, Brings, BringsWanted, OfEachReply, AreSame, info_to_bring, infos_to_bring, StaysPresent, HoldsSince}
use Rattle.p2p_directory.proofs.LawsOfNetworks.Provenance.{AreAnswered, gives_signed, hold_signed}
use Rattle.p2p_directory.proofs.LawsOfNetworks.Exchanges.{keep_exchanges}
use Rattle.p2p_directory.proofs.LawsOfNetworks.Reach.{reach, acquaint}
use Rattle.p2p_directory.proofs.LawsOfNetworks.Newer.{only_get_newer}
use Rattle.p2p_directory.proofs.Definitions.Setting.{sec}
use Rattle.p2p_directory.proofs.Definitions.GossipExamples.{wire, signed, asker, replier}
use Rattle.p2p_directory.proofs.Definitions.ByteKeys.{IsByte}
use Rattle.p2p_directory.proofs.Definitions.ExchangePremises.{three, done, seconds, x, IsHonest}
use Rattle.p2p_directory.proofs.Definitions.ShownRun.{Steps, AreSteps, Infos, after, first, frames, refused, applied}
use Rattle.p2p_directory.proofs.Definitions.ShownRun.{late, asked, after_frames, after_refused, answered, answered_of}
use Rattle.p2p_directory.proofs.Definitions.ShownRun.{are_applied, are_late, once, before_late, answered_before_late}

-- WHAT THE NODES ARE MADE FROM

pub are_made : AreMade wire 3 three nat_cmp
are_made zero there = record { order = refl; me = refl; sets = omega arith }
are_made (suc zero) there = record { order = refl; me = refl; sets = omega arith }
are_made (suc (suc i)) there = record { order = refl; me = refl; sets = omega arith }

pub exact : (q p : ℕ) → nat_cmp q p ≡ Equal → q ≡ p
exact q p e = ranked q p Equal (sym e)

pub bits_are_few : (i : ℕ) → is_node wire 3 three i ≡ true → (three i).limits.max_bit_vec < 2 ^ 32
bits_are_few zero there = omega arith
bits_are_few (suc zero) there = omega arith
bits_are_few (suc (suc i)) there = omega arith

bytes_8888 : IsBytes (8 ∷ 8 ∷ 8 ∷ 8 ∷ [])
bytes_8888 zero = omega arith
bytes_8888 (suc zero) = omega arith
bytes_8888 (suc (suc zero)) = omega arith
bytes_8888 (suc (suc (suc zero))) = omega arith
bytes_8888 (suc (suc (suc (suc i)))) = omega arith

bytes_8844 : IsBytes (8 ∷ 8 ∷ 4 ∷ 4 ∷ [])
bytes_8844 zero = omega arith
bytes_8844 (suc zero) = omega arith
bytes_8844 (suc (suc zero)) = omega arith
bytes_8844 (suc (suc (suc zero))) = omega arith
bytes_8844 (suc (suc (suc (suc i)))) = omega arith

pub own_are_infos : (i : ℕ) → is_node wire 3 three i ≡ true → IsInfo (three i).directory.own
own_are_infos zero there = record { ingress = ((refl, bytes_8888), omega arith); timestamp = omega arith }
own_are_infos (suc zero) there = record { ingress = ((refl, bytes_8844), omega arith); timestamp = omega arith }
own_are_infos (suc (suc i)) there = record { ingress = ((refl, bytes_8844), omega arith); timestamp = omega arith }

pub own_are_keyed : (i : ℕ) → is_node wire 3 three i ≡ true → IsKeyed IsByte IsByte (three i).directory.own
own_are_keyed zero there = record { key = omega arith; signature = omega arith }
own_are_keyed (suc zero) there = record { key = omega arith; signature = omega arith }
own_are_keyed (suc (suc i)) there = record { key = omega arith; signature = omega arith }

-- GIVEN: what holds of all own infos and of each that is given from outside

module _ (P : Info ℕ ℕ → Type 0) (of_own : (i : ℕ) → is_node wire 3 three i ≡ true → P (three i).directory.own)
    (of_1 : P (signed 1 100000)) where
  abbrev IsGiven : NetworkCommand ℕ ℕ × NetworkReply ℕ ℕ → Type 0
  IsGiven = GivesTo wire 3 three P

  all_after : (xs : Steps) (before : Done ℕ ℕ) → AllByRecursion IsGiven xs → AllByRecursion IsGiven before →
      AllByRecursion IsGiven (after xs before)
  all_after [] before h k = k
  all_after (x ∷ xs) before h k = all_after xs (x ∷ before) h.1 (h.0, k)

  not_applied : {A : Type 0} → false ≡ true → A
  not_applied e = absurd (cc)

  given_first : AllByRecursion IsGiven first
  unfolding payload_at body_at data_at message_at length_at groups groups_at texts.info_at ingress_at ip_at
      socket_at bits_read_at bit_vec_read_at bits_in packed spellings elems items_at list_at
  given_first =
      (tt, (tt, (tt, (not_applied, (not_applied, ((λ e. (of_1, tt)), (tt, (tt, (tt, (tt, tt))))))))))

  given_frames : AllByRecursion IsGiven frames
  unfolding payload_at body_at data_at message_at length_at groups groups_at texts.info_at ingress_at ip_at
      socket_at bits_read_at bit_vec_read_at bits_in packed spellings elems items_at list_at
  given_frames =
      (tt, (tt, (not_applied, ((λ e. (of_own 1 refl, tt)), (not_applied, (not_applied, (not_applied, tt)))))))

  given_refused : AllByRecursion IsGiven refused
  given_refused = (tt, (tt, (tt, (tt, (tt, (tt, (tt, tt)))))))

  all_given_by : AllByRecursion IsGiven after_refused
  all_given_by = all_after refused after_frames given_refused
      (all_after frames done given_frames (all_after first [] given_first tt))

  -- .. in the whole run
  module _ (brought none passed : Infos) (of_passed : AllByRecursion P passed.items) where
    given_late : AllByRecursion IsGiven (late passed)
    unfolding payload_at body_at data_at message_at length_at groups groups_at texts.info_at ingress_at ip_at
        socket_at bits_read_at bit_vec_read_at bits_in packed spellings elems items_at list_at
    given_late = ((λ e. (of_1, tt)), (tt, ((λ e. (of_1, tt)), (of_passed, (tt, tt)))))

    all_given_to_end : AreAllGiven wire 3 three P (after (late passed) (before_late brought none))
    all_given_to_end = record {
      own = of_own;
      given = all_after (late passed) (before_late brought none) given_late
          (all_after (applied brought none) after_refused (tt, (tt, (tt, tt))) all_given_by);
    }

-- all of them are signed

own_are_honest : (i : ℕ) → is_node wire 3 three i ≡ true → IsHonest (three i).directory.own
own_are_honest zero there = record { at_asker = refl; at_replier = refl }
own_are_honest (suc zero) there = record { at_asker = refl; at_replier = refl }
own_are_honest (suc (suc i)) there = record { at_asker = refl; at_replier = refl }

all_given : AreAllGiven wire 3 three IsHonest after_refused
all_given = record {
  own = own_are_honest;
  given = all_given_by IsHonest own_are_honest (record { at_asker = refl; at_replier = refl });
}

-- so is all that the replier was given
honest : IsGivenOnly wire 3 three 1 IsHonest after_refused
honest = (gives_signed wire 3 three after_refused answered 0 1).1 all_given 1

-- EXCHANGES

one_list : HaveOneList wire 3 three after_refused after_refused 0 1 0 x
unfolding life payload_at body_at data_at message_at length_at groups groups_at texts.info_at ingress_at ip_at
    socket_at bits_read_at bit_vec_read_at bits_in packed spellings elems items_at list_at
one_list = record { at_place = refl; kept = x; retained = refl; one_list = refl }

to_bring : infos_to_bring wire 3 three after_refused 0 1 (sec 100) x ≡ signed 1 100000 ∷ []
unfolding life payload_at body_at data_at message_at length_at groups groups_at texts.info_at ingress_at ip_at
    socket_at bits_read_at bit_vec_read_at bits_in packed spellings elems items_at list_at
to_bring = refl

fits : Fits wire 3 three 0 1 (sec 70) (sec 100) x (signed 1 100000 ∷ [])
fits = record { bits = omega arith; peers = omega arith; count = omega arith; moments = omega arith }

pub may_bring : MayBring wire 3 three after_refused 0 1 0 (seconds 70) (seconds 100) x
may_bring = record {
  honest = honest;
  one = one_list;
  fits = subst (Fits wire 3 three 0 1 (sec 70) (sec 100) x) (sym to_bring) fits;
}

-- the law then leaves an exchange no other replies
exchange_is_applied : (r : Exchanged ℕ ℕ) →
    OfEachReply wire 3 three (BringsWanted wire 3 three) after_refused (asked ∷ []) (answer.Exchange r ∷ []) →
    (infos_applied r ≡ Some (infos_to_bring wire 3 three after_refused 0 1 (sec 100) x))
    ⊎ (r ≡ exchanged.Memory)
exchange_is_applied r kept =
    let brings : Brings wire 3 three after_refused 0 1 (sec 100) x asked r
    (infos_to_bring wire 3 three after_refused 0 1 (sec 100) x) = kept.0 x may_bring in
    brings.answer

-- whatever has the infos that were brought, none, and the info that a command passes
module _ (brought none passed : Infos) (is_brought : brought.items ≡ signed 1 100000 ∷ [])
    (is_none : none.items ≡ []) (is_passed : passed.items ≡ signed 2 50000 ∷ []) where
  abbrev run_once : Done ℕ ℕ
  run_once = once brought

  abbrev run_late : Done ℕ ℕ
  run_late = before_late brought none

  abbrev twice : Done ℕ ℕ
  twice = (asked, answer.Exchange (exchanged.Applied none)) ∷ run_once

  run_answered : AreAnswered wire 3 three run_late
  run_answered = answered_before_late brought none passed is_brought is_none is_passed

  abbrev answers : AreSteps after_refused (applied brought none)
  answers = are_applied brought none passed is_brought is_none is_passed

  brings : Brings wire 3 three after_refused 0 1 (sec 100) x asked (exchanged.Applied brought)
      (infos_to_bring wire 3 three after_refused 0 1 (sec 100) x)
  brings = (keep_exchanges wire 3 three nat_cmp nat_cmp_total exact are_made after_refused answered (asked ∷ [])
      (answer.Exchange (exchanged.Applied brought) ∷ []) (answers.0, tt)).0 x may_bring

  -- it was applied with these infos; directly repeated it changed nothing
  was_brought : Some brought.items ≡ Some (infos_to_bring wire 3 three after_refused 0 1 (sec 100) x)
  was_brought = ap Some (is_brought ∙ sym to_bring)

  unchanged : AreSame wire 3 three run_once twice
  unchanged = (brings.again was_brought (exchanged.Applied none) answers.1.0).1

  -- NEWER, REACH AND ACQUAINTANCE: the peer stays present at node 0 until the late frame

  abbrev later : Done ℕ ℕ
  later = (network.Call 1 (command.Release 1), answer.Call reply.Release)
      ∷ (asked, answer.Exchange (exchanged.Applied none)) ∷ []

  stays : StaysPresent wire 3 three 0 1 later run_once
  unfolding life payload_at body_at data_at message_at length_at groups groups_at texts.info_at ingress_at ip_at
      socket_at bits_read_at bit_vec_read_at bits_in packed spellings elems items_at list_at
  stays = (refl, (refl, tt))

  -- what is known of peer 1 after an update with these infos
  abbrev known_after : List (Info ℕ ℕ) → Option (Info ℕ ℕ)
  known_after infos =
      ((world_after asker.directory (Update infos ∷ calls_at wire 3 three after_refused 0)).peer 1).known.info

  holds : HoldsSince wire 3 three 0 1 100000 run_once
  unfolding life payload_at body_at data_at message_at length_at groups groups_at texts.info_at ingress_at ip_at
      socket_at bits_read_at bit_vec_read_at bits_in packed spellings elems items_at list_at
  holds = subst (λ infos. IsSince 100000 (known_after infos)) (sym is_brought) (omega arith)

  newer : HoldsSince wire 3 three 0 1 100000 run_late
  newer = only_get_newer wire 3 three nat_cmp are_made run_late later run_once 0 1 100000 refl refl holds stays

  to_bring_1 : info_to_bring wire 3 three after_refused 0 1 (sec 100) 1 ≡ Some (signed 1 100000)
  unfolding life payload_at body_at data_at message_at length_at groups groups_at texts.info_at ingress_at ip_at
      socket_at bits_read_at bit_vec_read_at bits_in packed spellings elems items_at list_at
  to_bring_1 = refl

  reached : HoldsSince wire 3 three 0 1 100000 run_late
  reached = subst (λ o. IfSome o (λ i. StaysPresent wire 3 three 0 1 later run_once →
      HoldsSince wire 3 three 0 1 i.timestamp run_late)) to_bring_1
      (reach wire 3 three nat_cmp nat_cmp_total exact are_made run_late run_answered later after_refused 0 1 0
      (seconds 70) (seconds 100) (exchanged.Applied brought) x refl may_bring refl).0 stays

  shared : unless_above 100000 (sharable_info replier.directory (world_at_node wire 3 three after_refused 1) 1)
      ≡ Some (signed 1 100000)
  unfolding life payload_at body_at data_at message_at length_at groups groups_at texts.info_at ingress_at ip_at
      socket_at bits_read_at bit_vec_read_at bits_in packed spellings elems items_at list_at
  shared = refl

  acquainted : HoldsSince wire 3 three 0 1 0 run_late
  acquainted = acquaint wire 3 three nat_cmp nat_cmp_total exact are_made run_late run_answered later after_refused
      0 1 0 (seconds 70) (seconds 100) (exchanged.Applied brought) x refl may_bring refl 1 (signed 1 100000) refl refl
      shared stays

  -- INFOS: in the end all that was given is signed for node 2, and so is all that node 0 holds

  abbrev end : Done ℕ ℕ
  end = after (late passed) run_late

  signed_for_2 : (i : ℕ) → is_node wire 3 three i ≡ true → IsSignedFor wire 3 three 2 (three i).directory.own
  signed_for_2 zero there = refl
  signed_for_2 (suc zero) there = refl
  signed_for_2 (suc (suc i)) there = refl

  given_to_0 : IsGivenOnly wire 3 three 0 (IsSignedFor wire 3 three 2) end
  given_to_0 = (gives_signed wire 3 three end
      (answered_of run_late run_answered (late passed) (are_late brought none passed is_brought is_none is_passed)) 2 2).0
      (all_given_to_end (IsSignedFor wire 3 three 2) signed_for_2 refl brought none passed
      (subst (AllByRecursion (IsSignedFor wire 3 three 2)) (sym is_passed) (refl, tt))) 0

  held_by_0 : HoldsOnly wire 3 three 0 (IsSignedFor wire 3 three 2) end
  held_by_0 = hold_signed wire 3 three end 2 0 given_to_0
