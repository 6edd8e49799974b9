-- A run of four nodes, of which the last is of another namespace. Each reply is the answer, and two of
-- the others meet the premises of gossip: their exchange brings an info, which the replier has by an
-- exchange of its own.
use Rattle.std.proofs.Common.{◌≡◌, ℕ, zero, suc, true, false, List, [], ◌∷◌, Some, inl, inr, refl}
use Rattle.std.proofs.Common.{sym, subst, ap, arith, ◌∙◌, Bool, map}
use Rattle.std.specs.Prelude.{◌⊎◌, IfSome}
use Rattle.std.specs.List.{AllByRecursion}
use Rattle.std.specs.List.Sorted.{IsStrictlySortedBy}
use Rattle.p2p_discovery.specs.declared.discovery.Error.TheVariants.{InvalidSignature}
use Rattle.p2p_discovery.specs.declared.discovery.Info.{Info}
use Rattle.p2p_discovery.specs.declared.discovery.Payload.TheVariants as said
use Rattle.p2p_discovery.specs.Payload.{body_at, payload_at}
use Rattle.p2p_discovery.specs.Data.{data_at, message_at}
use Rattle.p2p_discovery.specs.Counted.{length_at}
use Rattle.p2p_discovery.specs.Varint.{groups, groups_at}
use Rattle.p2p_discovery.specs.Info as texts
use Rattle.p2p_discovery.specs.Ingress.{ingress_at}
use Rattle.p2p_discovery.specs.Socket.{ip_at, socket_at}
use Rattle.p2p_discovery.specs.BitVec.{bits_read_at, bit_vec_read_at}
use Rattle.p2p_discovery.specs.Bits.{bits_in, packed}
use Rattle.p2p_discovery.specs.Lists.{spellings, elems, items_at, list_at}
use Rattle.p2p_tracker.specs.Calls.{Call, Settings}
use Rattle.p2p_tracker.specs.Calls.Call.{Connect, Update}
use Rattle.p2p_tracker.specs.History.{life}
use Rattle.p2p_tracker.specs.Answers.{set_with_index}
use Rattle.p2p_directory.specs.declared.node.received.Received.TheVariants as received
use Rattle.p2p_directory.specs.declared.node.exchanged.Exchanged.{Exchanged}
use Rattle.p2p_directory.specs.declared.node.exchanged.Exchanged.TheVariants as exchanged
use Rattle.p2p_directory.specs.declared.node.network.commands.NetworkCommand.{NetworkCommand}
use Rattle.p2p_directory.specs.declared.node.network.commands.NetworkCommand.TheVariants as network
use Rattle.p2p_directory.specs.declared.node.network.commands.NetworkReply.{NetworkReply}
use Rattle.p2p_directory.specs.declared.node.network.commands.NetworkReply.TheVariants as answer
use Rattle.p2p_directory.specs.declared.run.commands.Command.{Command}
use Rattle.p2p_directory.specs.declared.run.commands.Command.TheVariants as command
use Rattle.p2p_directory.specs.declared.run.commands.Reply.TheVariants as reply
use Rattle.p2p_directory.specs.Exchange.{infos_applied, exchanged_at, IsExchangeAnswer, ExchangeOutcome}
use Rattle.p2p_directory.specs.Exchange.ExchangeOutcome.{Applied}
use Rattle.p2p_directory.specs.Received.{received_at}
use Rattle.p2p_directory.specs.Nodes.{Made, calls_with, standing_in}
use Rattle.p2p_directory.specs.Run.{world_after, IsAnswer}
use Rattle.p2p_directory.specs.Network.{Done, calls_at, world_at_node, standing_at}
use Rattle.p2p_directory.specs.Network.{IsNetworkAnswer, AreNetworkAnswers, done_after}
use Rattle.p2p_directory.specs.Laws.Gossip.{wanted_infos}
use Rattle.p2p_directory.specs.Laws.Network.{Brings, IsSigned, AreAllGiven, IsGivenOnly, HaveOneList, Fits, MayBring}
use Rattle.p2p_directory.specs.Laws.Network.{BringsWanted, OfEachReply, infos_to_bring, RepliesInfos, IsReplyFor}
use Rattle.p2p_directory.proofs.LawsOfGossip.Lists.{inside}
use Rattle.p2p_directory.proofs.Definitions.Setting.{sec, track, listen}
use Rattle.p2p_directory.proofs.Definitions.GossipExamples.{wire, signed, signed_elsewhere, asker}
use Rattle.p2p_directory.proofs.Definitions.GossipExamples.{replier, made, own_of_8}
use Rattle.p2p_directory.proofs.Definitions.LatePremises.{Any, peers_1}
use Rattle.p2p_directory.proofs.Definitions.ExchangePremises.{seconds, peers12, greeting_1, x}

-- node 3 has key 6, and its infos are signed in the namespace `other`
abbrev foreign : Made ℕ ℕ
foreign =
    let m = made (record own_of_8 { public_key = 6; signature = 56 }) 8 8 8 in
    record m { verifier = record m.verifier { namespace = 111 ∷ 116 ∷ 104 ∷ 101 ∷ 114 ∷ [] } }

abbrev four : ℕ → Made ℕ ℕ
four zero = asker
four (suc zero) = replier
four (suc (suc zero)) = made (record own_of_8 { public_key = 7; signature = 47 }) 8 8 8
four (suc (suc (suc i))) = foreign

-- the greeting of key 1 at 5 ms, signed in the namespace `other`
abbrev greeting_elsewhere : List ℕ
greeting_elsewhere = 1 ∷ 0 ∷ 4 ∷ 1 ∷ 2 ∷ 3 ∷ 4 ∷ 31 ∷ 65 ∷ 5 ∷ 1 ∷ 51 ∷ []

abbrev IsHonest : Info ℕ ℕ → Type 0
IsHonest = IsSigned wire 4 four 0 1

abbrev tracked : ℕ → NetworkCommand ℕ ℕ × NetworkReply ℕ ℕ
tracked i = (network.Call i (command.Track 0 peers12), answer.Call (reply.Track (Some [])))

abbrev listened : ℕ → NetworkCommand ℕ ℕ × NetworkReply ℕ ℕ
listened i = (network.Call i (command.Listen 1 (seconds 50) (seconds 0)), answer.Call (reply.Listen true))

abbrev connected : ℕ → NetworkCommand ℕ ℕ × NetworkReply ℕ ℕ
connected i = (network.Call i (command.Connect 1 false), answer.Call reply.Connect)

abbrev asked : NetworkCommand ℕ ℕ
asked = network.Exchange 0 1 0 (seconds 70) (seconds 100)

abbrev bad : Exchanged ℕ ℕ
bad = exchanged.Malformed

neither : (infos : List (Info ℕ ℕ)) → (infos_applied bad ≡ Some infos) ⊎ (bad ≡ exchanged.Memory) → ⊥
neither infos (inl e) = absurd (cc)
neither infos (inr e) = absurd (cc)

-- an exchange that is to apply infos is told so, want of memory aside
applied_is : (r : Exchanged ℕ ℕ) (may : Bool) (o : ExchangeOutcome ℕ ℕ) (infos : List (Info ℕ ℕ)) →
    infos_applied r ≡ Some infos → o ≡ Applied infos → IsExchangeAnswer may o r
applied_is (exchanged.Applied v) may o infos told is = is ∙ ap Applied (sym (inside v.items infos told))
applied_is _ may o infos told is = absurd (cc)

-- the first set tears nobody down
nobody : (s : Settings ℕ ℕ) → IsAnswer s [] (track 0 (1 ∷ 2 ∷ [])) (reply.Track (Some []))
unfolding life IsStrictlySortedBy
nobody s = inr (refl, record { sorted = tt; members = λ p. refl })

-- whatever a command to no node has, and where node 1 was told the info that node 2 was greeted with
module _ (any : Command ℕ ℕ) (told : Exchanged ℕ ℕ) (is : infos_applied told ≡ Some (signed 1 100000 ∷ [])) where
  -- in order
  abbrev steps : List (NetworkCommand ℕ ℕ × NetworkReply ℕ ℕ)
  steps =
      tracked 0
      ∷ tracked 1
      ∷ tracked 2
      ∷ tracked 3
      ∷ (network.Frame 2 greeting_1 (seconds 100), answer.Frame (received.Greeted 1))
      ∷ listened 2
      ∷ connected 2
      ∷ (network.Frame 3 greeting_elsewhere (seconds 100), answer.Frame (received.Greeted 1))
      ∷ listened 3
      ∷ connected 3
      ∷ (network.Call 4 any, answer.NoNode)
      ∷ (network.Exchange 1 2 0 (seconds 70) (seconds 100), answer.Exchange told)
      ∷ listened 1
      ∷ connected 1
      ∷ (network.Exchange 0 3 0 (seconds 100) (seconds 100), answer.Exchange (exchanged.Invalid InvalidSignature))
      ∷ []

  abbrev commands : List (NetworkCommand ℕ ℕ)
  commands = map (λ step. step.0) steps

  abbrev replies : List (NetworkReply ℕ ℕ)
  replies = map (λ step. step.1) steps

  -- the newest first
  abbrev done : Done ℕ ℕ
  done = done_after wire 4 four [] commands replies

  -- EACH REPLY IS THE ANSWER at its point

  abbrev calls_told : List (Call ℕ ℕ)
  calls_told = Update (signed 1 100000 ∷ []) ∷ track 0 (1 ∷ 2 ∷ []) ∷ []

  was_told : calls_with (infos_applied told) (track 0 (1 ∷ 2 ∷ []) ∷ []) ≡ calls_told
  was_told = ap (λ o. calls_with o (track 0 (1 ∷ 2 ∷ []) ∷ [])) is

  listens : IsAnswer replier.directory (calls_with (infos_applied told) (track 0 (1 ∷ 2 ∷ []) ∷ [])) (listen 1 50)
      (reply.Listen true)
  unfolding life
  listens = subst (λ cs. IsAnswer replier.directory cs (listen 1 50) (reply.Listen true)) (sym was_told) (inr refl)

  connects : IsAnswer replier.directory
      (listen 1 50 ∷ calls_with (infos_applied told) (track 0 (1 ∷ 2 ∷ []) ∷ [])) (Connect 1 false) reply.Connect
  unfolding life
  connects = subst (λ cs. IsAnswer replier.directory (listen 1 50 ∷ cs) (Connect 1 false) reply.Connect)
      (sym was_told) (inr refl)

  are_answers : AreNetworkAnswers wire 4 four [] commands replies
  unfolding life payload_at body_at data_at message_at length_at groups groups_at texts.info_at ingress_at ip_at
      socket_at bits_read_at bit_vec_read_at bits_in packed spellings elems items_at list_at
  are_answers = (
    (refl, nobody asker.directory),
    (
      (refl, nobody replier.directory),
      (
        (refl, nobody (four 2).directory),
        (
          (refl, nobody foreign.directory),
          (
            (refl, refl),
            (
              (refl, inr refl),
              (
                (refl, inr refl),
                (
                  (refl, refl),
                  (
                    (refl, inr refl),
                    (
                      (refl, inr refl),
                      (
                        refl,
                        (
                          (refl, applied_is told _ _ (signed 1 100000 ∷ []) is refl),
                          (
                            (refl, listens),
                            (
                              (refl, connects),
                              (
                                (refl, refl),
                                tt,
                              ),
                            ),
                          ),
                        ),
                      ),
                    ),
                  ),
                ),
              ),
            ),
          ),
        ),
      ),
    ),
  )

  -- the accepted calls of nodes 0 and 1
  accepted_0 : calls_at wire 4 four done 0 ≡ track 0 (1 ∷ 2 ∷ []) ∷ []
  accepted_0 = refl

  abbrev calls_1 : List (Call ℕ ℕ)
  calls_1 = Connect 1 false ∷ listen 1 50 ∷ Update (signed 1 100000 ∷ []) ∷ track 0 (1 ∷ 2 ∷ []) ∷ []

  accepted_1 : calls_at wire 4 four done 1 ≡ calls_1
  accepted_1 = ap (λ o. Connect 1 false ∷ listen 1 50 ∷ calls_with o (track 0 (1 ∷ 2 ∷ []) ∷ [])) is

  -- .. and of node 3, which was given an info of its own namespace
  accepted_3 : calls_at wire 4 four done 3
      ≡ Connect 1 false ∷ listen 1 50 ∷ Update (signed_elsewhere 1 5 ∷ []) ∷ track 0 (1 ∷ 2 ∷ []) ∷ []
  unfolding life payload_at body_at data_at message_at length_at groups groups_at texts.info_at ingress_at ip_at
      socket_at bits_read_at bit_vec_read_at bits_in packed spellings elems items_at list_at
  accepted_3 = refl

  -- HONEST INFOS: what node 1 was given is signed for nodes 0 and 1

  honest : IsGivenOnly wire 4 four 1 IsHonest done
  honest = record {
    own = λ there. record { at_asker = refl; at_replier = refl };
    given = (
      (λ e. tt),
      (
        (λ e. tt),
        (
          (λ e. tt),
          (
            (λ e. subst (λ o. IfSome o (AllByRecursion IsHonest)) (sym is) (record { at_asker = refl; at_replier = refl }, tt)),
            (
              (λ e. tt),
              (
                (λ e. tt),
                (
                  (λ e. tt),
                  (
                    (λ e. absurd (cc)),
                    (
                      (λ e. tt),
                      (
                        (λ e. tt),
                        ((λ e. absurd (cc)), ((λ e. tt), ((λ e. tt), ((λ e. tt), ((λ e. tt), tt))))),
                      ),
                    ),
                  ),
                ),
              ),
            ),
          ),
        ),
      ),
    );
  }

  -- what was given to all four is not
  not_all : AreAllGiven wire 4 four IsHonest done → ⊥
  not_all all = absurd (let e : false ≡ true = (all.own 3 refl).at_asker in cc)

  -- EXCHANGES

  one_list : HaveOneList wire 4 four done done 0 1 0 x
  unfolding life
  one_list = record {
    at_place = refl;
    kept = x;
    retained = subst (λ cs. set_with_index replier.directory (world_after replier.directory cs) 0 ≡ Some x)
        (sym accepted_1) refl;
    one_list = refl;
  }

  brought : infos_to_bring wire 4 four done 0 1 (sec 100) x ≡ signed 1 100000 ∷ []
  unfolding life
  brought = subst (λ cs. wanted_infos asker (world_at_node wire 4 four done 0) replier
      (world_after replier.directory cs) (sec 100) (1 ∷ 2 ∷ []) ≡ signed 1 100000 ∷ []) (sym accepted_1) refl

  fits : Fits wire 4 four 0 1 (sec 70) (sec 100) x (signed 1 100000 ∷ [])
  fits = record { bits = omega arith; peers = omega arith; count = omega arith; moments = omega arith }

  may_bring : MayBring wire 4 four done 0 1 0 (seconds 70) (seconds 100) x
  may_bring = record {
    honest = honest;
    one = one_list;
    fits = subst (Fits wire 4 four 0 1 (sec 70) (sec 100) x) (sym brought) fits;
  }

  -- such an exchange comes to this info
  applied : exchanged_at (standing_at wire 4 four done 0) (standing_at wire 4 four done 1) 0 (sec 70) (sec 100)
      ≡ Applied (signed 1 100000 ∷ [])
  unfolding life
  applied = subst (λ cs. exchanged_at (standing_at wire 4 four done 0)
      (standing_in replier wire (world_after replier.directory cs)) 0 (sec 70) (sec 100)
      ≡ Applied (signed 1 100000 ∷ [])) (sym accepted_1) refl

  -- the reply that it is applied with just this info is the answer
  brings : (last : Exchanged ℕ ℕ) → infos_applied last ≡ Some (signed 1 100000 ∷ []) →
      IsNetworkAnswer wire 4 four done asked (answer.Exchange last)
  brings last with_it = (refl, applied_is last _ _ (signed 1 100000 ∷ []) with_it applied)

  -- and any other reply than `Applied` with it, or `Memory`, is refused
  malformed_is_refused :
      OfEachReply wire 4 four (BringsWanted wire 4 four) done (asked ∷ []) (answer.Exchange bad ∷ []) → ⊥
  malformed_is_refused kept =
      let infos : List (Info ℕ ℕ) = infos_to_bring wire 4 four done 0 1 (sec 100) x in
      let b : Brings wire 4 four done 0 1 (sec 100) x asked bad infos = kept.0 x may_bring in
      neither infos b.answer

  -- REPLIES: node 0 is asked for its bits, and node 1 is handed them

  abbrev bits : List ℕ
  bits = 2 ∷ 0 ∷ 2 ∷ 0 ∷ []

  question : IsNetworkAnswer wire 4 four done (network.Ask 0 0) (answer.Ask (Some bits))
  unfolding life groups packed spellings
  question = (refl, refl)

  abbrev questioned : Done ℕ ℕ
  questioned = (network.Ask 0 0, answer.Ask (Some bits)) ∷ done

  replied : IsNetworkAnswer wire 4 four questioned (network.Frame 1 bits (seconds 100)) (answer.Frame (received.Reply peers_1))
  unfolding life payload_at body_at data_at message_at length_at groups groups_at texts.info_at ingress_at ip_at
      socket_at bits_read_at bit_vec_read_at bits_in packed spellings elems items_at list_at
  replied = (
    refl,
    subst (λ cs. received.Reply peers_1
        ≡ (received_at wire (standing_in replier wire (world_after replier.directory cs)) bits (sec 100)).answer)
        (sym accepted_1) refl,
  )

  still_honest : IsGivenOnly wire 4 four 1 IsHonest questioned
  still_honest = record { own = honest.own; given = ((λ e. tt), honest.given) }

  still_one_list : HaveOneList wire 4 four done questioned 0 1 0 x
  still_one_list = record {
    at_place = one_list.at_place;
    kept = one_list.kept;
    retained = one_list.retained;
    one_list = one_list.one_list;
  }

  -- a reply that spells no infos is refused
  empty_is_refused : RepliesInfos wire 4 four Any Any questioned (network.Frame 1 bits (seconds 100))
      (answer.Frame (received.Reply [])) → ⊥
  empty_is_refused kept =
      let is : IsReplyFor wire 4 four Any Any 0 1 (sec 100) [] =
      kept [] done 0 0 x [] refl still_honest still_one_list refl in
      absurd (let e : [] ≡ wire.spelling (said.Peers is.infos) = is.spells.spelled in cc)
