-- A reply of any node to bits that any other was asked for earlier spells infos for the asker.
use Rattle.std.proofs.Common.{◌≡◌, ℕ, ◌<◌, ◌^◌, Bool, true, false, List, [], ◌∷◌, ◌++◌, length}
use Rattle.std.proofs.Common.{Option, Some, refl, ◌∙◌, ap, subst, arith}
use Rattle.std.specs.Prelude.{IfSome, nat_lt, not, option_map}
use Rattle.std.specs.Duration.{as_nanos}
use Rattle.std.specs.declared.cmp.Ordering.{Ordering}
use Rattle.std.specs.declared.cmp.Ordering.TheVariants.{Equal}
use Rattle.std.proofs.lemmas.Bool.{ltb-false}
use Rattle.std.proofs.lemmas.List.{length-map}
use Rattle.p2p_discovery.specs.declared.codec.error.CodecError.TheVariants.{InvalidLength}
use Rattle.p2p_discovery.specs.declared.discovery.BitVec.{BitVec}
use Rattle.p2p_discovery.specs.declared.discovery.Info.{Info}
use Rattle.p2p_discovery.specs.declared.discovery.Payload.TheVariants as said
use Rattle.p2p_discovery.specs.Fixed.{IsFixed}
use Rattle.p2p_directory.specs.declared.node.received.Received.{Received}
use Rattle.p2p_directory.specs.declared.node.received.Received.TheVariants as received
use Rattle.p2p_directory.specs.declared.node.network.commands.NetworkCommand.{NetworkCommand}
use Rattle.p2p_directory.specs.declared.node.network.commands.NetworkCommand.TheVariants as command
use Rattle.p2p_directory.specs.declared.node.network.commands.NetworkReply.{NetworkReply}
use Rattle.p2p_directory.specs.declared.node.network.commands.NetworkReply.TheVariants as reply
use Rattle.p2p_tracker.specs.Calls.{SetAt}
use Rattle.p2p_tracker.specs.History
use Rattle.p2p_tracker.specs.World.{World}
use Rattle.p2p_tracker.specs.Answers.{bits_of, wants}
use Rattle.p2p_tracker.specs.Moments.{epoch_millis}
use Rattle.p2p_directory.specs.Run.{bit_vec_of}
use Rattle.p2p_directory.specs.Received as frames
use Rattle.p2p_directory.proofs.Nodes.Frames.{frame_may_want_memory}
use Rattle.p2p_directory.specs.Received.{Wire, Standing, FrameOutcome, only, replied, read_at, received_at, told_with}
use Rattle.p2p_directory.specs.Nodes.{Made, AreValues}
use Rattle.p2p_directory.specs.Network.{Done, is_node, calls_at, world_at_node, standing_at}
use Rattle.p2p_directory.specs.Network.{IsNetworkAnswer, IsServedAnswer, AreNetworkAnswers}
use Rattle.p2p_directory.specs.Laws.Gossip.{wanted_info, wanted_infos}
use Rattle.p2p_directory.specs.Laws.Network.{AreMade, IsGivenOnly, IsSigned, HaveOneList, IsWritten}
use Rattle.p2p_directory.specs.Laws.Network.{IsReplyFor, RepliesInfos, AreWritten, OfEachReply}
use Rattle.p2p_directory.specs.Laws.LateFrames.{IsFor}
use Rattle.p2p_directory.proofs.Definitions.Keys.{exact_from}
use Rattle.p2p_directory.proofs.Nodes.ReadBack.{wire_by, is_above, too_many_bits}
use Rattle.p2p_directory.proofs.LawsOfGossip.Lists.{inside, Member, from_members, member_filter_map, length_some}
use Rattle.p2p_directory.proofs.LawsOfGossip.Infos
use Rattle.p2p_directory.proofs.LawsOfGossip.Wanted
use Rattle.p2p_directory.proofs.LawsOfGossip.Exchanges
use Rattle.p2p_directory.proofs.LawsOfNetworks.Provenance
use Rattle.p2p_directory.proofs.LawsOfGossip.Greetings.{read_back}

-- the bytes of a reply; of any other answer none
abbrev content : {C S : Type 0} → Received C S → List ℕ
content (received.Reply frame) = frame
content _ = []

module _ {C S : Type 0} {key_size signature_size : ℕ} {key : C → List ℕ} {signature : S → List ℕ}
    {key_of : List ℕ → Option C} {signature_of : List ℕ → Option S}
    {IsKey : C → Type 0} {IsSignature : S → Type 0} (k : IsFixed key_size key key_of IsKey)
    (s : IsFixed signature_size signature signature_of IsSignature)
    (verifies : C → List ℕ → List ℕ → S → Bool) (size : ℕ) (node : ℕ → Made C S) where
  abbrev wire : Wire C S
  wire = wire_by key_size key key_of signature_size signature signature_of verifies

  abbrev world : Done C S → ℕ → World C S
  world done i = world_at_node wire size node done i

  abbrev Answered : Done C S → Type 0
  Answered done = Provenance.AreAnswered wire size node done

  -- what was told with each reply has a spelling
  abbrev Written : Done C S → Type 0
  Written [] = Unit {0}
  Written (x ∷ done) = IsWritten wire size node IsKey IsSignature done x.0 x.1 × Written done

  -- one of the replies before
  was_answered : (later : Done C S) (x : NetworkCommand C S × NetworkReply C S) (asked : Done C S) →
      Answered (later ++ x ∷ asked) → IsNetworkAnswer wire size node asked x.0 x.1
  was_answered [] x asked h = h.0
  was_answered (y ∷ later) x asked h = was_answered later x asked h.1

  was_written : (later : Done C S) (x : NetworkCommand C S × NetworkReply C S) (asked : Done C S) →
      Written (later ++ x ∷ asked) → IsWritten wire size node IsKey IsSignature asked x.0 x.1
  was_written [] x asked h = h.0
  was_written (y ∷ later) x asked h = was_written later x asked h.1

  module _ (cmp : C → C → Ordering) (exact_keys : (q p : C) → cmp q p ≡ Equal → q ≡ p)
      (made : AreMade wire size node cmp)
      (few : (side : ℕ) → is_node wire size node side ≡ true → (node side).limits.max_bit_vec < 2 ^ 32) where
    exact : (i : ℕ) → is_node wire size node i ≡ true → History.IsExact (node i).directory
    exact i is = exact_from (node i).directory cmp (made i is).order exact_keys

    module _ (done asked : Done C S) (asker replier : ℕ)
        (honest : IsGivenOnly wire size node replier (IsSigned wire size node asker replier) done)
        (there : is_node wire size node replier ≡ true) (place now : ℕ) (x : SetAt C)
        (one : HaveOneList wire size node asked done asker replier place x) where
      abbrev a : Made C S
      a = node asker

      abbrev b : Made C S
      b = node replier

      abbrev w : World C S
      w = world asked asker

      abbrev v : World C S
      v = world done replier

      abbrev infos : List (Info C S)
      infos = wanted_infos a w b v now x.primary

      given : Infos.AreGiven b.directory (IsSigned wire size node asker replier)
          (calls_at wire size node done replier)
      given = Provenance.given_at wire size node (IsSigned wire size node asker replier) replier done
          honest there

      -- THE INFOS that are brought

      brought_for : (i : Info C S) → Member infos i → IsSigned wire size node asker replier i × IsFor wire a now i
      brought_for i m =
          let found = member_filter_map (wanted_info a w b v (epoch_millis now)) x.primary i m in
          let brought = Wanted.brought_is a b v (epoch_millis now) w found.0 i found.2 in
          let of = Infos.sharable_is_given b.directory (IsSigned wire size node asker replier)
          (calls_at wire size node done replier) given found.0 i brought.shared in (
            of.0,
            record {
              signed = of.0.at_asker;
              of_another = ap (History.is_own a.directory) (exact replier there i.public_key found.0 of.1)
                  ∙ Exchanges.wanted_other wire a b w found.0 brought.wanted;
              timely = brought.timely;
            },
          )

      -- THE FRAME

      abbrev bits : BitVec
      bits = bit_vec_of (x.index, bits_of a.directory w x)

      bits_at : (standing_at wire size node asked asker).bits place ≡ Some bits
      bits_at = ap (λ o. option_map bit_vec_of
          (option_map (λ (z : SetAt C). (z.index, bits_of a.directory w z)) o)) one.at_place

      width : length bits.bits ≡ length x.primary
      width = length-map x.primary (λ q. not (wants a.directory q (w.peer q)))

      abbrev n : Standing C S
      n = standing_at wire size node done replier

      module _ (frame : List ℕ)
          (is_ask : IsServedAnswer wire size node asked (command.Ask asker place)
          (reply.Ask (Some frame)))
          (ask_written : IsWritten wire size node IsKey IsSignature asked
          (command.Ask asker place) (reply.Ask (Some frame))) where
        frame_is : frame ≡ wire.spelling (said.BitVec bits)
        frame_is = inside frame (wire.spelling (said.BitVec bits))
            (is_ask ∙ ap (λ o. option_map (λ v. wire.spelling (said.BitVec v)) o) bits_at)

        sized : (bits.index < 2 ^ 64) × (length bits.bits < 2 ^ 64)
        sized = subst (λ o. IfSome o (λ v. (v.index < 2 ^ 64) × (length v.bits < 2 ^ 64))) bits_at
            ask_written

        abbrev coming : FrameOutcome C S
        coming = received_at wire n frame now

        refused : nat_lt b.limits.max_bit_vec (length bits.bits) ≡ true →
            coming ≡ only (received.Codec (InvalidLength (length bits.bits)))
        refused e = ap (λ f. received_at wire n f now) frame_is
            ∙ ap (read_at wire n now) (too_many_bits key_size key_of signature_size signature_of key
            signature b.limits bits sized.0 sized.1
            (is_above b.limits.max_bit_vec (length bits.bits) e))

        told : nat_lt b.limits.max_bit_vec (length bits.bits) ≡ false →
            coming ≡ replied wire (Some infos)
        told e = ap (λ f. received_at wire n f now) frame_is
            ∙ ap (read_at wire n now) (read_back k s b.limits (said.BitVec bits) (
              sized.0,
              record {
                within = ltb-false b.limits.max_bit_vec (length bits.bits) e;
                small = sized.1;
              },
            ))
            ∙ ap (replied wire)
            (Exchanges.reply_is wire a b w v x one.kept now one.retained one.one_list)

        module _ (r : Received C S) (may : Bool) (is : frames.IsFrameAnswer may coming r)
            (written : AreValues IsKey IsSignature (told_with coming r)) (sent : List ℕ)
            (is_reply : r ≡ received.Reply sent) where
          answer : received.Reply sent ≡ coming.answer
          answer = subst (λ q. frames.IsFrameAnswer may coming q) is_reply is

          values : AreValues IsKey IsSignature coming.told
          values = subst (λ q. AreValues IsKey IsSignature (told_with coming q)) is_reply written

          is_reply_for : IsReplyFor wire size node IsKey IsSignature asker replier now sent
          is_reply_for = go (nat_lt b.limits.max_bit_vec (length bits.bits)) refl
            where
              go : (c : Bool) → nat_lt b.limits.max_bit_vec (length bits.bits) ≡ c →
                  IsReplyFor wire size node IsKey IsSignature asker replier now sent
              go true e = absurd (let f = answer
                  ∙ ap (λ (o : FrameOutcome C S). o.answer) (refused e) in cc)
              go false e = record {
                infos = infos;
                spells = record {
                  spelled = ap content (answer ∙ ap (λ (o : FrameOutcome C S). o.answer) (told e));
                  small = omega (
                    arith,
                    ltb-false b.limits.max_bit_vec (length bits.bits) e,
                    width,
                    few replier there,
                    length_some (wanted_info a w b v (epoch_millis now)) x.primary,
                  );
                  values = subst (λ (o : FrameOutcome C S). AreValues IsKey IsSignature o.told) (told e)
                      values;
                  each = from_members (IsFor wire a now) infos (λ i m. (brought_for i m).1);
                };
                signed = from_members (IsSigned wire size node asker replier) infos
                    (λ i m. (brought_for i m).0);
              }

    -- AT EACH POINT OF A RUN

    reply_for : (done : Done C S) → Answered done → (c : NetworkCommand C S)
        (r : NetworkReply C S) → Written ((c, r) ∷ done) →
        IsNetworkAnswer wire size node done c r → RepliesInfos wire size node IsKey IsSignature done c r
    reply_for done answered (command.Frame replier frame now) (reply.Frame r) written is =
        λ later asked asker place x sent before honest one is_reply.
        is_reply_for done asked asker replier honest is.0 place (as_nanos now) x one frame
        (was_answered later (command.Ask asker place, reply.Ask (Some frame)) asked
        (subst Answered before answered)).1
        (was_written later (command.Ask asker place, reply.Ask (Some frame)) asked
        (subst Written before written.1))
        r (frame_may_want_memory wire (standing_at wire size node done replier) frame
        (as_nanos now)) is.1 written.0 sent is_reply
    reply_for done answered c r written is = tt

    pub keep_replies : (done : Done C S) → Answered done → Written done →
        (cs : List (NetworkCommand C S)) (rs : List (NetworkReply C S)) →
        AreNetworkAnswers wire size node done cs rs →
        AreWritten wire size node IsKey IsSignature done cs rs →
        OfEachReply wire size node (RepliesInfos wire size node IsKey IsSignature) done cs rs
    keep_replies done answered written [] rs h told = tt
    keep_replies done answered written (c ∷ cs) [] h told = absurd h
    keep_replies done answered written (c ∷ cs) (r ∷ rs) h told = (
      reply_for done answered c r (told.0, written) h.0,
      keep_replies ((c, r) ∷ done) (h.0, answered) (told.0, written) cs rs h.1 told.1,
    )
