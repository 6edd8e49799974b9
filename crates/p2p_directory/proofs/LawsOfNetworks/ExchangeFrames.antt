-- Frames count as one exchange: what they were answered is what it comes to.
use Rattle.std.proofs.Common.{zero, suc}
use Rattle.std.proofs.Common.{◌≡◌, ℕ, length, Bool, true, false, List, [], ◌∷◌, ◌++◌, Option, Some}
use Rattle.std.proofs.Common.{None, Result, Ok, Err, refl, sym, ◌∙◌, ap, subst}
use Rattle.std.specs.Prelude.{if◌then◌else◌, ◌==◌, ◌||◌, ◌&&◌, not, is_some, option_map}
use Rattle.std.specs.Prelude.{slice_index_or}
use Rattle.std.proofs.lemmas.Bool.{eqb-true}
use Rattle.std.specs.Duration.{as_nanos}
use Rattle.std.specs.declared.time.Duration.{Duration}
use Rattle.p2p_discovery.specs.declared.codec.error.CodecError.{CodecError}
use Rattle.p2p_discovery.specs.declared.discovery.BitVec.{BitVec}
use Rattle.p2p_discovery.specs.declared.discovery.Error.{Error}
use Rattle.p2p_discovery.specs.declared.discovery.Info.{Info}
use Rattle.p2p_discovery.specs.declared.discovery.Payload.{Payload}
use Rattle.p2p_discovery.specs.declared.discovery.Payload.TheVariants as said
use Rattle.p2p_discovery.specs.Judgement.{refusal, list_refusal}
use Rattle.p2p_discovery.specs.Reading.{whole}
use Rattle.p2p_directory.specs.declared.node.received.Received.{Received}
use Rattle.p2p_directory.specs.declared.node.received.Received.TheVariants as received
use Rattle.p2p_directory.specs.declared.node.exchanged.Exchanged.{Exchanged}
use Rattle.p2p_directory.specs.declared.node.exchanged.Exchanged.TheVariants as exchanged
use Rattle.p2p_directory.specs.declared.node.network.commands.NetworkCommand.{NetworkCommand}
use Rattle.p2p_directory.specs.declared.node.network.commands.NetworkCommand.TheVariants as command
use Rattle.p2p_directory.specs.declared.node.network.commands.NetworkReply.{NetworkReply}
use Rattle.p2p_directory.specs.declared.node.network.commands.NetworkReply.TheVariants as reply
use Rattle.p2p_tracker.specs.Calls.{Call, SetAt}
use Rattle.p2p_tracker.specs.Answers.{set_at_place, bits_of}
use Rattle.p2p_directory.specs.Received as frames
use Rattle.p2p_directory.specs.Received.{Wire, Standing, FrameOutcome, applies, received_at}
use Rattle.p2p_directory.specs.Received.{read_at}
use Rattle.p2p_directory.specs.Received.{greeted, replied, taken, only, applying, ask_frame_at}
use Rattle.p2p_directory.specs.Run as run
use Rattle.p2p_directory.specs.Run.{call_of, world_after, bit_vec_of}
use Rattle.p2p_directory.specs.Nodes.{NodeView, Made, NodeStandsAt, standing_in, calls_with}
use Rattle.p2p_directory.specs.Exchange.{ExchangeOutcome, IsCarried, IsExchangeAnswer, exchanged_at}
use Rattle.p2p_directory.specs.Exchange.{exchange_may_want_memory, infos_applied, CanBeSpelled}
use Rattle.p2p_directory.specs.Exchange.ExchangeOutcome.{NoSet, AskRefused, Malformed, ReplyRefused}
use Rattle.p2p_directory.specs.Exchange.ExchangeOutcome.{Invalid, Applied}
use Rattle.p2p_directory.specs.Network.{Done, changed_by, calls_then, calls_at, are_there, is_node}
use Rattle.p2p_directory.specs.Network.{standing_at, IsNetworkAnswer, AreNetworkAnswers}
use Rattle.p2p_directory.specs.Network.{done_after, infos_of_frame, infos_of_reading}
use Rattle.p2p_directory.specs.Laws.InTurn.{Steps, IsNetworkRun, commands_of, replies_of}
use Rattle.p2p_directory.specs.Laws.ExchangeFrames.{ExchangeFrames, names, NameNeither}
use Rattle.p2p_directory.specs.Laws.ExchangeFrames.{IsRefusedReply, IsTakenReply}
use Rattle.p2p_directory.specs.Laws.ExchangeFrames.{frame_steps, exchange_steps, ComeTo}
use Rattle.p2p_directory.specs.Laws.ExchangeFrames.{AreCounted}
use Rattle.p2p_directory.specs.Laws.ExchangeFrames.{AreExchange}
use Rattle.p2p_directory.specs.Laws.ExchangeFrames.ExchangeFrames.{NoFrame, NoMemory, Asked}
use Rattle.p2p_directory.specs.Laws.ExchangeFrames.ExchangeFrames.{Replied}
use Rattle.p2p_directory.proofs.Nodes.Carried.{carried_once}
use Rattle.p2p_directory.proofs.Nodes.Frames.{frame_may_want_memory}

-- WHAT IS APPLIED AND TOLD, by an answer

-- .. to a frame with these infos
record Determines {C S : Type 0} (infos : List (Info C S)) (o : FrameOutcome C S) : Type 0 where
  none : applies o.answer ≡ false → o.applied ≡ None
  codec : (fault : CodecError) → o.answer ≡ received.Codec fault → o ≡ only (received.Codec fault)
  invalid : (error : Error) → o.answer ≡ received.Invalid error →
      o ≡ only (received.Invalid error)
  applied : (count : ℕ) → o.answer ≡ received.Applied count →
      o ≡ applying (received.Applied (length infos)) infos

module _ {C S : Type 0} (wire : Wire C S) (node : Standing C S) (now : ℕ) where
  of_message : (infos : List (Info C S)) (r : Received C S) →
      ((fault : CodecError) → r ≡ received.Codec fault → ⊥) →
      ((error : Error) → r ≡ received.Invalid error → ⊥) →
      ((count : ℕ) → r ≡ received.Applied count → ⊥) → Determines infos (only r)
  of_message infos r codec invalid applied = record {
    none = λ e. refl;
    codec = λ fault e. absurd (codec fault e);
    invalid = λ error e. absurd (invalid error e);
    applied = λ count e. absurd (applied count e);
  }

  refused : (infos : List (Info C S)) (error : Error) →
      Determines infos (only (received.Invalid error))
  refused infos error = record {
    none = λ e. refl;
    codec = λ fault e. absurd (cc);
    invalid = λ error2 e. ap (λ (r : Received C S). only r) e;
    applied = λ count e. absurd (cc);
  }

  of_greeting : (info : Info C S) (refusing : Option Error) →
      Determines (info ∷ []) (greeted wire info refusing)
  of_greeting info None = record {
    none = λ e. absurd (cc);
    codec = λ fault e. absurd (cc);
    invalid = λ error e. absurd (cc);
    applied = λ count e. absurd (cc);
  }
  of_greeting info (Some error) = refused (info ∷ []) error

  of_bits : (infos : Option (List (Info C S))) → Determines [] (replied wire infos)
  of_bits None = of_message [] received.Malformed (λ fault e. cc) (λ error e. cc) (λ count e. cc)
  of_bits (Some infos) = record {
    none = λ e. refl;
    codec = λ fault e. absurd (cc);
    invalid = λ error e. absurd (cc);
    applied = λ count e. absurd (cc);
  }

  of_infos : (infos : List (Info C S)) (refusing : Option Error) →
      Determines infos (taken wire infos refusing)
  of_infos infos None = record {
    none = λ e. absurd (cc);
    codec = λ fault e. absurd (cc);
    invalid = λ error e. absurd (cc);
    applied = λ count e. refl;
  }
  of_infos infos (Some error) = refused infos error

  of_reading : (x : Result (Payload C S × List ℕ) CodecError) →
      Determines (infos_of_reading x) (read_at wire node now x)
  of_reading (Ok (said.Data message, rest)) = of_message [] (received.Data message)
      (λ fault e. cc) (λ error e. cc) (λ count e. cc)
  of_reading (Ok (said.Greeting info, rest)) = of_greeting info (refusal node.judge now info)
  of_reading (Ok (said.BitVec v, rest)) = of_bits (node.infos v.index v.bits now)
  of_reading (Ok (said.Peers infos, rest)) =
      of_infos infos (list_refusal node.judge now infos)
  of_reading (Err fault) = record {
    none = λ e. refl;
    codec = λ fault2 e. ap (λ (r : Received C S). only r) e;
    invalid = λ error e. absurd (cc);
    applied = λ count e. absurd (cc);
  }

  of_frame : (frame : List ℕ) →
      Determines (infos_of_frame wire node.limits frame) (received_at wire node frame now)
  of_frame frame = of_reading (whole (wire.reading node.limits) frame).outcome

-- AN EXCHANGE of a with b comes to what its frames were answered

module _ {C S : Type 0} (wire : Wire C S) (a b : Standing C S) (place s t : ℕ) where
  abbrev outcome : ExchangeOutcome C S
  outcome = exchanged_at a b place s t

  abbrev Comes : ExchangeOutcome C S → Type 0
  Comes o = IsCarried wire a b place s t o

  abbrev Answers : Exchanged C S → Type 0
  Answers r = IsExchangeAnswer (exchange_may_want_memory a place) outcome r

  abbrev Carried : Exchanged C S → Type 0
  Carried r = ¬ (r ≡ exchanged.Memory) → Comes outcome

  once : (o : ExchangeOutcome C S) → Comes outcome → Comes o → outcome ≡ o
  once o carried comes = carried_once wire a b place s t outcome o carried comes

  not_asked : (o : Option BitVec) (bits : BitVec → List ℕ) → None ≡ option_map bits o →
      o ≡ None
  not_asked None bits e = refl
  not_asked (Some v) bits e = absurd (cc)

  was_asked : (o : Option BitVec) (bits : BitVec → List ℕ) (frame : List ℕ) →
      Some frame ≡ option_map bits o → is_some o ≡ true
  was_asked None bits frame e = absurd (cc)
  was_asked (Some v) bits frame e = refl

  no_set : Carried exchanged.NoSet → None ≡ ask_frame_at wire a place → Answers exchanged.NoSet
  no_set carried e = once NoSet (carried (λ e. cc)) (sym e)

  module _ (frame : List ℕ) (asked : Some frame ≡ ask_frame_at wire a place) where
    may : exchange_may_want_memory a place ≡ true
    may = was_asked (a.bits place) (λ v. wire.spelling (said.BitVec v)) frame asked

    abbrev at_replier : FrameOutcome C S
    at_replier = received_at wire b frame t

    nothing_applied : (r : Received C S) → applies r ≡ false → r ≡ at_replier.answer →
        at_replier.applied ≡ None
    nothing_applied r e is = (of_frame wire b t frame).none (ap applies (sym is) ∙ e)

    refused_reply : (answer : Received C S) (r : Exchanged C S) → (m : Bool) →
        frames.IsFrameAnswer m at_replier answer → IsRefusedReply answer r → Carried r → Answers r
    refused_reply (received.Codec fault) (exchanged.AskRefused f) m is comes carried =
        once (AskRefused f) (carried (λ e. cc)) (
          frame,
          sym asked,
          sym is ∙ ap (λ x. received.Codec x) (sym comes),
          nothing_applied (received.Codec fault) refl is,
        )
    refused_reply received.Malformed exchanged.Malformed m is comes carried =
        once Malformed (carried (λ e. cc)) (
          frame,
          sym asked,
          sym is,
          nothing_applied received.Malformed refl is,
        )
    refused_reply received.Memory exchanged.Memory m is comes carried = may
    refused_reply _ _ m is comes carried = absurd comes

    module _ (given : List ℕ) (told : received.Reply given ≡ at_replier.answer) where
      abbrev at_asker : FrameOutcome C S
      at_asker = received_at wire a given s

      takes : (o : FrameOutcome C S) → at_asker ≡ o →
          (reply : List ℕ) × ((frame : List ℕ) × (ask_frame_at wire a place ≡ Some frame)
          × ((received_at wire b frame t).answer ≡ received.Reply reply)
          × ((received_at wire b frame t).applied ≡ None)) × (received_at wire a reply s ≡ o)
      takes o is = (
        given,
        (frame, sym asked, sym told, nothing_applied (received.Reply given) refl told),
        is,
      )

      taken_reply : (answer : Received C S) (r : Exchanged C S) → (m : Bool) →
          frames.IsFrameAnswer m at_asker answer →
          IsTakenReply (infos_of_frame wire a.limits given) answer r → Carried r → Answers r
      taken_reply (received.Codec fault) (exchanged.ReplyRefused f) m is comes carried =
          once (ReplyRefused f) (carried (λ e. cc)) (takes (only (received.Codec f))
          ((of_frame wire a s given).codec f (sym is ∙ ap (λ x. received.Codec x) (sym comes))))
      taken_reply (received.Invalid error) (exchanged.Invalid e) m is comes carried =
          once (Invalid e) (carried (λ e. cc)) (takes (only (received.Invalid e))
          ((of_frame wire a s given).invalid e (sym is ∙ ap (λ x. received.Invalid x) (sym comes))))
      taken_reply received.Memory exchanged.Memory m is comes carried = may
      taken_reply (received.Applied count) (exchanged.Applied infos) m is comes carried =
          once (Applied infos.items) (carried (λ e. cc)) (takes
          (applying (received.Applied (length infos.items)) infos.items)
          ((of_frame wire a s given).applied count (sym is)
          ∙ ap (λ xs. applying (received.Applied (length xs)) xs) (sym comes)))
      taken_reply _ _ m is comes carried = absurd comes

-- NODES THAT ACCEPTED THE SAME CALLS answer the same

neither : (a b : Bool) → a || b ≡ false → a ≡ false
neither true b e = absurd (cc)
neither false b e = refl

module _ {C S : Type 0} (wire : Wire C S) (size : ℕ) (node : ℕ → Made C S) where
  abbrev calls : Done C S → ℕ → List (Call C S)
  calls done i = calls_at wire size node done i

  abbrev at : ℕ → List (Call C S) → Standing C S
  at i cs = standing_in (node i) wire (world_after (node i).directory cs)

  abbrev Alike : Done C S → Done C S → Type 0
  Alike d e = (i : ℕ) → calls d i ≡ calls e i

  abbrev By : Done C S → Steps C S → Done C S
  By done steps = done_after wire size node done (commands_of steps) (replies_of steps)

  abbrev Answered : Done C S → Steps C S → Type 0
  Answered done steps =
      AreNetworkAnswers wire size node done (commands_of steps) (replies_of steps)

  more_alike : (c : NetworkCommand C S) (r : NetworkReply C S) (d e : Done C S) → Alike d e →
      Alike ((c, r) ∷ d) ((c, r) ∷ e)
  more_alike c r d e same i =
      ap (λ cs. if changed_by c == i then calls_then wire (node i) c r cs else cs) (same i)

  answer_alike : (c : NetworkCommand C S) (r : NetworkReply C S) (d e : Done C S) → Alike d e →
      IsNetworkAnswer wire size node d c r → IsNetworkAnswer wire size node e c r
  answer_alike c reply.NoNode d e same h = h
  answer_alike (command.Call i x) (reply.Call r) d e same h =
      (h.0, subst (λ cs. run.IsAnswer (node i).directory cs (call_of x) r) (same i) h.1)
  answer_alike (command.Ask i place) (reply.Ask frame) d e same h =
      (h.0, subst (λ cs. frame ≡ ask_frame_at wire (at i cs) place) (same i) h.1)
  answer_alike (command.Ask i place) reply.OutOfMemory d e same h = (
    h.0,
    subst (λ cs. is_some (set_at_place (node i).directory
        (world_after (node i).directory cs) place) ≡ true) (same i) h.1,
  )
  answer_alike (command.Frame i frame now) (reply.Frame r) d e same h = (
    h.0,
    subst (λ cs. frames.IsFrameAnswer
        (frame_may_want_memory wire (at i cs) frame (as_nanos now))
        (received_at wire (at i cs) frame (as_nanos now)) r) (same i) h.1,
  )
  answer_alike (command.Exchange i j place s t) (reply.Exchange r) d e same h = (
    h.0,
    subst (λ cs. IsExchangeAnswer (exchange_may_want_memory (at i cs) place)
        (exchanged_at (at i cs) (at j (calls e j)) place (as_nanos s) (as_nanos t)) r) (same i)
        (subst (λ cs. IsExchangeAnswer (exchange_may_want_memory (at i (calls d i)) place)
        (exchanged_at (at i (calls d i)) (at j cs) place (as_nanos s) (as_nanos t)) r) (same j)
        h.1),
  )
  answer_alike c r d e same h = absurd h.1

  answers_alike : (steps : Steps C S) (d e : Done C S) → Alike d e → Answered d steps →
      Answered e steps
  answers_alike [] d e same h = tt
  answers_alike ((c, r) ∷ steps) d e same h = (
    answer_alike c r d e same h.0,
    answers_alike steps ((c, r) ∷ d) ((c, r) ∷ e) (more_alike c r d e same) h.1,
  )

  alike_after : (steps : Steps C S) (d e : Done C S) → Alike d e → Alike (By d steps) (By e steps)
  alike_after [] d e same = same
  alike_after ((c, r) ∷ steps) d e same =
      alike_after steps ((c, r) ∷ d) ((c, r) ∷ e) (more_alike c r d e same)

  -- A LIST AFTER A LIST

  after_both : (xs ys : Steps C S) (done : Done C S) → By done (xs ++ ys) ≡ By (By done xs) ys
  after_both [] ys done = refl
  after_both ((c, r) ∷ xs) ys done = after_both xs ys ((c, r) ∷ done)

  first_of : (xs ys : Steps C S) (done : Done C S) → Answered done (xs ++ ys) → Answered done xs
  first_of [] ys done h = tt
  first_of ((c, r) ∷ xs) ys done h = (h.0, first_of xs ys ((c, r) ∷ done) h.1)

  second_of : (xs ys : Steps C S) (done : Done C S) → Answered done (xs ++ ys) →
      Answered (By done xs) ys
  second_of [] ys done h = h
  second_of ((c, r) ∷ xs) ys done h = second_of xs ys ((c, r) ∷ done) h.1

  both : (xs ys : Steps C S) (done : Done C S) → Answered done xs → Answered (By done xs) ys →
      Answered done (xs ++ ys)
  both [] ys done h h2 = h2
  both ((c, r) ∷ xs) ys done h h2 = (h.0, both xs ys ((c, r) ∷ done) h.1 h2)

  -- STEPS OF OTHER NODES leave two nodes where they were

  not_changed : (c : NetworkCommand C S) (i : ℕ) → names c i ≡ false → (changed_by c == i) ≡ false
  not_changed (command.Call k x) i e = e
  not_changed (command.Ask k place) i e = e
  not_changed (command.Frame k frame now) i e = e
  not_changed (command.Exchange asker replier place s t) i e =
      neither (asker == i) (replier == i) e

  stays : (c : NetworkCommand C S) (r : NetworkReply C S) (d : Done C S) (i : ℕ) →
      names c i ≡ false → calls ((c, r) ∷ d) i ≡ calls d i
  stays c r d i e = ap (λ b. if b then calls_then wire (node i) c r (calls d i) else calls d i)
      (not_changed c i e)

  both_stay : (i j : ℕ) (steps : Steps C S) (d : Done C S) → NameNeither i j steps →
      (calls (By d steps) i ≡ calls d i) × (calls (By d steps) j ≡ calls d j)
  both_stay i j [] d h = (refl, refl)
  both_stay i j ((c, r) ∷ steps) d h =
      let later = both_stay i j steps ((c, r) ∷ d) h.1 in
      (later.0 ∙ stays c r d i h.0.0, later.1 ∙ stays c r d j h.0.1)

  both_apart : (i j : ℕ) (xs ys : Steps C S) → NameNeither i j (xs ++ ys) →
      NameNeither i j xs × NameNeither i j ys
  both_apart i j [] ys h = (tt, h)
  both_apart i j (x ∷ xs) ys h = let rest = both_apart i j xs ys h.1 in ((h.0, rest.0), rest.1)

  -- one that makes no call
  no_call : (c : NetworkCommand C S) (r : NetworkReply C S) (d : Done C S) →
      ((i : ℕ) → calls_then wire (node i) c r (calls d i) ≡ calls d i) → Alike ((c, r) ∷ d) d
  no_call c r d same i = go (changed_by c == i)
    where
      go : (b : Bool) →
          (if b then calls_then wire (node i) c r (calls d i) else calls d i) ≡ calls d i
      go true = same i
      go false = refl

  -- THE EXCHANGE in place of its frames, after what was done

  all_there : (asker replier : ℕ) → is_node wire size node asker ≡ true →
      is_node wire size node replier ≡ true → ¬ (asker ≡ replier) →
      (is_node wire size node asker
      && (is_node wire size node replier && not (asker == replier))) ≡ true
  all_there asker replier one other apart = go (is_node wire size node asker)
      (is_node wire size node replier) (asker == replier) one other
      (λ e. apart (eqb-true asker replier e))
    where
      go : (a b c : Bool) → a ≡ true → b ≡ true → (c ≡ true → ⊥) → (a && (b && not c)) ≡ true
      go true true false p q r = refl
      go true true true p q r = absurd (r refl)
      go true false c p q r = absurd (cc)
      go false b c p q r = absurd (cc)

  module _ (asker replier place : ℕ) (s t : Duration) where
    abbrev exchange : NetworkCommand C S
    exchange = command.Exchange asker replier place s t

    abbrev ask : NetworkCommand C S
    ask = command.Ask asker place

    abbrev Same : ExchangeFrames C S → Exchanged C S → Done C S → Type 0
    Same x r d = Alike (By d (exchange_steps asker replier place s t x r))
        (By d (frame_steps asker replier place s t x))

    -- ALL NODES STAND THE SAME

    asked_none : (d : Done C S) (frame : Option (List ℕ)) → Alike ((ask, reply.Ask frame) ∷ d) d
    asked_none d frame = no_call ask (reply.Ask frame) d (λ i. refl)

    same_refused : (frame : List ℕ) (between : Steps C S) (answer : Received C S)
        (r : Exchanged C S) (d : Done C S) → applies answer ≡ false → infos_applied r ≡ None →
        Same (Asked frame between answer) r d
    same_refused frame between answer r d not_applied none =
        subst (λ q. Alike q (By d (frame_steps asker replier place s t
        (Asked frame between answer))))
        (sym (after_both between ((exchange, reply.Exchange r) ∷ []) d))
        (subst (Alike ((exchange, reply.Exchange r) ∷ By d between))
        (sym (after_both between
        ((command.Frame replier frame t, reply.Frame answer) ∷ [])
        ((ask, reply.Ask (Some frame)) ∷ d)))
        (λ i. no_call exchange (reply.Exchange r) (By d between)
        (λ k. ap (λ o. calls_with o (calls (By d between) k)) none) i
        ∙ sym (alike_after between ((ask, reply.Ask (Some frame)) ∷ d) d
        (asked_none d (Some frame)) i)
        ∙ sym (no_call (command.Frame replier frame t) (reply.Frame answer)
        (By ((ask, reply.Ask (Some frame)) ∷ d) between)
        (λ k. ap (λ b. if b then Call.Update (infos_of_frame wire (node k).limits frame)
        ∷ calls (By ((ask, reply.Ask (Some frame)) ∷ d) between) k
        else calls (By ((ask, reply.Ask (Some frame)) ∷ d) between) k) not_applied) i)))

    -- the asker's last call, if it made one
    same_last : (given : List ℕ) (answer : Received C S) (r : Exchanged C S) (d e : Done C S) →
        Alike d e → IsTakenReply (infos_of_frame wire (node asker).limits given) answer r →
        Alike ((exchange, reply.Exchange r) ∷ d)
        ((command.Frame asker given s, reply.Frame answer) ∷ e)
    same_last given answer r d e same comes i = go (asker == i) refl
      where
        made : (answer : Received C S) (r : Exchanged C S) →
            IsTakenReply (infos_of_frame wire (node asker).limits given) answer r →
            (cs : List (Call C S)) → calls_with (infos_applied r) cs ≡ (if applies answer
            then Call.Update (infos_of_frame wire (node asker).limits given) ∷ cs else cs)
        made (received.Codec fault) (exchanged.ReplyRefused f) comes cs = refl
        made (received.Invalid error) (exchanged.Invalid f) comes cs = refl
        made received.Memory exchanged.Memory comes cs = refl
        made (received.Applied count) (exchanged.Applied infos) comes cs =
            ap (λ is. Call.Update is ∷ cs) comes
        made _ _ comes cs = absurd comes

        go : (b : Bool) → (asker == i) ≡ b →
            (if b then calls_with (infos_applied r) (calls d i) else calls d i)
            ≡ (if b then (if applies answer
            then Call.Update (infos_of_frame wire (node i).limits given) ∷ calls e i
            else calls e i) else calls e i)
        go true is = ap (λ cs. calls_with (infos_applied r) cs) (same i)
            ∙ made answer r comes (calls e i)
            ∙ ap (λ k. if applies answer
            then Call.Update (infos_of_frame wire (node k).limits given) ∷ calls e i
            else calls e i) (eqb-true asker i is)
        go false is = same i

    same_taken : (frame : List ℕ) (between : Steps C S) (given : List ℕ) (later : Steps C S)
        (answer : Received C S) (r : Exchanged C S) (d : Done C S) →
        IsTakenReply (infos_of_frame wire (node asker).limits given) answer r →
        Same (Replied frame between given later answer) r d
    same_taken frame between given later answer r d comes =
        let second : NetworkCommand C S × NetworkReply C S =
        (command.Frame replier frame t, reply.Frame (received.Reply given)) in
        let third : NetworkCommand C S × NetworkReply C S =
        (command.Frame asker given s, reply.Frame answer) in
        let first : Done C S = (ask, reply.Ask (Some frame)) ∷ d in
        subst (λ q. Alike q (By d (frame_steps asker replier place s t
        (Replied frame between given later answer))))
        (sym (after_both (between ++ later) ((exchange, reply.Exchange r) ∷ []) d
        ∙ ap (λ q. (exchange, reply.Exchange r) ∷ q) (after_both between later d)))
        (subst (Alike ((exchange, reply.Exchange r) ∷ By (By d between) later))
        (sym (after_both between (second ∷ later ++ third ∷ []) first
        ∙ after_both later (third ∷ []) (second ∷ By first between)))
        (same_last given answer r (By (By d between) later) (By (second ∷ By first between) later)
        (alike_after later (By d between) (second ∷ By first between)
        (λ i. sym (alike_after between first d (asked_none d (Some frame)) i)
        ∙ sym (no_call second.0 second.1 (By first between) (λ k. refl) i)))
        comes))

    same_by : (x : ExchangeFrames C S) (r : Exchanged C S) (d : Done C S) →
        ComeTo wire size node asker x r → Same x r d
    same_by NoFrame exchanged.NoSet d comes = λ i.
        no_call exchange (reply.Exchange exchanged.NoSet) d (λ k. refl) i
        ∙ sym (asked_none d None i)
    same_by NoMemory exchanged.Memory d comes = λ i.
        no_call exchange (reply.Exchange exchanged.Memory) d (λ k. refl) i
        ∙ sym (no_call ask reply.OutOfMemory d (λ k. refl) i)
    same_by (Asked frame between answer) r d comes = go answer r comes
      where
        go : (answer : Received C S) (r : Exchanged C S) → IsRefusedReply answer r →
            Same (Asked frame between answer) r d
        go (received.Codec fault) (exchanged.AskRefused f) comes =
            same_refused frame between (received.Codec fault) (exchanged.AskRefused f) d refl refl
        go received.Malformed exchanged.Malformed comes =
            same_refused frame between received.Malformed exchanged.Malformed d refl refl
        go received.Memory exchanged.Memory comes =
            same_refused frame between received.Memory exchanged.Memory d refl refl
        go _ _ comes = absurd comes
    same_by (Replied frame between given later answer) r d comes =
        same_taken frame between given later answer r d comes
    same_by _ _ d comes = absurd comes

    -- THE EXCHANGE IS ANSWERED SO, after what was done

    module _ (d : Done C S) where
      abbrev a : Standing C S
      a = standing_at wire size node d asker

      abbrev b : Standing C S
      b = standing_at wire size node d replier

      abbrev Answer : Exchanged C S → Type 0
      Answer r = IsExchangeAnswer (exchange_may_want_memory a place)
          (exchanged_at a b place (as_nanos s) (as_nanos t)) r

      abbrev IsSo : Exchanged C S → Type 0
      IsSo r = Carried wire a b place (as_nanos s) (as_nanos t) r

      answers_at : (e : Done C S) (r : Exchanged C S) → calls e asker ≡ calls d asker →
          calls e replier ≡ calls d replier → are_there size exchange ≡ true → Answer r →
          IsNetworkAnswer wire size node e exchange (reply.Exchange r)
      answers_at e r same_a same_b there h = (
        there,
        subst (λ cs. IsExchangeAnswer (exchange_may_want_memory (at asker cs) place)
            (exchanged_at (at asker cs) (at replier (calls e replier)) place (as_nanos s)
            (as_nanos t)) r) (sym same_a)
            (subst (λ cs. IsExchangeAnswer (exchange_may_want_memory a place)
            (exchanged_at a (at replier cs) place (as_nanos s) (as_nanos t)) r) (sym same_b) h),
      )

      some_bits : (o : Option (SetAt C)) (f : SetAt C → ℕ × List Bool) → is_some o ≡ true →
          is_some (option_map bit_vec_of (option_map f o)) ≡ true
      some_bits None f e = absurd (cc)
      some_bits (Some x) f e = refl

      pub answered_by : (x : ExchangeFrames C S) (r : Exchanged C S) →
          AreExchange wire size node asker replier x r → IsSo r →
          Answered d (frame_steps asker replier place s t x) →
          Answered d (exchange_steps asker replier place s t x r)
      answered_by NoFrame exchanged.NoSet are carried h = (
        answers_at d exchanged.NoSet refl refl
            (all_there asker replier h.0.0 are.there are.apart)
            (no_set wire a b place (as_nanos s) (as_nanos t) carried h.0.1),
        tt,
      )
      answered_by NoMemory exchanged.Memory are carried h = (
        answers_at d exchanged.Memory refl refl
            (all_there asker replier h.0.0 are.there are.apart)
            (some_bits (set_at_place (node asker).directory
            (world_after (node asker).directory (calls d asker)) place)
            (λ x. (
              x.index,
              bits_of (node asker).directory
                  (world_after (node asker).directory (calls d asker)) x,
            )) h.0.1),
        tt,
      )
      answered_by (Asked frame between answer) r are carried h =
          let first : Done C S = (ask, reply.Ask (Some frame)) ∷ d in
          let second : NetworkCommand C S × NetworkReply C S =
          (command.Frame replier frame t, reply.Frame answer) in
          let told = (second_of between (second ∷ []) first h.1).0 in
          let stay = both_stay asker replier between d are.between in
          let stay_first = both_stay asker replier between first are.between in
          both between ((exchange, reply.Exchange r) ∷ []) d
          (answers_alike between first d (asked_none d (Some frame))
          (first_of between (second ∷ []) first h.1)) (
            answers_at (By d between) r stay.0 stay.1
                (all_there asker replier h.0.0 are.there are.apart)
                (refused_reply wire a b place (as_nanos s) (as_nanos t) frame h.0.1 answer r
                (frame_may_want_memory wire b frame (as_nanos t))
                (subst (λ cs. frames.IsFrameAnswer
                (frame_may_want_memory wire (at replier cs) frame (as_nanos t))
                (received_at wire (at replier cs) frame (as_nanos t)) answer)
                (stay_first.1 ∙ asked_none d (Some frame) replier) told.1)
                are.outcome carried),
            tt,
          )
      answered_by (Replied frame between given later answer) r are carried h =
          let first : Done C S = (ask, reply.Ask (Some frame)) ∷ d in
          let second : NetworkCommand C S × NetworkReply C S =
          (command.Frame replier frame t, reply.Frame (received.Reply given)) in
          let third : NetworkCommand C S × NetworkReply C S =
          (command.Frame asker given s, reply.Frame answer) in
          let rest = second_of between (second ∷ later ++ third ∷ []) first h.1 in
          let told = rest.0 in
          let took = (second_of later (third ∷ []) (second ∷ By first between) rest.1).0 in
          let apart = both_apart asker replier between later are.between in
          let stay = both_stay asker replier (between ++ later) d are.between in
          let stay_first = both_stay asker replier between first apart.0 in
          let stay_second = both_stay asker replier later (second ∷ By first between) apart.1 in
          let same_first : calls (By first between) replier ≡ calls d replier =
          stay_first.1 ∙ asked_none d (Some frame) replier in
          let same_second : calls (By (second ∷ By first between) later) asker ≡ calls d asker =
          stay_second.0 ∙ no_call second.0 second.1 (By first between) (λ k. refl) asker
          ∙ stay_first.0 ∙ asked_none d (Some frame) asker in
          both (between ++ later) ((exchange, reply.Exchange r) ∷ []) d
          (both between later d
          (answers_alike between first d (asked_none d (Some frame))
          (first_of between (second ∷ later ++ third ∷ []) first h.1))
          (answers_alike later (second ∷ By first between) (By d between)
          (λ i. no_call second.0 second.1 (By first between) (λ k. refl) i
          ∙ alike_after between first d (asked_none d (Some frame)) i)
          (first_of later (third ∷ []) (second ∷ By first between) rest.1))) (
            answers_at (By d (between ++ later)) r stay.0 stay.1
                (all_there asker replier h.0.0 are.there are.apart)
                (taken_reply wire a b place (as_nanos s) (as_nanos t) frame h.0.1 given
                (subst (λ cs. received.Reply given
                ≡ (received_at wire (at replier cs) frame (as_nanos t)).answer) same_first told.1)
                answer r (frame_may_want_memory wire a given (as_nanos s))
                (subst (λ cs. frames.IsFrameAnswer
                (frame_may_want_memory wire (at asker cs) given (as_nanos s))
                (received_at wire (at asker cs) given (as_nanos s)) answer) same_second took.1)
                are.outcome carried),
            tt,
          )
      answered_by _ _ are carried h = absurd are.outcome

    -- IN A RUN

    module _ (x : ExchangeFrames C S) (r : Exchanged C S)
        (are : AreExchange wire size node asker replier x r) (before after : Steps C S) where
      abbrev framed : Steps C S
      framed = frame_steps asker replier place s t x

      abbrev exchanging : Steps C S
      exchanging = exchange_steps asker replier place s t x r

      abbrev d : Done C S
      d = By [] before

      ended : (steps : Steps C S) → By [] (before ++ (steps ++ after)) ≡ By (By d steps) after
      ended steps = after_both before (steps ++ after) [] ∙ after_both steps after d

      same_calls : Alike (By [] (before ++ (exchanging ++ after)))
          (By [] (before ++ (framed ++ after)))
      same_calls i = ap (λ q. calls q i) (ended exchanging)
          ∙ alike_after after (By d exchanging) (By d framed) (same_by x r d are.outcome) i
          ∙ ap (λ q. calls q i) (sym (ended framed))

      is_run : (vs : List (NodeView C S)) → IsSo d r →
          IsNetworkRun wire size node (before ++ (framed ++ after)) vs →
          IsNetworkRun wire size node (before ++ (exchanging ++ after)) vs
      is_run vs carried h =
          let rest = second_of before (framed ++ after) [] h.answers in
          record {
            answers = both before (exchanging ++ after) []
                (first_of before (framed ++ after) [] h.answers)
                (both exchanging after d
                (answered_by d x r are carried (first_of framed after d rest))
                (answers_alike after (By d framed) (By d exchanging)
                (λ i. sym (same_by x r d are.outcome i)) (second_of framed after d rest)));
            stand = record {
              count = h.stand.count;
              each = λ i v lt. subst (λ cs. NodeStandsAt (node i) cs (slice_index_or vs i v))
                  (sym (same_calls i)) (h.stand.each i v lt);
            };
          }

  -- ANY NUMBER OF EXCHANGES

  module _ (IsKey : C → Type 0) (IsSignature : S → Type 0) where
    abbrev Counted : ℕ → Steps C S → Steps C S → Type 0
    Counted n steps counted = AreCounted wire size node IsKey IsSignature n steps counted

    pub same_after : (n : ℕ) (steps counted : Steps C S) → Counted n steps counted →
        Alike (By [] counted) (By [] steps)
    same_after zero steps counted same = λ i. ap (λ x. calls (By [] x) i) same
    same_after (suc n) steps counted h = λ i. let one = h.1 in
        same_after n h.0 counted h.2 i ∙ ap (λ x. calls (By [] x) i) one.in_exchange
        ∙ same_calls one.asker one.replier one.place one.s one.t one.frames one.r one.are_exchange
        one.before one.after i
        ∙ sym (ap (λ x. calls (By [] x) i) one.in_frames)

    -- where what is told is carried
    pub stays_run : ((a b : Standing C S) (place s t : ℕ) →
        CanBeSpelled IsKey IsSignature a b place t →
        IsCarried wire a b place s t (exchanged_at a b place s t)) →
        (n : ℕ) (steps counted : Steps C S) → Counted n steps counted →
        (vs : List (NodeView C S)) → IsNetworkRun wire size node steps vs →
        IsNetworkRun wire size node counted vs
    stays_run carried zero steps counted same vs run =
        subst (λ x. IsNetworkRun wire size node x vs) (sym same) run
    stays_run carried (suc n) steps counted h vs run =
        let one = h.1 in
        let d = By [] one.before in
        stays_run carried n h.0 counted h.2 vs
        (subst (λ x. IsNetworkRun wire size node x vs) (sym one.in_exchange)
        (is_run one.asker one.replier one.place one.s one.t one.frames one.r one.are_exchange
        one.before one.after vs
        (λ made. carried (standing_at wire size node d one.asker)
        (standing_at wire size node d one.replier) one.place (as_nanos one.s) (as_nanos one.t)
        (one.spelled made))
        (subst (λ x. IsNetworkRun wire size node x vs) one.in_frames run)))
