-- Sessions that are called in turn are a network.
use Rattle.std.proofs.Common.{◌≡◌, ◌<◌, ℕ, length, Bool, true, false, List, [], ◌∷◌, Option, Some}
use Rattle.std.proofs.Common.{None, zero, suc, arith}
use Rattle.std.proofs.Common.{Result, Ok, Err, refl, sym, ◌∙◌, ap, subst}
use Rattle.std.specs.List.{cons_option}
use Rattle.p2p_tracker.specs.Directory.{known_bits}
use Rattle.std.specs.Prelude.{is_some, option_map, slice_get, slice_set, slice_index_or}
use Rattle.std.specs.Cmp.{IsTotalOrder}
use Rattle.std.specs.Duration.{as_nanos}
use Rattle.std.specs.declared.cmp.Ordering.{Ordering}
use Rattle.std.specs.declared.cmp.Ordering.TheVariants.{Equal}
use Rattle.std.proofs.lemmas.List.{set-get_or}
use Rattle.p2p_discovery.specs.declared.discovery.BitVec.{BitVec}
use Rattle.p2p_discovery.specs.declared.discovery.Payload.TheVariants as said
use Rattle.p2p_tracker.specs.Calls.{Call, SetAt}
use Rattle.p2p_directory.specs.declared.node.network.commands.NetworkCommand.{NetworkCommand}
use Rattle.p2p_directory.specs.declared.node.network.commands.NetworkCommand.TheVariants as command
use Rattle.p2p_directory.specs.declared.node.network.commands.NetworkReply.{NetworkReply}
use Rattle.p2p_directory.specs.declared.node.network.commands.NetworkReply.TheVariants as reply
use Rattle.p2p_directory.specs.declared.node.received.Received.{Received}
use Rattle.p2p_directory.specs.declared.node.setup.Setup.{Setup}
use Rattle.p2p_directory.specs.declared.run.commands.Reply.{Reply}
use Rattle.p2p_directory.specs.Nodes.{NodeView, standing_of, made_of, IsSteppedAt, AtEach, IsAsked}
use Rattle.p2p_directory.specs.Nodes.{IsReceived, IsStepped, AsksWith, Made}
use Rattle.p2p_directory.specs.Received.{ask_frame_at, Wire, verdicts_of}
use Rattle.p2p_directory.specs.Network.{IsServedAmong, AsksAt, node_made}
use Rattle.p2p_directory.specs.Laws.InTurn.{AreServedInTurn, Steps, IsNetworkRun, not_refused}
use Rattle.p2p_directory.specs.Laws.Verdicts.{AreToldOf}
use Rattle.p2p_directory.specs.Run.{call_of}
use Rattle.p2p_directory.specs.Laws.Network as law
use Rattle.p2p_directory.specs.Laws.Network.{AreMade}
use Rattle.p2p_directory.specs.Laws.InTurn.{commands_of, replies_of}
use Rattle.p2p_directory.specs.Network.{AreNetworkAnswers, IsNetworkAnswer, Done, standing_at}
use Rattle.p2p_directory.specs.declared.node.exchanged.Exchanged.{Exchanged}
use Rattle.p2p_directory.specs.declared.node.exchanged.Exchanged.TheVariants as exchanged
use Rattle.p2p_directory.specs.Exchange.{ExchangeOutcome, IsExchangeAnswer, IsCarried}
use Rattle.p2p_directory.specs.Exchange.{exchange_may_want_memory, exchanged_at}
use Rattle.p2p_directory.proofs.Nodes.Carried.{is_carried}
use Rattle.p2p_discovery.specs.Fixed.{IsFixed}
use Rattle.p2p_directory.proofs.Nodes.ReadBack.{wire_by}
use Rattle.p2p_directory.proofs.LawsOfNetworks.Provenance
use Rattle.p2p_directory.proofs.LawsOfNetworks.Exchanges
use Rattle.p2p_directory.proofs.LawsOfNetworks.Frames
use Rattle.p2p_directory.proofs.LawsOfNetworks.Replied
use Rattle.p2p_directory.proofs.LawsOfNetworks.Laws
use Rattle.p2p_directory.proofs.LawsOfGossip.FramesByVerdicts.{answers_over}
use Rattle.p2p_directory.proofs.LawsOfNetworks.InTurn.{is_run}
use Rattle.p2p_directory.proofs.Nodes.Worlds.{received_in, asked_in}
use Rattle.p2p_session.specs.Schemes.{Scheme, wire}
use Rattle.p2p_session.specs.Frames.{Hears}
use Rattle.p2p_session.specs.Laws.{Served}
use Rattle.p2p_directory.specs.Nodes.{NodeStandsAt}
use Rattle.p2p_session.specs.Requests.{Request}
use Rattle.p2p_session.specs.Requests.Request.{Looking}
use Rattle.p2p_session.specs.Sessions.Look.{Wanted}
use Rattle.p2p_session.specs.Steps.{Step, Leads}
use Rattle.p2p_session.specs.Steps.Step.{Called, Heard, Looked}
use Rattle.p2p_session.specs.Networks.{SessionCall, network_steps, judged_wire, AreVerdicts}
use Rattle.p2p_session.specs.Networks.{IsInNetwork, AreCalled, LawsOfGossip}
use Rattle.p2p_session.specs.Networks.{IsSpelledIn}
use Rattle.p2p_session.specs.Networks.{AreInit}
use Rattle.p2p_session.specs.Networks.{IsShortStep, IsSomething}
use Rattle.p2p_session.specs.Laws.{Goes}
use Rattle.p2p_session.proofs.Represented.{moment, is_moment, has_command}

module _ {C S : Type 0} (k : Scheme C S) (verifies : C → List ℕ → List ℕ → S → Bool) where
  abbrev over : Wire C S
  over = judged_wire k verifies

  abbrev Views : Type 0
  Views = List (NodeView C S)

  -- ---- one step

  stepped : (v v2 : NodeView C S) (call call2 : Call C S) (r r2 : Reply C S) → call2 ≡ call →
      r2 ≡ r → AtEach k.key.cmp v (λ m calls. IsSteppedAt m calls call r v2) →
      AtEach k.key.cmp v (λ m calls. IsSteppedAt m calls call2 r2 v2)
  stepped v v2 call call2 r r2 same same2 h = λ given calls at.
      subst (λ c. IsSteppedAt (made_of k.key.cmp given) calls c r2 v2) (sym same)
      (subst (λ q. IsSteppedAt (made_of k.key.cmp given) calls call q v2) (sym same2)
      (h given calls at))

  heard : (v v2 : NodeView C S) (frame : List ℕ) (now : ℕ) (verdicts : List Bool)
      (r : Received C S) → Hears k verdicts frame now v v2 r →
      AreToldOf verifies (wire k) (standing_of k.key.cmp (wire k) v) frame now verdicts →
      IsReceived k.key.cmp over verdicts_of frame now r v v2
  heard v v2 frame now verdicts r h told = λ given calls at.
      received_in (made_of k.key.cmp given) over calls v at given.cfg.max_sets.ok verdicts_of frame
      now r v2 (answers_over verifies (wire k) now verdicts k.key.cmp frame r v v2 told h.seen)

  at_set : (sets : Option (SetAt C)) (f : SetAt C → BitVec) (g : BitVec → List ℕ) →
      is_some (option_map g (option_map f sets)) ≡ true → is_some sets ≡ true
  at_set None f g e = absurd (cc)
  at_set (Some x) f g e = refl

  -- ---- one call

  -- what a call is to the network
  abbrev One : Option (NetworkCommand C S × NetworkReply C S) → Views → Views → Type 0
  One None vs vs2 = vs2 ≡ vs
  One (Some x) vs vs2 = IsServedAmong k.key.cmp over x.0 x.1 vs vs2

  module _ (i : ℕ) (vs vs2 : Views) (there : i < length vs) (before node : NodeView C S)
      (is_before : (v : NodeView C S) → slice_index_or vs i v ≡ before)
      (others : vs2 ≡ slice_set vs i node) where
    unmoved : node ≡ before → vs2 ≡ vs
    unmoved e = others ∙ ap (λ u. slice_set vs i u) (e ∙ sym (is_before node))
        ∙ set-get_or vs i node

    is_there : (j : ℕ) → j ≡ i → j < length vs
    is_there j same = subst (λ n. n < length vs) (sym same) there

    are_others : (j : ℕ) → j ≡ i → vs2 ≡ slice_set vs j node
    are_others j same = others ∙ ap (λ n. slice_set vs n node) (sym same)

    was : (j : ℕ) → j ≡ i → (v : NodeView C S) → before ≡ slice_index_or vs j v
    was j same v = sym (is_before v) ∙ ap (λ n. slice_index_or vs n v) (sym same)

    asks : (j place n : ℕ) → j ≡ i → place ≡ n → node ≡ before →
        (r : Result (Option (List ℕ)) (Unit {0})) → AsksWith k.key.cmp over n r before →
        AsksAt k.key.cmp over j place r vs vs2
    asks j place n same same2 e r h = record {
      there = is_there j same;
      same = unmoved e;
      asked = λ v. subst (IsAsked k.key.cmp over place r) (was j same v)
          (subst (λ p. IsAsked k.key.cmp over p r before) (sym same2)
          (λ given calls at.
          asked_in (made_of k.key.cmp given) over calls before at n r h));
    }

    one : (asked : Option (Request C S)) (step : Step C S)
        (o : Option (NetworkCommand C S × NetworkReply C S)) → Leads k step before node →
        AreVerdicts k verifies step before → IsInNetwork k verifies i asked step before o →
        One o vs vs2
    one asked Looked None leads told is = unmoved leads
    one asked (Called call r) (Some (command.Call j x, reply.Call r2)) leads told is = record {
      there = is_there j is.0;
      node = node;
      others = are_others j is.0;
      stepped = λ v. subst (λ u. IsStepped k.key.cmp x r2 u node) (was j is.0 v)
          (stepped before node call (call_of x) r r2 is.1 is.2 leads.0);
    }
    one asked (Heard frame now verdicts r) (Some (command.Frame j bytes moment, reply.Frame r2))
        leads told is = record {
          there = is_there j is.0;
          node = node;
          others = are_others j is.0;
          received = λ v. subst (λ u. IsReceived k.key.cmp over verdicts_of bytes
              (as_nanos moment) r2 u node) (was j is.0 v)
              (subst (λ f. IsReceived k.key.cmp over verdicts_of f (as_nanos moment) r2 before
              node) (sym is.1)
              (subst (λ t. IsReceived k.key.cmp over verdicts_of frame t r2 before node)
              (sym is.2)
              (subst (λ q. IsReceived k.key.cmp over verdicts_of frame now q before node)
              (sym is.3)
              (heard before node frame now verdicts r leads told))));
        }
    one (Some (Looking (Wanted n))) Looked (Some (command.Ask j place, reply.Ask frame)) leads told
        is = asks j place n is.0 is.1 leads (Ok frame) (record { frame = is.2; err = tt })
    one (Some (Looking (Wanted n))) Looked (Some (command.Ask j place, reply.OutOfMemory)) leads
        told is = asks j place n is.0 is.1 leads (Err tt) (record {
          frame = tt;
          err = at_set (slice_get before.directory.sets n)
              (λ set. record {
                index = set.index;
                bits = known_bits k.key.cmp before.directory set;
              })
              (λ x. (wire k).spelling (said.BitVec x)) is.2;
        })
    one asked step o leads told is = absurd is

  -- ---- each call is something to the network, or nothing

  something : (i : ℕ) (asked : Option (Request C S)) (step : Step C S) (v : NodeView C S) →
      IsShortStep step → (o : Option (NetworkCommand C S × NetworkReply C S))
      × IsInNetwork k verifies i asked step v o
  something i asked (Called call r) v short = let x = has_command call short in
      (Some (command.Call i x.0, reply.Call r), (refl, x.1, refl))
  something i asked (Heard frame now verdicts r) v short =
      (Some (command.Frame i frame (moment now), reply.Frame r), (refl, refl, is_moment now, refl))
  something i (Some (Looking (Wanted n))) Looked v short = (
    Some (
      command.Ask i n,
      reply.Ask (ask_frame_at (wire k) (standing_of k.key.cmp (wire k) v) n),
    ),
    (refl, refl, refl),
  )
  something i asked Looked v short = (None, tt)

  pub is_something : (i : ℕ) (call : Served C S) (v v2 : NodeView C S)
      (goes : Goes k call (Some v) (Some v2)) → IsShortStep goes.0 →
      AreVerdicts k verifies goes.0 v → IsSomething k verifies i call v v2
  is_something i call v v2 goes short told =
      let it = something i call.asked goes.0 v short in
      (it.0, record { goes = goes; verdicts = told; in_network = it.1 })

  -- ---- all calls

  turn : (o : Option (NetworkCommand C S × NetworkReply C S)) (rest : Steps C S)
      (vs between vs2 : Views) → One o vs between →
      AreServedInTurn k.key.cmp over rest between vs2 →
      AreServedInTurn k.key.cmp over (cons_option o rest) vs vs2
  turn None rest vs between vs2 same more =
      subst (λ u. AreServedInTurn k.key.cmp over rest u vs2) same more
  turn (Some x) rest vs between vs2 is more = (between, is, more)

  pub are_served : (calls : List (SessionCall C S)) (vs vs2 : Views) →
      AreCalled k verifies calls vs vs2 →
      AreServedInTurn k.key.cmp over (network_steps calls) vs vs2
  are_served [] vs vs2 h = h
  are_served (x ∷ calls) vs vs2 h =
      let it = h.1 in
      turn x.in_network (network_steps calls) vs h.0 vs2
      (one x.session vs h.0 it.there it.before it.node it.is_before it.others x.call.asked
      it.served.goes.0 x.in_network it.served.goes.2 it.served.verdicts it.served.in_network)
      (are_served calls h.0 vs2 h.2)

  -- ---- from the start on

  as_many : (inits : List (Served C S)) (setups : List (Setup C S)) (vs : Views) →
      AreInit k inits setups vs → length vs ≡ length setups
  as_many [] [] [] h = refl
  as_many (call ∷ inits) (given ∷ setups) (v ∷ vs) h =
      ap (λ n. suc n) (as_many inits setups vs h.1)
  as_many _ _ _ h = absurd h

  made_each : (other : Setup C S) (inits : List (Served C S)) (setups : List (Setup C S))
      (vs : Views) → AreInit k inits setups vs → (i : ℕ) (v : NodeView C S) →
      i < length setups →
      NodeStandsAt (made_of k.key.cmp (slice_index_or setups i other)) [] (slice_index_or vs i v)
  made_each other [] [] [] h i v lt = absurd (omega (arith, lt))
  made_each other (call ∷ inits) (given ∷ setups) (u ∷ vs) h zero v lt = h.0.1
  made_each other (call ∷ inits) (given ∷ setups) (u ∷ vs) h (suc i) v lt =
      made_each other inits setups vs h.1 i v (omega (arith, lt))
  made_each other _ _ _ h i v lt = absurd h

  module _ (setups : List (Setup C S)) (other : Setup C S) where
    abbrev size : ℕ
    size = length setups

    abbrev node : ℕ → Made C S
    node = node_made k.key.cmp other setups

    pub are_made : (wire : Wire C S) → AreMade wire size node k.key.cmp
    are_made wire i there = record {
      order = refl;
      me = refl;
      sets = (slice_index_or setups i other).cfg.max_sets.ok;
    }

    pub are_network : (inits : List (Served C S)) (calls : List (SessionCall C S))
        (vs vs2 : Views) → AreInit k inits setups vs → AreCalled k verifies calls vs vs2 →
        IsNetworkRun over size node (not_refused (network_steps calls)) vs2
    are_network inits calls vs vs2 made h = is_run k.key.cmp over setups other
        (network_steps calls) vs vs2
        (record {
          count = as_many inits setups vs made;
          each = made_each other inits setups vs made;
        })
        (are_served calls vs vs2 h)

-- ---- the laws of gossip

comes_once : {C S : Type 0} (r : Exchanged C S) (may : Bool) (o o2 : ExchangeOutcome C S) →
    IsExchangeAnswer false o r → IsExchangeAnswer may o2 r → o ≡ o2
comes_once exchanged.Memory may o o2 h h2 = absurd (cc)
comes_once _ may o o2 h h2 = h ∙ sym h2

no_want : {C S : Type 0} (r : Exchanged C S) (o : ExchangeOutcome C S) →
    IsExchangeAnswer false o r → ¬ (r ≡ exchanged.Memory)
no_want exchanged.Memory o h = absurd (cc)
no_want _ o h = λ e. cc

module _ {C S : Type 0} {key_size signature_size : ℕ} {key : C → List ℕ} {signature : S → List ℕ}
    {key_of : List ℕ → Option C} {signature_of : List ℕ → Option S}
    {IsKey : C → Type 0} {IsSignature : S → Type 0} (k : IsFixed key_size key key_of IsKey)
    (s : IsFixed signature_size signature signature_of IsSignature)
    (verifies : C → List ℕ → List ℕ → S → Bool) (size : ℕ) (node : ℕ → Made C S)
    (cmp : C → C → Ordering) (total : IsTotalOrder cmp)
    (exact : (q p : C) → cmp q p ≡ Equal → q ≡ p) where
  abbrev by : Wire C S
  by = wire_by key_size key key_of signature_size signature signature_of verifies

  abbrev Spelled : Done C S → NetworkCommand C S → NetworkReply C S → Type 0
  Spelled = IsSpelledIn by size node IsKey IsSignature

  is_carried_by : (done : Done C S) (c : NetworkCommand C S) (r : NetworkReply C S) →
      IsNetworkAnswer by size node done c r → Spelled done c r →
      law.CarriesExchange by size node done c r
  is_carried_by done (command.Exchange asker replier place t t2) (reply.Exchange r) h can =
      λ o answer.
      let a = standing_at by size node done asker in
      let b = standing_at by size node done replier in
      subst (IsCarried by a b place (as_nanos t) (as_nanos t2))
      (sym (comes_once r (exchange_may_want_memory a place) o
      (exchanged_at a b place (as_nanos t) (as_nanos t2)) answer h.1))
      (is_carried k s verifies a b place (as_nanos t) (as_nanos t2) (can (no_want r o answer)))
  is_carried_by done c r h can = tt

  are_carried : (done : Done C S) (cs : List (NetworkCommand C S)) (rs : List (NetworkReply C S)) →
      AreNetworkAnswers by size node done cs rs →
      law.OfEachReply by size node Spelled done cs rs →
      law.OfEachReply by size node (law.CarriesExchange by size node) done cs rs
  are_carried done [] rs h can = tt
  are_carried done (c ∷ cs) [] h can = absurd h
  are_carried done (c ∷ cs) (r ∷ rs) h can = (
    is_carried_by done c r h.0 can.0,
    are_carried ((c, r) ∷ done) cs rs h.1 can.1,
  )

  pub laws_hold : (steps : Steps C S) → AreMade by size node cmp →
      AreNetworkAnswers by size node [] (commands_of steps) (replies_of steps) →
      LawsOfGossip by size node IsKey IsSignature steps
  laws_hold steps made answers = record {
    at_each_point = Laws.at_each_point by size node cmp made exact total (commands_of steps)
        (replies_of steps) answers;
    exchanges = Exchanges.keep_exchanges by size node cmp total exact made [] tt
        (commands_of steps) (replies_of steps) answers;
    others = Provenance.of_any_reply by size node (law.LeavesOtherNodes by size node)
        (Provenance.leaves_others by size node) [] (commands_of steps) (replies_of steps);
    late = Provenance.of_each_reply by size node _ (λ done answered. Frames.takes_frame k s verifies
        size node cmp total exact made done) [] tt (commands_of steps) (replies_of steps) answers;
    carried = are_carried [] (commands_of steps) (replies_of steps) answers;
    greetings = λ is_info is_keyed. Provenance.of_each_reply by size node
        (law.TakesGreeting by size node) (λ done answered. Frames.takes_greeting k s verifies size
        node cmp made is_info is_keyed done) [] tt (commands_of steps) (replies_of steps) answers;
    replies = λ few written. Replied.keep_replies k s verifies size node cmp exact made few [] tt tt
        (commands_of steps) (replies_of steps) answers written;
  }
