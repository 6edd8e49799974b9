-- A session whose node `init` makes in the setting of ShownSteps, and that then serves a question,
-- a frame, a look and a call that is refused for memory, is a run. One that is made anew at a call
-- isn't served so.
use Rattle.std.proofs.Common.{◌≡◌, inl, inr, ℕ, ◌^◌, ◌-◌, Bool, true, false, List, [], ◌∷◌, Option}
use Rattle.std.proofs.Common.{Some, None, Ok, refl, subst, arith}
use Rattle.std.specs.Ordering.{nat_cmp}
use Rattle.std.proofs.lemmas.Cmp.{nat_cmp_total}
use Rattle.p2p_discovery.specs.Payload.{body_at, payload_at}
use Rattle.p2p_discovery.specs.Data.{data_at, message_at}
use Rattle.p2p_discovery.specs.Counted.{length_at}
use Rattle.p2p_discovery.specs.Varint.{groups, groups_at}
use Rattle.p2p_discovery.specs.Info as texts
use Rattle.p2p_discovery.specs.Ingress.{ingress_at}
use Rattle.p2p_discovery.specs.Socket.{ip_at, socket_at}
use Rattle.p2p_discovery.specs.BitVec.{bits_read_at, bit_vec_read_at}
use Rattle.p2p_discovery.specs.Bits.{bits_in, packed}
use Rattle.p2p_discovery.specs.Lists.{spellings, elems, items_at, list_at}
use Rattle.p2p_tracker.specs.Calls.Call.{Ask, Block, Dial}
use Rattle.p2p_tracker.specs.Calls.Question.{LatestIndex}
use Rattle.p2p_directory.specs.declared.node.received.Received.TheVariants as received
use Rattle.p2p_directory.specs.declared.node.setup.Setup.{Setup}
use Rattle.p2p_directory.specs.declared.run.commands.Reply.{Reply}
use Rattle.p2p_directory.specs.declared.run.commands.Reply.TheVariants as reply
use Rattle.p2p_directory.specs.Nodes.{NodeView, IsStepAnswer, made_of}
use Rattle.p2p_session.specs.declared.session.Session.{Session}
use Rattle.p2p_session.specs.declared.setup.Numbers.{Numbers}
use Rattle.p2p_session.specs.Answers.{Tells, truth}
use Rattle.p2p_session.specs.Frames.{IsTaken}
use Rattle.p2p_session.specs.Given.{IsSetup}
use Rattle.p2p_session.specs.Laws.{Served, AreServed, IsRun}
use Rattle.p2p_session.specs.Requests.{Request, ServesRequest}
use Rattle.p2p_session.specs.Requests.Request.{Numbered, Written, Frame, Looking, Init}
use Rattle.p2p_session.specs.Sessions.{Steps, TellsReply}
use Rattle.p2p_session.specs.Sessions.Look.{Retained}
use Rattle.p2p_session.proofs.Served.{sessions}
use Rattle.p2p_session.proofs.ShownSteps.{k, m, v, sec, exact, greeting, latest, stands_so}
use Rattle.p2p_session.proofs.ShownSteps.{leads_on_by_call, leads_on_by_frame, leads_on_by_refusal}
use Rattle.p2p_session.proofs.ShownSteps.{anew_is_refused}

abbrev with_node : Option (NodeView ℕ ℕ) → Session ℕ ℕ
with_node o = record { node = o; checked = tt }

abbrev served : Option (Request ℕ ℕ) → List ℕ → List ℕ → ℕ → Served ℕ ℕ
served asked out out2 n = record { asked = asked; out = out; out2 = out2; n = n }

-- ---- each call

abbrev room : List ℕ
room = 7 ∷ 7 ∷ 7 ∷ 7 ∷ 7 ∷ 7 ∷ 7 ∷ 7 ∷ 7 ∷ []

abbrev written : List ℕ
written = 1 ∷ 1 ∷ 7 ∷ 7 ∷ 7 ∷ 7 ∷ 7 ∷ 7 ∷ 7 ∷ []

abbrev greets : Request ℕ ℕ
greets = Frame greeting 100 0 (1 ∷ [])

asks : ServesRequest k (Some (Written (Ok (Ask LatestIndex)))) [] [] (with_node (Some v))
    (with_node (Some v)) (2 ^ 64 - 3)
asks = (
  latest,
  record {
    stepped = leads_on_by_call.0;
    unchanged = leads_on_by_call.1;
    told = inr (refl, refl);
  },
)

is_taken : IsTaken k v (true ∷ []) greeting 9 (received.Greeted 1)
unfolding payload_at body_at data_at message_at length_at groups groups_at texts.info_at ingress_at
    ip_at socket_at bits_read_at bit_vec_read_at bits_in packed spellings elems items_at list_at
is_taken = record { fits = omega arith; counted = λ e. absurd (let same : false ≡ true = e in cc) }

hears : ServesRequest k (Some greets) room written (with_node (Some v)) (with_node (Some v)) 2
hears = inr (received.Greeted 1, leads_on_by_frame, is_taken, record { count = refl; room = refl })

looks : ServesRequest k (Some (Looking Retained)) [] [] (with_node (Some v)) (with_node (Some v)) 0
looks = (refl, (refl, refl))

dials : ServesRequest k (Some (Numbered (Ok (Dial 1 (sec 101) 0)))) [] [] (with_node (Some v))
    (with_node (Some v)) (2 ^ 64 - 1)
dials = (
  refl,
  (
    reply.OutOfMemory,
    record {
      stepped = leads_on_by_refusal.0;
      unchanged = leads_on_by_refusal.1;
      told = inr (refl, refl);
    },
  ),
)

-- ---- all of them, whatever the node is made from

module _ (given : Setup ℕ ℕ) (is : made_of nat_cmp given ≡ m) (numbers : Numbers)
    (namespace bootstrappers myself : List ℕ)
    (setup : IsSetup k numbers namespace bootstrappers myself given) where
  abbrev init : Request ℕ ℕ
  init = Init numbers namespace bootstrappers myself

  begins : ServesRequest k (Some init) [] [] (with_node None) (with_node (Some v)) 1
  begins = (
    refl,
    record {
      made = λ e. (refl, (given, setup, stands_so given is));
      refused = λ no. absurd (no refl);
    },
  )

  abbrev calls : List (Served ℕ ℕ)
  calls = served (Some init) [] [] 1
      ∷ served (Some (Written (Ok (Ask LatestIndex)))) [] [] (2 ^ 64 - 3)
      ∷ served (Some greets) room written 2
      ∷ served (Some (Looking Retained)) [] [] 0
      ∷ served (Some (Numbered (Ok (Dial 1 (sec 101) 0)))) [] [] (2 ^ 64 - 1) ∷ []

  are_served : AreServed k calls (with_node None) (with_node (Some v))
  are_served = (
    with_node (Some v),
    begins,
    (
      with_node (Some v),
      asks,
      (
        with_node (Some v),
        hears,
        (with_node (Some v), looks, (with_node (Some v), dials, refl)),
      ),
    ),
  )

  is_run : IsRun k calls v
  is_run =
      sessions k exact nat_cmp_total calls (with_node None) (with_node (Some v)) v refl are_served
      refl

  -- a call of `block` that returns 1 isn't served by a session that is made anew
  abbrev BlocksBy : Reply ℕ ℕ → Type 0
  BlocksBy r = Steps k (Block 1 0) r v v [] [] 1

  one_is : (x : Bool) → Tells (truth x) [] [] 1 → x ≡ true
  one_is true t = refl
  one_is false t = absurd (let e : 1 ≡ 0 = t.0 in omega (arith, e))

  no_memory : TellsReply k reply.OutOfMemory [] [] 1 → ⊥
  no_memory (inl h) = absurd (let e = h.0 in cc)
  no_memory (inr h) = let e : 1 ≡ 2 ^ 64 - 1 = h.0 in omega (arith, e)

  block_told : (x : Bool) → TellsReply k (reply.Block x) [] [] 1 → x ≡ true
  block_told x (inl h) = absurd (let e = h.0 in cc)
  block_told x (inr h) = one_is x h

  refused_by : (r : Reply ℕ ℕ) → BlocksBy r →
      IsStepAnswer (made_of nat_cmp given) [] (Block 1 0) r → ⊥
  refused_by r steps (inl (inl want)) =
      no_memory (subst (λ r. TellsReply k r [] [] 1) want.0 steps.told)
  refused_by r steps (inr room) = no_memory (subst (λ r. TellsReply k r [] [] 1) room.1 steps.told)
  refused_by r steps (inl (inr e)) = go _ (subst BlocksBy e steps)
    where
      go : (x : Bool) → BlocksBy (reply.Block x) → ⊥
      go x h =
          let so = subst (λ x. BlocksBy (reply.Block x)) (block_told x h.told) h in
          anew_is_refused given is (so.stepped, so.unchanged)

  anew_is_unserved : ServesRequest k (Some (Numbered (Ok (Block 1 0)))) [] []
      (with_node (Some v)) (with_node (Some v)) 1 → ⊥
  anew_is_unserved h = refused_by h.1.0 h.1.1 ((h.1.1.stepped given [] (stands_so given is)).answer)
