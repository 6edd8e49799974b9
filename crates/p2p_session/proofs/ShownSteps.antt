-- A node that steps lead on: a call, a greeting that is accepted, a look, and a call that was
-- refused for memory. A session that is made anew at a call isn't led so, nor one that serves the
-- call before again.
use Rattle.std.proofs.Common.{◌≡◌, ℕ, ◌*◌, ◌^◌, ◌||◌, inl, inr, Bool, true, false, cond, List, []}
use Rattle.std.proofs.Common.{◌∷◌, Option, Some, None, Ok, refl, sym, subst, ap, ◌∙◌, arith}
use Rattle.std.specs.Prelude.{◌==◌, option_map}
use Rattle.std.specs.Ordering.{nat_cmp}
use Rattle.std.specs.declared.cmp.Ordering.TheVariants.{Equal}
use Rattle.std.proofs.lemmas.Cmp.{nat_cmp_total, eq_by_cmp_equiv, ranked}
use Rattle.p2p_discovery.specs.declared.discovery.Info.{Info}
use Rattle.p2p_discovery.specs.declared.types.ingress.Ingress.TheVariants.{Socket}
use Rattle.p2p_discovery.specs.declared.types.socket.IpAddr.TheVariants.{V4}
use Rattle.p2p_discovery.specs.Payload.{body_at, payload_at}
use Rattle.p2p_discovery.specs.Data.{data_at, message_at}
use Rattle.p2p_discovery.specs.Counted.{length_at}
use Rattle.p2p_discovery.specs.Varint.{groups, groups_at}
use Rattle.p2p_discovery.specs.Info as texts
use Rattle.p2p_discovery.specs.Ingress.{ingress_at}
use Rattle.p2p_discovery.specs.Socket.{ip_at, socket_at}
use Rattle.p2p_discovery.specs.BitVec.{bits_read_at, bit_vec_read_at}
use Rattle.p2p_discovery.specs.Bits.{bits_in, packed}
use Rattle.p2p_discovery.specs.Lists.{spellings, elems, items_at, list_at}
use Rattle.p2p_tracker.specs.declared.record.Address.TheVariants.{Myself}
use Rattle.p2p_tracker.specs.declared.record.Status.TheVariants.{Inert}
use Rattle.p2p_tracker.specs.Calls.{Call}
use Rattle.p2p_tracker.specs.Calls.Call.{Ask, Block, Dial, Update}
use Rattle.p2p_tracker.specs.Calls.Question.{LatestIndex}
use Rattle.p2p_tracker.specs.History.{life, is_own}
use Rattle.p2p_tracker.specs.PeerSets.{latest_index}
use Rattle.p2p_tracker.specs.World.{World}
use Rattle.p2p_tracker.specs.Answers.{is_present_in}
use Rattle.p2p_tracker.specs.Directory.{Updates, infos_of, updated_record}
use Rattle.p2p_tracker.specs.Lists.{first_greatest}
use Rattle.p2p_tracker.specs.Record.{address_after_offer}
use Rattle.p2p_tracker.specs.Seen.{RecordView, record_of}
use Rattle.p2p_directory.specs.declared.node.received.Received.TheVariants as received
use Rattle.p2p_directory.specs.declared.node.setup.Setup.{Setup}
use Rattle.p2p_directory.specs.declared.run.commands.Reply.{Reply}
use Rattle.p2p_directory.specs.declared.run.commands.Reply.TheVariants as reply
use Rattle.p2p_directory.specs.Held.{held_of}
use Rattle.p2p_directory.specs.Laws.Effects.{DirectoryStandsAt}
use Rattle.p2p_directory.specs.Nodes.{NodeView, Made, NodeStandsAt, AnswersFrame, given_verdicts}
use Rattle.p2p_directory.specs.Nodes.{made_of}
use Rattle.p2p_directory.specs.Refinement.{config_of, record_in}
use Rattle.p2p_directory.specs.Run.{world_after}
use Rattle.p2p_directory.proofs.Definitions.ByteKeys.{IsByte, spelled, is_fixed}
use Rattle.p2p_directory.proofs.Definitions.GossipExamples.{one}
use Rattle.p2p_directory.proofs.Definitions.Keys.{exact_from}
use Rattle.p2p_directory.proofs.LawsOfGossip.FramesByVerdicts.{is_judged}
use Rattle.p2p_directory.proofs.Nodes.Worlds.{received_in}
use Rattle.p2p_directory.proofs.Reservations.Effects.{idle}
use Rattle.p2p_session.specs.Schemes.{Scheme, wire}
use Rattle.p2p_session.specs.Requests.Request.{Numbered}
use Rattle.p2p_session.specs.Steps.{Step, Leads, Lead, AreRun, IsStepFor, calls_made, replies_made}
use Rattle.p2p_session.specs.Steps.Step.{Called, Heard, Looked}
use Rattle.p2p_session.proofs.Steps.{are_run}

-- ---- the setting: keys and signatures of one byte

abbrev pub sec : ℕ → ℕ
sec n = n * 10 ^ 9

abbrev pub k : Scheme ℕ ℕ
k = record {
  key = record {
    partial_cmp = λ a b. Some (nat_cmp a b);
    cmp = nat_cmp;
    eq = λ a b. a == b;
    SIZE = 1;
    IsValue = IsByte;
    spelled = spelled;
    value = one;
    verifies = λ p namespace message s. false;
  };
  signature = record {
    eq = λ a b. a == b;
    SIZE = 1;
    IsValue = IsByte;
    spelled =
        λ s. s ∷ [];
    value = one;
  };
}

abbrev own : Info ℕ ℕ
own = record {
  ingress = Socket (record { ip = V4 (8 ∷ 8 ∷ 8 ∷ 8 ∷ []); port = 9000 });
  timestamp = 0;
  public_key = 9;
  signature = 49;
}

abbrev pub m : Made ℕ ℕ
m = record {
  directory = record {
    cmp = nat_cmp;
    own = own;
    bootstrappers = [];
    allow_private_ips = true;
    allow_dns = true;
    max_sets = 1;
    dial_fail_limit = 1;
    cooldown = sec 10;
    block_duration = sec 60;
  };
  limits = record { max_bit_vec = 8; max_peers = 8; max_data_length = 32 };
  verifier = record { me = 9; greatest_count = 8; synchrony_bound = sec 30; namespace = [] };
}

pub exact : (q p : ℕ) → nat_cmp q p ≡ Equal → q ≡ p
exact q p e = ranked q p Equal (sym e)

-- ---- a new node

abbrev own_record : RecordView ℕ ℕ
own_record = record {
  address = Myself own;
  status = Inert;
  primary_sets = 0;
  secondary_sets = 0;
  persistent = true;
  next_reservable_at = 0;
  next_dial_at = 0;
}

-- .. but for its blocks
abbrev with_blocks : List (ℕ × ℕ) → NodeView ℕ ℕ
with_blocks blocks = record {
  directory = record {
    config = config_of m.directory;
    sets = [];
    records = (9, own_record) ∷ [];
    blocks = blocks;
    cooldowns = [];
  };
  held = [];
  slots = [];
  limits = m.limits;
  verifier = m.verifier;
}

abbrev pub v : NodeView ℕ ℕ
v = with_blocks []

abbrev w : World ℕ ℕ
w = world_after m.directory []

abbrev IsRecorded : ℕ → Type 0
IsRecorded p = record_of nat_cmp v.directory p
    ≡ cond (is_present_in m.directory w p) (Some (record_in m.directory w p)) None

at_own : IsRecorded 9
unfolding life
at_own = refl

recorded : (p : ℕ) → IsRecorded p
recorded p = go (is_own m.directory p) refl
  where
    go : (b : Bool) → is_own m.directory p ≡ b → IsRecorded p
    go true e = subst IsRecorded (exact_from m.directory nat_cmp refl exact 9 p e) at_own
    go false e =
        ap (λ c. cond c (Some own_record) None) ((eq_by_cmp_equiv nat_cmp_total).symm p 9 ∙ e)
        ∙ sym (ap (λ c. cond c (Some (record_in m.directory w p)) None)
        (ap (λ c. ((c || false) || false) || false) e))

stands : NodeStandsAt m [] v
stands = record {
  limit_fits = omega arith;
  refines = record {
    config = refl;
    sets = refl;
    records = recorded;
    blocks =
        λ p. refl;
    cooldowns = λ p. refl;
  };
  holds = record { peers = λ p. refl; metadata = λ p. refl };
  limits = refl;
  verifier = refl;
}

-- ---- the steps

abbrev pub latest : Reply ℕ ℕ
latest = reply.LatestSetIndex None

pub leads_on_by_call : Leads k (Called (Ask LatestIndex) latest) v v
leads_on_by_call = (
  λ given calls at.
      let s = (made_of nat_cmp given).directory in
      let d : DirectoryStandsAt s calls v.directory (held_of nat_cmp v.held) =
      record { refines = at.refines; holds = at.holds } in
      let after = idle s given.cfg.max_sets.ok exact calls v.directory v.directory
      (held_of nat_cmp v.held) d (Ask LatestIndex)
      (held_of nat_cmp v.held) refl refl (λ q. refl) in
      record {
        answer = inl (inr (ap (λ sets. reply.LatestSetIndex (latest_index sets)) at.refines.sets));
        left = record {
          limit_fits = at.limit_fits;
          refines = after.refines;
          holds = after.holds;
          limits = at.limits;
          verifier = at.verifier;
        };
      },
  λ no. refl,
)

abbrev greeter : Info ℕ ℕ
greeter = record {
  ingress = Socket (record { ip = V4 (1 ∷ 2 ∷ 3 ∷ 4 ∷ []); port = 8001 });
  timestamp = 100000;
  public_key = 1;
  signature = 41;
}

abbrev pub greeting : List ℕ
greeting = 1 ∷ 0 ∷ 4 ∷ 1 ∷ 2 ∷ 3 ∷ 4 ∷ 31 ∷ 65 ∷ 160 ∷ 141 ∷ 6 ∷ 1 ∷ 41 ∷ []

-- the infos of others change nothing of the own record
kept : (is : Bool) (infos : List (Info ℕ ℕ)) →
    cond is (Some own_record) None
    ≡ option_map (updated_record infos) (cond is (Some own_record) None)
kept false infos = refl
kept true infos = go (first_greatest infos)
  where
    go : (o : Option (Info ℕ ℕ)) →
        Some own_record ≡ Some (record own_record { address = address_after_offer o (Myself own) })
    go None = refl
    go (Some i) = refl

pub updates : Updates nat_cmp v.directory v.directory (greeter ∷ [])
updates = record {
  config = refl;
  sets = refl;
  blocks = refl;
  cooldowns = refl;
  records = λ q. kept _ (infos_of nat_cmp (greeter ∷ []) q);
}

pub seen : AnswersFrame nat_cmp (wire k) (given_verdicts (true ∷ [])) greeting (sec 100)
    (received.Greeted 1) v v
unfolding payload_at body_at data_at message_at length_at groups groups_at texts.info_at ingress_at
    ip_at
    socket_at bits_read_at bit_vec_read_at bits_in packed spellings elems items_at list_at
seen = record { answer = refl; left = (updates, refl) }

pub leads_on_by_frame : Leads k (Heard greeting (sec 100) (true ∷ []) (received.Greeted 1)) v v
leads_on_by_frame = record {
  seen = seen;
  received = λ given calls at. received_in (made_of nat_cmp given) (wire k) calls v at
      given.cfg.max_sets.ok
      (given_verdicts (true ∷ [])) greeting (sec 100) (received.Greeted 1) v seen;
  judged = is_judged is_fixed is_fixed (wire k).verifies nat_cmp nat_cmp_total exact (true ∷ [])
      greeting (sec 100) (received.Greeted 1) v v seen;
}

pub leads_on_by_refusal : Leads k (Called (Dial 1 (sec 101) 0) reply.OutOfMemory) v v
leads_on_by_refusal = (
  λ given calls at. record { answer = inr (refl, refl); left = at },
  λ no. refl,
)

abbrev steps : List (Step ℕ ℕ)
steps = Called (Ask LatestIndex) latest
    ∷ Heard greeting (sec 100) (true ∷ []) (received.Greeted 1)
    ∷ Looked ∷ Called (Dial 1 (sec 101) 0) reply.OutOfMemory ∷ []

lead : Lead k steps v v
lead = (v, leads_on_by_call, (v, leads_on_by_frame, (v, refl, (v, leads_on_by_refusal, refl))))

-- the calls in them are a question and an update, with their replies
calls_are : calls_made k m steps ≡ Ask LatestIndex ∷ Update (greeter ∷ []) ∷ []
unfolding payload_at body_at data_at message_at length_at groups groups_at texts.info_at ingress_at
    ip_at
    socket_at bits_read_at bit_vec_read_at bits_in packed spellings elems items_at list_at
calls_are = refl

replies_are : replies_made k m steps ≡ latest ∷ reply.UpdatePeers ∷ []
unfolding payload_at body_at data_at message_at length_at groups groups_at texts.info_at ingress_at
    ip_at
    socket_at bits_read_at bit_vec_read_at bits_in packed spellings elems items_at list_at
replies_are = refl

-- whatever this node was made from
module _ (given : Setup ℕ ℕ) (is : made_of nat_cmp given ≡ m) where
  abbrev Stands : List (Call ℕ ℕ) → NodeView ℕ ℕ → Type 0
  Stands calls v = NodeStandsAt (made_of nat_cmp given) calls v

  pub stands_so : Stands [] v
  stands_so = subst (λ m. NodeStandsAt m [] v) (sym is) stands

  shown : AreRun k (made_of nat_cmp given) steps v
  shown = are_run k exact nat_cmp_total given steps v v stands_so lead

  -- ---- no steps

  -- where its blocks are, one is of the peer that was blocked last
  blocked : (p : ℕ) (blocks : List (ℕ × ℕ)) →
      Leads k (Called (Block p 0) (reply.Block true)) v (with_blocks blocks) →
      NodeStandsAt m (Block p 0 ∷ []) (with_blocks blocks)
  blocked p blocks h =
      subst (λ m. NodeStandsAt m (Block p 0 ∷ []) (with_blocks blocks)) is
      (h.0 given [] stands_so).left

  -- the session is made anew at a call: its node has no block
  pub anew_is_refused : Leads k (Called (Block 1 0) (reply.Block true)) v v → ⊥
  anew_is_refused h = absurd
      (let e : None ≡ Some (sec 60) = (blocked 1 [] h).refines.blocks 1 in cc)

  -- it serves the call before again, a block of peer 1, in place of this one, a block of peer 2
  again_is_refused : Leads k (Called (Block 2 0) (reply.Block true)) v
      (with_blocks ((1, sec 60) ∷ [])) → ⊥
  again_is_refused h =
      absurd (let e : None ≡ Some (sec 60) = (blocked 2 ((1, sec 60) ∷ []) h).refines.blocks 2 in
      cc)

-- .. and that call isn't the one that was asked for
other_is_refused : (r : Reply ℕ ℕ) →
    IsStepFor k (Some (Numbered (Ok (Block 2 0)))) (Called (Block 1 0) r) → ⊥
other_is_refused r (r2, e) = absurd (another r r2 e)
  where
    another : (r r2 : Reply ℕ ℕ) →
        ◌≡◌ {A = Step ℕ ℕ} (Called (Block 1 0) r) (Called (Block 2 0) r2) → ⊥
    another r r2 e = absurd (cc)
