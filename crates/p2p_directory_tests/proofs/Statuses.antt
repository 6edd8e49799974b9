-- A dial, and how its peer stands then.
use Rattle.std.proofs.Common.{◌≡◌, ℕ, Bool, true, false, ◌||◌, not, List, Option, Some, None, inl, inr, refl, sym, ◌∙◌, ap}
use Rattle.std.specs.Prelude.{if◌then◌else◌}
use Rattle.std.specs.Cmp.{IsTotalOrder}
use Rattle.std.specs.Ordering.{is_eq}
use Rattle.std.specs.declared.cmp.Ordering.{Ordering}
use Rattle.std.specs.declared.time.Duration.{Duration}
use Rattle.std.specs.Duration.{as_nanos}
use Rattle.std.proofs.lemmas.Cmp.{tied_itself}
use Rattle.p2p_discovery.specs.declared.types.ingress.Ingress.{Ingress}
use Rattle.p2p_tracker.specs.declared.record.Status.{Status}
use Rattle.p2p_tracker.specs.declared.record.Status.TheVariants.{Reserved}
use Rattle.p2p_tracker.specs.Answers.{status_in, was_granted}
use Rattle.p2p_tracker.specs.Calls.{Settings, Call}
use Rattle.p2p_tracker.specs.Calls.Call.{Ask}
use Rattle.p2p_tracker.specs.Calls.Question.{StatusOf}
use Rattle.p2p_tracker.specs.History.{is_persistent, is_named}
use Rattle.p2p_tracker.specs.Status.{is_inert}
use Rattle.p2p_tracker.specs.World.{world_with, World, dial_event, may_dial, address_with}
use Rattle.p2p_directory.specs.declared.run.commands.Command.TheVariants as command
use Rattle.p2p_directory.specs.declared.run.commands.Reply.{Reply}
use Rattle.p2p_directory.specs.declared.run.commands.Reply.TheVariants as reply
use Rattle.p2p_directory.specs.Nodes.{NodeView, Made, StandsSomewhere, IsStepped, IsStepAnswer, made_of}
use Rattle.p2p_directory.specs.Run.{call_of, event_of, next, world_after}
use Rattle.p2p_directory.proofs.Definitions.Law

module _ {C S : Type 0} (m : Made C S) (calls : List (Call C S)) where
  -- the status that is answered
  told : (p : C) (status : Option Status) → IsStepAnswer m calls (Ask (StatusOf p)) (reply.Status status) →
      status ≡ status_in m.directory (world_after m.directory calls) p
  told p status (inl (inl (out, none))) = absurd none
  told p status (inl (inr is)) = cc
  told p status (inr (may, out)) = absurd cc

  -- a dial that is replied with a grant was granted
  granted : (p : C) (now draw : Duration) (r : Reply C S) → r ≡ reply.Dial true →
      IsStepAnswer m calls (call_of (command.Dial p now draw)) r →
      was_granted (event_of m.directory calls (call_of (command.Dial p now draw))) ≡ true
  granted p now draw r is (inl (inl (out, may))) = absurd cc
  granted p now draw r is (inl (inr answer)) = let f = sym is ∙ answer in cc
  granted p now draw r is (inr (may, out)) = absurd cc

module _ {C S : Type 0} (s : Settings C S) (total : IsTotalOrder s.cmp) where
  or_true : (a b : Bool) → (a || b || true) ≡ true
  or_true true b = refl
  or_true false true = refl
  or_true false false = refl

  -- whom an event grants is reserved
  reserves : (w : World C S) (p : C) (t draw : ℕ) (may : Bool) (address : Option Ingress) →
      was_granted (dial_event s p t draw may address) ≡ true →
      status_in s (world_with s (dial_event s p t draw may address) w) p ≡ Some Reserved
  reserves w p t draw may None grants = absurd cc
  reserves w p t draw false (Some a) grants = absurd cc
  reserves w p t draw true (Some a) grants =
      ap (λ o. let status = if is_eq o then Reserved else (w.peer p).status in
      if is_persistent s p || is_named s p w.sets || not (is_inert status) then Some status else None) (tied_itself total p)
      ∙ ap (λ b. if b then Some Reserved else None) (or_true (is_persistent s p) (is_named s p w.sets))

module _ {C S : Type 0} (cmp : C → C → Ordering) (total : IsTotalOrder cmp) (p : C) (now draw : Duration)
    (r : Reply C S) (status : Option Status) (v v2 : NodeView C S) (at : StandsSomewhere cmp v)
    (dialled : IsStepped cmp (command.Dial p now draw) r v v2)
    (looked : IsStepped cmp (command.Status p) (reply.Status status) v2 v2) where
  abbrev m : Made C S
  m = made_of cmp at.given

  abbrev dial : Call C S
  dial = call_of (command.Dial p now draw)

  -- the status is that in the world to which the calls lead
  pub seen : status ≡ status_in m.directory (world_after m.directory (next m.directory at.calls dial r)) p
  seen =
      told m (next m.directory at.calls dial r) p status
      (looked at.given (next m.directory at.calls dial r) (dialled at.given at.calls at.stands).left).answer

  -- after a grant the peer is reserved
  pub reserved : r ≡ reply.Dial true → status ≡ Some Reserved
  reserved is =
      let w = world_after m.directory at.calls in
      seen
      ∙ ap (λ r. status_in m.directory (world_after m.directory (next m.directory at.calls dial r)) p) is
      ∙ ap (λ w. status_in m.directory w p) (Law.recomputed_is_one_step m.directory at.given.cfg.max_sets.ok at.calls dial)
      ∙ reserves m.directory total w p (as_nanos now) (as_nanos draw)
      (may_dial m.directory p (as_nanos now) w.sets (w.peer p) (w.unblock p) (w.cooldown p))
      (address_with m.directory p (w.peer p).known.info)
      (granted m at.calls p now draw r is (dialled at.given at.calls at.stands).answer)
