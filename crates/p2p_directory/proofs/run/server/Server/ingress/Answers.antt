use Rattle.std.proofs.Common.{◌≡◌, ◌≤◌, Bool, true, false, Option, Some, None, List, refl, ap, subst, ◌∙◌}
use Rattle.std.specs.Prelude.{Result, Ok, Err, IfOk, IfSome, IsOk}
use Rattle.std.specs.Option.{IsSomeAnd}
use Rattle.std.specs.declared.cmp.Ordering.TheVariants.{Equal}
use Rattle.p2p_discovery.specs.declared.types.ingress.Ingress.{Ingress}
use Rattle.p2p_discovery.specs.Ingress.{takes_none}
use Rattle.p2p_tracker.specs.Calls.{Settings, Call}
use Rattle.p2p_tracker.specs.Calls.Call.{Ask}
use Rattle.p2p_tracker.specs.Calls.Question.{IngressOf}
use Rattle.p2p_tracker.specs.Answers.{held_ingress}
use Rattle.p2p_tracker.specs.Directory.{ingress_in}
use Rattle.p2p_directory.specs.declared.run.commands.Reply.TheVariants as reply
use Rattle.p2p_directory.specs.Run.{settings, world_after}
use Rattle.p2p_directory.specs.Private.Serving.{ServerView, StandsAt, IsCallServedAt, ingress_reply}
use Rattle.p2p_directory.proofs.Refinement.KnowledgeRefines
use Rattle.p2p_directory.proofs.Reservations.Served.{informed, uninformed}
use Rattle.p2p_directory.proofs.run.server.Server.ingress.Goals as goal

abbrev refusal : {E : Type 0} → E → Result (Option Ingress) E
refusal e = Err e

-- an address that was refused memory is a name
named : {E : Type 0} (e : E) (o : Option Ingress) → (o ≡ None → IsOk (refusal e)) →
    IfSome o (λ a. takes_none a ≡ true → IsOk (refusal e)) → IsSomeAnd o (λ a. takes_none a ≡ false)
named e None none socket = absurd (let f = none refl in cc)
named e (Some a) none socket = go (takes_none a) refl
  where
    go : (b : Bool) → takes_none a ≡ b → b ≡ false
    go false t = refl
    go true t = absurd (let f = socket t in cc)

module _ {C S : Type 0} (s : Settings C S) (some : 1 ≤ s.max_sets) (exact : (p q : C) → s.cmp p q ≡ Equal → p ≡ q)
    (calls : List (Call C S)) (v : ServerView C S) (at : StandsAt s calls v) (p : C) where
  tie : ingress_in s.cmp v.directory p ≡ held_ingress s (world_after s calls) p
  tie = KnowledgeRefines.tie_held_ingress s (world_after s calls) v.directory p at.refines

  served : {E : Type 0} (r : Result (Option Ingress) E) → IfOk r (λ i. i ≡ ingress_in s.cmp v.directory p) →
      (ingress_in s.cmp v.directory p ≡ None → IsOk r) →
      IfSome (ingress_in s.cmp v.directory p) (λ a. takes_none a ≡ true → IsOk r) →
      IsCallServedAt s calls (Ask (IngressOf p)) (ingress_reply r) v
  served (Ok i) is none socket = informed s some exact calls v at (IngressOf p) (reply.Ingress i) refl (ap reply.Ingress (is ∙ tie))
  served (Err e) is none socket = uninformed s some exact calls v at (IngressOf p)
      (subst (λ o. IsSomeAnd o (λ a. takes_none a ≡ false)) tie (named e (ingress_in s.cmp v.directory p) none socket))

pub returns : goal.returns
returns g c = rw (← c.self.view_is) (λ bootstrappers myself cfg calls at.
    let found = c.ingress.ensures in
    served (settings g.C.Ord.cmp bootstrappers myself cfg) cfg.max_sets.ok g.met.C.PublicKey.exact calls _ at c.args.peer.now
    c.ingress.result found.ingress found.none found.socket)
