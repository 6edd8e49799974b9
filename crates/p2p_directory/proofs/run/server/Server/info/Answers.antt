use Rattle.std.proofs.Common.{◌≡◌, Bool, true, false, Option, Some, None, refl, ap, subst, ◌∙◌}
use Rattle.std.specs.Option.{IsSomeAnd}
use Rattle.p2p_discovery.specs.declared.discovery.Info.{Info}
use Rattle.p2p_discovery.specs.Ingress.{takes_none}
use Rattle.p2p_tracker.specs.Directory.{sharable_in}
use Rattle.p2p_tracker.specs.Calls.Question.{InfoOf}
use Rattle.p2p_directory.specs.declared.run.commands.Reply.TheVariants as reply
use Rattle.p2p_directory.specs.Run.{settings, world_after}
use Rattle.p2p_directory.proofs.Refinement.KnowledgeRefines
use Rattle.p2p_directory.proofs.Reservations.Served.{informed, uninformed}
use Rattle.p2p_directory.proofs.run.server.Server.info.Goals as goal

-- an info that was refused memory is one at a name
named : (g : _) (c : goal.In-Err g) → IsSomeAnd (sharable_in g.C.Ord.cmp c.self.inside.directory c.args.peer.now) (λ i. takes_none i.ingress ≡ false)
named g c = go (sharable_in g.C.Ord.cmp c.self.inside.directory c.args.peer.now) refl
  where
    pick : (i : Info g.row.C.Denot g.row.C-Signature.Denot) →
        sharable_in g.C.Ord.cmp c.self.inside.directory c.args.peer.now ≡ Some i → (b : Bool) →
        takes_none i.ingress ≡ b → b ≡ false
    pick i e false t = refl
    pick i e true t = absurd (let ok = (rw e at c.in-Err.ensures.socket) t in cc)

    go : (o : Option (Info g.row.C.Denot g.row.C-Signature.Denot)) →
        sharable_in g.C.Ord.cmp c.self.inside.directory c.args.peer.now ≡ o →
        IsSomeAnd o (λ i. takes_none i.ingress ≡ false)
    go None e = absurd (let f = c.in-Err.ensures.none e in cc)
    go (Some i) e = pick i e (takes_none i.ingress) refl

pub returns-in-Ok : goal.returns-in-Ok
returns-in-Ok g c = rw (← c.self.view_is) (λ bootstrappers myself cfg calls at.
    let s = settings g.C.Ord.cmp bootstrappers myself cfg in
    informed s cfg.max_sets.ok g.met.C.PublicKey.exact calls _ at (InfoOf c.args.peer.now) (reply.Info c.in-Ok.info) refl
    (ap reply.Info (c.in-Ok.ensures.info ∙ KnowledgeRefines.tie_info s (world_after s calls) _ c.args.peer.now at.refines)))

pub returns-in-Err : goal.returns-in-Err
returns-in-Err g c = rw (← c.self.view_is) (λ bootstrappers myself cfg calls at.
    let s = settings g.C.Ord.cmp bootstrappers myself cfg in
    uninformed s cfg.max_sets.ok g.met.C.PublicKey.exact calls _ at (InfoOf c.args.peer.now)
    (subst (λ o. IsSomeAnd o (λ i. takes_none i.ingress ≡ false))
    (KnowledgeRefines.tie_info s (world_after s calls) _ c.args.peer.now at.refines) (named g c)))
