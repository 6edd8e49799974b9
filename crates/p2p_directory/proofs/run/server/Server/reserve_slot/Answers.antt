use Rattle.std.proofs.Common.{refl, sym, subst, inl}
use Rattle.p2p_directory.specs.Run.{call_of, next, settings}
use Rattle.p2p_directory.specs.Private.Serving.{reserving, reserved_reply, StandsAt}
use Rattle.p2p_directory.proofs.Reservations.Served.{same_views}
use Rattle.p2p_directory.proofs.run.server.Server.reserve_slot.Goals as goal

pub returns-then-is_granted-clause-stepped : goal.returns-then-is_granted-clause-stepped
returns-then-is_granted-clause-stepped g c = rw (← c.self.view_is, c.replied.ensures) (λ bootstrappers myself cfg calls at.
    let s = settings g.C.Ord.cmp bootstrappers myself cfg in
    let served = c.reserve-reserved.ensures.served bootstrappers myself cfg calls
    (same_views s cfg.max_sets.ok g.met.C.PublicKey.exact calls _ _ refl c.make.ensures.held at) in
    record { answer = inl served.answer; left = served.left })

pub returns-clause-stepped : goal.returns-clause-stepped
returns-clause-stepped g c = rw (← c.self.view_is, c.replied-2.ensures) (λ bootstrappers myself cfg calls at.
    let s = settings g.C.Ord.cmp bootstrappers myself cfg in
    let served = c.reserve-reserved.ensures.served bootstrappers myself cfg calls
    (same_views s cfg.max_sets.ok g.met.C.PublicKey.exact calls _ _ refl c.make.ensures.held at) in
    let later = next s calls (call_of (reserving c.args.dialer c.args.peer.now c.args.now c.args.draw))
    (reserved_reply c.args.dialer c.reserve-reserved.result) in
    record {
      answer = inl served.answer;
      left = same_views s cfg.max_sets.ok g.met.C.PublicKey.exact later
          (record { directory = c.self-2.inside.directory; slots = c.self-2.inside.slots }) _ refl
          c.drop_empty.ensures.held (subst (StandsAt s later) (sym c.self-2.view_is) served.left);
    })
