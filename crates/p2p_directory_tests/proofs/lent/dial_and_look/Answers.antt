use Rattle.p2p_directory_tests.proofs.Statuses.{seen, reserved}
use Rattle.p2p_directory_tests.proofs.lent.dial_and_look.Goals as goal

pub returns-clause-reserved : goal.returns-clause-reserved
returns-clause-reserved g c = reserved g.C.Ord.cmp g.met.C.Ord.total c.args.peer.now c.args.now c.args.draw
    c.dial-reply.result c.status-status.result c.args.node.now c.dial-reply.new.self c.stands.ensures
    c.dial-reply.ensures.stepped c.status-status.ensures

pub returns-clause-seen : goal.returns-clause-seen
returns-clause-seen g c = (
  c.stands.ensures,
  seen g.C.Ord.cmp g.met.C.Ord.total c.args.peer.now c.args.now c.args.draw
      c.dial-reply.result c.status-status.result c.args.node.now c.dial-reply.new.self c.stands.ensures
      c.dial-reply.ensures.stepped c.status-status.ensures,
)
