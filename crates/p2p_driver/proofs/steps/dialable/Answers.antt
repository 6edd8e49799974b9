use Rattle.std.specs.Duration.{as_nanos}
use Rattle.std.specs.Prelude.{option_map}
use Rattle.p2p_driver.proofs.Dialable.{map_ok, map_err, are_dialable, stays_quiet, may_be_dialled, asks_later}
use Rattle.p2p_driver.proofs.steps.dialable.Goals as goal

pub returns-clause-dialable : goal.returns-clause-dialable
returns-clause-dialable g c = map_ok c.dialable.result (λ answer told. are_dialable g.C.Ord.cmp c.args.node.now c.directory.result.now c.directory.ensures (as_nanos c.args.now)
    answer.peers.items (option_map as_nanos answer.next_query_at) told) c.dialable.ensures.dialable

pub returns-clause-quiet : goal.returns-clause-quiet
returns-clause-quiet g c = map_ok c.dialable.result (λ answer told. stays_quiet g.C.Ord.cmp c.args.node.now c.directory.result.now c.directory.ensures (as_nanos c.args.now)
    answer.peers.items (option_map as_nanos answer.next_query_at) told) c.dialable.ensures.quiet

pub returns-clause-later : goal.returns-clause-later
returns-clause-later g c = map_ok c.dialable.result (λ answer told. asks_later g.C.Ord.cmp c.args.node.now c.directory.result.now c.directory.ensures (as_nanos c.args.now) c.stands.ensures
    answer.peers.items (option_map as_nanos answer.next_query_at) told) c.dialable.ensures.dialable

pub returns-clause-err : goal.returns-clause-err
returns-clause-err g c = map_err c.dialable.result (may_be_dialled g.C.Ord.cmp c.args.node.now c.directory.result.now c.directory.ensures (as_nanos c.args.now)) c.dialable.ensures.err
