use Rattle.std.proofs.Common.{◌≡◌, ◌<◌, suc, ◌-◌, false, arith}
use Rattle.std.proofs.lemmas.Result.{err_from_is_err_and}
use Rattle.p2p_discovery.specs.Laws.Varint.{bound_low}
use Rattle.p2p_discovery.proofs.GroupReads.{first_fails}
use Rattle.p2p_discovery.proofs.GroupReads.{one_group}
use Rattle.p2p_discovery.proofs.codec.varint.read_groups.Goals as goal

pub returns-in_err-byte-clause-exact : goal.returns-in_err-byte-clause-exact
returns-in_err-byte-clause-exact c =
    let p = err_from_is_err_and c.from_residual.result c.from_residual.ensures.1 in
    rw (p.1, p.2) (first_fails _ c.args.most c.args.top false c.args.left c.args.reader.now c.in_err-byte.ensures)

pub returns-then-byte-lt128-clause-exact : goal.returns-then-byte-lt128-clause-exact
returns-then-byte-lt128-clause-exact c =
    one_group c.args.most c.args.top c.args.left c.in_ok-byte.byte c.args.reader.now c.byte.new.self
    c.requires.some.0 c.in_ok-byte.ensures c.if-byte-lt128.true

pub returns-then-byte-lt128-clause-bound : goal.returns-then-byte-lt128-clause-bound
returns-then-byte-lt128-clause-bound c =
    let some : 0 < c.args.left = c.requires.some.0 in
    let k : c.args.left ≡ suc (c.args.left - 1) = omega arith in
    bound_low c.in_ok-byte.byte c.args.top c.args.left (c.args.left - 1) k (omega arith)
