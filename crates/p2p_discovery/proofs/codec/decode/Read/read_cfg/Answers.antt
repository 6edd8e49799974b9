use Rattle.std.proofs.Common.{arith}
use Rattle.p2p_discovery.proofs.ReadLaws.{found_at, left_fits, left_is}
use Rattle.p2p_discovery.proofs.codec.decode.Read.read_cfg.Goals as goal

pub overflow_sub-taken : goal.overflow_sub-taken
overflow_sub-taken g c =
    let l = left_fits (g.met.Self.Read.lawful c.args.cfg.now) c.new-reader.result c.args.buf.now
    c.new-reader.ensures.value _ c.read.new.reader c.new-reader.ensures.bytes c.in_ok-value.ensures in
    omega arith

pub returns-clause-found : goal.returns-clause-found
returns-clause-found g c =
    let l = g.met.Self.Read.lawful c.args.cfg.now in
    let left = left_is l c.new-reader.result c.args.buf.now c.new-reader.ensures.value _ c.read.new.reader c.new-reader.ensures.bytes c.in_ok-value.ensures in
    let f = found_at l c.new-reader.result c.args.buf.now c.new-reader.ensures.value _ c.read.new.reader c.new-reader.ensures.bytes c.in_ok-value.ensures in
    (f.0.0, f.0.1, rw (c.advance.ensures, c.len.ensures.value, c.len-left.ensures, left) f.1)

pub returns-clause-exact : goal.returns-clause-exact
returns-clause-exact g c =
    let left = left_is (g.met.Self.Read.lawful c.args.cfg.now) c.new-reader.result c.args.buf.now
    c.new-reader.ensures.value _ c.read.new.reader c.new-reader.ensures.bytes c.in_ok-value.ensures in
    rw (c.advance.ensures, c.len.ensures.value, c.len-left.ensures, left) (rw c.new-reader.ensures.value at c.in_ok-value.ensures)
