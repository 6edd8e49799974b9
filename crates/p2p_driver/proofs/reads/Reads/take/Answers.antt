use Rattle.std.specs.BTreeMap.{is_at}
use Rattle.std.specs.Ordering.{nat_cmp}
use Rattle.p2p_driver.proofs.Reading.{unwritten}
use Rattle.p2p_driver.proofs.reads.Reads.take.Goals as goal

pub returns-clause-unchanged : goal.returns-clause-unchanged
returns-clause-unchanged c = unwritten (is_at (nat_cmp c.args.number))
    c.self.inside.of_links.entries (c.get_mut.follows.lender c.take.new.meters).entries
    c.args.self.now c.in-Some.meters.now c.take.new.meters c.take.result
    (c.get_mut.follows.holds c.take.new.meters).0 c.in-Some.ensures.value c.self.view_is
    c.take.ensures.unchanged
