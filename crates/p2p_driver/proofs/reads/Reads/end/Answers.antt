use Rattle.std.proofs.Common.{ap, ◌∙◌}
use Rattle.std.specs.BTreeMap.{is_at}
use Rattle.std.specs.Map.{remove_entry}
use Rattle.std.specs.Ordering.{nat_cmp}
use Rattle.p2p_driver.proofs.Reading.{undone}
use Rattle.p2p_driver.proofs.reads.Reads.end.Goals as goal

pub returns-clause-undoes : goal.returns-clause-undoes
returns-clause-undoes c before m put none =
    let test = is_at (nat_cmp c.args.number) in
    c.remove-meters.ensures.entries ∙ ap (remove_entry test) c.self.view_is
    ∙ ap (remove_entry test) put ∙ undone before c.args.number m none
