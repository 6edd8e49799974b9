use Rattle.std.proofs.Common.{◌∙◌, ap, subst, None}
use Rattle.std.specs.List.Sorted.{IsStrictlySortedBy}
use Rattle.std.specs.Map.{keys_of, values_of}
use Rattle.p2p_driver.specs.Links.{least_due, next_of}
use Rattle.p2p_driver.proofs.Due.{least_found}
use Rattle.p2p_driver.proofs.links.Links.next_due.Goals as goal

pub returns : goal.returns
returns g c = least_found g.met.C.Ord.total c.args.self.now
    (subst (λ ls. IsStrictlySortedBy g.C.Ord.cmp (keys_of ls)) c.self.view_is c.len-count.ensures.ordered)
    (next_of c.args.pace.now) c.next_due.result
    (c.next_due.ensures ∙ ap (λ ls. least_due (next_of c.args.pace.now) None (values_of ls)) c.self.view_is)
