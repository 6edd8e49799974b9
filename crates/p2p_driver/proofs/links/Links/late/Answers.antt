use Rattle.std.proofs.Common.{◌∙◌, ap, subst, find}
use Rattle.std.specs.Prelude.{option_map}
use Rattle.std.specs.Duration.{as_nanos}
use Rattle.std.specs.List.Sorted.{IsStrictlySortedBy}
use Rattle.std.specs.Map.{keys_of}
use Rattle.p2p_driver.specs.Links.{is_late}
use Rattle.p2p_driver.proofs.Due.{late_found, none_late}
use Rattle.p2p_driver.proofs.links.Links.late.Goals as goal

pub returns-clause-late : goal.returns-clause-late
returns-clause-late g c = late_found g.met.C.Ord.total c.args.self.now
    (subst (λ ls. IsStrictlySortedBy g.C.Ord.cmp (keys_of ls)) c.self.view_is c.len-count.ensures.ordered)
    (is_late c.args.pace.now (as_nanos c.args.now)) c.first_late.result
    (c.first_late.ensures ∙ ap (λ ls. option_map (λ e. e.0)
    (find (λ e. is_late c.args.pace.now (as_nanos c.args.now) e.1) ls)) c.self.view_is)

pub returns-clause-none : goal.returns-clause-none
returns-clause-none g c = none_late g.met.C.Ord.total c.args.self.now
    (subst (λ ls. IsStrictlySortedBy g.C.Ord.cmp (keys_of ls)) c.self.view_is c.len-count.ensures.ordered)
    (is_late c.args.pace.now (as_nanos c.args.now)) c.first_late.result
    (c.first_late.ensures ∙ ap (λ ls. option_map (λ e. e.0)
    (find (λ e. is_late c.args.pace.now (as_nanos c.args.now) e.1) ls)) c.self.view_is)
