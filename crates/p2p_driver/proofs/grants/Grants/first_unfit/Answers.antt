use Rattle.std.proofs.Common.{◌∙◌, ap, subst, find}
use Rattle.std.specs.Prelude.{option_map}
use Rattle.std.specs.Duration.{as_nanos}
use Rattle.std.specs.List.Sorted.{IsStrictlySortedBy}
use Rattle.std.specs.Map.{keys_of}
use Rattle.p2p_driver.specs.Grants.{is_unfit_entry}
use Rattle.p2p_driver.proofs.KeptGrants.{first_unfit, none_unfit}
use Rattle.p2p_driver.proofs.grants.Grants.first_unfit.Goals as goal

pub returns-clause-some : goal.returns-clause-some
returns-clause-some g c = first_unfit g.met.C.Ord.total g.met.C.PublicKey.exact c.args.links.now c.args.self.now
    (subst (λ gs. IsStrictlySortedBy g.C.Ord.cmp (keys_of gs)) c.self.view_is c.len-count.ensures.ordered) c.args.directory.now (as_nanos c.args.now) c.first_unfit.result
    (c.first_unfit.ensures ∙ ap (λ gs. option_map (λ e. e.0) (find (is_unfit_entry g.C.Ord.cmp c.args.links.now c.args.directory.now (as_nanos c.args.now)) gs)) c.self.view_is)

pub returns-clause-none : goal.returns-clause-none
returns-clause-none g c = none_unfit g.met.C.Ord.total g.met.C.PublicKey.exact c.args.links.now c.args.self.now
    (subst (λ gs. IsStrictlySortedBy g.C.Ord.cmp (keys_of gs)) c.self.view_is c.len-count.ensures.ordered) c.args.directory.now (as_nanos c.args.now) c.first_unfit.result
    (c.first_unfit.ensures ∙ ap (λ gs. option_map (λ e. e.0) (find (is_unfit_entry g.C.Ord.cmp c.args.links.now c.args.directory.now (as_nanos c.args.now)) gs)) c.self.view_is)
