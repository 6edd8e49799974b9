use Rattle.std.proofs.Common.{◌∙◌, ap, subst, find}
use Rattle.std.specs.Prelude.{option_map}
use Rattle.std.specs.Duration.{as_nanos}
use Rattle.std.specs.List.Sorted.{IsStrictlySortedBy}
use Rattle.std.specs.Map.{keys_of}
use Rattle.p2p_driver.specs.Grants.{is_cooled_entry}
use Rattle.p2p_driver.proofs.KeptGrants.{first_cooled, none_cooled}
use Rattle.p2p_driver.proofs.grants.Grants.first_cooled.Goals as goal

pub returns-clause-some : goal.returns-clause-some
returns-clause-some g c = first_cooled g.met.C.Ord.total g.met.C.PublicKey.exact c.args.links.now c.args.self.now
    (subst (λ gs. IsStrictlySortedBy g.C.Ord.cmp (keys_of gs)) c.self.view_is c.len-count.ensures.ordered) (as_nanos c.args.cooldown) (as_nanos c.args.now) c.first_cooled.result
    (c.first_cooled.ensures ∙ ap (λ gs. option_map (λ e. e.0) (find (is_cooled_entry g.C.Ord.cmp c.args.links.now (as_nanos c.args.cooldown) (as_nanos c.args.now)) gs)) c.self.view_is)

pub returns-clause-none : goal.returns-clause-none
returns-clause-none g c = none_cooled g.met.C.Ord.total g.met.C.PublicKey.exact c.args.links.now c.args.self.now
    (subst (λ gs. IsStrictlySortedBy g.C.Ord.cmp (keys_of gs)) c.self.view_is c.len-count.ensures.ordered) (as_nanos c.args.cooldown) (as_nanos c.args.now) c.first_cooled.result
    (c.first_cooled.ensures ∙ ap (λ gs. option_map (λ e. e.0) (find (is_cooled_entry g.C.Ord.cmp c.args.links.now (as_nanos c.args.cooldown) (as_nanos c.args.now)) gs)) c.self.view_is)
