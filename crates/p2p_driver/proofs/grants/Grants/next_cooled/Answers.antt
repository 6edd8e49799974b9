use Rattle.std.proofs.Common.{◌∙◌, ap, subst, None}
use Rattle.std.specs.Duration.{as_nanos}
use Rattle.std.specs.List.{fold}
use Rattle.std.specs.List.Sorted.{IsStrictlySortedBy}
use Rattle.std.specs.Map.{keys_of}
use Rattle.p2p_driver.specs.Grants.{sooner_cooled}
use Rattle.p2p_driver.proofs.KeptGrants.{least_cooled}
use Rattle.p2p_driver.proofs.grants.Grants.next_cooled.Goals as goal

pub returns : goal.returns
returns g c = least_cooled g.met.C.Ord.total g.met.C.PublicKey.exact c.args.links.now c.args.self.now
    (subst (λ gs. IsStrictlySortedBy g.C.Ord.cmp (keys_of gs)) c.self.view_is c.len-count.ensures.ordered) (as_nanos c.args.cooldown) c.next_cooled.result
    (c.next_cooled.ensures ∙ ap (λ gs. fold (sooner_cooled g.C.Ord.cmp c.args.links.now (as_nanos c.args.cooldown)) None gs) c.self.view_is)
