use Rattle.std.proofs.Common.{◌∙◌, subst}
use Rattle.std.specs.BTreeMap.{is_at}
use Rattle.std.specs.Map.{lookup}
use Rattle.std.specs.Ordering.{nat_cmp}
use Rattle.p2p_driver.specs.Links.{AreInverse}
use Rattle.p2p_driver.proofs.Linked.{found, only, none_found}
use Rattle.p2p_driver.proofs.links.Links.find.Goals as goal

pub returns-clause-found : goal.returns-clause-found
returns-clause-found g c =
    found g.met.C.Ord.total c.args.self.now (λ n. lookup (is_at (nat_cmp n)) c.self.inside.peers.entries)
    (subst (λ ls. AreInverse g.C.Ord.cmp ls (λ n. lookup (is_at (nat_cmp n)) c.self.inside.peers.entries))
    c.self.view_is c.self.invariant)
    c.args.number c.copied.result (c.copied.ensures ∙ c.get.ensures.value)

pub returns-clause-only : goal.returns-clause-only
returns-clause-only g c =
    only g.met.C.Ord.total c.args.self.now (λ n. lookup (is_at (nat_cmp n)) c.self.inside.peers.entries)
    (subst (λ ls. AreInverse g.C.Ord.cmp ls (λ n. lookup (is_at (nat_cmp n)) c.self.inside.peers.entries))
    c.self.view_is c.self.invariant)
    c.args.number c.copied.result (c.copied.ensures ∙ c.get.ensures.value)

pub returns-clause-none : goal.returns-clause-none
returns-clause-none g c =
    none_found g.met.C.Ord.total c.args.self.now (λ n. lookup (is_at (nat_cmp n)) c.self.inside.peers.entries)
    (subst (λ ls. AreInverse g.C.Ord.cmp ls (λ n. lookup (is_at (nat_cmp n)) c.self.inside.peers.entries))
    c.self.view_is c.self.invariant)
    c.args.number c.copied.result (c.copied.ensures ∙ c.get.ensures.value)
