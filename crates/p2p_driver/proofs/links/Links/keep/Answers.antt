use Rattle.std.proofs.Common.{◌∙◌, ◌+◌, sym, ap, subst}
use Rattle.std.specs.Prelude.{if◌then◌else◌}
use Rattle.std.specs.BTreeMap.{is_at}
use Rattle.std.specs.Map.{lookup}
use Rattle.std.specs.Ordering.{nat_cmp}
use Rattle.p2p_driver.specs.Links.{link_of, AreInverse, count_of, is_way, need_of, needs}
use Rattle.p2p_driver.proofs.Linked.{unused, inverse_put, counts_put, needs_put}
use Rattle.p2p_driver.proofs.links.Links.keep.Goals as goal

pub insert-requires : goal.insert-requires
insert-requires g c =
    unused g.met.C.Ord.total c.args.self.now (λ n. lookup (is_at (nat_cmp n)) c.self.inside.peers.entries)
    (subst (λ ls. AreInverse g.C.Ord.cmp ls (λ n. lookup (is_at (nat_cmp n)) c.self.inside.peers.entries))
    c.self.view_is c.self.invariant)
    c.args.held.number c.requires.unused

pub invariant_of-self-in_default : goal.invariant_of-self-in_default
invariant_of-self-in_default g c =
    inverse_put g.met.C.Ord.total c.self.inside.of_peers.entries _ c.self.invariant
    c.insert-2.new.map.entries _ c.args.peer c.args.held
    (ap (λ ls. link_of g.C.Ord.cmp ls c.args.peer) c.self.view_is ∙ c.requires.unlinked)
    (λ q h has. c.requires.unused q h (ap (λ ls. link_of g.C.Ord.cmp ls q) (sym c.self.view_is) ∙ has))
    c.in_default.ensures.ok
    c.in_ok-insert.ensures.ok

pub returns-clause-needs : goal.returns-clause-needs
returns-clause-needs g c =
    needs_put g.met.C.Ord.total c.self.inside.of_peers.entries c.insert-2.new.map.entries c.args.peer
    c.args.held c.in_default.ensures.ordered
    (ap (λ ls. link_of g.C.Ord.cmp ls c.args.peer) c.self.view_is ∙ c.requires.unlinked)
    c.in_default.ensures.entries
    ∙ ap (λ ph. needs c.self.inside.of_peers.entries + need_of ph) c.requires.begins
    ∙ ap (λ ls. needs ls + 1) c.self.view_is

pub returns-clause-counts : goal.returns-clause-counts
returns-clause-counts g c way =
    counts_put g.met.C.Ord.total c.self.inside.of_peers.entries c.insert-2.new.map.entries c.args.peer
    c.args.held c.in_default.ensures.ordered
    (ap (λ ls. link_of g.C.Ord.cmp ls c.args.peer) c.self.view_is ∙ c.requires.unlinked)
    c.in_default.ensures.entries way
    ∙ ap (λ ls. count_of way ls + (if is_way way c.args.held.direction then 1 else 0)) c.self.view_is
