use Rattle.std.proofs.Common.{◌∙◌, ◌+◌, sym, ap}
use Rattle.std.specs.BTreeMap.{is_at}
use Rattle.std.specs.Prelude.{if◌then◌else◌}
use Rattle.p2p_driver.specs.Links.{count_of, is_way, need_of, need_at, needs}
use Rattle.std.specs.Map.{remove_entry}
use Rattle.std.proofs.lemmas.Map.Entries.{sum_by-remove_entry}
use Rattle.p2p_driver.proofs.Linked.{counts_removed, inverse_removed}
use Rattle.p2p_driver.proofs.links.Links.remove.Goals as goal

pub invariant_of-self-2 : goal.invariant_of-self-2
invariant_of-self-2 g c =
    inverse_removed g.met.C.Ord.total c.self.inside.of_peers.entries _ c.self.invariant
    c.remove.new.self.entries _ c.args.peer.now c.in-Some.held
    (sym c.in-Some.ensures.value)
    c.remove.ensures.updates.0
    c.remove-peer.ensures.updates.0

pub returns-clause-needs : goal.returns-clause-needs
returns-clause-needs g c =
    ap (λ ls. needs ls + need_of c.in-Some.held.phase) c.remove.ensures.entries
    ∙ ap (λ l. needs (remove_entry (is_at (g.C.Ord.cmp c.args.peer.now)) c.self.inside.of_peers.entries)
    + need_at l) c.in-Some.ensures.value
    ∙ sum_by-remove_entry (λ h. need_of h.phase) (is_at (g.C.Ord.cmp c.args.peer.now))
    c.self.inside.of_peers.entries
    ∙ ap needs c.self.view_is

pub returns-clause-counts : goal.returns-clause-counts
returns-clause-counts g c way =
    ap (λ ls. count_of way ls + (if is_way way c.in-Some.held.direction then 1 else 0)) c.remove.ensures.entries
    ∙ counts_removed g.met.C.Ord.total c.self.inside.of_peers.entries c.args.peer.now c.in-Some.held (sym c.in-Some.ensures.value) way
    ∙ ap (count_of way) c.self.view_is
