use Rattle.std.proofs.Common.{◌≡◌, ◌+◌, ◌++◌, drop}
use Rattle.p2p_driver.specs.Happenings.{shut_all}
use Rattle.p2p_driver.specs.Links.{link_of, count_of, needs}
use Rattle.p2p_driver.proofs.Shutting.{closed_among}
use Rattle.p2p_driver.proofs.connections.shut_all.Given as goal

-- with those that are left, it is all
abbrev pub invariant-loop-peer : goal.invariant-loop-peer
invariant-loop-peer g l =
    (needs l.links + l.fn.actions.room ≡ l.actions.room + needs l.fn.links)
    × ((way : _) → count_of way l.links ≡ count_of way l.fn.links)
    × (l.actions.items ++ shut_all g.C.Ord.cmp (drop l.peer-index l.peers) (link_of g.C.Ord.cmp l.links)
    ≡ l.fn.actions.items ++ shut_all g.C.Ord.cmp l.fn.peers (link_of g.C.Ord.cmp l.fn.links))
    × ((q : _) → closed_among g.C.Ord.cmp (drop l.peer-index l.peers) (link_of g.C.Ord.cmp l.links) q
    ≡ closed_among g.C.Ord.cmp l.fn.peers (link_of g.C.Ord.cmp l.fn.links) q)
