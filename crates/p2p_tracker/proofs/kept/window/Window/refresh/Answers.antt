use Rattle.p2p_tracker.proofs.SetsAndRecords.Indexed.{indexed_with_bit}
use Rattle.p2p_tracker.proofs.kept.window.Window.refresh.Goals as goal

pub invariant_of-self : goal.invariant_of-self
invariant_of-self g c = indexed_with_bit g.C.Ord.cmp c.self.inside.places c.self.inside.links.items c.args.peer.now
    c.args.known c.self.inside.sets.items c.refresh_places.new.sets.items c.refresh_places.ensures.sets
    c.self.invariant
