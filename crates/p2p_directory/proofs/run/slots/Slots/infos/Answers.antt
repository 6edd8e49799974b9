use Rattle.p2p_tracker.proofs.SetsAndRecords.Searches.{has_found}
use Rattle.p2p_directory.proofs.run.slots.Slots.infos.Goals as goal

pub infos_among-requires : goal.infos_among-requires
infos_among-requires g c = λ q busy.
    has_found g.met.C.Ord.total c.self.inside.reservations.entries q ((rw (← c.self.view_is) at c.requires) q busy)
