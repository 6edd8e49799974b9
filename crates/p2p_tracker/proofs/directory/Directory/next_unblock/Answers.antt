use Rattle.std.proofs.Common.{Some}
use Rattle.std.specs.Duration.{as_nanos}
use Rattle.p2p_tracker.proofs.SetsAndRecords.Expirations.{first_is_least}
use Rattle.p2p_tracker.proofs.directory.Directory.next_unblock.Goals as goal

pub returns-in-Some : goal.returns-in-Some
returns-in-Some g c = rw (← c.self.view_is)
    (first_is_least g.C.Ord.cmp _ (Some (as_nanos c.in-Some.moment, c.in-Some.field-0-1)) c.in-Some.ensures)
