use Rattle.p2p_directory.proofs.Reservations.Slots.{first_least, first_held, contents_ascend}
use Rattle.p2p_directory.proofs.run.held.Held.first.Goals as goal

pub returns-clause-least : goal.returns-clause-least
returns-clause-least g c =
    rw (← c.self.view_is)
    (first_least g.met.C.Ord.total g.met.C.PublicKey.exact c.self.inside.slots c.first.result c.self.invariant
    c.first.ensures.some c.first.ensures.none)

pub returns-clause-ascending : goal.returns-clause-ascending
returns-clause-ascending g c =
    rw (← c.self.view_is)
    (contents_ascend g.met.C.Ord.total g.met.C.PublicKey.exact c.self.inside.slots c.self.invariant.slots_are)

pub returns-clause-held : goal.returns-clause-held
returns-clause-held g c =
    rw (← c.self.view_is)
    (first_held g.met.C.Ord.total g.met.C.PublicKey.exact c.self.inside.slots c.first.result c.self.invariant
    c.first.ensures.some)
