use Rattle.std.proofs.Common.{◌∙◌}
use Rattle.p2p_directory.proofs.Reservations.Slots.{nothing_held}
use Rattle.p2p_directory.proofs.run.slots.Slots.close.Goals as goal

pub close-requires : goal.close-requires
close-requires g c = nothing_held g.met.C.Ord.total c.into_held.result (λ q. c.into_held.ensures q ∙ c.requires.empty q)
