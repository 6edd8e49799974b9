use Rattle.std.proofs.Common.{ap, ◌∙◌}
use Rattle.p2p_directory.specs.Held.{held_of}
use Rattle.p2p_directory.proofs.Reservations.Slots.{held_is}
use Rattle.p2p_directory.proofs.run.held.Held.new.Goals as goal

pub returns : goal.returns
returns g c = λ q. ap (λ ms. held_of g.C.Ord.cmp ms q) c.drop_empty_first.ensures.same
    ∙ held_is g.met.C.Ord.total g.met.C.PublicKey.exact c.args.slots c.requires q
