use Rattle.std.proofs.Common.{◌∙◌, Some, sym, ap}
use Rattle.p2p_driver.specs.Reading.{rate_of}
use Rattle.p2p_driver.proofs.Placed.{first_at, second_at}
use Rattle.p2p_driver.proofs.driver.reading.rate_of.Goals as goal

pub returns-clause-read : goal.returns-clause-read
returns-clause-read c = first_at rate_of c.args.pace.now.channels.items _ c.args.place c.index-channel.result.now c.requires
    ∙ ap (λ x. Some (rate_of x)) (sym c.index-channel.ensures)

pub returns-clause-said : goal.returns-clause-said
returns-clause-said c = second_at rate_of c.args.pace.now.channels.items c.args.place c.index-channel.result.now c.requires
    ∙ ap (λ x. Some (rate_of x)) (sym c.index-channel.ensures)
