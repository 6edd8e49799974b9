use Rattle.std.proofs.Common.{◌<◌, filter, ap, sym, ◌∙◌, arith}
use Rattle.std.specs.Duration.{as_nanos}
use Rattle.std.proofs.lemmas.Bool.Decides.{nat_tests}
use Rattle.p2p_tracker.specs.Cooldowns.{has_cooled}
use Rattle.p2p_tracker.proofs.SetsAndRecords.Cooldowns.{none_yet}
use Rattle.p2p_tracker.proofs.kept.cooldowns.Cooldowns.may_have_cooled.Goals as goal

pub returns : goal.returns
returns g c = λ none.
    let now = as_nanos c.args.now in
    let low : now < c.self.inside.bound = grind (arith, nat_tests, none, c.as_nanos.ensures) in
    ap (filter (has_cooled now)) (sym c.self.view_is)
    ∙ none_yet now c.self.inside.bound c.self.inside.moments.entries c.self.invariant low
