use Rattle.std.proofs.Common.{◌∙◌, sym, ap}
use Rattle.std.specs.Option.{option_map}
use Rattle.p2p_tracker.specs.Cooldowns.{cooldown_view, cooldown_in}
use Rattle.p2p_tracker.proofs.SetsAndRecords.Cooldowns.{cooldown_seen}
use Rattle.p2p_tracker.proofs.kept.cooldowns.Cooldowns.get.Goals as goal

pub returns : goal.returns
returns g c =
    ap (option_map cooldown_view) (c.copied.ensures ∙ c.get.ensures.value)
    ∙ sym (cooldown_seen g.C.Ord.cmp c.self.inside.moments.entries c.args.key.now)
    ∙ ap (λ cs. cooldown_in g.C.Ord.cmp cs c.args.key.now) c.self.view_is
