use Rattle.std.proofs.Common.{nat_lt, rules, ap, ◌∙◌}
use Rattle.std.specs.Duration.{as_nanos}
use Rattle.std.proofs.lemmas.Map.Made.{filter_same_pairs}
use Rattle.p2p_tracker.specs.Cooldowns.{cooldowns_view}
use Rattle.p2p_tracker.proofs.SetsAndRecords.Cooldowns.{later_left}
use Rattle.p2p_tracker.proofs.kept.cooldowns.keep_later.Goals as goal

pub returns : goal.returns
returns g c = ap cooldowns_view (filter_same_pairs _ (λ e. nat_lt (as_nanos c.args.now) (as_nanos e.1.1)) _
    (λ k v b w f' t. search rules) _ _ c.retain.ensures.filtered)
    ∙ later_left (as_nanos c.args.now) c.args.moments.now.entries
