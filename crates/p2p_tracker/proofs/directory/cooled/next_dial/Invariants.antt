use Rattle.std.proofs.Common.{◌≡◌, Some}
use Rattle.std.specs.Duration.{as_nanos}
use Rattle.std.specs.Option.{option_map}
use Rattle.p2p_tracker.specs.Cooldowns.{cooldowns_view}
use Rattle.p2p_tracker.specs.Private.Dialling.{earliest, least_by}
use Rattle.p2p_tracker.proofs.directory.cooled.next_dial.Given as goal

-- with those that are left, the least is that of all
abbrev pub invariant-loop-moments : goal.invariant-loop-moments
invariant-loop-moments g l =
    earliest (option_map as_nanos l.next) (least_by (λ e. Some e.1.dial_at) (cooldowns_view l.moments-iterator))
    ≡ least_by (λ e. Some e.1.dial_at) l.cooldowns
