-- Cooldowns, as keys with the moments that are kept of their last grant, in ascending order of the
-- keys.
use Rattle.std.specs.Prelude.{ℕ, Bool, List, map, Option, Some, None, nat_le, if◌then◌else◌}
use Rattle.std.specs.Map.{lookup}
use Rattle.std.specs.Duration.{as_nanos}
use Rattle.std.specs.declared.time.Duration.{Duration}
use Rattle.std.specs.BTreeMap.{is_at}
use Rattle.std.specs.declared.cmp.Ordering.{Ordering}
use Rattle.p2p_tracker.specs.Calls.{Cooldown}

-- from when a peer may be reserved again and from when it is dialable, in nanoseconds
abbrev pub cooldown_view : Duration × Duration → Cooldown
cooldown_view moments =
    record { reservable_at = as_nanos moments.0; dial_at = as_nanos moments.1 }

-- from when a peer may be reserved, by the moments that are kept of it; without any, from the epoch
abbrev pub reservable_from : Option Cooldown → ℕ
reservable_from None = 0
reservable_from (Some cooldown) = cooldown.reservable_at

-- from when a peer is dialable, by the moments that are kept of it; without any, from the epoch
abbrev pub dialable_from : Option Cooldown → ℕ
dialable_from None = 0
dialable_from (Some cooldown) = cooldown.dial_at

-- keys with these moments
abbrev pub cooldowns_view : {C : Type 0} → List (C × (Duration × Duration)) → List (C × Cooldown)
cooldowns_view entries = map (λ e. (e.0, cooldown_view e.1)) entries

-- the dial moment is at most now
abbrev pub has_cooled : {C : Type 0} → ℕ → C × Cooldown → Bool
has_cooled now e = nat_le e.1.dial_at now

-- what is kept once those are forgotten whose dial moment is at most now
abbrev pub unless_cooled : ℕ → Option Cooldown → Option Cooldown
unless_cooled now None = None
unless_cooled now (Some cooldown) = if nat_le cooldown.dial_at now then None else Some cooldown

-- the moments that are kept of q, if there are any
abbrev pub cooldown_in : {C : Type 0} → (C → C → Ordering) → List (C × Cooldown) → C →
    Option Cooldown
cooldown_in cmp cooldowns q = lookup (is_at (cmp q)) cooldowns
