-- How a peer stands.
use Rattle.std.specs.Prelude.{Bool, true, false}
use Rattle.p2p_tracker.specs.declared.record.Status.{Status}
use Rattle.p2p_tracker.specs.declared.record.Status.TheVariants.{Inert, Reserved, Active}

-- the status is inert
abbrev pub is_inert : Status → Bool
is_inert Inert = true
is_inert _ = false

-- the status is reserved
abbrev pub is_reserved : Status → Bool
is_reserved Reserved = true
is_reserved _ = false

-- the status is active
abbrev pub is_active : Status → Bool
is_active Active = true
is_active _ = false
