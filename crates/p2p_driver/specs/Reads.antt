-- What is kept of the frames that were read of all links, by the numbers of the links.
use Rattle.std.specs.Prelude.{ℕ, ◌≡◌, ◌≢◌, ◌<◌, List, length, replicate, slice_index}
use Rattle.std.specs.Prelude.{Option, Some, None}
use Rattle.std.specs.BTreeMap.{is_at}
use Rattle.std.specs.Map.{lookup}
use Rattle.std.specs.Ordering.{nat_cmp}
use Rattle.p2p_driver.specs.Meters.{MetersView, IsRead}
use Rattle.p2p_driver.specs.declared.rate.Rate.{Rate}

-- what is kept of the link with a number, if it is kept
abbrev pub reads_of : List (ℕ × MetersView) → ℕ → Option MetersView
reads_of of_links n = lookup (is_at (nat_cmp n)) of_links

-- nothing was read of a link, of gossip and of so many channels
abbrev pub unread : ℕ → MetersView
unread channels = record { gossip = 0; channels = replicate channels 0 }

-- a link has what is read: gossip, or the channel at this position of the settings
abbrev pub HasPlace : Option ℕ → MetersView → Type 0
HasPlace None m = Unit {0}
HasPlace (Some place) m = place < length m.channels

-- the moment that is kept of gossip, or of the channel at this position
abbrev pub kept_in : Option ℕ → MetersView → ℕ
kept_in None m = m.gossip
kept_in (Some place) m = slice_index m.channels place

-- one more is read at this moment, of gossip or of the channel at this position, and all else stays
pub record Takes (rate : Rate) (now : ℕ) (place : Option ℕ) (old new : MetersView) : Type 0 where
  pub read : IsRead rate now (kept_in place old) (kept_in place new)
  pub others : (other : Option ℕ) → other ≢ place → kept_in other new ≡ kept_in other old
  pub count : length new.channels ≡ length old.channels
