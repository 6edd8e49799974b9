-- The settings of a driver, and the conditions on them.
use Rattle.std.specs.Prelude.{ℕ, ◌≡◌, ◌==◌, ◌+◌, ◌*◌, ◌&&◌, not, nat_le, nat_lt, Bool, true}
use Rattle.std.specs.Prelude.{List, [], ◌∷◌, Option, Some, None}
use Rattle.std.specs.Duration.{as_nanos}
use Rattle.std.specs.List.{list_any, list_all}
use Rattle.std.specs.Int.NonZero.{non_zero_u32_get}
use Rattle.std.specs.declared.time.Duration.{Duration}
use Rattle.p2p_driver.specs.declared.pace.Channel.{Channel}
use Rattle.p2p_driver.specs.declared.pace.Limits.{Limits}
use Rattle.p2p_driver.specs.declared.pace.Pace.{Pace}
use Rattle.p2p_driver.specs.declared.pace.Setting.{Setting}
use Rattle.p2p_driver.specs.declared.pace.Setting.TheVariants as setting

-- a channel's messages fit the limits, at least two of them are read at once, and one more comes
-- within a tick
abbrev pub is_channel : ℕ → ℕ → Channel → Bool
is_channel longest tick c = nat_le c.longest longest && nat_le 2 (non_zero_u32_get c.burst)
    && nat_lt 0 (as_nanos c.refill) && nat_le (as_nanos c.refill) tick

-- one of the channels has the number
abbrev pub has_number : ℕ → List Channel → Bool
has_number number channels = list_any (λ c. c.number == number) channels

-- no number stands twice
abbrev pub are_distinct : List Channel → Bool
are_distinct [] = true
are_distinct (c ∷ channels) = not (has_number c.number channels) && are_distinct channels

-- the channels meet their conditions
abbrev pub are_channels : ℕ → ℕ → List Channel → Bool
are_channels longest tick channels =
    list_all (is_channel longest tick) channels && are_distinct channels

-- a time is above 0, if there is one
abbrev pub is_none_or_above : Option Duration → Bool
is_none_or_above None = true
is_none_or_above (Some time) = nat_lt 0 (as_nanos time)

-- the settings of which there is a condition, in the order in which they are looked at
abbrev pub settings : List Setting
settings = setting.ByAddress ∷ setting.Grace ∷ setting.Answers ∷ setting.AnswersOfAddress
    ∷ setting.First ∷ setting.Handshake ∷ setting.Links ∷ setting.Inbound ∷ setting.Outbound
    ∷ setting.Dials ∷ setting.Batch ∷ setting.BatchWindow ∷ setting.Greeting ∷ setting.Tick
    ∷ setting.Silence ∷ setting.Burst ∷ setting.Refill ∷ setting.Owed ∷ setting.Queue
    ∷ setting.Life ∷ setting.Channels ∷ []

module _ (limits : Limits) (p : Pace) where
  -- the condition of a setting is met under these limits of a node
  abbrev pub meets : Setting → Bool
  meets setting.ByAddress = nat_le p.by_address p.arrivals
  meets setting.Grace = nat_lt 0 (as_nanos p.grace)
  meets setting.Answers = nat_lt 0 (as_nanos p.answers.refill)
  meets setting.AnswersOfAddress = nat_lt 0 (as_nanos p.answers_of_address.refill)
  meets setting.First = nat_lt 0 (as_nanos p.first)
  meets setting.Handshake = nat_lt 0 (as_nanos p.handshake)
      && nat_le (4 * as_nanos p.handshake) (as_nanos limits.cooldown)
  meets setting.Links = nat_le (p.links + 1) limits.payload.max_peers
      && nat_le (p.links + 1) limits.peer_gossip_max_count
  meets setting.Inbound = nat_le p.inbound p.links
  meets setting.Outbound = nat_le p.outbound p.links
  meets setting.Dials = nat_le p.dials p.outbound
  meets setting.Batch = nat_lt 0 p.batch
  meets setting.BatchWindow = nat_lt 0 (as_nanos p.batch_window)
  meets setting.Greeting = nat_lt 0 (as_nanos p.greeting)
  meets setting.Tick = nat_lt 0 (as_nanos p.tick)
  meets setting.Silence = nat_le (3 * as_nanos p.tick) (as_nanos p.silence)
  meets setting.Burst = nat_le 4 (non_zero_u32_get p.burst)
  meets setting.Refill = nat_lt 0 (as_nanos p.refill)
      && nat_le (4 * as_nanos p.refill) (as_nanos p.tick)
  meets setting.Owed = nat_lt 0 p.owed
  meets setting.Queue = nat_le 4 p.queue
  meets setting.Life = is_none_or_above p.life
  meets setting.Channels =
      are_channels limits.payload.max_data_length (as_nanos p.tick) p.channels.items

  -- all conditions are met
  abbrev pub AreMet : Type 0
  AreMet = (s : Setting) → meets s ≡ true
