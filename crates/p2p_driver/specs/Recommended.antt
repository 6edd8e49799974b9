-- Settings of a driver to begin with.
use Rattle.std.specs.Prelude.{ℕ, ◌≡◌, ◌+◌, ◌/◌, ◌^◌, min, nat_le, if◌then◌else◌, [], Option, Some}
use Rattle.std.specs.Prelude.{None}
use Rattle.std.specs.Prelude.{Bool, true, false}
use Rattle.std.specs.Duration.{as_nanos}
use Rattle.std.specs.Int.NonZero.{non_zero_u32_get}
use Rattle.std.specs.declared.time.Duration.{Duration}
use Rattle.p2p_driver.specs.declared.pace.Limits.{Limits}
use Rattle.p2p_driver.specs.declared.pace.Pace.{Pace}
use Rattle.p2p_driver.specs.declared.rate.Rate.{Rate}
use Rattle.p2p_driver.specs.declared.recommended.Recommended.{Recommended}

-- a rate of so many at once, and one more in so many nanoseconds
pub record IsRate (count time : ℕ) (r : Rate) : Type 0 where
  pub burst : non_zero_u32_get r.burst ≡ count
  pub refill : as_nanos r.refill ≡ time

-- the settings that are recommended, with so many links, of either direction, and these times
pub record IsOfTable (count side : ℕ) (time : Duration) (end : Option Duration) (p : Pace) :
    Type 0 where
  pub arrivals : p.arrivals ≡ 64
  pub by_address : p.by_address ≡ 32
  pub grace : as_nanos p.grace ≡ 500_000_000
  pub answers : IsRate 64 10_000_000 p.answers
  pub answers_of_address : IsRate 16 40_000_000 p.answers_of_address
  pub first : as_nanos p.first ≡ 3_000_000_000
  pub handshake : p.handshake ≡ time
  pub links : p.links ≡ count
  pub inbound : p.inbound ≡ side
  pub outbound : p.outbound ≡ side
  pub guests : p.guests ≡ 8
  pub dials : p.dials ≡ min side 16
  pub batch : p.batch ≡ 16
  pub batch_window : as_nanos p.batch_window ≡ 1_000_000_000
  pub greeting : as_nanos p.greeting ≡ 5_000_000_000
  pub tick : as_nanos p.tick ≡ 30_000_000_000
  pub silence : as_nanos p.silence ≡ 120_000_000_000
  pub burst : non_zero_u32_get p.burst ≡ 8
  pub refill : as_nanos p.refill ≡ 7_500_000_000
  pub owed : p.owed ≡ 2
  pub refresh : p.refresh ≡ 10
  pub queue : p.queue ≡ 16
  pub life : p.life ≡ end
  pub channels : p.channels.items ≡ []

-- no link gives way where peers are few, else one may after ten ticks
abbrev pub IsLife : Bool → Option Duration → Type 0
IsLife true life = life ≡ None
IsLife false None = ⊥
IsLife false (Some life) = as_nanos life ≡ 300_000_000_000

-- .. in a network of n peers: up to 256 of them each may have a link, and none gives way
pub record IsRecommended (n cooldown : ℕ) (r : Recommended) : Type 0 where
  pub handshake : as_nanos r.pace.handshake ≡ min 5_000_000_000 (cooldown / 4)
  pub life : IsLife (nat_le n 256) r.pace.life
  pub table : IsOfTable (if nat_le n 256 then n else 64) (if nat_le n 256 then n else 48)
      r.pace.handshake r.pace.life r.pace
  pub bits : r.payload.max_bit_vec ≡ n
  pub peers : r.payload.max_peers ≡ r.pace.links + 1
  pub message : r.payload.max_data_length ≡ 2 ^ 20
  pub infos : r.peer_gossip_max_count ≡ r.pace.links + 1

-- the limits of a node that has them, and this minimum time between two reservations of a peer
abbrev pub limits_of : Duration → Recommended → Limits
limits_of cooldown r = record {
  cooldown = cooldown;
  payload = r.payload;
  peer_gossip_max_count = r.peer_gossip_max_count;
}
