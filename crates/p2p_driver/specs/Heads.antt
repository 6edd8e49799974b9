-- What a frame of a link is, by its first bytes and its length in bytes.
use Rattle.std.specs.Prelude.{ℕ, ◌≡◌, ◌==◌, ◌+◌, nat_lt, Bool, true, false, if◌then◌else◌}
use Rattle.std.specs.Prelude.{List, [], ◌∷◌, ◌++◌, length, find, Option, Some, None}
use Rattle.std.specs.Prelude.{Result, Ok, Err}
use Rattle.std.specs.List.{position_or_len}
use Rattle.p2p_discovery.specs.declared.codec.error.CodecError.{CodecError}
use Rattle.p2p_discovery.specs.declared.discovery.PayloadConfig.{PayloadConfig}
use Rattle.p2p_discovery.specs.Data.{header}
use Rattle.p2p_discovery.specs.Payload.{gossip_size}
use Rattle.p2p_discovery.specs.Varint.{varint64, varint64_at}
use Rattle.p2p_driver.specs.declared.heads.Kind.{Kind}
use Rattle.p2p_driver.specs.declared.heads.Kind.TheVariants as kind
use Rattle.p2p_driver.specs.declared.pace.Channel.{Channel}

-- what was read, if anything was
abbrev pub value_of : Result (ℕ × List ℕ) CodecError → Option ℕ
value_of (Ok x) = Some x.0
value_of (Err fault) = None

-- the channel that a head spells: behind the prefix of a message a number is read
abbrev pub channel_of : List ℕ → Option ℕ
channel_of [] = None
channel_of (prefix ∷ rest) = if prefix == 0 then value_of (varint64_at rest).outcome else None

-- a head begins as a message on the channel of this number: behind the prefix stands its spelling
abbrev pub BeginsOn : ℕ → List ℕ → Type 0
BeginsOn number head = (rest : List ℕ) × (head ≡ 0 ∷ (varint64 number ++ rest))

-- the channel has the number
abbrev pub is_numbered : ℕ → Channel → Bool
is_numbered number c = c.number == number

-- the length of the longest message's frame on a channel: its header, and the message
abbrev pub longest_frame : Channel → ℕ
longest_frame c = length (header c.number c.longest) + c.longest

-- what a frame of so many bytes is, if it may have at most so many
abbrev pub up_to : Kind → ℕ → ℕ → Kind
up_to k most size = if nat_lt most size then kind.TooLong else k

-- what a message's frame is, if its channel stands at this position of the settings
abbrev pub kind_at : ℕ → Option Channel → ℕ → Kind
kind_at place None size = kind.NoChannel
kind_at place (Some c) size = up_to (kind.Message place) (longest_frame c) size

-- what a message's frame is, by the number of its channel
abbrev pub message_kind : List Channel → ℕ → ℕ → Kind
message_kind channels number size =
    kind_at (position_or_len (is_numbered number) channels)
    (find (is_numbered number) channels) size

-- what a frame of gossip is, where an info has at most so many bytes
abbrev pub gossip_kind : ℕ → PayloadConfig → ℕ → Kind
gossip_kind info limits size =
    up_to kind.Gossip (gossip_size info limits.max_bit_vec limits.max_peers) size

-- what the first frame of a peer is: no greeting is longer than its prefix and an info
abbrev pub first_kind : ℕ → ℕ → Kind
first_kind info size = if nat_lt (1 + info) size then kind.NoGreeting else kind.Greeting

module _ (info : ℕ) (channels : List Channel) (limits : PayloadConfig) where
  -- what a frame of a peer that has greeted is, by the channel that its head spells, if it does
  abbrev pub next_kind : Option ℕ → ℕ → Kind
  next_kind (Some number) size = message_kind channels number size
  next_kind None size = gossip_kind info limits size

  -- what a frame is, by whether its peer has greeted, its head and its length
  abbrev pub kind_of : Bool → List ℕ → ℕ → Kind
  kind_of false head size = first_kind info size
  kind_of true head size = next_kind (channel_of head) size
