-- Messages on channels, and the frames that carry them.
use Rattle.std.specs.Prelude.{◌≡◌, ℕ, ◌<◌, ◌^◌, true, List, ◌∷◌, ◌++◌, length}
use Rattle.p2p_discovery.specs.declared.codec.error.RangeCfg.{RangeCfg}
use Rattle.p2p_discovery.specs.declared.data.Data.{Data}
use Rattle.p2p_discovery.specs.Reading.{Reading, ◌>>=◌, reads, cut_at, is_within}
use Rattle.p2p_discovery.specs.Fields.{◌&◌}
use Rattle.p2p_discovery.specs.Varint.{varint32, varint64, varint64_at}
use Rattle.p2p_discovery.specs.Counted.{counted_spelling, length_at}

-- the channel, then the message behind its length
abbrev pub data_spelling : Data → List ℕ
data_spelling d = varint64 d.channel ++ counted_spelling d.message

-- The limit allows a message of this length, and so does the wire.
pub record IsDataAllowed (limit : RangeCfg) (d : Data) : Type 0 where
  pub within : is_within limit (length d.message) ≡ true
  pub small : length d.message < 2 ^ 32

-- a message, which is cut out of what is read
unfoldable pub message_at : RangeCfg → List ℕ → Reading (List ℕ)
message_at limit = length_at limit >>= cut_at

unfoldable pub data_at : RangeCfg → List ℕ → Reading Data
data_at limit =
    (varint64_at & message_at limit) >>= λ p. reads (record { channel = p.0; message = p.1 })

-- ---- frames

-- what stands before the buffers of a message of so many bytes
abbrev pub header : ℕ → ℕ → List ℕ
header channel total = 0 ∷ (varint64 channel ++ varint32 total)

-- the payload of data: its prefix, then the data
abbrev pub data_payload : Data → List ℕ
data_payload d = 0 ∷ data_spelling d
