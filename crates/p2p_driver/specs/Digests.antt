-- A number of the settings that two nodes must share.
use Rattle.std.specs.Prelude.{ℕ, ◌+◌, ◌*◌, ◌/◌, ◌%◌, ◌^◌, List, [], ◌∷◌, ◌++◌, length}
use Rattle.std.specs.Duration.{as_nanos}
use Rattle.std.specs.List.{fold}
use Rattle.std.specs.Int.NonZero.{non_zero_u32_get}
use Rattle.p2p_driver.specs.declared.pace.Channel.{Channel}
use Rattle.p2p_driver.specs.declared.pace.Limits.{Limits}
use Rattle.p2p_driver.specs.declared.pace.Pace.{Pace}

-- the digest with one more word
abbrev pub mixed : ℕ → ℕ → ℕ
mixed hash word = (hash * 6_364_136_223_846_793_005 + word) % 2 ^ 64

-- .. with more words, in their order
abbrev pub digest_on : ℕ → List ℕ → ℕ
digest_on hash words = fold mixed hash words

-- the digest of a list of words
abbrev pub digest_of : List ℕ → ℕ
digest_of words = digest_on 0 words

-- the words of a time in nanoseconds: its seconds, then the nanoseconds that are left
abbrev pub time_words : ℕ → List ℕ
time_words nanos = nanos / 1_000_000_000 ∷ nanos % 1_000_000_000 ∷ []

-- the words of a channel
abbrev pub channel_words : Channel → List ℕ
channel_words c = c.number ∷ c.longest ∷ non_zero_u32_get c.burst ∷ time_words (as_nanos c.refill)

-- .. of channels, one behind the other
abbrev pub words_of : List Channel → List ℕ
words_of [] = []
words_of (c ∷ channels) = channel_words c ++ words_of channels

-- the words of all settings that two nodes must share
abbrev pub shared_words : Limits → Pace → List ℕ
shared_words limits pace = limits.payload.max_bit_vec ∷ limits.payload.max_peers
    ∷ limits.payload.max_data_length ∷ limits.peer_gossip_max_count
    ∷ time_words (as_nanos pace.tick) ++ time_words (as_nanos pace.silence)
    ++ length pace.channels.items ∷ words_of pace.channels.items
