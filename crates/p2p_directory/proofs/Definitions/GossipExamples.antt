-- Computed values of exchanges and corners of gossip. What is expected was worked out by hand from
-- the definitions in words, and not by these.
use Rattle.std.proofs.Common.{◌≡◌, ℕ, ◌+◌, ◌-◌, ◌*◌, ◌^◌, Bool, true, false, List, [], ◌∷◌, ◌++◌, Option, Some, None, refl}
use Rattle.std.specs.Prelude.{◌==◌, length}
use Rattle.std.specs.Duration.{max_nanos}
use Rattle.p2p_discovery.specs.declared.codec.error.CodecError.TheVariants.{InvalidLength}
use Rattle.p2p_discovery.specs.declared.discovery.Error.TheVariants.{TooManyPeers, ReceivedSelf, InvalidSignature, SynchronyBound}
use Rattle.p2p_discovery.specs.declared.discovery.Info.{Info}
use Rattle.p2p_discovery.specs.declared.discovery.PayloadConfig.{PayloadConfig}
use Rattle.p2p_discovery.specs.declared.types.ingress.Ingress.TheVariants.{Socket}
use Rattle.p2p_discovery.specs.declared.types.socket.IpAddr.TheVariants.{V4}
use Rattle.p2p_discovery.specs.Ingress.{is_valid}
use Rattle.p2p_tracker.specs.Calls.{Settings, Call}
use Rattle.p2p_tracker.specs.Calls.Call.{Track, Dial, Listen, Connect, Release, Update, Block, UnblockExpired, Ask}
use Rattle.p2p_tracker.specs.Calls.Question.{StatusOf}
use Rattle.p2p_tracker.specs.History
use Rattle.p2p_tracker.specs.World.{World, world_at, event_in}
use Rattle.p2p_tracker.specs.Answers.{was_granted, bits_at, is_dialable, query_moment}
use Rattle.p2p_tracker.specs.Answers.{sharable_info, latest_index_in, is_tracked}
use Rattle.p2p_tracker.specs.Moments.{epoch_millis}
use Rattle.p2p_directory.specs.Received.{Wire, Standing}
use Rattle.p2p_directory.specs.Nodes.{Made, standing_in}
use Rattle.p2p_directory.specs.Exchange as exchange
use Rattle.p2p_directory.specs.Exchange.{exchanged_at}
use Rattle.p2p_directory.specs.Exchange.ExchangeOutcome.{NoSet, AskRefused, Malformed, ReplyRefused, Invalid, Applied}
use Rattle.p2p_directory.specs.Laws.Gossip.{wanted_infos}
use Rattle.p2p_directory.specs.Laws.Isolation.{left_for}
use Rattle.p2p_directory.proofs.Nodes.ReadBack.{wire_by}
use Rattle.p2p_directory.proofs.Definitions.Setting.{sec, info_at, info, own, setup, after_calls, track, listen, dial}

-- ---- the setting

abbrev pub one : List ℕ → Option ℕ
one (b ∷ []) = Some b
one _ = None

abbrev pub wire : Wire ℕ ℕ
wire = wire_by 1 (λ p. p ∷ []) one 1 (λ s. s ∷ []) one (λ p ns m s. s == p + 10 * length ns)

abbrev pub namespace_rows : List ℕ
namespace_rows = 114 ∷ 111 ∷ 119 ∷ 115 ∷ []

abbrev pub signed_at : ℕ → ℕ → ℕ → Info ℕ ℕ
signed_at p t port = record (info_at p t port) { signature = p + 40 }

abbrev pub signed : ℕ → ℕ → Info ℕ ℕ
signed p t = signed_at p t (8000 + p)

abbrev pub signed_elsewhere : ℕ → ℕ → Info ℕ ℕ
signed_elsewhere p t = record (info p t) { signature = p + 50 }

abbrev pub own_of_9 : Info ℕ ℕ
own_of_9 = record own { signature = 49 }

abbrev pub own_of_8 : Info ℕ ℕ
own_of_8 = record { ingress = Socket (record { ip = V4 (8 ∷ 8 ∷ 4 ∷ 4 ∷ []); port = 9000 }); timestamp = 0; public_key = 8; signature = 48 }

abbrev pub limits : ℕ → ℕ → PayloadConfig
limits bits peers = record { max_bit_vec = bits; max_peers = peers; max_data_length = 32 }

abbrev pub made : Info ℕ ℕ → ℕ → ℕ → ℕ → Made ℕ ℕ
made me bits peers count = record {
  directory = record setup { own = me };
  limits = limits bits peers;
  verifier = record { me = me.public_key; greatest_count = count; synchrony_bound = sec 30; namespace = namespace_rows };
}

abbrev pub asker : Made ℕ ℕ
asker = made own_of_9 8 8 8

abbrev pub replier : Made ℕ ℕ
replier = made own_of_8 8 8 8

abbrev pub at : Made ℕ ℕ → List (Call ℕ ℕ) → World ℕ ℕ
at m cs = world_at m.directory (after_calls m.directory [] cs)

abbrev pub stands : Made ℕ ℕ → List (Call ℕ ℕ) → Standing ℕ ℕ
stands m cs = standing_in m wire (at m cs)

abbrev pub x : Made ℕ ℕ → List (Call ℕ ℕ) → Made ℕ ℕ → List (Call ℕ ℕ) → ℕ → ℕ → ℕ → exchange.ExchangeOutcome ℕ ℕ
x a cs r ds place s t = exchanged_at (stands a cs) (stands r ds) place s t

abbrev pub asker_calls : List (Call ℕ ℕ)
asker_calls = track 0 (1 ∷ 2 ∷ []) ∷ []

abbrev pub replier_calls : List (Call ℕ ℕ)
replier_calls = track 0 (1 ∷ 2 ∷ []) ∷ Update (signed 1 100000 ∷ []) ∷ listen 1 50 ∷ Connect 1 false ∷ []

-- ---- exchanges: row 16, parts a to g

row16 :
    (x asker asker_calls replier replier_calls 0 69_999_000_000 (sec 100) ≡ Invalid SynchronyBound)
    × (x asker asker_calls replier replier_calls 0 69_999_999_999 (sec 100) ≡ Invalid SynchronyBound)
    × (x asker asker_calls replier replier_calls 0 (sec 70) (sec 100) ≡ Applied (signed 1 100000 ∷ []))
    × (bits_at asker.directory (at asker (asker_calls ++ Update (signed 1 100000 ∷ []) ∷ [])) 0 ≡ Some (0, true ∷ false ∷ []))
    × (x asker (asker_calls ++ Update (signed 1 100000 ∷ []) ∷ []) replier replier_calls 0 (sec 70) (sec 100) ≡ Applied [])
    × (x asker asker_calls replier
    (track 0 (1 ∷ 9 ∷ []) ∷ Update (signed 9 1000 ∷ []) ∷ listen 9 50 ∷ Connect 9 false ∷ []) 0 (sec 100)
    (sec 100) ≡ Invalid ReceivedSelf)
    × (x asker asker_calls replier (track 0 (1 ∷ []) ∷ []) 0 (sec 100) (sec 100) ≡ Malformed)
    × (x asker asker_calls (made own_of_8 1 8 8) asker_calls 0 (sec 100) (sec 100) ≡ AskRefused (InvalidLength 2))
    × (x asker [] replier [] 0 (sec 100) (sec 100) ≡ NoSet)
    × (x asker asker_calls replier (track 4 (1 ∷ 2 ∷ []) ∷ []) 0 (sec 100) (sec 100) ≡ Applied [])
    × (x (made own_of_9 8 0 8) asker_calls replier replier_calls 0 (sec 70) (sec 100) ≡ ReplyRefused (InvalidLength 1))
unfolding History.life
row16 = (refl, refl, refl, refl, refl, refl, refl, refl, refl, refl, refl)

-- ---- exchanges: corners

-- the limit before the index and the number; the limit of peers before the count; bits of no peers
exchange_corners :
    (x asker asker_calls (made own_of_8 1 8 8) [] 0 (sec 100) (sec 100) ≡ AskRefused (InvalidLength 2))
    × (x asker asker_calls (made own_of_8 1 8 8) (track 0 (1 ∷ []) ∷ []) 0 (sec 100) (sec 100) ≡ AskRefused (InvalidLength 2))
    × (x (made own_of_9 8 0 0) asker_calls replier replier_calls 0 (sec 70) (sec 100) ≡ ReplyRefused (InvalidLength 1))
    × (x (made own_of_9 8 8 0) asker_calls replier replier_calls 0 (sec 70) (sec 100) ≡ Invalid (TooManyPeers 1))
    × (x (made own_of_9 8 8 0) asker_calls replier (track 0 (1 ∷ 2 ∷ []) ∷ []) 0 (sec 70) (sec 100) ≡ Applied [])
    × (x (made own_of_9 0 0 0) (track 0 [] ∷ []) (made own_of_8 0 0 0) (track 0 [] ∷ []) 0 0 0 ≡ Applied [])
    × (x asker (track 0 [] ∷ []) replier (track 0 (1 ∷ []) ∷ []) 0 0 0 ≡ Malformed)
    -- own keys in the list: the asker's is never asked for, the replier's is told without a connection
    × (x asker (track 0 (8 ∷ 9 ∷ []) ∷ []) replier (track 0 (8 ∷ 9 ∷ []) ∷ []) 0 0 0 ≡ Applied (own_of_8 ∷ []))
    -- one millisecond of the future is not told; then the bound to the nanosecond
    × (x asker asker_calls replier
    (track 0 (1 ∷ 2 ∷ []) ∷ Update (signed 1 100001 ∷ []) ∷ listen 1 50 ∷ Connect 1 false ∷ []) 0 (sec 100)
    100_000_999_999 ≡ Applied [])
    × (x asker asker_calls replier
    (track 0 (1 ∷ 2 ∷ []) ∷ Update (signed 1 100001 ∷ []) ∷ listen 1 50 ∷ Connect 1 false ∷ []) 0
    70_000_999_999 100_001_000_000 ≡ Invalid SynchronyBound)
    × (x asker asker_calls replier
    (track 0 (1 ∷ 2 ∷ []) ∷ Update (signed 1 100001 ∷ []) ∷ listen 1 50 ∷ Connect 1 false ∷ []) 0
    70_001_000_000 100_001_000_000 ≡ Applied (signed 1 100001 ∷ []))
    -- a reserved peer is not told, nor one that was released
    × (x asker asker_calls replier (track 0 (1 ∷ 2 ∷ []) ∷ Update (signed 1 100000 ∷ []) ∷ listen 1 50 ∷ []) 0 (sec 100) (sec 100) ≡ Applied [])
    × (x asker asker_calls replier (replier_calls ++ Release 1 ∷ []) 0 (sec 100) (sec 100) ≡ Applied [])
    -- the first refusal in list order; the own key before the bound and the signature
    × (x asker asker_calls replier
    (track 0 (1 ∷ 2 ∷ []) ∷ Update (signed_elsewhere 1 7 ∷ signed 2 100000 ∷ []) ∷ listen 1 50 ∷ Connect 1
    false ∷ listen 2 50 ∷ Connect 2 false ∷ []) 0 0 (sec 100) ≡ Invalid InvalidSignature)
    × (x asker asker_calls replier
    (track 0 (1 ∷ 2 ∷ []) ∷ Update (signed 1 100000 ∷ signed_elsewhere 2 7 ∷ []) ∷ listen 1 50 ∷ Connect 1
    false ∷ listen 2 50 ∷ Connect 2 false ∷ []) 0 0 (sec 100) ≡ Invalid SynchronyBound)
    -- the same with secondary peers: they are no part of bits
    × (x asker (Track 0 (1 ∷ []) (2 ∷ []) ∷ []) replier
    (Track 0 (1 ∷ []) (7 ∷ []) ∷ Update (signed 1 5 ∷ []) ∷ listen 1 50 ∷ Connect 1 false ∷ []) 0 (sec 100)
    (sec 100) ≡ Applied (signed 1 5 ∷ []))
unfolding History.life
exchange_corners = (refl, refl, refl, refl, refl, refl, refl, refl, refl, refl, refl, refl, refl, refl, refl, refl)

-- ---- what an exchange is to bring

wants_less :
    (wanted_infos asker (at asker asker_calls) replier (at replier replier_calls) (sec 100) (1 ∷ 2 ∷ []) ≡ signed 1 100000 ∷ [])
    × (wanted_infos asker (at asker (asker_calls ++ Update (signed 1 5 ∷ []) ∷ [])) replier (at replier replier_calls) (sec 100) (1 ∷ 2 ∷ []) ≡ [])
    × (wanted_infos asker (at asker asker_calls) replier (at replier replier_calls) 99_999_999_999 (1 ∷ 2 ∷ []) ≡ [])
    -- an old info that failed too often is wanted again, unless its peer is active
    × (wanted_infos asker (at asker (asker_calls ++ Update (signed 1 5 ∷ []) ∷ dial 1 1 ∷ Release 1 ∷ [])) replier
    (at replier replier_calls) (sec 100) (1 ∷ 2 ∷ []) ≡ signed 1 100000 ∷ [])
    × (wanted_infos asker
    (at asker (asker_calls ++ Update (signed 1 5 ∷ []) ∷ dial 1 1 ∷ Release 1 ∷ listen 1 11 ∷ Connect 1 false
    ∷ [])) replier (at replier replier_calls) (sec 100) (1 ∷ 2 ∷ []) ≡ [])
unfolding History.life is_valid
wants_less = (refl, refl, refl, refl, refl)

-- ---- one directory: corners that no other file computes

abbrev with_boot : ℕ → Settings ℕ ℕ
with_boot port = record setup { bootstrappers = (1, Socket (record { ip = V4 (1 ∷ 2 ∷ 3 ∷ 4 ∷ []); port = port })) ∷ [] }

abbrev fails : Settings ℕ ℕ → List (Call ℕ ℕ) → ℕ → ℕ
fails s cs p = ((world_at s (after_calls s [] cs)).peer p).known.fails

abbrev granted : Settings ℕ ℕ → List (Call ℕ ℕ) → Call ℕ ℕ → Bool
granted s cs c = let h = after_calls s [] cs in was_granted (event_in s (History.taken_sets s h) (world_at s h) c)

abbrev world_after_calls : Settings ℕ ℕ → List (Call ℕ ℕ) → World ℕ ℕ
world_after_calls s cs = world_at s (after_calls s [] cs)

failure_corners :
    -- a dial at the bootstrapper's address; its info with that very address comes before the release: it counts
    (fails (with_boot 8001) (dial 1 100 ∷ Update (info_at 1 5 8001 ∷ []) ∷ Release 1 ∷ []) 1 ≡ 1)
    -- .. with another address, or after the release: it does not
    × (fails (with_boot 8001) (dial 1 100 ∷ Update (info_at 1 5 8002 ∷ []) ∷ Release 1 ∷ []) 1 ≡ 0)
    × (fails (with_boot 8001) (dial 1 100 ∷ Release 1 ∷ Update (info_at 1 5 8001 ∷ []) ∷ []) 1 ≡ 0)
    -- the address goes and comes back while the dial is held
    × (fails setup
    (track 0 (1 ∷ []) ∷ Update (info_at 1 1 8001 ∷ []) ∷ dial 1 100 ∷ Update (info_at 1 2 8002 ∷ []) ∷ Update
    (info_at 1 3 8001 ∷ []) ∷ Release 1 ∷ []) 1 ≡ 1)
    -- an older info with that address in one update with the newest counts for nothing
    × (fails setup (track 0 (1 ∷ []) ∷ Update (info_at 1 1 8001 ∷ []) ∷ dial 1 100 ∷ Release 1 ∷ Update (info_at 1 0 8001 ∷ info_at 1 1 8003 ∷ []) ∷ []) 1 ≡ 1)
    -- a connect as its dialer without an info, then an info, then a release of another dial
    × (fails (with_boot 8001) (dial 1 100 ∷ Connect 1 true ∷ Update (info_at 1 5 8001 ∷ []) ∷ Release 1 ∷ []) 1 ≡ 1)
    -- a life that ends at the release forgets the failure that the release is
    × (fails setup (track 0 (1 ∷ []) ∷ Update (info_at 1 1 8001 ∷ []) ∷ dial 1 100 ∷ track 1 (2 ∷ []) ∷ Release 1 ∷ track 2 (1 ∷ []) ∷ []) 1 ≡ 0)
    -- .. but one that is named again before the release keeps it
    × (fails setup (track 0 (1 ∷ []) ∷ Update (info_at 1 1 8001 ∷ []) ∷ dial 1 100 ∷ track 1 (2 ∷ []) ∷ track 2 (1 ∷ []) ∷ Release 1 ∷ []) 1 ≡ 1)
unfolding History.life is_valid
failure_corners = (refl, refl, refl, refl, refl, refl, refl, refl)

abbrev no_cooldown : Settings ℕ ℕ
no_cooldown = record setup { cooldown = 0 }

moment_corners :
    -- no cooldown: again at the same moment, and not at an earlier one
    (granted no_cooldown (track 0 (1 ∷ []) ∷ Listen 1 100 7 ∷ Release 1 ∷ []) (Listen 1 100 0) ≡ true)
    × (granted no_cooldown (track 0 (1 ∷ []) ∷ Listen 1 100 7 ∷ Release 1 ∷ []) (Listen 1 99 0) ≡ false)
    -- a listener's grant moves the dial moment too, and a secondary peer keeps it when it becomes primary
    × (query_moment setup
    (world_after_calls setup
    (Track 0 [] (1 ∷ []) ∷ Update (info 1 5 ∷ []) ∷ Listen 1 (sec 100) (sec 4) ∷ Release 1 ∷ track 1 (1 ∷ [])
    ∷ [])) (sec 111) 1 ≡ Some (sec 114))
    -- a bootstrapper that is blocked and is active is asked for at its block's end, too
    × (query_moment (with_boot 1) (world_after_calls (with_boot 1) (listen 1 100 ∷ Connect 1 false ∷ Block 1 (sec 101) ∷ [])) (sec 102) 1 ≡ Some (sec 161))
    -- a block beats the later dial moment of a target
    × (query_moment (with_boot 1)
    (world_after_calls (with_boot 1) (Listen 1 (sec 100) (sec 10) ∷ Release 1 ∷ Block 1 (sec 101) ∷ []))
    (sec 102) 1 ≡ Some (sec 161))
    × (query_moment (with_boot 1) (world_after_calls (with_boot 1) (Listen 1 (sec 100) (sec 10) ∷ Release 1 ∷ Block 1 (sec 101) ∷ [])) (sec 161) 1 ≡ None)
    × (is_dialable (with_boot 1) (world_after_calls (with_boot 1) (Listen 1 (sec 100) (sec 10) ∷ Release 1 ∷ Block 1 (sec 101) ∷ [])) (sec 161) 1 ≡ true)
    -- moments that go back: a block that holds later is not renewed by one of an earlier moment
    × ((world_after_calls setup (Block 1 (sec 200) ∷ Block 1 (sec 170) ∷ [])).unblock 1 ≡ Some (sec 260))
    × ((world_after_calls setup (Block 1 (sec 200) ∷ UnblockExpired (sec 259) ∷ Block 1 (sec 259) ∷ [])).unblock 1 ≡ Some (sec 260))
    -- the greatest index with one set, and none after it
    × (latest_index_in setup (world_after_calls setup (track 0 (1 ∷ []) ∷ track (2 ^ 64 - 1) (2 ∷ []) ∷ track 5 (3 ∷ []) ∷ [])) ≡ Some (2 ^ 64 - 1))
    -- the own key as a bootstrapper is no other peer
    × (is_tracked
    (record setup { bootstrappers = (9, Socket (record { ip = V4 (1 ∷ 1 ∷ 1 ∷ 1 ∷ []); port = 1 })) ∷ [] })
    (world_after_calls setup []) 9 ≡ false)
    -- first of greatest across updates: a tie with an earlier update keeps the earlier
    × (sharable_info setup
    (world_after_calls setup
    (track 0 (1 ∷ []) ∷ listen 1 1 ∷ Connect 1 false ∷ Update (info_at 1 7 8001 ∷ []) ∷ Update
    (info_at 1 6 8002 ∷ info_at 1 7 8003 ∷ []) ∷ [])) 1 ≡ Some (info_at 1 7 8001))
    × (epoch_millis max_nanos ≡ 2 ^ 64 - 1)
unfolding History.life is_valid
moment_corners = (refl, refl, refl, refl, refl, refl, refl, refl, refl, refl, refl, refl, refl)

-- ---- isolation: what is left for 1
left_out :
    (left_for setup 1
    (Dial 2 0 0 ∷ Dial 1 0 0 ∷ Update (info 2 5 ∷ info 1 6 ∷ []) ∷ UnblockExpired 7 ∷ Block 2 0 ∷ track 0
    (2 ∷ []) ∷ []) ≡ Dial 1 0 0 ∷ Update (info 1 6 ∷ []) ∷ UnblockExpired 7 ∷ track 0 (2 ∷ []) ∷ [])
    -- a call on a single other peer that only asks is left out
    × (left_for setup 1 (Ask (StatusOf 2) ∷ Ask (StatusOf 1) ∷ []) ≡ Ask (StatusOf 1) ∷ [])
left_out = (refl, refl)
