-- What a session is given: bytes and numbers, and what they are.
use Rattle.std.specs.Prelude.{◌≡◌, ◌⊎◌, ℕ, ◌+◌, ◌*◌, ◌^◌, ◌-◌, ◌==◌, ◌<◌, nat_lt}
use Rattle.std.specs.Prelude.{if◌then◌else◌, Bool, ◌&&◌, List, ◌++◌, length, Option, Some, None, Result}
use Rattle.std.specs.Prelude.{Ok, Err, ◌↔◌, Vec, flat_map}
use Rattle.std.specs.List.{AllByRecursion, Contains}
use Rattle.std.specs.List.Sorted.{IsStrictlySortedBy}
use Rattle.std.specs.Duration.{as_nanos}
use Rattle.std.specs.declared.time.Duration.{Duration}
use Rattle.p2p_discovery.specs.declared.discovery.BitVec.{BitVec}
use Rattle.p2p_discovery.specs.declared.discovery.Info.{Info}
use Rattle.p2p_discovery.specs.declared.codec.error.CodecError.{CodecError}
use Rattle.p2p_discovery.specs.Reading.{whole}
use Rattle.p2p_discovery.specs.Info.{IsInfo, IsKeyed, info_spelling, infos_at}
use Rattle.p2p_discovery.specs.BitVec.{bit_vec_read_at}
use Rattle.p2p_discovery.specs.Payload.{up_to}
use Rattle.p2p_tracker.specs.Calls.{Call}
use Rattle.p2p_tracker.specs.declared.directory.TrackedPeers.{TrackedPeers}
use Rattle.p2p_tracker.specs.Calls.Call.{Track}
use Rattle.p2p_directory.specs.Run.{call_of}
use Rattle.p2p_directory.specs.declared.run.commands.Command.{Command}
use Rattle.p2p_session.specs.declared.refusal.Refusal.{Refusal}
use Rattle.p2p_session.specs.declared.refusal.Refusal.TheVariants as refusal
use Rattle.p2p_session.specs.declared.setup.Numbers.{Numbers}
use Rattle.p2p_session.specs.Schemes.{Scheme}
use Rattle.p2p_session.specs.Answers.{keys_bytes}
use Rattle.p2p_directory.specs.declared.node.setup.Setup.{Setup}
use Rattle.p2p_discovery.specs.declared.types.ingress.Ingress.{Ingress}
use Rattle.p2p_discovery.specs.Ingress.{IsIngress, ingress_spelling}
use Rattle.std.specs.Int.NonZero.{non_zero_usize_get}

-- what is asked for, or why it can't be read
abbrev pub Asked : Type 0 → Type 0 → Type 0
Asked C S = Result (Call C S) Refusal

-- one argument, and then the rest: the first that can't be read is refused
abbrev pub and_then : {A B : Type 0} → Result A Refusal → (A → Result B Refusal) → Result B Refusal
and_then (Ok x) f = f x
and_then (Err why) f = Err why

-- the moment of so many seconds and nanoseconds, in nanoseconds
abbrev pub moment_at : ℕ → ℕ → Result ℕ Refusal
moment_at seconds nanos =
    if nat_lt nanos 1_000_000_000 then Ok (seconds * 1_000_000_000 + nanos)
    else Err refusal.BadMoment

-- a moment that was read, in nanoseconds
abbrev pub nanos_of : Result Duration Refusal → Result ℕ Refusal
nanos_of (Ok t) = Ok (as_nanos t)
nanos_of (Err why) = Err why

-- a command that was read, as a call
abbrev pub asked : {C S : Type 0} → Result (Command C S) Refusal → Asked C S
asked (Ok x) = Ok (call_of x)
asked (Err why) = Err why

-- infos that were read, as a list
abbrev pub infos_of : {C S A : Type 0} → Result (Vec (Info C S) A) Refusal →
    Result (List (Info C S)) Refusal
infos_of (Ok infos) = Ok infos.items
infos_of (Err why) = Err why

-- what the bytes spell, or that they spell nothing
abbrev pub spelled : {A : Type 0} → Refusal → Result (A × List ℕ) CodecError → Result A Refusal
spelled why (Ok x) = Ok x.0
spelled why (Err fault) = Err why

-- .. bits, at most as many as the greatest `u32`
abbrev pub bits_spelled : List ℕ → Result BitVec Refusal
bits_spelled bytes = spelled refusal.BadBits (whole (bit_vec_read_at (2 ^ 32 - 1)) bytes).outcome

-- what was read from these bytes is this, or memory for it was refused: none is asked for where
-- there are no bytes
abbrev pub IsRead : {A : Type 0} → List ℕ → Result A Refusal → Result A Refusal → Type 0
IsRead bytes read it = ((read ≡ Err refusal.Memory) × (0 < length bytes)) ⊎ (read ≡ it)

-- the track of the set of these peers
abbrev pub track_of : {C S : Type 0} → ℕ → Result (TrackedPeers C S) Refusal → Asked C S
track_of index (Ok peers) = Ok (Track index peers.primary peers.secondary)
track_of index (Err why) = Err why

-- the numbers of a setup, in the order in which `init` takes them
abbrev pub numbers_of : Bool → Bool → ℕ → ℕ → ℕ → ℕ → ℕ → ℕ → ℕ → ℕ → ℕ → ℕ → ℕ → ℕ → Numbers
numbers_of private_ips dns sets fails cooldown_seconds cooldown_nanos block_seconds block_nanos
    bits peers data_length count bound_seconds bound_nanos = record {
      allow_private_ips = private_ips;
      allow_dns = dns;
      max_sets = sets;
      dial_fail_limit = fails;
      cooldown = (cooldown_seconds, cooldown_nanos);
      block = (block_seconds, block_nanos);
      max_bit_vec = bits;
      max_peers = peers;
      max_data_length = data_length;
      peer_gossip_max_count = count;
      bound = (bound_seconds, bound_nanos);
    }

-- a node retains a set, and not as many as fit no list, and a frame encodes as many bits
abbrev pub are_settings : Numbers → Bool
are_settings n =
    nat_lt 0 n.max_sets && (nat_lt n.max_sets (2 ^ 64 - 1) && nat_lt n.max_bit_vec (2 ^ 32))

-- the numbers of a setup are fine, or the first that isn't is refused: settings, then the durations
abbrev pub numbers_at : Numbers → Result ℕ Refusal
numbers_at n = if are_settings n
    then and_then (moment_at n.cooldown.0 n.cooldown.1) (λ _.
    and_then (moment_at n.block.0 n.block.1) (λ _. moment_at n.bound.0 n.bound.1))
    else Err refusal.BadSetting

-- what is no key is refused as such
abbrev pub or_bad : {C : Type 0} → Option C → Result C Refusal
or_bad (Some key) = Ok key
or_bad None = Err refusal.BadKey

module _ {C S : Type 0} (k : Scheme C S) where
  -- the key that these bytes are
  abbrev pub key_at : List ℕ → Result C Refusal
  key_at bytes = if length bytes == k.key.SIZE then or_bad (k.key.value bytes)
      else Err refusal.BadKey

  -- these keys are the bytes, one after the other
  abbrev pub AreKeysOf : List ℕ → List C → Type 0
  AreKeysOf bytes keys = AllByRecursion k.key.IsValue keys × (keys_bytes k keys ≡ bytes)

  -- .. some keys
  abbrev pub AreKeys : List ℕ → Type 0
  AreKeys bytes = (keys : List C) × AreKeysOf bytes keys

  -- the set of the keys that stand in these bytes one after the other, in whatever order and
  -- however often each of them comes
  abbrev pub IsSetOf : List ℕ → List C → Type 0
  IsSetOf bytes set = IsStrictlySortedBy k.key.cmp set × ((keys : List C) × AreKeysOf bytes keys
      × ((q : C) → Contains set q ↔ Contains keys q))

  abbrev pub infos_spelled : List ℕ → Result (List (Info C S)) Refusal
  infos_spelled bytes = spelled refusal.BadInfo
      (whole (infos_at k.key.SIZE k.key.value k.signature.SIZE k.signature.value
      (up_to (2 ^ 64 - 1))) bytes).outcome

  -- the peers of a set that were read, or why there are none: bytes that are no keys are refused
  -- first, and then memory may be, where there is a key
  abbrev pub ArePeersRead : List ℕ → List ℕ → Result (TrackedPeers C S) Refusal → Type 0
  ArePeersRead primary secondary (Ok peers) =
      IsSetOf primary peers.primary × IsSetOf secondary peers.secondary
  ArePeersRead primary secondary (Err why) =
      ((why ≡ refusal.BadKeys) × (¬ (AreKeys primary × AreKeys secondary)))
      ⊎ ((why ≡ refusal.Memory) × AreKeys primary × AreKeys secondary
      × (0 < length primary + length secondary))

  -- a call of `track` that was read
  abbrev pub IsTrackRead : ℕ → List ℕ → List ℕ → Asked C S → Type 0
  IsTrackRead index primary secondary given = (peers : Result (TrackedPeers C S) Refusal)
      × ArePeersRead primary secondary peers × (given ≡ track_of index peers)

  -- ---- what a node is made from

  -- a key and an ingress, each of its form
  abbrev pub IsBootstrapper : C × Ingress → Type 0
  IsBootstrapper b = k.key.IsValue b.0 × IsIngress b.1

  abbrev pub bootstrapper_spelling : C × Ingress → List ℕ
  bootstrapper_spelling b = k.key.spelled b.0 ++ ingress_spelling b.1

  -- one after the other
  abbrev pub bootstrappers_spelling : List (C × Ingress) → List ℕ
  bootstrappers_spelling bs = flat_map bootstrapper_spelling bs

  -- an info of these keys and signatures
  abbrev pub IsInfoOfKeys : Info C S → Type 0
  IsInfoOfKeys i = IsInfo i × IsKeyed k.key.IsValue k.signature.IsValue i

  -- these bytes are some bootstrappers
  abbrev pub SpellBootstrappers : List ℕ → Type 0
  SpellBootstrappers bytes = (bs : List (C × Ingress)) × AllByRecursion IsBootstrapper bs
      × (bootstrappers_spelling bs ≡ bytes)

  -- .. an info
  abbrev pub SpellInfo : List ℕ → Type 0
  SpellInfo bytes = (i : Info C S) × IsInfoOfKeys i
      × (info_spelling k.key.spelled k.signature.spelled i ≡ bytes)

  -- a setup of these numbers and bytes
  pub record IsSetup (n : Numbers) (namespace bootstrappers myself : List ℕ)
      (s : Setup C S) : Type 0 where
    pub private_ips : s.cfg.allow_private_ips ≡ n.allow_private_ips
    pub dns : s.cfg.allow_dns ≡ n.allow_dns
    pub sets : non_zero_usize_get s.cfg.max_sets ≡ n.max_sets
    pub fails : s.cfg.dial_fail_limit ≡ n.dial_fail_limit
    pub cooldown : moment_at n.cooldown.0 n.cooldown.1
        ≡ Ok (as_nanos s.cfg.peer_connection_cooldown)
    pub block : moment_at n.block.0 n.block.1 ≡ Ok (as_nanos s.cfg.block_duration)
    pub bits : s.payload.max_bit_vec ≡ n.max_bit_vec
    pub peers : s.payload.max_peers ≡ n.max_peers
    pub data_length : s.payload.max_data_length ≡ n.max_data_length
    pub count : s.peer_gossip_max_count ≡ n.peer_gossip_max_count
    pub bound : moment_at n.bound.0 n.bound.1 ≡ Ok (as_nanos s.synchrony_bound)
    pub namespace_is : s.namespace.items ≡ namespace
    pub bootstrappers_are : bootstrappers_spelling s.bootstrappers.items ≡ bootstrappers
    pub are_bootstrappers : AllByRecursion IsBootstrapper s.bootstrappers.items
    pub myself_is : info_spelling k.key.spelled k.signature.spelled s.myself ≡ myself
    pub is_info : IsInfoOfKeys s.myself

  -- why numbers and bytes are no setup: the first number that is refused; else want of memory,
  -- where there are bytes to read, or bytes that spell no bootstrappers, or no info
  abbrev pub IsSetupRefusal : Result ℕ Refusal → List ℕ → List ℕ → Refusal → Type 0
  IsSetupRefusal (Err fault) bootstrappers myself why = why ≡ fault
  IsSetupRefusal (Ok bound) bootstrappers myself why =
      ((why ≡ refusal.Memory) × (0 < length bootstrappers + length myself))
      ⊎ ((why ≡ refusal.BadInfo) × (¬ (SpellBootstrappers bootstrappers × SpellInfo myself)))

  -- a setup that was read, or why there is none
  abbrev pub IsSetupRead : Numbers → List ℕ → List ℕ → List ℕ → Result (Setup C S) Refusal → Type 0
  IsSetupRead n namespace bootstrappers myself (Ok s) = IsSetup n namespace bootstrappers myself s
  IsSetupRead n namespace bootstrappers myself (Err why) =
      IsSetupRefusal (numbers_at n) bootstrappers myself why
