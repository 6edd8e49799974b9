-- The setting of the worked examples.
use Rattle.std.proofs.Common.{◌≡◌, ℕ, ◌+◌, ◌*◌, ◌^◌, Bool, true, List, [], ◌∷◌, Option, refl}
use Rattle.std.specs.Prelude.{filter, filter_map}
use Rattle.std.specs.Ordering.{nat_cmp}
use Rattle.p2p_discovery.specs.declared.discovery.Info.{Info}
use Rattle.p2p_discovery.specs.declared.types.ingress.Ingress.TheVariants.{Socket}
use Rattle.p2p_discovery.specs.declared.types.socket.IpAddr.TheVariants.{V4}
use Rattle.p2p_tracker.specs.Calls.{Settings, Call, Event}
use Rattle.p2p_tracker.specs.Calls.Call.{Track, Dial, Listen, Update}
use Rattle.p2p_tracker.specs.History
use Rattle.p2p_tracker.specs.World.{past_after, past, world_at, event_in}
use Rattle.p2p_tracker.specs.Answers.{was_granted, was_taken, was_blocked, is_torn_down}

-- so many seconds
abbrev pub sec : ℕ → ℕ
sec n = n * 10 ^ 9

-- the info of p with a timestamp, at 1.2.3.4 and a port
abbrev pub info_at : ℕ → ℕ → ℕ → Info ℕ ℕ
info_at p timestamp port = record {
  ingress = Socket (record { ip = V4 (1 ∷ 2 ∷ 3 ∷ 4 ∷ []); port = port });
  timestamp = timestamp;
  public_key = p;
  signature = 0;
}

-- .. at port 8000 + p
abbrev pub info : ℕ → ℕ → Info ℕ ℕ
info p timestamp = info_at p timestamp (8000 + p)

abbrev pub own : Info ℕ ℕ
own = record {
  ingress = Socket (record { ip = V4 (8 ∷ 8 ∷ 8 ∷ 8 ∷ []); port = 9000 });
  timestamp = 0;
  public_key = 9;
  signature = 0;
}

abbrev pub setup : Settings ℕ ℕ
setup = record {
  cmp = nat_cmp;
  own = own;
  bootstrappers = [];
  allow_private_ips = true;
  allow_dns = true;
  max_sets = 1;
  dial_fail_limit = 1;
  cooldown = sec 10;
  block_duration = sec 60;
}

-- the past after these calls, the first of them first
abbrev pub after_calls : Settings ℕ ℕ → List (Event ℕ ℕ) → List (Call ℕ ℕ) → List (Event ℕ ℕ)
after_calls s h [] = h
after_calls s h (c ∷ cs) = after_calls s (past_after s h c) cs

-- the newest first
abbrev pub newest_first : List (Call ℕ ℕ) → List (Call ℕ ℕ) → List (Call ℕ ℕ)
newest_first [] ds = ds
newest_first (c ∷ cs) ds = newest_first cs (c ∷ ds)

-- .. it is the past that the calls make
pub is_past : (s : Settings ℕ ℕ) (cs ds : List (Call ℕ ℕ)) → after_calls s (past s ds) cs ≡ past s (newest_first cs ds)
is_past s [] ds = refl
is_past s (c ∷ cs) ds = is_past s cs (c ∷ ds)

-- the calls' usual forms, with moments in seconds and draw 0
abbrev pub track : ℕ → List ℕ → Call ℕ ℕ
track index primary = Track index primary []

abbrev pub listen : ℕ → ℕ → Call ℕ ℕ
listen p t = Listen p (sec t) 0

abbrev pub dial : ℕ → ℕ → Call ℕ ℕ
dial p t = Dial p (sec t) 0

abbrev pub update : ℕ → ℕ → Call ℕ ℕ
update p timestamp = Update (info p timestamp ∷ [])

-- WHAT THE EXAMPLES ASK after a past

-- which of the keys have a property
abbrev keys : List ℕ
keys = 1 ∷ 2 ∷ 3 ∷ 4 ∷ 7 ∷ 9 ∷ []

abbrev pub those : (ℕ → Bool) → List ℕ
those test = filter test keys

-- the moments that the keys have
abbrev pub moments : (ℕ → Option ℕ) → List ℕ
moments moment = filter_map moment keys

-- what a call does
abbrev pub did : Settings ℕ ℕ → List (Event ℕ ℕ) → Call ℕ ℕ → Event ℕ ℕ
did s h c = event_in s (History.taken_sets s h) (world_at s h) c

-- whether a dial or listen is granted, a track or block taken
abbrev pub granted : Settings ℕ ℕ → List (Event ℕ ℕ) → Call ℕ ℕ → Bool
granted s h c = was_granted (did s h c)

abbrev pub taken : Settings ℕ ℕ → List (Event ℕ ℕ) → Call ℕ ℕ → Bool
taken s h c = was_taken (did s h c)

abbrev pub blocks : Settings ℕ ℕ → List (Event ℕ ℕ) → Call ℕ ℕ → Bool
blocks s h c = was_blocked (did s h c)

-- whom a track tears down
abbrev pub torn : Settings ℕ ℕ → List (Event ℕ ℕ) → Call ℕ ℕ → List ℕ
torn s h c = those (is_torn_down s (world_at s h) (world_at s (past_after s h c)))
