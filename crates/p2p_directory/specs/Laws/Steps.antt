-- One more accepted call: who is busy after it, and what it leaves of all that has a moment; and
-- what a full question brings.
use Rattle.std.specs.Prelude.{◌≡◌, ℕ, Bool, false, not, ◌&&◌, ◌||◌, List, filter, filter_map}
use Rattle.p2p_discovery.specs.declared.discovery.Info.{Info}
use Rattle.p2p_tracker.specs.Calls.{Settings, Call}
use Rattle.p2p_tracker.specs.Calls.Call.{Dial, Listen, Release}
use Rattle.p2p_tracker.specs.Answers.{shared_info}
use Rattle.p2p_tracker.specs.History.{same, is_own}
use Rattle.p2p_tracker.specs.Status.{is_inert}
use Rattle.p2p_tracker.specs.World.{World}

-- p is reserved or connected
abbrev pub is_busy_in : {C S : Type 0} → World C S → C → Bool
is_busy_in w p = not (is_inert (w.peer p).status)

-- p is busy after one more call, by whether the call was granted a reservation, and whether p was
-- busy before: whom it grants is busy, whom it releases isn't, and each other peer as before
abbrev pub is_busy_after : {C S : Type 0} → Settings C S → Call C S → Bool → C → Bool → Bool
is_busy_after s (Dial q t draw) granted p busy = (granted && same s q p) || busy
is_busy_after s (Listen q t draw) granted p busy = (granted && same s q p) || busy
is_busy_after s (Release q) granted p busy = not (same s q p) && busy
is_busy_after s c granted p busy = busy

-- the world v has the retained sets of w, the block and the cooldown of each peer, how it stands,
-- and what is held of it
pub record LeavesMoments {C S : Type 0} (w v : World C S) : Type 0 where
  pub sets : v.sets ≡ w.sets
  pub status : (p : C) → (v.peer p).status ≡ (w.peer p).status
  pub unblock : (p : C) → v.unblock p ≡ w.unblock p
  pub cooldown : (p : C) → v.cooldown p ≡ w.cooldown p
  pub held : (p : C) → v.held p ≡ w.held p

-- all infos that may be shared in the world w of these peers, but of the own one of a: those whose
-- timestamp isn't above these milliseconds, in their order
abbrev pub all_infos_for : {C S : Type 0} → Settings C S → Settings C S → World C S → ℕ → List C →
    List (Info C S)
all_infos_for a s w millis ps =
    filter_map (λ q. shared_info s w millis (q, false)) (filter (λ q. not (is_own a q)) ps)
