-- Cooldowns that outlive the record, and are forgotten, computed by the definitions.
use Rattle.std.proofs.Common.{◌≡◌, ℕ, ◌-◌, Bool, true, false, List, [], ◌∷◌, Option, Some, None, refl}
use Rattle.std.specs.Prelude.{length}
use Rattle.std.specs.Duration.{max_nanos}
use Rattle.p2p_discovery.specs.declared.types.ingress.Ingress.TheVariants.{Socket}
use Rattle.p2p_discovery.specs.declared.types.socket.IpAddr.TheVariants.{V4}
use Rattle.p2p_discovery.specs.Ingress.{is_valid}
use Rattle.p2p_tracker.specs.Calls.{Settings, Call, Cooldown, Event}
use Rattle.p2p_tracker.specs.Calls.Call.{Dial, Listen, Connect, Release, Block, UnblockExpired, ForgetCooled}
use Rattle.p2p_tracker.specs.declared.record.Status.TheVariants.{Reserved, Active}
use Rattle.p2p_tracker.specs.History
use Rattle.p2p_tracker.specs.World.{world_at}
use Rattle.p2p_tracker.specs.Answers.{status_in, is_tracked, is_dialable, query_moment, is_cooled_at}
use Rattle.p2p_directory.proofs.Definitions.Setting.{sec, setup, after_calls, track, listen, dial, update}
use Rattle.p2p_directory.proofs.Definitions.Setting.{those, moments, granted, taken, torn}

-- how many keys have a property
abbrev number : (ℕ → Bool) → ℕ
number test = length (those test)

-- how many cooldowns a call to forget at t finds
abbrev forgets : Settings ℕ ℕ → List (Event ℕ ℕ) → ℕ → ℕ
forgets s h t = number (is_cooled_at s (world_at s h) t)

-- the moments that are kept of a key
abbrev kept : Settings ℕ ℕ → List (Event ℕ ℕ) → ℕ → Option Cooldown
kept s h p = (world_at s h).cooldown p

abbrev at : List (Call ℕ ℕ) → List (Event ℕ ℕ)
at cs = after_calls setup [] cs

-- ROW 24: the cooldown outlives the record, and is forgotten at its dial moment

abbrev row24_a : List (Event ℕ ℕ)
row24_a = at (track 0 (1 ∷ []) ∷ [])

abbrev row24_b : List (Event ℕ ℕ)
row24_b = after_calls setup row24_a (Listen 1 (sec 100) (sec 4) ∷ Release 1 ∷ [])

abbrev row24_c : List (Event ℕ ℕ)
row24_c = after_calls setup row24_b (track 1 (2 ∷ []) ∷ [])

abbrev row24_d : List (Event ℕ ℕ)
row24_d = after_calls setup row24_c (ForgetCooled 113_999_999_999 ∷ [])

abbrev row24_e : List (Event ℕ ℕ)
row24_e = after_calls setup row24_d (track 2 (1 ∷ []) ∷ update 1 1000 ∷ [])

abbrev row24_f : List (Event ℕ ℕ)
row24_f = after_calls setup row24_e (Listen 1 109_999_999_999 0 ∷ [])

abbrev row24_g : List (Event ℕ ℕ)
row24_g = after_calls setup row24_f (ForgetCooled (sec 114) ∷ [])

abbrev row24_h : List (Event ℕ ℕ)
row24_h = after_calls setup row24_g (ForgetCooled (sec 114) ∷ [])

row24 :
    (torn setup [] (track 0 (1 ∷ [])) ≡ [])
    × (granted setup row24_a (Listen 1 (sec 100) (sec 4)) ≡ true)
    × (torn setup row24_b (track 1 (2 ∷ [])) ≡ [])
    × (those (is_tracked setup (world_at setup row24_c)) ≡ 2 ∷ [])
    × (forgets setup row24_c 113_999_999_999 ≡ 0)
    × (taken setup row24_d (track 2 (1 ∷ [])) ≡ true)
    × (torn setup row24_d (track 2 (1 ∷ [])) ≡ [])
    × (those (is_dialable setup (world_at setup row24_e) (sec 112)) ≡ [])
    × (moments (query_moment setup (world_at setup row24_e) (sec 112)) ≡ sec 114 ∷ [])
    × (granted setup row24_e (Listen 1 109_999_999_999 0) ≡ false)
    × (forgets setup row24_f (sec 114) ≡ 1)
    × (forgets setup row24_g (sec 114) ≡ 0)
    × (granted setup row24_h (listen 1 105) ≡ true)
unfolding History.life is_valid
row24 = (refl, refl, refl, refl, refl, refl, refl, refl, refl, refl, refl, refl, refl)

-- F1 a grant that is forgotten, and the peer granted again at an earlier moment: the later grant is kept, though its moments are the lesser

abbrev f1 : List (Event ℕ ℕ)
f1 = at (track 0 (1 ∷ []) ∷ listen 1 100 ∷ Release 1 ∷ ForgetCooled (sec 110) ∷ [])

abbrev f1_b : List (Event ℕ ℕ)
f1_b = after_calls setup f1 (listen 1 50 ∷ Release 1 ∷ [])

forgotten_and_earlier :
    (kept setup f1 1 ≡ None)
    × (granted setup f1 (listen 1 50) ≡ true)
    × (kept setup f1_b 1 ≡ Some (record { reservable_at = sec 60; dial_at = sec 60 }))
    × (granted setup f1_b (Listen 1 59_999_999_999 0) ≡ false)
    × (granted setup f1_b (listen 1 60) ≡ true)
    × (forgets setup f1_b (sec 60) ≡ 1)
unfolding History.life
forgotten_and_earlier = (refl, refl, refl, refl, refl, refl)

-- F2 a forgetting between two grants that comes before the dial moment of the first, though at its reservable moment: nothing is forgotten

abbrev f2 : List (Event ℕ ℕ)
f2 = at (track 0 (1 ∷ []) ∷ Listen 1 (sec 100) (sec 4) ∷ Release 1 ∷ ForgetCooled (sec 110) ∷ [])

forgets_by_dial_moment :
    (forgets setup (at (track 0 (1 ∷ []) ∷ Listen 1 (sec 100) (sec 4) ∷ [])) (sec 110) ≡ 0)
    × (kept setup f2 1 ≡ Some (record { reservable_at = sec 110; dial_at = sec 114 }))
    × (granted setup f2 (listen 1 105) ≡ false)
    × (granted setup f2 (listen 1 110) ≡ true)
unfolding History.life
forgets_by_dial_moment = (refl, refl, refl, refl)

-- F3 the last moment: sums are capped, so such a grant is cooled at once, and is forgotten at the last moment alone

abbrev f3 : List (Event ℕ ℕ)
f3 = at (track 0 (1 ∷ []) ∷ Listen 1 max_nanos (sec 4) ∷ Release 1 ∷ [])

at_the_last_moment :
    (kept setup f3 1 ≡ Some (record { reservable_at = max_nanos; dial_at = max_nanos }))
    × (granted setup f3 (Listen 1 max_nanos 0) ≡ true)
    × (granted setup f3 (Listen 1 (max_nanos - 1) 0) ≡ false)
    × (forgets setup f3 (max_nanos - 1) ≡ 0)
    × (forgets setup f3 max_nanos ≡ 1)
    × (kept setup (after_calls setup f3 (ForgetCooled max_nanos ∷ [])) 1 ≡ None)
unfolding History.life
at_the_last_moment = (refl, refl, refl, refl, refl, refl)

-- F4 a bootstrapper, which is present throughout: it is forgotten within its life, and then begins at the epoch again

abbrev setup4 : Settings ℕ ℕ
setup4 = record setup { bootstrappers = (3, Socket (record { ip = V4 (1 ∷ 2 ∷ 3 ∷ 4 ∷ []); port = 1 })) ∷ [] }

abbrev f4 : List (Event ℕ ℕ)
f4 = after_calls setup4 [] (Dial 3 (sec 100) (sec 4) ∷ Release 3 ∷ [])

abbrev f4_b : List (Event ℕ ℕ)
f4_b = after_calls setup4 f4 (ForgetCooled (sec 114) ∷ [])

bootstrapper_forgotten :
    (those (is_dialable setup4 (world_at setup4 f4) (sec 113)) ≡ [])
    × (moments (query_moment setup4 (world_at setup4 f4) (sec 113)) ≡ sec 114 ∷ [])
    × (forgets setup4 f4 (sec 114) ≡ 1)
    × (those (is_dialable setup4 (world_at setup4 f4_b) 0) ≡ 3 ∷ [])
    × (granted setup4 f4_b (dial 3 0) ≡ true)
unfolding History.life is_valid
bootstrapper_forgotten = (refl, refl, refl, refl, refl)

-- F5 granted, released, gone, back, and dialled: at the reservable moment, and listed at the dial moment

abbrev f5 : List (Event ℕ ℕ)
f5 = at (track 0 (1 ∷ []) ∷ update 1 1000 ∷ Dial 1 (sec 100) (sec 4) ∷ track 1 (2 ∷ []) ∷ Release 1 ∷ [])

abbrev f5_b : List (Event ℕ ℕ)
f5_b = after_calls setup f5 (track 2 (1 ∷ []) ∷ update 1 2000 ∷ [])

gone_and_back :
    (status_in setup (world_at setup f5) 1 ≡ None)
    × (kept setup f5 1 ≡ Some (record { reservable_at = sec 110; dial_at = sec 114 }))
    × (((world_at setup f5_b).peer 1).known.fails ≡ 0)
    × (granted setup f5_b (Dial 1 109_999_999_999 0) ≡ false)
    × (granted setup f5_b (dial 1 110) ≡ true)
    × (those (is_dialable setup (world_at setup f5_b) 113_999_999_999) ≡ [])
    × (those (is_dialable setup (world_at setup f5_b) (sec 114)) ≡ 1 ∷ [])
unfolding History.life is_valid
gone_and_back = (refl, refl, refl, refl, refl, refl, refl)

-- F6 what is forgotten while it is held: the status, the reservation and the release stay

abbrev f6 : List (Event ℕ ℕ)
f6 = at (track 0 (1 ∷ []) ∷ listen 1 100 ∷ ForgetCooled (sec 110) ∷ [])

forgotten_while_held :
    (status_in setup (world_at setup f6) 1 ≡ Some Reserved)
    × (granted setup f6 (listen 1 200) ≡ false)
    × (status_in setup (world_at setup (after_calls setup f6 (Connect 1 false ∷ []))) 1 ≡ Some Active)
    × (granted setup (after_calls setup f6 (Release 1 ∷ [])) (listen 1 0) ≡ true)
unfolding History.life
forgotten_while_held = (refl, refl, refl, refl)

-- F7 each key by itself: one call forgets all that have cooled, absent ones too, and counts no other

abbrev f7 : List (Event ℕ ℕ)
f7 = at (track 0 (1 ∷ 2 ∷ 3 ∷ []) ∷ listen 1 100 ∷ Listen 2 (sec 100) (sec 4) ∷ listen 3 95 ∷ Release 1 ∷ Release 2 ∷ Release 3 ∷ track 1 [] ∷ [])

abbrev f7_b : List (Event ℕ ℕ)
f7_b = after_calls setup f7 (ForgetCooled (sec 110) ∷ [])

forgets_all_cooled :
    (those (is_tracked setup (world_at setup f7)) ≡ [])
    × (forgets setup f7 (sec 104) ≡ 0)
    × (forgets setup f7 (sec 105) ≡ 1)
    × (forgets setup f7 (sec 110) ≡ 2)
    × (forgets setup f7 (sec 114) ≡ 3)
    × (kept setup f7_b 1 ≡ None)
    × (kept setup f7_b 2 ≡ Some (record { reservable_at = sec 110; dial_at = sec 114 }))
    × (kept setup f7_b 3 ≡ None)
    × (forgets setup f7_b (sec 114) ≡ 1)
unfolding History.life
forgets_all_cooled = (refl, refl, refl, refl, refl, refl, refl, refl, refl)

-- F8 without a cooldown a grant is kept all the same, until it is forgotten

abbrev setup8 : Settings ℕ ℕ
setup8 = record setup { cooldown = 0 }

abbrev f8 : List (Event ℕ ℕ)
f8 = after_calls setup8 [] (track 0 (1 ∷ []) ∷ Listen 1 (sec 100) (sec 4) ∷ Release 1 ∷ [])

no_cooldown :
    (kept setup8 f8 1 ≡ Some (record { reservable_at = sec 100; dial_at = sec 100 }))
    × (granted setup8 f8 (listen 1 100) ≡ true)
    × (granted setup8 f8 (Listen 1 99_999_999_999 0) ≡ false)
    × (forgets setup8 f8 (sec 100) ≡ 1)
unfolding History.life
no_cooldown = (refl, refl, refl, refl)

-- F9 a grant at the epoch with no cooldown: moments at the epoch are kept, and counted, though they hold nobody back

abbrev f9 : List (Event ℕ ℕ)
f9 = after_calls setup8 [] (track 0 (1 ∷ []) ∷ Listen 1 0 0 ∷ Release 1 ∷ [])

kept_at_the_epoch :
    (kept setup8 f9 1 ≡ Some (record { reservable_at = 0; dial_at = 0 }))
    × (forgets setup8 f9 0 ≡ 1)
    × (forgets setup8 (after_calls setup8 f9 (ForgetCooled 0 ∷ [])) max_nanos ≡ 0)
unfolding History.life
kept_at_the_epoch = (refl, refl, refl)

-- F10 blocks and cooldowns are forgotten apart

abbrev f10 : List (Event ℕ ℕ)
f10 = at (track 0 (1 ∷ []) ∷ listen 1 100 ∷ Release 1 ∷ Block 1 (sec 100) ∷ [])

blocks_apart :
    ((world_at setup (after_calls setup f10 (ForgetCooled max_nanos ∷ []))).unblock 1 ≡ Some (sec 160))
    × (kept setup (after_calls setup f10 (ForgetCooled max_nanos ∷ [])) 1 ≡ None)
    × (kept setup (after_calls setup f10 (UnblockExpired max_nanos ∷ [])) 1 ≡ Some (record { reservable_at = sec 110; dial_at = sec 110 }))
    × ((world_at setup (after_calls setup f10 (UnblockExpired max_nanos ∷ []))).unblock 1 ≡ None)
    × (granted setup (after_calls setup f10 (ForgetCooled max_nanos ∷ [])) (listen 1 159) ≡ false)
unfolding History.life
blocks_apart = (refl, refl, refl, refl, refl)

-- F11 a refused listen, of a peer that waits, is absent or is the own, leaves what is kept

abbrev f11 : List (Event ℕ ℕ)
f11 = at (track 0 (1 ∷ []) ∷ listen 1 100 ∷ Release 1 ∷ listen 1 105 ∷ listen 2 105 ∷ listen 9 105 ∷ [])

refused_keeps :
    (kept setup f11 1 ≡ Some (record { reservable_at = sec 110; dial_at = sec 110 }))
    × (kept setup f11 2 ≡ None)
    × (kept setup f11 9 ≡ None)
    × (forgets setup f11 max_nanos ≡ 1)
unfolding History.life
refused_keeps = (refl, refl, refl, refl)

-- F12 forgotten twice over two lives: the second life's grant is forgotten by itself

abbrev f12 : List (Event ℕ ℕ)
f12 = at (track 0 (1 ∷ []) ∷ listen 1 100 ∷ Release 1 ∷ track 1 [] ∷ track 2 (1 ∷ []) ∷ listen 1 110 ∷ ForgetCooled (sec 119) ∷ [])

over_two_lives :
    (kept setup f12 1 ≡ Some (record { reservable_at = sec 120; dial_at = sec 120 }))
    × (forgets setup f12 (sec 119) ≡ 0)
    × (forgets setup f12 (sec 120) ≡ 1)
unfolding History.life
over_two_lives = (refl, refl, refl)
