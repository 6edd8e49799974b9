-- Corners, computed by the definitions.
use Rattle.std.proofs.Common.{◌≡◌, ℕ, ◌-◌, true, false, List, [], ◌∷◌, Option, Some, None, refl}
use Rattle.std.specs.Duration.{max_nanos}
use Rattle.p2p_discovery.specs.declared.discovery.Info.{Info}
use Rattle.p2p_discovery.specs.declared.types.ingress.Ingress.TheVariants.{Socket}
use Rattle.p2p_discovery.specs.declared.types.socket.IpAddr.TheVariants.{V4}
use Rattle.p2p_discovery.specs.Ingress.{is_valid}
use Rattle.p2p_discovery.specs.Global.{is_global}
use Rattle.p2p_tracker.specs.Calls.{Settings, Call, Event}
use Rattle.p2p_tracker.specs.Calls.Call.{Track, Listen, Connect, Release, Update, Block, UnblockExpired}
use Rattle.p2p_tracker.specs.declared.record.Status.TheVariants.{Inert, Reserved, Active}
use Rattle.p2p_tracker.specs.Calls.Direction.{Dialer}
use Rattle.p2p_discovery.specs.declared.types.ingress.Ingress.{Ingress}
use Rattle.p2p_tracker.specs.History
use Rattle.p2p_tracker.specs.World.{world_at}
use Rattle.p2p_tracker.specs.Cooldowns.{reservable_from, dialable_from}
use Rattle.p2p_tracker.specs.Answers.{status_in, may_connect, may_release}
use Rattle.p2p_tracker.specs.Answers.{is_tracked, set_with_index, is_primary_in, is_secondary_in, bits_at}
use Rattle.p2p_tracker.specs.Answers.{is_dialable, query_moment, sharable_info, infos_for, is_eligible_at}
use Rattle.p2p_tracker.specs.Answers.{is_acceptable_at, granted_direction, is_blocked_at}
use Rattle.p2p_directory.proofs.Definitions.Setting.{sec, info_at, info, own, setup, after_calls, track, listen, dial, update}
use Rattle.p2p_directory.proofs.Definitions.Setting.{those, moments, did, granted, taken, blocks, torn}

abbrev at : List (Call ℕ ℕ) → List (Event ℕ ℕ)
at cs = after_calls setup [] cs

abbrev known_fails : Settings ℕ ℕ → List (Event ℕ ℕ) → ℕ → ℕ
known_fails s h p = ((world_at s h).peer p).known.fails

abbrev known_info : Settings ℕ ℕ → List (Event ℕ ℕ) → ℕ → Option (Info ℕ ℕ)
known_info s h p = ((world_at s h).peer p).known.info

abbrev dial_moment : Settings ℕ ℕ → List (Event ℕ ℕ) → ℕ → ℕ
dial_moment s h p = dialable_from ((world_at s h).cooldown p)

abbrev reservable : Settings ℕ ℕ → List (Event ℕ ℕ) → ℕ → ℕ
reservable s h p = reservable_from ((world_at s h).cooldown p)

-- C1 the own key in a set
abbrev c1 : List (Event ℕ ℕ)
c1 = at (track 0 (1 ∷ 9 ∷ []) ∷ Update (info 9 5000 ∷ []) ∷ [])

corner1 :
    (status_in setup (world_at setup c1) 9 ≡ Some Inert)
    × (granted setup c1 (listen 9 100) ≡ false)
    × (granted setup c1 (dial 9 100) ≡ false)
    × (is_eligible_at setup (world_at setup c1) 9 (sec 100) ≡ false)
    × (is_acceptable_at setup (world_at setup c1) 1 (sec 100) ≡ true)
    × (those (is_tracked setup (world_at setup c1)) ≡ 1 ∷ [])
    × (bits_at setup (world_at setup c1) 0 ≡ Some (0, false ∷ true ∷ []))
    × (those (is_primary_in setup (world_at setup c1)) ≡ 1 ∷ 9 ∷ [])
    × (blocks setup c1 (Block 9 (sec 100)) ≡ false)
    × (sharable_info setup (world_at setup c1) 9 ≡ Some own)
    × (sharable_info setup (world_at setup c1) 1 ≡ None)
    × (torn setup c1 (track 1 (2 ∷ [])) ≡ [])
unfolding History.life is_valid
corner1 = (refl, refl, refl, refl, refl, refl, refl, refl, refl, refl, refl, refl)

-- C2 bootstrappers: a later duplicate, and the own key
abbrev boot : ℕ → Ingress
boot port = Socket (record { ip = V4 (1 ∷ 2 ∷ 3 ∷ 4 ∷ []); port = port })

abbrev setup2 : Settings ℕ ℕ
setup2 = record setup { bootstrappers = (3, boot 1) ∷ (4, boot 2) ∷ (3, boot 3) ∷ (9, boot 4) ∷ [] }

abbrev c2_a : List (Event ℕ ℕ)
c2_a = after_calls setup2 [] (dial 3 100 ∷ Release 3 ∷ [])

abbrev c2_b : List (Event ℕ ℕ)
c2_b = after_calls setup2 [] (update 3 1000 ∷ listen 3 100 ∷ track 0 (3 ∷ []) ∷ [])

abbrev c2_c : List (Event ℕ ℕ)
c2_c = after_calls setup2 c2_b (track 1 (1 ∷ []) ∷ Release 3 ∷ [])

corner2 :
    (those (is_tracked setup2 (world_at setup2 [])) ≡ 3 ∷ 4 ∷ [])
    × (granted_direction (did setup2 [] (dial 3 100)) ≡ Some (Dialer (boot 3)))
    × (granted setup2 [] (dial 9 100) ≡ false)
    × (granted setup2 [] (listen 9 100) ≡ false)
    × (granted setup2 [] (dial 1 100) ≡ false)
    × (status_in setup2 (world_at setup2 []) 9 ≡ Some Inert)
    × (status_in setup2 (world_at setup2 c2_a) 3 ≡ Some Inert)
    × (known_fails setup2 c2_a 3 ≡ 0)
    × (granted setup2 c2_a (Listen 3 109_999_999_999 0) ≡ false)
    × (granted setup2 c2_a (listen 3 110) ≡ true)
    × (torn setup2 c2_b (track 1 (1 ∷ [])) ≡ [])
    × (known_info setup2 c2_c 3 ≡ Some (info 3 1000))
    × (granted setup2 c2_c (listen 3 105) ≡ false)
    × (those (is_dialable setup2 (world_at setup2 []) 0) ≡ 3 ∷ 4 ∷ [])
    × (sharable_info setup2 (world_at setup2 []) 9 ≡ Some own)
unfolding History.life is_valid
corner2 = (refl, refl, refl, refl, refl, refl, refl, refl, refl, refl, refl, refl, refl, refl, refl)

-- C3 roles over two sets
abbrev setup3 : Settings ℕ ℕ
setup3 = record setup { max_sets = 2 }

abbrev c3_a : List (Event ℕ ℕ)
c3_a = after_calls setup3 [] (Track 0 (1 ∷ []) (1 ∷ 2 ∷ []) ∷ update 2 1000 ∷ Track 1 (2 ∷ []) (1 ∷ []) ∷ [])

abbrev c3_b : List (Event ℕ ℕ)
c3_b = after_calls setup3 c3_a (Track 2 [] [] ∷ [])

corner3 :
    (those (is_primary_in setup3 (world_at setup3 c3_a)) ≡ 1 ∷ 2 ∷ [])
    × (those (is_secondary_in setup3 (world_at setup3 c3_a)) ≡ [])
    × (those (is_primary_in setup3 (world_at setup3 c3_b)) ≡ 2 ∷ [])
    × (those (is_secondary_in setup3 (world_at setup3 c3_b)) ≡ 1 ∷ [])
    × (granted setup3 c3_b (dial 2 100) ≡ true)
    × (bits_at setup3 (world_at setup3 c3_b) 0 ≡ Some (1, true ∷ []))
    × (bits_at setup3 (world_at setup3 c3_b) 1 ≡ Some (2, []))
    × (bits_at setup3 (world_at setup3 c3_b) 2 ≡ None)
    × (set_with_index setup3 (world_at setup3 c3_b) 0 ≡ None)
    × (taken setup3 c3_b (track 2 []) ≡ false)
    × (taken setup3 c3_b (track 0 []) ≡ false)
    × (taken setup3 c3_b (track 3 []) ≡ true)
unfolding History.life is_valid
corner3 = (refl, refl, refl, refl, refl, refl, refl, refl, refl, refl, refl, refl)

-- C4 the ends of a life
abbrev c4_a : List (Event ℕ ℕ)
c4_a = at (update 1 1000 ∷ track 0 (1 ∷ []) ∷ [])

abbrev c4_b : List (Event ℕ ℕ)
c4_b = after_calls setup c4_a (update 1 500 ∷ [])

abbrev c4_c : List (Event ℕ ℕ)
c4_c = after_calls setup c4_b (track 1 (2 ∷ []) ∷ track 2 (1 ∷ []) ∷ [])

abbrev c4_d : List (Event ℕ ℕ)
c4_d = after_calls setup c4_b (listen 1 100 ∷ track 1 (2 ∷ []) ∷ update 1 2000 ∷ [])

abbrev c4_e : List (Event ℕ ℕ)
c4_e = after_calls setup c4_d (Release 1 ∷ track 2 (1 ∷ []) ∷ [])

abbrev c4_f : List (Event ℕ ℕ)
c4_f = after_calls setup c4_d (track 2 (1 ∷ []) ∷ Release 1 ∷ [])

corner4 :
    (known_info setup c4_a 1 ≡ None)
    × (known_info setup c4_b 1 ≡ Some (info 1 500))
    × (known_info setup c4_c 1 ≡ None)
    × (known_info setup c4_d 1 ≡ Some (info 1 2000))
    × (status_in setup (world_at setup c4_d) 1 ≡ Some Reserved)
    × (is_eligible_at setup (world_at setup c4_d) 1 (sec 100) ≡ false)
    × (known_info setup c4_e 1 ≡ None)
    × (granted setup c4_e (listen 1 105) ≡ false)
    × (granted setup c4_e (listen 1 110) ≡ true)
    × (known_info setup c4_f 1 ≡ Some (info 1 2000))
    × (granted setup c4_f (listen 1 105) ≡ false)
    × (granted setup c4_f (listen 1 110) ≡ true)
unfolding History.life is_valid
corner4 = (refl, refl, refl, refl, refl, refl, refl, refl, refl, refl, refl, refl)

-- C5 failures
abbrev c5_0 : List (Event ℕ ℕ)
c5_0 = at (track 0 (1 ∷ []) ∷ Update (info_at 1 1000 8001 ∷ []) ∷ dial 1 100 ∷ [])

abbrev c5_1 : List (Event ℕ ℕ)
c5_1 = after_calls setup c5_0 (Release 1 ∷ [])

corner5 :
    (known_fails setup (after_calls setup c5_0 (Update (info_at 1 1001 8002 ∷ []) ∷ Release 1 ∷ [])) 1 ≡ 0)
    × (known_fails setup (after_calls setup c5_0 (Update (info_at 1 1001 8001 ∷ []) ∷ Release 1 ∷ [])) 1 ≡ 1)
    × (known_fails setup c5_1 1 ≡ 1)
    × (known_fails setup (after_calls setup c5_1 (Update (info_at 1 1000 8002 ∷ []) ∷ [])) 1 ≡ 1)
    × (known_fails setup (after_calls setup c5_1 (dial 1 110 ∷ Connect 1 true ∷ [])) 1 ≡ 0)
    × (known_fails setup (after_calls setup c5_1 (dial 1 110 ∷ Connect 1 true ∷ Release 1 ∷ [])) 1 ≡ 1)
    × (known_fails setup (after_calls setup c5_1 (dial 1 110 ∷ Release 1 ∷ [])) 1 ≡ 2)
    × (known_fails setup (after_calls setup c5_1 (listen 1 110 ∷ Connect 1 false ∷ [])) 1 ≡ 1)
    × (known_fails setup (after_calls setup c5_1 (listen 1 110 ∷ Connect 1 false ∷ Release 1 ∷ [])) 1 ≡ 1)
    × (known_fails setup (after_calls setup c5_1 (listen 1 110 ∷ Connect 1 true ∷ Release 1 ∷ [])) 1 ≡ 0)
    × (bits_at setup (world_at setup (after_calls setup c5_1 (listen 1 110 ∷ Connect 1 false ∷ []))) 0 ≡ Some (0, true ∷ []))
    × (bits_at setup (world_at setup (after_calls setup c5_1 (listen 1 110 ∷ []))) 0 ≡ Some (0, false ∷ []))
unfolding History.life is_valid
corner5 = (refl, refl, refl, refl, refl, refl, refl, refl, refl, refl, refl, refl)

-- C6 moments
abbrev setup6 : ℕ → Settings ℕ ℕ
setup6 cooldown = record setup { cooldown = cooldown }

abbrev c6 : ℕ → ℕ → ℕ → List (Event ℕ ℕ)
c6 cooldown t draw = after_calls (setup6 cooldown) [] (track 0 (1 ∷ []) ∷ Listen 1 t draw ∷ [])

corner6 :
    (dial_moment (setup6 5) (c6 5 100 3) 1 ≡ 108)
    × (dial_moment (setup6 5) (c6 5 100 4) 1 ≡ 109)
    × (dial_moment (setup6 5) (c6 5 100 5) 1 ≡ 109)
    × (dial_moment (setup6 1) (c6 1 100 5) 1 ≡ 101)
    × (dial_moment (setup6 0) (c6 0 100 5) 1 ≡ 100)
    × (reservable (setup6 5) (c6 5 (max_nanos - 6) 9) 1 ≡ max_nanos - 1)
    × (dial_moment (setup6 5) (c6 5 (max_nanos - 6) 9) 1 ≡ max_nanos)
    × (reservable (setup6 5) (c6 5 max_nanos 0) 1 ≡ max_nanos)
    × (max_nanos ≡ 18_446_744_073_709_551_615_999_999_999)
unfolding History.life is_valid
corner6 = (refl, refl, refl, refl, refl, refl, refl, refl, refl)

-- C7 blocks
abbrev c7 : List (Event ℕ ℕ)
c7 = at (track 0 (1 ∷ []) ∷ Block 1 (sec 100) ∷ Block 7 (sec 100) ∷ [])

corner7 :
    (blocks setup c7 (Block 1 159_999_999_999) ≡ false)
    × (blocks setup c7 (Block 1 (sec 160)) ≡ true)
    × (blocks setup c7 (Block 7 (sec 50)) ≡ false)
    × ((world_at setup (after_calls setup c7 (Block 1 (sec 160) ∷ UnblockExpired (sec 200) ∷ []))).unblock 1 ≡ Some (sec 220))
    × ((world_at setup (after_calls setup c7 (Block 1 (sec 160) ∷ UnblockExpired (sec 200) ∷ []))).unblock 7 ≡ None)
    × ((world_at setup (after_calls setup c7 (UnblockExpired 159_999_999_999 ∷ []))).unblock 1 ≡ Some (sec 160))
    × ((world_at setup (after_calls setup c7 (UnblockExpired (sec 160) ∷ Block 1 (sec 50) ∷ []))).unblock 1 ≡ Some (sec 110))
    × ((world_at setup (after_calls setup c7 (Block 2 max_nanos ∷ []))).unblock 2 ≡ Some max_nanos)
    × (is_blocked_at setup (world_at setup (after_calls setup c7 (Block 2 max_nanos ∷ []))) max_nanos 2 ≡ false)
    × (query_moment setup (world_at setup c7) (sec 100) 7 ≡ None)
    × (query_moment setup (world_at setup c7) (sec 100) 1 ≡ Some (sec 160))
    × (granted setup c7 (Listen 1 159_999_999_999 0) ≡ false)
    × (granted setup c7 (listen 1 160) ≡ true)
    × (those (is_blocked_at setup (world_at setup c7) (sec 100)) ≡ 1 ∷ 7 ∷ [])
unfolding History.life is_valid
corner7 = (refl, refl, refl, refl, refl, refl, refl, refl, refl, refl, refl, refl, refl, refl)

-- C8 statuses
abbrev c8_a : List (Event ℕ ℕ)
c8_a = at (track 0 (1 ∷ []) ∷ listen 1 100 ∷ Connect 1 false ∷ [])

abbrev c8_b : List (Event ℕ ℕ)
c8_b = after_calls setup c8_a (Release 1 ∷ Connect 1 true ∷ Release 1 ∷ [])

corner8 :
    (status_in setup (world_at setup c8_a) 1 ≡ Some Active)
    × (granted setup c8_a (listen 1 200) ≡ false)
    × (is_acceptable_at setup (world_at setup c8_a) 1 (sec 200) ≡ false)
    × (is_eligible_at setup (world_at setup c8_a) 1 (sec 200) ≡ true)
    × (torn setup c8_a (track 1 (2 ∷ [])) ≡ 1 ∷ [])
    × (status_in setup (world_at setup c8_b) 1 ≡ Some Inert)
    × (may_connect setup (world_at setup c8_b) 1 ≡ false)
    × (may_release setup (world_at setup c8_b) 1 ≡ false)
    × (granted setup c8_b (listen 1 110) ≡ true)
    × (torn setup c8_b (track 1 (2 ∷ [])) ≡ [])
unfolding History.life is_valid
corner8 = (refl, refl, refl, refl, refl, refl, refl, refl, refl, refl)

-- C9 a new set is counted before the oldest leaves; a peer that only changes its role stays
corner9 :
    (torn setup c8_a (Track 1 [] (1 ∷ [])) ≡ [])
    × (torn setup c8_a (track 1 (1 ∷ 2 ∷ [])) ≡ [])
    × (torn setup3 (after_calls setup3 [] (track 0 (1 ∷ []) ∷ listen 1 100 ∷ [])) (track 1 []) ≡ [])
    × (torn setup3 (after_calls setup3 [] (track 0 (1 ∷ []) ∷ listen 1 100 ∷ track 1 [] ∷ [])) (track 2 []) ≡ 1 ∷ [])
    × (torn setup3 (after_calls setup3 [] (track 0 (1 ∷ []) ∷ listen 1 100 ∷ Track 1 [] (1 ∷ []) ∷ [])) (track 2 []) ≡ [])
    × (torn setup3 (after_calls setup3 [] (track 0 (1 ∷ []) ∷ listen 1 100 ∷ Track 1 [] (1 ∷ []) ∷ track 2 [] ∷ [])) (track 3 []) ≡ 1 ∷ [])
    × (torn setup3 (after_calls setup3 [] (track 0 (1 ∷ []) ∷ listen 1 100 ∷ track 1 [] ∷ track 2 [] ∷ [])) (track 3 []) ≡ [])
unfolding History.life is_valid
corner9 = (refl, refl, refl, refl, refl, refl, refl)

-- C10 an own info of the future isn't shared yet; addresses that are not valid
abbrev setup10 : Settings ℕ ℕ
setup10 = record setup { own = record own { timestamp = 100_001 }; allow_private_ips = false; allow_dns = false }

abbrev local : Info ℕ ℕ
local = record { ingress = Socket (record { ip = V4 (10 ∷ 0 ∷ 0 ∷ 1 ∷ []); port = 1 }); timestamp = 5; public_key = 1; signature = 0 }

abbrev c10 : List (Event ℕ ℕ)
c10 = after_calls setup10 [] (track 0 (1 ∷ 2 ∷ 9 ∷ []) ∷ Update (local ∷ info 2 5 ∷ []) ∷ [])

corner10 :
    (infos_for setup10 (world_at setup10 c10) 0 (false ∷ false ∷ false ∷ []) 100_000_999_999 ≡ Some [])
    × (infos_for setup10 (world_at setup10 c10) 0 (false ∷ false ∷ false ∷ []) 100_001_000_000 ≡ Some (record own { timestamp = 100_001 } ∷ []))
    × (granted setup10 c10 (dial 1 100) ≡ false)
    × (granted setup10 c10 (listen 1 100) ≡ true)
    × (granted setup10 c10 (dial 2 100) ≡ true)
    × (those (is_dialable setup10 (world_at setup10 c10) (sec 100)) ≡ 2 ∷ [])
    × (moments (query_moment setup10 (world_at setup10 c10) (sec 100)) ≡ [])
unfolding History.life is_valid is_global
corner10 = (refl, refl, refl, refl, refl, refl, refl)
