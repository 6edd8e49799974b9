-- Worked rows, computed by the definitions.
use Rattle.std.proofs.Common.{◌≡◌, ℕ, ◌+◌, ◌-◌, ◌^◌, true, false, List, [], ◌∷◌, Some, None, refl}
use Rattle.std.specs.Duration.{max_nanos}
use Rattle.p2p_discovery.specs.Ingress.{is_valid}
use Rattle.p2p_tracker.specs.Calls.{Settings, Event}
use Rattle.p2p_tracker.specs.Calls.Call.{Track, Dial, Listen, Connect, Release, Update, Block, UnblockExpired}
use Rattle.p2p_tracker.specs.declared.record.Status.TheVariants.{Reserved}
use Rattle.p2p_tracker.specs.History
use Rattle.p2p_tracker.specs.World.{world_at}
use Rattle.p2p_tracker.specs.Answers.{status_in, may_connect, may_release}
use Rattle.p2p_tracker.specs.Answers.{is_tracked, set_with_index, latest_index_in, latest_set}
use Rattle.p2p_tracker.specs.Answers.{is_primary_in, is_secondary_in, bits_at, is_dialable, query_moment, sharable_info}
use Rattle.p2p_tracker.specs.Answers.{infos_for, is_eligible_at, is_blocked_at}
use Rattle.p2p_directory.proofs.Definitions.Setting.{sec, info_at, info, own, setup, after_calls, track, listen, dial, update}
use Rattle.p2p_directory.proofs.Definitions.Setting.{those, moments, granted, taken, blocks, torn}

-- ROW 6: a set that leaves tears down its peer, whose record goes at the release, and its cooldown
-- stays

abbrev row6_a : List (Event ℕ ℕ)
row6_a = after_calls setup [] (track 0 (1 ∷ []) ∷ [])

abbrev row6_b : List (Event ℕ ℕ)
row6_b = after_calls setup row6_a (listen 1 100 ∷ track 0 (2 ∷ []) ∷ [])

abbrev row6_c : List (Event ℕ ℕ)
row6_c = after_calls setup row6_b (track 1 (2 ∷ []) ∷ [])

abbrev row6_d : List (Event ℕ ℕ)
row6_d = after_calls setup row6_c (Release 1 ∷ [])

abbrev row6_e : List (Event ℕ ℕ)
row6_e = after_calls setup row6_d (track 2 (1 ∷ []) ∷ [])

row6 :
    (taken setup [] (track 0 (1 ∷ [])) ≡ true)
    × (torn setup [] (track 0 (1 ∷ [])) ≡ [])
    × (granted setup row6_a (listen 1 100) ≡ true)
    × (taken setup row6_b (track 0 (2 ∷ [])) ≡ false)
    × (taken setup row6_b (track 1 (2 ∷ [])) ≡ true)
    × (torn setup row6_b (track 1 (2 ∷ [])) ≡ 1 ∷ [])
    × (status_in setup (world_at setup row6_c) 1 ≡ Some Reserved)
    × (status_in setup (world_at setup row6_d) 1 ≡ None)
    × (taken setup row6_d (track 2 (1 ∷ [])) ≡ true)
    × (torn setup row6_d (track 2 (1 ∷ [])) ≡ [])
    × (granted setup row6_e (listen 1 105) ≡ false)
unfolding History.life
row6 = (refl, refl, refl, refl, refl, refl, refl, refl, refl, refl, refl)

-- ROW 7: an overlapping set keeps the life, and the info

abbrev row7_a : List (Event ℕ ℕ)
row7_a = after_calls setup [] (track 0 (1 ∷ []) ∷ update 1 1000 ∷ track 1 (1 ∷ 2 ∷ []) ∷ [])

row7 :
    (bits_at setup (world_at setup row7_a) 0 ≡ Some (1, true ∷ false ∷ []))
    × (those (is_tracked setup (world_at setup row7_a)) ≡ 1 ∷ 2 ∷ [])
unfolding History.life
row7 = (refl, refl)

-- ROW 8: the cooldown, and that a deletion leaves it

abbrev row8_a : List (Event ℕ ℕ)
row8_a = after_calls setup [] (track 0 (1 ∷ []) ∷ listen 1 100 ∷ Release 1 ∷ [])

abbrev row8_b : List (Event ℕ ℕ)
row8_b = after_calls setup row8_a (listen 1 110 ∷ Release 1 ∷ track 1 (2 ∷ []) ∷ track 2 (1 ∷ []) ∷ [])

row8 :
    (granted setup row8_a (Listen 1 109_999_999_999 0) ≡ false)
    × (granted setup row8_a (listen 1 110) ≡ true)
    × (granted setup row8_b (listen 1 111) ≡ false)
unfolding History.life
row8 = (refl, refl, refl)

-- ROW 9: the dial moment is later than the reservable one

abbrev row9_a : List (Event ℕ ℕ)
row9_a = after_calls setup [] (track 0 (1 ∷ []) ∷ update 1 1000 ∷ [])

abbrev row9_b : List (Event ℕ ℕ)
row9_b = after_calls setup row9_a (Dial 1 (sec 100) (sec 10) ∷ Release 1 ∷ [])

row9 :
    (granted setup row9_a (Dial 1 (sec 100) (sec 10)) ≡ true)
    × (those (is_dialable setup (world_at setup row9_b) (sec 115)) ≡ [])
    × (moments (query_moment setup (world_at setup row9_b) (sec 115)) ≡ sec 120 ∷ [])
    × (granted setup row9_b (dial 1 115) ≡ true)
unfolding History.life is_valid
row9 = (refl, refl, refl, refl)

-- ROW 10: an odd cooldown is halved and rounded down; sums stop at the greatest moment

abbrev setup10 : Settings ℕ ℕ
setup10 = record setup { cooldown = 5 }

abbrev row10_a : List (Event ℕ ℕ)
row10_a = after_calls setup10 [] (track 0 (1 ∷ []) ∷ update 1 1000 ∷ Listen 1 (sec 100) 9 ∷ Release 1 ∷ [])

abbrev row10_b : List (Event ℕ ℕ)
row10_b = after_calls setup10 row10_a (Listen 1 max_nanos 9 ∷ Release 1 ∷ [])

row10 :
    (those (is_dialable setup10 (world_at setup10 row10_a) (sec 100 + 5)) ≡ [])
    × (moments (query_moment setup10 (world_at setup10 row10_a) (sec 100 + 5)) ≡ (sec 100 + 9) ∷ [])
    × (those (is_dialable setup10 (world_at setup10 row10_a) (sec 100 + 9)) ≡ 1 ∷ [])
    × (moments (query_moment setup10 (world_at setup10 row10_a) (sec 100 + 9)) ≡ [])
    × (granted setup10 row10_a (Listen 1 max_nanos 9) ≡ true)
    × (granted setup10 row10_b (Listen 1 max_nanos 9) ≡ true)
unfolding History.life is_valid
row10 = (refl, refl, refl, refl, refl, refl)

-- ROW 11: a block with duration zero is taken, though nobody is then blocked

abbrev setup11 : Settings ℕ ℕ
setup11 = record setup { block_duration = 0 }

abbrev row11_a : List (Event ℕ ℕ)
row11_a = after_calls setup11 [] (track 0 (1 ∷ []) ∷ [])

abbrev row11_b : List (Event ℕ ℕ)
row11_b = after_calls setup11 row11_a (Block 1 (sec 100) ∷ [])

abbrev row11_c : List (Event ℕ ℕ)
row11_c = after_calls setup11 row11_b (UnblockExpired (sec 100) ∷ [])

row11 :
    (blocks setup11 row11_a (Block 1 (sec 100)) ≡ true)
    × (is_eligible_at setup11 (world_at setup11 row11_b) 1 (sec 100) ≡ true)
    × (those (is_blocked_at setup11 (world_at setup11 row11_b) (sec 100)) ≡ [])
    × (moments (world_at setup11 row11_b).unblock ≡ sec 100 ∷ [])
    × (moments (world_at setup11 row11_c).unblock ≡ [])
unfolding History.life
row11 = (refl, refl, refl, refl, refl)

-- ROW 12: a block outlives the record

abbrev row12_a : List (Event ℕ ℕ)
row12_a = after_calls setup [] (track 0 (1 ∷ []) ∷ Block 1 (sec 100) ∷ track 1 (2 ∷ []) ∷ [])

abbrev row12_b : List (Event ℕ ℕ)
row12_b = after_calls setup row12_a (track 2 (1 ∷ []) ∷ [])

abbrev row12_c : List (Event ℕ ℕ)
row12_c = after_calls setup row12_b (listen 1 160 ∷ Connect 1 false ∷ [])

abbrev row12_d : List (Event ℕ ℕ)
row12_d = after_calls setup row12_c (Block 1 (sec 161) ∷ [])

abbrev row12_e : List (Event ℕ ℕ)
row12_e = after_calls setup row12_d (track 3 (2 ∷ []) ∷ Release 1 ∷ [])

row12 :
    (status_in setup (world_at setup row12_a) 1 ≡ None)
    × (granted setup row12_b (Listen 1 159_999_999_999 0) ≡ false)
    × (granted setup row12_b (listen 1 160) ≡ true)
    × (blocks setup row12_c (Block 1 (sec 161)) ≡ true)
    × (torn setup row12_d (track 3 (2 ∷ [])) ≡ 1 ∷ [])
    × (status_in setup (world_at setup row12_e) 1 ≡ None)
    × (those (is_blocked_at setup (world_at setup row12_e) (sec 170)) ≡ 1 ∷ [])
unfolding History.life
row12 = (refl, refl, refl, refl, refl, refl, refl)

-- ROW 13: a release of a dialler's counts a failure even after the peer was active

abbrev row13_a : List (Event ℕ ℕ)
row13_a = after_calls setup [] (track 0 (1 ∷ []) ∷ update 1 1000 ∷ [])

abbrev row13_b : List (Event ℕ ℕ)
row13_b = after_calls setup row13_a (dial 1 100 ∷ Connect 1 true ∷ [])

abbrev row13_c : List (Event ℕ ℕ)
row13_c = after_calls setup row13_b (Release 1 ∷ [])

abbrev setup13 : Settings ℕ ℕ
setup13 = record setup { dial_fail_limit = 0 }

abbrev row13_d : List (Event ℕ ℕ)
row13_d = after_calls setup13 [] (track 0 (1 ∷ []) ∷ update 1 1000 ∷ [])

row13 :
    (bits_at setup (world_at setup row13_a) 0 ≡ Some (0, true ∷ []))
    × (granted setup row13_a (dial 1 100) ≡ true)
    × (bits_at setup (world_at setup row13_b) 0 ≡ Some (0, true ∷ []))
    × (((world_at setup row13_c).peer 1).known.fails ≡ 1)
    × (bits_at setup (world_at setup row13_c) 0 ≡ Some (0, false ∷ []))
    × (bits_at setup13 (world_at setup13 row13_d) 0 ≡ Some (0, false ∷ []))
unfolding History.life is_valid
row13 = (refl, refl, refl, refl, refl, refl)

-- ROW 14: the first of greatest timestamp; a newer info at the same ingress forgets the failures

abbrev row14_a : List (Event ℕ ℕ)
row14_a = after_calls setup [] (track 0 (1 ∷ []) ∷ listen 1 100 ∷ Connect 1 false ∷ Update (info_at 1 1000 8001 ∷ info_at 1 1000 8002 ∷ []) ∷ [])

abbrev row14_b : List (Event ℕ ℕ)
row14_b = after_calls setup row14_a (Update (info_at 1 999 8003 ∷ []) ∷ [])

abbrev row14_c : List (Event ℕ ℕ)
row14_c = after_calls setup row14_b (Update (info_at 1 1001 8004 ∷ []) ∷ [])

abbrev row14_d : List (Event ℕ ℕ)
row14_d = after_calls setup row14_c (Release 1 ∷ [])

abbrev row14_e : List (Event ℕ ℕ)
row14_e = after_calls setup row14_d (dial 1 110 ∷ Release 1 ∷ [])

abbrev row14_f : List (Event ℕ ℕ)
row14_f = after_calls setup row14_e (Update (info_at 1 1002 8004 ∷ []) ∷ [])

row14 :
    (sharable_info setup (world_at setup row14_a) 1 ≡ Some (info_at 1 1000 8001))
    × (sharable_info setup (world_at setup row14_b) 1 ≡ Some (info_at 1 1000 8001))
    × (sharable_info setup (world_at setup row14_c) 1 ≡ Some (info_at 1 1001 8004))
    × (granted setup row14_d (dial 1 110) ≡ true)
    × (bits_at setup (world_at setup row14_e) 0 ≡ Some (0, false ∷ []))
    × (((world_at setup row14_e).peer 1).known.fails ≡ 1)
    × (bits_at setup (world_at setup row14_f) 0 ≡ Some (0, true ∷ []))
    × (((world_at setup row14_f).peer 1).known.fails ≡ 0)
unfolding History.life is_valid
row14 = (refl, refl, refl, refl, refl, refl, refl, refl)

-- ROW 15: what is shared

abbrev row15_a : List (Event ℕ ℕ)
row15_a = after_calls setup [] (
    track 5 (1 ∷ 2 ∷ 3 ∷ 9 ∷ [])
    ∷ listen 1 50 ∷ Connect 1 false
    ∷ listen 2 50 ∷ Connect 2 false
    ∷ listen 3 50
    ∷ Update (info 1 100000 ∷ info 2 100001 ∷ info 3 50000 ∷ [])
    ∷ [])

row15 :
    (infos_for setup (world_at setup row15_a) 4 (false ∷ false ∷ false ∷ false ∷ []) (sec 100) ≡ Some [])
    × (infos_for setup (world_at setup row15_a) 5 (false ∷ false ∷ false ∷ []) (sec 100) ≡ None)
    × (infos_for setup (world_at setup row15_a) 5 (false ∷ false ∷ false ∷ false ∷ []) (sec 100) ≡ Some (info 1 100000 ∷ own ∷ []))
    × (infos_for setup (world_at setup row15_a) 5 (true ∷ false ∷ false ∷ true ∷ []) 100_000_999_999 ≡ Some [])
    × (infos_for setup (world_at setup row15_a) 5 (true ∷ false ∷ false ∷ true ∷ []) 100_001_000_000 ≡ Some (info 2 100001 ∷ []))
unfolding History.life
row15 = (refl, refl, refl, refl, refl)

-- ROW 18: the greatest index; who is refused

abbrev row18_a : List (Event ℕ ℕ)
row18_a = after_calls setup [] (track (2 ^ 64 - 1) (1 ∷ []) ∷ [])

row18 :
    (taken setup row18_a (track 0 (2 ∷ [])) ≡ false)
    × (taken setup row18_a (track (2 ^ 64 - 1) (2 ∷ [])) ≡ false)
    × (may_connect setup (world_at setup row18_a) 1 ≡ false)
    × (may_release setup (world_at setup row18_a) 1 ≡ false)
    × (granted setup row18_a (listen 9 100) ≡ false)
    × (granted setup row18_a (listen 2 100) ≡ false)
    × (granted setup row18_a (dial 1 100) ≡ false)
    × (bits_at setup (world_at setup row18_a) 1 ≡ None)
    × (latest_index_in setup (world_at setup row18_a) ≡ Some 18446744073709551615)
unfolding History.life
row18 = (refl, refl, refl, refl, refl, refl, refl, refl, refl)

-- ROW 19: two roles

abbrev setup19 : Settings ℕ ℕ
setup19 = record setup { max_sets = 2 }

abbrev row19_a : List (Event ℕ ℕ)
row19_a = after_calls setup19 [] (Track 0 (1 ∷ []) (1 ∷ 2 ∷ []) ∷ [])

abbrev row19_b : List (Event ℕ ℕ)
row19_b = after_calls setup19 row19_a (update 2 1000 ∷ [])

abbrev row19_c : List (Event ℕ ℕ)
row19_c = after_calls setup19 row19_b (listen 2 100 ∷ [])

abbrev row19_d : List (Event ℕ ℕ)
row19_d = after_calls setup19 row19_c (track 1 (2 ∷ []) ∷ [])

abbrev row19_e : List (Event ℕ ℕ)
row19_e = after_calls setup19 row19_d (track 2 [] ∷ [])

row19 :
    (torn setup19 [] (Track 0 (1 ∷ []) (1 ∷ 2 ∷ [])) ≡ [])
    × (set_with_index setup19 (world_at setup19 row19_a) 0 ≡ Some (record { index = 0; primary = 1 ∷ []; secondary = 2 ∷ [] }))
    × (granted setup19 row19_b (dial 2 100) ≡ false)
    × (granted setup19 row19_b (listen 2 100) ≡ true)
    × (torn setup19 row19_c (track 1 (2 ∷ [])) ≡ [])
    × (those (is_primary_in setup19 (world_at setup19 row19_d)) ≡ 1 ∷ 2 ∷ [])
    × (those (is_secondary_in setup19 (world_at setup19 row19_d)) ≡ [])
    × (latest_set setup19 (world_at setup19 row19_d) ≡ Some (record { index = 1; primary = 2 ∷ []; secondary = [] }))
    × (torn setup19 row19_d (track 2 []) ≡ [])
    × (torn setup19 row19_e (track 3 []) ≡ 2 ∷ [])
unfolding History.life is_valid
row19 = (refl, refl, refl, refl, refl, refl, refl, refl, refl, refl)

-- ROW 20: the next query comes from a blocked peer

abbrev row20_a : List (Event ℕ ℕ)
row20_a = after_calls setup [] (Track 0 (1 ∷ []) (2 ∷ []) ∷ update 1 1000 ∷ [])

abbrev row20_b : List (Event ℕ ℕ)
row20_b = after_calls setup row20_a (Block 2 (sec 100) ∷ [])

row20 :
    (blocks setup row20_a (Block 2 (sec 100)) ≡ true)
    × (those (is_dialable setup (world_at setup row20_b) (sec 100)) ≡ 1 ∷ [])
    × (moments (query_moment setup (world_at setup row20_b) (sec 100)) ≡ sec 160 ∷ [])
    × (those (is_dialable setup (world_at setup row20_b) (sec 160)) ≡ 1 ∷ [])
    × (moments (query_moment setup (world_at setup row20_b) (sec 160)) ≡ [])
    × (moments (world_at setup row20_b).unblock ≡ sec 160 ∷ [])
unfolding History.life is_valid
row20 = (refl, refl, refl, refl, refl, refl)
