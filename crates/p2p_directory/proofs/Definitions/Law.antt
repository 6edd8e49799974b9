-- The kept state is what the past says.
use Rattle.std.proofs.Common.{◌≡◌, ℕ, zero, suc, ◌-◌, ◌<◌, ◌≤◌, Bool, true, false, ◌&&◌, List, []}
use Rattle.std.proofs.Common.{◌∷◌, ◌++◌, length, drop, refl, sym, ◌∙◌, ap, subst, arith}
use Rattle.std.specs.Prelude.{if◌then◌else◌, nat_lt}
use Rattle.std.specs.List.{list_all}
use Rattle.std.proofs.lemmas.List.{append-nil, drop-append-le, length_push}
use Rattle.std.proofs.lemmas.List.Folds.{list_all-append}
use Rattle.std.proofs.lemmas.Bool.{ltb-true, lt-ltb, and_parts, and_from}
use Rattle.p2p_tracker.specs.Calls.{Settings, Call, SetAt, Event}
use Rattle.p2p_tracker.specs.Calls.Call.{Track}
use Rattle.p2p_tracker.specs.Calls.Event.{Nothing, SetTaken}
use Rattle.p2p_tracker.specs.PeerSets.{set_of}
use Rattle.p2p_tracker.specs.History
use Rattle.p2p_tracker.specs.Lists.{last_of}
use Rattle.p2p_tracker.specs.World
use Rattle.p2p_tracker.specs.World.{World}
use Rattle.p2p_directory.proofs.Definitions.Steps
use Rattle.p2p_directory.proofs.Definitions.Steps.{Makes, makes, at_call}
use Rattle.p2p_tracker.proofs.Definitions.Knowledge

-- INDEXES: what lies above each retained set lies above each set that was ever taken

abbrev pub below : {C : Type 0} → ℕ → SetAt C → Bool
below index x = nat_lt x.index index

all_drop : {A : Type 0} (test : A → Bool) (k : ℕ) (xs : List A) → list_all test xs ≡ true → list_all test (drop k xs) ≡ true
all_drop test zero xs e = e
all_drop test (suc k) [] e = refl
all_drop test (suc k) (x ∷ xs) e = all_drop test k xs (and_parts (test x) (list_all test xs) e).1

below_more : {C : Type 0} (i j : ℕ) → i < j → (xs : List (SetAt C)) → list_all (below i) xs ≡ true → list_all (below j) xs ≡ true
below_more i j lt [] e = refl
below_more i j lt (x ∷ xs) e =
    let parts = and_parts (nat_lt x.index i) (list_all (below i) xs) e in
    and_from (nat_lt x.index j) (list_all (below j) xs) (lt-ltb x.index j (omega (arith, ltb-true x.index i parts.0))) (below_more i j lt xs parts.1)

-- a set above all others decides
top_decides : {C : Type 0} (xs : List (SetAt C)) (top : SetAt C) (index : ℕ) →
    list_all (below top.index) xs ≡ true → list_all (below index) (xs ++ top ∷ []) ≡ nat_lt top.index index
top_decides xs top index e = list_all-append (below index) xs (top ∷ []) ∙ go (nat_lt top.index index) refl
  where
    go : (b : Bool) → nat_lt top.index index ≡ b → (list_all (below index) xs && (b && true)) ≡ b
    go true f = ap (λ x. x && true) (below_more top.index index (ltb-true top.index index f) xs e)
    go false f = elim (list_all (below index) xs) as (λ x. (x && false) ≡ false) [ true ↦ refl | false ↦ refl ]

-- any rest that isn't empty decides as the whole list does
abbrev pub Decided : {C : Type 0} → List (SetAt C) → Type 0
Decided xs = (index k : ℕ) → k < length xs → list_all (below index) (drop k xs) ≡ list_all (below index) xs

decided_push : {C : Type 0} (xs : List (SetAt C)) (top : SetAt C) → list_all (below top.index) xs ≡ true → Decided (xs ++ top ∷ [])
decided_push xs top e index k lt =
    let le : k ≤ length xs = omega (arith, length_push xs top) in
    ap (list_all (below index)) (drop-append-le k xs (top ∷ []) le)
    ∙ top_decides (drop k xs) top index (all_drop (below top.index) k xs e)
    ∙ sym (top_decides xs top index e)

module _ {C S : Type 0} (s : Settings C S) where
  decided_same : (xs : List (SetAt C)) → Decided xs → Decided (xs ++ [])
  decided_same xs d = subst Decided (sym (append-nil xs)) d

  track_decided : (xs : List (SetAt C)) (w : World C S) (index : ℕ) (primary secondary : List C) → Decided xs →
      Decided (xs ++ History.set_by s (World.event_in s xs w (Track index primary secondary)))
  track_decided xs w index primary secondary d = go (list_all (below index) xs) refl
    where
      taken : SetAt C
      taken = set_of s.cmp index primary secondary

      go : (b : Bool) → list_all (below index) xs ≡ b → Decided (xs ++ History.set_by s (if b then SetTaken taken else Nothing))
      go true e = decided_push xs taken e
      go false e = decided_same xs d

  -- only a track takes a set
  decided_step : (xs : List (SetAt C)) (w : World C S) (c : Call C S) → Decided xs → Decided (xs ++ History.set_by s (World.event_in s xs w c))
  decided_step xs w c d = go (World.event_in s xs w c) refl (makes s xs w c)
    where
      go : (e : Event C S) → World.event_in s xs w c ≡ e → Makes c e → Decided (xs ++ History.set_by s e)
      go (SetTaken taken) is m = at_call s xs w (λ c e. Decided (xs ++ History.set_by s e)) m.3 is (track_decided xs w m.0 m.1 m.2 d)
      go e is m = decided_same xs d

  pub decided_past : (cs : List (Call C S)) → Decided (History.taken_sets s (World.past s cs))
  decided_past [] = λ index k lt. absurd (omega arith)
  decided_past (c ∷ cs) = decided_step (History.taken_sets s (World.past s cs)) (World.world_at s (World.past s cs)) c (decided_past cs)

  last_decides : (xs : List (SetAt C)) (n index : ℕ) → 1 ≤ n → Decided xs → list_all (below index) xs ≡ list_all (below index) (last_of n xs)
  last_decides [] n index some d = elim (0 - n) as (λ k. true ≡ list_all (below {C = C} index) (drop k [])) [ zero ↦ refl | suc k ↦ refl ]
  last_decides (x ∷ xs) n index some d = sym (d index (length (x ∷ xs) - n) (omega arith))

  -- a track may be held against the retained sets alone
  pub does_same : (cs : List (Call C S)) (c : Call C S) → 1 ≤ s.max_sets →
      World.event_in s (History.taken_sets s (World.past s cs)) (World.world_at s (World.past s cs)) c
      ≡ World.event_in s (History.retained_sets s (World.past s cs)) (World.world_at s (World.past s cs)) c
  does_same cs (Track index primary secondary) some =
      ap (λ b. if b then SetTaken (set_of s.cmp index primary secondary) else Nothing)
      (last_decides (History.taken_sets s (World.past s cs)) s.max_sets index some (decided_past cs))
  does_same cs c some = refl

  -- ONE EVENT, ANY PAST

  pub peer_step : (p : C) (e : Event C S) (h : List (Event C S)) →
      World.peer_at s p (e ∷ h) ≡ World.peer_after s p e (World.sets_after s e (History.retained_sets s h)) (World.peer_at s p h)
  peer_step p e h = λ i. record {
    status = Steps.status_step s p e h i;
    known = (Knowledge.known_life s p e h
        ∙ ap (λ sets. if History.is_present_with s p sets (History.status_at s p (e ∷ h)) then World.known_after s p
        e (World.known_in s p (History.life s p h)) else World.new_known s p) (Steps.retained_step s e h)
        ∙ ap (λ st. if History.is_present_with s p (World.sets_after s e (History.retained_sets s h)) st
        then World.known_after s p e (World.known_in s p (History.life s p h)) else World.new_known s p)
        (Steps.status_step s p e h)) i;
  }

  pub world_step : (e : Event C S) (h : List (Event C S)) → World.world_at s (e ∷ h) ≡ World.world_with s e (World.world_at s h)
  world_step e h = λ i. record {
    state = record {
      sets = Steps.retained_step s e h i;
      peer = λ p. peer_step p e h i;
      unblock = λ p. Steps.unblock_step s p e h i;
      cooldown = λ p. Steps.cooldown_step s p e h i;
    };
    held = λ p. Steps.held_step s p e h i;
  }

  -- THE LAW

  pub recomputed_is_one_step : 1 ≤ s.max_sets → (cs : List (Call C S)) (c : Call C S) →
      World.world_at s (World.past s (c ∷ cs)) ≡ World.step s (World.world_at s (World.past s cs)) c
  recomputed_is_one_step some cs c =
      world_step (World.event_in s (History.taken_sets s (World.past s cs)) (World.world_at s (World.past s cs)) c) (World.past s cs)
      ∙ ap (λ e. World.world_with s e (World.world_at s (World.past s cs))) (does_same cs c some)
