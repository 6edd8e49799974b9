-- What is due next once a driver has done what was due is later than now.
use Rattle.std.proofs.Common.{◌≡◌, ◌<◌, ◌≤◌, ℕ, Bool, true, false, List, [], ◌∷◌, ◌++◌, Option, Some, None, find, refl, sym, ◌∙◌, ap, subst, arith}
use Rattle.std.specs.Prelude.{if◌then◌else◌, ◌&&◌, not, IfSome, max, min, nat_le, nat_lt, option_map, Result}
use Rattle.std.specs.Duration.{as_nanos, max_nanos}
use Rattle.std.specs.declared.alloc.AllocError.{AllocError}
use Rattle.std.specs.declared.cmp.Ordering.{Ordering}
use Rattle.std.specs.declared.time.Duration.{Duration}
use Rattle.std.proofs.lemmas.Bool.Decides.{nat_tests}
use Rattle.p2p_tracker.specs.Calls.{Settings, Call}
use Rattle.p2p_discovery.specs.declared.types.ingress.Ingress.{Ingress}
use Rattle.p2p_tracker.specs.Calls.Call.{Dial, Release, UnblockExpired, ForgetCooled}
use Rattle.p2p_tracker.specs.History.{same}
use Rattle.p2p_tracker.specs.Moments.{moments_after}
use Rattle.p2p_tracker.specs.Calls.Event.{Expired, Forgot}
use Rattle.p2p_tracker.specs.Calls.{Cooldown, Grant}
use Rattle.p2p_tracker.specs.Directory.{dial_moment_in}
use Rattle.p2p_tracker.specs.Lists.{IsLeastOf}
use Rattle.p2p_tracker.specs.Seen.{unblock_of, cooldown_of}
use Rattle.p2p_tracker.specs.World.{World, dial_event, release_event, step, unblock_after, cooldown_after}
use Rattle.std.proofs.lemmas.List.{append_assoc}
use Rattle.p2p_directory.specs.Nodes.{NodeStandsAt}
use Rattle.p2p_directory.specs.Received.{Wire}
use Rattle.p2p_directory.specs.Run.{world_after}
use Rattle.p2p_directory.proofs.Definitions.Law
use Rattle.p2p_driver.specs.Arrivals.{has_number, deadline_of, IsLeastDeadline}
use Rattle.p2p_driver.specs.Drivers.{Base, DriverView, DriverStandsAt, DriverStands, AreFreedAt, Rise, base_of}
use Rattle.p2p_driver.specs.Grants.{IsLeastCooled, is_cooled, cooled_at}
use Rattle.p2p_driver.specs.Happenings.{Happening, calls_of}
use Rattle.p2p_driver.specs.Links.{is_timed, is_open, is_late, is_to_ask, ask_at, due, next_of, IsLeastDue}
use Rattle.p2p_driver.specs.Steps.{dials_by, is_before}
use Rattle.p2p_driver.specs.Timers.{AreLateAt, AreAskedAt, AreDialedAt, NoneDue, NoneToDial, TimesOut, earlier, held_moment, dial_at, dial_due, IsNextTimeout, IsAsBefore}
use Rattle.p2p_driver.specs.declared.arrivals.Arrival.{Arrival}
use Rattle.p2p_driver.specs.declared.links.Held.{Held}
use Rattle.p2p_driver.specs.declared.pace.Pace.{Pace}
use Rattle.p2p_driver.specs.declared.links.Phase.{Phase}
use Rattle.p2p_driver.specs.declared.links.Phase.TheVariants as phase
use Rattle.p2p_driver.proofs.Early.{same_block, same_cooldown, no_block, no_cooldown}
use Rattle.p2p_driver.proofs.Spared.{found_by}

some_is : {A : Type 0} {x y : A} → Some x ≡ Some y → x ≡ y
some_is e = cc

no_some : {A : Type 0} (x : A) → ¬ (None ≡ Some x)
no_some x is = cc

-- what isn't up to now is later
past : (a b : ℕ) → nat_le a b ≡ false → b < a
past a b isnt = grind (arith, nat_tests)

-- WHAT ENDS

module _ {C S : Type 0} (d : Settings C S) (some : 1 ≤ d.max_sets) (cs : List (Call C S)) (t : ℕ) (p : C) where
  -- a block that goes on ends later
  blocked_later : (o : Option ℕ) (u : ℕ) → unblock_after d p (Expired t) o ≡ Some u → t < u
  blocked_later None u is = absurd (no_some u is)
  blocked_later (Some moment) u is = go (nat_le moment t) refl is
    where
      go : (b : Bool) → nat_le moment t ≡ b → (if b then None else Some moment) ≡ Some u → t < u
      go true at is = absurd (no_some u is)
      go false at is = subst (λ x. t < x) (some_is is) (past moment t at)

  -- .. so does a cooldown
  cooled_later : (o : Option Cooldown) (c : Cooldown) → cooldown_after d p (Forgot t) o ≡ Some c → t < c.dial_at
  cooled_later None c is = absurd (no_some c is)
  cooled_later (Some cooldown) c is = go (nat_le cooldown.dial_at t) refl is
    where
      go : (b : Bool) → nat_le cooldown.dial_at t ≡ b → (if b then None else Some cooldown) ≡ Some c → t < c.dial_at
      go true at is = absurd (no_some c is)
      go false at is = subst (λ (x : Cooldown). t < x.dial_at) (some_is is) (past cooldown.dial_at t at)

  -- once time passed, each block ends later
  unblock_later : (u : ℕ) → (world_after d (UnblockExpired t ∷ ForgetCooled t ∷ cs)).unblock p ≡ Some u → t < u
  unblock_later u is = blocked_later ((world_after d (ForgetCooled t ∷ cs)).unblock p) u
      (sym (ap (λ (w : World C S). w.unblock p) (Law.recomputed_is_one_step d some (ForgetCooled t ∷ cs) (UnblockExpired t))) ∙ is)

  -- .. and each cooldown
  dial_later : (c : Cooldown) → (world_after d (UnblockExpired t ∷ ForgetCooled t ∷ cs)).cooldown p ≡ Some c → t < c.dial_at
  dial_later c is = cooled_later ((world_after d cs).cooldown p) c
      (sym (ap (λ (w : World C S). w.cooldown p) (Law.recomputed_is_one_step d some cs (ForgetCooled t)))
      ∙ sym (ap (λ (w : World C S). w.cooldown p) (Law.recomputed_is_one_step d some (ForgetCooled t ∷ cs) (UnblockExpired t))) ∙ is)

-- the calls of what is closed and asked
module _ {C S : Type 0} (t : Duration) (h : List (Happening C S)) where
  late_calls : (es : List (Happening C S)) → AreLateAt t es → calls_of (es ++ h) ≡ calls_of h
  late_calls [] are = refl
  late_calls (Happening.StreamLate n at ∷ es) are = late_calls es are.1
  late_calls (Happening.LinkLate n p at ∷ es) are = late_calls es are.1
  late_calls (e ∷ es) are = absurd are.0

  asked_calls : (es : List (Happening C S)) → AreAskedAt t es → calls_of (es ++ h) ≡ calls_of h
  asked_calls [] are = refl
  asked_calls (Happening.Asked n p at owed fits question ∷ es) are = asked_calls es are.1
  asked_calls (e ∷ es) are = absurd are.0

-- the node once some grants were given up: blocks and cooldowns are as before
module _ {C S : Type 0} (d : Settings C S) (some : 1 ≤ d.max_sets) (t : Duration) (h : List (Happening C S)) (p : C) where
  after_release : (q : C) (cs : List (Call C S)) → world_after d (Release q ∷ cs) ≡ step d (world_after d cs) (Release q)
  after_release q cs = Law.recomputed_is_one_step d some cs (Release q)

  released_block : (q : C) (grant : Option Grant) (o : Option ℕ) → unblock_after d p (release_event d q grant) o ≡ o
  released_block q None o = refl
  released_block q (Some grant) o = refl

  released_cooldown : (q : C) (grant : Option Grant) (o : Option Cooldown) → cooldown_after d p (release_event d q grant) o ≡ o
  released_cooldown q None o = refl
  released_cooldown q (Some grant) o = refl

  freed_blocks : (es : List (Happening C S)) → AreFreedAt t es →
      (world_after d (calls_of (es ++ h))).unblock p ≡ (world_after d (calls_of h)).unblock p
  freed_blocks [] are = refl
  freed_blocks (Happening.Released q at ∷ es) are = let cs : List (Call C S) = calls_of (es ++ h) in
      ap (λ (w : World C S). w.unblock p) (after_release q cs)
      ∙ released_block q ((world_after d cs).held q) ((world_after d cs).unblock p) ∙ freed_blocks es are.1
  freed_blocks (e ∷ es) are = absurd are.0

  freed_cooldowns : (es : List (Happening C S)) → AreFreedAt t es →
      (world_after d (calls_of (es ++ h))).cooldown p ≡ (world_after d (calls_of h)).cooldown p
  freed_cooldowns [] are = refl
  freed_cooldowns (Happening.Released q at ∷ es) are = let cs : List (Call C S) = calls_of (es ++ h) in
      ap (λ (w : World C S). w.cooldown p) (after_release q cs)
      ∙ released_cooldown q ((world_after d cs).held q) ((world_after d cs).cooldown p) ∙ freed_cooldowns es are.1
  freed_cooldowns (e ∷ es) are = absurd are.0

-- a grant's dial moment is later, if there is a cooldown
granted_later : (now draw cooldown : ℕ) → 0 < cooldown → now < max_nanos → now < (moments_after now draw cooldown).dial_at
granted_later now draw cooldown some fits = omega (arith, some, fits)

-- the node once some were dialled: no block ends earlier than it did before, and no cooldown by now
module _ {C S : Type 0} (d : Settings C S) (some : 1 ≤ d.max_sets) (t : Duration) (words : List ℕ) (h : List (Happening C S)) (p : C) where
  step_is : (q : C) (draw : ℕ) (cs : List (Call C S)) → world_after d (Dial q (as_nanos t) draw ∷ cs) ≡ step d (world_after d cs) (Dial q (as_nanos t) draw)
  step_is q draw cs = Law.recomputed_is_one_step d some cs (Dial q (as_nanos t) draw)

  same_unblock : (q : C) (draw : ℕ) (granted : Bool) (address : Option Ingress) (o : Option ℕ) →
      unblock_after d p (dial_event d q (as_nanos t) draw granted address) o ≡ o
  same_unblock q draw granted None o = refl
  same_unblock q draw true (Some a) o = refl
  same_unblock q draw false (Some a) o = refl

  abbrev Cooled : Option Cooldown → Type 0
  Cooled o = (c : Cooldown) → o ≡ Some c → as_nanos t < c.dial_at

  still_cooled : (q : C) (draw : ℕ) (granted : Bool) (address : Option Ingress) (o : Option Cooldown) → 0 < d.cooldown → as_nanos t < max_nanos →
      Cooled o → Cooled (cooldown_after d p (dial_event d q (as_nanos t) draw granted address) o)
  still_cooled q draw granted None o some fits cooled = cooled
  still_cooled q draw false (Some a) o some fits cooled = cooled
  still_cooled q draw true (Some a) o some fits cooled = go (same d q p)
    where
      go : (b : Bool) → Cooled (if b then Some (moments_after (as_nanos t) draw d.cooldown) else o)
      go true c is = subst (λ (x : Cooldown). as_nanos t < x.dial_at) (some_is is) (granted_later (as_nanos t) draw d.cooldown some fits)
      go false c is = cooled c is

  dialed_blocks : (es : List (Happening C S)) → AreDialedAt t words es →
      (world_after d (calls_of (es ++ h))).unblock p ≡ (world_after d (calls_of h)).unblock p
  dialed_blocks [] are = refl
  dialed_blocks (Happening.Dialed n q at draw word ingress ∷ es) are =
      let cs : List (Call C S) = calls_of (es ++ h) in
      ap (λ (x : Duration). (world_after d (Dial q (as_nanos x) (as_nanos draw) ∷ cs)).unblock p) are.0.0
      ∙ ap (λ (w : World C S). w.unblock p) (step_is q (as_nanos draw) cs)
      ∙ same_unblock q (as_nanos draw) _ _ ((world_after d cs).unblock p)
      ∙ dialed_blocks es are.1
  dialed_blocks (Happening.Undialed at ∷ es) are = dialed_blocks es are.1
  dialed_blocks (e ∷ es) are = absurd are.0

  dialed_cooled : (es : List (Happening C S)) → AreDialedAt t words es → 0 < d.cooldown → as_nanos t < max_nanos →
      Cooled ((world_after d (calls_of h)).cooldown p) → Cooled ((world_after d (calls_of (es ++ h))).cooldown p)
  dialed_cooled [] are positive within cooled = cooled
  dialed_cooled (Happening.Dialed n q at draw word ingress ∷ es) are positive within cooled =
      let cs : List (Call C S) = calls_of (es ++ h) in
      subst Cooled (sym (ap (λ (x : Duration). (world_after d (Dial q (as_nanos x) (as_nanos draw) ∷ cs)).cooldown p) are.0.0
      ∙ ap (λ (w : World C S). w.cooldown p) (step_is q (as_nanos draw) cs)))
      (still_cooled q (as_nanos draw) _ _ ((world_after d cs).cooldown p) positive within (dialed_cooled es are.1 positive within cooled))
  dialed_cooled (Happening.Undialed at ∷ es) are positive within cooled = dialed_cooled es are.1 positive within cooled
  dialed_cooled (e ∷ es) are positive within cooled = absurd are.0

-- A LATER MOMENT, if there is one

abbrev IsLater : ℕ → Option ℕ → Type 0
IsLater t next = IfSome next (λ n. t < n)

earlier_later : (t : ℕ) (a b : Option ℕ) → IsLater t a → IsLater t b → IsLater t (earlier a b)
earlier_later t None b one two = two
earlier_later t (Some m) None one two = one
earlier_later t (Some m) (Some n) one two = grind (arith)

held_later : (t : ℕ) (o : Option ℕ) → t < max_nanos → IsLater t o → IsLater t (held_moment o)
held_later t None fits is = tt
held_later t (Some n) fits is = grind (arith)

-- .. of those that are least of some
least_later : {C : Type 0} (t : ℕ) (moment : C → Option ℕ) (least : Option ℕ) → IsLeastOf moment least →
    ((p : C) (n : ℕ) → moment p ≡ Some n → t < n) → IsLater t least
least_later t moment None is later = tt
least_later t moment (Some m) is later = later is.0.0 m is.0.1

module _ {C : Type 0} where
  -- no stream is late
  streams_later : (t first handshake m last : ℕ) (xs : List (Arrival C)) (least : Option ℕ) → Rise m xs last →
      IsLeastDeadline first handshake xs least →
      ((n : ℕ) (a : Arrival C) → find (has_number n) xs ≡ Some a → t < deadline_of first handshake a) → IsLater t least
  streams_later t first handshake m last xs None rise is later = tt
  streams_later t first handshake m last xs (Some least) rise is later = let at = is.1 in
      subst (λ n. t < n) at.3 (later at.1.number at.1 (found_by m last xs rise at.0 at.1 at.2).1)

-- nothing is due of a link
link_later : (pace : Pace) (t : ℕ) (held : Held) → is_timed held.phase ≡ true → is_late pace t held ≡ false →
    is_to_ask (as_nanos pace.tick) t held ≡ false → t < next_of pace held
link_later pace t held timed late ask = go held.phase timed late ask
  where
    not_due : (b : Bool) → nat_le (due pace held) t ≡ b → b ≡ false → t < due pace held
    not_due b at is = past (due pace held) t (at ∙ is)

    not_asked : (b : Bool) → nat_le (ask_at (as_nanos pace.tick) held) t ≡ b → b ≡ false → t < ask_at (as_nanos pace.tick) held
    not_asked b at is = past (ask_at (as_nanos pace.tick) held) t (at ∙ is)

    both : (a b : ℕ) → t < a → t < b → t < min a b
    both a b one two = grind (arith)

    go : (ph : Phase) → is_timed ph ≡ true → (is_timed ph && nat_le (due pace held) t) ≡ false →
        (is_open ph && nat_le (ask_at (as_nanos pace.tick) held) t) ≡ false →
        t < (if is_open ph then min (due pace held) (ask_at (as_nanos pace.tick) held) else due pace held)
    go phase.Greeting timed late ask = not_due _ refl late
    go phase.Open timed late ask = both (due pace held) (ask_at (as_nanos pace.tick) held) (not_due _ refl late) (not_asked _ refl ask)
    go phase.Closing timed late ask = absurd cc

-- WHAT IS DUE NEXT

module _ {C S : Type 0} (cmp : C → C → Ordering) (wire : Wire C S) where
  links_later : (t : ℕ) (v : DriverView C S) (least : Option ℕ) → NoneDue cmp t v →
      IsLeastDue cmp (next_of v.pace) v.links least → IsLater t least
  links_later t v None none is = tt
  links_later t v (Some least) none is = let at = is.1 in
      subst (λ n. t < n) at.4 (link_later v.pace t at.1 at.3
      (none.late.links at.0 at.1 at.2) (none.to_ask at.0 at.1 at.2))

  kept_later : (t : ℕ) (v : DriverView C S) (least : Option ℕ) → NoneDue cmp t v →
      IsLeastCooled cmp v.cooldown v.links v.next_dial.grants least → IsLater t least
  kept_later t v None none is = tt
  kept_later t v (Some least) none is = let at = is.1 in
      subst (λ n. t < n) at.3 (past (cooled_at v.cooldown at.1) t (sym (ap (is_cooled v.cooldown t) at.2) ∙ none.kept at.0))

  module _ (now : ℕ) (words : List ℕ) (result : Result (Unit {0}) AllocError) (v v2 : DriverView C S) (stands : DriverStands cmp wire v)
      (did : TimesOut cmp wire now words result v v2) where
    abbrev b : Base C S
    b = base_of cmp wire stands.given stands.pace

    -- what was done before any grant was given up
    abbrev asked : List (Happening C S)
    asked = did.asked ++ (did.late ++ Happening.Passed did.time ∷ stands.history)

    -- .. and before anybody was dialled
    abbrev before : List (Happening C S)
    before = did.freed ++ asked

    at : DriverStandsAt b (did.dialed ++ before) v2
    at = subst (λ k. DriverStandsAt b k v2)
        (append_assoc did.dialed (did.freed ++ (did.asked ++ (did.late ++ Happening.Passed did.time ∷ []))) stands.history
        ∙ ap (λ k. did.dialed ++ k) (append_assoc did.freed (did.asked ++ (did.late ++ Happening.Passed did.time ∷ [])) stands.history
        ∙ ap (λ k. did.freed ++ k) (append_assoc did.asked (did.late ++ Happening.Passed did.time ∷ []) stands.history
        ∙ ap (λ k. did.asked ++ k) (append_assoc did.late (Happening.Passed did.time ∷ []) stands.history))))
        (did.does stands.given stands.pace stands.history stands.stands)

    -- what was asked of the node then
    calls : calls_of asked ≡ UnblockExpired (as_nanos did.time) ∷ ForgetCooled (as_nanos did.time) ∷ calls_of stands.history
    calls = asked_calls did.time (did.late ++ Happening.Passed did.time ∷ stands.history) did.asked did.are_asked
        ∙ late_calls did.time (Happening.Passed did.time ∷ stands.history) did.late did.are_late

    blocks : (p : C) (n : ℕ) → unblock_of cmp v2.node.directory p ≡ Some n → max v.latest now < n
    blocks p n is = subst (λ k. k < n) did.time_is (unblock_later b.made.directory stands.given.cfg.max_sets.ok (calls_of stands.history)
        (as_nanos did.time) p n (sym (ap (λ cs. (world_after b.made.directory cs).unblock p) calls)
        ∙ sym (freed_blocks b.made.directory stands.given.cfg.max_sets.ok did.time asked p did.freed did.are_freed)
        ∙ sym (dialed_blocks b.made.directory stands.given.cfg.max_sets.ok did.time words before p did.dialed did.are_dialed)
        ∙ sym (at.node.refines.blocks p) ∙ is))

    cooldowns : 0 < b.made.directory.cooldown → max v.latest now < max_nanos → (p : C) (n : ℕ) → dial_moment_in cmp v2.node.directory p ≡ Some n → max v.latest now < n
    cooldowns positive fits p n is = go (cooldown_of cmp v2.node.directory p) refl is
      where
        cooled : (c : Cooldown) → (world_after b.made.directory (calls_of (did.dialed ++ before))).cooldown p ≡ Some c → as_nanos did.time < c.dial_at
        cooled = dialed_cooled b.made.directory stands.given.cfg.max_sets.ok did.time words before p did.dialed did.are_dialed positive
            (subst (λ k. k < max_nanos) (sym did.time_is) fits)
            (λ c is. dial_later b.made.directory stands.given.cfg.max_sets.ok (calls_of stands.history) (as_nanos did.time) p c
            (sym (ap (λ cs. (world_after b.made.directory cs).cooldown p) calls)
            ∙ sym (freed_cooldowns b.made.directory stands.given.cfg.max_sets.ok did.time asked p did.freed did.are_freed) ∙ is))

        go : (o : Option Cooldown) → cooldown_of cmp v2.node.directory p ≡ o → option_map (λ c. c.dial_at) o ≡ Some n → max v.latest now < n
        go None has is = absurd (no_some n is)
        go (Some c) has is = subst (λ k. max v.latest now < k) (some_is is) (subst (λ k. k < c.dial_at) did.time_is
            (cooled c (sym (at.node.refines.cooldowns p) ∙ has)))

    -- nobody is to be dialled by now
    dial_later_due : NoneToDial (max v.latest now) v2 → IsLater (max v.latest now) (dial_due v2)
    dial_later_due none = go (dials_by v2.pace v2.links) refl (dial_at v2) none
      where
        go : (x : Bool) → dials_by v2.pace v2.links ≡ x → (o : Option ℕ) → (not (is_before (max v.latest now) o) && dials_by v2.pace v2.links) ≡ false →
            IsLater (max v.latest now) (if dials_by v2.pace v2.links then o else None)
        go false is o none = subst (λ x. IsLater (max v.latest now) (if x then o else None)) (sym is) tt
        go true is None none = subst (λ x. IsLater (max v.latest now) (if x then None else None)) (sym is) tt
        go true is (Some m) none = subst (λ x. IsLater (max v.latest now) (if x then Some m else None)) (sym is)
            (above m (sym (ap (λ x. not (nat_lt (max v.latest now) m) && x) is) ∙ none))
          where
            above : (m : ℕ) → (not (nat_lt (max v.latest now) m) && true) ≡ false → max v.latest now < m
            above m none = lower (nat_lt (max v.latest now) m) refl none
              where
                lower : (x : Bool) → nat_lt (max v.latest now) m ≡ x → (not x && true) ≡ false → max v.latest now < m
                lower true is none = grind (arith, nat_tests)
                lower false is none = absurd cc

    -- once a driver has done what was due by now, what is due next is later
    pub next_is_later : NoneDue cmp (max v.latest now) v2 → NoneToDial (max v.latest now) v2 → 0 < b.made.directory.cooldown →
        max v.latest now < max_nanos → (next : Option ℕ) → IsNextTimeout cmp v2 next → IsLater (max v.latest now) next
    next_is_later none nobody positive fits next is =
        subst (IsLater (max v.latest now)) (sym is.next_is)
        (earlier_later (max v.latest now) (earlier (held_moment (dial_due v2)) (held_moment is.kept))
        (earlier (earlier (held_moment is.stream) (held_moment is.link)) (earlier is.block is.cooldown))
        (earlier_later (max v.latest now) (held_moment (dial_due v2)) (held_moment is.kept)
        (held_later (max v.latest now) (dial_due v2) fits (dial_later_due nobody))
        (held_later (max v.latest now) is.kept fits (kept_later (max v.latest now) v2 is.kept none is.grants)))
        (earlier_later (max v.latest now) (earlier (held_moment is.stream) (held_moment is.link)) (earlier is.block is.cooldown)
        (earlier_later (max v.latest now) (held_moment is.stream) (held_moment is.link)
        (held_later (max v.latest now) is.stream fits (streams_later (max v.latest now) (as_nanos v2.pace.first) (as_nanos v2.pace.handshake) 0 _ v2.arrivals
        is.stream at.arrivals.rise is.streams none.late.streams))
        (held_later (max v.latest now) is.link fits (links_later (max v.latest now) v2 is.link none is.links)))
        (earlier_later (max v.latest now) is.block is.cooldown
        (least_later (max v.latest now) (unblock_of cmp v2.node.directory) is.block is.blocks blocks)
        (least_later (max v.latest now) (dial_moment_in cmp v2.node.directory) is.cooldown is.cooldowns (cooldowns positive fits)))))

    -- if nothing was due, all is as it was
    pub as_before : (t : ℕ) → t ≡ max v.latest now → NodeStandsAt b.made (UnblockExpired t ∷ ForgetCooled t ∷ calls_of stands.history) v2.node →
        (next : Option ℕ) → IsNextTimeout cmp v next → IsLater (max v.latest now) next →
        v2 ≡ record v { node = v2.node; latest = max v.latest now } → IsAsBefore cmp (max v.latest now) v v2
    as_before t time_is node next is later rest = record {
      rest = rest;
      blocks = λ p. same_block b.made stands.given.cfg.max_sets.ok (calls_of stands.history) t v.node v2.node stands.stands.node node p
          (λ n at. subst (λ k. k < n) (sym time_is) (no_block cmp (max v.latest now) v next is later p n at));
      cooldowns = λ p. same_cooldown b.made stands.given.cfg.max_sets.ok (calls_of stands.history) t v.node v2.node stands.stands.node node p
          (λ n at. subst (λ k. k < n) (sym time_is) (no_cooldown cmp (max v.latest now) v next is later p n at));
    }

-- what is as it was before is so after
pub as_it_was : {C S : Type 0} (v v2 w : DriverView C S) (T t : ℕ) → v2 ≡ w → w ≡ record v { node = w.node; latest = T } → T ≡ t →
    v2 ≡ record v { node = v2.node; latest = t }
as_it_was {C} {S} v v2 w T t same rest time = same ∙ rest ∙ ap (λ k. record v { node = w.node; latest = k }) time
    ∙ ap (λ (x : DriverView C S). record v { node = x.node; latest = t }) (sym same)
