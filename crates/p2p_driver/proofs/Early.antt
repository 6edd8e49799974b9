-- Before what is due next, nothing is due, and nothing ends.
use Rattle.std.proofs.Common.{◌≡◌, ◌<◌, ◌≤◌, ℕ, Bool, true, false, List, ◌∷◌, Option, Some, None, find, refl, sym, ◌∙◌, ap, subst, arith}
use Rattle.std.specs.Prelude.{if◌then◌else◌, ◌&&◌, not, IfSome, min, nat_le, nat_lt, option_map}
use Rattle.std.proofs.Math.Bool.{and-false}
use Rattle.std.specs.Duration.{as_nanos}
use Rattle.std.specs.declared.time.Duration.{Duration}
use Rattle.std.specs.declared.cmp.Ordering.{Ordering}
use Rattle.std.proofs.lemmas.Bool.Decides.{nat_tests}
use Rattle.p2p_tracker.specs.Calls.{Settings, Call, Cooldown}
use Rattle.p2p_tracker.specs.Calls.Call.{UnblockExpired, ForgetCooled}
use Rattle.p2p_tracker.specs.Calls.Event.{Expired, Forgot}
use Rattle.p2p_tracker.specs.Directory.{dial_moment_in}
use Rattle.p2p_tracker.specs.Lists.{IsLeastOf}
use Rattle.p2p_tracker.specs.Seen.{unblock_of, cooldown_of}
use Rattle.p2p_tracker.specs.World.{World, unblock_after, cooldown_after}
use Rattle.p2p_directory.specs.Nodes.{NodeView, NodeStandsAt, Made}
use Rattle.p2p_directory.specs.Run.{world_after}
use Rattle.p2p_directory.proofs.Definitions.Law
use Rattle.p2p_driver.specs.Arrivals.{has_number, deadline_of, IsLeastDeadline}
use Rattle.p2p_driver.specs.Drivers.{DriverView}
use Rattle.p2p_driver.specs.Links.{link_of, is_timed, is_open, is_late, is_to_ask, ask_at, due, next_of, IsLeastDue}
use Rattle.p2p_driver.specs.Steps.{dials_by, is_before}
use Rattle.p2p_driver.specs.Grants.{kept_grant, is_cooled, cooled_at, IsLeastCooled}
use Rattle.p2p_driver.specs.Timers.{NoneLate, NoneToAsk, NoneCooled, NoneToDial, earlier, held_moment, dial_at, dial_due, IsNextTimeout}
use Rattle.p2p_driver.specs.declared.arrivals.Arrival.{Arrival}
use Rattle.p2p_driver.specs.declared.links.Held.{Held}
use Rattle.p2p_driver.specs.declared.pace.Pace.{Pace}
use Rattle.p2p_driver.specs.declared.links.Phase.{Phase}
use Rattle.p2p_driver.specs.declared.links.Phase.TheVariants as phase
use Rattle.p2p_driver.proofs.Entries.{found_at}

some_is : {A : Type 0} {x y : A} → Some x ≡ Some y → x ≡ y
some_is e = cc

no_some : {A : Type 0} (x : A) → ¬ (None ≡ Some x)
no_some x is = cc

abbrev IsLater : ℕ → Option ℕ → Type 0
IsLater t next = IfSome next (λ n. t < n)

not_yet : (a t : ℕ) → t < a → nat_le a t ≡ false
not_yet a t later = grind (arith, nat_tests)

-- BOTH OF TWO, and all of some

both : (t : ℕ) (a b : Option ℕ) → IsLater t (earlier a b) → IsLater t a × IsLater t b
both t None b later = (tt, later)
both t (Some m) None later = (later, tt)
both t (Some m) (Some n) later = (grind (arith), grind (arith))

not_held : (t : ℕ) (o : Option ℕ) → IsLater t (held_moment o) → IsLater t o
not_held t None later = tt
not_held t (Some n) later = grind (arith)

each_of : {C : Type 0} (t : ℕ) (moment : C → Option ℕ) (least : Option ℕ) → IsLeastOf moment least → IsLater t least →
    (p : C) (n : ℕ) → moment p ≡ Some n → t < n
each_of t moment None is later p n at = absurd (no_some n (sym (is p) ∙ at))
each_of t moment (Some m) is later p n at = let low = is.1 p n at in omega (arith, later, low)

each_stream : {C : Type 0} (t first handshake : ℕ) (xs : List (Arrival C)) (least : Option ℕ) → IsLeastDeadline first handshake xs least →
    IsLater t least → (n : ℕ) (a : Arrival C) → find (has_number n) xs ≡ Some a → t < deadline_of first handshake a
each_stream t first handshake xs None is later n a at = absurd (no_some a (sym (ap (find (has_number n)) is) ∙ at))
each_stream t first handshake xs (Some least) is later n a at = let found = found_at (has_number n) xs a at in
    let low = is.0 found.0 a found.1 in omega (arith, later, low)

-- of a link whose moment is later nothing is due
module _ (pace : Pace) (t : ℕ) (held : Held) where
  nothing_due : t < next_of pace held → (is_late pace t held ≡ false) × (is_to_ask (as_nanos pace.tick) t held ≡ false)
  nothing_due later = go held.phase later
    where
      first : (a b : ℕ) → t < min a b → t < a
      first a b less = grind (arith)

      second : (a b : ℕ) → t < min a b → t < b
      second a b less = grind (arith)

      go : (ph : Phase) → t < (if is_open ph then min (due pace held) (ask_at (as_nanos pace.tick) held) else due pace held) →
          ((is_timed ph && nat_le (due pace held) t) ≡ false) × ((is_open ph && nat_le (ask_at (as_nanos pace.tick) held) t) ≡ false)
      go phase.Greeting later = (not_yet (due pace held) t later, refl)
      go phase.Open later = (
        not_yet (due pace held) t (first (due pace held) (ask_at (as_nanos pace.tick) held) later),
        not_yet (ask_at (as_nanos pace.tick) held) t (second (due pace held) (ask_at (as_nanos pace.tick) held) later),
      )
      go phase.Closing later = (refl, refl)

  untimed : is_timed held.phase ≡ false → (is_late pace t held ≡ false) × (is_to_ask (as_nanos pace.tick) t held ≡ false)
  untimed is = go held.phase is
    where
      go : (ph : Phase) → is_timed ph ≡ false →
          ((is_timed ph && nat_le (due pace held) t) ≡ false) × ((is_open ph && nat_le (ask_at (as_nanos pace.tick) held) t) ≡ false)
      go phase.Greeting is = absurd cc
      go phase.Open is = absurd cc
      go phase.Closing is = (refl, refl)

module _ {C S : Type 0} (cmp : C → C → Ordering) (t : ℕ) (v : DriverView C S) (next : Option ℕ) (is : IsNextTimeout cmp v next) (later : IsLater t next) where
  -- what is due of each kind is later
  all : IsLater t (earlier (held_moment (dial_due v)) (held_moment is.kept))
      × IsLater t (earlier (earlier (held_moment is.stream) (held_moment is.link)) (earlier is.block is.cooldown))
  all = both t (earlier (held_moment (dial_due v)) (held_moment is.kept))
      (earlier (earlier (held_moment is.stream) (held_moment is.link)) (earlier is.block is.cooldown)) (subst (IsLater t) is.next_is later)

  dials : IsLater t (held_moment (dial_due v)) × IsLater t (held_moment is.kept)
  dials = both t (held_moment (dial_due v)) (held_moment is.kept) all.0

  parts : IsLater t (earlier (earlier (held_moment is.stream) (held_moment is.link)) (earlier is.block is.cooldown))
  parts = all.1

  one : IsLater t (earlier (held_moment is.stream) (held_moment is.link)) × IsLater t (earlier is.block is.cooldown)
  one = both t (earlier (held_moment is.stream) (held_moment is.link)) (earlier is.block is.cooldown) parts

  of_link : (p : C) (held : Held) → link_of cmp v.links p ≡ Some held →
      (is_late v.pace t held ≡ false) × (is_to_ask (as_nanos v.pace.tick) t held ≡ false)
  of_link p held linked = go is.link is.links (not_held t is.link (both t (held_moment is.stream) (held_moment is.link) one.0).1)
    where
      by : (b : Bool) → is_timed held.phase ≡ b → (is_timed held.phase ≡ true → t < next_of v.pace held) →
          (is_late v.pace t held ≡ false) × (is_to_ask (as_nanos v.pace.tick) t held ≡ false)
      by true at less = nothing_due v.pace t held (less at)
      by false at less = untimed v.pace t held at

      go : (least : Option ℕ) → IsLeastDue cmp (next_of v.pace) v.links least → IsLater t least →
          (is_late v.pace t held ≡ false) × (is_to_ask (as_nanos v.pace.tick) t held ≡ false)
      go None none later = untimed v.pace t held (none p held linked)
      go (Some least) low later = by (is_timed held.phase) refl (λ timed. let less = low.0 p held linked timed in omega (arith, later, less))

  -- no stream and no link is late
  pub none_late : NoneLate cmp t v
  none_late = record {
    streams = each_stream t (as_nanos v.pace.first) (as_nanos v.pace.handshake) v.arrivals is.stream is.streams
        (not_held t is.stream (both t (held_moment is.stream) (held_moment is.link) one.0).0);
    links = λ p held linked. (of_link p held linked).0;
  }

  -- no peer is to be asked
  pub none_to_ask : NoneToAsk cmp t v
  none_to_ask = λ p held linked. (of_link p held linked).1

  -- no kept grant's cooldown is over
  pub none_cooled : NoneCooled cmp t v
  none_cooled p = go (kept_grant cmp v.links v.next_dial.grants p) refl
    where
      low : (least : Option ℕ) → IsLeastCooled cmp v.cooldown v.links v.next_dial.grants least → IsLater t least → (granted : Duration) →
          kept_grant cmp v.links v.next_dial.grants p ≡ Some granted → t < cooled_at v.cooldown granted
      low None none later granted has = absurd (no_grant granted (sym (none p) ∙ has))
        where
          no_grant : (granted : Duration) → ¬ (None ≡ Some granted)
          no_grant granted is = cc
      low (Some least) lower later granted has = let less = lower.0 p granted has in omega (arith, later, less)

      go : (o : Option Duration) → kept_grant cmp v.links v.next_dial.grants p ≡ o → is_cooled v.cooldown t o ≡ false
      go None has = refl
      go (Some granted) has = not_yet (cooled_at v.cooldown granted) t (low is.kept is.grants (not_held t is.kept dials.1) granted has)

  -- nobody is to be dialled
  pub none_to_dial : NoneToDial t v
  none_to_dial = go (dials_by v.pace v.links) refl (dial_at v) (not_held t (dial_due v) dials.0)
    where
      go : (b : Bool) → dials_by v.pace v.links ≡ b → (at : Option ℕ) → IsLater t (if dials_by v.pace v.links then at else None) →
          (not (is_before t at) && dials_by v.pace v.links) ≡ false
      go false is at later = ap (λ x. not (is_before t at) && x) is ∙ and-false (not (is_before t at))
      go true is None later = refl
      go true is (Some m) later = ap (λ x. not x && dials_by v.pace v.links) (before m (subst (λ x. IsLater t (if x then Some m else None)) is later))
        where
          before : (m : ℕ) → t < m → nat_lt t m ≡ true
          before m less = grind (arith, nat_tests)

  -- no block ends, and no cooldown
  pub no_block : (p : C) (n : ℕ) → unblock_of cmp v.node.directory p ≡ Some n → t < n
  no_block = each_of t (unblock_of cmp v.node.directory) is.block is.blocks (both t is.block is.cooldown one.1).0

  pub no_cooldown : (p : C) (n : ℕ) → dial_moment_in cmp v.node.directory p ≡ Some n → t < n
  no_cooldown = each_of t (dial_moment_in cmp v.node.directory) is.cooldown is.cooldowns (both t is.block is.cooldown one.1).1

-- so time that passes leaves them
module _ {C S : Type 0} (m : Made C S) (some : 1 ≤ m.directory.max_sets) (cs : List (Call C S)) (t : ℕ) (v v2 : NodeView C S)
    (at : NodeStandsAt m cs v) (at2 : NodeStandsAt m (UnblockExpired t ∷ ForgetCooled t ∷ cs) v2) (p : C) where
  abbrev d : Settings C S
  d = m.directory

  unexpired : (o : Option ℕ) → ((n : ℕ) → o ≡ Some n → t < n) → unblock_after d p (Expired t) o ≡ o
  unexpired None later = refl
  unexpired (Some n) later = ap (λ b. if b then None else Some n) (not_yet n t (later n refl))

  unforgotten : (o : Option Cooldown) → ((c : Cooldown) → o ≡ Some c → t < c.dial_at) → cooldown_after d p (Forgot t) o ≡ o
  unforgotten None later = refl
  unforgotten (Some c) later = ap (λ b. if b then None else Some c) (not_yet c.dial_at t (later c refl))

  pub same_block : ((n : ℕ) → unblock_of d.cmp v.directory p ≡ Some n → t < n) → unblock_of d.cmp v2.directory p ≡ unblock_of d.cmp v.directory p
  same_block later = at2.refines.blocks p
      ∙ ap (λ (w : World C S). w.unblock p) (Law.recomputed_is_one_step d some (ForgetCooled t ∷ cs) (UnblockExpired t))
      ∙ ap (λ (w : World C S). unblock_after d p (Expired t) (w.unblock p)) (Law.recomputed_is_one_step d some cs (ForgetCooled t))
      ∙ unexpired ((world_after d cs).unblock p) (λ n is. later n (at.refines.blocks p ∙ is))
      ∙ sym (at.refines.blocks p)

  pub same_cooldown : ((n : ℕ) → dial_moment_in d.cmp v.directory p ≡ Some n → t < n) → cooldown_of d.cmp v2.directory p ≡ cooldown_of d.cmp v.directory p
  same_cooldown later = at2.refines.cooldowns p
      ∙ ap (λ (w : World C S). w.cooldown p) (Law.recomputed_is_one_step d some (ForgetCooled t ∷ cs) (UnblockExpired t))
      ∙ ap (λ (w : World C S). w.cooldown p) (Law.recomputed_is_one_step d some cs (ForgetCooled t))
      ∙ unforgotten ((world_after d cs).cooldown p) (λ c is. later c.dial_at
      (ap (option_map (λ (x : Cooldown). x.dial_at)) (at.refines.cooldowns p ∙ is)))
      ∙ sym (at.refines.cooldowns p)
