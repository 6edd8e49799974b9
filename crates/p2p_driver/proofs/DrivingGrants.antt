-- How the grants that are given up make a driver stand, by its parts.
use Rattle.std.proofs.Common.{◌≡◌, ℕ, ◌<◌, true, List, [], ◌∷◌, ◌++◌, Option, Some, None, refl, sym, ◌∙◌, ap, subst}
use Rattle.std.specs.Prelude.{is_some, length, max, if◌then◌else◌}
use Rattle.std.specs.BTreeMap.{is_at}
use Rattle.std.specs.Duration.{as_nanos}
use Rattle.std.specs.Map.{remove_entry}
use Rattle.std.specs.declared.cmp.Ordering.{Ordering}
use Rattle.std.specs.declared.time.Duration.{Duration}
use Rattle.std.proofs.lemmas.List.{append_assoc}
use Rattle.p2p_tracker.specs.Calls.Call.{Release}
use Rattle.p2p_directory.specs.Nodes.{NodeView}
use Rattle.p2p_directory.specs.Received.{Wire}
use Rattle.p2p_driver.specs.Answers.{AnswersView}
use Rattle.p2p_driver.specs.Drivers.{DriverView, DriverStandsAt, Does, DoesAndFrees, NoneUnfit, seen, base_of}
use Rattle.p2p_driver.specs.Grants.{grant_of, unless_linked}
use Rattle.p2p_driver.specs.Happenings.{Happening}
use Rattle.p2p_driver.specs.Links.{link_of}
use Rattle.p2p_driver.specs.Meters.{MetersView}
use Rattle.p2p_driver.specs.Steps.{Makes}
use Rattle.p2p_driver.specs.Timers.{FreesOne, FreesSome, NoneLate, NoneToAsk}
use Rattle.p2p_driver.specs.declared.actions.Action.{Action}
use Rattle.p2p_driver.specs.declared.arrivals.Arrival.{Arrival}
use Rattle.p2p_driver.specs.declared.links.Held.{Held}
use Rattle.p2p_driver.specs.declared.next_dial.NextDial.{NextDial}
use Rattle.p2p_driver.specs.declared.pace.Pace.{Pace}
use Rattle.p2p_driver.proofs.DrivingLinks.{IsOver, over_kept, frees_as}
use Rattle.p2p_driver.proofs.KeptGrants.{fewer_removed}
use Rattle.p2p_driver.proofs.Standing.{IsAtOnce}

-- a grant that is kept is there
granted : (o : Option Held) (at : Option Duration) → is_some (unless_linked o at) ≡ true → is_some at ≡ true
granted None at has = has
granted (Some held) at has = absurd cc

module _ {C S : Type 0} (cmp : C → C → Ordering) (wire : Wire C S) (node : NodeView C S) (pace : Pace)
    (greeting : List ℕ) (cooldown : ℕ) (dial : NextDial C) (latest next : ℕ) (arrivals : List (Arrival C)) (answers : AnswersView) (reads : List (ℕ × MetersView))
    (links : List (C × Held)) (actions : List (Action C)) where
  abbrev v : DriverView C S
  v = seen node pace greeting cooldown dial latest next arrivals answers reads links actions

  -- the grant that was kept of a peer is given up
  pub frees_one : (p : C) (t : Duration) (node2 : NodeView C S) (dial2 : NextDial C) → IsAtOnce dial dial2 → latest ≡ as_nanos t →
      IsOver node pace greeting cooldown dial latest next arrivals answers reads links actions cmp p t → Makes cmp (Release p ∷ []) node node2 →
      ((q : C) → grant_of cmp dial2.grants q ≡ (if is_at (cmp p) q then None else grant_of cmp dial.grants q)) →
      dial2.grants ≡ remove_entry (is_at (cmp p)) dial.grants →
      FreesOne cmp wire t v (seen node2 pace greeting cooldown dial2 latest next arrivals answers reads links actions)
  frees_one p t node2 dial2 once now over made spent entries = record {
    peer = p;
    does = frees_as node pace greeting cooldown dial latest next arrivals answers reads links actions p t node2 dial2 once now over made spent;
    rest = refl;
    fewer = subst (λ gs. length gs < length dial.grants) (sym entries) (fewer_removed (is_at (cmp p)) dial.grants
        (granted (link_of cmp links p) (grant_of cmp dial.grants p)
        (over_kept node pace greeting cooldown dial latest next arrivals answers reads links actions cmp p t over)));
  }

module _ {C S : Type 0} (cmp : C → C → Ordering) (wire : Wire C S) (t : Duration) where
  -- no grant was given up
  pub frees_none : (v : DriverView C S) → FreesSome cmp wire t v v
  frees_none v = record { happenings = []; are_freed = tt; does = λ given pace h at. at; rest = refl }

  -- one more was
  pub frees_more : (v v2 v3 : DriverView C S) → FreesSome cmp wire t v v2 → FreesOne cmp wire t v2 v3 → FreesSome cmp wire t v v3
  frees_more v v2 v3 before one = record {
    happenings = Happening.Released one.peer t ∷ before.happenings;
    are_freed = (refl, before.are_freed);
    does = λ given pace h at. one.does.goes given pace (before.happenings ++ h) (before.does given pace h at);
    rest = one.rest ∙ ap (λ (x : DriverView C S). record x { node = v3.node; next_dial = v3.next_dial }) before.rest;
  }

  -- nothing else is late that wasn't, and nobody is to be asked that wasn't
  pub frees_late : (v v2 : DriverView C S) → FreesSome cmp wire t v v2 → NoneLate cmp (as_nanos t) v → NoneLate cmp (as_nanos t) v2
  frees_late v v2 frees none = subst (NoneLate cmp (as_nanos t)) (sym frees.rest) (record { streams = none.streams; links = none.links })

  pub frees_asked : (v v2 : DriverView C S) → FreesSome cmp wire t v v2 → NoneToAsk cmp (as_nanos t) v → NoneToAsk cmp (as_nanos t) v2
  frees_asked v v2 frees none = subst (NoneToAsk cmp (as_nanos t)) (sym frees.rest) none

  -- one more happening, and then they were given up
  pub frees_after : (now : ℕ) (e : Duration → Happening C S) (v v2 v3 : DriverView C S) → as_nanos t ≡ max v.latest now → Does cmp wire (e t) v v2 →
      FreesSome cmp wire t v2 v3 → NoneUnfit cmp v3 → DoesAndFrees cmp wire now e v v3
  frees_after now e v v2 v3 is does frees none = record {
    time = t;
    time_is = is;
    freed = frees.happenings;
    are_freed = frees.are_freed;
    does = λ given pace h at. subst (λ k. DriverStandsAt (base_of cmp wire given pace) k v3) (sym (append_assoc frees.happenings (e t ∷ []) h))
        (frees.does given pace (e t ∷ h) (does.goes given pace h at));
    none = none;
  }
