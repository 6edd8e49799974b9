-- How a set that comes makes a driver stand, by its parts.
use Rattle.std.proofs.Common.{◌≡◌, ℕ, ◌+◌, ◌≤◌, List, [], ◌∷◌, ◌++◌, Some, None, refl, sym, subst}
use Rattle.std.proofs.Common.{arith}
use Rattle.std.specs.Prelude.{if◌then◌else◌, option_map, length}
use Rattle.std.specs.Duration.{as_nanos}
use Rattle.std.specs.declared.cmp.Ordering.{Ordering}
use Rattle.std.specs.declared.time.Duration.{Duration}
use Rattle.p2p_discovery.specs.Ordered.{has_key}
use Rattle.p2p_tracker.specs.Calls.Call.{Track}
use Rattle.p2p_directory.specs.Nodes.{NodeView}
use Rattle.p2p_directory.specs.Received.{Wire}
use Rattle.p2p_driver.specs.Actions.{ActionsView}
use Rattle.p2p_driver.specs.Answers.{AnswersView}
use Rattle.p2p_driver.specs.Drivers.{DriverView, DriverStandsAt, HasRoom, Does, seen, base_of}
use Rattle.p2p_driver.specs.Happenings.{Happening, calls_of, shut_all}
use Rattle.p2p_driver.specs.Links.{link_of, count_of, needs, closed}
use Rattle.p2p_driver.specs.Meters.{MetersView}
use Rattle.p2p_driver.specs.Steps.{Makes, TearsDown}
use Rattle.p2p_driver.specs.declared.actions.Action.{Action}
use Rattle.p2p_driver.specs.declared.arrivals.Arrival.{Arrival}
use Rattle.p2p_driver.specs.declared.links.Direction.{Direction}
use Rattle.p2p_driver.specs.declared.links.Held.{Held}
use Rattle.p2p_driver.specs.declared.pace.Pace.{Pace}
use Rattle.p2p_driver.specs.declared.next_dial.NextDial.{NextDial}
use Rattle.p2p_driver.proofs.Driving.{slotted, unslotted}
use Rattle.p2p_driver.proofs.Standing
use Rattle.p2p_driver.proofs.Standing.{IsSoon}

module _ {C : Type 0} where
  -- the room for what may have to be said is that of links that were closed
  pub room_stays : (arrivals : List (Arrival C)) (answers : AnswersView) (links links2 : List (C × Held)) (actions actions2 : ActionsView C) →
      HasRoom arrivals answers links actions → needs links2 + actions.room ≡ actions2.room + needs links →
      HasRoom arrivals answers links2 actions2
  room_stays arrivals answers links links2 actions actions2 has is = record {
    actions_fit = let fit = has.actions_fit in grind (arith);
    answers_fit = has.answers_fit;
  }

module _ {C S : Type 0} (cmp : C → C → Ordering) (wire : Wire C S) (node : NodeView C S) (pace : Pace)
    (greeting : List ℕ) (cooldown : ℕ) (dial : NextDial C) (latest next : ℕ) (arrivals : List (Arrival C)) (answers : AnswersView) (reads : List (ℕ × MetersView))
    (links : List (C × Held)) (actions : List (Action C)) where
  abbrev v : DriverView C S
  v = seen node pace greeting cooldown dial latest next arrivals answers reads links actions

  -- a set came that was accepted
  pub tears : (index : ℕ) (primary secondary torn : List C) (t : Duration) (node2 : NodeView C S) (dial2 : NextDial C)
      (links2 : List (C × Held)) (actions2 : List (Action C)) → IsSoon dial dial2 → latest ≤ as_nanos t →
      length primary ≤ node.limits.max_bit_vec → Makes cmp (Track index primary secondary ∷ []) node node2 →
      TearsDown cmp index primary secondary (Some torn) node →
      ((q : C) → link_of cmp links2 q ≡ (if has_key cmp torn q then option_map closed (link_of cmp links q) else link_of cmp links q)) →
      ((way : Direction) → count_of way links2 ≡ count_of way links) → actions2 ≡ actions ++ shut_all cmp torn (link_of cmp links) →
      Does cmp wire (Happening.SetCame t index primary secondary torn) v
      (seen node2 pace greeting cooldown dial2 (as_nanos t) next arrivals answers reads links2 actions2)
  tears index primary secondary torn t node2 dial2 links2 actions2 once after few made torn_is tied same said = record {
    goes = λ given pace2 h at.
        let stood = slotted at.node in
        subst (λ acts. DriverStandsAt (base_of cmp wire given pace2) (Happening.SetCame t index primary secondary torn ∷ h)
        (seen node2 pace greeting cooldown dial2 (as_nanos t) next arrivals answers reads links2 acts)) (sym said)
        (Standing.tears (base_of cmp wire given pace2) h v at t index primary secondary torn
        (record node2 { slots = [] }) dial2 links2 (shut_all cmp torn (link_of cmp links)) once
        (subst (λ limits. length primary ≤ limits.max_bit_vec) at.node.limits few, torn_is given (calls_of h) stood)
        after (unslotted (made given (calls_of h) stood))
        tied same refl);
  }

  -- a set came that wasn't
  pub stales : (index : ℕ) (primary secondary : List C) (node2 : NodeView C S) (dial2 : NextDial C) → IsSoon dial dial2 →
      length primary ≤ node.limits.max_bit_vec → Makes cmp (Track index primary secondary ∷ []) node node2 →
      TearsDown cmp index primary secondary None node →
      Does cmp wire (Happening.StaleSetCame index primary secondary) v
      (seen node2 pace greeting cooldown dial2 latest next arrivals answers reads links actions)
  stales index primary secondary node2 dial2 once few made torn_is = record {
    goes = λ given pace2 h at.
        let stood = slotted at.node in
        Standing.stale (base_of cmp wire given pace2) h v at index primary secondary (record node2 { slots = [] }) dial2 once
        (subst (λ limits. length primary ≤ limits.max_bit_vec) at.node.limits few, torn_is given (calls_of h) stood)
        (unslotted (made given (calls_of h) stood));
  }
