-- How what an application tells a driver makes it stand, by its parts.
use Rattle.std.proofs.Common.{◌≡◌, Bool, true, false, not, ℕ, ◌≤◌, ◌<◌, ◌+◌, ◌-◌, cond, List, [], ◌∷◌, ◌++◌, Option, Some, None, refl, sym, ◌∙◌, ap, subst, arith}
use Rattle.std.specs.Prelude.{is_some, option_map, length, max, if◌then◌else◌}
use Rattle.std.specs.BTreeMap.{is_at}
use Rattle.std.specs.List.{count_by}
use Rattle.std.specs.Option.{IsSomeAnd}
use Rattle.std.proofs.lemmas.List.Sums.{sum_by-append}
use Rattle.std.proofs.lemmas.Map.Lookups.{CmpEqualImpliesEq}
use Rattle.std.proofs.lemmas.Map.Views.{tells_apart}
use Rattle.std.specs.Duration.{as_nanos}
use Rattle.std.specs.declared.cmp.Ordering.{Ordering}
use Rattle.std.specs.declared.time.Duration.{Duration}
use Rattle.p2p_discovery.specs.declared.discovery.Info.{Info}
use Rattle.p2p_tracker.specs.Calls.Call.{Update, Block}
use Rattle.p2p_directory.specs.Nodes.{NodeView}
use Rattle.p2p_directory.specs.Received.{Wire}
use Rattle.p2p_driver.specs.Actions.{is_sent_on}
use Rattle.p2p_driver.specs.Answers.{AnswersView}
use Rattle.p2p_driver.specs.Drivers.{DriverView, DriverStandsAt, Base, Does, AnswersPart, AnswersWritten, IsAllWritten, PartedBy, untaken, seen, base_of}
use Rattle.p2p_driver.specs.Happenings.{Happening, calls_of, shut, closed_at, taken}
use Rattle.p2p_driver.specs.Links.{link_of, count_of, writing}
use Rattle.p2p_driver.specs.Meters.{MetersView}
use Rattle.p2p_driver.specs.Steps.{Makes, IsBlocked}
use Rattle.p2p_driver.specs.declared.actions.Action.{Action}
use Rattle.p2p_driver.specs.declared.actions.Why.TheVariants as why
use Rattle.p2p_driver.specs.declared.arrivals.Arrival.{Arrival}
use Rattle.p2p_driver.specs.declared.links.Direction.{Direction}
use Rattle.p2p_driver.specs.declared.links.Held.{Held}
use Rattle.p2p_driver.specs.declared.pace.Pace.{Pace}
use Rattle.p2p_driver.specs.declared.next_dial.NextDial.{NextDial}
use Rattle.p2p_driver.proofs.Driving.{slotted, unslotted}
use Rattle.p2p_driver.proofs.Standing
use Rattle.p2p_driver.proofs.Standing.{IsSoon}

module _ {C S : Type 0} (cmp : C → C → Ordering) (wire : Wire C S) (node : NodeView C S) (pace : Pace)
    (greeting : List ℕ) (cooldown : ℕ) (dial : NextDial C) (latest next : ℕ) (arrivals : List (Arrival C)) (answers : AnswersView) (reads : List (ℕ × MetersView))
    (links : List (C × Held)) (actions : List (Action C)) where
  abbrev v : DriverView C S
  v = seen node pace greeting cooldown dial latest next arrivals answers reads links actions

  -- infos came
  pub gives : (infos : List (Info C S)) (t : Duration) (node2 : NodeView C S) (dial2 : NextDial C) → IsSoon dial dial2 → latest ≤ as_nanos t →
      Makes cmp (Update infos ∷ []) node node2 →
      Does cmp wire (Happening.Given infos t) v
      (seen node2 pace greeting cooldown dial2 (as_nanos t) next arrivals answers reads links actions)
  gives infos t node2 dial2 once after made = record {
    goes = λ given pace2 h at.
        Standing.gives (base_of cmp wire given pace2) h v at infos t (record node2 { slots = [] }) dial2 once after
        (unslotted (made given (calls_of h) (slotted at.node)));
  }

  -- a peer was blocked
  pub bars : (p : C) (t : Duration) (taken : Bool) (node2 : NodeView C S) (dial2 : NextDial C) (links2 : List (C × Held))
      (actions2 : List (Action C)) → IsSoon dial dial2 → latest ≤ as_nanos t →
      Makes cmp (Block p (as_nanos t) ∷ []) node node2 → IsBlocked cmp p (as_nanos t) (Some taken) node →
      ((q : C) → link_of cmp links2 q ≡ closed_at cmp p (link_of cmp links) q) → ((way : Direction) → count_of way links2 ≡ count_of way links) →
      actions2 ≡ actions ++ shut p why.Blocked (link_of cmp links p) →
      Does cmp wire (Happening.Barred p t taken) v
      (seen node2 pace greeting cooldown dial2 (as_nanos t) next arrivals answers reads links2 actions2)
  bars p t taken node2 dial2 links2 actions2 once after made is tied same said = record {
    goes = λ given pace2 h at.
        let b = base_of cmp wire given pace2 in
        let stood = slotted at.node in
        subst (λ acts. DriverStandsAt b (Happening.Barred p t taken ∷ h)
        (seen node2 pace greeting cooldown dial2 (as_nanos t) next arrivals answers reads links2 acts)) (sym said)
        (Standing.bars b h v at p t taken (record node2 { slots = [] }) dial2 links2 once
        (is given (calls_of h) stood) after (unslotted (made given (calls_of h) stood)) tied same);
  }

  -- the application parts from a peer
  pub parts : (p : C) (t : Duration) (links2 : List (C × Held)) (actions2 : List (Action C)) →
      is_some (link_of cmp links p) ≡ true → latest ≤ as_nanos t →
      ((q : C) → link_of cmp links2 q ≡ closed_at cmp p (link_of cmp links) q) → ((way : Direction) → count_of way links2 ≡ count_of way links) →
      actions2 ≡ actions ++ shut p why.Application (link_of cmp links p) →
      Does cmp wire (Happening.Parted p t) v
      (seen node pace greeting cooldown dial (as_nanos t) next arrivals answers reads links2 actions2)
  parts p t links2 actions2 linked after tied same said = record {
    goes = λ given pace2 h at.
        let b = base_of cmp wire given pace2 in
        subst (λ acts. DriverStandsAt b (Happening.Parted p t ∷ h)
        (seen node pace greeting cooldown dial (as_nanos t) next arrivals answers reads links2 acts)) (sym said)
        (Standing.parts b h v at p t links2 (sym (ap is_some (at.links p)) ∙ linked) after tied same);
  }

  -- as many frames were said on link n and not taken as wait that are sent on it
  untaken_is : (b : Base C S) (h : List (Happening C S)) (n : ℕ) → DriverStandsAt b h v → untaken b h n ≡ count_by (is_sent_on n) actions
  untaken_is b h n at = let all = ap (count_by (is_sent_on n)) at.actions in
      let sums = sum_by-append (λ a. cond (is_sent_on n a) 1 0) (taken h) actions in go _ _ _ _ all sums
    where
      go : (both told here there : ℕ) → both ≡ told → both ≡ here + there → told - here ≡ there
      go both told here there all sums = omega (arith, all, sums)

  -- a frame was written
  pub writes : (n : ℕ) (p : C) (held : Held) (t : Duration) (links2 : List (C × Held)) →
      link_of cmp links p ≡ Some held → held.number ≡ n → count_by (is_sent_on n) actions < length held.unwritten → latest ≤ as_nanos t →
      ((q : C) → link_of cmp links2 q ≡ (if is_at (cmp p) q then option_map writing (link_of cmp links q) else link_of cmp links q)) →
      ((way : Direction) → count_of way links2 ≡ count_of way links) →
      Does cmp wire (Happening.Written n p t) v (seen node pace greeting cooldown dial (as_nanos t) next arrivals answers reads links2 actions)
  writes n p held t links2 linked number few after tied same = record {
    goes = λ given pace2 h at.
        let b = base_of cmp wire given pace2 in
        Standing.writes b h v at n p t links2
        (subst (λ o. IsSomeAnd o (λ held. (held.number ≡ n) × (untaken b h n < length held.unwritten))) (sym linked ∙ at.links p)
        (number, subst (λ k. k < length held.unwritten) (sym (untaken_is b h n at)) few)) after tied same;
  }

-- how `written` is answered
module _ {C S : Type 0} (cmp : C → C → Ordering) (wire : Wire C S) (n now : ℕ) (v w v2 : DriverView C S) (same : v ≡ w) where
  pub write_answered : (p : C) (t : Duration) → as_nanos t ≡ max v.latest now →
      Does cmp wire (Happening.Written n p t) v v2 → AnswersWritten cmp wire n now true w v2
  write_answered p t in_time does = subst (λ x. AnswersWritten cmp wire n now true x v2) same (p, (t, in_time, does))

  -- .. since the link is the only one with the number, and all its frames that were taken are written
  pub none_unwritten : CmpEqualImpliesEq cmp → (p : C) (held : Held) → link_of cmp v.links p ≡ Some held →
      ((q : C) (h : Held) → link_of cmp v.links q ≡ Some h → h.number ≡ n → is_at (cmp p) q ≡ true) →
      length held.unwritten ≤ count_by (is_sent_on n) v.actions → AnswersWritten cmp wire n now false w w
  none_unwritten exact p held linked only few = (
    refl,
    subst (IsAllWritten cmp wire n) same (λ q h of_q number.
        subst (λ (x : Held). length x.unwritten ≤ count_by (is_sent_on n) v.actions)
        (some_is (sym linked ∙ ap (link_of cmp v.links) (tells_apart exact p q (only q h of_q number)) ∙ of_q)) few),
  )
    where
      some_is : {x y : Held} → Some x ≡ Some y → x ≡ y
      some_is e = cc

  -- .. since there is no such link
  pub none_linked : ((q : C) (h : Held) → link_of cmp v.links q ≡ Some h → h.number ≡ n → ⊥) → AnswersWritten cmp wire n now false w w
  none_linked none = (refl, subst (IsAllWritten cmp wire n) same (λ q h of_q number. absurd (none q h of_q number)))

-- how `part` is answered
module _ {C S : Type 0} (cmp : C → C → Ordering) (wire : Wire C S) (p : C) (now : ℕ) (v w v2 : DriverView C S) where
  pub part_answered : v ≡ w → is_some (link_of cmp v.links p) ≡ true → (t : Duration) → as_nanos t ≡ max v.latest now →
      Does cmp wire (Happening.Parted p t) v v2 → AnswersPart cmp wire p now true w v2
  part_answered same some t in_time does = subst (λ x. AnswersPart cmp wire p now true x v2) same
      (subst (λ b. PartedBy cmp wire b true p now v v2) (sym some) (t, in_time, does))

-- there is one, if it isn't so that there is none
pub there_is : {A B : Type 0} (f : A → B) (o : Option A) (l : Option B) (b : Bool) → option_map f o ≡ l →
    is_some o ≡ not b → b ≡ false → is_some l ≡ true
there_is f None l b is some isnt = absurd (none b some isnt)
  where
    none : (b : Bool) → false ≡ not b → b ≡ false → ⊥
    none true some isnt = cc
    none false some isnt = cc
there_is f (Some x) l b is some isnt = sym (ap is_some is)
