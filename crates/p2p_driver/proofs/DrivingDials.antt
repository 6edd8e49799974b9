-- How dials make a driver stand, by its parts.
use Rattle.std.proofs.Common.{◌≡◌, ◌==◌, ◌+◌, ◌≤◌, ◌<◌, ℕ, Bool, true, false, not, ◌&&◌, ◌||◌, List, [], ◌∷◌, ◌++◌, Option, Some, None, refl, sym, ◌∙◌, ap, subst, inl, inr, arith}
use Rattle.std.specs.Prelude.{if◌then◌else◌, length, max, nat_le, nat_lt, option_map, is_some, Result, Ok, Err}
use Rattle.std.specs.BTreeMap.{is_at}
use Rattle.std.specs.Duration.{as_nanos}
use Rattle.std.specs.Option.{IsSomeAnd}
use Rattle.std.specs.declared.alloc.AllocError.{AllocError}
use Rattle.std.specs.declared.cmp.Ordering.{Ordering}
use Rattle.std.specs.declared.time.Duration.{Duration}
use Rattle.std.proofs.lemmas.Map.Lookups.{CmpEqualImpliesEq}
use Rattle.std.proofs.lemmas.Map.Views.{tells_apart}
use Rattle.p2p_discovery.specs.declared.types.ingress.Ingress.{Ingress}
use Rattle.p2p_tracker.specs.Calls.Call.{Dial}
use Rattle.p2p_directory.specs.Nodes.{NodeView, made_of}
use Rattle.p2p_directory.specs.Received.{Wire}
use Rattle.p2p_driver.specs.Answers.{AnswersView}
use Rattle.p2p_driver.specs.Drivers.{Base, DriverView, DriverStands, DriverStandsAt, Does, DoesAll, DialProvedBy, jitter_of, link, seen, base_of}
use Rattle.p2p_driver.specs.Happenings.{Happening, calls_of, dialing, sent, shut, closed_at, grant_at}
use Rattle.p2p_driver.specs.Links.{link_of, count_of, is_way, is_dialing, is_timed, is_late, is_to_ask, dial_with, reached, saying}
use Rattle.p2p_driver.specs.Grants.{grant_of, kept_grant, unless_linked, is_cooled}
use Rattle.p2p_driver.specs.Meters.{MetersView}
use Rattle.p2p_driver.specs.Reads.{reads_of, unread}
use Rattle.p2p_driver.specs.Steps.{Makes, IsGranted, IsAddress, IsChosen, StaysQuiet, MayBeDialled, IsQuietIn, dials_by, is_before}
use Rattle.p2p_driver.specs.Timers.{is_to_dial, BeginsOne, Begins, DialsOne, NoneCooled}
use Rattle.std.specs.Result.{is_err, IsErr}
use Rattle.p2p_driver.specs.declared.driver.dialing.Dialed.TheVariants as dialed
use Rattle.p2p_driver.specs.declared.actions.Action.{Action}
use Rattle.p2p_driver.specs.declared.actions.Why.TheVariants as why
use Rattle.p2p_driver.specs.declared.arrivals.Arrival.{Arrival}
use Rattle.p2p_driver.specs.declared.links.Direction.{Direction}
use Rattle.p2p_driver.specs.declared.links.Direction.TheVariants.{Dialing, Outbound}
use Rattle.p2p_driver.specs.declared.links.Held.{Held}
use Rattle.p2p_driver.specs.declared.next_dial.NextDial.{NextDial}
use Rattle.p2p_driver.specs.declared.pace.Pace.{Pace}
use Rattle.std.proofs.lemmas.Bool.Decides.{nat_tests}
use Rattle.p2p_directory.specs.Run.{world_after}
use Rattle.p2p_driver.proofs.Driving.{viewed, dials_is, slotted, unslotted}
use Rattle.std.specs.Cmp.{IsTotalOrder}
use Rattle.p2p_tracker.specs.Status.{is_inert}
use Rattle.p2p_tracker.specs.World.{World}
use Rattle.p2p_driver.proofs.Busy.{reserved_is_busy, is_reserved_by}
use Rattle.p2p_driver.proofs.Dialable.{chosen_is_dialable, dialable_is_inert}
use Rattle.p2p_driver.proofs.Lasting.{unread_next}
use Rattle.p2p_driver.proofs.Unused.{unused_next}
use Rattle.p2p_driver.proofs.Standing
use Rattle.p2p_driver.proofs.Standing.{IsAtOnce}

-- what is to be dialled: it is time, no memory was refused just now, and a dial has a place
pub due_parts : {C S : Type 0} (t : ℕ) (v : DriverView C S) → is_to_dial t v ≡ true → (v.next_dial.retry ≤ t) × (dials_by v.pace v.links ≡ true)
due_parts t v due = go (option_map as_nanos v.next_dial.from) (dials_by v.pace v.links) due
  where
    and_true : (x : Bool) → (x && true) ≡ x
    and_true true = refl
    and_true false = refl

    up_to : (m : ℕ) → not (nat_lt t (max m v.next_dial.retry)) ≡ true → v.next_dial.retry ≤ t
    up_to m is = by (nat_lt t (max m v.next_dial.retry)) refl is
      where
        by : (b : Bool) → nat_lt t (max m v.next_dial.retry) ≡ b → not b ≡ true → v.next_dial.retry ≤ t
        by true at is = cc
        by false at is = grind (arith, nat_tests)

    go : (o : Option ℕ) (b : Bool) → (not (is_before t (option_map (λ m. max m v.next_dial.retry) o)) && b) ≡ true → (v.next_dial.retry ≤ t) × (b ≡ true)
    go None b is = absurd cc
    go (Some m) true is = (up_to m (sym (and_true (not (nat_lt t (max m v.next_dial.retry)))) ∙ is), refl)
    go (Some m) false is = absurd (never (not (nat_lt t (max m v.next_dial.retry))) is)
      where
        never : (x : Bool) → ¬ ((x && false) ≡ true)
        never true is = cc
        never false is = cc

-- the chosen one is the same with slots and without
pub chosen_of : {C S : Type 0} (cmp : C → C → Ordering) {t word : ℕ} {p : C} {node : NodeView C S} →
    IsChosen cmp t word p (record node { slots = [] }) → IsChosen cmp t word p node
chosen_of cmp is given calls at = is given calls (unslotted at)

pub chosen_in : {C S : Type 0} (cmp : C → C → Ordering) {t word : ℕ} {p : C} {node : NodeView C S} →
    IsChosen cmp t word p node → IsChosen cmp t word p (record node { slots = [] })
chosen_in cmp is given calls at = is given calls (slotted at)

-- the chosen one may be dialled
pub somebody_chosen : {C S : Type 0} (cmp : C → C → Ordering) {t word : ℕ} {p : C} {node : NodeView C S} → IsTotalOrder cmp →
    IsChosen cmp t word p node → MayBeDialled cmp t node
somebody_chosen cmp {t} {word} {p} total is given calls at = let s = (made_of cmp given).directory in
    (p, chosen_is_dialable s total (world_after s calls) t word p (is given calls at))

pub somebody_of : {C S : Type 0} (cmp : C → C → Ordering) (t : ℕ) {node : NodeView C S} → MayBeDialled cmp t (record node { slots = [] }) → MayBeDialled cmp t node
somebody_of cmp t is given calls at = is given calls (unslotted at)

pub somebody_in : {C S : Type 0} (cmp : C → C → Ordering) (t : ℕ) {node : NodeView C S} → MayBeDialled cmp t node → MayBeDialled cmp t (record node { slots = [] })
somebody_in cmp t is given calls at = is given calls (slotted at)

-- a dial failed, and nothing changed, or it began
pub dial_kept : {C S : Type 0} (cmp : C → C → Ordering) (wire : Wire C S) (t : Duration) (word : ℕ) (p : C) (r : Result (Unit {0}) AllocError) (v v2 : DriverView C S) →
    Begins cmp wire t word p r v v2 → is_err r ≡ true → v2 ≡ v
dial_kept cmp wire t word p (Ok u) v v2 begins is = absurd cc
dial_kept cmp wire t word p (Err e) v v2 begins is = begins

pub dial_began : {C S : Type 0} (cmp : C → C → Ordering) (wire : Wire C S) (t : Duration) (word : ℕ) (p : C) (r : Result (Unit {0}) AllocError) (v v2 : DriverView C S) →
    Begins cmp wire t word p r v v2 → is_err r ≡ false → BeginsOne cmp wire t word p v v2
dial_began cmp wire t word p (Ok u) v v2 begins is = begins
dial_began cmp wire t word p (Err e) v v2 begins is = absurd cc

-- nobody is to be dialled before it is tried again
pub none_till_retry : {C S : Type 0} (t retry : ℕ) (v : DriverView C S) → t < retry →
    is_to_dial t (record v { next_dial = record v.next_dial { retry = retry } }) ≡ false
none_till_retry t retry v later = go (option_map as_nanos v.next_dial.from)
  where
    before : (m : ℕ) → nat_lt t (max m retry) ≡ true
    before m = grind (arith, nat_tests)

    go : (o : Option ℕ) → (not (is_before t (option_map (λ m. max m retry) o)) && dials_by v.pace v.links) ≡ false
    go None = refl
    go (Some m) = ap (λ b. not b && dials_by v.pace v.links) (before m)

-- .. or before somebody may be
pub none_till_query : {C S : Type 0} (t : ℕ) (from : Option Duration) (v : DriverView C S) → is_before t (option_map as_nanos from) ≡ true →
    is_to_dial t (record v { next_dial = record v.next_dial { from = from } }) ≡ false
none_till_query t None v later = refl
none_till_query t (Some m) v later = ap (λ b. not b && dials_by v.pace v.links) before
  where
    before : nat_lt t (max (as_nanos m) v.next_dial.retry) ≡ true
    before = grind (arith, nat_tests)

-- the dial of a peer
abbrev pub IsDial : ℕ → Held → Type 0
IsDial n held = (held.number ≡ n) × (is_dialing held ≡ true) × (is_timed held.phase ≡ true)

module _ {C S : Type 0} (cmp : C → C → Ordering) (wire : Wire C S) (node : NodeView C S) (pace : Pace)
    (greeting : List ℕ) (cooldown : ℕ) (dial : NextDial C) (latest next : ℕ) (arrivals : List (Arrival C)) (answers : AnswersView) (reads : List (ℕ × MetersView))
    (links : List (C × Held)) (actions : List (Action C)) where
  abbrev v : DriverView C S
  v = seen node pace greeting cooldown dial latest next arrivals answers reads links actions

  -- the stream of a dial was proved
  pub reaches : (n : ℕ) (p : C) (held : Held) (t : Duration) (links2 : List (C × Held)) (actions2 : List (Action C)) →
      link_of cmp links p ≡ Some held → IsDial n held → latest ≤ as_nanos t →
      ((q : C) → link_of cmp links2 q ≡ (if is_at (cmp p) q then option_map (λ x. saying (Some t) (reached t x)) (link_of cmp links q) else link_of cmp links q)) →
      ((way : Direction) → count_of way links2 + (if is_way way Dialing then 1 else 0) ≡ count_of way links + (if is_way way Outbound then 1 else 0)) →
      actions2 ≡ actions ++ sent n greeting →
      Does cmp wire (Happening.Reached n p t) v (seen node pace greeting cooldown dial (as_nanos t) next arrivals answers reads links2 actions2)
  reaches n p held t links2 actions2 linked is after tied moved said = record {
    goes = λ given pace2 h at.
        let b = base_of cmp wire given pace2 in
        subst (λ acts. DriverStandsAt b (Happening.Reached n p t ∷ h)
        (seen node pace greeting cooldown dial (as_nanos t) next arrivals answers reads links2 acts)) (sym said)
        (Standing.reaches b h v at n p t links2 (subst (λ o. IsSomeAnd o (IsDial n)) (sym linked ∙ at.links p) is) after tied moved);
  }

  -- .. to be another's
  pub mistakes : (n : ℕ) (p : C) (held : Held) (t : Duration) (links2 : List (C × Held)) (actions2 : List (Action C)) →
      link_of cmp links p ≡ Some held → IsDial n held → latest ≤ as_nanos t →
      ((q : C) → link_of cmp links2 q ≡ closed_at cmp p (link_of cmp links) q) → ((way : Direction) → count_of way links2 ≡ count_of way links) →
      actions2 ≡ actions ++ shut p why.WrongKey (link_of cmp links p) →
      Does cmp wire (Happening.Mistaken n p t) v (seen node pace greeting cooldown dial (as_nanos t) next arrivals answers reads links2 actions2)
  mistakes n p held t links2 actions2 linked is after tied same said = record {
    goes = λ given pace2 h at.
        let b = base_of cmp wire given pace2 in
        subst (λ acts. DriverStandsAt b (Happening.Mistaken n p t ∷ h)
        (seen node pace greeting cooldown dial (as_nanos t) next arrivals answers reads links2 acts)) (sym said)
        (Standing.mistakes b h v at n p t links2 (subst (λ o. IsSomeAnd o (IsDial n)) (sym linked ∙ at.links p) is) after tied same);
  }

  -- what the beginning of a dial asks for: nothing is kept of the number, no link has it, and the peer has none
  pub unread_here : DriverStands cmp wire v → reads_of reads next ≡ None
  unread_here at = unread_next (base_of cmp wire at.given at.pace) at.history v at.stands

  pub unused_here : DriverStands cmp wire v → (q : C) (held : Held) → link_of cmp links q ≡ Some held → held.number ≡ next → ⊥
  unused_here at q held is number = unused_next (base_of cmp wire at.given at.pace) at.history v at.stands q held is number

  unreserved : IsTotalOrder cmp → CmpEqualImpliesEq cmp → (at : DriverStands cmp wire v) → (t word : ℕ) (p : C) → IsChosen cmp t word p node →
      is_reserved_by (base_of cmp wire at.given at.pace) at.history p ≡ false
  unreserved total exact at t word p chosen = isnt (is_inert (w.peer p).status) inert (reserved_is_busy b at.given.cfg.max_sets.ok exact at.history at.stands.right p)
    where
      b : Base C S
      b = base_of cmp wire at.given at.pace

      w : World C S
      w = world_after b.made.directory (calls_of at.history)

      inert : is_inert (w.peer p).status ≡ true
      inert = dialable_is_inert b.made.directory w t p (chosen_is_dialable b.made.directory total w t word p (chosen at.given (calls_of at.history) (slotted at.stands.node)))

      isnt : (x : Bool) → x ≡ true → {y : Bool} → y ≡ not x → y ≡ false
      isnt x is same = same ∙ ap not is

  pub unlinked_here : IsTotalOrder cmp → CmpEqualImpliesEq cmp → DriverStands cmp wire v → (t word : ℕ) (p : C) → IsChosen cmp t word p node →
      link_of cmp links p ≡ None
  unlinked_here total exact at t word p chosen = at.stands.links p
      ∙ go (link (base_of cmp wire at.given at.pace) p at.history) _ (unreserved total exact at t word p chosen)
    where
      go : (o : Option Held) (y : Bool) → (is_some o || y) ≡ false → o ≡ None
      go None y isnt = refl
      go (Some held) y isnt = absurd cc

  -- .. and no grant
  pub ungranted_here : IsTotalOrder cmp → CmpEqualImpliesEq cmp → DriverStands cmp wire v → (t word : ℕ) (p : C) → IsChosen cmp t word p node →
      grant_of cmp dial.grants p ≡ None
  ungranted_here total exact at t word p chosen = at.stands.grants p
      ∙ go (is_some (link (base_of cmp wire at.given at.pace) p at.history)) (grant_at (base_of cmp wire at.given at.pace).made.directory p at.history)
      (unreserved total exact at t word p chosen)
    where
      go : (x : Bool) (o : Option Duration) → (x || is_some o) ≡ false → o ≡ None
      go true o isnt = absurd cc
      go false None isnt = refl
      go false (Some granted) isnt = absurd cc

  -- a dial began
  pub begins : (p : C) (t draw : Duration) (word : ℕ) (ingress : Ingress) (node2 : NodeView C S) (dial2 : NextDial C) (reads2 : List (ℕ × MetersView))
      (links2 : List (C × Held)) (actions2 : List (Action C)) (next2 : ℕ) → IsAtOnce dial dial2 → latest ≡ as_nanos t → is_to_dial (as_nanos t) v ≡ true →
      IsChosen cmp (as_nanos t) word p node → IsGranted cmp p (as_nanos t) (as_nanos draw) node → as_nanos draw ≡ jitter_of cooldown word →
      IsAddress cmp p ingress node → Makes cmp (Dial p (as_nanos t) (as_nanos draw) ∷ []) node node2 →
      ((j : ℕ) → reads_of reads2 j ≡ (if j == next then Some (unread (length pace.channels.items + length pace.channels.items)) else reads_of reads j)) →
      ((q : C) → link_of cmp links2 q ≡ (if is_at (cmp p) q then Some (dial_with next t) else link_of cmp links q)) →
      ((q : C) → grant_of cmp dial2.grants q ≡ (if is_at (cmp p) q then Some t else grant_of cmp dial.grants q)) →
      ((way : Direction) → count_of way links2 ≡ count_of way links + (if is_way way Dialing then 1 else 0)) →
      actions2 ≡ actions ++ dialing next p ingress → next2 ≡ next + 1 →
      Does cmp wire (Happening.Dialed next p t draw word ingress) v (seen node2 pace greeting cooldown dial2 latest next2 arrivals answers reads2 links2 actions2)
  begins p t draw word ingress node2 dial2 reads2 links2 actions2 next2 once now due chosen granted draws address made empty tied given_to more said rises = record {
    goes = λ given pace2 h at.
        let b = base_of cmp wire given pace2 in
        let stood = slotted at.node in
        let parts = due_parts (as_nanos t) v due in
        subst (DriverStandsAt b (Happening.Dialed next p t draw word ingress ∷ h))
        (viewed (record v {
          node = record node2 { slots = [] };
          next_dial = dial2;
          latest = as_nanos t;
          next = next + 1;
          reads = reads2;
          links = links2;
          actions = actions ++ dialing next p ingress;
        }) node2 pace greeting cooldown dial2 latest next2 arrivals answers reads2 links2 actions2
        refl refl refl refl refl (sym now) (sym rises) refl refl refl refl (sym said))
        (Standing.dials b h v at p t draw word ingress (record node2 { slots = [] }) dial2 reads2 links2 once (record {
          number = at.next;
          place = sym (dials_is node pace greeting cooldown dial latest next arrivals answers reads links actions b h at) ∙ parts.1;
          tried = subst (λ r. r ≤ as_nanos t) at.retry parts.0;
          chosen = chosen given (calls_of h) stood;
          draws = draws ∙ ap (λ k. jitter_of k word) at.cooldown;
          address = address given (calls_of h) stood;
          granted = granted given (calls_of h) stood;
        })
        (let is = now in grind (arith)) (unslotted (made given (calls_of h) stood)) empty tied given_to more);
  }

  -- memory was refused for one
  pub undials : (t : Duration) (dial2 : NextDial C) → dial2.from ≡ dial.from → dial2.grants ≡ dial.grants → dial2.retry ≡ as_nanos t + max (as_nanos pace.tick) 1 →
      latest ≡ as_nanos t → is_to_dial (as_nanos t) v ≡ true → MayBeDialled cmp (as_nanos t) node →
      Does cmp wire (Happening.Undialed t) v (seen node pace greeting cooldown dial2 latest next arrivals answers reads links actions)
  undials t dial2 same kept tried now due somebody = record {
    goes = λ given pace2 h at.
        let b = base_of cmp wire given pace2 in
        let parts = due_parts (as_nanos t) v due in
        subst (DriverStandsAt b (Happening.Undialed t ∷ h))
        (viewed (record v { next_dial = dial2; latest = as_nanos t }) node pace greeting cooldown dial2 latest next arrivals answers reads links actions
        refl refl refl refl refl (sym now) refl refl refl refl refl refl)
        (Standing.undials b h v at t dial2 same kept (tried ∙ ap (λ (q : Pace). as_nanos t + max (as_nanos q.tick) 1) at.pace) (
          sym (dials_is node pace greeting cooldown dial latest next arrivals answers reads links actions b h at) ∙ parts.1,
          subst (λ r. r ≤ as_nanos t) at.retry parts.0,
          somebody given (calls_of h) (slotted at.node),
        ) (let is = now in grind (arith)));
  }

  -- it is looked for somebody to dial later, since nobody may be dialled now
  pub looks : (t : Duration) (dial2 : NextDial C) → dial2.retry ≡ dial.retry → dial2.grants ≡ dial.grants → latest ≡ as_nanos t → StaysQuiet cmp (as_nanos t) (option_map as_nanos dial2.from) node →
      DoesAll cmp wire [] v (seen node pace greeting cooldown dial2 latest next arrivals answers reads links actions)
  looks t dial2 same kept now quiet given pace2 h at = let b = base_of cmp wire given pace2 in
      Standing.looks b h v at dial2
      (subst (λ k. IsQuietIn b.made.directory (world_after b.made.directory (calls_of h)) k (option_map as_nanos dial2.from)) (sym now ∙ at.latest)
      (quiet given (calls_of h) (slotted at.node))) same kept

  pub quiet_on : DriverStands cmp wire v → (t : Duration) (dial2 : NextDial C) → dial2.retry ≡ dial.retry → dial2.grants ≡ dial.grants → latest ≡ as_nanos t →
      StaysQuiet cmp (as_nanos t) (option_map as_nanos dial2.from) node → DriverStands cmp wire (seen node pace greeting cooldown dial2 latest next arrivals answers reads links actions)
  quiet_on at t dial2 same kept now quiet = record {
    given = at.given;
    pace = at.pace;
    history = at.history;
    stands = looks t dial2 same kept now quiet at.given at.pace at.history at.stands;
  }

  -- memory was refused: nobody is to be dialled until it is tried again
  pub dial_fails : (t : Duration) (word : ℕ) (dial2 : NextDial C) → dial2.from ≡ dial.from → dial2.grants ≡ dial.grants → dial2.retry ≡ as_nanos t + max (as_nanos pace.tick) 1 →
      latest ≡ as_nanos t → is_to_dial (as_nanos t) v ≡ true → MayBeDialled cmp (as_nanos t) node →
      DialsOne cmp wire t word dialed.Memory v (seen node pace greeting cooldown dial2 latest next arrivals answers reads links actions)
  dial_fails t word dial2 same kept tried now due somebody =
      let is : seen node pace greeting cooldown dial2 latest next arrivals answers reads links actions ≡ record v { next_dial = record dial { retry = dial2.retry } }
      = (λ i. record v { next_dial = record dial { from = same i; retry = dial2.retry; grants = kept i } }) in
      let later : as_nanos t < dial2.retry = (let r = tried in grind (arith)) in (
        due,
        undials t dial2 same kept tried now due somebody,
        (dial2.retry, is),
        ap (is_to_dial (as_nanos t)) is ∙ none_till_retry (as_nanos t) dial2.retry v later,
      )

  -- nobody may be dialled: nobody is to be until somebody may
  pub dial_rests : (t : Duration) (word : ℕ) (dial2 : NextDial C) → dial2.retry ≡ dial.retry → dial2.grants ≡ dial.grants → latest ≡ as_nanos t → is_to_dial (as_nanos t) v ≡ true →
      is_before (as_nanos t) (option_map as_nanos dial2.from) ≡ true → StaysQuiet cmp (as_nanos t) (option_map as_nanos dial2.from) node →
      DialsOne cmp wire t word dialed.Nobody v (seen node pace greeting cooldown dial2 latest next arrivals answers reads links actions)
  dial_rests t word dial2 same kept now due later quiet =
      let is : seen node pace greeting cooldown dial2 latest next arrivals answers reads links actions ≡ record v { next_dial = record dial { from = dial2.from } }
      = (λ i. record v { next_dial = record dial { from = dial2.from; retry = same i; grants = kept i } }) in (
        looks t dial2 same kept now quiet,
        (dial2.from, is),
        ap (is_to_dial (as_nanos t)) is ∙ none_till_query (as_nanos t) dial2.from v later,
        λ none. absurd (never due none),
      )
    where
      never : {b : Bool} → b ≡ true → b ≡ false → ⊥
      never is isnt = cc

  -- no link is late that wasn't, and nobody is to be asked that wasn't
  module _ (p : C) (n : ℕ) (t : Duration) (links2 : List (C × Held))
      (tied : (q : C) → link_of cmp links2 q ≡ (if is_at (cmp p) q then Some (dial_with n t) else link_of cmp links q)) where
    of_links : (P : Held → Type 0) → P (dial_with n t) → ((q : C) (h : Held) → link_of cmp links q ≡ Some h → P h) →
        (q : C) (h : Held) → link_of cmp links2 q ≡ Some h → P h
    of_links P first all q h is = go (is_at (cmp p) q) (sym (tied q) ∙ is)
      where
        some_is : {x y : Held} → Some x ≡ Some y → x ≡ y
        some_is e = cc

        go : (b : Bool) → (if b then Some (dial_with n t) else link_of cmp links q) ≡ Some h → P h
        go true is = subst P (some_is is) first
        go false is = all q h is

    in_time : nat_le (as_nanos t + max (as_nanos pace.handshake) 1) (as_nanos t) ≡ false
    in_time = grind (arith, nat_tests)

    pub none_late : ((q : C) (h : Held) → link_of cmp links q ≡ Some h → is_late pace (as_nanos t) h ≡ false) →
        (q : C) (h : Held) → link_of cmp links2 q ≡ Some h → is_late pace (as_nanos t) h ≡ false
    none_late = of_links (λ h. is_late pace (as_nanos t) h ≡ false) in_time

    pub none_to_ask : ((q : C) (h : Held) → link_of cmp links q ≡ Some h → is_to_ask (as_nanos pace.tick) (as_nanos t) h ≡ false) →
        (q : C) (h : Held) → link_of cmp links2 q ≡ Some h → is_to_ask (as_nanos pace.tick) (as_nanos t) h ≡ false
    none_to_ask = of_links (λ h. is_to_ask (as_nanos pace.tick) (as_nanos t) h ≡ false) refl

  -- a dial began, and nothing else is due that wasn't
  pub begins_one : (p : C) (t draw : Duration) (word : ℕ) (ingress : Ingress) (node2 : NodeView C S) (dial2 : NextDial C) (reads2 : List (ℕ × MetersView))
      (links2 : List (C × Held)) (actions2 : List (Action C)) (next2 : ℕ) →
      Does cmp wire (Happening.Dialed next p t draw word ingress) v (seen node2 pace greeting cooldown dial2 latest next2 arrivals answers reads2 links2 actions2) →
      ((q : C) → link_of cmp links2 q ≡ (if is_at (cmp p) q then Some (dial_with next t) else link_of cmp links q)) →
      ((q : C) → grant_of cmp dial2.grants q ≡ (if is_at (cmp p) q then Some t else grant_of cmp dial.grants q)) →
      ((way : Direction) → count_of way links2 ≡ count_of way links + (if is_way way Dialing then 1 else 0)) →
      BeginsOne cmp wire t word p v (seen node2 pace greeting cooldown dial2 latest next2 arrivals answers reads2 links2 actions2)
  begins_one p t draw word ingress node2 dial2 reads2 links2 actions2 next2 does tied given_to more = record {
    number = next;
    draw = draw;
    ingress = ingress;
    does = does;
    latest = refl;
    pace = refl;
    late = λ none. record { streams = none.streams; links = none_late p next t links2 tied none.links };
    to_ask = λ none. none_to_ask p next t links2 tied none;
    kept = λ none q. none_kept q none;
    more = more Dialing;
  }
    where
      none_kept : (q : C) → NoneCooled cmp (as_nanos t) v → is_cooled cooldown (as_nanos t) (kept_grant cmp links2 dial2.grants q) ≡ false
      none_kept q none = (λ i. is_cooled cooldown (as_nanos t) (unless_linked (tied q i) (given_to q i))) ∙ go (is_at (cmp p) q)
        where
          go : (x : Bool) → is_cooled cooldown (as_nanos t) (unless_linked (if x then Some (dial_with next t) else link_of cmp links q)
              (if x then Some t else grant_of cmp dial.grants q)) ≡ false
          go true = refl
          go false = none q

-- how `proved` is answered of a dial
module _ {C S : Type 0} (cmp : C → C → Ordering) (wire : Wire C S) (n : ℕ) (p : C) (now : ℕ) (v w v2 : DriverView C S) (same : v ≡ w) where
  -- it is proved
  pub dial_reached : (t : Duration) → as_nanos t ≡ max v.latest now → Does cmp wire (Happening.Reached n p t) v v2 → DialProvedBy cmp wire (Ok true) n p now w v2
  dial_reached t in_time does = subst (λ x. DialProvedBy cmp wire (Ok true) n p now x v2) same (t, in_time, does)

  -- .. to be another's
  pub dial_mistaken : (q : C) → is_at (cmp q) p ≡ false → (t : Duration) → as_nanos t ≡ max v.latest now → Does cmp wire (Happening.Mistaken n q t) v v2 →
      DialProvedBy cmp wire (Ok false) n p now w v2
  dial_mistaken q other t in_time does = subst (λ x. DialProvedBy cmp wire (Ok false) n p now x v2) same (inr (q, other, (t, in_time, does)))

  -- there is none
  pub no_dial : v2 ≡ v → ((q : C) (held : Held) → link_of cmp v.links q ≡ Some held → held.number ≡ n → is_dialing held ≡ true → is_timed held.phase ≡ true → ⊥) →
      DialProvedBy cmp wire (Ok false) n p now w v2
  no_dial kept none = subst (λ x. DialProvedBy cmp wire (Ok false) n p now x v2) same
      (inl (kept, λ q held linked number dials timed. absurd (none q held linked number dials timed)))

  -- .. since the link with the number is none
  pub no_dial_linked : v2 ≡ v → CmpEqualImpliesEq cmp → (q : C) (held : Held) → link_of cmp v.links q ≡ Some held →
      ((r : C) (h : Held) → link_of cmp v.links r ≡ Some h → h.number ≡ n → is_at (cmp q) r ≡ true) →
      (is_dialing held ≡ true → is_timed held.phase ≡ true → ⊥) → DialProvedBy cmp wire (Ok false) n p now w v2
  no_dial_linked kept exact q held linked only isnt = no_dial kept (λ r h of_r number dials timed.
      let is = some_is (sym linked ∙ ap (link_of cmp v.links) (tells_apart exact q r (only r h of_r number)) ∙ of_r) in
      isnt (ap is_dialing is ∙ dials) (ap (λ (x : Held). is_timed x.phase) is ∙ timed))
    where
      some_is : {x y : Held} → Some x ≡ Some y → x ≡ y
      some_is e = cc

  -- an allocation failed
  pub dial_failed : (r : Result Bool AllocError) → IsErr r → v2 ≡ v → (held : Held) → link_of cmp v.links p ≡ Some held → held.number ≡ n →
      is_dialing held ≡ true → is_timed held.phase ≡ true → DialProvedBy cmp wire r n p now w v2
  dial_failed (Ok u) failed kept held linked number dials timed = absurd (not_true failed)
    where
      not_true : ¬ (false ≡ true)
      not_true is = cc
  dial_failed (Err e) failed kept held linked number dials timed = subst (λ x. DialProvedBy cmp wire (Err e) n p now x v2) same (
    kept,
    subst (λ o. IsSomeAnd o (λ held. (held.number ≡ n) × (is_dialing held ≡ true) × (is_timed held.phase ≡ true))) (sym linked) (number, dials, timed),
  )
