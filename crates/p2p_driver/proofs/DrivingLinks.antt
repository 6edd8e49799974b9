-- How the calls of a driver that begin and end links make it stand, by its parts.
use Rattle.std.proofs.Common.{◌≡◌, Bool, true, false, not, ◌&&◌, ◌||◌, ◌⊎◌, inl, inr, arith, nat_lt, Option, Some, None, find, filter, ℕ, ◌==◌, ◌+◌, ◌≤◌, List, [], ◌∷◌, ◌++◌, refl, sym, ◌∙◌, ap, subst}
use Rattle.std.specs.Prelude.{max, length, is_some, if◌then◌else◌, Result, Ok, Err}
use Rattle.std.specs.Result.{IsErr}
use Rattle.std.specs.Option.{IsSomeAnd, option_to_list}
use Rattle.std.specs.BTreeMap.{is_at}
use Rattle.std.specs.Duration.{as_nanos}
use Rattle.std.specs.declared.alloc.AllocError.{AllocError}
use Rattle.std.specs.declared.cmp.Ordering.{Ordering}
use Rattle.std.specs.declared.time.Duration.{Duration}
use Rattle.std.proofs.lemmas.List.{append-nil}
use Rattle.std.proofs.lemmas.Map.Lookups.{CmpEqualImpliesEq}
use Rattle.p2p_tracker.specs.Answers.{may_listen_at, is_eligible_at}
use Rattle.p2p_tracker.specs.Directory.{is_free_and}
use Rattle.p2p_tracker.specs.Record as records
use Rattle.p2p_tracker.specs.Calls.Call.{Listen, Release}
use Rattle.p2p_directory.specs.Nodes.{NodeView, IsSame, AtEach, made_of}
use Rattle.p2p_directory.specs.Received.{Wire}
use Rattle.p2p_directory.specs.Run.{world_after}
use Rattle.p2p_directory.proofs.Refinement.BlocksRefine.{tie_eligible}
use Rattle.p2p_directory.specs.declared.node.setup.Setup.{Setup}
use Rattle.p2p_driver.specs.Answers.{AnswersView, roomless}
use Rattle.p2p_driver.specs.Arrivals.{has_number}
use Rattle.p2p_driver.specs.Drivers.{DriverView, DriverStands, DriverStandsAt, Does, AtEachHistory, may_come, no_proof, is_claim_by, kept, is_eligible, stays, AnswersProof, ProvedBy, AnswersEnd, EndedBy, EndsAt, AnswersNext, seen, base_of, jitter_of}
use Rattle.p2p_driver.specs.Happenings.{Happening, closing, sent, parted, calls_of, stream_at}
use Rattle.p2p_driver.specs.Grants.{grant_of, kept_grant, unless_linked, is_cooling, is_cooled, is_unfit}
use Rattle.p2p_driver.specs.Links.{link_of, count_of, is_way, link_with, link_as, taken_way}
use Rattle.p2p_driver.specs.Meters.{MetersView}
use Rattle.p2p_driver.specs.Reads.{reads_of, unread}
use Rattle.p2p_driver.specs.Steps.{comes_by, adopts_by, is_outbound_free, is_claim_of, no_proof_of, Makes, MayListen, IsBusy}
use Rattle.p2p_driver.specs.declared.actions.Action.{Action}
use Rattle.p2p_driver.specs.declared.actions.Why.{Why}
use Rattle.p2p_driver.specs.declared.arrivals.Arrival.{Arrival}
use Rattle.p2p_driver.specs.declared.links.Direction.{Direction}
use Rattle.p2p_driver.specs.declared.links.Direction.TheVariants.{Inbound}
use Rattle.p2p_driver.specs.declared.links.Held.{Held}
use Rattle.p2p_driver.specs.declared.pace.Pace.{Pace}
use Rattle.p2p_driver.specs.declared.next_dial.NextDial.{NextDial}
use Rattle.p2p_driver.proofs.Busy.{linked_is_busy_anywhere, reserved_is_busy_anywhere, or_true}
use Rattle.p2p_driver.proofs.Driving.{viewed, slotted, comes_is, adopts_is, outbound_is, goes_on, unslotted}
use Rattle.p2p_driver.proofs.Fewer.{none_of}
use Rattle.p2p_driver.proofs.Lasting.{unread_by}
use Rattle.p2p_driver.proofs.Standing
use Rattle.p2p_driver.proofs.Standing.{IsAtOnce, IsSoon}
use Rattle.p2p_driver.proofs.Unused.{unused_by}

-- no reason against a proof
pub both_true : (x y : Bool) → None ≡ no_proof_of x y → (x ≡ true) × (y ≡ true)
both_true false y is = absurd cc
both_true true false is = absurd cc
both_true true true is = (refl, refl)

last_two : (a b : Bool) → (a && b) ≡ true → (a ≡ true) × (b ≡ true)
last_two true true is = (refl, refl)
last_two true false is = absurd cc
last_two false b is = absurd cc

not_true : (b : Bool) → not b ≡ true → b ≡ false
not_true true is = absurd cc
not_true false is = refl

module _ {C : Type 0} (cmp : C → C → Ordering) (pace : Pace) (links : List (C × Held)) (p : C) where
  -- who may come has no link, and a listen would be granted
  pub comes_unlinked : (granted : Bool) → comes_by cmp pace links p granted ≡ true → link_of cmp links p ≡ None
  comes_unlinked granted is =
      let rest = last_two (nat_lt (length links) pace.links && nat_lt (count_of Inbound links) pace.inbound) (not (is_some (link_of cmp links p)) && granted) is in
      none_of (link_of cmp links p) (not_true (is_some (link_of cmp links p)) (last_two (not (is_some (link_of cmp links p))) granted rest.1).0)

  pub comes_granted : (granted : Bool) → comes_by cmp pace links p granted ≡ true → granted ≡ true
  comes_granted granted is =
      let rest = last_two (nat_lt (length links) pace.links && nat_lt (count_of Inbound links) pace.inbound) (not (is_some (link_of cmp links p)) && granted) is in
      (last_two (not (is_some (link_of cmp links p))) granted rest.1).1

module _ {C S : Type 0} (node : NodeView C S) (pace : Pace) (greeting : List ℕ) (cooldown : ℕ) (dial : NextDial C) (latest next : ℕ)
    (arrivals : List (Arrival C)) (answers : AnswersView) (reads : List (ℕ × MetersView)) (links : List (C × Held)) (actions : List (Action C)) where
  abbrev v : DriverView C S
  v = seen node pace greeting cooldown dial latest next arrivals answers reads links actions

  -- what decides whether a stream becomes a link
  abbrev pub NoProofIs : (C → C → Ordering) → Arrival C → C → Duration → Option Why → Type 0
  NoProofIs cmp stream p t why = AtEach cmp node (λ m calls. let w = world_after m.directory calls in why
      ≡ no_proof_of (is_claim_of cmp p stream.claim)
      (adopts_by pace links (is_some (kept_grant cmp links dial.grants p)) (is_eligible_at m.directory w p (as_nanos t))
      || comes_by cmp pace links p (may_listen_at m.directory w p (as_nanos t))))

  -- a peer may be reserved for its stream
  abbrev pub MayBegin : (C → C → Ordering) → C → Duration → Type 0
  MayBegin cmp p t = AtEach cmp node (λ m calls.
      comes_by cmp pace links p (may_listen_at m.directory (world_after m.directory calls) p (as_nanos t)) ≡ true)

  -- .. may come in by a kept grant, or not
  abbrev pub MayAdopt : (C → C → Ordering) → C → Duration → Bool → Type 0
  MayAdopt cmp p t may = AtEach cmp node (λ m calls. may ≡ adopts_by pace links (is_some (kept_grant cmp links dial.grants p))
      (is_eligible_at m.directory (world_after m.directory calls) p (as_nanos t)))

  -- .. stays reserved if its dial ends, or not
  abbrev pub Stays : (C → C → Ordering) → C → Duration → Bool → Type 0
  Stays cmp p t may = AtEach cmp node (λ m calls. may ≡ (is_cooling cooldown (as_nanos t) (grant_of cmp dial.grants p)
      && is_eligible_at m.directory (world_after m.directory calls) p (as_nanos t)))

  -- the grant that is kept of a peer is to be given up: its cooldown is over, or the peer may not be connected
  abbrev pub IsOver : (C → C → Ordering) → C → Duration → Type 0
  IsOver cmp p t = (is_cooled cooldown (as_nanos t) (kept_grant cmp links dial.grants p) ≡ true)
      ⊎ (is_unfit cmp node.directory (as_nanos t) p (kept_grant cmp links dial.grants p) ≡ true)

  -- .. so there is one
  pub over_kept : (cmp : C → C → Ordering) (p : C) (t : Duration) → IsOver cmp p t → is_some (kept_grant cmp links dial.grants p) ≡ true
  over_kept cmp p t over = elim over [
    | inl is ↦ some_cooled (kept_grant cmp links dial.grants p) is
    | inr is ↦ some_unfit (kept_grant cmp links dial.grants p) (is_free_and cmp records.is_eligible node.directory (as_nanos t) p) is
  ]
    where
      some_cooled : (k : Option Duration) → is_cooled cooldown (as_nanos t) k ≡ true → is_some k ≡ true
      some_cooled None is = absurd cc
      some_cooled (Some granted) is = refl

      some_unfit : (k : Option Duration) (x : Bool) → (is_some k && not x) ≡ true → is_some k ≡ true
      some_unfit None x is = absurd cc
      some_unfit (Some granted) x is = refl

  no_proof_is : (cmp : C → C → Ordering) (wire : Wire C S) (given : Setup C S) (pace2 : Pace) (h : List (Happening C S)) →
      DriverStandsAt (base_of cmp wire given pace2) h v → (n : ℕ) (stream : Arrival C) (p : C) (t : Duration) (why : Option Why) →
      Some stream ≡ stream_at n h → NoProofIs cmp stream p t why →
      why ≡ no_proof (base_of cmp wire given pace2) h n p (as_nanos t)
  no_proof_is cmp wire given pace2 h at n stream p t why here is = is given (calls_of h) (slotted at.node)
      ∙ (λ i. no_proof_of (is_claim_of cmp p stream.claim)
      (adopts_is node pace greeting cooldown dial latest next arrivals answers reads links actions (base_of cmp wire given pace2) h at p
      (is_eligible (base_of cmp wire given pace2) h p (as_nanos t)) i
      || comes_is node pace greeting cooldown dial latest next arrivals answers reads links actions (base_of cmp wire given pace2) h at p
      (may_listen_at (made_of cmp given).directory (world_after (made_of cmp given).directory (calls_of h)) p (as_nanos t)) i))
      ∙ ap (λ o. no_proof_of (is_claim_by cmp p o) (may_come (base_of cmp wire given pace2) h p (as_nanos t))) here

  -- who becomes a link has claimed, and may come in by a kept grant, or else be reserved
  pub claimed_by : (cmp : C → C → Ordering) (wire : Wire C S) (stream : Arrival C) (p : C) (t : Duration) → DriverStands cmp wire v → NoProofIs cmp stream p t None →
      is_claim_of cmp p stream.claim ≡ true
  claimed_by cmp wire stream p t at is = (both_true _ _ (is at.given (calls_of at.history) (slotted at.stands.node))).0

  pub begins_by : (cmp : C → C → Ordering) (stream : Arrival C) (p : C) (t : Duration) → NoProofIs cmp stream p t None → MayAdopt cmp p t false → MayBegin cmp p t
  begins_by cmp stream p t is isnt given calls stands = second _ _ (both_true _ _ (is given calls stands)).1 (isnt given calls stands)
    where
      second : (x y : Bool) → (x || y) ≡ true → false ≡ x → y ≡ true
      second true y is isnt = absurd cc
      second false y is isnt = is

  -- who may be reserved is granted that
  pub listens_by : (cmp : C → C → Ordering) (p : C) (t : Duration) → MayBegin cmp p t → MayListen cmp p (as_nanos t) node
  listens_by cmp p t may given calls stands = comes_granted cmp pace links p _ (may given calls stands)

  -- whether a dial that ends stays reserved, by the history
  stays_is : (cmp : C → C → Ordering) (wire : Wire C S) (given : Setup C S) (pace2 : Pace) (h : List (Happening C S)) →
      DriverStandsAt (base_of cmp wire given pace2) h v → (p : C) (t : Duration) (may : Bool) → Stays cmp p t may →
      may ≡ stays (base_of cmp wire given pace2) h p (as_nanos t)
  stays_is cmp wire given pace2 h at p t may is = is given (calls_of h) (slotted at.node)
      ∙ λ i. is_cooling (at.cooldown i) (as_nanos t) (at.grants p i) && is_eligible (base_of cmp wire given pace2) h p (as_nanos t)

  -- a link that wasn't begun leaves all that is seen
  pub failed_view : (node2 : NodeView C S) (dial2 : NextDial C) (reads2 : List (ℕ × MetersView)) (links2 : List (C × Held)) (actions2 : List (Action C)) →
      IsSame node node2 → dial2 ≡ dial → reads2 ≡ reads → links2 ≡ links → actions2 ≡ actions →
      seen node2 pace greeting cooldown dial2 latest next arrivals answers reads2 links2 actions2 ≡ v
  failed_view node2 dial2 reads2 links2 actions2 same kept unread tied said = sym (viewed v node2 pace greeting cooldown dial2 latest next arrivals answers reads2
      links2 actions2 (sym (ap (λ (m : NodeView C S). record m { slots = [] }) same)) refl refl refl (sym kept) refl refl refl refl
      (sym unread) (sym tied) (sym said))

  -- nothing stood against it
  pub nothing_against : (cmp : C → C → Ordering) (wire : Wire C S) (n : ℕ) (stream : Arrival C) (p : C) (t : Duration) (now : ℕ) → find (has_number n) arrivals ≡ Some stream →
      NoProofIs cmp stream p t None → as_nanos t ≡ max latest now →
      AtEachHistory cmp wire v (λ b h. no_proof b h n p (max latest now) ≡ None)
  nothing_against cmp wire n stream p t now found decides in_time given pace2 h at = subst (λ k. no_proof (base_of cmp wire given pace2) h n p k ≡ None) in_time
      (sym (no_proof_is cmp wire given pace2 h at n stream p t None (sym found ∙ at.arrivals.each n) decides))

  module _ {cmp : C → C → Ordering} {wire : Wire C S} where
    -- what the beginning of a link asks for
    pub unlinked_by : DriverStands cmp wire v → (p : C) (t : Duration) → MayBegin cmp p t → link_of cmp links p ≡ None
    unlinked_by at p t may = comes_unlinked cmp pace links p _ (may at.given (calls_of at.history) (slotted at.stands.node))

    pub unlinked_kept : DriverStands cmp wire v → (p : C) (t : Duration) → MayAdopt cmp p t true → link_of cmp links p ≡ None
    unlinked_kept at p t may = go (link_of cmp links p) refl
        (adopts_parts (nat_lt (length links) pace.links) (is_outbound_free pace links || nat_lt (count_of Inbound links) pace.inbound)
        (is_some (kept_grant cmp links dial.grants p)) _ (may at.given (calls_of at.history) (slotted at.stands.node)))
      where
        adopts_parts : (a b c x : Bool) → true ≡ (a && (b && (c && x))) → c ≡ true
        adopts_parts true true true x is = refl
        adopts_parts true true false x is = absurd cc
        adopts_parts true false c x is = absurd cc
        adopts_parts false b c x is = absurd cc

        go : (o : Option Held) → link_of cmp links p ≡ o → is_some (unless_linked o (grant_of cmp dial.grants p)) ≡ true → link_of cmp links p ≡ None
        go None is has = is
        go (Some held) is has = absurd cc

    pub unused_here : DriverStands cmp wire v → (n : ℕ) → is_some (find (has_number n) arrivals) ≡ true → (q : C) (held : Held) →
        link_of cmp links q ≡ Some held → held.number ≡ n → ⊥
    unused_here at n some q held is number =
        unused_by (base_of cmp wire at.given at.pace) at.history v at.stands n some q held is number

    -- nothing is kept of a link with the number of a stream that isn't proved
    pub unread_at : DriverStands cmp wire v → (n : ℕ) → is_some (find (has_number n) arrivals) ≡ true → reads_of reads n ≡ None
    unread_at at n some = unread_by (base_of cmp wire at.given at.pace) at.history v at.stands n some

    pub busy_here : CmpEqualImpliesEq cmp → DriverStands cmp wire v → (p : C) → is_some (link_of cmp links p) ≡ true → IsBusy cmp p node
    busy_here exact at p linked given calls stands =
        linked_is_busy_anywhere cmp wire exact v at p linked given calls (unslotted stands)

    -- .. so is one of which a grant is kept
    pub kept_is_busy : CmpEqualImpliesEq cmp → DriverStands cmp wire v → (p : C) → is_some (kept_grant cmp links dial.grants p) ≡ true → IsBusy cmp p node
    kept_is_busy exact at p has given calls stands =
        reserved_is_busy_anywhere cmp wire exact v at p (ap (λ x. is_some (link_of cmp links p) || x) has ∙ or_true (is_some (link_of cmp links p)))
        given calls (unslotted stands)

    -- a stream is a link
    pub proves_by : (n : ℕ) (p : C) (t draw : Duration) (node2 : NodeView C S) (dial2 : NextDial C) (reads2 : List (ℕ × MetersView)) (links2 : List (C × Held))
        (xs : List (Arrival C)) (answers2 : AnswersView) (actions2 : List (Action C)) → IsSoon dial dial2 → is_claim_by cmp p (find (has_number n) arrivals) ≡ true →
        MayBegin cmp p t → latest ≤ as_nanos t →
        Makes cmp (Listen p (as_nanos t) (as_nanos draw) ∷ []) node node2 →
        ((j : ℕ) → reads_of reads2 j ≡ (if j == n then Some (unread (length pace.channels.items + length pace.channels.items)) else reads_of reads j)) →
        ((q : C) → link_of cmp links2 q ≡ (if is_at (cmp p) q then Some (link_with n t) else link_of cmp links q)) →
        ((way : Direction) → count_of way links2 ≡ count_of way links + (if is_way way Inbound then 1 else 0)) → xs ≡ filter (λ a. not (has_number n a)) arrivals →
        roomless answers2 ≡ roomless answers → actions2 ≡ actions ++ sent n greeting →
        Does cmp wire (Happening.Proved n p t draw) v
        (seen node2 pace greeting cooldown dial2 (as_nanos t) next xs answers2 reads2 links2 actions2)
    proves_by n p t draw node2 dial2 reads2 links2 xs answers2 actions2 once claimed may after made empty tied more streams same said = record {
      goes = λ given pace2 h at.
          let b = base_of cmp wire given pace2 in
          subst (DriverStandsAt b (Happening.Proved n p t draw ∷ h))
          (viewed (record v {
            node = record node2 { slots = [] };
            next_dial = dial2;
            latest = as_nanos t;
            arrivals = filter (λ a. not (has_number n a)) arrivals;
            reads = reads2;
            links = links2;
            actions = actions ++ sent n greeting;
          })
          node2 pace greeting cooldown dial2 (as_nanos t) next xs answers2 reads2 links2 actions2
          refl refl refl refl refl refl refl (sym streams) (sym same) refl refl (sym said))
          (Standing.proves b h v at n p t draw (record node2 { slots = [] }) dial2 reads2 links2 (roomless answers) once (
            subst (λ o. is_claim_by cmp p o ≡ true) (at.arrivals.each n) claimed,
            sym (comes_is node pace greeting cooldown dial latest next arrivals answers reads links actions b h at p _) ∙ may given (calls_of h) (slotted at.node),
          ) after
          (unslotted (made given (calls_of h) (slotted at.node))) empty tied more
          (Standing.answers_later b h v at (as_nanos t) after));
    }

    -- .. by a grant that was kept
    pub adopts_as : (n : ℕ) (p : C) (t : Duration) (direction : Direction) (dial2 : NextDial C) (reads2 : List (ℕ × MetersView)) (links2 : List (C × Held))
        (xs : List (Arrival C)) (answers2 : AnswersView) (actions2 : List (Action C)) → dial2.from ≡ dial.from → dial2.retry ≡ dial.retry →
        is_claim_by cmp p (find (has_number n) arrivals) ≡ true → MayAdopt cmp p t true → direction ≡ taken_way (is_outbound_free pace links) → latest ≤ as_nanos t →
        ((j : ℕ) → reads_of reads2 j ≡ (if j == n then Some (unread (length pace.channels.items + length pace.channels.items)) else reads_of reads j)) →
        ((q : C) → link_of cmp links2 q ≡ (if is_at (cmp p) q then Some (link_as direction n t) else link_of cmp links q)) →
        ((q : C) → grant_of cmp dial2.grants q ≡ (if is_at (cmp p) q then None else grant_of cmp dial.grants q)) →
        ((way : Direction) → count_of way links2 ≡ count_of way links + (if is_way way direction then 1 else 0)) → xs ≡ filter (λ a. not (has_number n a)) arrivals →
        roomless answers2 ≡ roomless answers → actions2 ≡ actions ++ sent n greeting →
        Does cmp wire (Happening.Adopted n p t (is_outbound_free pace links)) v
        (seen node pace greeting cooldown dial2 (as_nanos t) next xs answers2 reads2 links2 actions2)
    adopts_as n p t direction dial2 reads2 links2 xs answers2 actions2 from retry claimed may way after empty tied spent more streams same said = record {
      goes = λ given pace2 h at.
          let b = base_of cmp wire given pace2 in
          let outbound = is_outbound_free pace links in
          subst (DriverStandsAt b (Happening.Adopted n p t outbound ∷ h))
          (viewed (record v {
            next_dial = dial2;
            latest = as_nanos t;
            arrivals = filter (λ a. not (has_number n a)) arrivals;
            reads = reads2;
            links = links2;
            actions = actions ++ sent n greeting;
          })
          node pace greeting cooldown dial2 (as_nanos t) next xs answers2 reads2 links2 actions2
          refl refl refl refl refl refl refl (sym streams) (sym same) refl refl (sym said))
          (Standing.adopts b h v at n p t outbound dial2 reads2 links2 (roomless answers) from retry (
            subst (λ o. is_claim_by cmp p o ≡ true) (at.arrivals.each n) claimed,
            sym (adopts_is node pace greeting cooldown dial latest next arrivals answers reads links actions b h at p _) ∙ sym (may given (calls_of h) (slotted at.node)),
            outbound_is node pace greeting cooldown dial latest next arrivals answers reads links actions b h at,
          ) after empty
          (λ q. tied q ∙ ap (λ w. if is_at (cmp p) q then Some (link_as w n t) else link_of cmp links q) way) spent
          (λ w. more w ∙ ap (λ x. count_of w links + (if is_way w x then 1 else 0)) way)
          (Standing.answers_later b h v at (as_nanos t) after));
    }

    -- .. or is closed
    pub unproves_by : (n : ℕ) (stream : Arrival C) (p : C) (t : Duration) (w : Why)
        (xs : List (Arrival C)) (answers2 : AnswersView) (actions2 : List (Action C)) → find (has_number n) arrivals ≡ Some stream →
        NoProofIs cmp stream p t (Some w) → latest ≤ as_nanos t → xs ≡ filter (λ a. not (has_number n a)) arrivals →
        roomless answers2 ≡ roomless answers → actions2 ≡ actions ++ closing n w →
        Does cmp wire (Happening.Unproved n p t w) v
        (seen node pace greeting cooldown dial (as_nanos t) next xs answers2 reads links actions2)
    unproves_by n stream p t w xs answers2 actions2 found decides after streams same said = record {
      goes = λ given pace2 h at.
          let b = base_of cmp wire given pace2 in
          let here = sym found ∙ at.arrivals.each n in
          subst (DriverStandsAt b (Happening.Unproved n p t w ∷ h))
          (viewed (record v { latest = as_nanos t; arrivals = filter (λ a. not (has_number n a)) arrivals; actions = actions ++ closing n w })
          node pace greeting cooldown dial (as_nanos t) next xs answers2 reads links actions2
          refl refl refl refl refl refl refl (sym streams) (sym same) refl refl (sym said))
          (Standing.goes b h v at n t (Happening.Unproved n p t w) (closing n w) (roomless answers)
          refl (λ j. refl) (λ j. refl) (λ j. refl) refl refl (λ q. refl) (λ q. refl) (λ q. refl) (λ way. refl) refl refl refl refl (λ q. refl) (λ q. refl) refl refl refl refl (λ j. refl) (λ j. refl) (λ j place. refl)
          (ap (λ o. is_some o) (sym here), sym (no_proof_is cmp wire given pace2 h at n stream p t (Some w) here decides))
          after (Standing.answers_later b h v at (as_nanos t) after));
    }

    -- a stream ended that wasn't proved
    pub leaves_as : (n : ℕ) (t : Duration) (xs : List (Arrival C)) (answers2 : AnswersView) (actions2 : List (Action C)) →
        is_some (find (has_number n) arrivals) ≡ true → latest ≤ as_nanos t →
        xs ≡ filter (λ a. not (has_number n a)) arrivals → roomless answers2 ≡ roomless answers → actions2 ≡ actions →
        Does cmp wire (Happening.Left n t) v (seen node pace greeting cooldown dial (as_nanos t) next xs answers2 reads links actions2)
    leaves_as n t xs answers2 actions2 some after streams same said = record {
      goes = λ given pace2 h at.
          let b = base_of cmp wire given pace2 in
          subst (DriverStandsAt b (Happening.Left n t ∷ h))
          (viewed (record v { latest = as_nanos t; arrivals = filter (λ a. not (has_number n a)) arrivals; actions = actions ++ [] })
          node pace greeting cooldown dial (as_nanos t) next xs answers2 reads links actions2
          refl refl refl refl refl refl refl (sym streams) (sym same) refl refl (append-nil actions ∙ sym said))
          (Standing.goes b h v at n t (Happening.Left n t) [] (roomless answers)
          refl (λ j. refl) (λ j. refl) (λ j. refl) refl refl (λ q. refl) (λ q. refl) (λ q. refl) (λ way. refl) refl refl refl refl (λ q. refl) (λ q. refl) refl refl refl refl (λ j. refl) (λ j. refl) (λ j place. refl)
          (ap (λ o. is_some o) (sym (at.arrivals.each n)) ∙ some)
          after (Standing.answers_later b h v at (as_nanos t) after));
    }

    -- a link ended
    pub ends_as : (n : ℕ) (p : C) (held : Held) (t : Duration) (node2 : NodeView C S) (dial2 : NextDial C) (reads2 : List (ℕ × MetersView)) (links2 : List (C × Held)) (actions2 : List (Action C)) →
        IsAtOnce dial dial2 → link_of cmp links p ≡ Some held → held.number ≡ n → latest ≤ as_nanos t →
        Stays cmp p t false → Makes cmp (Release p ∷ []) node node2 →
        ((j : ℕ) → reads_of reads2 j ≡ (if j == n then None else reads_of reads j)) →
        ((q : C) → link_of cmp links2 q ≡ (if is_at (cmp p) q then None else link_of cmp links q)) →
        ((q : C) → grant_of cmp dial2.grants q ≡ (if is_at (cmp p) q then None else grant_of cmp dial.grants q)) →
        ((way : Direction) → count_of way links2 + (if is_way way held.direction then 1 else 0) ≡ count_of way links) → actions2 ≡ actions ++ parted p (link_of cmp links p) →
        Does cmp wire (Happening.Ended n p t held.direction) v (seen node2 pace greeting cooldown dial2 (as_nanos t) next arrivals answers reads2 links2 actions2)
    ends_as n p held t node2 dial2 reads2 links2 actions2 once linked number after isnt made gone tied spent less said = record {
      goes = λ given pace2 h at.
          let b = base_of cmp wire given pace2 in
          subst (DriverStandsAt b (Happening.Ended n p t held.direction ∷ h))
          (viewed (record v {
            node = record node2 { slots = [] };
            next_dial = dial2;
            latest = as_nanos t;
            reads = reads2;
            links = links2;
            actions = actions ++ parted p (link_of cmp links p);
          })
          node2 pace greeting cooldown dial2 (as_nanos t) next arrivals answers reads2 links2 actions2
          refl refl refl refl refl refl refl refl refl refl refl (sym said))
          (Standing.ends b h v at n p t held.direction (record node2 { slots = [] }) dial2 reads2 links2 once (
            subst (λ o. IsSomeAnd o (λ x. (x.number ≡ n) × (x.direction ≡ held.direction))) (sym linked ∙ at.links p) (number, refl),
            sym (stays_is cmp wire given pace2 h at p t false isnt),
          ) after
          (unslotted (made given (calls_of h) (slotted at.node))) gone tied spent less);
    }

    -- .. of a dial, whose grant is kept
    pub fails_as : (n : ℕ) (p : C) (held : Held) (t : Duration) (reads2 : List (ℕ × MetersView)) (links2 : List (C × Held)) (actions2 : List (Action C)) →
        link_of cmp links p ≡ Some held → held.number ≡ n → latest ≤ as_nanos t → Stays cmp p t true →
        ((j : ℕ) → reads_of reads2 j ≡ (if j == n then None else reads_of reads j)) →
        ((q : C) → link_of cmp links2 q ≡ (if is_at (cmp p) q then None else link_of cmp links q)) →
        ((way : Direction) → count_of way links2 + (if is_way way held.direction then 1 else 0) ≡ count_of way links) → actions2 ≡ actions ++ parted p (link_of cmp links p) →
        Does cmp wire (Happening.Failed n p t held.direction) v (seen node pace greeting cooldown dial (as_nanos t) next arrivals answers reads2 links2 actions2)
    fails_as n p held t reads2 links2 actions2 linked number after is gone tied less said = record {
      goes = λ given pace2 h at.
          let b = base_of cmp wire given pace2 in
          subst (DriverStandsAt b (Happening.Failed n p t held.direction ∷ h))
          (viewed (record v { latest = as_nanos t; reads = reads2; links = links2; actions = actions ++ parted p (link_of cmp links p) })
          node pace greeting cooldown dial (as_nanos t) next arrivals answers reads2 links2 actions2
          refl refl refl refl refl refl refl refl refl refl refl (sym said))
          (Standing.fails b h v at n p t held.direction reads2 links2 (
            subst (λ o. IsSomeAnd o (λ x. (x.number ≡ n) × (x.direction ≡ held.direction))) (sym linked ∙ at.links p) (number, refl),
            sym (stays_is cmp wire given pace2 h at p t true is),
          ) after gone tied less);
    }

    -- a grant that was kept is given up
    pub frees_as : (p : C) (t : Duration) (node2 : NodeView C S) (dial2 : NextDial C) → IsAtOnce dial dial2 → latest ≡ as_nanos t → IsOver cmp p t →
        Makes cmp (Release p ∷ []) node node2 →
        ((q : C) → grant_of cmp dial2.grants q ≡ (if is_at (cmp p) q then None else grant_of cmp dial.grants q)) →
        Does cmp wire (Happening.Released p t) v (seen node2 pace greeting cooldown dial2 latest next arrivals answers reads links actions)
    frees_as p t node2 dial2 once now over made spent = record {
      goes = λ given pace2 h at.
          let b = base_of cmp wire given pace2 in
          let k = kept_grant cmp links dial.grants p in
          let same : k ≡ kept b p h = (λ i. unless_linked (at.links p i) (at.grants p i)) in
          subst (DriverStandsAt b (Happening.Released p t ∷ h))
          (viewed (record v { node = record node2 { slots = [] }; next_dial = dial2; latest = as_nanos t })
          node2 pace greeting cooldown dial2 latest next arrivals answers reads links actions
          refl refl refl refl refl (sym now) refl refl refl refl refl refl)
          (Standing.frees b h v at p t (record node2 { slots = [] }) dial2 once (
            ap is_some (sym same) ∙ over_kept cmp p t over,
            elim over [
              | inl is ↦ inl (sym (λ i. is_cooled (at.cooldown i) (as_nanos t) (same i)) ∙ is)
              | inr is ↦ inr (sym (tie_eligible b.made.directory (world_after b.made.directory (calls_of h)) node.directory p (as_nanos t) at.node.refines)
                  ∙ unfit_isnt k (is_free_and cmp records.is_eligible node.directory (as_nanos t) p) is)
            ],
          ) (let is = now in grind (arith)) (unslotted (made given (calls_of h) (slotted at.node))) spent);
    }
      where
        unfit_isnt : (k : Option Duration) (x : Bool) → (is_some k && not x) ≡ true → x ≡ false
        unfit_isnt None x is = absurd cc
        unfit_isnt (Some granted) true is = absurd cc
        unfit_isnt (Some granted) false is = refl

    -- the host took an action
    pub takes_as : (a : Action C) (later : List (Action C)) → actions ≡ a ∷ later →
        Does cmp wire (Happening.Taken a) v (seen node pace greeting cooldown dial latest next arrivals answers reads links later)
    takes_as a later is = record { goes = λ given pace2 h at. Standing.takes (base_of cmp wire given pace2) h v at a later is }

    -- .. or there was none
    pub takes_on : (o : Option (Action C)) (later : List (Action C)) → DriverStands cmp wire v →
        option_to_list o ++ later ≡ actions → (o ≡ None → actions ≡ []) →
        DriverStands cmp wire (seen node pace greeting cooldown dial latest next arrivals answers reads links later)
    takes_on None later at is none = subst (λ xs. DriverStands cmp wire (seen node pace greeting cooldown dial latest next arrivals answers reads links xs))
        (sym is) at
    takes_on (Some a) later at is none = goes_on (Happening.Taken a) v _ at (takes_as a later (sym is))

  pub takes_answered : (cmp : C → C → Ordering) (wire : Wire C S) (w : DriverView C S) (o : Option (Action C))
      (later : List (Action C)) → v ≡ w → option_to_list o ++ later ≡ actions → (o ≡ None → actions ≡ []) →
      AnswersNext cmp wire o w (seen node pace greeting cooldown dial latest next arrivals answers reads links later)
  takes_answered cmp wire w None later same is none = subst (λ x. AnswersNext cmp wire None x
      (seen node pace greeting cooldown dial latest next arrivals answers reads links later)) same
      (none refl, ap (λ xs. seen node pace greeting cooldown dial latest next arrivals answers reads links xs) is)
  takes_answered cmp wire w (Some a) later same is none = subst (λ x. AnswersNext cmp wire (Some a) x
      (seen node pace greeting cooldown dial latest next arrivals answers reads links later)) same (takes_as a later (sym is))

-- how `proved` is answered: it's a link
module _ {C S : Type 0} (cmp : C → C → Ordering) (wire : Wire C S) (n : ℕ) (p : C) (word now : ℕ) (v w v2 : DriverView C S) where
  pub proof_adopted : v ≡ w → is_some (find (has_number n) v.arrivals) ≡ true → (t : Duration) (outbound : Bool) → as_nanos t ≡ max v.latest now →
      Does cmp wire (Happening.Adopted n p t outbound) v v2 → AnswersProof cmp wire n p word now (Ok true) w v2
  proof_adopted same some t outbound in_time does = subst (λ x. AnswersProof cmp wire n p word now (Ok true) x v2) same
      (subst (λ b. ProvedBy cmp wire b (Ok true) n p word now v v2) (sym some) (inr (outbound, (t, in_time, does))))

  pub proof_answered : v ≡ w → is_some (find (has_number n) v.arrivals) ≡ true → (t draw : Duration) →
      as_nanos draw ≡ jitter_of v.cooldown word → as_nanos t ≡ max v.latest now →
      Does cmp wire (Happening.Proved n p t draw) v v2 → AnswersProof cmp wire n p word now (Ok true) w v2
  proof_answered same some t draw jitter in_time does = subst (λ x. AnswersProof cmp wire n p word now (Ok true) x v2) same
      (subst (λ b. ProvedBy cmp wire b (Ok true) n p word now v v2) (sym some) (inl (draw, jitter, (t, in_time, does))))

  -- .. it's closed
  pub proof_refused : v ≡ w → is_some (find (has_number n) v.arrivals) ≡ true → (t : Duration) (why : Why) →
      as_nanos t ≡ max v.latest now → Does cmp wire (Happening.Unproved n p t why) v v2 →
      AnswersProof cmp wire n p word now (Ok false) w v2
  proof_refused same some t why in_time does = subst (λ x. AnswersProof cmp wire n p word now (Ok false) x v2) same
      (subst (λ b. ProvedBy cmp wire b (Ok false) n p word now v v2) (sym some) (why, (t, in_time, does)))

  -- .. an allocation failed
  pub proof_failed : v ≡ w → is_some (find (has_number n) v.arrivals) ≡ true → (r : Result Bool AllocError) → IsErr r → v2 ≡ v →
      AtEachHistory cmp wire v (λ b h. no_proof b h n p (max v.latest now) ≡ None) →
      AnswersProof cmp wire n p word now r w v2
  proof_failed same some (Ok u) failed kept none = absurd (not_true failed)
    where
      not_true : ¬ (false ≡ true)
      not_true is = cc
  proof_failed same some (Err e) failed kept none = subst (λ x. AnswersProof cmp wire n p word now (Err e) x v2) same
      (subst (λ b. ProvedBy cmp wire b (Err e) n p word now v v2) (sym some) (kept, none))

-- how `ended` is: a stream left, a link ended, or nothing did
module _ {C S : Type 0} (cmp : C → C → Ordering) (wire : Wire C S) (n now : ℕ) (v w v2 : DriverView C S) where
  pub end_left : v ≡ w → is_some (find (has_number n) v.arrivals) ≡ true → (t : Duration) → as_nanos t ≡ max v.latest now →
      Does cmp wire (Happening.Left n t) v v2 → AnswersEnd cmp wire n now true w v2
  end_left same some t in_time does = subst (λ x. AnswersEnd cmp wire n now true x v2) same
      (subst (λ b. EndedBy cmp wire b true n now v v2) (sym some) (t, in_time, does))

  pub end_ended : (p : C) → v ≡ w → is_some (find (has_number n) v.arrivals) ≡ false →
      (held : Held) → link_of cmp v.links p ≡ Some held → held.number ≡ n →
      EndsAt cmp wire n p now held v v2 → AnswersEnd cmp wire n now true w v2
  end_ended p same none held linked number does = subst (λ x. AnswersEnd cmp wire n now true x v2) same
      (subst (λ b. EndedBy cmp wire b true n now v v2) (sym none) (
        p,
        subst (λ o. IsSomeAnd o (λ held. (held.number ≡ n) × EndsAt cmp wire n p now held v v2)) (sym linked) (number, does),
      ))

  pub end_nothing : v ≡ w → is_some (find (has_number n) v.arrivals) ≡ false →
      ((p : C) (held : Held) → link_of cmp v.links p ≡ Some held → held.number ≡ n → ⊥) → v2 ≡ v →
      AnswersEnd cmp wire n now false w v2
  end_nothing same none unlinked kept = subst (λ x. AnswersEnd cmp wire n now false x v2) same
      (subst (λ b. EndedBy cmp wire b false n now v v2) (sym none) (kept, unlinked))

-- .. at the later of two times that is given
pub ends_later : {C S : Type 0} (cmp : C → C → Ordering) (wire : Wire C S) (n : ℕ) (p : C) (t now : ℕ) (held : Held) (v v2 : DriverView C S) → t ≡ max v.latest now →
    EndsAt cmp wire n p t held v v2 → EndsAt cmp wire n p now held v v2
ends_later cmp wire n p t now held v v2 is ends = elim ends [
  | inl e ↦ inl (e.0, once (as_nanos e.0) e.1, e.2)
  | inr e ↦ inr (e.0, once (as_nanos e.0) e.1, e.2)
]
  where
    once : (k : ℕ) → k ≡ max v.latest t → k ≡ max v.latest now
    once k at = grind (arith)

-- what has claimed is there
pub claimed_some : {C : Type 0} (cmp : C → C → Ordering) (p : C) (o : Option (Arrival C)) → is_claim_by cmp p o ≡ true → is_some o ≡ true
claimed_some cmp p None is = absurd cc
claimed_some cmp p (Some a) is = refl

pub linked_some : (o : Option Held) (n : ℕ) → IsSomeAnd o (λ held. held.number ≡ n) → is_some o ≡ true
linked_some None n is = absurd is
linked_some (Some held) n is = refl
