-- How the calls of a driver make it stand, by its parts.
use Rattle.std.proofs.Common.{false, ◌≡◌, Bool, true, not, ◌&&◌, ◌||◌, nat_lt, Option, Some, None, find, filter, ℕ, ◌+◌, ◌≤◌, ◌<◌, List, [], ◌∷◌, ◌++◌, refl, sym, ◌∙◌, ap, subst}
use Rattle.std.proofs.Common.{arith, ◌*◌, nat_le}
use Rattle.std.proofs.lemmas.Bool.Decides.{nat_tests}
use Rattle.std.specs.Prelude.{max, is_some, IfSome, option_map}
use Rattle.std.specs.Option.{IsSomeAnd}
use Rattle.std.specs.Duration.{as_nanos}
use Rattle.std.specs.declared.cmp.Ordering.{Ordering}
use Rattle.std.specs.declared.time.Duration.{Duration}
use Rattle.p2p_discovery.specs.declared.discovery.Payload.TheVariants as payload
use Rattle.p2p_directory.specs.Nodes.{NodeView, NodeStandsAt, Made, AtEach, made_of}
use Rattle.p2p_directory.specs.Run.{world_after}
use Rattle.p2p_tracker.specs.Answers.{may_listen_at, is_eligible_at}
use Rattle.p2p_tracker.specs.Calls.{Call}
use Rattle.p2p_directory.specs.declared.node.setup.Setup.{Setup}
use Rattle.p2p_directory.specs.Received.{Wire}
use Rattle.p2p_driver.specs.Actions.{ActionsView}
use Rattle.p2p_driver.specs.Answers.{AnswersView, AreKept, MayAnswer, IsClaimRefusal, roomless}
use Rattle.p2p_driver.specs.Grants.{grant_of, kept_grant, unless_linked}
use Rattle.p2p_driver.specs.Steps.{comes_by, adopts_by, dials_by, outbound_of, is_outbound_free}
use Rattle.p2p_driver.specs.Arrivals.{arrival_of, room_of, arrived, has_number, claimed}
use Rattle.p2p_driver.specs.Drivers.{DriverView, DriverStands, DriverStandsAt, Does, Comes, AreStreams, Base, link, kept, is_eligible, may_come, has_dial_place, has_outbound_place, may_claim, AnswersClaim, ClaimedBy, seen, base_of}
use Rattle.p2p_driver.specs.Happenings.{Happening, crowded_out, closing, answered_in, calls_of, inbound_count, outbound_count, link_count}
use Rattle.p2p_driver.specs.Links.{link_of, count_of, needs}
use Rattle.p2p_driver.specs.Meters.{MetersView}
use Rattle.p2p_driver.specs.Reads.{reads_of}
use Rattle.p2p_driver.specs.declared.actions.Action.{Action}
use Rattle.p2p_driver.specs.declared.actions.Why.{Why}
use Rattle.p2p_driver.specs.declared.arrivals.Arrival.{Arrival}
use Rattle.p2p_driver.specs.declared.arrivals.Room.{Room}
use Rattle.p2p_driver.specs.declared.arrivals.Room.TheVariants as room
use Rattle.p2p_driver.specs.declared.links.Direction.TheVariants.{Inbound, Dialing, Outbound, TakenOver}
use Rattle.p2p_driver.specs.declared.links.Held.{Held}
use Rattle.p2p_driver.specs.declared.origin.Origin.{Origin}
use Rattle.p2p_driver.specs.declared.pace.Pace.{Pace}
use Rattle.p2p_driver.specs.declared.next_dial.NextDial.{NextDial}
use Rattle.p2p_driver.proofs.Counted.{as_many, as_inbound, as_dialing, as_outbound}
use Rattle.p2p_driver.proofs.Standing

module _ {C S : Type 0} {cmp : C → C → Ordering} {wire : Wire C S} where
  -- it goes on from wherever it stood
  pub goes_on : (e : Happening C S) (v v2 : DriverView C S) → DriverStands cmp wire v → Does cmp wire e v v2 → DriverStands cmp wire v2
  goes_on e v v2 at does = record {
    given = at.given;
    pace = at.pace;
    history = e ∷ at.history;
    stands = does.goes at.given at.pace at.history at.stands;
  }

-- what is said of an answer that there is
pub given_some : {X : Type 0} (P : X → Type 0) (o : Option X) (x : X) → o ≡ Some x → IfSome o P → P x
given_some P o x is holds = subst (λ o. IfSome o P) is holds

-- a node with slots stands where it does without
pub slotted : {C S : Type 0} {m : Made C S} {cs : List (Call C S)} {node : NodeView C S} →
    NodeStandsAt m cs (record node { slots = [] }) → NodeStandsAt m cs node
slotted at = record {
  limit_fits = at.limit_fits;
  refines = at.refines;
  holds = at.holds;
  limits = at.limits;
  verifier = at.verifier;
}

-- a node without slots stands where it does with them
pub unslotted : {C S : Type 0} {m : Made C S} {cs : List (Call C S)} {node : NodeView C S} →
    NodeStandsAt m cs node → NodeStandsAt m cs (record node { slots = [] })
unslotted at = record {
  limit_fits = at.limit_fits;
  refines = at.refines;
  holds = at.holds;
  limits = at.limits;
  verifier = at.verifier;
}

-- what is so wherever a node stands is so of it without slots, and the other way round
pub each_unslotted : {C S : Type 0} {cmp : C → C → Ordering} {node : NodeView C S} (P : Made C S → List (Call C S) → Type 0) →
    AtEach cmp (record node { slots = [] }) P → AtEach cmp node P
each_unslotted P is given calls at = is given calls (unslotted at)

pub each_slotted : {C S : Type 0} {cmp : C → C → Ordering} {node : NodeView C S} (P : Made C S → List (Call C S) → Type 0) →
    AtEach cmp node P → AtEach cmp (record node { slots = [] }) P
each_slotted P is given calls at = is given calls (slotted at)

module _ {C S : Type 0} where
  -- parts that are as they are seen
  pub viewed : (v : DriverView C S) (node : NodeView C S) (pace : Pace) (greeting : List ℕ) (cooldown : ℕ) (dial : NextDial C) (latest next : ℕ)
      (arrivals : List (Arrival C)) (answers : AnswersView) (reads : List (ℕ × MetersView)) (links : List (C × Held)) (actions : List (Action C)) →
      v.node ≡ record node { slots = [] } → v.pace ≡ pace → v.greeting ≡ greeting → v.cooldown ≡ cooldown → v.next_dial ≡ dial → v.latest ≡ latest → v.next ≡ next →
      v.arrivals ≡ arrivals → v.answers ≡ roomless answers → v.reads ≡ reads → v.links ≡ links → v.actions ≡ actions →
      v ≡ seen node pace greeting cooldown dial latest next arrivals answers reads links actions
  viewed v node pace greeting cooldown dial latest next arrivals answers reads links actions a b c l s d e f g r h k = λ i. record {
    node = a i;
    pace = b i;
    greeting = c i;
    cooldown = l i;
    next_dial = s i;
    latest = d i;
    next = e i;
    arrivals = f i;
    answers = g i;
    reads = r i;
    links = h i;
    actions = k i;
  }

module _ {C S : Type 0} (node : NodeView C S) (pace : Pace) (greeting : List ℕ) (cooldown : ℕ) (dial : NextDial C) (latest next : ℕ)
    (arrivals : List (Arrival C)) (answers : AnswersView) (reads : List (ℕ × MetersView)) (links : List (C × Held)) (actions : List (Action C)) where
  abbrev v : DriverView C S
  v = seen node pace greeting cooldown dial latest next arrivals answers reads links actions

  -- parts that are as they were
  pub kept_view : (xs : List (Arrival C)) (answers2 : AnswersView) (actions2 : List (Action C)) →
      xs ≡ arrivals → roomless answers2 ≡ roomless answers → actions2 ≡ actions →
      seen node pace greeting cooldown dial latest next xs answers2 reads links actions2
      ≡ seen node pace greeting cooldown dial latest next arrivals answers reads links actions
  kept_view xs answers2 actions2 streams same said = sym (viewed
      (seen node pace greeting cooldown dial latest next arrivals answers reads links actions) node pace greeting cooldown dial latest next xs answers2 reads links
      actions2 refl refl refl refl refl refl refl (sym streams) (sym same) refl refl (sym said))

  -- the claims that were answered, at a later time, with room for more
  pub kept_from : (b : Base C S) (h : List (Happening C S)) (t : ℕ) → DriverStandsAt b h v → latest ≤ t →
      AreKept pace t (answered_in h) answers
  kept_from b h t at after = let kept = Standing.answers_later b h v at t after in
      subst (λ q. AreKept q t (answered_in h) answers) (sym at.pace) (record { all = kept.all; each = kept.each })

  -- whether a peer may come, by the history
  pub comes_is : (b : Base C S) (h : List (Happening C S)) → DriverStandsAt b h v → (p : C) (x : Bool) →
      comes_by b.made.directory.cmp pace links p x
      ≡ ((nat_lt (link_count h) b.pace.links && nat_lt (inbound_count h) b.pace.inbound) && (not (is_some (link b p h)) && x))
  comes_is b h at p x =
      ap (λ q. comes_by b.made.directory.cmp q links p x) at.pace
      ∙ ap (λ n. (nat_lt n b.pace.links && nat_lt (count_of Inbound links) b.pace.inbound) && (not (is_some (link_of b.made.directory.cmp links p)) && x)) (as_many h links at.counts)
      ∙ ap (λ n. (nat_lt (link_count h) b.pace.links && nat_lt n b.pace.inbound) && (not (is_some (link_of b.made.directory.cmp links p)) && x)) (as_inbound h links at.counts)
      ∙ ap (λ o. (nat_lt (link_count h) b.pace.links && nat_lt (inbound_count h) b.pace.inbound) && (not (is_some o) && x)) (at.links p)

  -- .. by a grant that is kept of it
  pub outbound_is : (b : Base C S) (h : List (Happening C S)) → DriverStandsAt b h v → is_outbound_free pace links ≡ has_outbound_place b h
  outbound_is b h at = λ i. nat_lt (as_outbound h links at.counts i) (at.pace i).outbound

  pub adopts_is : (b : Base C S) (h : List (Happening C S)) → DriverStandsAt b h v → (p : C) (x : Bool) →
      adopts_by pace links (is_some (kept_grant b.made.directory.cmp links dial.grants p)) x
      ≡ (nat_lt (link_count h) b.pace.links && ((has_outbound_place b h || nat_lt (inbound_count h) b.pace.inbound) && (is_some (kept b p h) && x)))
  adopts_is b h at p x = λ i. nat_lt (as_many h links at.counts i) (at.pace i).links
      && ((outbound_is b h at i || nat_lt (as_inbound h links at.counts i) (at.pace i).inbound)
      && (is_some (unless_linked (at.links p i) (at.grants p i)) && x))

  -- .. and whether another dial has a place
  pub dials_is : (b : Base C S) (h : List (Happening C S)) → DriverStandsAt b h v → dials_by pace links ≡ has_dial_place b h
  dials_is b h at =
      ap (λ q. dials_by q links) at.pace
      ∙ ap (λ n. nat_lt n b.pace.links && (nat_lt (outbound_of links) b.pace.outbound && nat_lt (count_of Dialing links) b.pace.dials)) (as_many h links at.counts)
      ∙ ap (λ n. nat_lt (link_count h) b.pace.links && (nat_lt n b.pace.outbound && nat_lt (count_of Dialing links) b.pace.dials)) (as_outbound h links at.counts)
      ∙ ap (λ n. nat_lt (link_count h) b.pace.links && (nat_lt (outbound_count h) b.pace.outbound && nat_lt n b.pace.dials)) (as_dialing h links at.counts)

  -- what decides whether a peer may come
  abbrev pub MayIs : (C → C → Ordering) → C → Duration → Bool → Type 0
  MayIs cmp p t may = AtEach cmp node (λ m calls. let w = world_after m.directory calls in may
      ≡ (adopts_by pace links (is_some (kept_grant cmp links dial.grants p)) (is_eligible_at m.directory w p (as_nanos t))
      || comes_by cmp pace links p (may_listen_at m.directory w p (as_nanos t))))

  may_is : (cmp : C → C → Ordering) (wire : Wire C S) (given : Setup C S) (pace2 : Pace) (h : List (Happening C S)) →
      DriverStandsAt (base_of cmp wire given pace2) h v → (p : C) (t : Duration) (may : Bool) → MayIs cmp p t may →
      may ≡ may_come (base_of cmp wire given pace2) h p (as_nanos t)
  may_is cmp wire given pace2 h at p t may is = is given (calls_of h) (slotted at.node)
      ∙ λ i. adopts_is (base_of cmp wire given pace2) h at p (is_eligible (base_of cmp wire given pace2) h p (as_nanos t)) i
      || comes_is (base_of cmp wire given pace2) h at p
      (may_listen_at (made_of cmp given).directory (world_after (made_of cmp given).directory (calls_of h)) p (as_nanos t)) i

  module _ {cmp : C → C → Ordering} {wire : Wire C S} where
    -- a stream came
    pub comes : (origin : Origin) (t : Duration) (space : Room) (xs : List (Arrival C)) (answers2 : AnswersView)
        (actions2 : List (Action C)) (next2 : ℕ) → latest ≤ as_nanos t → ¬ (space ≡ room.None) →
        room_of pace (as_nanos t) arrivals origin ≡ space → xs ≡ arrived (arrival_of next origin t) space arrivals →
        roomless answers2 ≡ roomless answers → actions2 ≡ actions ++ crowded_out space → next2 ≡ next + 1 →
        Does cmp wire (Happening.Arrived next origin t space) v
        (seen node pace greeting cooldown dial (as_nanos t) next2 xs answers2 reads links actions2)
    comes origin t space xs answers2 actions2 next2 after some is streams same said more = record {
      goes = λ given pace2 h at.
          subst (DriverStandsAt (base_of cmp wire given pace2) (Happening.Arrived next origin t space ∷ h))
          (viewed (record v {
            latest = as_nanos t;
            next = next + 1;
            arrivals = arrived (arrival_of next origin t) space arrivals;
            actions = actions ++ crowded_out space;
          }) node pace greeting cooldown dial (as_nanos t) next2 xs answers2 reads links actions2 refl refl refl refl refl refl (sym more) (sym streams) (sym same) refl refl (sym said))
          (Standing.came (base_of cmp wire given pace2) h v at origin t space some is after);
    }

    -- a stream claimed, and goes on
    pub claims_by : (n : ℕ) (stream : Arrival C) (p : C) (t : Duration) (may : Bool) (xs : List (Arrival C))
        (answers2 : AnswersView) (actions2 : List (Action C)) → stream.number ≡ n → find (has_number n) arrivals ≡ Some stream →
        stream.claim ≡ None → MayIs cmp p t may → latest ≤ as_nanos t → may ≡ true →
        xs ≡ claimed stream.number p arrivals → actions2 ≡ actions →
        ((claims : List (ℕ × ℕ)) → AreKept pace (as_nanos t) claims answers →
        MayAnswer pace (as_nanos t) stream.origin.0 claims
        × AreKept pace (as_nanos t) ((stream.origin.0, as_nanos t) ∷ claims) answers2) →
        Does cmp wire (Happening.Claimed n p stream.origin t) v
        (seen node pace greeting cooldown dial (as_nanos t) next xs answers2 reads links actions2)
    claims_by n stream p t may xs answers2 actions2 number found none decides after yes_may streams said answered = record {
      goes = λ given pace2 h at.
          let b = base_of cmp wire given pace2 in
          let both = answered (answered_in h) (kept_from b h (as_nanos t) at after) in
          let here = sym found ∙ at.arrivals.each n in
          subst (DriverStandsAt b (Happening.Claimed n p stream.origin t ∷ h))
          (viewed (record v { latest = as_nanos t; arrivals = claimed n p arrivals; answers = roomless answers2 })
          node pace greeting cooldown dial (as_nanos t) next xs answers2 reads links actions2
          refl refl refl refl refl refl refl (ap (λ k. claimed k p arrivals) (sym number) ∙ sym streams) refl refl refl (sym said))
          (Standing.claims b h v at n p stream.origin t (roomless answers2) (
            subst (λ o. IsSomeAnd o (λ a. a.claim ≡ None)) here none,
            subst (λ o. IsSomeAnd o (λ a. a.origin.0 ≡ stream.origin.0)) here refl,
            sym (may_is cmp wire given pace2 h at p t may decides) ∙ yes_may,
            subst (λ q. MayAnswer q (as_nanos t) stream.origin.0 (answered_in h)) at.pace both.0,
          )
          after
          (let kept = subst (λ q. AreKept q (as_nanos t) ((stream.origin.0, as_nanos t) ∷ answered_in h) answers2) at.pace both.1 in
          record { all = kept.all; each = kept.each }));
    }

    -- .. or is closed
    pub refuses_by : (n : ℕ) (stream : Arrival C) (p : C) (t : Duration) (may : Bool) (w : Why) (xs : List (Arrival C))
        (answers2 : AnswersView) (actions2 : List (Action C)) → stream.number ≡ n → find (has_number n) arrivals ≡ Some stream →
        stream.claim ≡ None → MayIs cmp p t may → latest ≤ as_nanos t →
        xs ≡ filter (λ a. not (has_number stream.number a)) arrivals → actions2 ≡ actions ++ closing stream.number w →
        ((claims : List (ℕ × ℕ)) → AreKept pace (as_nanos t) claims answers →
        IsClaimRefusal pace (as_nanos t) stream.origin.0 claims may w
        × AreKept pace (as_nanos t) claims answers2) →
        Does cmp wire (Happening.Refused n p t w) v
        (seen node pace greeting cooldown dial (as_nanos t) next xs answers2 reads links actions2)
    refuses_by n stream p t may w xs answers2 actions2 number found none decides after streams said answered = record {
      goes = λ given pace2 h at.
          let b = base_of cmp wire given pace2 in
          let both = answered (answered_in h) (kept_from b h (as_nanos t) at after) in
          let here = sym found ∙ at.arrivals.each n in
          subst (DriverStandsAt b (Happening.Refused n p t w ∷ h))
          (viewed (record v {
            latest = as_nanos t;
            arrivals = filter (λ a. not (has_number n a)) arrivals;
            answers = roomless answers2;
            actions = actions ++ closing n w;
          })
          node pace greeting cooldown dial (as_nanos t) next xs answers2 reads links actions2
          refl refl refl refl refl refl refl (ap (λ k. filter (λ a. not (has_number k a)) arrivals) (sym number) ∙ sym streams) refl refl refl
          (ap (λ k. actions ++ closing k w) (sym number) ∙ sym said))
          (Standing.goes b h v at n t (Happening.Refused n p t w) (closing n w) (roomless answers2)
          refl (λ j. refl) (λ j. refl) (λ j. refl) refl refl (λ q. refl) (λ q. refl) (λ q. refl) (λ way. refl) refl refl refl refl (λ q. refl) (λ q. refl) refl refl refl refl (λ j. refl) (λ j. refl) (λ j place. refl) (
            subst (λ o. IsSomeAnd o (λ a. a.claim ≡ None)) here none,
            (
              stream.origin,
              subst (λ o. IsSomeAnd o (λ a. a.origin.0 ≡ stream.origin.0)) here refl,
              subst (λ q. IsClaimRefusal q (as_nanos t) stream.origin.0 (answered_in h) (may_come b h p (as_nanos t)) w) at.pace
                  (subst (λ m. IsClaimRefusal pace (as_nanos t) stream.origin.0 (answered_in h) m w) (may_is cmp wire given pace2 h at p t may decides) both.0),
            ),
          )
          after
          (let kept = subst (λ q. AreKept q (as_nanos t) (answered_in h) answers2) at.pace both.1 in
          record { all = kept.all; each = kept.each }));
    }

-- the later of two times is no earlier than the first
pub no_earlier : (a b t : ℕ) → t ≡ max a b → a ≤ t
no_earlier a b t is = grind (arith)

-- not too many actions wait
pub few_wait : (n a : ℕ) → nat_le (4 * a) n ≡ false → n < 4 * a
few_wait n a isnt = grind (arith, nat_tests)

-- room for what may have to be said
pub room_left : (streams streams2 needs room room2 : ℕ) → streams2 + room ≤ room2 + streams →
    streams + needs ≤ room → streams2 + needs ≤ room2
room_left streams streams2 needs room room2 moves fits = grind (arith)

-- what is said of the parts of a driver is said of it
module _ {C S : Type 0} {cmp : C → C → Ordering} {wire : Wire C S} where
  pub does_from : {e : Happening C S} {v w v2 : DriverView C S} → v ≡ w → Does cmp wire e v v2 → Does cmp wire e w v2
  does_from {e} {v} {w} {v2} is does = subst (λ x. Does cmp wire e x v2) is does

  pub comes_from : {n origin now : ℕ} {v w v2 : DriverView C S} → v ≡ w → Comes cmp wire n origin now v v2 →
      Comes cmp wire n origin now w v2
  comes_from {n} {origin} {now} {v} {w} {v2} is comes = subst (λ x. Comes cmp wire n origin now x v2) is comes

-- a new driver
pub stands_new : {C S : Type 0} (cmp : C → C → Ordering) (wire : Wire C S) (given : Setup C S) (node : NodeView C S) (pace : Pace)
    (greeting : List ℕ) (dial : NextDial C) (arrivals : List (Arrival C)) (answers : AnswersView) (reads : List (ℕ × MetersView)) (links : List (C × Held)) (actions : ActionsView C) →
    option_map as_nanos dial.from ≡ Some 0 → dial.retry ≡ 0 → dial.grants ≡ [] → NodeStandsAt (made_of cmp given) [] node → greeting ≡ wire.spelling (payload.Greeting given.myself) → arrivals ≡ [] →
    AreKept pace 0 [] answers → reads ≡ [] → links ≡ [] → actions.items ≡ [] →
    DriverStandsAt (base_of cmp wire given pace) [] (seen node pace greeting (as_nanos given.cfg.peer_connection_cooldown) dial 0 1 arrivals answers reads links actions.items)
stands_new cmp wire given node pace greeting dial arrivals answers reads links actions zero first ungranted stands own streams kept unread none nothing = record {
  node = record {
    limit_fits = stands.limit_fits;
    refines = stands.refines;
    holds = stands.holds;
    limits = stands.limits;
    verifier = stands.verifier;
  };
  pace = refl;
  greeting = own;
  cooldown = refl;
  latest = refl;
  next = refl;
  arrivals = subst (AreStreams []) (sym streams) (record { rise = grind (arith); each = λ n. refl });
  answers = record { all = kept.all; each = kept.each };
  reads = λ n. ap (λ rs. reads_of rs n) unread;
  links = λ p. ap (λ es. link_of cmp es p) none;
  grants = λ p. ap (λ gs. grant_of cmp gs p) ungranted;
  counts = record {
    inbound = ap (λ es. count_of Inbound es + 0) none;
    dialing = ap (λ es. count_of Dialing es + 0) none;
    outbound = ap (λ es. count_of Outbound es + 0) none;
    taken_over = ap (λ es. count_of TakenOver es + 0) none;
  };
  quiet = Standing.quiet_zero (made_of cmp given).directory (world_after (made_of cmp given).directory []) 0 (option_map as_nanos dial.from) zero;
  retry = first;
  actions = nothing;
  right = tt;
}

module _ {C S : Type 0} {cmp : C → C → Ordering} {wire : Wire C S} where
  -- a claim leaves it standing, whether it goes on or is closed
  pub claim_leaves : {v v2 : DriverView C S} {n : ℕ} {p : C} {origin : Origin} {t : Duration} → DriverStands cmp wire v →
      (stopped : Option Why) → (stopped ≡ None → Does cmp wire (Happening.Claimed n p origin t) v v2) →
      ((w : Why) → stopped ≡ Some w → Does cmp wire (Happening.Refused n p t w) v v2) → DriverStands cmp wire v2
  claim_leaves at None goes stops = goes_on _ _ _ at (goes refl)
  claim_leaves at (Some w) goes stops = goes_on _ _ _ at (stops w refl)

  -- .. and is answered so
  pub claim_answered : {v w v2 : DriverView C S} {n : ℕ} {p : C} {origin : Origin} {t : Duration} (now : ℕ) (answer : Bool) → v ≡ w →
      may_claim (find (has_number n) v.arrivals) ≡ true → as_nanos t ≡ max v.latest now → (stopped : Option Why) →
      answer ≡ not (is_some stopped) →
      (stopped ≡ None → Does cmp wire (Happening.Claimed n p origin t) v v2) →
      ((w : Why) → stopped ≡ Some w → Does cmp wire (Happening.Refused n p t w) v v2) →
      AnswersClaim cmp wire n p now answer w v2
  claim_answered {v} {w} {v2} {n} {p} {origin} {t} now answer same there in_time stopped is goes stops =
      subst (λ x. AnswersClaim cmp wire n p now answer x v2) same
      (subst (λ b. ClaimedBy cmp wire b answer n p now v v2) (sym there)
      (subst (λ a. ClaimedBy cmp wire true a n p now v v2) (sym is) (go stopped goes stops)))
    where
      go : (stopped : Option Why) → (stopped ≡ None → Does cmp wire (Happening.Claimed n p origin t) v v2) →
          ((w : Why) → stopped ≡ Some w → Does cmp wire (Happening.Refused n p t w) v v2) →
          ClaimedBy cmp wire true (not (is_some stopped)) n p now v v2
      go None goes stops = (origin, (t, in_time, goes refl))
      go (Some w) goes stops = (w, (t, in_time, stops w refl))
