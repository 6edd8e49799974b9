-- How frames that are to come make a driver stand, by its parts.
use Rattle.std.proofs.Common.{◌≡◌, ◌+◌, Bool, true, false, ℕ, ◌==◌, ◌≤◌, ◌<◌, ◌⊎◌, inl, inr, List, Option, Some, None, refl, sym, ◌∙◌, ap, subst, arith}
use Rattle.std.specs.Prelude.{IfSome, length, if◌then◌else◌, option_map}
use Rattle.std.specs.BTreeMap.{is_at}
use Rattle.std.specs.Option.{IsSomeAnd}
use Rattle.std.specs.Duration.{as_nanos, max_nanos}
use Rattle.std.specs.declared.cmp.Ordering.{Ordering}
use Rattle.std.specs.declared.time.Duration.{Duration}
use Rattle.std.proofs.lemmas.Bool.{cases_lt}
use Rattle.std.proofs.lemmas.Map.Lookups.{CmpEqualImpliesEq}
use Rattle.p2p_directory.specs.Nodes.{NodeView, NodeStandsAt, AtEach}
use Rattle.p2p_directory.specs.Received.{Wire}
use Rattle.p2p_directory.specs.declared.node.setup.Setup.{Setup}
use Rattle.p2p_driver.specs.Admissions.{LooksOn}
use Rattle.p2p_driver.specs.Answers.{AnswersView, IsAllowedAt, IsKeptAt}
use Rattle.p2p_driver.specs.Drivers.{DriverView, DriverStands, DriverStandsAt, Does, seen, base_of}
use Rattle.p2p_driver.specs.Frames.{Outcome, IsOutcome, is_of_head}
use Rattle.p2p_driver.specs.Frames.Cause.{OfHead}
use Rattle.p2p_driver.specs.Grants.{grant_of}
use Rattle.p2p_driver.specs.Happenings.{Happening}
use Rattle.p2p_driver.specs.Heads.{kind_of}
use Rattle.p2p_driver.specs.Hearing.{Follows}
use Rattle.p2p_driver.specs.Links.{link_of, count_of, is_dialing, hearing, allowing, is_open}
use Rattle.p2p_driver.specs.Looked.{LookedView, looked_of}
use Rattle.p2p_driver.specs.Meters.{MetersView, IsEarly}
use Rattle.p2p_driver.specs.Reading.{rate_at, kind_at_rate, read_in, since_in, frames_read, IsMetered, IsDelayed, IsInTurn, ComesOfKind}
use Rattle.p2p_driver.specs.Reads.{reads_of, kept_in, HasPlace, Takes}
use Rattle.p2p_driver.specs.Steps.{MakesFor, IsBlocked}
use Rattle.p2p_driver.specs.declared.actions.Action.{Action}
use Rattle.p2p_driver.specs.declared.actions.Breach.{Breach}
use Rattle.p2p_driver.specs.declared.arrivals.Arrival.{Arrival}
use Rattle.p2p_driver.specs.declared.heads.Kind.{Kind}
use Rattle.p2p_driver.specs.declared.heads.Kind.TheVariants as kind
use Rattle.p2p_driver.specs.declared.links.Direction.{Direction}
use Rattle.p2p_driver.specs.declared.links.Held.{Held}
use Rattle.p2p_driver.specs.declared.links.Phase.{Phase}
use Rattle.p2p_driver.specs.declared.links.Phase.TheVariants as phase
use Rattle.p2p_driver.specs.declared.links.Waiting.{Waiting}
use Rattle.p2p_driver.specs.declared.pace.Pace.{Pace}
use Rattle.p2p_driver.specs.declared.next_dial.NextDial.{NextDial}
use Rattle.p2p_driver.specs.declared.rate.Rate.{Rate}
use Rattle.p2p_driver.proofs.DrivingFrames.{Outs, Paces, stands_at, hears, hears_as, blocked_done, said_none}
use Rattle.p2p_driver.proofs.Kept.{kept_later}
use Rattle.p2p_driver.proofs.Lasting.{metered_by}
use Rattle.p2p_driver.proofs.Metered.{metered_free, metered_reads}
use Rattle.p2p_driver.proofs.Standing
use Rattle.p2p_driver.proofs.Standing.{IsSoon, IsSoughtFor}

-- a link that there is, on which a frame of a kind is to come
pub record FoundTo {C S : Type 0} (cmp : C → C → Ordering) (longest n : ℕ) (p : C) (owed : ℕ) (head : List ℕ) (size : ℕ) (k : Kind)
    (v : DriverView C S) : Type 0 where
  pub held : Held
  pub linked : link_of cmp v.links p ≡ Some held
  pub number : held.number ≡ n
  pub owed_is : held.owed ≡ owed
  pub none : held.waiting ≡ None
  pub reached : is_dialing held ≡ false
  pub isnt : ¬ (held.phase ≡ phase.Closing)
  pub kind_is : k ≡ kind_of longest v.pace.channels.items v.node.limits (is_open held.phase) head size

pub found_to : {C S : Type 0} (cmp : C → C → Ordering) (longest n : ℕ) (p : C) (owed : ℕ) (head : List ℕ) (size : ℕ) (k k2 : Kind)
    (v w : DriverView C S) → w ≡ v → k ≡ k2 → LooksOn cmp longest n p owed head size k v → FoundTo cmp longest n p owed head size k2 w
found_to cmp longest n p owed head size k k2 v w same is on = go (link_of cmp w.links p) refl
    (subst (λ x. LooksOn cmp longest n p owed head size k2 x) (sym same) (subst (λ x. LooksOn cmp longest n p owed head size x v) is on))
  where
    go : (o : Option Held) → link_of cmp w.links p ≡ o → IsSomeAnd o (λ held. (held.number ≡ n) × (held.owed ≡ owed) × (held.waiting ≡ None)
        × (is_dialing held ≡ false) × (¬ (held.phase ≡ phase.Closing)) × (k2 ≡ kind_of longest w.pace.channels.items w.node.limits (is_open held.phase) head size)) →
        FoundTo cmp longest n p owed head size k2 w
    go None is on = absurd on
    go (Some held) is on = record { held = held; linked = is; number = on.0; owed_is = on.1; none = on.2; reached = on.3; isnt = on.4; kind_is = on.5 }

-- .. as it is looked for
pub looks_on : {C S : Type 0} (cmp : C → C → Ordering) (longest n : ℕ) (p : C) (owed : ℕ) (head : List ℕ) (size : ℕ) (k : Kind)
    (v w : DriverView C S) (held : Held) → v ≡ w → link_of cmp v.links p ≡ Some held → held.number ≡ n → held.owed ≡ owed → held.waiting ≡ None →
    is_dialing held ≡ false → ¬ (held.phase ≡ phase.Closing) → k ≡ kind_of longest v.pace.channels.items v.node.limits (is_open held.phase) head size →
    LooksOn cmp longest n p owed head size k w
looks_on cmp longest n p owed head size k v w held same linked number owed_is none reached isnt is =
    subst (λ x. LooksOn cmp longest n p owed head size k x) same
    (subst (λ o. IsSomeAnd o (λ held. (held.number ≡ n) × (held.owed ≡ owed) × (held.waiting ≡ None)
    × (is_dialing held ≡ false) × (¬ (held.phase ≡ phase.Closing)) × (k ≡ kind_of longest v.pace.channels.items v.node.limits (is_open held.phase) head size)))
    (sym linked) (number, owed_is, none, reached, isnt, is))

-- how links are kept, by what may be handed in
pub looked_at : {C : Type 0} (cmp : C → C → Ordering) (links links2 : List (C × Held)) (p : C) (l l2 : LookedView) → l ≡ l2 →
    ((q : C) → link_of cmp links2 q ≡ (if is_at (cmp p) q then option_map (allowing l) (link_of cmp links q) else link_of cmp links q)) →
    (q : C) → link_of cmp links2 q ≡ (if is_at (cmp p) q then option_map (allowing l2) (link_of cmp links q) else link_of cmp links q)
looked_at {C = C} cmp links links2 p l l2 same kept = subst (λ l. (q : C) → link_of cmp links2 q
    ≡ (if is_at (cmp p) q then option_map (allowing l) (link_of cmp links q) else link_of cmp links q)) same kept

-- what is so of one that there is
pub of_some : {A : Type 0} (P : A → Type 0) (o : Option A) (a : A) → o ≡ Some a → IsSomeAnd o P → P a
of_some P o a is holds = subst (λ o. IsSomeAnd o P) is holds

-- one that there is
pub the_one : {A : Type 0} (P : A → Type 0) (o : Option A) → IsSomeAnd o P → (a : A) × (o ≡ Some a) × P a
the_one P None some = absurd some
the_one P (Some a) some = (a, refl, some)

module _ {C S : Type 0} (cmp : C → C → Ordering) (wire : Wire C S) (node : NodeView C S) (pace : Pace)
    (greeting : List ℕ) (cooldown : ℕ) (dial : NextDial C) (latest next : ℕ) (arrivals : List (Arrival C)) (answers : AnswersView) (reads : List (ℕ × MetersView))
    (links : List (C × Held)) (actions : List (Action C)) where
  abbrev v : DriverView C S
  v = seen node pace greeting cooldown dial latest next arrivals answers reads links actions

  module _ (longest n : ℕ) (p : C) (owed : ℕ) (head : List ℕ) (size : ℕ) (t : Duration) (after : latest ≤ as_nanos t) where
    abbrev Found : Kind → Type 0
    Found k = FoundTo cmp longest n p owed head size k v

    -- how the link is kept then
    abbrev KeptAs : (Held → Held) → List (C × Held) → Type 0
    KeptAs change links2 = (q : C) → link_of cmp links2 q ≡ (if is_at (cmp p) q then option_map change (link_of cmp links q) else link_of cmp links q)

    unmade : AtEach cmp node (λ m calls. NodeStandsAt m calls node)
    unmade given calls at = at

    -- what may come of it
    outs : (k : Kind) (f : Found k) (outcome : Outcome C S) → is_of_head outcome ≡ true → Outs cmp wire v.node p f.held (OfHead longest head size) outcome
    outs k f outcome may given calls at = go f.held.phase f.held.waiting f.isnt f.none
      where
        go : (ph : Phase) (w : Option Waiting) → ¬ (ph ≡ phase.Closing) → w ≡ None →
            IsOutcome cmp wire (stands_at cmp wire given calls) ph f.held.owed w p (OfHead longest head size) outcome
        go phase.Greeting None isnt none = may
        go phase.Open None isnt none = may
        go phase.Closing w isnt none = absurd (isnt refl)
        go phase.Greeting (Some w) isnt none = absurd cc
        go phase.Open (Some w) isnt none = absurd cc

    -- .. and by its kind
    paces : (k : Kind) (f : Found k) (outcome : Outcome C S) → ((given : Setup C S) (pace2 : Pace) (h : List (Happening C S)) →
        DriverStandsAt (base_of cmp wire given pace2) h v → ComesOfKind pace2 h n (as_nanos t) k (looked_of head size) outcome) →
        Paces cmp wire node pace greeting cooldown dial latest next arrivals answers reads links actions n t f.held (OfHead longest head size) outcome
    paces k f outcome comes given pace2 h at = (
      f.reached,
      subst (λ x. ComesOfKind pace2 h n (as_nanos t) x (looked_of head size) outcome)
          (f.kind_is ∙ ap (λ (q : Pace). kind_of longest q.channels.items node.limits (is_open f.held.phase) head size) at.pace
          ∙ ap (λ l. kind_of longest pace2.channels.items l (is_open f.held.phase) head size) at.node.limits)
          (comes given pace2 h at),
    )

    -- a rule is broken
    pub breaks_on : (k : Kind) (x : Breach) (blocked : Option Bool) (node2 : NodeView C S) (dial2 : NextDial C) (links2 : List (C × Held)) (actions2 : List (Action C)) →
        IsSoon dial dial2 → Found k → is_of_head {C = C} {S = S} (Outcome.Breaks x blocked) ≡ true →
        ((pace2 : Pace) (h : List (Happening C S)) → ComesOfKind pace2 h n (as_nanos t) k (looked_of head size) (Outcome.Breaks x blocked)) →
        MakesFor cmp p t (Outcome.Breaks x blocked) node node2 → IsBlocked cmp p (as_nanos t) blocked node →
        Follows {S = S} cmp n p t owed (Outcome.Breaks x blocked) links links2 actions actions2 →
        Does cmp wire (Happening.Heard n p t owed (OfHead longest head size) (Outcome.Breaks x blocked)) v
        (seen node2 pace greeting cooldown dial2 (as_nanos t) next arrivals answers reads links2 actions2)
    breaks_on k x blocked node2 dial2 links2 actions2 once f may comes made blocks follows =
        hears cmp wire node pace greeting cooldown dial latest next arrivals answers reads links actions n p f.held t owed
        (OfHead longest head size) (Outcome.Breaks x blocked) node2 dial2 links2 actions2 tt (inr once.0, λ q. ap (λ gs. grant_of cmp gs q) once.1) f.linked f.number after
        (outs k f (Outcome.Breaks x blocked) may) (paces k f (Outcome.Breaks x blocked) (λ given pace2 h at. comes pace2 h)) (sym f.owed_is)
        (blocked_done cmp wire node p t x blocked blocks) made (λ j place. refl) follows tt

    -- the channel isn't in the settings
    pub lacks_on : (links2 : List (C × Held)) (actions2 : List (Action C)) → Found kind.NoChannel →
        Follows {S = S} cmp n p t owed Outcome.LacksChannel links links2 actions actions2 →
        Does cmp wire (Happening.Heard n p t owed (OfHead longest head size) Outcome.LacksChannel) v
        (seen node pace greeting cooldown dial (as_nanos t) next arrivals answers reads links2 actions2)
    lacks_on links2 actions2 f follows = hears cmp wire node pace greeting cooldown dial latest next arrivals answers reads links actions n p f.held t owed
        (OfHead longest head size) Outcome.LacksChannel node dial links2 actions2 tt (inl (refl, refl, refl), λ q. refl) f.linked f.number after
        (outs kind.NoChannel f Outcome.LacksChannel refl) (paces kind.NoChannel f Outcome.LacksChannel (λ given pace2 h at. tt)) (sym f.owed_is)
        (λ given calls at. tt) unmade (λ j place. refl) follows tt

    -- a first frame may be read
    pub free_on : (links2 : List (C × Held)) (actions2 : List (Action C)) → Found kind.Greeting → KeptAs (allowing (looked_of head size)) links2 →
        ((way : Direction) → count_of way links2 ≡ count_of way links) → actions2 ≡ actions →
        Does cmp wire (Happening.Heard n p t owed (OfHead longest head size) (Outcome.Reads kind.Greeting (looked_of head size))) v
        (seen node pace greeting cooldown dial (as_nanos t) next arrivals answers reads links2 actions2)
    free_on links2 actions2 f kept count same =
        let outcome : Outcome C S = Outcome.Reads kind.Greeting (looked_of head size) in
        hears_as cmp wire node pace greeting cooldown dial latest next arrivals answers reads links actions n p f.held t owed
        (OfHead longest head size) outcome node dial reads links2 actions2 tt (inl (refl, refl, refl), λ q. refl) f.linked f.number after
        (outs kind.Greeting f outcome refl) (paces kind.Greeting f outcome (λ given pace2 h at. (refl, refl))) (sym f.owed_is)
        (λ given calls at. tt) unmade
        (λ given pace2 h at. metered_free pace2 (as_nanos t) n p t owed (OfHead longest head size) (looked_of head size) h reads
        (Standing.reads_at (base_of cmp wire given pace2) h v at (as_nanos t) after))
        (record { links_are = kept; counts = count; said = said_none actions actions2 same }) tt

    -- something is kept of the link, and it has the channel
    pub linked_meters : CmpEqualImpliesEq cmp → DriverStands cmp wire v → (place : Option ℕ) → IfSome place (λ x. x < length pace.channels.items) →
        (k : Kind) → Found k → (m : MetersView) × (reads_of reads n ≡ Some m) × HasPlace place m
    linked_meters exact at place less k f =
        let here = metered_by (base_of cmp wire at.given at.pace) exact at.history v at.stands p f.held n f.linked f.number in
        let one = the_one (IsMetered at.pace latest n here.0.1) (reads_of reads n) here.2 in
        (one.0, one.1, go place less one.0 (one.2.count ∙ ap (λ (q : Pace). length q.channels.items + length q.channels.items) (sym at.stands.pace)))
      where
        go : (place : Option ℕ) → IfSome place (λ x. x < length pace.channels.items) → (m : MetersView) → length m.channels ≡ length pace.channels.items + length pace.channels.items →
            HasPlace place m
        go None less m same = tt
        go (Some x) less m same = omega (arith, less, same)

    module _ (exact : CmpEqualImpliesEq cmp) (place : Option ℕ) (rate : Rate) (rated : rate_at pace place ≡ Some rate) where
      rated_by : (given : Setup C S) (pace2 : Pace) (h : List (Happening C S)) → DriverStandsAt (base_of cmp wire given pace2) h v →
          rate_at pace2 place ≡ Some rate
      rated_by given pace2 h at = ap (λ q. rate_at q place) (sym at.pace) ∙ rated

      -- what is kept says what was read
      kept_by : (f : Found (kind_at_rate place)) (m : MetersView) → reads_of reads n ≡ Some m →
          (given : Setup C S) (pace2 : Pace) (h : List (Happening C S)) → DriverStandsAt (base_of cmp wire given pace2) h v → (now : ℕ) → latest ≤ now →
          IsKeptAt rate now (frames_read n place h) (kept_in place m)
      kept_by f m old given pace2 h at now late =
          let here = metered_by (base_of cmp wire given pace2) exact h v at p f.held n f.linked f.number in
          let kept = of_some (IsMetered pace2 latest n here.0.1) (reads_of reads n) m old here.2 in
          subst (λ o. IsKeptAt rate now (read_in n place (since_in o)) (kept_in place m)) (sym here.1)
          (kept_later _ _ (read_in n place here.0.1) (kept_in place m) latest now (kept.kept place rate (rated_by given pace2 h at)) late)

      by_rate : (l : LookedView) (outcome : Outcome C S) (pace2 : Pace) (h : List (Happening C S)) →
          IsInTurn pace2 h n (as_nanos t) place l outcome → ComesOfKind pace2 h n (as_nanos t) (kind_at_rate place) l outcome
      by_rate l outcome pace2 h turn = go place turn
        where
          go : (x : Option ℕ) → IsInTurn pace2 h n (as_nanos t) x l outcome → ComesOfKind pace2 h n (as_nanos t) (kind_at_rate x) l outcome
          go None turn = turn
          go (Some x) turn = turn

      -- it may be read
      pub reads_on : (reads2 : List (ℕ × MetersView)) (links2 : List (C × Held)) (actions2 : List (Action C)) (m m2 : MetersView) →
          (f : Found (kind_at_rate place)) → reads_of reads n ≡ Some m → reads_of reads2 n ≡ Some m2 → Takes rate (as_nanos t) place m m2 →
          ((j : ℕ) → (j == n) ≡ false → reads_of reads2 j ≡ reads_of reads j) → KeptAs (allowing (looked_of head size)) links2 →
          ((way : Direction) → count_of way links2 ≡ count_of way links) → actions2 ≡ actions →
          Does cmp wire (Happening.Heard n p t owed (OfHead longest head size) (Outcome.Reads (kind_at_rate place) (looked_of head size))) v
          (seen node pace greeting cooldown dial (as_nanos t) next arrivals answers reads2 links2 actions2)
      reads_on reads2 links2 actions2 m m2 f old new takes others kept count same =
          let outcome : Outcome C S = Outcome.Reads (kind_at_rate place) (looked_of head size) in
          hears_as cmp wire node pace greeting cooldown dial latest next arrivals answers reads links actions n p f.held t owed
          (OfHead longest head size) outcome node dial reads2 links2 actions2 tt (inl (refl, refl, refl), λ q. refl) f.linked f.number after
          (outs (kind_at_rate place) f outcome refl)
          (paces (kind_at_rate place) f outcome (λ given pace2 h at. by_rate (looked_of head size) outcome pace2 h (
            refl,
            refl,
            subst (λ o. IsSomeAnd o (λ rate. IsAllowedAt rate (frames_read n place h) (as_nanos t))) (sym (rated_by given pace2 h at))
                (takes.read (frames_read n place h) (kept_by f m old given pace2 h at (as_nanos t) after)).0,
          )))
          (sym f.owed_is) (λ given calls at. tt) unmade
          (λ given pace2 h at. metered_reads pace2 n p t owed (OfHead longest head size) place (looked_of head size) rate h reads reads2 m m2
          (rated_by given pace2 h at) old new takes others (Standing.reads_at (base_of cmp wire given pace2) h v at (as_nanos t) after))
          (record { links_are = kept; counts = count; said = said_none actions actions2 same }) tt

      -- .. or not yet
      pub delays_on : (next2 : ℕ) (reads2 : List (ℕ × MetersView)) (links2 : List (C × Held)) (actions2 : List (Action C)) (m : MetersView) →
          reads2 ≡ reads →
          (f : Found (kind_at_rate place)) → reads_of reads n ≡ Some m → IsEarly rate (as_nanos t) (kept_in place m) next2 → next2 ≤ max_nanos →
          KeptAs (hearing t owed None) links2 → ((way : Direction) → count_of way links2 ≡ count_of way links) → actions2 ≡ actions →
          Does cmp wire (Happening.Heard n p t owed (OfHead longest head size) (Outcome.Delays next2)) v
          (seen node pace greeting cooldown dial (as_nanos t) next arrivals answers reads2 links2 actions2)
      delays_on next2 reads2 links2 actions2 m unread f old early bound kept count same =
          let outcome : Outcome C S = Outcome.Delays next2 in
          subst (λ rs. Does cmp wire (Happening.Heard n p t owed (OfHead longest head size) outcome) v
          (seen node pace greeting cooldown dial (as_nanos t) next arrivals answers rs links2 actions2)) (sym unread)
          (hears cmp wire node pace greeting cooldown dial latest next arrivals answers reads links actions n p f.held t owed
          (OfHead longest head size) outcome node dial links2 actions2 tt (inl (refl, refl, refl), λ q. refl) f.linked f.number after
          (outs (kind_at_rate place) f outcome refl)
          (paces (kind_at_rate place) f outcome (λ given pace2 h at. by_rate (looked_of head size) outcome pace2 h
          (subst (λ o. IsSomeAnd o (λ rate. IsDelayed rate (frames_read n place h) (as_nanos t) next2)) (sym (rated_by given pace2 h at))
          (delayed given pace2 h at))))
          (sym f.owed_is) (λ given calls at. tt) unmade (λ j place. refl)
          (record { links_are = kept; counts = count; said = said_none actions actions2 same }) tt)
        where
          later : (now : ℕ) → as_nanos t ≤ now → latest ≤ now
          later now is = omega (arith, after, is)

          -- from a moment on that isn't before now, or from now on
          delayed : (given : Setup C S) (pace2 : Pace) (h : List (Happening C S)) → DriverStandsAt (base_of cmp wire given pace2) h v →
              IsDelayed rate (frames_read n place h) (as_nanos t) next2
          delayed given pace2 h at = record {
            refused = early.refused (frames_read n place h) (kept_by f m old given pace2 h at (as_nanos t) after);
            before = λ moment from less. early.before (frames_read n place h) moment (kept_by f m old given pace2 h at moment (later moment from)) less;
            bound = bound;
            from = λ fits moment reached. go fits moment reached (cases_lt moment (as_nanos t));
          }
            where
              xs : List ℕ
              xs = frames_read n place h

              at_once : IsKeptAt rate (as_nanos t) xs (kept_in place m)
              at_once = kept_by f m old given pace2 h at (as_nanos t) after

              go : next2 < max_nanos → (moment : ℕ) → next2 ≤ moment → (moment < as_nanos t) ⊎ (as_nanos t ≤ moment) → IsAllowedAt rate xs moment
              go fits moment reached (inl less) = absurd (early.refused xs at_once
                  (early.from xs (as_nanos t) at_once fits (omega (arith, reached, less))))
              go fits moment reached (inr from) = early.from xs moment (kept_by f m old given pace2 h at moment (later moment from)) fits reached
