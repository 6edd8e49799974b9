-- How a driver stands after one more happening.
use Rattle.std.proofs.Common.{◌≡◌, ℕ, ◌==◌, ◌+◌, ◌≤◌, Bool, true, false, not, ◌&&◌, cond, List, [], ◌∷◌, ◌++◌, Option, Some, None, filter, refl, sym, ◌∙◌, ap, subst}
use Rattle.std.proofs.Common.{arith, ◌⊎◌, inl, inr}
use Rattle.std.specs.Prelude.{if◌then◌else◌, length, option_map, max}
use Rattle.std.specs.Duration.{as_nanos}
use Rattle.std.specs.List.{count_by}
use Rattle.std.specs.BTreeMap.{is_at}
use Rattle.std.specs.declared.cmp.Ordering.{Ordering}
use Rattle.std.specs.declared.time.Duration.{Duration}
use Rattle.std.proofs.lemmas.List.Sums.{sum_by-cons}
use Rattle.p2p_discovery.specs.declared.discovery.Info.{Info}
use Rattle.p2p_discovery.specs.Ordered.{has_key}
use Rattle.p2p_tracker.specs.Calls.{Settings, Call}
use Rattle.p2p_tracker.specs.History.{found_with, last_with}
use Rattle.p2p_tracker.specs.Calls.Call.{Track, Dial, Listen, Release, Update, Block, UnblockExpired, ForgetCooled}
use Rattle.p2p_tracker.specs.World.{World}
use Rattle.p2p_directory.specs.Run.{world_after}
use Rattle.p2p_discovery.specs.declared.types.ingress.Ingress.{Ingress}
use Rattle.std.proofs.lemmas.Bool.Decides.{nat_tests}
use Rattle.p2p_driver.specs.Steps.{IsQuietIn, is_before}
use Rattle.p2p_driver.specs.declared.next_dial.NextDial.{NextDial}
use Rattle.p2p_driver.specs.declared.links.Direction.{Direction}
use Rattle.p2p_driver.specs.declared.links.Direction.TheVariants.{Inbound, Dialing, Outbound, TakenOver}
use Rattle.p2p_directory.specs.Nodes.{NodeView, NodeStandsAt}
use Rattle.p2p_driver.specs.Answers.{AnswersView, AreKept}
use Rattle.p2p_driver.specs.Arrivals.{has_number, arrival_of, arrived, claimed, room_of}
use Rattle.p2p_driver.specs.Frames.{Cause, Outcome}
use Rattle.p2p_driver.specs.Grants.{grant_of}
use Rattle.p2p_driver.specs.Happenings.{is_taken_over, granted_by, spends_by, grant_at, is_greeted}
use Rattle.p2p_driver.specs.Happenings.{Happening, time_by, latest_at, latest_of, calls_of, calls_by, came_by, leaves_by, claim_by, is_new, answered_in, answered_by, is_proved, is_ended, link_at, opened_by, ends_by, said, says_by, taken, taken_by, crowded_out, sent, shut, shut_all, parted, calls_for, heard_as, answered_on, asking_on, said_with, why_late, is_dialed, is_reached, undialed_by, retry_of, retry_at, dialing}
use Rattle.p2p_driver.specs.Links.{link_of, count_of, is_way, link_with, link_as, taken_way, dial_with, reached, asking, saying, writing, closed}
use Rattle.p2p_driver.specs.Meters.{MetersView}
use Rattle.p2p_driver.specs.Questions.{asked_after}
use Rattle.p2p_driver.specs.Reading.{begins_as, ends_as, read_by, AreMetered}
use Rattle.p2p_driver.specs.Reads.{reads_of, unread}
use Rattle.p2p_driver.specs.declared.questions.Question.{Question}
use Rattle.p2p_driver.specs.Drivers.{DriverView, Base, DriverStandsAt, AreCounted, IsRight, IsInTime, AreStreams}
use Rattle.p2p_driver.specs.declared.actions.Action.{Action}
use Rattle.p2p_driver.specs.declared.actions.Why.TheVariants as why
use Rattle.p2p_driver.specs.declared.arrivals.Room.{Room}
use Rattle.p2p_driver.specs.declared.arrivals.Room.TheVariants as room
use Rattle.p2p_driver.specs.declared.links.Held.{Held}
use Rattle.p2p_driver.specs.declared.origin.Origin.{Origin}
use Rattle.std.proofs.lemmas.List.{append-nil}
use Rattle.p2p_driver.specs.declared.pace.Pace.{Pace}
use Rattle.p2p_driver.proofs.Answered.{kept_at_later}
use Rattle.p2p_driver.proofs.Metered.{metered_later, metered_stays, metered_begins, metered_ends}
use Rattle.p2p_driver.proofs.StreamHistory.{streams_stay, streams_leave, streams_claim, streams_come, streams_pass, next_stays, next_rises}
use Rattle.p2p_driver.proofs.GrantHistory.{grant_later, grant_stays, grant_begins}
use Rattle.p2p_driver.proofs.LinkHistory.{touch_by, untouched, closing_if, link_after, link_stays, link_later, link_opens, link_adopts, link_dials, link_reaches, link_hears, link_asks, link_writes, link_speaks, ended_link, closed_link, said_more, took_one}

module _ {C S : Type 0} where
  -- how many are of a kind, with one more
  pub one_more : (p : Happening C S → Bool) (e : Happening C S) (h : List (Happening C S)) (b : Bool) → p e ≡ b →
      count_by p (e ∷ h) ≡ cond b 1 0 + count_by p h
  one_more p e h b is = sum_by-cons (λ e. cond (p e) 1 0) e h ∙ ap (λ b. cond b 1 0 + count_by p h) is

-- one less, and one more that ended
ended_counts : (b : Bool) (links links2 ended ended2 all all2 : ℕ) → links + (if b then 1 else 0) ≡ links2 →
    ended2 ≡ cond b 1 0 + ended → all2 ≡ 0 + all → links2 + ended ≡ all → links + ended2 ≡ all2
ended_counts true links links2 ended ended2 all all2 less more same before = omega (arith, less, more, same, before)
ended_counts false links links2 ended ended2 all all2 less more same before = omega (arith, less, more, same, before)

dialing_counts : (b : Bool) (links links2 ended ended2 all all2 left left2 : ℕ) → links + (if b then 1 else 0) ≡ links2 →
    ended2 ≡ cond b 1 0 + ended → all2 ≡ 0 + all → left2 ≡ 0 + left → links2 + (left + ended) ≡ all → links + (left2 + ended2) ≡ all2
dialing_counts true links links2 ended ended2 all all2 left left2 less more same kept before = omega (arith, less, more, same, kept, before)
dialing_counts false links links2 ended ended2 all all2 left left2 less more same kept before = omega (arith, less, more, same, kept, before)

-- how the link of a stream that took over a grant came about
inbound_taken : (outbound : Bool) → not outbound ≡ is_way Inbound (taken_way outbound)
inbound_taken true = refl
inbound_taken false = refl

dialing_taken : (outbound : Bool) → false ≡ is_way Dialing (taken_way outbound)
dialing_taken true = refl
dialing_taken false = refl

over_taken : (outbound : Bool) → outbound ≡ is_way TakenOver (taken_way outbound)
over_taken true = refl
over_taken false = refl

outbound_taken : (outbound : Bool) → is_way Outbound (taken_way outbound) ≡ false
outbound_taken true = refl
outbound_taken false = refl

-- one more that began
begun_counts : (b : Bool) (links links2 ended ended2 all all2 : ℕ) → links2 ≡ links + (if b then 1 else 0) → ended2 ≡ 0 + ended →
    all2 ≡ cond b 1 0 + all → links + ended ≡ all → links2 + ended2 ≡ all2
begun_counts true links links2 ended ended2 all all2 more same one before = omega (arith, more, same, one, before)
begun_counts false links links2 ended ended2 all all2 more same one before = omega (arith, more, same, one, before)

begun_dials : (b : Bool) (links links2 ended ended2 all all2 left left2 : ℕ) → links2 ≡ links + (if b then 1 else 0) → ended2 ≡ 0 + ended →
    all2 ≡ cond b 1 0 + all → left2 ≡ 0 + left → links + (left + ended) ≡ all → links2 + (left2 + ended2) ≡ all2
begun_dials true links links2 ended ended2 all all2 left left2 more same one kept before = omega (arith, more, same, one, kept, before)
begun_dials false links links2 ended ended2 all all2 left left2 more same one kept before = omega (arith, more, same, one, kept, before)

-- it is looked for somebody to dial at once
abbrev pub at_once : {C : Type 0} → NextDial C → NextDial C
at_once dial = record dial { from = Some (record { secs = 0; nanos = 0 }) }

abbrev pub IsAtOnce : {C : Type 0} → NextDial C → NextDial C → Type 0
IsAtOnce old new = (option_map as_nanos new.from ≡ Some 0) × (new.retry ≡ old.retry)

-- .. and the grants of dials are as before
abbrev pub IsSoon : {C : Type 0} → NextDial C → NextDial C → Type 0
IsSoon old new = IsAtOnce old new × (new.grants ≡ old.grants)

-- nothing comes before the first moment
pub quiet_zero : {C S : Type 0} (s : Settings C S) (w : World C S) (t : ℕ) (from : Option ℕ) → from ≡ Some 0 → IsQuietIn s w t from
quiet_zero s w t from zero u later before p = absurd (never u (sym (ap (is_before u) zero) ∙ before))
  where
    never : (u : ℕ) → ¬ (is_before u (Some 0) ≡ true)
    never u is = grind (arith, nat_tests)

-- .. or as before, since its node was called for nothing
abbrev pub IsSought : {C S : Type 0} → List (Call C S) → NextDial C → NextDial C → Type 0
IsSought calls old new = ((calls ≡ []) × (new.from ≡ old.from) × (new.retry ≡ old.retry)) ⊎ IsAtOnce old new

-- .. since a peer was heard, whose grant is none of a dial any more once it has greeted
abbrev pub IsSoughtFor : {C S : Type 0} → (C → C → Ordering) → C → Duration → Outcome C S → NextDial C → NextDial C → Type 0
IsSoughtFor cmp p t outcome old new = IsSought (calls_for p t outcome) old new
    × ((q : _) → grant_of cmp new.grants q ≡ (if is_greeted outcome && is_at (cmp p) q then None else grant_of cmp old.grants q))

module _ {C S : Type 0} (b : Base C S) (h : List (Happening C S)) (v : DriverView C S)
    (at : DriverStandsAt b h v) where
  abbrev pub d : Settings C S
  d = b.made.directory

  -- the claims that were answered, later
  pub answers_later : (t : ℕ) → v.latest ≤ t → AreKept b.pace t (answered_in h) v.answers
  answers_later t after = kept_at_later b.pace (latest_at h) (answered_in h) v.answers t at.answers
      (subst (λ l. l ≤ t) at.latest after)

  -- the frames that were read, later
  pub reads_at : (t : ℕ) → v.latest ≤ t → AreMetered b.pace t h v.reads
  reads_at t after = metered_later b.pace (latest_at h) t h v.reads (subst (λ l. l ≤ t) at.latest after) at.reads

  pub reads_later : (e : Happening C S) (t : ℕ) → v.latest ≤ t → ((j : ℕ) → begins_as j e ≡ None) → ((j : ℕ) → ends_as j e ≡ false) →
      ((j : ℕ) (place : Option ℕ) → read_by j place e ≡ []) → AreMetered b.pace t (e ∷ h) v.reads
  reads_later e t after begins ends none = metered_stays b.pace t e h v.reads begins ends none (reads_at t after)

  in_time : (t : ℕ) → v.latest ≤ t → latest_at h ≤ t
  in_time t after = subst (λ l. l ≤ t) at.latest after

  -- links stay as they are
  links_stay : (e : Happening C S) → ((p : C) → opened_by d p e ≡ None) →
      ((p : C) → ends_by d p e ≡ false) → ((p : C) → touch_by d p e ≡ untouched) →
      (p : C) → link_of d.cmp v.links p ≡ link_at d p (e ∷ h)
  links_stay e opened ends touch p = at.links p ∙ sym (link_stays d p e h (opened p) (ends p) (touch p))

  -- .. and as many of each kind
  counts_stay : (e : Happening C S) (links : List (C × Held)) → ((way : Direction) → is_ended way e ≡ false) →
      is_proved e ≡ false → is_dialed e ≡ false → is_reached e ≡ false → is_taken_over e ≡ false →
      ((way : Direction) → count_of way links ≡ count_of way v.links) → AreCounted (e ∷ h) links
  counts_stay e links ended proved dialed reached taken same = record {
    inbound = let more = one_more (is_ended Inbound) e h false (ended Inbound) in let all = one_more is_proved e h false proved in
        let before = at.counts.inbound in let alike = same Inbound in omega (arith, more, all, before, alike);
    dialing = let more = one_more (is_ended Dialing) e h false (ended Dialing) in let all = one_more is_dialed e h false dialed in
        let left = one_more is_reached e h false reached in
        let before = at.counts.dialing in let alike = same Dialing in omega (arith, more, all, left, before, alike);
    outbound = let more = one_more (is_ended Outbound) e h false (ended Outbound) in let all = one_more is_reached e h false reached in
        let before = at.counts.outbound in let alike = same Outbound in omega (arith, more, all, before, alike);
    taken_over = let more = one_more (is_ended TakenOver) e h false (ended TakenOver) in let all = one_more is_taken_over e h false taken in
        let before = at.counts.taken_over in let alike = same TakenOver in omega (arith, more, all, before, alike);
  }

  count_stays : (e : Happening C S) → ((way : Direction) → is_ended way e ≡ false) →
      is_proved e ≡ false → is_dialed e ≡ false → is_reached e ≡ false → is_taken_over e ≡ false → AreCounted (e ∷ h) v.links
  count_stays e ended proved dialed reached taken = counts_stay e v.links ended proved dialed reached taken (λ way. refl)

  -- one more came about so
  counts_begin : (e : Happening C S) (direction : Direction) (links : List (C × Held)) → ((way : Direction) → is_ended way e ≡ false) →
      is_proved e ≡ is_way Inbound direction → is_dialed e ≡ is_way Dialing direction → is_taken_over e ≡ is_way TakenOver direction →
      is_reached e ≡ false → is_way Outbound direction ≡ false →
      ((way : Direction) → count_of way links ≡ count_of way v.links + (if is_way way direction then 1 else 0)) → AreCounted (e ∷ h) links
  counts_begin e direction links ended proved dialed taken reached isnt more = record {
    inbound = begun_counts (is_way Inbound direction) (count_of Inbound v.links) _ _ _ _ _ (more Inbound)
        (one_more (is_ended Inbound) e h false (ended Inbound)) (one_more is_proved e h _ proved) at.counts.inbound;
    dialing = begun_dials (is_way Dialing direction) (count_of Dialing v.links) _ _ _ _ _ _ _ (more Dialing)
        (one_more (is_ended Dialing) e h false (ended Dialing)) (one_more is_dialed e h _ dialed) (one_more is_reached e h false reached) at.counts.dialing;
    outbound = begun_counts (is_way Outbound direction) (count_of Outbound v.links) _ _ _ _ _ (more Outbound)
        (one_more (is_ended Outbound) e h false (ended Outbound)) (one_more is_reached e h (is_way Outbound direction) (reached ∙ sym isnt)) at.counts.outbound;
    taken_over = begun_counts (is_way TakenOver direction) (count_of TakenOver v.links) _ _ _ _ _ (more TakenOver)
        (one_more (is_ended TakenOver) e h false (ended TakenOver)) (one_more is_taken_over e h _ taken) at.counts.taken_over;
  }

  -- .. or ended
  counts_end : (e : Happening C S) (direction : Direction) (links : List (C × Held)) → ((way : Direction) → is_ended way e ≡ is_way way direction) →
      is_proved e ≡ false → is_dialed e ≡ false → is_taken_over e ≡ false → is_reached e ≡ false →
      ((way : Direction) → count_of way links + (if is_way way direction then 1 else 0) ≡ count_of way v.links) → AreCounted (e ∷ h) links
  counts_end e direction links ended proved dialed taken reached less = record {
    inbound = ended_counts (is_way Inbound direction) (count_of Inbound links) _ _ _ _ _ (less Inbound)
        (one_more (is_ended Inbound) e h _ (ended Inbound)) (one_more is_proved e h false proved) at.counts.inbound;
    dialing = dialing_counts (is_way Dialing direction) (count_of Dialing links) _ _ _ _ _ _ _ (less Dialing)
        (one_more (is_ended Dialing) e h _ (ended Dialing)) (one_more is_dialed e h false dialed) (one_more is_reached e h false reached) at.counts.dialing;
    outbound = ended_counts (is_way Outbound direction) (count_of Outbound links) _ _ _ _ _ (less Outbound)
        (one_more (is_ended Outbound) e h _ (ended Outbound)) (one_more is_reached e h false reached) at.counts.outbound;
    taken_over = ended_counts (is_way TakenOver direction) (count_of TakenOver links) _ _ _ _ _ (less TakenOver)
        (one_more (is_ended TakenOver) e h _ (ended TakenOver)) (one_more is_taken_over e h false taken) at.counts.taken_over;
  }

  -- the grants of dials are as before
  grants_as : (e : Happening C S) (dial : NextDial C) → dial.grants ≡ v.next_dial.grants → ((p : C) → granted_by d p e ≡ None) →
      ((p : C) → spends_by d p e ≡ false) → (p : C) → grant_of d.cmp dial.grants p ≡ grant_at d p (e ∷ h)
  grants_as e dial same grants spends p = ap (λ gs. grant_of d.cmp gs p) same ∙ at.grants p ∙ sym (grant_stays d p e h (grants p) (spends p))

  grants_stay : (e : Happening C S) → ((p : C) → granted_by d p e ≡ None) →
      ((p : C) → spends_by d p e ≡ false) → (p : C) → grant_of d.cmp v.next_dial.grants p ≡ grant_at d p (e ∷ h)
  grants_stay e grants spends = grants_as e v.next_dial refl grants spends

  -- nobody may be dialled before it is looked for somebody, later
  pub quiet_later : (t : ℕ) → v.latest ≤ t → IsQuietIn d (world_after d (calls_of h)) t (option_map as_nanos v.next_dial.from)
  quiet_later t after u later before p = at.quiet u (no_earlier (subst (λ l. l ≤ t) at.latest after) later) before p
    where
      no_earlier : latest_at h ≤ t → t ≤ u → latest_at h ≤ u
      no_earlier low up = omega (arith, low, up)

  -- .. it is looked at once
  quiet_at_once : (w : World C S) (t : ℕ) (dial : NextDial C) → IsAtOnce v.next_dial dial →
      IsQuietIn d w t (option_map as_nanos dial.from)
  quiet_at_once w t dial once = quiet_zero d w t (option_map as_nanos dial.from) once.0

  -- .. or as before
  quiet_by : (calls : List (Call C S)) (t : ℕ) (dial : NextDial C) → v.latest ≤ t → IsSought calls v.next_dial dial →
      IsQuietIn d (world_after d (calls ++ calls_of h)) t (option_map as_nanos dial.from)
  quiet_by calls t dial after (inl is) = subst (λ cs. IsQuietIn d (world_after d (cs ++ calls_of h)) t (option_map as_nanos dial.from)) (sym is.0)
      (subst (λ o. IsQuietIn d (world_after d (calls_of h)) t (option_map as_nanos o)) (sym is.1) (quiet_later t after))
  quiet_by calls t dial after (inr once) = quiet_at_once (world_after d (calls ++ calls_of h)) t dial once

  retried_by : (calls : List (Call C S)) (dial : NextDial C) → IsSought calls v.next_dial dial → dial.retry ≡ v.next_dial.retry
  retried_by calls dial (inl is) = is.2
  retried_by calls dial (inr once) = once.1

  -- it is tried again as before
  retry_later : (e : Happening C S) → undialed_by e ≡ None → v.next_dial.retry ≡ retry_at (as_nanos b.pace.tick) (e ∷ h)
  retry_later e none = at.retry ∙ go (last_with undialed_by h)
      ∙ sym (ap (λ o. retry_of (as_nanos b.pace.tick) (found_with o e (last_with undialed_by h))) none)
    where
      go : (found : Option (Duration × List (Happening C S))) →
          retry_of (as_nanos b.pace.tick) found ≡ retry_of (as_nanos b.pace.tick) (found_with None e found)
      go None = refl
      go (Some found) = refl

  retry_at_once : (e : Happening C S) (dial : NextDial C) → IsAtOnce v.next_dial dial → undialed_by e ≡ None →
      dial.retry ≡ retry_at (as_nanos b.pace.tick) (e ∷ h)
  retry_at_once e dial once none = once.1 ∙ retry_later e none

  -- nothing is taken
  says : (told : List (Action C)) (e : Happening C S) → taken_by e ≡ [] → says_by d b.greeting h e ≡ told →
      taken (e ∷ h) ++ (v.actions ++ told) ≡ said d b.greeting (e ∷ h)
  says told e none is = ap (λ xs. (taken h ++ xs) ++ (v.actions ++ told)) none
      ∙ said_more (taken h) v.actions (said d b.greeting h) told at.actions
      ∙ ap (λ xs. said d b.greeting h ++ xs) (sym is)

  says_nothing : (e : Happening C S) → taken_by e ≡ [] → says_by d b.greeting h e ≡ [] →
      taken (e ∷ h) ++ v.actions ≡ said d b.greeting (e ∷ h)
  says_nothing e none is =
      ap (λ told. taken (e ∷ h) ++ told) (sym (append-nil v.actions)) ∙ says [] e none is

  -- a stream came
  pub came : (origin : Origin) (t : Duration) (space : Room) → ¬ (space ≡ room.None) →
      room_of v.pace (as_nanos t) v.arrivals origin ≡ space → v.latest ≤ as_nanos t →
      DriverStandsAt b (Happening.Arrived v.next origin t space ∷ h) (record v {
        latest = as_nanos t;
        next = v.next + 1;
        arrivals = arrived (arrival_of v.next origin t) space v.arrivals;
        actions = v.actions ++ crowded_out space;
      })
  came origin t space some is after = let e : Happening C S = Happening.Arrived v.next origin t space in record {
    node = at.node;
    pace = at.pace;
    greeting = at.greeting;
    cooldown = at.cooldown;
    latest = refl;
    next = ap (λ n. n + 1) at.next ∙ sym (next_rises e h refl);
    arrivals = subst (λ n. AreStreams (Happening.Arrived n origin t space ∷ h)
        (arrived (arrival_of n origin t) space v.arrivals)) (sym at.next)
        (streams_come origin t space h v.arrivals some at.arrivals);
    answers = answers_later (as_nanos t) after;
    reads = reads_later e (as_nanos t) after (λ j. refl) (λ j. refl) (λ j place. refl);
    links = links_stay e (λ p. refl) (λ p. refl) (λ p. refl);
    grants = grants_stay e (λ p. refl) (λ p. refl);
    counts = count_stays e (λ way. refl) refl refl refl refl;
    quiet = quiet_later (as_nanos t) after;
    retry = retry_later e refl;
    actions = says (crowded_out space) e refl refl;
    right = (
      (
        at.next,
        some,
        (
          v.arrivals,
          at.arrivals,
          ap (λ pace. room_of pace (as_nanos t) v.arrivals origin) (sym at.pace) ∙ is,
        ),
      ),
      in_time (as_nanos t) after,
      at.right,
    );
  }

  -- a stream claimed, and is answered
  pub claims : (n : ℕ) (p : C) (origin : Origin) (t : Duration) (answers : AnswersView) →
      IsRight b h (Happening.Claimed n p origin t) → v.latest ≤ as_nanos t →
      AreKept b.pace (as_nanos t) ((origin.0, as_nanos t) ∷ answered_in h) answers →
      DriverStandsAt b (Happening.Claimed n p origin t ∷ h) (record v {
        latest = as_nanos t;
        arrivals = claimed n p v.arrivals;
        answers = answers;
      })
  claims n p origin t answers right after kept =
      let e : Happening C S = Happening.Claimed n p origin t in record {
        node = at.node;
        pace = at.pace;
        greeting = at.greeting;
        cooldown = at.cooldown;
        latest = refl;
        next = at.next ∙ sym (next_stays e h refl);
        arrivals = streams_claim n p e h v.arrivals refl (λ j. refl) (λ j. refl) (λ j. refl) at.arrivals;
        answers = kept;
        reads = reads_later e (as_nanos t) after (λ j. refl) (λ j. refl) (λ j place. refl);
        links = links_stay e (λ p. refl) (λ p. refl) (λ p. refl);
        grants = grants_stay e (λ p. refl) (λ p. refl);
        counts = count_stays e (λ way. refl) refl refl refl refl;
        quiet = quiet_later (as_nanos t) after;
        retry = retry_later e refl;
        actions = says_nothing e refl refl;
        right = (right, in_time (as_nanos t) after, at.right);
      }

  -- a stream goes, and nothing else changes
  pub goes : (n : ℕ) (t : Duration) (e : Happening C S) (told : List (Action C)) (answers : AnswersView) →
      is_new e ≡ false → ((j : ℕ) → came_by j e ≡ None) → ((j : ℕ) → leaves_by j e ≡ (n == j)) →
      ((j : ℕ) → claim_by j e ≡ None) → answered_by e ≡ [] → calls_by e ≡ [] →
      ((p : C) → opened_by d p e ≡ None) → ((p : C) → ends_by d p e ≡ false) →
      ((p : C) → touch_by d p e ≡ untouched) → ((way : Direction) → is_ended way e ≡ false) → is_proved e ≡ false →
      is_dialed e ≡ false → is_reached e ≡ false → is_taken_over e ≡ false → ((p : C) → granted_by d p e ≡ None) →
      ((p : C) → spends_by d p e ≡ false) → undialed_by e ≡ None → time_by e ≡ Some t → taken_by e ≡ [] →
      says_by d b.greeting h e ≡ told → ((j : ℕ) → begins_as j e ≡ None) → ((j : ℕ) → ends_as j e ≡ false) →
      ((j : ℕ) (place : Option ℕ) → read_by j place e ≡ []) → IsRight b h e → v.latest ≤ as_nanos t →
      AreKept b.pace (as_nanos t) (answered_in h) answers →
      DriverStandsAt b (e ∷ h) (record v {
        latest = as_nanos t;
        arrivals = filter (λ a. not (has_number n a)) v.arrivals;
        answers = answers;
        actions = v.actions ++ told;
      })
  goes n t e told answers new came leaves claim answered calls opened ends touch ended proved dialed reached taken granted spent undialed time none is begins over unread right after kept = record {
    node = subst (λ cs. NodeStandsAt b.made (cs ++ calls_of h) v.node) (sym calls) at.node;
    pace = at.pace;
    greeting = at.greeting;
    cooldown = at.cooldown;
    latest = sym (ap (λ o. latest_of (found_with o e (last_with time_by h))) time);
    next = at.next ∙ sym (next_stays e h new);
    arrivals = streams_leave n e h v.arrivals new came leaves claim at.arrivals;
    answers = subst (λ t. AreKept b.pace t (answered_in (e ∷ h)) answers)
        (sym (ap (λ o. latest_of (found_with o e (last_with time_by h))) time))
        (subst (λ cs. AreKept b.pace (as_nanos t) (cs ++ answered_in h) answers) (sym answered) kept);
    reads = subst (λ t. AreMetered b.pace t (e ∷ h) v.reads)
        (sym (ap (λ o. latest_of (found_with o e (last_with time_by h))) time))
        (reads_later e (as_nanos t) after begins over unread);
    links = links_stay e opened ends touch;
    grants = grants_stay e granted spent;
    counts = count_stays e ended proved dialed reached taken;
    quiet = subst (λ cs. IsQuietIn d (world_after d (cs ++ calls_of h)) (latest_at (e ∷ h)) (option_map as_nanos v.next_dial.from)) (sym calls)
        (subst (λ t. IsQuietIn d (world_after d (calls_of h)) t (option_map as_nanos v.next_dial.from))
        (sym (ap (λ o. latest_of (found_with o e (last_with time_by h))) time)) (quiet_later (as_nanos t) after));
    retry = retry_later e undialed;
    actions = says told e none is;
    right = (right, subst (IsInTime b h) (sym time) (in_time (as_nanos t) after), at.right);
  }

  -- a stream was proved: it is a link of its peer
  pub proves : (n : ℕ) (p : C) (t draw : Duration) (node : NodeView C S) (dial : NextDial C) (reads : List (ℕ × MetersView)) (links : List (C × Held)) (answers : AnswersView) →
      IsSoon v.next_dial dial → IsRight b h (Happening.Proved n p t draw) → v.latest ≤ as_nanos t →
      NodeStandsAt b.made (Listen p (as_nanos t) (as_nanos draw) ∷ calls_of h) node →
      ((j : ℕ) → reads_of reads j ≡ (if j == n then Some (unread (length v.pace.channels.items + length v.pace.channels.items)) else reads_of v.reads j)) →
      ((q : C) → link_of d.cmp links q ≡ (if is_at (d.cmp p) q then Some (link_with n t) else link_of d.cmp v.links q)) →
      ((way : Direction) → count_of way links ≡ count_of way v.links + (if is_way way Inbound then 1 else 0)) →
      AreKept b.pace (as_nanos t) (answered_in h) answers →
      DriverStandsAt b (Happening.Proved n p t draw ∷ h) (record v {
        node = node;
        next_dial = dial;
        latest = as_nanos t;
        arrivals = filter (λ a. not (has_number n a)) v.arrivals;
        answers = answers;
        reads = reads;
        links = links;
        actions = v.actions ++ sent n v.greeting;
      })
  proves n p t draw node dial reads links answers once right after made empty tied more kept =
      let e : Happening C S = Happening.Proved n p t draw in record {
        node = made;
        pace = at.pace;
        greeting = at.greeting;
        cooldown = at.cooldown;
        latest = refl;
        next = at.next ∙ sym (next_stays e h refl);
        arrivals = streams_leave n e h v.arrivals refl (λ j. refl) (λ j. refl) (λ j. refl) at.arrivals;
        answers = kept;
        reads = metered_begins b.pace (as_nanos t) n (length v.pace.channels.items + length v.pace.channels.items) t e (λ j. refl) (λ j. refl) (λ j place. refl) h v.reads reads
            (ap (λ (q : Pace). length q.channels.items + length q.channels.items) at.pace) empty (reads_at (as_nanos t) after);
        links = λ q. tied q ∙ ap (λ o. if is_at (d.cmp p) q then Some (link_with n t) else o) (at.links q)
            ∙ sym (link_opens d q p n t draw h);
        grants = grants_as e dial once.1 (λ p. refl) (λ p. refl);
        counts = counts_begin e Inbound links (λ way. refl) refl refl refl refl refl more;
        quiet = quiet_at_once (world_after d (calls_of (e ∷ h))) (as_nanos t) dial once.0;
        retry = retry_at_once e dial once.0 refl;
        actions = says (sent n v.greeting) e refl
            (ap (sent n) (sym at.greeting));
        right = (right, in_time (as_nanos t) after, at.right);
      }

  -- .. by a grant that was kept
  pub adopts : (n : ℕ) (p : C) (t : Duration) (outbound : Bool) (dial : NextDial C) (reads : List (ℕ × MetersView)) (links : List (C × Held)) (answers : AnswersView) →
      dial.from ≡ v.next_dial.from → dial.retry ≡ v.next_dial.retry → IsRight b h (Happening.Adopted n p t outbound) → v.latest ≤ as_nanos t →
      ((j : ℕ) → reads_of reads j ≡ (if j == n then Some (unread (length v.pace.channels.items + length v.pace.channels.items)) else reads_of v.reads j)) →
      ((q : C) → link_of d.cmp links q ≡ (if is_at (d.cmp p) q then Some (link_as (taken_way outbound) n t) else link_of d.cmp v.links q)) →
      ((q : C) → grant_of d.cmp dial.grants q ≡ (if is_at (d.cmp p) q then None else grant_of d.cmp v.next_dial.grants q)) →
      ((way : Direction) → count_of way links ≡ count_of way v.links + (if is_way way (taken_way outbound) then 1 else 0)) →
      AreKept b.pace (as_nanos t) (answered_in h) answers →
      DriverStandsAt b (Happening.Adopted n p t outbound ∷ h) (record v {
        next_dial = dial;
        latest = as_nanos t;
        arrivals = filter (λ a. not (has_number n a)) v.arrivals;
        answers = answers;
        reads = reads;
        links = links;
        actions = v.actions ++ sent n v.greeting;
      })
  adopts n p t outbound dial reads links answers from retry right after empty tied spent more kept =
      let e : Happening C S = Happening.Adopted n p t outbound in record {
        node = at.node;
        pace = at.pace;
        greeting = at.greeting;
        cooldown = at.cooldown;
        latest = refl;
        next = at.next ∙ sym (next_stays e h refl);
        arrivals = streams_leave n e h v.arrivals refl (λ j. refl) (λ j. refl) (λ j. refl) at.arrivals;
        answers = kept;
        reads = metered_begins b.pace (as_nanos t) n (length v.pace.channels.items + length v.pace.channels.items) t e (λ j. refl) (λ j. refl) (λ j place. refl) h v.reads reads
            (ap (λ (q : Pace). length q.channels.items + length q.channels.items) at.pace) empty (reads_at (as_nanos t) after);
        links = λ q. tied q ∙ ap (λ o. if is_at (d.cmp p) q then Some (link_as (taken_way outbound) n t) else o) (at.links q)
            ∙ sym (link_adopts d q p n t outbound h);
        grants = λ q. spent q ∙ ap (λ o. if is_at (d.cmp p) q then None else o) (at.grants q) ∙ sym (grant_later d q e h);
        counts = counts_begin e (taken_way outbound) links (λ way. refl) (inbound_taken outbound) (dialing_taken outbound) (over_taken outbound) refl
            (outbound_taken outbound) more;
        quiet = subst (λ o. IsQuietIn d (world_after d (calls_of h)) (as_nanos t) (option_map as_nanos o)) (sym from) (quiet_later (as_nanos t) after);
        retry = retry ∙ retry_later e refl;
        actions = says (sent n v.greeting) e refl (ap (sent n) (sym at.greeting));
        right = (right, in_time (as_nanos t) after, at.right);
      }

  -- a dial began
  pub dials : (p : C) (t draw : Duration) (word : ℕ) (ingress : Ingress) (node : NodeView C S) (dial : NextDial C) (reads : List (ℕ × MetersView)) (links : List (C × Held)) →
      IsAtOnce v.next_dial dial → IsRight b h (Happening.Dialed v.next p t draw word ingress) → v.latest ≤ as_nanos t →
      NodeStandsAt b.made (Dial p (as_nanos t) (as_nanos draw) ∷ calls_of h) node →
      ((j : ℕ) → reads_of reads j ≡ (if j == v.next then Some (unread (length v.pace.channels.items + length v.pace.channels.items)) else reads_of v.reads j)) →
      ((q : C) → link_of d.cmp links q ≡ (if is_at (d.cmp p) q then Some (dial_with v.next t) else link_of d.cmp v.links q)) →
      ((q : C) → grant_of d.cmp dial.grants q ≡ (if is_at (d.cmp p) q then Some t else grant_of d.cmp v.next_dial.grants q)) →
      ((way : Direction) → count_of way links ≡ count_of way v.links + (if is_way way Dialing then 1 else 0)) →
      DriverStandsAt b (Happening.Dialed v.next p t draw word ingress ∷ h) (record v {
        node = node;
        next_dial = dial;
        latest = as_nanos t;
        next = v.next + 1;
        reads = reads;
        links = links;
        actions = v.actions ++ dialing v.next p ingress;
      })
  dials p t draw word ingress node dial reads links once right after made empty tied given more =
      let e : Happening C S = Happening.Dialed v.next p t draw word ingress in record {
        node = made;
        pace = at.pace;
        greeting = at.greeting;
        cooldown = at.cooldown;
        latest = refl;
        next = ap (λ n. n + 1) at.next ∙ sym (next_rises e h refl);
        arrivals = streams_pass e h v.arrivals refl (λ j. refl) (λ j. refl) (λ j. refl) at.arrivals;
        answers = answers_later (as_nanos t) after;
        reads = metered_begins b.pace (as_nanos t) v.next (length v.pace.channels.items + length v.pace.channels.items) t e (λ j. refl) (λ j. refl) (λ j place. refl) h v.reads reads
            (ap (λ (q : Pace). length q.channels.items + length q.channels.items) at.pace) empty (reads_at (as_nanos t) after);
        links = λ q. tied q ∙ ap (λ o. if is_at (d.cmp p) q then Some (dial_with v.next t) else o) (at.links q)
            ∙ sym (link_dials d q p v.next t draw word ingress h);
        grants = λ q. given q ∙ ap (λ o. if is_at (d.cmp p) q then Some t else o) (at.grants q) ∙ sym (grant_begins d q p v.next t draw word ingress h);
        counts = counts_begin e Dialing links (λ way. refl) refl refl refl refl refl more;
        quiet = quiet_at_once (world_after d (calls_of (e ∷ h))) (as_nanos t) dial once;
        retry = retry_at_once e dial once refl;
        actions = says (dialing v.next p ingress) e refl refl;
        right = (right, in_time (as_nanos t) after, at.right);
      }

  -- memory was refused for one
  pub undials : (t : Duration) (dial : NextDial C) → dial.from ≡ v.next_dial.from → dial.grants ≡ v.next_dial.grants →
      dial.retry ≡ as_nanos t + max (as_nanos b.pace.tick) 1 → IsRight b h (Happening.Undialed t) → v.latest ≤ as_nanos t →
      DriverStandsAt b (Happening.Undialed t ∷ h) (record v { next_dial = dial; latest = as_nanos t })
  undials t dial same kept tried right after = let e : Happening C S = Happening.Undialed t in record {
    node = at.node;
    pace = at.pace;
    greeting = at.greeting;
    cooldown = at.cooldown;
    latest = refl;
    next = at.next ∙ sym (next_stays e h refl);
    arrivals = streams_stay e h v.arrivals refl (λ j. refl) (λ j. refl) (λ j. refl) at.arrivals;
    answers = answers_later (as_nanos t) after;
    reads = reads_later e (as_nanos t) after (λ j. refl) (λ j. refl) (λ j place. refl);
    links = links_stay e (λ p. refl) (λ p. refl) (λ p. refl);
    grants = grants_as e dial kept (λ p. refl) (λ p. refl);
    counts = count_stays e (λ way. refl) refl refl refl refl;
    quiet = subst (λ o. IsQuietIn d (world_after d (calls_of h)) (as_nanos t) (option_map as_nanos o)) (sym same) (quiet_later (as_nanos t) after);
    retry = tried;
    actions = says_nothing e refl refl;
    right = (right, in_time (as_nanos t) after, at.right);
  }

  -- the stream of a dial was proved
  pub reaches : (n : ℕ) (p : C) (t : Duration) (links : List (C × Held)) →
      IsRight b h (Happening.Reached n p t) → v.latest ≤ as_nanos t →
      ((q : C) → link_of d.cmp links q ≡ (if is_at (d.cmp p) q then option_map (λ x. saying (Some t) (reached t x)) (link_of d.cmp v.links q) else link_of d.cmp v.links q)) →
      ((way : Direction) → count_of way links + (if is_way way Dialing then 1 else 0) ≡ count_of way v.links + (if is_way way Outbound then 1 else 0)) →
      DriverStandsAt b (Happening.Reached n p t ∷ h) (record v {
        latest = as_nanos t;
        links = links;
        actions = v.actions ++ sent n v.greeting;
      })
  reaches n p t links right after tied moved = let e : Happening C S = Happening.Reached n p t in record {
    node = at.node;
    pace = at.pace;
    greeting = at.greeting;
    cooldown = at.cooldown;
    latest = refl;
    next = at.next ∙ sym (next_stays e h refl);
    arrivals = streams_stay e h v.arrivals refl (λ j. refl) (λ j. refl) (λ j. refl) at.arrivals;
    answers = answers_later (as_nanos t) after;
    reads = reads_later e (as_nanos t) after (λ j. refl) (λ j. refl) (λ j place. refl);
    links = λ q. tied q ∙ ap (λ o. if is_at (d.cmp p) q then option_map (λ x. saying (Some t) (reached t x)) o else o) (at.links q)
        ∙ sym (link_reaches d q p n t h);
    grants = grants_stay e (λ p. refl) (λ p. refl);
    counts = record {
      inbound = let ended = one_more (is_ended Inbound) e h false refl in let all = one_more is_proved e h false refl in
          let before = at.counts.inbound in let now = moved Inbound in omega (arith, ended, all, before, now);
      dialing = let ended = one_more (is_ended Dialing) e h false refl in let all = one_more is_dialed e h false refl in
          let left = one_more is_reached e h true refl in
          let before = at.counts.dialing in let now = moved Dialing in omega (arith, ended, all, left, before, now);
      outbound = let ended = one_more (is_ended Outbound) e h false refl in let all = one_more is_reached e h true refl in
          let before = at.counts.outbound in let now = moved Outbound in omega (arith, ended, all, before, now);
      taken_over = let ended = one_more (is_ended TakenOver) e h false refl in let all = one_more is_taken_over e h false refl in
          let before = at.counts.taken_over in let now = moved TakenOver in omega (arith, ended, all, before, now);
    };
    quiet = quiet_later (as_nanos t) after;
    retry = retry_later e refl;
    actions = says (sent n v.greeting) e refl (ap (sent n) (sym at.greeting));
    right = (right, in_time (as_nanos t) after, at.right);
  }

  -- a link ended
  pub ends : (n : ℕ) (p : C) (t : Duration) (direction : Direction) (node : NodeView C S) (dial : NextDial C) (reads : List (ℕ × MetersView)) (links : List (C × Held)) →
      IsAtOnce v.next_dial dial → IsRight b h (Happening.Ended n p t direction) → v.latest ≤ as_nanos t → NodeStandsAt b.made (Release p ∷ calls_of h) node →
      ((j : ℕ) → reads_of reads j ≡ (if j == n then None else reads_of v.reads j)) →
      ((q : C) → link_of d.cmp links q ≡ (if is_at (d.cmp p) q then None else link_of d.cmp v.links q)) →
      ((q : C) → grant_of d.cmp dial.grants q ≡ (if is_at (d.cmp p) q then None else grant_of d.cmp v.next_dial.grants q)) →
      ((way : Direction) → count_of way links + (if is_way way direction then 1 else 0) ≡ count_of way v.links) →
      DriverStandsAt b (Happening.Ended n p t direction ∷ h) (record v {
        node = node;
        next_dial = dial;
        latest = as_nanos t;
        reads = reads;
        links = links;
        actions = v.actions ++ parted p (link_of d.cmp v.links p);
      })
  ends n p t direction node dial reads links once right after made gone tied spent less = let e : Happening C S = Happening.Ended n p t direction in record {
    node = made;
    pace = at.pace;
    greeting = at.greeting;
    cooldown = at.cooldown;
    latest = refl;
    next = at.next ∙ sym (next_stays e h refl);
    arrivals = streams_stay e h v.arrivals refl (λ j. refl) (λ j. refl) (λ j. refl) at.arrivals;
    answers = answers_later (as_nanos t) after;
    reads = metered_ends b.pace (as_nanos t) n e (λ j. refl) (λ j. refl) (λ j place. refl) h v.reads reads gone (reads_at (as_nanos t) after);
    links = λ q. tied q ∙ ap (λ o. if is_at (d.cmp p) q then None else o) (at.links q)
        ∙ sym (link_later d q e h refl ∙ ended_link (is_at (d.cmp p) q) (link_at d q h));
    grants = λ q. spent q ∙ ap (λ o. if is_at (d.cmp p) q then None else o) (at.grants q) ∙ sym (grant_later d q e h);
    counts = counts_end e direction links (λ way. refl) refl refl refl refl less;
    quiet = quiet_at_once (world_after d (calls_of (e ∷ h))) (as_nanos t) dial once;
    retry = retry_at_once e dial once refl;
    actions = says (parted p (link_of d.cmp v.links p)) e refl (ap (parted p) (sym (at.links p)));
    right = (right, in_time (as_nanos t) after, at.right);
  }

  -- .. of a dial, whose grant is kept
  pub fails : (n : ℕ) (p : C) (t : Duration) (direction : Direction) (reads : List (ℕ × MetersView)) (links : List (C × Held)) →
      IsRight b h (Happening.Failed n p t direction) → v.latest ≤ as_nanos t →
      ((j : ℕ) → reads_of reads j ≡ (if j == n then None else reads_of v.reads j)) →
      ((q : C) → link_of d.cmp links q ≡ (if is_at (d.cmp p) q then None else link_of d.cmp v.links q)) →
      ((way : Direction) → count_of way links + (if is_way way direction then 1 else 0) ≡ count_of way v.links) →
      DriverStandsAt b (Happening.Failed n p t direction ∷ h) (record v {
        latest = as_nanos t;
        reads = reads;
        links = links;
        actions = v.actions ++ parted p (link_of d.cmp v.links p);
      })
  fails n p t direction reads links right after gone tied less = let e : Happening C S = Happening.Failed n p t direction in record {
    node = at.node;
    pace = at.pace;
    greeting = at.greeting;
    cooldown = at.cooldown;
    latest = refl;
    next = at.next ∙ sym (next_stays e h refl);
    arrivals = streams_stay e h v.arrivals refl (λ j. refl) (λ j. refl) (λ j. refl) at.arrivals;
    answers = answers_later (as_nanos t) after;
    reads = metered_ends b.pace (as_nanos t) n e (λ j. refl) (λ j. refl) (λ j place. refl) h v.reads reads gone (reads_at (as_nanos t) after);
    links = λ q. tied q ∙ ap (λ o. if is_at (d.cmp p) q then None else o) (at.links q)
        ∙ sym (link_later d q e h refl ∙ ended_link (is_at (d.cmp p) q) (link_at d q h));
    grants = grants_stay e (λ p. refl) (λ p. refl);
    counts = counts_end e direction links (λ way. refl) refl refl refl refl less;
    quiet = quiet_later (as_nanos t) after;
    retry = retry_later e refl;
    actions = says (parted p (link_of d.cmp v.links p)) e refl (ap (parted p) (sym (at.links p)));
    right = (right, in_time (as_nanos t) after, at.right);
  }

  -- a grant that was kept is given up
  pub frees : (p : C) (t : Duration) (node : NodeView C S) (dial : NextDial C) → IsAtOnce v.next_dial dial → IsRight b h (Happening.Released p t) →
      v.latest ≤ as_nanos t → NodeStandsAt b.made (Release p ∷ calls_of h) node →
      ((q : C) → grant_of d.cmp dial.grants q ≡ (if is_at (d.cmp p) q then None else grant_of d.cmp v.next_dial.grants q)) →
      DriverStandsAt b (Happening.Released p t ∷ h) (record v { node = node; next_dial = dial; latest = as_nanos t })
  frees p t node dial once right after made spent = let e : Happening C S = Happening.Released p t in record {
    node = made;
    pace = at.pace;
    greeting = at.greeting;
    cooldown = at.cooldown;
    latest = refl;
    next = at.next ∙ sym (next_stays e h refl);
    arrivals = streams_stay e h v.arrivals refl (λ j. refl) (λ j. refl) (λ j. refl) at.arrivals;
    answers = answers_later (as_nanos t) after;
    reads = reads_later e (as_nanos t) after (λ j. refl) (λ j. refl) (λ j place. refl);
    links = links_stay e (λ p. refl) (λ p. refl) (λ p. refl);
    grants = λ q. spent q ∙ ap (λ o. if is_at (d.cmp p) q then None else o) (at.grants q) ∙ sym (grant_later d q e h);
    counts = count_stays e (λ way. refl) refl refl refl refl;
    quiet = quiet_at_once (world_after d (calls_of (e ∷ h))) (as_nanos t) dial once;
    retry = retry_at_once e dial once refl;
    actions = says_nothing e refl refl;
    right = (right, in_time (as_nanos t) after, at.right);
  }

  -- links are closed
  links_closed : (e : Happening C S) (links : List (C × Held)) (q : C) (b : Bool) → opened_by d q e ≡ None →
      ends_by d q e ≡ false → touch_by d q e ≡ closing_if b →
      link_of d.cmp links q ≡ (if b then option_map closed (link_of d.cmp v.links q) else link_of d.cmp v.links q) →
      link_of d.cmp links q ≡ link_at d q (e ∷ h)
  links_closed e links q b opened ends touch tied = tied
      ∙ ap (λ o. if b then option_map closed o else o) (at.links q) ∙ sym (closed_link b (link_at d q h))
      ∙ sym (link_later d q e h opened
      ∙ ap (λ x. link_after x (touch_by d q e) (link_at d q h)) ends
      ∙ ap (λ x. link_after false x (link_at d q h)) touch)

  -- it is looked for somebody to dial at another time
  pub looks : (dial : NextDial C) → IsQuietIn d (world_after d (calls_of h)) (latest_at h) (option_map as_nanos dial.from) → dial.retry ≡ v.next_dial.retry →
      dial.grants ≡ v.next_dial.grants →
      DriverStandsAt b h (record v { next_dial = dial })
  looks dial quiet same kept = record {
    node = at.node;
    pace = at.pace;
    greeting = at.greeting;
    cooldown = at.cooldown;
    latest = at.latest;
    next = at.next;
    arrivals = at.arrivals;
    answers = at.answers;
    reads = at.reads;
    links = at.links;
    grants = λ q. ap (λ gs. grant_of d.cmp gs q) kept ∙ at.grants q;
    counts = at.counts;
    quiet = quiet;
    retry = same ∙ at.retry;
    actions = at.actions;
    right = at.right;
  }

  -- the stream of a dial was proved to be another's
  pub mistakes : (n : ℕ) (p : C) (t : Duration) (links : List (C × Held)) →
      IsRight b h (Happening.Mistaken n p t) → v.latest ≤ as_nanos t →
      ((q : C) → link_of d.cmp links q ≡ (if is_at (d.cmp p) q then option_map closed (link_of d.cmp v.links q) else link_of d.cmp v.links q)) →
      ((way : Direction) → count_of way links ≡ count_of way v.links) →
      DriverStandsAt b (Happening.Mistaken n p t ∷ h) (record v {
        latest = as_nanos t;
        links = links;
        actions = v.actions ++ shut p why.WrongKey (link_of d.cmp v.links p);
      })
  mistakes n p t links right after tied same = let e : Happening C S = Happening.Mistaken n p t in record {
    node = at.node;
    pace = at.pace;
    greeting = at.greeting;
    cooldown = at.cooldown;
    latest = refl;
    next = at.next ∙ sym (next_stays e h refl);
    arrivals = streams_stay e h v.arrivals refl (λ j. refl) (λ j. refl) (λ j. refl) at.arrivals;
    answers = answers_later (as_nanos t) after;
    reads = reads_later e (as_nanos t) after (λ j. refl) (λ j. refl) (λ j place. refl);
    links = λ q. links_closed e links q (is_at (d.cmp p) q) refl refl refl (tied q);
    grants = grants_stay e (λ p. refl) (λ p. refl);
    counts = counts_stay e links (λ way. refl) refl refl refl refl same;
    quiet = quiet_later (as_nanos t) after;
    retry = retry_later e refl;
    actions = says (shut p why.WrongKey (link_of d.cmp v.links p)) e refl (ap (shut p why.WrongKey) (sym (at.links p)));
    right = (right, in_time (as_nanos t) after, at.right);
  }

  -- a set came that was accepted
  pub tears : (t : Duration) (index : ℕ) (primary secondary torn : List C) (node : NodeView C S) (dial : NextDial C) (links : List (C × Held)) (told : List (Action C)) →
      IsSoon v.next_dial dial → IsRight b h (Happening.SetCame t index primary secondary torn) → v.latest ≤ as_nanos t →
      NodeStandsAt b.made (Track index primary secondary ∷ calls_of h) node →
      ((q : C) → link_of d.cmp links q ≡ (if has_key d.cmp torn q then option_map closed (link_of d.cmp v.links q) else link_of d.cmp v.links q)) →
      ((way : Direction) → count_of way links ≡ count_of way v.links) → told ≡ shut_all d.cmp torn (λ p. link_of d.cmp v.links p) →
      DriverStandsAt b (Happening.SetCame t index primary secondary torn ∷ h) (record v {
        node = node;
        next_dial = dial;
        latest = as_nanos t;
        links = links;
        actions = v.actions ++ told;
      })
  tears t index primary secondary torn node dial links told once right after made tied same is =
      let e : Happening C S = Happening.SetCame t index primary secondary torn in record {
        node = made;
        pace = at.pace;
        greeting = at.greeting;
        cooldown = at.cooldown;
        latest = refl;
        next = at.next ∙ sym (next_stays e h refl);
        arrivals = streams_stay e h v.arrivals refl (λ j. refl) (λ j. refl) (λ j. refl) at.arrivals;
        answers = answers_later (as_nanos t) after;
        reads = reads_later e (as_nanos t) after (λ j. refl) (λ j. refl) (λ j place. refl);
        links = λ q. links_closed e links q (has_key d.cmp torn q) refl refl refl (tied q);
        grants = grants_as e dial once.1 (λ p. refl) (λ p. refl);
        counts = counts_stay e links (λ way. refl) refl refl refl refl same;
        quiet = quiet_at_once (world_after d (calls_of (e ∷ h))) (as_nanos t) dial once.0;
        retry = retry_at_once e dial once.0 refl;
        actions = says told e refl (sym (is ∙ ap (shut_all d.cmp torn) (λ i p. at.links p i)));
        right = (right, in_time (as_nanos t) after, at.right);
      }

  -- a link is closed, since it is late
  pub lapses : (n : ℕ) (p : C) (t : Duration) (links : List (C × Held)) →
      IsRight b h (Happening.LinkLate n p t) → v.latest ≤ as_nanos t →
      ((q : C) → link_of d.cmp links q ≡ (if is_at (d.cmp p) q then option_map closed (link_of d.cmp v.links q) else link_of d.cmp v.links q)) →
      ((way : Direction) → count_of way links ≡ count_of way v.links) →
      DriverStandsAt b (Happening.LinkLate n p t ∷ h) (record v {
        latest = as_nanos t;
        links = links;
        actions = v.actions ++ shut p (why_late (link_of d.cmp v.links p)) (link_of d.cmp v.links p);
      })
  lapses n p t links right after tied same = let e : Happening C S = Happening.LinkLate n p t in record {
    node = at.node;
    pace = at.pace;
    greeting = at.greeting;
    cooldown = at.cooldown;
    latest = refl;
    next = at.next ∙ sym (next_stays e h refl);
    arrivals = streams_stay e h v.arrivals refl (λ j. refl) (λ j. refl) (λ j. refl) at.arrivals;
    answers = answers_later (as_nanos t) after;
    reads = reads_later e (as_nanos t) after (λ j. refl) (λ j. refl) (λ j place. refl);
    links = λ q. links_closed e links q (is_at (d.cmp p) q) refl refl refl (tied q);
    grants = grants_stay e (λ p. refl) (λ p. refl);
    counts = counts_stay e links (λ way. refl) refl refl refl refl same;
    quiet = quiet_later (as_nanos t) after;
    retry = retry_later e refl;
    actions = says (shut p (why_late (link_of d.cmp v.links p)) (link_of d.cmp v.links p)) e refl
        (ap (λ o. shut p (why_late o) o) (sym (at.links p)));
    right = (right, in_time (as_nanos t) after, at.right);
  }

  -- the peer of a link was heard
  pub hears : (n : ℕ) (p : C) (t : Duration) (owed : ℕ) (cause : Cause) (outcome : Outcome C S)
      (node : NodeView C S) (dial : NextDial C) (reads : List (ℕ × MetersView)) (links : List (C × Held)) →
      IsSoughtFor d.cmp p t outcome v.next_dial dial → IsRight b h (Happening.Heard n p t owed cause outcome) → v.latest ≤ as_nanos t →
      NodeStandsAt b.made (calls_for p t outcome ++ calls_of h) node →
      AreMetered b.pace (as_nanos t) (Happening.Heard n p t owed cause outcome ∷ h) reads →
      ((q : C) → link_of d.cmp links q ≡ (if is_at (d.cmp p) q then option_map (heard_as t owed outcome) (link_of d.cmp v.links q) else link_of d.cmp v.links q)) →
      ((way : Direction) → count_of way links ≡ count_of way v.links) →
      DriverStandsAt b (Happening.Heard n p t owed cause outcome ∷ h) (record v {
        node = node;
        next_dial = dial;
        latest = as_nanos t;
        reads = reads;
        links = links;
        actions = v.actions ++ answered_on n p outcome (link_of d.cmp v.links p);
      })
  hears n p t owed cause outcome node dial reads links sought right after made metered tied same =
      let e : Happening C S = Happening.Heard n p t owed cause outcome in record {
        node = made;
        pace = at.pace;
        greeting = at.greeting;
        cooldown = at.cooldown;
        latest = refl;
        next = at.next ∙ sym (next_stays e h refl);
        arrivals = streams_stay e h v.arrivals refl (λ j. refl) (λ j. refl) (λ j. refl) at.arrivals;
        answers = answers_later (as_nanos t) after;
        reads = metered;
        links = λ q. tied q ∙ ap (λ o. if is_at (d.cmp p) q then option_map (heard_as t owed outcome) o else o) (at.links q)
            ∙ sym (link_hears d q p n t owed cause outcome h);
        grants = λ q. sought.1 q ∙ ap (λ o. if is_greeted outcome && is_at (d.cmp p) q then None else o) (at.grants q) ∙ sym (grant_later d q e h);
        counts = counts_stay e links (λ way. refl) refl refl refl refl same;
        quiet = quiet_by (calls_for p t outcome) (as_nanos t) dial after sought.0;
        retry = retried_by (calls_for p t outcome) dial sought.0 ∙ retry_later e refl;
        actions = says (answered_on n p outcome (link_of d.cmp v.links p)) e refl (ap (answered_on n p outcome) (sym (at.links p)));
        right = (right, in_time (as_nanos t) after, at.right);
      }

  -- a question was due
  pub asks : (n : ℕ) (p : C) (t : Duration) (owed : ℕ) (fits : Bool) (question : Option Question) (links : List (C × Held)) →
      IsRight b h (Happening.Asked n p t owed fits question) → v.latest ≤ as_nanos t →
      ((q : C) → link_of d.cmp links q ≡ (if is_at (d.cmp p) q then option_map (λ x. saying (said_with t question) (asking owed (asked_after t question x.asked) x)) (link_of d.cmp v.links q) else link_of d.cmp v.links q)) →
      ((way : Direction) → count_of way links ≡ count_of way v.links) →
      DriverStandsAt b (Happening.Asked n p t owed fits question ∷ h) (record v {
        latest = as_nanos t;
        links = links;
        actions = v.actions ++ asking_on n question;
      })
  asks n p t owed fits question links right after tied same = let e : Happening C S = Happening.Asked n p t owed fits question in record {
    node = at.node;
    pace = at.pace;
    greeting = at.greeting;
    cooldown = at.cooldown;
    latest = refl;
    next = at.next ∙ sym (next_stays e h refl);
    arrivals = streams_stay e h v.arrivals refl (λ j. refl) (λ j. refl) (λ j. refl) at.arrivals;
    answers = answers_later (as_nanos t) after;
    reads = reads_later e (as_nanos t) after (λ j. refl) (λ j. refl) (λ j place. refl);
    links = λ q. tied q ∙ ap (λ o. if is_at (d.cmp p) q then option_map (λ x. saying (said_with t question) (asking owed (asked_after t question x.asked) x)) o else o) (at.links q)
        ∙ sym (link_asks d q p n t owed fits question h);
    grants = grants_stay e (λ p. refl) (λ p. refl);
    counts = counts_stay e links (λ way. refl) refl refl refl refl same;
    quiet = quiet_later (as_nanos t) after;
    retry = retry_later e refl;
    actions = says (asking_on n question) e refl refl;
    right = (right, in_time (as_nanos t) after, at.right);
  }

  -- a frame was written
  pub writes : (n : ℕ) (p : C) (t : Duration) (links : List (C × Held)) →
      IsRight b h (Happening.Written n p t) → v.latest ≤ as_nanos t →
      ((q : C) → link_of d.cmp links q ≡ (if is_at (d.cmp p) q then option_map writing (link_of d.cmp v.links q) else link_of d.cmp v.links q)) →
      ((way : Direction) → count_of way links ≡ count_of way v.links) →
      DriverStandsAt b (Happening.Written n p t ∷ h) (record v { latest = as_nanos t; links = links })
  writes n p t links right after tied same = let e : Happening C S = Happening.Written n p t in record {
    node = at.node;
    pace = at.pace;
    greeting = at.greeting;
    cooldown = at.cooldown;
    latest = refl;
    next = at.next ∙ sym (next_stays e h refl);
    arrivals = streams_stay e h v.arrivals refl (λ j. refl) (λ j. refl) (λ j. refl) at.arrivals;
    answers = answers_later (as_nanos t) after;
    reads = reads_later e (as_nanos t) after (λ j. refl) (λ j. refl) (λ j place. refl);
    links = λ q. tied q ∙ ap (λ o. if is_at (d.cmp p) q then option_map writing o else o) (at.links q)
        ∙ sym (link_writes d q p n t h);
    grants = grants_stay e (λ p. refl) (λ p. refl);
    counts = counts_stay e links (λ way. refl) refl refl refl refl same;
    quiet = quiet_later (as_nanos t) after;
    retry = retry_later e refl;
    actions = says_nothing e refl refl;
    right = (right, in_time (as_nanos t) after, at.right);
  }

  -- a message was said
  pub speaks : (n : ℕ) (p : C) (t : Duration) (place : ℕ) (reads : List (ℕ × MetersView)) (links : List (C × Held)) →
      IsRight b h (Happening.Spoken n p t place) → v.latest ≤ as_nanos t →
      AreMetered b.pace (as_nanos t) (Happening.Spoken n p t place ∷ h) reads →
      ((q : C) → link_of d.cmp links q ≡ (if is_at (d.cmp p) q then option_map (saying (Some t)) (link_of d.cmp v.links q) else link_of d.cmp v.links q)) →
      ((way : Direction) → count_of way links ≡ count_of way v.links) →
      DriverStandsAt b (Happening.Spoken n p t place ∷ h) (record v { latest = as_nanos t; reads = reads; links = links })
  speaks n p t place reads links right after metered tied same = let e : Happening C S = Happening.Spoken n p t place in record {
    node = at.node;
    pace = at.pace;
    greeting = at.greeting;
    cooldown = at.cooldown;
    latest = refl;
    next = at.next ∙ sym (next_stays e h refl);
    arrivals = streams_stay e h v.arrivals refl (λ j. refl) (λ j. refl) (λ j. refl) at.arrivals;
    answers = answers_later (as_nanos t) after;
    reads = metered;
    links = λ q. tied q ∙ ap (λ o. if is_at (d.cmp p) q then option_map (saying (Some t)) o else o) (at.links q)
        ∙ sym (link_speaks d q p n t place h);
    grants = grants_stay e (λ p. refl) (λ p. refl);
    counts = counts_stay e links (λ way. refl) refl refl refl refl same;
    quiet = quiet_later (as_nanos t) after;
    retry = retry_later e refl;
    actions = says_nothing e refl refl;
    right = (right, in_time (as_nanos t) after, at.right);
  }

  -- infos came
  pub gives : (infos : List (Info C S)) (t : Duration) (node : NodeView C S) (dial : NextDial C) → IsSoon v.next_dial dial → v.latest ≤ as_nanos t →
      NodeStandsAt b.made (Update infos ∷ calls_of h) node →
      DriverStandsAt b (Happening.Given infos t ∷ h) (record v { node = node; next_dial = dial; latest = as_nanos t })
  gives infos t node dial once after made = let e : Happening C S = Happening.Given infos t in record {
    node = made;
    pace = at.pace;
    greeting = at.greeting;
    cooldown = at.cooldown;
    latest = refl;
    next = at.next ∙ sym (next_stays e h refl);
    arrivals = streams_stay e h v.arrivals refl (λ j. refl) (λ j. refl) (λ j. refl) at.arrivals;
    answers = answers_later (as_nanos t) after;
    reads = reads_later e (as_nanos t) after (λ j. refl) (λ j. refl) (λ j place. refl);
    links = links_stay e (λ p. refl) (λ p. refl) (λ p. refl);
    grants = grants_as e dial once.1 (λ p. refl) (λ p. refl);
    counts = count_stays e (λ way. refl) refl refl refl refl;
    quiet = quiet_at_once (world_after d (calls_of (e ∷ h))) (as_nanos t) dial once.0;
    retry = retry_at_once e dial once.0 refl;
    actions = says_nothing e refl refl;
    right = (tt, in_time (as_nanos t) after, at.right);
  }

  -- a peer was blocked, and its link is closed
  pub bars : (p : C) (t : Duration) (taken : Bool) (node : NodeView C S) (dial : NextDial C) (links : List (C × Held)) →
      IsSoon v.next_dial dial → IsRight b h (Happening.Barred p t taken) → v.latest ≤ as_nanos t →
      NodeStandsAt b.made (Block p (as_nanos t) ∷ calls_of h) node →
      ((q : C) → link_of d.cmp links q ≡ (if is_at (d.cmp p) q then option_map closed (link_of d.cmp v.links q) else link_of d.cmp v.links q)) →
      ((way : Direction) → count_of way links ≡ count_of way v.links) →
      DriverStandsAt b (Happening.Barred p t taken ∷ h) (record v {
        node = node;
        next_dial = dial;
        latest = as_nanos t;
        links = links;
        actions = v.actions ++ shut p why.Blocked (link_of d.cmp v.links p);
      })
  bars p t taken node dial links once right after made tied same = let e : Happening C S = Happening.Barred p t taken in record {
    node = made;
    pace = at.pace;
    greeting = at.greeting;
    cooldown = at.cooldown;
    latest = refl;
    next = at.next ∙ sym (next_stays e h refl);
    arrivals = streams_stay e h v.arrivals refl (λ j. refl) (λ j. refl) (λ j. refl) at.arrivals;
    answers = answers_later (as_nanos t) after;
    reads = reads_later e (as_nanos t) after (λ j. refl) (λ j. refl) (λ j place. refl);
    links = λ q. links_closed e links q (is_at (d.cmp p) q) refl refl refl (tied q);
    grants = grants_as e dial once.1 (λ p. refl) (λ p. refl);
    counts = counts_stay e links (λ way. refl) refl refl refl refl same;
    quiet = quiet_at_once (world_after d (calls_of (e ∷ h))) (as_nanos t) dial once.0;
    retry = retry_at_once e dial once.0 refl;
    actions = says (shut p why.Blocked (link_of d.cmp v.links p)) e refl (ap (shut p why.Blocked) (sym (at.links p)));
    right = (right, in_time (as_nanos t) after, at.right);
  }

  -- the application parts from a peer, and its link is closed
  pub parts : (p : C) (t : Duration) (links : List (C × Held)) → IsRight b h (Happening.Parted p t) →
      v.latest ≤ as_nanos t →
      ((q : C) → link_of d.cmp links q ≡ (if is_at (d.cmp p) q then option_map closed (link_of d.cmp v.links q) else link_of d.cmp v.links q)) →
      ((way : Direction) → count_of way links ≡ count_of way v.links) →
      DriverStandsAt b (Happening.Parted p t ∷ h) (record v {
        latest = as_nanos t;
        links = links;
        actions = v.actions ++ shut p why.Application (link_of d.cmp v.links p);
      })
  parts p t links right after tied same = let e : Happening C S = Happening.Parted p t in record {
    node = at.node;
    pace = at.pace;
    greeting = at.greeting;
    cooldown = at.cooldown;
    latest = refl;
    next = at.next ∙ sym (next_stays e h refl);
    arrivals = streams_stay e h v.arrivals refl (λ j. refl) (λ j. refl) (λ j. refl) at.arrivals;
    answers = answers_later (as_nanos t) after;
    reads = reads_later e (as_nanos t) after (λ j. refl) (λ j. refl) (λ j place. refl);
    links = λ q. links_closed e links q (is_at (d.cmp p) q) refl refl refl (tied q);
    grants = grants_stay e (λ p. refl) (λ p. refl);
    counts = counts_stay e links (λ way. refl) refl refl refl refl same;
    quiet = quiet_later (as_nanos t) after;
    retry = retry_later e refl;
    actions = says (shut p why.Application (link_of d.cmp v.links p)) e refl (ap (shut p why.Application) (sym (at.links p)));
    right = (right, in_time (as_nanos t) after, at.right);
  }

  -- time passed
  pub passed : (t : Duration) (node : NodeView C S) → v.latest ≤ as_nanos t →
      NodeStandsAt b.made (UnblockExpired (as_nanos t) ∷ ForgetCooled (as_nanos t) ∷ calls_of h) node →
      IsQuietIn d (world_after d (UnblockExpired (as_nanos t) ∷ ForgetCooled (as_nanos t) ∷ calls_of h)) (as_nanos t) (option_map as_nanos v.next_dial.from) →
      DriverStandsAt b (Happening.Passed t ∷ h) (record v { node = node; latest = as_nanos t })
  passed t node after made quiet = let e : Happening C S = Happening.Passed t in record {
    node = made;
    pace = at.pace;
    greeting = at.greeting;
    cooldown = at.cooldown;
    latest = refl;
    next = at.next ∙ sym (next_stays e h refl);
    arrivals = streams_stay e h v.arrivals refl (λ j. refl) (λ j. refl) (λ j. refl) at.arrivals;
    answers = answers_later (as_nanos t) after;
    reads = reads_later e (as_nanos t) after (λ j. refl) (λ j. refl) (λ j place. refl);
    links = links_stay e (λ p. refl) (λ p. refl) (λ p. refl);
    grants = grants_stay e (λ p. refl) (λ p. refl);
    counts = count_stays e (λ way. refl) refl refl refl refl;
    quiet = quiet;
    retry = retry_later e refl;
    actions = says_nothing e refl refl;
    right = (tt, in_time (as_nanos t) after, at.right);
  }

  -- without a time, the latest stays
  latest_stays : (e : Happening C S) → time_by e ≡ None → latest_at h ≡ latest_at (e ∷ h)
  latest_stays e none = go (last_with time_by h) ∙ sym (ap (λ o. latest_of (found_with o e (last_with time_by h))) none)
    where
      go : (found : Option (Duration × List (Happening C S))) → latest_of found ≡ latest_of (found_with None e found)
      go None = refl
      go (Some found) = refl

  -- a set came that wasn't accepted
  pub stale : (index : ℕ) (primary secondary : List C) (node : NodeView C S) (dial : NextDial C) → IsSoon v.next_dial dial →
      IsRight b h (Happening.StaleSetCame index primary secondary) →
      NodeStandsAt b.made (Track index primary secondary ∷ calls_of h) node →
      DriverStandsAt b (Happening.StaleSetCame index primary secondary ∷ h) (record v { node = node; next_dial = dial })
  stale index primary secondary node dial once right made =
      let e : Happening C S = Happening.StaleSetCame index primary secondary in record {
        node = made;
        pace = at.pace;
        greeting = at.greeting;
        cooldown = at.cooldown;
        latest = at.latest ∙ latest_stays e refl;
        next = at.next ∙ sym (next_stays e h refl);
        arrivals = streams_stay e h v.arrivals refl (λ j. refl) (λ j. refl) (λ j. refl) at.arrivals;
        answers = subst (λ t. AreKept b.pace t (answered_in h) v.answers) (latest_stays e refl) at.answers;
        reads = subst (λ t. AreMetered b.pace t (e ∷ h) v.reads) (latest_stays e refl)
            (metered_stays b.pace (latest_at h) e h v.reads (λ j. refl) (λ j. refl) (λ j place. refl) at.reads);
        links = links_stay e (λ p. refl) (λ p. refl) (λ p. refl);
        grants = grants_as e dial once.1 (λ p. refl) (λ p. refl);
        counts = count_stays e (λ way. refl) refl refl refl refl;
        quiet = quiet_at_once (world_after d (calls_of (e ∷ h))) (latest_at (e ∷ h)) dial once.0;
        retry = retry_at_once e dial once.0 refl;
        actions = says_nothing e refl refl;
        right = (right, tt, at.right);
      }

  -- the host took an action
  pub takes : (a : Action C) (later : List (Action C)) → v.actions ≡ a ∷ later →
      DriverStandsAt b (Happening.Taken a ∷ h) (record v { actions = later })
  takes a later is = let e : Happening C S = Happening.Taken a in record {
    node = at.node;
    pace = at.pace;
    greeting = at.greeting;
    cooldown = at.cooldown;
    latest = at.latest ∙ latest_stays e refl;
    next = at.next ∙ sym (next_stays e h refl);
    arrivals = streams_stay e h v.arrivals refl (λ j. refl) (λ j. refl) (λ j. refl) at.arrivals;
    answers = subst (λ t. AreKept b.pace t (answered_in h) v.answers) (latest_stays e refl) at.answers;
    reads = subst (λ t. AreMetered b.pace t (e ∷ h) v.reads) (latest_stays e refl)
        (metered_stays b.pace (latest_at h) e h v.reads (λ j. refl) (λ j. refl) (λ j place. refl) at.reads);
    links = links_stay e (λ p. refl) (λ p. refl) (λ p. refl);
    grants = grants_stay e (λ p. refl) (λ p. refl);
    counts = count_stays e (λ way. refl) refl refl refl refl;
    quiet = subst (λ t. IsQuietIn d (world_after d (calls_of h)) t (option_map as_nanos v.next_dial.from)) (latest_stays e refl) at.quiet;
    retry = retry_later e refl;
    actions = took_one (taken h) later (said d b.greeting h) a (ap (λ xs. taken h ++ xs) (sym is) ∙ at.actions);
    right = ((later, ap (λ xs. taken h ++ xs) (sym is) ∙ at.actions), tt, at.right);
  }
