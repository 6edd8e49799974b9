-- The links of peers after one more happening, and what was said.
use Rattle.std.proofs.Common.{◌≡◌, ℕ, ◌+◌, Bool, true, false, ◌||◌, ◌&&◌, cond, List, [], ◌∷◌, ◌++◌, Option, Some, None, refl, sym, ◌∙◌, ap, arith}
use Rattle.std.specs.Prelude.{if◌then◌else◌, option_map, unwrap_or, drop, is_some}
use Rattle.std.specs.List.{list_any, count_by}
use Rattle.std.proofs.lemmas.List.Sums.{sum_by-cons}
use Rattle.std.specs.declared.time.Duration.{Duration}
use Rattle.std.proofs.lemmas.List.{append-nil, append_assoc}
use Rattle.p2p_tracker.specs.Calls.{Settings}
use Rattle.p2p_tracker.specs.History.{same, last_with, found_with}
use Rattle.p2p_driver.specs.declared.links.Asked.{Asked}
use Rattle.p2p_driver.specs.declared.links.Direction.{Direction}
use Rattle.p2p_driver.specs.declared.links.Direction.TheVariants as way
use Rattle.p2p_driver.specs.declared.links.Held.{Held}
use Rattle.p2p_driver.specs.declared.links.Phase.{Phase}
use Rattle.p2p_driver.specs.declared.links.Phase.TheVariants as phase
use Rattle.p2p_driver.specs.declared.links.Waiting.{Waiting}
use Rattle.p2p_driver.specs.declared.questions.Question.{Question}
use Rattle.p2p_discovery.specs.Judgement.{first_of}
use Rattle.p2p_discovery.specs.declared.types.ingress.Ingress.{Ingress}
use Rattle.p2p_driver.specs.Questions.{asked_after, counted}
use Rattle.p2p_driver.specs.Frames.{Cause, Outcome, waiting_by}
use Rattle.p2p_driver.specs.Looked.{LookedView}
use Rattle.p2p_driver.specs.Happenings.{Happening, link_at, link_since, opened_by, ends_by, closes_by, greets_by, heard_by, phase_of, owed_by, tried_by, index_by, newest_by, index_tried, newest_tried, tried_with, kept_of, last_heard, last_tried, last_looked, asked_in, is_closing, is_greeted, is_heard, looked_by, looks_by, heard_as, says_on, said_as, said_with, writes_by, unwritten_in, reached_by, way_of, proved_at, first_said}
use Rattle.p2p_driver.specs.Links.{link_with, link_as, taken_way, dial_with, reached, proved_way, greeted, unless_closing, hearing, opened, asking, allowing, saying, with_said, writing, closed}

-- a phase once the link was closed, or greeted on
abbrev pub phase_after : Bool → Bool → Phase → Phase
phase_after true greets p = phase.Closing
phase_after false true p = greeted p
phase_after false false p = p

phase_step : (c cs g gs : Bool) → phase_of (c || cs) (g || gs) ≡ phase_after c g (phase_of cs gs)
phase_step true cs g gs = refl
phase_step false true true gs = refl
phase_step false true false gs = refl
phase_step false false true true = refl
phase_step false false true false = refl
phase_step false false false gs = refl

-- a phase tells whether the peer has greeted, unless it is closing
pub of_greeting : (c g : Bool) → phase_of c g ≡ phase.Greeting → g ≡ false
of_greeting true g is = absurd cc
of_greeting false true is = absurd cc
of_greeting false false is = refl

pub of_open : (c g : Bool) → phase_of c g ≡ phase.Open → g ≡ true
of_open true g is = absurd cc
of_open false true is = refl
of_open false false is = absurd cc

-- what one happening does to a link: it is closed, its peer greets, or is heard, questions are owed, one is due, a frame
-- may be handed in, or none, a frame is written, one is said, and the stream of a dial is proved
pub record Touch : Type 0 where
  pub closes : Bool
  pub greets : Bool
  pub heard : Option (Duration × Option Waiting)
  pub owed : Option ℕ
  pub tried : Option (Duration × Option Question)
  pub looked : Option (Option LookedView)
  pub written : Bool
  pub said : Option Duration
  pub reaches : Option Duration

-- nothing
abbrev pub untouched : Touch
untouched = record { closes = false; greets = false; heard = None; owed = None; tried = None; looked = None; written = false; said = None; reaches = None }

-- it is closed, or not
abbrev pub closing_if : Bool → Touch
closing_if b = record { closes = b; greets = false; heard = None; owed = None; tried = None; looked = None; written = false; said = None; reaches = None }

-- a frame is written, or not
abbrev pub writing_if : Bool → Touch
writing_if b = record { closes = false; greets = false; heard = None; owed = None; tried = None; looked = None; written = b; said = None; reaches = None }

-- when its peer was heard last, how much is owed, what waits, and what is kept of its questions
abbrev pub heard_after : Option (Duration × Option Waiting) → Duration → Duration
heard_after None at = at
heard_after (Some heard) at = heard.0

abbrev pub owed_now : Option ℕ → ℕ → ℕ
owed_now None owed = owed
owed_now (Some now) owed = now

abbrev pub waiting_after : Option (Duration × Option Waiting) → Bool → Phase → Option Waiting → Option Waiting
waiting_after None closes ph waiting = if closes then None else waiting
waiting_after (Some heard) closes ph waiting = unless_closing ph heard.1

abbrev pub looked_after : Option (Option LookedView) → Bool → Phase → Option LookedView → Option LookedView
looked_after None closes ph looked = if closes then None else looked
looked_after (Some now) closes ph looked = unless_closing ph now

abbrev pub tried_after : Option (Duration × Option Question) → Asked → Asked
tried_after None asked = asked
tried_after (Some tried) asked = asked_after tried.0 tried.1 asked

abbrev pub unwritten_after : Bool → Option Duration → List Duration → List Duration
unwritten_after written said unwritten = with_said said (if written then drop 1 unwritten else unwritten)

-- whether a dial is under way, and when its key was proved
abbrev pub way_after : Option Duration → Direction → Direction
way_after None direction = direction
way_after (Some t) direction = proved_way direction

abbrev pub since_after : Option Duration → Duration → Duration
since_after None since = since
since_after (Some t) since = t

abbrev pub touched : Touch → Held → Held
touched touch held = record {
  number = held.number;
  direction = way_after touch.reaches held.direction;
  phase = phase_after touch.closes touch.greets held.phase;
  since = since_after touch.reaches held.since;
  heard = heard_after touch.heard held.heard;
  owed = owed_now touch.owed held.owed;
  waiting = waiting_after touch.heard touch.closes (phase_after touch.closes touch.greets held.phase) held.waiting;
  asked = tried_after touch.tried held.asked;
  looked = looked_after touch.looked touch.closes (phase_after touch.closes touch.greets held.phase) held.looked;
  unwritten = unwritten_after touch.written touch.said held.unwritten;
}

-- a link once it ended, was closed, greeted on, or heard
abbrev pub link_after : Bool → Touch → Option Held → Option Held
link_after ends touch None = None
link_after true touch (Some held) = None
link_after false touch (Some held) = Some (touched touch held)

pub unchanged_link : (o : Option Held) → link_after false untouched o ≡ o
unchanged_link None = refl
unchanged_link (Some held) = refl

pub ended_link : (b : Bool) (o : Option Held) → link_after b untouched o ≡ (if b then None else o)
ended_link true None = refl
ended_link true (Some held) = refl
ended_link false o = unchanged_link o

-- closed, or not
pub closed_link : (b : Bool) (o : Option Held) → link_after false (closing_if b) o ≡ (if b then option_map closed o else o)
closed_link true None = refl
closed_link true (Some held) = refl
closed_link false o = unchanged_link o

-- a frame is written, or not
pub written_link : (b : Bool) (o : Option Held) → link_after false (writing_if b) o ≡ (if b then option_map writing o else o)
written_link true None = refl
written_link true (Some held) = refl
written_link false o = unchanged_link o

-- .. or one is said
abbrev pub saying_if : Option Duration → Touch
saying_if said = record { closes = false; greets = false; heard = None; owed = None; tried = None; looked = None; written = false; said = said; reaches = None }

pub spoken_link : (b : Bool) (t : Duration) (o : Option Held) →
    link_after false (saying_if (if b then Some t else None)) o ≡ (if b then option_map (saying (Some t)) o else o)
spoken_link true t None = refl
spoken_link true t (Some held) = refl
spoken_link false t o = unchanged_link o

-- .. or the stream of a dial is proved
abbrev pub reaching_if : Bool → Duration → Touch
reaching_if b t = record {
  closes = false;
  greets = false;
  heard = if b then Some (t, None) else None;
  owed = None;
  tried = None;
  looked = None;
  written = false;
  said = if b then Some t else None;
  reaches = if b then Some t else None;
}

-- nothing is kept of nothing
pub nothing_kept : {A : Type 0} (ph : Phase) → unless_closing {A = A} ph None ≡ None
nothing_kept phase.Greeting = refl
nothing_kept phase.Open = refl
nothing_kept phase.Closing = refl

pub reached_link : (b : Bool) (t : Duration) (o : Option Held) →
    link_after false (reaching_if b t) o ≡ (if b then option_map (λ x. saying (Some t) (reached t x)) o else o)
reached_link true t None = refl
reached_link true t (Some held) = ap (λ w. Some (record held {
  direction = proved_way held.direction;
  since = t;
  heard = t;
  waiting = w;
  unwritten = with_said (Some t) held.unwritten;
})) (nothing_kept {A = Waiting} held.phase)
reached_link false t o = unchanged_link o

-- .. or greeted on
pub opened_link : (b : Bool) (t : Duration) (owed : ℕ) (question : Option Question) (o : Option Held) →
    link_after false (record {
      closes = false;
      greets = b;
      heard = if b then Some (t, None) else None;
      owed = if b then Some owed else None;
      tried = if b then Some (t, question) else None;
      looked = if b then Some None else None;
      written = false;
      said = if b then said_with t question else None;
      reaches = None;
    }) o ≡ (if b then option_map (λ h. saying (said_with t question) (opened t owed (asked_after t question h.asked) h)) o else o)
opened_link true t owed question None = refl
opened_link true t owed question (Some held) = λ i. Some (record held {
  phase = greeted held.phase;
  heard = t;
  owed = owed;
  waiting = nothing_kept {A = Waiting} (greeted held.phase) i;
  asked = asked_after t question held.asked;
  looked = nothing_kept {A = LookedView} (greeted held.phase) i;
  unwritten = with_said (said_with t question) held.unwritten;
})
opened_link false t owed question o = unchanged_link o

-- .. or heard, and a frame said, if one is
pub heard_link : (b : Bool) (t : Duration) (owed : ℕ) (w : Option Waiting) (said : Option Duration) (o : Option Held) →
    link_after false (record {
      closes = false;
      greets = false;
      heard = if b then Some (t, w) else None;
      owed = if b then Some owed else None;
      tried = if b then None else None;
      looked = if b then Some None else None;
      written = false;
      said = if b then said else None;
      reaches = None;
    }) o ≡ (if b then option_map (λ h. saying said (hearing t owed w h)) o else o)
heard_link true t owed w said None = refl
heard_link true t owed w said (Some held) = ap (λ l. Some (record held {
  heard = t;
  owed = owed;
  waiting = unless_closing held.phase w;
  looked = l;
  unwritten = with_said said held.unwritten;
})) (nothing_kept {A = LookedView} held.phase)
heard_link false t owed w said o = unchanged_link o

-- .. or asked
pub asked_link : (b : Bool) (t : Duration) (owed : ℕ) (question : Option Question) (o : Option Held) →
    link_after false (record {
      closes = false;
      greets = false;
      heard = None;
      owed = if b then Some owed else None;
      tried = if b then Some (t, question) else None;
      looked = None;
      written = false;
      said = if b then said_with t question else None;
      reaches = None;
    }) o ≡ (if b then option_map (λ h. saying (said_with t question) (asking owed (asked_after t question h.asked) h)) o else o)
asked_link true t owed question None = refl
asked_link true t owed question (Some held) = refl
asked_link false t owed question o = unchanged_link o

-- .. or closed by what came
cut_link : (b : Bool) (o : Option Held) →
    link_after false (record {
      closes = b;
      greets = false;
      heard = None;
      owed = None;
      tried = if b then None else None;
      looked = if b then Some None else None;
      written = false;
      said = if b then None else None;
      reaches = None;
    }) o
    ≡ (if b then option_map closed o else o)
cut_link true None = refl
cut_link true (Some held) = refl
cut_link false o = unchanged_link o

-- .. or may be handed a frame in on
allowed_link : (b : Bool) (l : LookedView) (o : Option Held) →
    link_after false (record {
      closes = false;
      greets = false;
      heard = None;
      owed = None;
      tried = if b then None else None;
      looked = if b then Some (Some l) else None;
      written = false;
      said = if b then None else None;
      reaches = None;
    }) o ≡ (if b then option_map (allowing l) o else o)
allowed_link true l None = refl
allowed_link true l (Some held) = refl
allowed_link false l o = unchanged_link o

-- by what came of it
pub outcome_link : {C S : Type 0} (b : Bool) (t : Duration) (owed : ℕ) (outcome : Outcome C S) (o : Option Held) →
    link_after false (record {
      closes = is_closing outcome && b;
      greets = is_greeted outcome && b;
      heard = if is_heard outcome && b then Some (t, waiting_by outcome) else None;
      owed = if is_heard outcome && b then Some owed else None;
      tried = if b then tried_with t outcome else None;
      looked = if b then Some (looked_by outcome) else None;
      written = false;
      said = if b then said_as t outcome else None;
      reaches = None;
    }) o ≡ (if b then option_map (heard_as t owed outcome) o else o)
outcome_link b t owed (Outcome.Waits waiting) o = heard_link b t owed (Some waiting) None o
outcome_link b t owed (Outcome.Greets dialer info question) o = opened_link b t owed question o
outcome_link b t owed (Outcome.Takes infos) o = heard_link b t owed None None o
outcome_link b t owed (Outcome.Answers reply) o = heard_link b t owed None (Some t) o
outcome_link b t owed (Outcome.Delivers message) o = heard_link b t owed None None o
outcome_link b t owed Outcome.Ignores o = heard_link b t owed None None o
outcome_link b t owed (Outcome.Breaks breach blocked) o = cut_link b o
outcome_link b t owed Outcome.IsEarly o = cut_link b o
outcome_link b t owed Outcome.LacksChannel o = cut_link b o
outcome_link b t owed (Outcome.Delays next) o = heard_link b t owed None None o
outcome_link b t owed (Outcome.Reads kind looked) o = allowed_link b looked o

-- what is kept of a link, by how far it is, when its peer was heard last, how much is owed, what waits, its questions,
-- the frame that may be handed in, and the frames that aren't written
abbrev kept_with : ℕ → Direction → Duration → Phase → Duration × Option Waiting → ℕ → Asked → Option LookedView → List Duration → Held
kept_with n way t ph last owed asked looked unwritten = record {
  number = n;
  direction = way;
  phase = ph;
  since = t;
  heard = last.0;
  owed = owed;
  waiting = unless_closing ph last.1;
  asked = asked;
  looked = unless_closing ph looked;
  unwritten = unwritten;
}

abbrev last_looked_after : Option (Option LookedView) → Option LookedView → Option LookedView
last_looked_after None last = last
last_looked_after (Some now) last = now

abbrev last_after : Option (Duration × Option Waiting) → Duration × Option Waiting → Duration × Option Waiting
last_after None last = last
last_after (Some heard) last = heard

-- .. after one more happening
kept_same : {A : Type 0} (c g : Bool) (ph : Phase) (last : Option A) →
    unless_closing (phase_after c g ph) last ≡ (if c then None else unless_closing ph last)
kept_same true g ph last = refl
kept_same false true phase.Greeting last = refl
kept_same false true phase.Open last = refl
kept_same false true phase.Closing last = refl
kept_same false false ph last = refl

looked_step : (c g : Bool) (looked : Option (Option LookedView)) (ph : Phase) (last : Option LookedView) →
    unless_closing (phase_after c g ph) (last_looked_after looked last)
    ≡ looked_after looked c (phase_after c g ph) (unless_closing ph last)
looked_step c g (Some now) ph last = refl
looked_step c g None ph last = kept_same c g ph last

waiting_step : (c g : Bool) (heard : Option (Duration × Option Waiting)) (ph : Phase) (last : Duration × Option Waiting) →
    unless_closing (phase_after c g ph) (last_after heard last).1
    ≡ waiting_after heard c (phase_after c g ph) (unless_closing ph last.1)
waiting_step c g (Some heard) ph last = refl
waiting_step c g None ph last = kept_same c g ph last.1

heard_step : (heard : Option (Duration × Option Waiting)) (last : Duration × Option Waiting) → (last_after heard last).0 ≡ heard_after heard last.0
heard_step (Some heard) last = refl
heard_step None last = refl

kept_step : (n : ℕ) (way : Direction) (t : Duration) (c g : Bool) (heard : Option (Duration × Option Waiting)) (o : Option ℕ)
    (tried : Option (Duration × Option Question)) (looked : Option (Option LookedView)) (ph : Phase) (last : Duration × Option Waiting) (owed : ℕ)
    (asked : Asked) (last_seen : Option LookedView) (written : Bool) (said reaches : Option Duration) (unwritten : List Duration) →
    kept_with n (way_after reaches way) (since_after reaches t) (phase_after c g ph) (last_after heard last) (owed_now o owed) (tried_after tried asked) (last_looked_after looked last_seen)
    (unwritten_after written said unwritten)
    ≡ touched (record { closes = c; greets = g; heard = heard; owed = o; tried = tried; looked = looked; written = written; said = said; reaches = reaches })
    (kept_with n way t ph last owed asked last_seen unwritten)
kept_step n way t c g heard o tried looked ph last owed asked last_seen written said reaches unwritten = λ i. record {
  number = n;
  direction = way_after reaches way;
  phase = phase_after c g ph;
  since = since_after reaches t;
  heard = heard_step heard last i;
  owed = owed_now o owed;
  waiting = waiting_step c g heard ph last i;
  asked = tried_after tried asked;
  looked = looked_step c g looked ph last_seen i;
  unwritten = unwritten_after written said unwritten;
}

-- a dial that was proved stays outbound
proved_once : (way : Direction) → proved_way (proved_way way) ≡ proved_way way
proved_once way.Inbound = refl
proved_once way.Dialing = refl
proved_once way.Outbound = refl
proved_once way.TakenOver = refl

-- what is kept of questions, by its parts
abbrev asked_at : Duration → Option ℕ → ℕ → Asked
asked_at at index rounds = record { at = at; index = index; rounds = rounds }

-- one more round, as far as it is counted
counted_more : (b : Bool) (k : ℕ) → counted (cond b 1 0 + k) ≡ (if b then counted (counted k + 1) else counted k)
counted_more true k = omega arith
counted_more false k = omega arith

module _ {C S : Type 0} (s : Settings C S) where
  -- what a happening does to the link of p
  abbrev pub touch_by : C → Happening C S → Touch
  touch_by p e = record {
    closes = closes_by s p e;
    greets = greets_by s p e;
    heard = heard_by s p e;
    owed = owed_by s p e;
    tried = tried_by s p e;
    looked = looks_by s p e;
    written = writes_by s p e;
    said = says_on s p e;
    reaches = reached_by s p e;
  }

  way_step : (began : Direction) (e : Happening C S) (reaches : Option Duration) (found : Option (Duration × List (Happening C S))) →
      way_of s began (is_some (found_with reaches e found)) ≡ way_after reaches (way_of s began (is_some found))
  way_step began e (Some t) None = refl
  way_step began e (Some t) (Some found) = sym (proved_once began)
  way_step began e None None = refl
  way_step began e None (Some found) = refl

  proved_step : (t : Duration) (e : Happening C S) (reaches : Option Duration) (found : Option (Duration × List (Happening C S))) →
      proved_at s t (found_with reaches e found) ≡ since_after reaches (proved_at s t found)
  proved_step t e (Some now) found = refl
  proved_step t e None None = refl
  proved_step t e None (Some found) = refl

  looks_step : (e : Happening C S) (looked : Option (Option LookedView)) (found : Option (Option LookedView × List (Happening C S))) →
      last_looked s (found_with looked e found) ≡ last_looked_after looked (last_looked s found)
  looks_step e (Some looked) found = refl
  looks_step e None None = refl
  looks_step e None (Some found) = refl

  last_step : (t : Duration) (e : Happening C S) (heard : Option (Duration × Option Waiting))
      (found : Option ((Duration × Option Waiting) × List (Happening C S))) →
      last_heard s t (found_with heard e found) ≡ last_after heard (last_heard s t found)
  last_step t e (Some heard) found = refl
  last_step t e None None = refl
  last_step t e None (Some found) = refl

  owed_step : (e : Happening C S) (owed : Option ℕ) (found : Option (ℕ × List (Happening C S))) →
      unwrap_or (option_map (λ x. x.0) (found_with owed e found)) 0 ≡ owed_now owed (unwrap_or (option_map (λ x. x.0) found) 0)
  owed_step e (Some owed) found = refl
  owed_step e None None = refl
  owed_step e None (Some found) = refl

  at_step : (t : Duration) (e : Happening C S) (found : Option ((Duration × Option Question) × List (Happening C S))) →
      last_tried s t (found_with None e found) ≡ last_tried s t found
  at_step t e None = refl
  at_step t e (Some found) = refl

  index_step : (e : Happening C S) (index : Option ℕ) (found : Option (ℕ × List (Happening C S))) →
      option_map (λ x. x.0) (found_with index e found) ≡ first_of index (option_map (λ x. x.0) found)
  index_step e (Some index) found = refl
  index_step e None None = refl
  index_step e None (Some found) = refl

  asked_step : (p : C) (t : Duration) (e : Happening C S) (since : List (Happening C S)) →
      asked_in s p t (e ∷ since) ≡ tried_after (tried_by s p e) (asked_in s p t since)
  asked_step p t e since = ap (asked_at (last_tried s t (last_with (tried_by s p) (e ∷ since)))
      (option_map (λ found. found.0) (last_with (index_by s p) (e ∷ since))))
      (ap counted (sum_by-cons (λ x. cond (newest_by s p x) 1 0) e since)) ∙ go (tried_by s p e)
    where
      go : (tried : Option (Duration × Option Question)) →
          asked_at (last_tried s t (found_with tried e (last_with (tried_by s p) since)))
          (option_map (λ found. found.0) (found_with (index_tried tried) e (last_with (index_by s p) since)))
          (counted (cond (newest_tried tried) 1 0 + count_by (newest_by s p) since))
          ≡ tried_after tried (asked_in s p t since)
      go None = ap (λ i. asked_at (last_tried s t (found_with None e (last_with (tried_by s p) since))) i (counted (0 + count_by (newest_by s p) since)))
          (index_step e None (last_with (index_by s p) since))
          ∙ ap (asked_at (last_tried s t (found_with None e (last_with (tried_by s p) since))) (option_map (λ x. x.0) (last_with (index_by s p) since)))
          (counted_more false (count_by (newest_by s p) since))
          ∙ ap (λ a. asked_at a (option_map (λ x. x.0) (last_with (index_by s p) since)) (counted (count_by (newest_by s p) since)))
          (at_step t e (last_with (tried_by s p) since))
      go (Some (now, None)) = ap (λ i. asked_at now i (counted (0 + count_by (newest_by s p) since))) (index_step e None (last_with (index_by s p) since))
          ∙ ap (asked_at now (option_map (λ x. x.0) (last_with (index_by s p) since))) (counted_more false (count_by (newest_by s p) since))
      go (Some (now, Some q)) = ap (λ i. asked_at now i (counted (cond q.newest 1 0 + count_by (newest_by s p) since)))
          (index_step e q.index (last_with (index_by s p) since))
          ∙ ap (asked_at now (first_of q.index (option_map (λ x. x.0) (last_with (index_by s p) since))))
          (counted_more q.newest (count_by (newest_by s p) since))

  kept_later : (p : C) (e : Happening C S) (n : ℕ) (began : Direction) (t : Duration) (since : List (Happening C S)) →
      kept_of s p n began t (e ∷ since) ≡ touched (touch_by p e) (kept_of s p n began t since)
  kept_later p e n began t since =
      let ph : Phase = phase_of (list_any (closes_by s p) since) (list_any (greets_by s p) since) in
      let last : Duration × Option Waiting = last_heard s t (last_with (heard_by s p) since) in
      let owed : ℕ = unwrap_or (option_map (λ x. x.0) (last_with (owed_by s p) since)) 0 in
      let seen : Option LookedView = last_looked s (last_with (looks_by s p) since) in
      let way : Direction = way_of s began (is_some (last_with (reached_by s p) since)) in
      let at : Duration = proved_at s t (last_with (reached_by s p) since) in
      (λ i. kept_with n
      (way_step began e (reached_by s p e) (last_with (reached_by s p) since) i)
      (proved_step t e (reached_by s p e) (last_with (reached_by s p) since) i)
      (phase_step (closes_by s p e) (list_any (closes_by s p) since) (greets_by s p e) (list_any (greets_by s p) since) i)
      (last_step t e (heard_by s p e) (last_with (heard_by s p) since) i)
      (owed_step e (owed_by s p e) (last_with (owed_by s p) since) i)
      (asked_step p t e since i)
      (looks_step e (looks_by s p e) (last_with (looks_by s p) since) i)
      (unwritten_in s p (first_said s began t) (e ∷ since)))
      ∙ kept_step n way at (closes_by s p e) (greets_by s p e) (heard_by s p e) (owed_by s p e) (tried_by s p e) (looks_by s p e) ph last owed
      (asked_in s p t since) seen (writes_by s p e) (says_on s p e) (reached_by s p e) (unwritten_in s p (first_said s began t) since)

  later : (p : C) (e : Happening C S) (found : Option ((ℕ × Direction × Duration) × List (Happening C S))) →
      link_since s p (found_with None e found) ≡ link_after (ends_by s p e) (touch_by p e) (link_since s p found)
  later p e None = refl
  later p e (Some found) = go (ends_by s p e) (list_any (ends_by s p) found.1) (kept_later p e found.0.0 found.0.1 found.0.2 found.1)
    where
      go : (ends ended : Bool) → kept_of s p found.0.0 found.0.1 found.0.2 (e ∷ found.1) ≡ touched (touch_by p e) (kept_of s p found.0.0 found.0.1 found.0.2 found.1) →
          (if ends || ended then None else Some (kept_of s p found.0.0 found.0.1 found.0.2 (e ∷ found.1)))
          ≡ link_after ends (touch_by p e) (if ended then None else Some (kept_of s p found.0.0 found.0.1 found.0.2 found.1))
      go true true is = refl
      go true false is = refl
      go false true is = refl
      go false false is = ap (λ (held : Held). Some held) is

  -- one more happening by which no link of p began
  pub link_later : (p : C) (e : Happening C S) (h : List (Happening C S)) → opened_by s p e ≡ None →
      link_at s p (e ∷ h) ≡ link_after (ends_by s p e) (touch_by p e) (link_at s p h)
  link_later p e h none = ap (λ o. link_since s p (found_with o e (last_with (opened_by s p) h))) none
      ∙ later p e (last_with (opened_by s p) h)

  -- one that has nothing to do with it
  pub link_stays : (p : C) (e : Happening C S) (h : List (Happening C S)) → opened_by s p e ≡ None →
      ends_by s p e ≡ false → touch_by p e ≡ untouched → link_at s p (e ∷ h) ≡ link_at s p h
  link_stays p e h opened ends touch = link_later p e h opened
      ∙ ap (λ b. link_after b (touch_by p e) (link_at s p h)) ends
      ∙ ap (λ x. link_after false x (link_at s p h)) touch
      ∙ unchanged_link (link_at s p h)

  -- one by which a link of q began
  pub link_opens : (p q : C) (n : ℕ) (t draw : Duration) (h : List (Happening C S)) →
      link_at s p (Happening.Proved n q t draw ∷ h) ≡ (if same s q p then Some (link_with n t) else link_at s p h)
  link_opens p q n t draw h = go (same s q p)
    where
      go : (b : Bool) → link_since s p (found_with (if b then Some (n, way.Inbound, t) else None)
          (Happening.Proved n q t draw) (last_with (opened_by s p) h))
          ≡ (if b then Some (link_with n t) else link_at s p h)
      go true = refl
      go false = later p (Happening.Proved n q t draw) (last_with (opened_by s p) h)
          ∙ unchanged_link (link_at s p h)

  -- .. by which a stream of q took over a grant
  pub link_adopts : (p q : C) (n : ℕ) (t : Duration) (outbound : Bool) (h : List (Happening C S)) →
      link_at s p (Happening.Adopted n q t outbound ∷ h) ≡ (if same s q p then Some (link_as (taken_way outbound) n t) else link_at s p h)
  link_adopts p q n t outbound h = go (same s q p) outbound
    where
      go : (b out : Bool) → link_since s p (found_with (if b then Some (n, taken_way out, t) else None)
          (Happening.Adopted n q t outbound) (last_with (opened_by s p) h))
          ≡ (if b then Some (link_as (taken_way out) n t) else link_at s p h)
      go true true = refl
      go true false = refl
      go false out = later p (Happening.Adopted n q t outbound) (last_with (opened_by s p) h)
          ∙ unchanged_link (link_at s p h)

  -- .. a dial of q did
  pub link_dials : (p q : C) (n : ℕ) (t draw : Duration) (word : ℕ) (ingress : Ingress) (h : List (Happening C S)) →
      link_at s p (Happening.Dialed n q t draw word ingress ∷ h) ≡ (if same s q p then Some (dial_with n t) else link_at s p h)
  link_dials p q n t draw word ingress h = go (same s q p)
    where
      go : (b : Bool) → link_since s p (found_with (if b then Some (n, way.Dialing, t) else None)
          (Happening.Dialed n q t draw word ingress) (last_with (opened_by s p) h))
          ≡ (if b then Some (dial_with n t) else link_at s p h)
      go true = refl
      go false = later p (Happening.Dialed n q t draw word ingress) (last_with (opened_by s p) h)
          ∙ unchanged_link (link_at s p h)

  -- one by which the stream of a dial of q was proved
  pub link_reaches : (p q : C) (n : ℕ) (t : Duration) (h : List (Happening C S)) →
      link_at s p (Happening.Reached n q t ∷ h)
      ≡ (if same s q p then option_map (λ x. saying (Some t) (reached t x)) (link_at s p h) else link_at s p h)
  link_reaches p q n t h = link_later p (Happening.Reached n q t) h refl
      ∙ reached_link (same s q p) t (link_at s p h)

  -- one by which the peer q of a link was heard
  pub link_hears : (p q : C) (n : ℕ) (t : Duration) (owed : ℕ) (cause : Cause) (outcome : Outcome C S)
      (h : List (Happening C S)) → link_at s p (Happening.Heard n q t owed cause outcome ∷ h)
      ≡ (if same s q p then option_map (heard_as t owed outcome) (link_at s p h) else link_at s p h)
  link_hears p q n t owed cause outcome h = link_later p (Happening.Heard n q t owed cause outcome) h refl
      ∙ outcome_link (same s q p) t owed outcome (link_at s p h)

  -- one by which a question was due for q
  pub link_asks : (p q : C) (n : ℕ) (t : Duration) (owed : ℕ) (fits : Bool) (question : Option Question) (h : List (Happening C S)) →
      link_at s p (Happening.Asked n q t owed fits question ∷ h)
      ≡ (if same s q p then option_map (λ x. saying (said_with t question) (asking owed (asked_after t question x.asked) x)) (link_at s p h) else link_at s p h)
  link_asks p q n t owed fits question h = link_later p (Happening.Asked n q t owed fits question) h refl
      ∙ asked_link (same s q p) t owed question (link_at s p h)

  -- one by which a frame was written
  pub link_writes : (p q : C) (n : ℕ) (t : Duration) (h : List (Happening C S)) →
      link_at s p (Happening.Written n q t ∷ h) ≡ (if same s q p then option_map writing (link_at s p h) else link_at s p h)
  link_writes p q n t h = link_later p (Happening.Written n q t) h refl ∙ written_link (same s q p) (link_at s p h)

  -- .. or one was said
  pub link_speaks : (p q : C) (n : ℕ) (t : Duration) (place : ℕ) (h : List (Happening C S)) →
      link_at s p (Happening.Spoken n q t place ∷ h) ≡ (if same s q p then option_map (saying (Some t)) (link_at s p h) else link_at s p h)
  link_speaks p q n t place h = link_later p (Happening.Spoken n q t place) h refl ∙ spoken_link (same s q p) t (link_at s p h)

-- WHAT WAS SAID

-- more was said, and nothing taken
pub said_more : {A : Type 0} (taken actions said says : List A) → taken ++ actions ≡ said →
    (taken ++ []) ++ (actions ++ says) ≡ said ++ says
said_more taken actions said says at = ap (λ xs. xs ++ (actions ++ says)) (append-nil taken)
    ∙ sym (append_assoc taken actions says) ∙ ap (λ xs. xs ++ says) at

-- one was taken
pub took_one : {A : Type 0} (taken actions said : List A) (a : A) → taken ++ (a ∷ actions) ≡ said →
    (taken ++ (a ∷ [])) ++ actions ≡ said ++ []
took_one taken actions said a at = append_assoc taken (a ∷ []) actions ∙ at ∙ sym (append-nil said)
