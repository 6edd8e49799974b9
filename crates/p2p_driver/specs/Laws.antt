-- Words of the laws of drivers.
use Rattle.std.specs.Prelude.{ℕ, ◌≡◌, ◌&&◌, Bool, true, false, List, [], ◌∷◌, ◌++◌}
use Rattle.std.specs.Prelude.{Option, Some, None, if◌then◌else◌, is_some}
use Rattle.std.specs.List.{Contains, list_any, count_by}
use Rattle.std.specs.Duration.{as_nanos}
use Rattle.std.specs.Option.{option_to_list}
use Rattle.std.specs.declared.time.Duration.{Duration}
use Rattle.p2p_tracker.specs.Calls.{Settings}
use Rattle.p2p_tracker.specs.History.{same, last_with}
use Rattle.p2p_driver.specs.Frames.{Cause, Outcome, begins_with}
use Rattle.p2p_driver.specs.Frames.Cause.{OfHead}
use Rattle.p2p_driver.specs.Happenings.{Happening, opened_by, greets_by, says_on, writes_by}
use Rattle.p2p_driver.specs.declared.actions.Action.{Action}
use Rattle.p2p_driver.specs.declared.actions.Action.TheVariants as action
use Rattle.p2p_driver.specs.declared.actions.Why.{Why}
use Rattle.p2p_driver.specs.declared.actions.Why.TheVariants as why
use Rattle.p2p_driver.specs.declared.links.Direction.{Direction}
use Rattle.p2p_driver.specs.declared.links.Direction.TheVariants as way
use Rattle.p2p_driver.specs.declared.links.Held.{Held}
use Rattle.p2p_driver.specs.declared.questions.Question.{Question}

-- a list begins with these, and goes on
abbrev pub Begins : {A : Type 0} → List A → List A → Type 0
Begins {A} first all = (later : List A) × (first ++ later ≡ all)

-- the close of the stream with the number
abbrev pub closes : {C : Type 0} → ℕ → Why → Action C
closes n why = action.Close (record { 0 = n }) why

-- an outcome that is for a peer that has greeted: its infos are taken, its question is answered, or
-- its message is delivered
abbrev pub is_served : {C S : Type 0} → Outcome C S → Bool
is_served (Outcome.Takes infos) = true
is_served (Outcome.Answers reply) = true
is_served (Outcome.Delivers message) = true
is_served outcome = false

-- an outcome but for what may lack memory, or room: the question, and whether the peer is blocked
abbrev pub bare : {C S : Type 0} → Outcome C S → Outcome C S
bare (Outcome.Greets dialer info question) = Outcome.Greets dialer info None
bare (Outcome.Breaks breach blocked) = Outcome.Breaks breach None
bare outcome = outcome

-- the first bytes of a frame are there, and its length
abbrev pub is_head : Cause → Bool
is_head (OfHead longest head size) = true
is_head cause = false

-- a set is asked for, if a question is
abbrev pub is_for_set : Option Question → Bool
is_for_set None = false
is_for_set (Some question) = is_some question.index

-- by this outcome the peer is asked for a set
abbrev pub is_asked : {C S : Type 0} → Outcome C S → Bool
is_asked (Outcome.Greets dialer info question) = is_for_set question
is_asked outcome = false

-- by this one a list of infos is admitted: it waits until it is told which signatures are right
abbrev pub is_list : {C S : Type 0} → Outcome C S → Bool
is_list (Outcome.Waits waiting) = begins_with 3 waiting.frame
is_list outcome = false

-- by it a set came that was accepted
abbrev pub is_set : {C S : Type 0} → Happening C S → Bool
is_set (Happening.SetCame t index primary secondary torn) = true
is_set e = false

-- p is blocked by it at a moment: the application asks for that, or p broke a rule
abbrev pub Blames : {C S : Type 0} → C → ℕ → Happening C S → Type 0
Blames p now (Happening.Heard n q t owed cause (Outcome.Breaks breach (Some taken))) =
    (q ≡ p) × (as_nanos t ≡ now)
Blames p now (Happening.Barred q t taken) = (q ≡ p) × (as_nanos t ≡ now)
Blames p now e = ⊥

-- what was said on a link as it began, by how it came about, and when: the own greeting at once, on
-- that of a stream that came in
abbrev pub first_of : Direction → Duration → List Duration
first_of way.Inbound since = since ∷ []
first_of way.Dialing since = []
first_of way.Outbound since = []
first_of way.TakenOver since = since ∷ []

abbrev pub first_on : Held → List Duration
first_on held = first_of held.direction held.since

-- what was done since something was found
abbrev pub since_of : {A E : Type 0} → Option (A × List E) → List E
since_of None = []
since_of (Some found) = found.1

module _ {C S : Type 0} (s : Settings C S) where
  -- what was done since the last link of p began
  abbrev pub since_began : C → List (Happening C S) → List (Happening C S)
  since_began p h = since_of (last_with (opened_by s p) h)

  -- by it p greeted, with an info of its own key
  abbrev pub IsGreetingOf : C → Happening C S → Type 0
  IsGreetingOf p (Happening.Heard n q t owed cause (Outcome.Greets dialer info question)) =
      (same s q p ≡ true) × (same s p info.public_key ≡ true)
  IsGreetingOf p e = ⊥

  -- .. on its last link
  abbrev pub HasGreeted : C → List (Happening C S) → Type 0
  HasGreeted p h = (e : Happening C S) × Contains (since_began p h) e × IsGreetingOf p e

  -- .. or it hasn't, or there was none
  abbrev pub has_greeted : C → List (Happening C S) → Bool
  has_greeted p h = list_any (greets_by s p) (since_began p h)

  -- why the link of p is closed by what p or the application does, or since the stream of a dial is
  -- another's, if it is
  abbrev pub cut_by : C → Happening C S → Option Why
  cut_by p (Happening.Heard n q t owed cause (Outcome.Breaks breach blocked)) =
      if same s q p then Some (why.Breach breach) else None
  cut_by p (Happening.Heard n q t owed cause Outcome.IsEarly) =
      if same s q p then Some why.Future else None
  cut_by p (Happening.Heard n q t owed cause Outcome.LacksChannel) =
      if same s q p then Some why.NoChannel else None
  cut_by p (Happening.Mistaken n q t) = if same s q p then Some why.WrongKey else None
  cut_by p (Happening.Barred q t taken) = if same s q p then Some why.Blocked else None
  cut_by p (Happening.Parted q t) = if same s q p then Some why.Application else None
  cut_by p e = None

  -- by it p is asked for a set
  abbrev pub asks_by : C → Happening C S → Bool
  asks_by p (Happening.Heard n q t owed cause outcome) = same s q p && is_asked outcome
  asks_by p (Happening.Asked n q t owed fits question) = same s q p && is_for_set question
  asks_by p e = false

  -- by it a list of p is admitted
  abbrev pub lists_by : C → Happening C S → Bool
  lists_by p (Happening.Heard n q t owed cause outcome) = same s q p && is_list outcome
  lists_by p e = false

  -- how often p was asked on its last link, and how many lists of it were admitted there
  abbrev pub asked_on : C → List (Happening C S) → ℕ
  asked_on p h = count_by (asks_by p) (since_began p h)

  abbrev pub lists_on : C → List (Happening C S) → ℕ
  lists_on p h = count_by (lists_by p) (since_began p h)

  -- when frames were said on the link of p by these happenings, the oldest first
  abbrev pub said_in : C → List (Happening C S) → List Duration
  said_in p [] = []
  said_in p (e ∷ h) = said_in p h ++ option_to_list (says_on s p e)

  -- .. on its last link, after what was said as it began, and how many frames were written there
  abbrev pub said_since : C → List (Happening C S) → List Duration
  said_since p h = said_in p (since_began p h)

  abbrev pub written_since : C → List (Happening C S) → ℕ
  written_since p h = count_by (writes_by s p) (since_began p h)
