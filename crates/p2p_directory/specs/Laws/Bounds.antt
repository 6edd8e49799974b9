-- How many peers a directory holds.
use Rattle.std.specs.Prelude.{ℕ, ◌+◌, ◌*◌, ◌≤◌, Bool, not, ◌&&◌, ◌||◌, List, length}
use Rattle.p2p_tracker.specs.Calls.{Settings, SetAt}
use Rattle.p2p_tracker.specs.History.{is_in, is_named, is_persistent}
use Rattle.p2p_tracker.specs.Status.{is_inert}
use Rattle.p2p_tracker.specs.World.{World}
use Rattle.p2p_tracker.specs.Answers.{is_present_in}
use Rattle.p2p_tracker.specs.Lists.{Lists}

module _ {C S : Type 0} (s : Settings C S) where
  -- the set names p, in either role
  abbrev pub names_in : SetAt C → C → Bool
  names_in x p = is_in s p x.primary || is_in s p x.secondary

  -- the set names at most n distinct peers
  pub record NamesAtMost (n : ℕ) (x : SetAt C) : Type 0 where
    pub peers : List C
    pub all : Lists s.cmp (names_in x) peers
    pub few : length peers ≤ n

  -- p isn't inert, and no retained set names it
  abbrev pub is_left_over : World C S → C → Bool
  is_left_over w p = not (is_inert (w.peer p).status) && not (is_named s p w.sets)

  -- the present keys are at most n for each set that may be retained, the persistent keys, and
  -- those that are left over
  abbrev pub IsBounded : ℕ → World C S → Type 0
  IsBounded n w =
      (present persistent left_over : List C) → Lists s.cmp (is_present_in s w) present →
      Lists s.cmp (is_persistent s) persistent → Lists s.cmp (is_left_over w) left_over →
      length present ≤ n * s.max_sets + length persistent + length left_over

  -- there are lists of the present keys, of the persistent ones, and of those that are left over
  pub record AreListed (w : World C S) : Type 0 where
    pub present : (ps : List C) × Lists s.cmp (is_present_in s w) ps
    pub persistent : (ps : List C) × Lists s.cmp (is_persistent s) ps
    pub left_over : (ps : List C) × Lists s.cmp (is_left_over w) ps

  -- .. and of the peers that a set names
  abbrev pub IsNamingListed : SetAt C → Type 0
  IsNamingListed x = (ps : List C) × Lists s.cmp (names_in x) ps
