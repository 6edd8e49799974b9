-- The questions that a peer is asked on its link. Frames are bytes, moments nanoseconds.
use Rattle.std.specs.Prelude.{ℕ, ◌≡◌, ◌==◌, ◌+◌, ◌-◌, ◌^◌, ◌%◌, ◌&&◌, min, nat_lt}
use Rattle.std.specs.Prelude.{Bool, true, false, List, [], find, slice_get}
use Rattle.std.specs.Prelude.{Option, Some, None, is_some}
use Rattle.std.specs.Prelude.{if◌then◌else◌}
use Rattle.std.specs.declared.cmp.Ordering.{Ordering}
use Rattle.std.specs.declared.time.Duration.{Duration}
use Rattle.p2p_discovery.specs.declared.discovery.Payload.TheVariants as payload
use Rattle.p2p_discovery.specs.Judgement.{first_of}
use Rattle.p2p_tracker.specs.Calls.{SetAt}
use Rattle.p2p_tracker.specs.PeerSets.{latest_index, is_above}
use Rattle.p2p_tracker.specs.World.{World}
use Rattle.p2p_directory.specs.Nodes.{NodeView, Made, AtEach, standing_in}
use Rattle.p2p_directory.specs.Received.{Wire, ask_frame_at, frame_of_bits}
use Rattle.p2p_directory.specs.Run.{world_after, full_bit_vec_in}
use Rattle.p2p_driver.specs.declared.links.Asked.{Asked}
use Rattle.p2p_driver.specs.declared.questions.Question.{Question}

-- WHICH SET is asked for

-- the first of the sets, in order of index, above the one that was asked for last, or else the
-- first of all
abbrev pub next_set : {C : Type 0} → Option ℕ → List (SetAt C) → Option (SetAt C)
next_set last sets = first_of (find (λ x. is_above x.index last) sets) (slice_get sets 0)

-- there is an index, and it is above the last one, if there is one
abbrev pub is_some_above : Option ℕ → Option ℕ → Bool
is_some_above last None = false
is_some_above last (Some index) = is_above index last

-- there is an index, and it is this one
abbrev pub is_index : ℕ → Option ℕ → Bool
is_index index None = false
is_index index (Some other) = other == index

-- the index is that of the newest set
abbrev pub is_newest : {C : Type 0} → List (SetAt C) → ℕ → Bool
is_newest sets index = is_index index (latest_index sets)

-- after so many rounds of the newest set, the next one is for all its infos: each refresh-th is,
-- but the first
abbrev pub is_full : ℕ → ℕ → Bool
is_full refresh rounds =
    nat_lt 0 refresh && (nat_lt 0 rounds && ((rounds + 1) % refresh == 0))

-- WHAT IS ASKED

-- the question if there is no set, with this frame
abbrev pub no_question : List ℕ → Question
no_question frame = record { index = None; newest = false; frame = frame }

module _ {C S : Type 0} (wire : Wire C S) (m : Made C S) (w : World C S) where
  -- the frame for the set at a place: for all its infos, or for those that are wanted
  abbrev pub frame_for : Bool → ℕ → Option (List ℕ)
  frame_for true place = frame_of_bits wire (full_bit_vec_in m.directory w place)
  frame_for false place = ask_frame_at wire (standing_in m wire w) place

  -- the question for a set, or if there is none, the empty list, so that silence means something
  abbrev pub IsQuestionFor : ℕ → ℕ → Question → Option (SetAt C) → Type 0
  IsQuestionFor refresh rounds q None = q ≡ no_question (wire.spelling (payload.Peers []))
  IsQuestionFor refresh rounds q (Some x) =
      (q.index ≡ Some x.index) × (q.newest ≡ is_newest w.sets x.index)
      × ((place : ℕ) × (slice_get w.sets place ≡ Some x)
      × (Some q.frame ≡ frame_for (q.newest && is_full refresh rounds) place))

  -- the question of a link that is due next, by what is kept of those before
  abbrev pub IsQuestion : ℕ → Asked → Question → Type 0
  IsQuestion refresh asked q =
      IsQuestionFor refresh asked.rounds q (next_set asked.index w.sets)

-- .. of a node, wherever it stood
abbrev pub IsNextQuestion : {C S : Type 0} → (C → C → Ordering) → Wire C S → ℕ → Asked →
    Question → NodeView C S → Type 0
IsNextQuestion cmp wire refresh asked q v = AtEach cmp v (λ m calls.
    IsQuestion wire m (world_after m.directory calls) refresh asked q)

-- WHAT IS KEPT

-- how many questions are owed once one was due, of so many before and at most so many: one more, if
-- a set is asked for
abbrev pub owed_with : Option Question → ℕ → ℕ → ℕ
owed_with None most owed = owed
owed_with (Some q) most owed = if is_some q.index then min (owed + 1) most else owed

-- a number of rounds, as far as it is counted
abbrev pub counted : ℕ → ℕ
counted rounds = min rounds (2 ^ 64 - 1)

-- what is kept of questions once one was due at t, and asked if room and memory were there
abbrev pub asked_after : Duration → Option Question → Asked → Asked
asked_after t None a = record a { at = t }
asked_after t (Some q) a = record {
  at = t;
  index = first_of q.index a.index;
  rounds = if q.newest then counted (a.rounds + 1) else a.rounds;
}
