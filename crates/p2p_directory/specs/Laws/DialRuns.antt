-- What a reply to `dialable` says of the replies after it: commands and replies are in order, the
-- oldest first.
use Rattle.std.specs.Prelude.{◌≡◌, ℕ, ◌≤◌, true, not, List, ◌∷◌, filter, Option}
use Rattle.std.specs.Option.{option_map}
use Rattle.std.specs.Duration.{as_nanos}
use Rattle.p2p_tracker.specs.Calls.{Settings, Question, Call}
use Rattle.p2p_tracker.specs.Calls.Question.{DialableAt}
use Rattle.p2p_tracker.specs.Calls.Call.{Dial, Ask}
use Rattle.p2p_tracker.specs.History.{same, is_in}
use Rattle.p2p_directory.specs.declared.run.commands.Reply.{Reply}
use Rattle.p2p_directory.specs.declared.run.commands.Reply.TheVariants as reply
use Rattle.p2p_tracker.specs.declared.record.dialing.Dialable.{Dialable}
use Rattle.p2p_tracker.specs.Dials.{IsBefore}

-- a dial was granted, or memory was refused
abbrev pub IsGrantedOrOutOfMemory : {C S : Type 0} → Reply C S → Type 0
IsGrantedOrOutOfMemory (reply.Dial true) = Unit {0}
IsGrantedOrOutOfMemory reply.OutOfMemory = Unit {0}
IsGrantedOrOutOfMemory _ = ⊥

-- the moment of the next query, in nanoseconds
abbrev pub next_query : {C S : Type 0} → Dialable C S → Option ℕ
next_query answer = option_map as_nanos answer.next_query_at

module _ {C S : Type 0} (s : Settings C S) where
  -- the keys other than q
  abbrev pub without : C → List C → List C
  without q ps = filter (λ p. not (same s q p)) ps

  -- as long as the commands are dials at t of these peers, each once and in any order, each is
  -- granted, want of memory aside
  abbrev pub AreGrantedAt : ℕ → List C → List (Call C S) → List (Reply C S) → Type 0
  AreGrantedAt t ps (Dial q u draw ∷ cs) (r ∷ rs) =
      u ≡ t → is_in s q ps ≡ true →
      IsGrantedOrOutOfMemory r × AreGrantedAt t (without q ps) cs rs
  AreGrantedAt t ps _ _ = Unit {0}

  -- `dialable`, asked again at t or later and before the next query, is replied the same list and
  -- next query
  abbrev pub IsRepeated : ℕ → List C → Option ℕ → Question C → Reply C S → Type 0
  IsRepeated t ps next question r = (u : ℕ) (answer : Dialable C S) →
      question ≡ DialableAt u → r ≡ reply.Dialable answer →
      t ≤ u → IsBefore u next → (answer.peers.items ≡ ps) × (next_query answer ≡ next)

  -- .. as long as the commands are questions, which change nothing
  abbrev pub IsQuiet : ℕ → List C → Option ℕ → List (Call C S) → List (Reply C S) → Type 0
  IsQuiet t ps next (Ask question ∷ cs) (r ∷ rs) =
      IsRepeated t ps next question r × IsQuiet t ps next cs rs
  IsQuiet t ps next _ _ = Unit {0}

  -- if the command is `dialable`, and was answered: the peers that it lists are granted directly
  -- after it, and the answer is quiet until its next query
  abbrev pub IsDialableKept : Call C S → Reply C S → List (Call C S) → List (Reply C S) → Type 0
  IsDialableKept c r cs rs = (t : ℕ) (answer : Dialable C S) →
      c ≡ Ask (DialableAt t) → r ≡ reply.Dialable answer →
      AreGrantedAt t answer.peers.items cs rs
      × IsQuiet t answer.peers.items (next_query answer) cs rs

  -- .. so for each command of a run and its reply, with those after them
  abbrev pub KeepDialable : List (Call C S) → List (Reply C S) → Type 0
  KeepDialable (c ∷ cs) (r ∷ rs) = IsDialableKept c r cs rs × KeepDialable cs rs
  KeepDialable _ _ = Unit {0}
