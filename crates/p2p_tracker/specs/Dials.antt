-- Dials of the peers that an answer of `dialable` names, and how long that answer stays.
use Rattle.std.specs.Prelude.{◌≡◌, ℕ, ◌<◌, true, false, List, [], ◌∷◌, Option, Some, None}
use Rattle.p2p_discovery.specs.declared.types.ingress.Ingress.{Ingress}
use Rattle.p2p_tracker.specs.Calls.{Settings, Call, Event}
use Rattle.p2p_tracker.specs.Calls.Call.{Dial}
use Rattle.p2p_tracker.specs.Calls.Direction.{Dialer}
use Rattle.p2p_tracker.specs.Calls.Event.{Granted}
use Rattle.p2p_tracker.specs.History.{same, is_in, taken_sets}
use Rattle.p2p_tracker.specs.World.{world_at, past, event_in}

module _ {C S : Type 0} (s : Settings C S) where
  -- p is none of these
  abbrev pub IsApart : C → List (C × ℕ) → Type 0
  IsApart p [] = Unit {0}
  IsApart p (x ∷ xs) = (same s p x.0 ≡ false) × IsApart p xs

  -- peers with a draw each, in any order: each is one of ps, and none stands twice
  abbrev pub AreChosen : List C → List (C × ℕ) → Type 0
  AreChosen ps [] = Unit {0}
  AreChosen ps (x ∷ xs) = (is_in s x.0 ps ≡ true) × IsApart x.0 xs × AreChosen ps xs

  -- the event grants p, at t with this draw, for a dial
  abbrev pub IsDialled : C → ℕ → ℕ → Event C S → Type 0
  IsDialled p t draw e =
      (a : Ingress) × (e ≡ Granted p (record { t = t; draw = draw; direction = Dialer a }))

  -- what a further call does after the calls cs
  abbrev pub does_after : List (Call C S) → Call C S → Event C S
  does_after cs c = event_in s (taken_sets s (past s cs)) (world_at s (past s cs)) c

  -- after the calls cs, dials at t of these, one after the other, each with its draw, are granted,
  -- each at its own point
  abbrev pub AreDialled : ℕ → List (C × ℕ) → List (Call C S) → Type 0
  AreDialled t [] cs = Unit {0}
  AreDialled t (x ∷ xs) cs =
      IsDialled x.0 t x.1 (does_after cs (Dial x.0 t x.1)) × AreDialled t xs (Dial x.0 t x.1 ∷ cs)

-- u is before the next query, if there is one
abbrev pub IsBefore : ℕ → Option ℕ → Type 0
IsBefore u None = Unit {0}
IsBefore u (Some m) = u < m
