-- When an info of a peer is asked for anew, by the replies to a run: its commands and replies are
-- in order, the oldest first.
use Rattle.std.specs.Prelude.{ℕ, ◌≡◌, ◌+◌, ◌≤◌, Bool, false, ◌||◌, if◌then◌else◌, true}
use Rattle.std.specs.Prelude.{List, [], ◌∷◌, zip, Some}
use Rattle.std.specs.List.{list_any, AllByRecursion}
use Rattle.p2p_discovery.specs.declared.discovery.BitVec.{BitVec}
use Rattle.p2p_tracker.specs.Calls.{Settings, SetAt, Call, Event}
use Rattle.p2p_tracker.specs.Calls.Question.{BitsAt}
use Rattle.p2p_tracker.specs.Calls.Call.{Ask}
use Rattle.p2p_tracker.specs.History.{same, is_own, is_newer, infos_by, connects_as_dialer}
use Rattle.p2p_tracker.specs.History.{failures_of}
use Rattle.p2p_tracker.specs.Status.{is_active}
use Rattle.p2p_tracker.specs.World.{World}
use Rattle.p2p_tracker.specs.Answers.{bits_of, set_at_place}
use Rattle.p2p_directory.specs.declared.run.commands.Reply.{Reply}
use Rattle.p2p_directory.specs.declared.run.commands.Reply.TheVariants as reply
use Rattle.p2p_directory.specs.Run.{world_after, event_of, was_made, next}

module _ {C S : Type 0} (s : Settings C S) where
  -- FAILURES

  -- an event brings an info of p that is newer than the one in the world, or p's first one
  abbrev pub brings_info : C → World C S → Event C S → Bool
  brings_info p w e = list_any (λ i. is_newer (w.peer p).known.info (Some i)) (infos_by s p e)

  -- with n failed dials before: those since p's info was brought and since the last connect of p as
  -- its dialer, with one more event
  abbrev pub failures_with : C → World C S → Event C S → ℕ → ℕ
  failures_with p w e n =
      if brings_info p w e || connects_as_dialer s p e then 0
      else failures_of s p (w.peer p).known.info (e ∷ []) + n

  -- .. with one more command and its reply
  abbrev pub failures_after : C → List (Call C S) → Call C S → Reply C S → ℕ → ℕ
  failures_after p before c r n =
      if was_made r then failures_with p (world_after s before) (event_of s before c) n else n

  -- BITS

  -- p's bit is 0, if p is one of the peers with these bits
  abbrev pub IsZeroAmong : C → List C → List Bool → Type 0
  IsZeroAmong p ps bits =
      AllByRecursion (λ bit. same s bit.0 p ≡ true → bit.1 ≡ false) (zip ps bits)

  -- .. of each retained set in a world
  abbrev pub IsZeroInEach : C → World C S → Type 0
  IsZeroInEach p w = AllByRecursion (λ x. IsZeroAmong p x.primary (bits_of s w x)) w.sets

  -- .. in a reply to `get_random_bit_vec`
  abbrev pub IsToldZero : C → World C S → Call C S → Reply C S → Type 0
  IsToldZero p w c r = (place : ℕ) (x : SetAt C) (told : BitVec) → c ≡ Ask (BitsAt place) →
      set_at_place s w place ≡ Some x → r ≡ reply.GetRandomBitVec (Some told) →
      IsZeroAmong p x.primary told.bits

  -- THE RUN

  -- p, another key than the own, has failed so often, and isn't active
  pub record IsDue (p : C) (n : ℕ) (w : World C S) : Type 0 where
    pub other : is_own s p ≡ false
    pub failed : s.dial_fail_limit ≤ n
    pub idle : is_active (w.peer p).status ≡ false

  -- with n failed dials before: at each point of a run where p is due its bits are 0, and told so
  abbrev pub KeepRepair : C → ℕ → List (Call C S) → List (Call C S) → List (Reply C S) → Type 0
  KeepRepair p n before (c ∷ cs) (r ∷ rs) =
      (IsDue p n (world_after s before) → IsZeroInEach p (world_after s before)
      × IsToldZero p (world_after s before) c r)
      × KeepRepair p (failures_after p before c r n) (next s before c r) cs rs
  KeepRepair p n before _ _ =
      IsDue p n (world_after s before) → IsZeroInEach p (world_after s before)
