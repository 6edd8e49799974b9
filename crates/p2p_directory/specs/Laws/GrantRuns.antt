-- When a peer is granted, by the replies to a run: its commands and replies are in order, the
-- oldest first.
use Rattle.std.specs.Prelude.{ℕ, ◌+◌, ◌≤◌, true, if◌then◌else◌, List, ◌∷◌, ◌++◌, Option, Some}
use Rattle.std.specs.Prelude.{None, Bool, false, nat_le, option_to_list}
use Rattle.p2p_tracker.specs.Moments.{cap, jitter}
use Rattle.p2p_tracker.specs.Calls.{Settings, Call}
use Rattle.p2p_tracker.specs.Calls.Call.{Dial, Listen, Block, ForgetCooled}
use Rattle.p2p_tracker.specs.History.{same}
use Rattle.p2p_directory.specs.declared.run.commands.Reply.{Reply}
use Rattle.p2p_directory.specs.declared.run.commands.Reply.TheVariants as reply
use Rattle.p2p_directory.specs.Laws.Grants.{moment_or, AreOver}

module _ {C S : Type 0} (s : Settings C S) where
  -- ONE COMMAND AND ITS REPLY

  -- the moment at which p was granted by it, and the draw
  abbrev pub granted_by : C → Call C S → Reply C S → Option (ℕ × ℕ)
  granted_by p (Dial q t draw) (reply.Dial true) = if same s q p then Some (t, draw) else None
  granted_by p (Listen q t draw) (reply.Listen true) = if same s q p then Some (t, draw) else None
  granted_by p _ _ = None

  -- it forgets a grant that was made at a moment with a draw
  abbrev pub forgets_by : ℕ × ℕ → Call C S → Bool
  forgets_by (t, draw) (ForgetCooled u) =
      nat_le (cap (cap (t + s.cooldown) + jitter draw s.cooldown)) u
  forgets_by grant _ = false

  -- the end of a block of p that was taken by it
  abbrev pub blocked_by : C → Call C S → Reply C S → Option ℕ
  blocked_by p (Block q t) (reply.Block true) =
      if same s q p then Some (cap (t + s.block_duration)) else None
  blocked_by p _ _ = None

  -- COOLDOWN

  -- a grant, if there is one, comes no earlier than the cooldown after the one before, if there is
  -- one
  abbrev pub IsGrantCooledAfter : Option (ℕ × ℕ) → Option (ℕ × ℕ) → Type 0
  IsGrantCooledAfter (Some grant) (Some before) = cap (before.0 + s.cooldown) ≤ grant.0
  IsGrantCooledAfter _ _ = Unit {0}

  -- the last grant of p, with one more command
  abbrev pub last_after : Option (ℕ × ℕ) → Option (ℕ × ℕ) → Option (ℕ × ℕ)
  last_after None last = last
  last_after (Some grant) last = Some grant

  -- .. unless it is forgotten
  abbrev pub kept_after : Call C S → Option (ℕ × ℕ) → Option (ℕ × ℕ) → Option (ℕ × ℕ)
  kept_after c (Some grant) kept = Some grant
  kept_after c None None = None
  kept_after c None (Some grant) = if forgets_by grant c then None else Some grant

  -- with p's last grant, unless it is forgotten: each grant of p keeps the cooldown after the one
  -- before it, if that isn't forgotten in between
  abbrev pub RunKeepsCooldownUnlessForgotten : C → Option (ℕ × ℕ) → List (Call C S) →
      List (Reply C S) → Type 0
  RunKeepsCooldownUnlessForgotten p kept (c ∷ cs) (r ∷ rs) =
      IsGrantCooledAfter (granted_by p c r) kept
      × RunKeepsCooldownUnlessForgotten p (kept_after c (granted_by p c r) kept) cs rs
  RunKeepsCooldownUnlessForgotten p kept _ _ = Unit {0}

  -- with p's last grant: as long as the moments of the commands that may grant, block, end a block
  -- or forget never go back, each grant of p keeps the cooldown after the one before it
  abbrev pub RunKeepsCooldown : C → ℕ → Option (ℕ × ℕ) → List (Call C S) → List (Reply C S) → Type 0
  RunKeepsCooldown p now last (c ∷ cs) (r ∷ rs) = (now ≤ moment_or s now c) →
      IsGrantCooledAfter (granted_by p c r) last
      × RunKeepsCooldown p (moment_or s now c) (last_after (granted_by p c r) last) cs rs
  RunKeepsCooldown p now last _ _ = Unit {0}

  -- BLOCKS

  -- a grant, if there is one, comes when these moments are over
  abbrev pub IsAfter : Option (ℕ × ℕ) → List ℕ → Type 0
  IsAfter None ms = Unit {0}
  IsAfter (Some grant) ms = AreOver s grant.0 ms

  -- with blocks of p until these moments: as long as the moments of the commands that may grant,
  -- block, end a block or forget never go back, each grant of p comes when every block of p that
  -- was taken before it is over
  abbrev pub RunKeepsBlocks : C → ℕ → List ℕ → List (Call C S) → List (Reply C S) → Type 0
  RunKeepsBlocks p now ms (c ∷ cs) (r ∷ rs) = (now ≤ moment_or s now c) →
      IsAfter (granted_by p c r) ms
      × RunKeepsBlocks p (moment_or s now c) (option_to_list (blocked_by p c r) ++ ms) cs rs
  RunKeepsBlocks p now ms _ _ = Unit {0}
