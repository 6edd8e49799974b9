-- When a blocked peer is granted, by the replies to a run, whatever the moments of its commands
-- are: its commands and replies are in order, the oldest first.
use Rattle.std.specs.Prelude.{ℕ, ◌+◌, ◌≤◌, true, nat_le, if◌then◌else◌, List, ◌∷◌, Option, Some}
use Rattle.std.specs.Prelude.{None}
use Rattle.std.specs.Option.{option_map}
use Rattle.p2p_tracker.specs.Moments.{cap}
use Rattle.p2p_tracker.specs.Calls.{Settings, Call, expires_until}
use Rattle.p2p_tracker.specs.Calls.Call.{Block}
use Rattle.p2p_tracker.specs.History.{same}
use Rattle.p2p_directory.specs.declared.run.commands.Reply.{Reply}
use Rattle.p2p_directory.specs.declared.run.commands.Reply.TheVariants as reply
use Rattle.p2p_directory.specs.Run.{was_made}
use Rattle.p2p_directory.specs.Laws.GrantRuns.{granted_by}

-- until when a call ends blocks, where it was made
abbrev pub expired_by : {C S : Type 0} → Call C S → Reply C S → Option ℕ
expired_by c r = if was_made r then expires_until c else None

-- the end of a block once those until a moment, if there is one, have ended
abbrev pub unless_expired : Option ℕ → Option ℕ → Option ℕ
unless_expired None end = end
unless_expired (Some t) None = None
unless_expired (Some t) (Some end) = if nat_le end t then None else Some end

-- a moment, if there is one, isn't before the end of a block, if there is one
abbrev pub IsNotBefore : Option ℕ → Option ℕ → Type 0
IsNotBefore (Some t) (Some end) = end ≤ t
IsNotBefore (Some t) None = Unit {0}
IsNotBefore None end = Unit {0}

module _ {C S : Type 0} (s : Settings C S) where
  -- the moment at which p was granted by a command, if it was
  abbrev pub moment_granted : C → Call C S → Reply C S → Option ℕ
  moment_granted p c r = option_map (λ grant. grant.0) (granted_by s p c r)

  -- the moment at which a block of p was taken by a command, if it was
  abbrev pub block_taken_by : C → Call C S → Reply C S → Option ℕ
  block_taken_by p (Block q t) (reply.Block true) = if same s q p then Some t else None
  block_taken_by p _ _ = None

  -- the end of p's last block that wasn't ended, after one more command and its reply
  abbrev pub block_left : C → Call C S → Reply C S → Option ℕ → Option ℕ
  block_left p c r end = elim (block_taken_by p c r) [
    | None ↦ unless_expired (expired_by c r) end
    | Some t ↦ Some (cap (t + s.block_duration))
  ]

  -- with p's last block that no command ended holding until this moment, if there is one: each
  -- grant and each further block of p comes when that block is over
  abbrev pub KeepLastBlock : C → Option ℕ → List (Call C S) → List (Reply C S) → Type 0
  KeepLastBlock p end (c ∷ cs) (r ∷ rs) =
      IsNotBefore (moment_granted p c r) end × IsNotBefore (block_taken_by p c r) end
      × KeepLastBlock p (block_left p c r end) cs rs
  KeepLastBlock p end _ _ = Unit {0}
