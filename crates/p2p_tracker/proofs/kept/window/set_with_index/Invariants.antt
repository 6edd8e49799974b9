use Rattle.std.proofs.Common.{◌≡◌, take, None}
use Rattle.p2p_tracker.specs.Private.Window.{set_at}
use Rattle.p2p_tracker.proofs.kept.window.set_with_index.Given as goal

-- no set so far has the index
abbrev pub invariant-loop-place : goal.invariant-loop-place
invariant-loop-place g l = set_at (take l.place l.sets.items) l.index ≡ None
