use Rattle.std.proofs.Common.{◌≡◌, take}
use Rattle.std.specs.Prelude.{◌==◌}
use Rattle.std.specs.List.{count_by}
use Rattle.p2p_tracker.proofs.kept.places.count_new.Given as goal

-- the keys so far are counted
abbrev pub invariant-loop-place : goal.invariant-loop-place
invariant-loop-place l =
    l.count ≡ count_by (λ place. place.set == l.links-inside.set) (take l.place-index l.links-inside.older.items)
