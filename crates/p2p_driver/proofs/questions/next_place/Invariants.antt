use Rattle.std.proofs.Common.{◌≡◌, find, drop}
use Rattle.p2p_tracker.specs.PeerSets.{is_above}
use Rattle.p2p_driver.proofs.questions.next_place.Given as goal

-- the first is the first of those that are left
abbrev pub invariant-loop-place : goal.invariant-loop-place
invariant-loop-place g l = find (λ x. is_above x.index l.last) l.directory.sets
    ≡ find (λ x. is_above x.index l.last) (drop l.place l.directory.sets)
