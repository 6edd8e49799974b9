use Rattle.std.proofs.lemmas.List.Filters.{dedup_is}
use Rattle.std.proofs.lemmas.List.Kept.{IsStrictlySortedBy-dedup, Contains-dedup, Contains-from_dedup}
use Rattle.std.proofs.lemmas.List.Sorted.{Contains-permutation, IsPermutation-sym}
use Rattle.p2p_discovery.proofs.sets.OrderedSet.from_vec_dedup.Goals as goal

pub invariant_of-result : goal.invariant_of-result
invariant_of-result g c =
    rw (dedup_is _ _ _ c.dedup.ensures.filtered)
    (IsStrictlySortedBy-dedup g.met.P.Ord.total g.met.P.Ord.matches_eq _ c.sort_unstable.ensures.sorted)

pub returns-clause-sorted : goal.returns-clause-sorted
returns-clause-sorted g c =
    rw (dedup_is _ _ _ c.dedup.ensures.filtered)
    (IsStrictlySortedBy-dedup g.met.P.Ord.total g.met.P.Ord.matches_eq _ c.sort_unstable.ensures.sorted)

pub returns-clause-same : goal.returns-clause-same
returns-clause-same g c =
    let is = dedup_is _ _ _ c.dedup.ensures.filtered in
    let moved = c.sort_unstable.ensures.permutation in
    λ q. (
      λ h. Contains-permutation _ _ q (IsPermutation-sym _ _ moved) (Contains-from_dedup _ _ q (rw is at h)),
      λ h. rw is (Contains-dedup g.met.P.Eq.laws g.met.P.FixedBytes.one_value _ q (Contains-permutation _ _ q moved h)),
    )
