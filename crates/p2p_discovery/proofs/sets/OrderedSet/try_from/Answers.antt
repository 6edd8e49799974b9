use Rattle.std.proofs.Common.{◌≡◌, ◌+◌, ◌-◌, get_or, refl, sym, arith}
use mathlib.Core.Bool.{false≢true}
use Rattle.std.proofs.lemmas.Cmp.{eq_by_cmp_equiv}
use Rattle.std.proofs.lemmas.List.Sorted.{IsPermutation-sym}
use Rattle.std.proofs.lemmas.Map.Keys.{IsDistinct-IsPermutation, IsDistinct-from_sorted}
use Rattle.p2p_discovery.proofs.Sorting.{repeated, sorted_neighbours}
use Rattle.p2p_discovery.proofs.sets.OrderedSet.try_from.Goals as goal

-- two neighbours are equal
pub returns-then-eq-clause-ok : goal.returns-then-eq-clause-ok
returns-then-eq-clause-ok g c =
    let k = c.loop-k.k in
    let e : k - 1 + 1 ≡ k = omega arith in
    let ys = c.sort_unstable.new.self.items in
    let next : get_or ys (k - 1 + 1) c.index-in-loop-k.result.now ≡ c.index-in-loop-k.result.now = rw e (sym c.index-in-loop-k.ensures) in (
      λ h. absurd (false≢true h),
      λ distinct. absurd
          (repeated g.met.P.Ord.total g.met.P.Ord.matches_eq _ ys c.sort_unstable.ensures.permutation (k - 1) _ _
          (omega arith) (sym c.index.ensures) next (sym (c.if-eq.ensures)) distinct),
    )

pub invariant_of-result : goal.invariant_of-result
invariant_of-result g c = sorted_neighbours g.met.P.Ord.total _ _ (omega arith) c.loop-k.invariant

pub returns-clause-sorted : goal.returns-clause-sorted
returns-clause-sorted g c = sorted_neighbours g.met.P.Ord.total _ _ (omega arith) c.loop-k.invariant

pub returns-clause-ok : goal.returns-clause-ok
returns-clause-ok g c =
    let up = sorted_neighbours g.met.P.Ord.total c.sort_unstable.new.self.items c.loop-k.k (omega arith) c.loop-k.invariant in (
      λ _. IsDistinct-IsPermutation _ (eq_by_cmp_equiv g.met.P.Ord.total).symm _ _
          (IsPermutation-sym _ _ c.sort_unstable.ensures.permutation) (IsDistinct-from_sorted _ _ up),
      λ _. refl,
    )
