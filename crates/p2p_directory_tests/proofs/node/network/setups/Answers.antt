use Rattle.std.proofs.Common.{◌<◌, ◌-◌, ◌^◌, zero, suc, List, [], ◌∷◌, ◌++◌, arith}
use Rattle.std.specs.Int.NonZero.{non_zero_usize_get}
use Rattle.std.specs.List.{All}
use Rattle.p2p_directory_tests.proofs.node.network.setups.Goals as goal

-- one more element
all_push : {A : Type 0} (P : A → Type 0) (xs : List A) (x : A) → All P xs → P x →
    All P (xs ++ x ∷ [])
all_push P [] x all one zero a lt = one
all_push P [] x all one (suc k) a lt = absurd (omega (arith, lt))
all_push P (y ∷ xs) x all one zero a lt = all zero a (omega arith)
all_push P (y ∷ xs) x all one (suc k) a lt =
    all_push P xs x (λ j b inside. all (suc j) b (omega (arith, inside))) one k a (omega (arith, lt))

pub loop-line-init : goal.loop-line-init
loop-line-init c = record {
  sets = rw c.new-setups.ensures.items (λ k d lt. absurd (omega (arith, lt)));
  bits = rw c.new-setups.ensures.items (λ k d lt. absurd (omega (arith, lt)));
}

pub loop-line-preserved : goal.loop-line-preserved
loop-line-preserved c = record {
  sets = rw c.in_ok-push.ensures.items
      (all_push (λ s. non_zero_usize_get s.cfg.max_sets < 2 ^ 64 - 1) c.loop-line.setups.items
      c.in_ok-made.made c.loop-line.invariant.sets c.in_ok-made.ensures.sets);
  bits = rw c.in_ok-push.ensures.items
      (all_push (λ s. s.payload.max_bit_vec < 2 ^ 32) c.loop-line.setups.items
      c.in_ok-made.made c.loop-line.invariant.bits c.in_ok-made.ensures.bits);
}

pub returns-clause-sets : goal.returns-clause-sets
returns-clause-sets c = c.loop-line.invariant.sets

pub returns-clause-bits : goal.returns-clause-bits
returns-clause-bits c = c.loop-line.invariant.bits
