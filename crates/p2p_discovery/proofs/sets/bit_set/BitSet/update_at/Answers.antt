use Rattle.std.proofs.Common.{◌∙◌, sym, ap, length, arith}
use Rattle.std.proofs.lemmas.Bool.Decides.{nat_tests}
use Rattle.std.specs.List.{zip}
use Rattle.p2p_discovery.specs.BitSets.{with_bit}
use Rattle.p2p_discovery.proofs.BitLists.{length_zip, zip_set, past_end}
use Rattle.p2p_discovery.proofs.sets.bit_set.BitSet.update_at.Goals as goal

pub returns-then-place-len-clause-answer : goal.returns-then-place-len-clause-answer
returns-then-place-len-clause-answer g c = let l = sym (ap length c.self.view_is) ∙ length_zip _ _ c.self.invariant in grind (arith, nat_tests, l)

pub returns-then-place-len-clause-after : goal.returns-then-place-len-clause-after
returns-then-place-len-clause-after g c = ap (λ bits. zip c.self.inside.ordered bits) c.set.ensures
    ∙ zip_set c.self.inside.ordered c.self.inside.knowledge c.args.place c.args.known
    ∙ ap (λ es. with_bit es c.args.place c.args.known) c.self.view_is

pub returns-else-place-len-clause-answer : goal.returns-else-place-len-clause-answer
returns-else-place-len-clause-answer g c = let l = sym (ap length c.self.view_is) ∙ length_zip _ _ c.self.invariant in grind (arith, nat_tests, l)

pub returns-else-place-len-clause-after : goal.returns-else-place-len-clause-after
returns-else-place-len-clause-after g c = rw (← c.self.view_is) (sym (past_end _ _ _ _ (omega arith)))
