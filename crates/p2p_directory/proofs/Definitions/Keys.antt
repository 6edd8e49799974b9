-- Keys that compare as equal are one key, by the law of their trait.
use Rattle.std.proofs.Common.{◌≡◌, sym, ◌∙◌, ap}
use Rattle.std.specs.declared.cmp.Ordering.{Ordering}
use Rattle.std.specs.declared.cmp.Ordering.TheVariants.{Equal}
use Rattle.p2p_discovery.proofs.Truth.{Equal-from_is_eq}
use Rattle.p2p_tracker.specs.Calls.{Settings}
use Rattle.p2p_tracker.specs.History.{IsExact}

pub exact_from : {C S : Type 0} (s : Settings C S) (cmp : C → C → Ordering) → s.cmp ≡ cmp → ((q p : C) → cmp q p ≡ Equal → q ≡ p) → IsExact s
exact_from s cmp order exact q p e = exact q p (ap (λ c. c q p) (sym order) ∙ Equal-from_is_eq (s.cmp q p) e)
