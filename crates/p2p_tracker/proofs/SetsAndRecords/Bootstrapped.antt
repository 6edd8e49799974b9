-- One more bootstrapper.
use Rattle.std.proofs.Common.{◌≡◌, Bool, true, false, List, [], ◌∷◌, ◌++◌, Option, Some, None, refl, ◌∙◌, ap}
use Rattle.std.specs.Prelude.{if◌then◌else◌}
use Rattle.std.specs.declared.cmp.Ordering.{Ordering}
use Rattle.std.specs.Ordering.{is_eq}
use Rattle.std.specs.Option.{option_map}
use Rattle.p2p_discovery.specs.declared.types.ingress.Ingress.{Ingress}
use Rattle.p2p_tracker.specs.Lists.{last_ingress_by}

-- the last ingress, else the first one
abbrev else_first : Option Ingress → Option Ingress → Option Ingress
else_first last first = elim last [ None ↦ first | Some a ↦ Some a ]

pub last_ingress-push : {C : Type 0} (cmp : C → C → Ordering) (q : C) (xs : List (C × Ingress)) (b : C × Ingress) →
    last_ingress_by cmp q (xs ++ b ∷ []) ≡ (if is_eq (cmp b.0 q) then Some b.1 else last_ingress_by cmp q xs)
last_ingress-push cmp q [] b = refl
last_ingress-push cmp q (x ∷ xs) b =
    ap (λ o. else_first o first) (last_ingress-push cmp q xs b) ∙ go (is_eq (cmp b.0 q))
  where
    first : Option Ingress
    first = if is_eq (cmp x.0 q) then Some x.1 else None

    go : (t : Bool) → else_first (if t then Some b.1 else last_ingress_by cmp q xs) first
        ≡ (if t then Some b.1 else else_first (last_ingress_by cmp q xs) first)
    go true = refl
    go false = refl

-- a change of the ingress, or of what stands for it
pub mapped : {X : Type 0} (f : Ingress → X) (t : Bool) (a : Ingress) (o : Option Ingress) →
    option_map f (if t then Some a else o) ≡ (if t then Some (f a) else option_map f o)
mapped f true a o = refl
mapped f false a o = refl
