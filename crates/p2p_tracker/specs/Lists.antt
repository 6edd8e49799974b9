-- Words on lists: their last elements, the newest of infos, the last ingress of a key; and answers
-- that are lists or least moments, said of each key: nothing enumerates keys.
use Rattle.std.specs.Prelude.{ℕ, ◌≡◌, ◌≤◌, ◌-◌, Bool, true, if◌then◌else◌, nat_lt, List, [], ◌∷◌}
use Rattle.std.specs.Prelude.{length, drop, Option, Some, None}
use Rattle.std.specs.List.Sorted.{IsStrictlySortedBy}
use Rattle.std.specs.Ordering.{is_eq}
use Rattle.std.specs.declared.cmp.Ordering.{Ordering}
use Rattle.p2p_discovery.specs.declared.discovery.Info.{Info}
use Rattle.p2p_discovery.specs.declared.types.ingress.Ingress.{Ingress}
use Rattle.p2p_discovery.specs.Ordered.{has_key}

-- the last n elements
abbrev pub last_of : {A : Type 0} → ℕ → List A → List A
last_of n xs = drop (length xs - n) xs

-- of an info and the best of those after it, the first unless the second is newer
abbrev pub earlier_best : {C S : Type 0} → Info C S → Option (Info C S) → Option (Info C S)
earlier_best i None = Some i
earlier_best i (Some j) = if nat_lt i.timestamp j.timestamp then Some j else Some i

-- the first of those with the greatest timestamp
abbrev pub first_greatest : {C S : Type 0} → List (Info C S) → Option (Info C S)
first_greatest [] = None
first_greatest (i ∷ is) = earlier_best i (first_greatest is)

-- the last of these ingresses that is given for p, in this order of keys
abbrev pub last_ingress_by : {C : Type 0} → (C → C → Ordering) → C → List (C × Ingress) →
    Option Ingress
last_ingress_by cmp p [] = None
last_ingress_by cmp p (b ∷ bs) = elim (last_ingress_by cmp p bs) [
  | None ↦ (if is_eq (cmp b.0 p) then Some b.1 else None)
  | Some a ↦ Some a
]

-- ANSWERS

-- the sorted keys with a property, each once
pub record Lists {C : Type 0} (cmp : C → C → Ordering) (test : C → Bool)
    (ps : List C) : Type 0 where
  pub sorted : IsStrictlySortedBy cmp ps
  pub members : (p : C) → has_key cmp ps p ≡ test p

-- some key has a property
abbrev pub Somebody : {C : Type 0} → (C → Bool) → Type 0
Somebody {C} test = (p : C) × (test p ≡ true)

-- the least moment that some key has, if one has any
abbrev pub IsLeastOf : {C : Type 0} → (C → Option ℕ) → Option ℕ → Type 0
IsLeastOf {C} moment None = (p : C) → moment p ≡ None
IsLeastOf {C} moment (Some m) =
    ((p : C) × (moment p ≡ Some m)) × ((p : C) (n : ℕ) → moment p ≡ Some n → m ≤ n)
