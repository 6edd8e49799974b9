-- Private: a walk along keys in order and the records at once.
use Rattle.std.specs.Prelude.{List}
use Rattle.std.specs.List.{filter}
use Rattle.std.specs.Ordering.{is_lt}
use Rattle.std.specs.declared.cmp.Ordering.{Ordering}

module _ {C : Type 0} (cmp : C → C → Ordering) where
  -- those of some keys that are above one
  abbrev pub above : C → List C → List C
  above key keys = filter (λ q. is_lt (cmp key q)) keys
