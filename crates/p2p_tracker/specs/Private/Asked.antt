-- Private: what is shared of peers with their bits, by a walk along them and the records.
use Rattle.std.specs.Prelude.{ℕ, Bool, List, [], ◌∷◌, Option, Some, None}
use Rattle.std.specs.Prelude.{if◌then◌else◌, nat_le, ◌||◌}
use Rattle.std.specs.Ordering.{is_lt}
use Rattle.std.specs.declared.cmp.Ordering.{Ordering}
use Rattle.p2p_discovery.specs.declared.discovery.Info.{Info}
use Rattle.p2p_tracker.specs.Seen.{RecordView}
use Rattle.p2p_tracker.specs.Directory.{sharable_of_record}

-- of a record: its sharable info, where the timestamp isn't above these milliseconds
abbrev pub shared_of_record : {C S : Type 0} → ℕ → RecordView C S → Option (Info C S)
shared_of_record millis r = elim (sharable_of_record r) [
  | None ↦ None
  | Some i ↦ if nat_le i.timestamp millis then Some i else None
]

-- of peers with their bits those from the first on whose bit is 0 and that isn't below the key
abbrev pub asked_from : {C : Type 0} → (C → C → Ordering) → C → List (C × Bool) → List (C × Bool)
asked_from cmp key [] = []
asked_from cmp key (e ∷ es) =
    if e.1 || is_lt (cmp e.0 key) then asked_from cmp key es else e ∷ es
