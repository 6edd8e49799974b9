-- A peer that is reserved where its node stands is so wherever it stands, by what is seen of it.
use Rattle.std.proofs.Common.{◌≡◌, Bool, true, false, not, ◌||◌, List, Option, Some, None, refl, sym, ◌∙◌, ap}
use Rattle.std.specs.Prelude.{if◌then◌else◌}
use Rattle.std.specs.declared.cmp.Ordering.{Ordering}
use Rattle.p2p_directory.specs.declared.node.setup.Setup.{Setup}
use Rattle.p2p_directory.specs.Nodes.{NodeView, NodeStandsAt, made_of}
use Rattle.p2p_directory.specs.Refinement.{record_in}
use Rattle.p2p_directory.specs.Run.{world_after}
use Rattle.p2p_tracker.specs.Answers.{may_connect, is_present_in}
use Rattle.p2p_tracker.specs.Calls.{Call}
use Rattle.p2p_tracker.specs.History.{is_persistent, is_named}
use Rattle.p2p_tracker.specs.Seen.{RecordView, record_of}
use Rattle.p2p_tracker.specs.Status.{is_inert, is_reserved}
use Rattle.p2p_tracker.specs.declared.record.Status.{Status}
use Rattle.p2p_tracker.specs.declared.record.Status.TheVariants.{Inert, Reserved, Active}
use Rattle.p2p_driver.specs.Steps.{MayConnect}

-- the status that is seen, if there is a record
status_seen : {C S : Type 0} → Option (RecordView C S) → Status
status_seen None = Inert
status_seen (Some r) = r.status

busy_if : (st : Status) → is_reserved st ≡ true → not (is_inert st) ≡ true
busy_if Inert is = absurd cc
busy_if Reserved is = refl
busy_if Active is = absurd cc

any_third : (a b c : Bool) → c ≡ true → (a || b || c) ≡ true
any_third a b c is = ap (λ x. a || b || x) is ∙ go a b
  where
    go : (a b : Bool) → (a || b || true) ≡ true
    go true b = refl
    go false true = refl
    go false false = refl

module _ {C S : Type 0} (cmp : C → C → Ordering) (v : NodeView C S) (p : C) where
  -- what is seen of a reserved peer
  seen_reserved : (given : Setup C S) (calls : List (Call C S)) → NodeStandsAt (made_of cmp given) calls v →
      may_connect (made_of cmp given).directory (world_after (made_of cmp given).directory calls) p ≡ true →
      is_reserved (status_seen (record_of cmp v.directory p)) ≡ true
  unfolding status_seen
  seen_reserved given calls at may = let s = (made_of cmp given).directory in let w = world_after s calls in
      ap (λ o. is_reserved (status_seen o)) (at.refines.records p ∙ ap (λ b. if b then Some (record_in s w p) else None)
      (any_third (is_persistent s p) (is_named s p w.sets) (not (is_inert (w.peer p).status)) (busy_if (w.peer p).status may))) ∙ may

  -- .. and who is seen to be reserved is
  is_so : (given : Setup C S) (calls : List (Call C S)) → NodeStandsAt (made_of cmp given) calls v →
      is_reserved (status_seen (record_of cmp v.directory p)) ≡ true →
      may_connect (made_of cmp given).directory (world_after (made_of cmp given).directory calls) p ≡ true
  unfolding status_seen
  is_so given calls at found = let s = (made_of cmp given).directory in let w = world_after s calls in
      go (is_present_in s w p) (sym (ap (λ o. is_reserved (status_seen o)) (at.refines.records p)) ∙ found)
    where
      go : (b : Bool) → is_reserved (status_seen (if b then Some (record_in (made_of cmp given).directory (world_after (made_of cmp given).directory calls) p) else None)) ≡ true →
          may_connect (made_of cmp given).directory (world_after (made_of cmp given).directory calls) p ≡ true
      go true is = is
      go false is = absurd cc

  pub reserved_anywhere : (given : Setup C S) (calls : List (Call C S)) → NodeStandsAt (made_of cmp given) calls v →
      may_connect (made_of cmp given).directory (world_after (made_of cmp given).directory calls) p ≡ true → MayConnect cmp p v
  reserved_anywhere given calls at may given2 calls2 at2 = is_so given2 calls2 at2 (seen_reserved given calls at may)
