use Rattle.std.proofs.Common.{◌≡◌, Bool, List, sym, subst, ◌∙◌, ap}
use Rattle.std.specs.List.Sorted.{IsStrictlySortedBy}
use Rattle.std.specs.declared.cmp.Ordering.{Ordering}
use Rattle.std.proofs.lemmas.Map.Keys.{IsDistinct-from_sorted}
use Rattle.p2p_discovery.specs.Ordered.{has_key}
use Rattle.p2p_discovery.proofs.Results.{OnErr-from}
use Rattle.p2p_tracker.specs.Lists.{Lists}
use Rattle.p2p_tracker.specs.Private.Dialling.{is_primary_record, is_secondary_record, is_record_in_set}
use Rattle.p2p_tracker.proofs.SetsAndRecords.Listing.{listed_by_value, somebody_passes}
use Rattle.p2p_tracker.proofs.directory.records.Records.all.Goals as goal

-- the same keys in order are the same list
ordered_lists : {C : Type 0} (cmp : C → C → Ordering) (test : C → Bool) (listed peers : List C) → peers ≡ listed →
    (result : List C) → IsStrictlySortedBy cmp result →
    ((q : C) → has_key cmp result q ≡ has_key cmp peers q) → Lists cmp test listed → Lists cmp test result
ordered_lists cmp test listed peers is result sorted members lists =
    record { sorted = sorted; members = λ q. members q ∙ ap (λ ps. has_key cmp ps q) is ∙ lists.members q }

pub ordered-requires : goal.ordered-requires
ordered-requires g c =
    IsDistinct-from_sorted g.C.Ord.cmp c.in_ok-primary.primary.items
    (subst (IsStrictlySortedBy g.C.Ord.cmp) (sym c.in_ok-primary.ensures.primary)
    (listed_by_value g.met.C.Ord.total is_primary_record c.self.inside.map.entries
    c.len-count.ensures.ordered).sorted)

pub ordered-requires-2 : goal.ordered-requires-2
ordered-requires-2 g c =
    IsDistinct-from_sorted g.C.Ord.cmp c.in_ok-primary.secondary.items
    (subst (IsStrictlySortedBy g.C.Ord.cmp) (sym c.in_ok-primary.ensures.secondary)
    (listed_by_value g.met.C.Ord.total is_secondary_record c.self.inside.map.entries
    c.len-count.ensures.ordered).sorted)

pub returns-clause-primary : goal.returns-clause-primary
returns-clause-primary g c = rw (← c.self.view_is)
    (ordered_lists g.C.Ord.cmp _ _ c.in_ok-primary.primary.items c.in_ok-primary.ensures.primary c.ordered.result
    c.ordered.ensures.sorted c.ordered.ensures.members
    (listed_by_value g.met.C.Ord.total is_primary_record c.self.inside.map.entries c.len-count.ensures.ordered))

pub returns-clause-secondary : goal.returns-clause-secondary
returns-clause-secondary g c = rw (← c.self.view_is)
    (ordered_lists g.C.Ord.cmp _ _ c.in_ok-primary.secondary.items c.in_ok-primary.ensures.secondary
    c.ordered-2.result c.ordered-2.ensures.sorted c.ordered-2.ensures.members
    (listed_by_value g.met.C.Ord.total is_secondary_record c.self.inside.map.entries c.len-count.ensures.ordered))

pub returns-in_err-primary-clause-err : goal.returns-in_err-primary-clause-err
returns-in_err-primary-clause-err g c = rw (← c.self.view_is)
    (OnErr-from c.from_residual.result
    (somebody_passes g.met.C.Ord.total g.met.C.PublicKey.exact (λ e. is_record_in_set e.1)
    c.self.inside.map.entries c.len-count.ensures.ordered c.in_err-primary.ensures.err))
