use Rattle.std.proofs.Common.{◌≡◌, ◌∙◌, rules, ap, sym, subst, length, get_or, Some, Err, arith}
use Rattle.std.specs.List.Sorted.{IsBinarySearchResult}
use Rattle.std.proofs.lemmas.Fn.{always_returns_same}
use Rattle.std.proofs.lemmas.List.Sorted.{searchable_from_sorted}
use Rattle.p2p_tracker.specs.declared.kept.places.Place.{Place}
use Rattle.p2p_tracker.specs.Private.Places.{place_of}
use Rattle.p2p_tracker.proofs.SetsAndRecords.Searches.{found_at, missing, not_falling}
use Rattle.p2p_tracker.proofs.kept.places.Places.get.Goals as goal

pub returns-in-Ok : goal.returns-in-Ok
returns-in-Ok g c =
    let cmp = g.C.Ord.cmp in
    let key = c.args.key.now in
    let kept = c.index.result.now in
    let es = c.self.inside.latest.items in
    let is_key : (get_or es c.in-Ok.at kept).0 ≡ key = g.met.C.PublicKey.exact (get_or es c.in-Ok.at kept).0 key
    (ap (λ es. cmp (get_or es c.in-Ok.at kept).0 key) (sym c.deref.ensures.value)
    ∙ c.in-Ok.ensures.position (λ e. cmp e.0 key) (always_returns_same _ _ _ (λ a r h called. search rules)) kept) in
    ap (λ (e : g.row.C.Denot × Place). Some e.1) c.index.ensures
    ∙ sym (found_at g.met.C.Ord.total es c.in-Ok.at key kept c.self.invariant
    (omega (arith, c.in-Ok.ensures.bound, ap length c.deref.ensures.value)) is_key)
    ∙ ap (λ es. place_of cmp es key) c.self.view_is

pub returns-in-Err : goal.returns-in-Err
returns-in-Err g c =
    let cmp = g.C.Ord.cmp in
    let total = g.met.C.Ord.total in
    let key = c.args.key.now in
    let es = c.self.inside.latest.items in
    let found = subst (λ es. IsBinarySearchResult (λ (e : g.row.C.Denot × Place). cmp e.0 key) es (Err c.in-Err.field-0))
    c.deref.ensures.value (c.in-Err.ensures.position (λ e. cmp e.0 key)
    (always_returns_same _ _ _ (λ a r h called. search rules))) in
    sym (missing total es c.in-Err.field-0 key (found (searchable_from_sorted total (λ (e : g.row.C.Denot × Place). e.0) es key
    (not_falling total es c.self.invariant))))
    ∙ ap (λ es. place_of cmp es key) c.self.view_is
