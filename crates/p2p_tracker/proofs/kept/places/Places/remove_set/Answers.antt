use Rattle.std.proofs.Common.{◌≡◌, ℕ, Bool, true, false, cond, not, Option, Some, None, rules, refl, sym, subst, ap, ◌∙◌}
use Rattle.std.specs.Prelude.{◌==◌}
use Rattle.std.specs.List.Sorted.{IsStrictlySortedBy}
use Rattle.std.specs.Map.{keys_of}
use Rattle.std.specs.Cmp.{eq_by_cmp_equiv}
use Rattle.std.proofs.lemmas.Fn.{filter_same}
use Rattle.std.proofs.lemmas.Map.Entries.{option_filter, lookup-filter-values}
use Rattle.std.proofs.lemmas.Map.Keys.{IsDistinct-from_sorted}
use Rattle.p2p_tracker.specs.declared.kept.places.Place.{Place}
use Rattle.p2p_tracker.specs.Private.Places.{place_of, unless_in}
use Rattle.p2p_tracker.proofs.SetsAndRecords.Merged.{kept_sorted}
use Rattle.p2p_tracker.proofs.kept.places.Places.remove_set.Goals as goal

abbrev stays : ℕ → Place → Bool
stays set place = not (place.set == set)

seen : (set : ℕ) (o : Option Place) → option_filter (stays set) o ≡ unless_in set o
seen set None = refl
seen set (Some place) = go (place.set == set)
  where
    go : (b : Bool) → cond (not b) (Some place) None ≡ cond b None (Some place)
    go true = refl
    go false = refl

pub invariant_of-self : goal.invariant_of-self
invariant_of-self g c =
    let kept = filter_same _ (λ (e : g.row.C.Denot × Place). not (e.1.set == c.args.set)) _ (λ e b f' k. search rules) _ _
    c.retain.ensures.filtered in
    subst (λ es. IsStrictlySortedBy g.C.Ord.cmp (keys_of es)) (sym kept)
    (kept_sorted g.met.C.Ord.total g.met.C.PublicKey.exact (λ e. not (e.1.set == c.args.set))
    c.self.inside.latest.items c.self.invariant)

pub returns : goal.returns
returns g c = λ q.
    let cmp = g.C.Ord.cmp in
    let set = c.args.set in
    let es = c.self.inside.latest.items in
    ap (λ es. place_of cmp es q) (filter_same _ (λ (e : g.row.C.Denot × Place). not (e.1.set == set)) _
    (λ e b f' k. search rules) es _ c.retain.ensures.filtered)
    ∙ lookup-filter-values (eq_by_cmp_equiv g.met.C.Ord.total) (stays set) q es
    (IsDistinct-from_sorted cmp (keys_of es) c.self.invariant)
    ∙ seen set (place_of cmp es q)
    ∙ ap (λ es. unless_in set (place_of cmp es q)) c.self.view_is
