-- What is read of a link, and what is kept of all links.
use Rattle.std.proofs.Common.{◌≡◌, ◌≢◌, ℕ, Bool, cond, List, [], ◌∷◌, length, slice_index}
use Rattle.std.proofs.Common.{Option, Some, None, refl, sym, ◌∙◌, ap}
use Rattle.std.proofs.Common.{Less, Equal, Greater}
use Rattle.std.specs.BTreeMap.{is_at, insert_entry}
use Rattle.std.specs.Cmp.{eq_by_cmp_equiv}
use Rattle.std.specs.Map.{lookup, remove_entry, set_value}
use Rattle.std.specs.Prelude.{IfSome}
use Rattle.std.specs.Ordering.{nat_cmp, match_ordering, is_eq}
use Rattle.std.specs.declared.cmp.Ordering.{Ordering}
use Rattle.std.proofs.lemmas.Cmp.{nat_cmp_total}
use Rattle.std.proofs.lemmas.Map.Steps.{set_value_same}
use Rattle.p2p_driver.specs.declared.rate.Rate.{Rate}
use Rattle.p2p_driver.specs.Meters.{MetersView, IsRead}
use Rattle.p2p_driver.specs.Reads.{reads_of, kept_in, Takes}

-- a frame of gossip that is read
pub of_gossip : (rate : Rate) (now : ℕ) (old new : MetersView) →
    IsRead rate now old.gossip new.gossip → new.channels ≡ old.channels →
    Takes rate now None old new
of_gossip rate now old new read same = record {
  read = read;
  others = others;
  count = ap length same;
}
  where
    others : (other : Option ℕ) → other ≢ None → kept_in other new ≡ kept_in other old
    others None differ = absurd (differ refl)
    others (Some p) differ = ap (λ cs. slice_index cs p) same

-- a message of a channel that is read
pub of_channel : (rate : Rate) (now place : ℕ) (old new : MetersView) →
    IsRead rate now (slice_index old.channels place) (slice_index new.channels place) →
    new.gossip ≡ old.gossip →
    ((other : ℕ) → other ≢ place →
    slice_index new.channels other ≡ slice_index old.channels other) →
    length new.channels ≡ length old.channels → Takes rate now (Some place) old new
of_channel rate now place old new read gossip apart count = record {
  read = read;
  others = others;
  count = count;
}
  where
    others : (other : Option ℕ) → other ≢ Some place → kept_in other new ≡ kept_in other old
    others None differ = gossip
    others (Some p) differ = apart p (λ e. differ (ap Some e))

-- what was kept of no link is as before, once it is no longer kept
pub undone : (es : List (ℕ × MetersView)) (n : ℕ) (m : MetersView) → reads_of es n ≡ None →
    remove_entry (is_at (nat_cmp n)) (insert_entry nat_cmp es n m) ≡ es
undone [] n m none =
    ap (λ b. cond b [] ((n, m) ∷ [])) ((eq_by_cmp_equiv nat_cmp_total).refl n)
undone (e ∷ es) n m none = go (nat_cmp n e.0) refl (undone es n m)
  where
    go : (o : Ordering) → nat_cmp n e.0 ≡ o → (reads_of es n ≡ None →
        remove_entry (is_at (nat_cmp n)) (insert_entry nat_cmp es n m) ≡ es) →
        remove_entry (is_at (nat_cmp n)) (match_ordering o ((n, m) ∷ e ∷ es)
        ((e.0, m) ∷ es) (e ∷ insert_entry nat_cmp es n m)) ≡ e ∷ es
    go Less is rest =
        ap (λ b. cond b (e ∷ es) ((n, m) ∷ remove_entry (is_at (nat_cmp n)) (e ∷ es)))
        ((eq_by_cmp_equiv nat_cmp_total).refl n)
    go Equal is rest = absurd (let f =
        sym (ap (λ o. cond (is_eq o) (Some e.1) (reads_of es n)) is) ∙ none in cc)
    go Greater is rest =
        ap (λ o. cond (is_eq o) (insert_entry nat_cmp es n m)
        (e ∷ remove_entry (is_at (nat_cmp n)) (insert_entry nat_cmp es n m))) is
        ∙ ap (λ fs. e ∷ fs) (rest
        (sym (ap (λ o. cond (is_eq o) (Some e.1) (reads_of es n)) is) ∙ none))

-- what is written over with what was there stays
pub unwritten : {D X : Type 0} (test : ℕ → Bool) (es es2 now : List (ℕ × X)) (was is : X)
    (r : Option D) → es2 ≡ set_value test es is → Some was ≡ lookup test es → es ≡ now →
    IfSome r (λ d. is ≡ was) → IfSome r (λ d. es2 ≡ now)
unwritten test es es2 now was is None put found here same = tt
unwritten test es es2 now was is (Some d) put found here same =
    put ∙ ap (set_value test es) same ∙ set_value_same test es was (sym found) ∙ here
