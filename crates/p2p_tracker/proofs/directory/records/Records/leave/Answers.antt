use Rattle.std.proofs.Common.{◌≡◌, ◌++◌, [], ◌&&◌, ◌||◌, Bool, true, false, cond, List, sym, ◌∙◌, ap, refl, subst}
use Rattle.std.specs.Option.{option_map_or}
use Rattle.std.specs.List.{filter, IsDistinct}
use Rattle.std.specs.Ordering.{eq_by_cmp}
use Rattle.std.specs.Map.{keys_of}
use Rattle.std.specs.List.Sorted.{IsStrictlySortedBy}
use Rattle.std.specs.BTreeMap.{is_at}
use Rattle.std.proofs.lemmas.List.Folds.{list_any-append}
use Rattle.std.proofs.lemmas.List.Kept.{IsStrictlySortedBy-filter}
use Rattle.std.proofs.lemmas.Map.Keys.{IsDistinct-from_sorted}
use Rattle.std.proofs.lemmas.Bool.{and_right, and_parts}
use Rattle.std.proofs.Math.Bool.{and-true, and-false}
use Rattle.p2p_tracker.specs.declared.record.Role.TheVariants.{Primary, Secondary}
use Rattle.p2p_tracker.specs.Private.Counts.{one_set_less, is_torn_down_without}
use Rattle.p2p_discovery.specs.Ordered.{has_key}
use Rattle.p2p_tracker.specs.Seen.{record_at}
use Rattle.p2p_tracker.proofs.SetsAndRecords.Naming.{names-filter, distinct_both, excludes}
use Rattle.p2p_tracker.proofs.directory.records.Records.leave.Goals as goal

-- the list is made of those of both roles
both : {A : Type 0} (test later : A → Bool) (ps ss ps2 ss2 before mid new : List A) → before ≡ [] → ps2 ≡ ps →
    ss2 ≡ ss → mid ≡ before ++ filter test ps2 → new ≡ mid ++ filter later ss2 →
    new ≡ filter test ps ++ filter later ss
both test later ps ss ps2 ss2 before mid new empty is_p is_s one two =
    two ∙ (λ i. one i ++ filter later (is_s i)) ∙ (λ i. (empty i ++ filter test (is_p i)) ++ filter later ss)

pub ordered-requires-2 : goal.ordered-requires-2
ordered-requires-2 g c =
    let cmp = g.C.Ord.cmp in
    let exact = g.met.C.PublicKey.exact in
    let ps = keys_of c.args.set.now.primary in
    let ss = c.args.set.now.secondary in
    let is_p : c.ordered.result.now ≡ ps = c.ordered.ensures ∙ ap keys_of c.primary.ensures.bits in
    let is_s : c.secondary.result.now ≡ ss = c.secondary.ensures in
    let test : g.row.C.Denot → Bool = λ q. option_map_or (is_torn_down_without Primary) (record_at cmp c.args.self.now q) false in
    let later : g.row.C.Denot → Bool = λ q. option_map_or (is_torn_down_without Secondary) (record_at cmp c.leave_role.new.self q) false in
    let items = both test later ps ss c.ordered.result.now c.secondary.result.now c.args.torn.items
    c.leave_role.new.torn.items c.leave_role-2.new.torn.items c.requires.empty is_p is_s
    c.leave_role.ensures.torn c.leave_role-2.ensures.torn in
    subst (IsDistinct (eq_by_cmp cmp)) (sym items)
    (distinct_both g.met.C.Ord.total (filter test ps) (filter later ss)
    (IsDistinct-from_sorted cmp _
    (IsStrictlySortedBy-filter cmp test ps
    (subst (IsStrictlySortedBy cmp) is_p c.leave_role.ensures.sorted)))
    (IsDistinct-from_sorted cmp _
    (IsStrictlySortedBy-filter cmp later ss
    (subst (IsStrictlySortedBy cmp) is_s c.leave_role-2.ensures.sorted)))
    (λ q h. names-filter exact later ss q ∙ and_right (later q) (has_key cmp ss q)
    (c.primary.ensures.disjoint q
    (and_parts (test q) (has_key cmp ps q) (sym (names-filter exact test ps q) ∙ h)).1)))

-- a test of each role, where the later one is as before for who has that role
by_role : (t later before a b : Bool) → (b ≡ true → later ≡ before) → ((t && a) || (later && b)) ≡ ((a && t) || (b && before))
by_role true later before true b same = refl
by_role false later before true true same = ap (λ x. x && true) (same refl) ∙ and-true before
by_role false later before true false same = and-false later
by_role t later before false true same = (λ i. and-false t i || and-true later i) ∙ same refl
by_role t later before false false same = λ i. and-false t i || and-false later i

pub returns-clause-members : goal.returns-clause-members
returns-clause-members g c = λ q.
    let cmp = g.C.Ord.cmp in
    let exact = g.met.C.PublicKey.exact in
    let ps = keys_of c.args.set.now.primary in
    let ss = c.args.set.now.secondary in
    let is_p : c.ordered.result.now ≡ ps = c.ordered.ensures ∙ ap keys_of c.primary.ensures.bits in
    let is_s : c.secondary.result.now ≡ ss = c.secondary.ensures in
    let test : g.row.C.Denot → Bool = λ p. option_map_or (is_torn_down_without Primary) (record_at cmp c.args.self.now p) false in
    let later : g.row.C.Denot → Bool = λ p. option_map_or (is_torn_down_without Secondary) (record_at cmp c.leave_role.new.self p) false in
    let items = both test later ps ss c.ordered.result.now c.secondary.result.now c.args.torn.items
    c.leave_role.new.torn.items c.leave_role-2.new.torn.items c.requires.empty is_p is_s
    c.leave_role.ensures.torn c.leave_role-2.ensures.torn in
    let old = record_at cmp c.args.self.now q in
    let same : has_key cmp ss q ≡ true → record_at cmp c.leave_role.new.self q ≡ old =
    λ h. c.leave_role.ensures.records q ∙ ap (λ b. cond b (one_set_less Primary old) old)
    (ap (λ ks. has_key cmp ks q) is_p ∙ excludes (has_key cmp ps q) (has_key cmp ss q) (c.primary.ensures.disjoint q) h) in
    c.ordered-2.ensures.members q
    ∙ ap (λ ks. has_key cmp ks q) items
    ∙ list_any-append (λ k. is_at (cmp k) q) (filter test ps) (filter later ss)
    ∙ (λ i. names-filter exact test ps q i || names-filter exact later ss q i)
    ∙ by_role (test q) (later q) (option_map_or (is_torn_down_without Secondary) old false) (has_key cmp ps q)
    (has_key cmp ss q) (λ h. ap (λ o. option_map_or (is_torn_down_without Secondary) o false) (same h))
