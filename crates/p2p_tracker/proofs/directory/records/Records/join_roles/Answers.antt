use Rattle.std.proofs.Common.{◌≡◌, Bool, true, false, cond, Option, sym, ◌∙◌, ap}
use Rattle.std.specs.Map.{keys_of}
use Rattle.p2p_tracker.specs.declared.record.Role.TheVariants.{Primary, Secondary}
use Rattle.p2p_discovery.specs.Ordered.{has_key}
use Rattle.p2p_tracker.specs.Directory.{is_known}
use Rattle.p2p_tracker.specs.Seen.{record_at}
use Rattle.p2p_tracker.specs.Cooldowns.{cooldown_in}
use Rattle.p2p_tracker.specs.Private.Counts.{one_set_more, one_set_less}
use Rattle.p2p_tracker.specs.Private.Window.{SetWithBits}
use Rattle.p2p_tracker.proofs.SetsAndRecords.Naming.{excludes}
use Rattle.p2p_tracker.proofs.SetsAndRecords.Windows.{keys_with_bits}
use Rattle.p2p_tracker.proofs.directory.records.Records.join_roles.Goals as goal

pub returns-in-Err-clause-err : goal.returns-in-Err-clause-err
returns-in-Err-clause-err g c = λ back q. c.in-Err.ensures.err q (λ _. back q Primary)

-- the primary peers were counted more and then less, and the secondary ones are as they were
both_undone : {X : Type 0} (a : Bool) (more less : Option X → Option X) (new now mid old : Option X) →
    less (more old) ≡ old → new ≡ cond a (less now) now → now ≡ mid → mid ≡ cond a (more old) old → new ≡ old
both_undone true more less new now mid old back d e f = d ∙ ap less (e ∙ f) ∙ back
both_undone false more less new now mid old back d e f = d ∙ e ∙ f

pub returns-in-Err-joined-clause-err : goal.returns-in-Err-joined-clause-err
returns-in-Err-joined-clause-err g c = λ back q.
    let cmp = g.C.Ord.cmp in
    let set : SetWithBits g.row.C.Denot = c.args.set.now in
    let known : g.row.C.Denot → Bool = λ p. is_known c.args.limit (record_at cmp c.args.self.now p) in
    let old = record_at cmp c.args.self.now q in
    let k = cooldown_in cmp c.args.cooldowns.now q in
    let primary : c.as_slice-in-Err-joined.result.now ≡ keys_of set.primary =
    c.as_slice-in-Err-joined.ensures.all ∙ c.ordered.ensures ∙ ap keys_of c.primary.ensures.bits
    ∙ ap (λ (s : SetWithBits g.row.C.Denot). keys_of s.primary) c.in_default.ensures.bits
    ∙ keys_with_bits known (keys_of set.primary) in
    let secondary : c.as_slice.result.now ≡ set.secondary = c.as_slice.ensures.all ∙ c.secondary.ensures
    ∙ ap (λ (s : SetWithBits g.row.C.Denot). s.secondary) c.in_default.ensures.bits in
    let mid_is = c.in_default.ensures.ok q in
    let same : has_key cmp c.as_slice.result.now q ≡ true → record_at cmp c.join_primary.new.self q ≡ old =
    λ h. mid_is ∙ ap (λ b. cond b (one_set_more Primary k old) old)
    (excludes (has_key cmp (keys_of set.primary) q) (has_key cmp set.secondary q)
    (c.join_primary.ensures.disjoint q) (ap (λ ks. has_key cmp ks q) (sym secondary) ∙ h)) in
    both_undone (has_key cmp (keys_of set.primary) q) (one_set_more Primary k) (one_set_less Primary)
    (record_at cmp c.undo_each.new.self q) (record_at cmp c.join_secondary-joined.new.self q)
    (record_at cmp c.join_primary.new.self q) old
    (back q Primary)
    (c.undo_each.ensures q
    ∙ ap (λ ks. cond (has_key cmp ks q)
    (one_set_less Primary (record_at cmp c.join_secondary-joined.new.self q))
    (record_at cmp c.join_secondary-joined.new.self q)) primary)
    (c.in-Err-joined.ensures.err q (λ h. ap (λ o. one_set_less Secondary (one_set_more Secondary k o)) (same h) ∙ back q Secondary ∙ sym (same h)))
    mid_is
