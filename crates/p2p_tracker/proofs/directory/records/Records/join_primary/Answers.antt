use Rattle.std.proofs.Common.{◌≡◌, ◌<◌, Bool, cond, take, drop, map, length, get_or, slice_get, ◌++◌, sym, ◌∙◌, ap, subst, arith}
use Rattle.std.specs.Map.{keys_of}
use Rattle.std.specs.List.Sorted.{IsStrictlySortedBy}
use Rattle.std.proofs.lemmas.Map.Entries.{length-keys_of}
use Rattle.std.proofs.lemmas.Option.{get_or_from_slice_get}
use Rattle.p2p_discovery.specs.BitSets.{with_bit}
use Rattle.p2p_tracker.specs.declared.record.Role.TheVariants.{Primary}
use Rattle.p2p_discovery.specs.Ordered.{has_key}
use Rattle.p2p_tracker.specs.Directory.{is_known}
use Rattle.p2p_tracker.specs.Seen.{record_at}
use Rattle.p2p_tracker.specs.Cooldowns.{cooldown_in}
use Rattle.p2p_tracker.specs.Private.Counts.{one_set_more, one_set_less}
use Rattle.p2p_tracker.specs.Private.Window.{SetWithBits}
use Rattle.p2p_tracker.proofs.SetsAndRecords.Naming.{one_changed, changed_here, not_yet, sorted_take, of_front, undone}
use Rattle.p2p_tracker.proofs.SetsAndRecords.Windows.{keys_of_front, bits_more}
use Rattle.p2p_tracker.proofs.directory.records.Records.join_primary.Goals as goal

pub undo_each-requires : goal.undo_each-requires
undo_each-requires g c =
    let cmp = g.C.Ord.cmp in
    sorted_take cmp c.loop-place.place c.as_slice.result.now (subst (IsStrictlySortedBy cmp) (sym c.as_slice.ensures.all) c.as_slice.ensures.sorted)

pub returns-in-Err-clause-err : goal.returns-in-Err-clause-err
returns-in-Err-clause-err g c = λ q back.
    let cmp = g.C.Ord.cmp in
    let was = c.args.set.now.primary in
    let known : g.row.C.Denot → Bool = λ q. is_known c.args.limit (record_at cmp c.args.self.now q) in
    let i = c.loop-place.place in
    let peers : c.as_slice.result.now ≡ keys_of was =
    c.as_slice.ensures.all ∙ c.ordered-in-Err.ensures ∙ ap keys_of c.primary-in-Err.ensures.bits
    ∙ ap (λ (set : SetWithBits g.row.C.Denot). keys_of set.primary) c.loop-place.invariant.set
    ∙ keys_of_front known was i in
    let so_far = has_key cmp (take i (keys_of was)) q in
    undone so_far (one_set_more Primary (cooldown_in cmp c.args.cooldowns.now q)) (one_set_less Primary)
    (record_at cmp c.undo_each.new.self q) (record_at cmp c.join_one.new.self q)
    (record_at cmp c.args.self.now q)
    (λ h. back (of_front cmp (keys_of was) i q h))
    (c.undo_each.ensures q
    ∙ ap (λ keys. cond (has_key cmp (take i keys) q)
    (one_set_less Primary (record_at cmp c.join_one.new.self q)) (record_at cmp c.join_one.new.self q)) peers)
    (ap (λ rs. record_at cmp rs q) c.in-Err.ensures.err ∙ c.loop-place.invariant.records q)

pub loop-place-preserved : goal.loop-place-preserved
loop-place-preserved g c =
    let cmp = g.C.Ord.cmp in
    let was = c.args.set.now.primary in
    let old : g.row.C.Denot → _ = λ q. record_at cmp c.args.self.now q in
    let known : g.row.C.Denot → Bool = λ q. is_known c.args.limit (record_at cmp c.args.self.now q) in
    let i = c.loop-place.place in
    let x = c.index.result.now in
    let low : i < length was = omega (arith, c.loop-place-test.true, c.len-place-end.ensures, ap length c.primary-2.ensures.bits) in
    let low_keys : i < length (keys_of was) = omega (arith, low, length-keys_of was) in
    let now_is : keys_of c.primary-in-loop-place.result.now ≡ keys_of was =
    ap keys_of c.primary-in-loop-place.ensures.bits ∙ ap (λ (set : SetWithBits g.row.C.Denot). keys_of set.primary)
    c.loop-place.invariant.set ∙ keys_of_front known was i in
    let is : x ≡ get_or (keys_of was) i x = sym (get_or_from_slice_get (keys_of was) i x x (ap (λ keys. slice_get keys i) (sym now_is) ∙ c.index.ensures)) in
    let up : IsStrictlySortedBy cmp (keys_of was) =
    subst (IsStrictlySortedBy cmp) (c.ordered.ensures ∙ ap keys_of c.primary.ensures.bits)
    c.as_slice-peers.ensures.sorted in
    let set : SetWithBits g.row.C.Denot = c.args.set.now in
    let more : g.row.C.Denot → _ = λ q. one_set_more Primary (cooldown_in cmp c.args.cooldowns.now q) in
    let first = not_yet g.met.C.Ord.total g.met.C.PublicKey.exact (keys_of was) i x low_keys is up in
    let knows : c.in-Ok.known ≡ known x =
    c.in-Ok.ensures.known
    ∙ ap (is_known c.args.limit)
    (c.loop-place.invariant.records x ∙ ap (λ b. cond b (more x (old x)) (old x)) first) in
    record {
      records = λ q.
          one_changed g.met.C.Ord.total g.met.C.PublicKey.exact (keys_of was) i x low_keys is up (more q) q
          (record_at cmp c.join_one.new.self q) (record_at cmp c.loop-place.self q) (old q)
          (changed_here g.met.C.PublicKey.exact x q more (record_at cmp c.join_one.new.self q)
          (record_at cmp c.loop-place.self q) (c.in-Ok.ensures.ok q)) (c.loop-place.invariant.records q);
      set =
          c.set_bit.ensures
          ∙ ap (λ (s : SetWithBits g.row.C.Denot). record s { primary = with_bit s.primary i c.in-Ok.known }) c.loop-place.invariant.set
          ∙ ap (λ b. record set { primary = with_bit (map (λ q. (q, known q)) (take i (keys_of was)) ++ drop i was) i b }) knows
          ∙ ap (λ es. record set { primary = es }) (bits_more known was i x low is);
    }
