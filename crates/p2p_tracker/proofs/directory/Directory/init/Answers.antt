use Rattle.std.proofs.Common.{◌≡◌, refl, sym, ap, ◌∙◌, None}
use Rattle.std.specs.Option.{option_map}
use Rattle.std.specs.Int.NonZero.{non_zero_usize_get}
use Rattle.p2p_tracker.specs.Record.{with_cooldown}
use Rattle.p2p_tracker.specs.Seen.{record_at}
use Rattle.p2p_tracker.specs.Cooldowns.{cooldown_in}
use Rattle.p2p_tracker.proofs.SetsAndRecords.Cooled.{first_cooled}
use Rattle.p2p_tracker.proofs.SetsAndRecords.Consistent.{first_consistent, first_own}
use Rattle.p2p_tracker.proofs.directory.Directory.init.Goals as goal

pub invariant_of-result : goal.invariant_of-result
invariant_of-result g c =
    let max = non_zero_usize_get c.args.cfg.max_sets in
    let records = record_at g.C.Ord.cmp c.in_ok-records.records in
    let cmp = g.C.Ord.cmp in
    rw c.new.ensures (record {
      whole = record {
        counts = first_consistent g.C.Ord.cmp max c.args.bootstrappers.items c.args.myself records c.args.cfg.max_sets.ok c.requires c.in_ok-records.ensures;
        own = first_own g.C.Ord.cmp c.args.bootstrappers.items c.args.myself records c.in_ok-records.ensures;
        bits = refl;
      };
      cooled = λ q. c.in_ok-records.ensures q ∙ first_cooled cmp c.args.bootstrappers.items c.args.myself q
          ∙ (λ i. option_map (with_cooldown (none q i)) (sym (c.in_ok-records.ensures q) i));
    })
  where
    none : (q : g.row.C.Denot) → None ≡ cooldown_in g.C.Ord.cmp c.new-3.result q
    none q = ap (λ ks. cooldown_in g.C.Ord.cmp ks q) (sym c.new-3.ensures)
