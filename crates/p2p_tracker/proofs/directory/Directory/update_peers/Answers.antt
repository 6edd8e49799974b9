use Rattle.std.proofs.Common.{sym, subst}
use Rattle.std.specs.Option.{option_map}
use Rattle.std.specs.Int.NonZero.{non_zero_usize_get}
use Rattle.p2p_tracker.specs.Seen.{record_at}
use Rattle.p2p_tracker.specs.Directory.{infos_of, updated_record}
use Rattle.p2p_tracker.specs.Cooldowns.{cooldown_in}
use Rattle.p2p_tracker.proofs.SetsAndRecords.Cooled.{cooled_each, update_keeps}
use Rattle.p2p_tracker.proofs.SetsAndRecords.Changes.{IsKept, changed_with_bits, each_sound, kept_updated}
use Rattle.p2p_tracker.proofs.directory.Directory.update_peers.Goals as goal

pub invariant_of-self : goal.invariant_of-self
invariant_of-self g c =
    let cmp = g.C.Ord.cmp in
    let max = non_zero_usize_get c.self.inside.config.max_sets in
    let limit = c.self.inside.config.dial_fail_limit in
    let window = c.self.inside.sets in
    let old = record_at cmp c.self.inside.records in
    let new = record_at cmp c.update_each.new.records in
    record {
      whole = changed_with_bits cmp max limit window c.update_each.new.sets old new c.self.invariant.whole
          (λ q. subst (IsKept (old q)) (sym (c.update_each.ensures.records q))
          (kept_updated (infos_of cmp c.args.infos.items q) (old q)
          (each_sound cmp max limit window old c.self.invariant.whole q)))
          c.update_each.ensures.sets c.update_each.ensures.bits;
      cooled = cooled_each cmp old new (cooldown_in cmp c.self.inside.cooldowns)
          (λ q. option_map (updated_record (infos_of cmp c.args.infos.items q))) c.self.invariant.cooled
          c.update_each.ensures.records
          (λ q. update_keeps (infos_of cmp c.args.infos.items q) (cooldown_in cmp c.self.inside.cooldowns q));
    }
