use Rattle.std.proofs.Common.{sym, ◌∙◌}
use Rattle.std.specs.Duration.{as_nanos}
use Rattle.std.specs.Int.NonZero.{non_zero_usize_get}
use Rattle.p2p_tracker.specs.Seen.{config_view, record_at}
use Rattle.p2p_tracker.specs.Cooldowns.{cooldown_in}
use Rattle.p2p_tracker.proofs.SetsAndRecords.Changes.{granted_may_come, reserved_at}
use Rattle.p2p_tracker.proofs.SetsAndRecords.Cooled.{cooled_reserved}
use Rattle.p2p_tracker.proofs.directory.Directory.reserve.Goals as goal

pub invariant_of-self-2 : goal.invariant_of-self-2
invariant_of-self-2 g c =
    let cmp = g.C.Ord.cmp in
    let cfg = c.self.inside.config in
    let p = c.args.peer.now in
    let now = as_nanos c.args.now in
    let draw = as_nanos c.args.draw in
    let cooldown = as_nanos cfg.peer_connection_cooldown in
    let old = record_at cmp c.self.inside.records in
    let new = record_at cmp c.reserve.new.self in
    let granted = rw c.in-Some.is at c.in_ok-metadata.ensures.granted in
    record {
      whole = reserved_at cmp (non_zero_usize_get cfg.max_sets) cfg.dial_fail_limit c.self.inside.sets old new p now
          draw cooldown g.met.C.PublicKey.exact c.self.invariant.whole granted.records
          (granted_may_come cmp c.args.dialer (config_view cfg) now p (old p) c.in-Some.metadata
          (sym c.in_ok-metadata.ensures.answer ∙ c.in-Some.is));
      cooled = cooled_reserved cmp old new (cooldown_in cmp c.self.inside.cooldowns)
          (cooldown_in cmp c.reserve.new.cooldowns) p now draw cooldown c.self.invariant.cooled
          granted.records granted.cooldowns;
    }
