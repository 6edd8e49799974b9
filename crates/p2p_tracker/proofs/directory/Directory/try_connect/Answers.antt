use Rattle.std.specs.Option.{option_map}
use Rattle.std.specs.Int.NonZero.{non_zero_usize_get}
use Rattle.p2p_tracker.specs.Seen.{config_view, record_at}
use Rattle.p2p_tracker.specs.Directory.{connected_record}
use Rattle.p2p_tracker.specs.Cooldowns.{cooldown_in}
use Rattle.p2p_tracker.proofs.SetsAndRecords.Cooled.{cooled_at, connect_keeps}
use Rattle.p2p_tracker.proofs.SetsAndRecords.Changes.{changed_at, kept_connected, changes_view}
use Rattle.p2p_tracker.proofs.SetsAndRecords.Changes.{marked_again}
use Rattle.p2p_tracker.proofs.directory.Directory.try_connect.Goals as goal

pub renew-requires : goal.renew-requires
renew-requires g c =
    let cmp = g.C.Ord.cmp in
    marked_again cmp g.met.C.PublicKey.exact c.self.inside.config.dial_fail_limit c.self.inside.sets
    (record_at cmp c.self.inside.records) c.args.peer.now c.in-Some.known.before
    c.self.invariant.whole.bits c.in-Some.ensures.before

pub invariant_of-self-2 : goal.invariant_of-self-2
invariant_of-self-2 g c =
    let cmp = g.C.Ord.cmp in
    let cfg = c.self.inside.config in
    let old = record_at cmp c.self.inside.records in
    let new = record_at cmp c.connect.new.self in
    record {
      whole = changed_at cmp g.met.C.PublicKey.exact (non_zero_usize_get cfg.max_sets) cfg.dial_fail_limit
          c.self.inside.sets c.renew.new.self (record_at cmp c.self.inside.records)
          (record_at cmp c.connect.new.self)
          c.args.peer.now (option_map (connected_record c.args.dialer)) c.in-Some.known.after
          c.self.invariant.whole c.in-Some.ensures.change (kept_connected c.args.dialer)
          c.in-Some.ensures.after c.renew.ensures;
      cooled = cooled_at cmp old new (cooldown_in cmp c.self.inside.cooldowns) c.args.peer.now
          (option_map (connected_record c.args.dialer)) c.self.invariant.cooled c.in-Some.ensures.change
          (connect_keeps c.args.dialer);
    }

pub returns-clause-connected : goal.returns-clause-connected
returns-clause-connected g c = λ _.
    changes_view g.C.Ord.cmp c.args.self.now (config_view c.self.inside.config) c.self.inside.sets
    c.renew.new.self c.self.inside.records c.connect.new.self c.self.inside.blocks
    c.self.inside.cooldowns
    c.args.peer.now (option_map (connected_record c.args.dialer)) c.in-Some.known.after c.self.view_is c.renew.ensures c.in-Some.ensures.change
