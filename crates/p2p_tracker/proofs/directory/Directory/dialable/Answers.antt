use Rattle.std.proofs.Common.{refl}
use Rattle.std.specs.Duration.{as_nanos}
use Rattle.p2p_discovery.proofs.Results.{IfOk-both}
use Rattle.p2p_tracker.specs.Seen.{config_view}
use Rattle.p2p_tracker.specs.Private.Window.{plain_sets}
use Rattle.p2p_tracker.proofs.SetsAndRecords.Dialables.{are_dialable, stay_dialable}
use Rattle.p2p_tracker.proofs.directory.Directory.dialable.Goals as goal

pub returns-clause-dialable : goal.returns-clause-dialable
returns-clause-dialable g c = rw (← c.self.view_is)
    (IfOk-both c.dialable.result _ _ _
    (λ answer listed least. are_dialable g.C.Ord.cmp (config_view c.self.inside.config)
    (plain_sets c.self.inside.sets) c.self.inside.records c.self.inside.blocks c.self.inside.cooldowns
    c.self.inside.config (as_nanos c.args.now) refl refl _ _ listed least) c.dialable.ensures.peers
    c.dialable.ensures.next)

pub returns-clause-quiet : goal.returns-clause-quiet
returns-clause-quiet g c = rw (← c.self.view_is)
    (IfOk-both c.dialable.result _ _ _
    (λ answer listed least u later before. stay_dialable g.C.Ord.cmp
    (record {
      config = config_view c.self.inside.config;
      sets = plain_sets c.self.inside.sets;
      records =
          c.self.inside.records;
      blocks = c.self.inside.blocks;
      cooldowns = c.self.inside.cooldowns;
    })
    (as_nanos c.args.now) u _ _
    (are_dialable g.C.Ord.cmp (config_view c.self.inside.config) (plain_sets c.self.inside.sets)
    c.self.inside.records c.self.inside.blocks c.self.inside.cooldowns c.self.inside.config
    (as_nanos c.args.now) refl refl _ _ listed least) later before) c.dialable.ensures.peers
    c.dialable.ensures.next)
