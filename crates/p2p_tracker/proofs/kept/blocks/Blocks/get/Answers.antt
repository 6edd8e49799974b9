use Rattle.std.proofs.Common.{◌∙◌, sym, ap}
use Rattle.std.specs.BTreeMap.{is_at}
use Rattle.std.specs.Duration.{as_nanos}
use Rattle.std.specs.Option.{option_map}
use Rattle.p2p_tracker.specs.Blocks.{unblock_in}
use Rattle.p2p_tracker.proofs.SetsAndRecords.Blocks.{lookup-in_nanos}
use Rattle.p2p_tracker.proofs.kept.blocks.Blocks.get.Goals as goal

pub returns : goal.returns
returns g c =
    ap (option_map as_nanos) (c.copied.ensures ∙ c.get.ensures.value)
    ∙ sym (lookup-in_nanos (is_at (g.C.Ord.cmp c.args.key.now)) c.self.inside.moments.entries)
    ∙ ap (λ bs. unblock_in g.C.Ord.cmp bs c.args.key.now) c.self.view_is
