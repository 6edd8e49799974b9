use Rattle.std.proofs.Common.{◌∙◌, sym, ap}
use Rattle.std.specs.BTreeMap.{is_at}
use Rattle.std.specs.Map.{set_value}
use Rattle.std.specs.Option.{option_copied_mut}
use Rattle.std.proofs.lemmas.Map.Steps.{set_value_same}
use Rattle.p2p_driver.proofs.links.reach.Goals as goal

pub returns-in-Some-clause-unchanged : goal.returns-in-Some-clause-unchanged
returns-in-Some-clause-unchanged g c is = (c.get_mut.follows.holds c.reach.new.self).0
    ∙ ap (set_value (is_at (g.C.Ord.cmp c.args.peer.now)) c.args.of_peers.now.entries) (c.reach.ensures.unchanged is)
    ∙ set_value_same (is_at (g.C.Ord.cmp c.args.peer.now)) c.args.of_peers.now.entries c.in-Some.kept.now
    (sym c.get_mut.ensures.value ∙ ap option_copied_mut c.in-Some.is)
