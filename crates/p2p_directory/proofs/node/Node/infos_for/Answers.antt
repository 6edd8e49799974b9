use Rattle.std.proofs.Common.{length, sym, ap, ◌∙◌, arith}
use Rattle.std.specs.Option.{option_map}
use Rattle.std.specs.Duration.{as_nanos}
use Rattle.p2p_tracker.proofs.SetsAndRecords.Shared.{few_told}
use Rattle.p2p_directory.proofs.node.Node.infos_for.Goals as goal

pub returns-in-Ok-Some-clause-few : goal.returns-in-Ok-Some-clause-few
returns-in-Ok-Some-clause-few g c =
    let bits = c.args.bits.now in
    let told =
    few_told g.C.Ord.cmp c.self.inside.server.directory bits.index bits.bits (as_nanos c.args.now) c.in-Ok-Some.infos.items
    (sym (ap (option_map (λ v. v.items)) c.in-Ok-Some.field-0-is) ∙ c.in-Ok-Some.ensures.infos) in
    omega (arith, told, ap length c.from_vec.ensures, c.requires)
