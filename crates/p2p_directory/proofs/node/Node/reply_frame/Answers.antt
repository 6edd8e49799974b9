use Rattle.std.proofs.Common.{length, Some, sym, ap, ◌∙◌, arith, subst}
use Rattle.std.specs.Prelude.{IfSome}
use Rattle.std.specs.Option.{option_map}
use Rattle.std.specs.Duration.{as_nanos}
use Rattle.p2p_tracker.specs.Directory.{infos_in}
use Rattle.p2p_directory.specs.Exchange.{HaveSpelling}
use Rattle.p2p_tracker.proofs.SetsAndRecords.Shared.{few_told}
use Rattle.p2p_directory.proofs.node.Node.reply_frame.Goals as goal

pub frame_of-requires : goal.frame_of-requires
frame_of-requires g c =
    let bits = c.args.bits.now in
    let told =
    few_told g.C.Ord.cmp c.self.inside.server.directory bits.index bits.bits (as_nanos c.args.now) c.in-Some.infos.items
    (sym (ap (option_map (λ v. v.items)) c.in-Some.is) ∙ c.in_ok-infos.ensures.infos) in
    omega (arith, told, ap length c.from_vec-infos.ensures, c.requires)

pub returns-in_ok-frame-in-Some-clause-spelled : goal.returns-in_ok-frame-in-Some-clause-spelled
returns-in_ok-frame-in-Some-clause-spelled g c =
    let bits = c.args.bits.now in
    let infos_are = sym (ap (option_map (λ v. v.items)) c.in-Some.is) ∙ c.in_ok-infos.ensures.infos in
    let told = few_told g.C.Ord.cmp c.self.inside.server.directory bits.index bits.bits (as_nanos c.args.now) c.in-Some.infos.items infos_are in
    let spelled : HaveSpelling g.C.FixedBytes.IsValue g.C.Signature.FixedBytes.IsValue c.from_vec-infos.result =
    record {
      count = omega (arith, told, ap length c.from_vec-infos.ensures, c.requires);
      values =
          (c.in_ok-frame-in-Some.ensures.value, c.in_ok-frame-in-Some.ensures.keyed);
    } in
    subst (λ d. IfSome (infos_in g.C.Ord.cmp d bits.index bits.bits (as_nanos c.args.now))
    (HaveSpelling g.C.FixedBytes.IsValue g.C.Signature.FixedBytes.IsValue))
    (ap (λ v. v.directory) c.self.view_is)
    (subst (λ o. IfSome o (HaveSpelling g.C.FixedBytes.IsValue g.C.Signature.FixedBytes.IsValue)) (ap Some c.from_vec-infos.ensures ∙ infos_are) spelled)
