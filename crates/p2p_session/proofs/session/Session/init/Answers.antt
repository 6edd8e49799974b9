use Rattle.std.proofs.Common.{refl, sym, ◌∙◌}
use Rattle.p2p_session.specs.declared.refusal.Refusal.TheVariants.{BadSetting, Memory}
use Rattle.p2p_session.proofs.Setups.{number_not_one, refused_memory}
use Rattle.p2p_session.proofs.session.Session.init.Goals as goal
use Rattle.p2p_session.specs.Schemes.{scheme_by}

pub returns-in-Some : goal.returns-in-Some
returns-in-Some g c = record {
  made = λ one. absurd (number_not_one BadSetting (sym c.number.ensures ∙ one));
  refused = λ no. (refl, (BadSetting, rw c.in-Some.is refl, c.number.ensures));
}

pub returns-in-Ok : goal.returns-in-Ok
returns-in-Ok g c = record {
  made = λ one. (c.in_default.is, (c.in-Ok.setup, c.in-Ok.ensures.read, c.make.ensures.made one));
  refused = λ no. let r = c.make.ensures.refused no in (
    r.0 ∙ sym c.in_default.is,
    (
      Memory,
      refused_memory (scheme_by g.C.PartialOrd g.C.Ord g.C.PartialEq g.C.FixedBytes g.C.PublicKey g.C.Signature.PartialEq g.C.Signature.FixedBytes) _ c.args.namespace.now c.args.bootstrappers.now c.args.myself.now
          c.in-Ok.setup c.args.self.now.node c.in_default.is c.in-Ok.ensures.settings c.in-Ok.ensures.read c.in-Ok.ensures.some,
      r.1,
    ),
  );
}
