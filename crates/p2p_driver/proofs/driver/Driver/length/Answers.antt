use Rattle.std.proofs.Common.{refl, sym, ap, ◌∙◌}
use Rattle.std.specs.Prelude.{option_map}
use Rattle.p2p_driver.proofs.DrivingFrames.{no_link, no_link_dialing}
use Rattle.p2p_driver.proofs.driver.Driver.length.Goals as goal

pub returns-in_default : goal.returns-in_default
returns-in_default g c = (refl, no_link g.C.Ord.cmp c.args.link.0 _ c.args.self.now c.self.view_is c.in_default.ensures.none)

pub returns-then-is_dialing : goal.returns-then-is_dialing
returns-then-is_dialing g c = (
  refl,
  no_link_dialing g.C.Ord.cmp c.args.link.0 _ c.args.self.now c.self.view_is g.met.C.PublicKey.exact
      c.in-Some.peer c.in-Some-get.held.now (sym c.get.ensures ∙ ap (option_map (λ h. h.now)) c.in-Some-get.is) c.in-Some.ensures.only
      (sym c.is_dialing.ensures ∙ c.if-is_dialing.true),
)
