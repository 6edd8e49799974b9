use Rattle.std.proofs.Common.{◌∙◌, ap, sym, refl}
use Rattle.std.specs.Ordering.{is_eq}
use Rattle.p2p_driver.proofs.Payloads.{spells_as}
use Rattle.p2p_directory.specs.Received.{Wire}
use Rattle.p2p_driver.specs.Drivers.{wire_with}
use Rattle.p2p_driver.proofs.frames.greeting.Given as given
use Rattle.p2p_driver.proofs.frames.greeting.Goals as goal

-- how keys are, by the type of the keys
abbrev wire_in : (g : given.Over) → Wire g.row.C.Denot g.row.C-Signature.Denot
wire_in g = wire_with g.C.PublicKey.verifies g.C.FixedBytes.spelled g.C.Signature.FixedBytes.spelled g.C.FixedBytes.SIZE
    g.C.FixedBytes.value g.C.Signature.FixedBytes.SIZE g.C.Signature.FixedBytes.value

pub returns-then-is_eq : goal.returns-then-is_eq
returns-then-is_eq g c judge = (
  (refl, refl),
  (
    c.in-Greeting.info,
    spells_as (wire_in g) c.args.decoded.now.limits c.args.decoded.now.frame c.args.frame c.args.decoded.now.payload _
        c.payload.ensures.decoded c.requires.of (sym c.payload.ensures.value ∙ c.in-Greeting.is),
    sym (c.is_eq.ensures ∙ ap is_eq c.cmp.ensures) ∙ c.if-is_eq.true,
    refl,
    refl,
  ),
)

pub returns-else-is_eq : goal.returns-else-is_eq
returns-else-is_eq g c judge blocked = (
  c.in-Greeting.info,
  spells_as (wire_in g) c.args.decoded.now.limits c.args.decoded.now.frame c.args.frame c.args.decoded.now.payload _
      c.payload.ensures.decoded c.requires.of (sym c.payload.ensures.value ∙ c.in-Greeting.is),
  sym (c.is_eq.ensures ∙ ap is_eq c.cmp.ensures) ∙ c.if-is_eq.false,
)
