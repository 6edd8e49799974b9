use Rattle.std.proofs.Common.{sym, ◌∙◌}
use Rattle.std.specs.Duration.{as_nanos}
use Rattle.p2p_discovery.specs.Judgement.{judge_of}
use Rattle.p2p_driver.proofs.Judging.{unsigned_isnt}
use Rattle.p2p_driver.proofs.frames.list.Goals as goal

pub returns : goal.returns
returns g c limits spells = absurd (unsigned_isnt (judge_of g.C.Ord.cmp g.C.PublicKey.verifies c.args.verifier.now) (as_nanos c.args.wall)
    c.args.infos.now (sym c.is_empty.ensures ∙ c.if-is_empty.false) c.in-Ok.field-0 (sym c.validate_with_verdicts.ensures ∙ c.in-Ok.is))
