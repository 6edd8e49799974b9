use Rattle.std.proofs.Common.{refl}
use Rattle.p2p_tracker.specs.Calls.Call.{Ask}
use Rattle.p2p_tracker.specs.Calls.Question.{NumberTracked}
use Rattle.p2p_directory.specs.declared.run.commands.Reply.TheVariants as reply
use Rattle.p2p_session.proofs.Direct.{asked}
use Rattle.p2p_session.proofs.session.Session.tracked.Goals as goal
use Rattle.p2p_session.specs.Schemes.{scheme_by}

pub returns : goal.returns
returns g c =
    rw c.in-Some.is (asked (scheme_by g.C.PartialOrd g.C.Ord g.C.PartialEq g.C.FixedBytes g.C.PublicKey g.C.Signature.PartialEq g.C.Signature.FixedBytes) (Ask NumberTracked) (reply.Tracked c.tracked.result) c.in-Some.node c.tracked.result c.tracked.ensures refl)
