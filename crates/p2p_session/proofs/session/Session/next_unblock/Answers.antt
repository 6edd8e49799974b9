use Rattle.p2p_tracker.specs.Calls.Call.{Ask}
use Rattle.p2p_tracker.specs.Calls.Question.{NextUnblock}
use Rattle.p2p_directory.specs.declared.run.commands.Reply.TheVariants as reply
use Rattle.p2p_session.proofs.Direct.{told}
use Rattle.p2p_session.proofs.session.Session.next_unblock.Goals as goal
use Rattle.p2p_session.specs.Schemes.{scheme_by}

pub returns : goal.returns
returns g c =
    rw c.in-Some.is (told (scheme_by g.C.PartialOrd g.C.Ord g.C.PartialEq g.C.FixedBytes g.C.PublicKey g.C.Signature.PartialEq g.C.Signature.FixedBytes) (Ask NextUnblock) (reply.NextUnblock c.next_unblock.result) c.in-Some.node c.args.out.now c.tell_moment.new.out
    c.tell_moment.result c.next_unblock.ensures c.tell_moment.ensures)
