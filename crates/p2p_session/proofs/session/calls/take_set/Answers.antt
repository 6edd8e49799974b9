use Rattle.p2p_session.proofs.Rooms.{track_whole}
use Rattle.p2p_session.proofs.session.calls.take_set.Goals as goal
use Rattle.p2p_session.specs.Schemes.{scheme_by}

pub returns-in-Ok-clause-whole : goal.returns-in-Ok-clause-whole
returns-in-Ok-clause-whole g c = λ room. track_whole (scheme_by g.C.PartialOrd g.C.Ord g.C.PartialEq g.C.FixedBytes g.C.PublicKey g.C.Signature.PartialEq g.C.Signature.FixedBytes) g.met.C.FixedBytes.fixed c.args.node.now.directory c.track-reply.result c.args.torn.now
    c.tell.new.out c.tell.result c.track-reply.ensures.few c.tell.ensures room
