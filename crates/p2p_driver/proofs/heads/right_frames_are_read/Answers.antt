use Rattle.std.proofs.Common.{◌+◌}
use Rattle.p2p_driver.proofs.Fitting.{greeting_fits, gossip_fits, message_fits}
use Rattle.p2p_driver.proofs.heads.right_frames_are_read.Goals as goal

pub returns-clause-greeting : goal.returns-clause-greeting
returns-clause-greeting g c channels limits info is =
    greeting_fits g.met.C.FixedBytes.fixed g.met.C.Signature.FixedBytes.fixed channels limits info is

pub returns-clause-gossip : goal.returns-clause-gossip
returns-clause-gossip g c channels limits p is admitted other =
    gossip_fits g.met.C.FixedBytes.fixed g.met.C.Signature.FixedBytes.fixed channels limits p is
    admitted other

pub returns-clause-message : goal.returns-clause-message
returns-clause-message g c channels limits sent channel small found short =
    message_fits (261 + 10 + g.C.FixedBytes.SIZE + g.C.Signature.FixedBytes.SIZE) channels limits sent channel small found short
