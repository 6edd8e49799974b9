use Rattle.p2p_session.specs.Schemes.{scheme_by}
use Rattle.p2p_session.proofs.Alike.{calls_are, returned_are}
use Rattle.p2p_session.proofs.Looked.{held_are, to_verify_are}
use Rattle.p2p_session.proofs.Wants.{unchanged, refused}
use Rattle.p2p_session.proofs.laws.answers_decide_replies.Goals as goal

pub returns-clause-calls : goal.returns-clause-calls
returns-clause-calls g c = λ call r r2 out out2 n some whole a b.
    calls_are out out2 n whole
    (scheme_by g.C.PartialOrd g.C.Ord g.C.PartialEq g.C.FixedBytes g.C.PublicKey
    g.C.Signature.PartialEq g.C.Signature.FixedBytes)
    g.met.C.FixedBytes.fixed g.met.C.Signature.FixedBytes.fixed some call r r2 a b

pub returns-clause-frames : goal.returns-clause-frames
returns-clause-frames g c = λ frame r r2 out out2 n bytes whole a b.
    returned_are out out2 n whole
    (scheme_by g.C.PartialOrd g.C.Ord g.C.PartialEq g.C.FixedBytes g.C.PublicKey
    g.C.Signature.PartialEq g.C.Signature.FixedBytes)
    g.met.C.FixedBytes.fixed g.met.C.Signature.FixedBytes.fixed frame bytes r r2 a b

pub returns-clause-held : goal.returns-clause-held
returns-clause-held g c = λ peer held held2 out out2 n whole.
    held_are out out2 n whole peer held held2

pub returns-clause-to_verify : goal.returns-clause-to_verify
returns-clause-to_verify g c =
    to_verify_are (scheme_by g.C.PartialOrd g.C.Ord g.C.PartialEq g.C.FixedBytes g.C.PublicKey
    g.C.Signature.PartialEq g.C.Signature.FixedBytes)
    g.met.C.FixedBytes.fixed g.met.C.Signature.FixedBytes.fixed

pub returns-clause-memory : goal.returns-clause-memory
returns-clause-memory g c = λ call r out out2 told.
    unchanged (scheme_by g.C.PartialOrd g.C.Ord g.C.PartialEq g.C.FixedBytes g.C.PublicKey
    g.C.Signature.PartialEq g.C.Signature.FixedBytes) out out2 call r told

pub returns-clause-memory_of_frames : goal.returns-clause-memory_of_frames
returns-clause-memory_of_frames g c = λ frame r out out2.
    refused (scheme_by g.C.PartialOrd g.C.Ord g.C.PartialEq g.C.FixedBytes g.C.PublicKey
    g.C.Signature.PartialEq g.C.Signature.FixedBytes) out out2 frame r
