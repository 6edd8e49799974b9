use Rattle.std.proofs.Common.{sym, ◌∙◌, subst, List, ℕ, ◌<◌, length}
use Rattle.p2p_session.specs.Given.{SpellInfo}
use Rattle.p2p_session.specs.Schemes.{scheme_by}
use Rattle.p2p_session.proofs.Unread.{info_grows, unspelled}
use Rattle.p2p_session.proofs.setup.info.Goals as goal

pub returns-in-Err-clause-refused : goal.returns-in-Err-clause-refused
returns-in-Err-clause-refused g c = unspelled c.args.bytes.now
    {Spelled = SpellInfo (scheme_by g.C.PartialOrd g.C.Ord g.C.PartialEq g.C.FixedBytes g.C.PublicKey g.C.Signature.PartialEq g.C.Signature.FixedBytes) c.args.bytes.now}
    (λ memory. subst (λ (l : List ℕ). 0 < length l) c.in_ok-bytes.ensures.ok
    (info_grows _ _ _ _ _ (c.in-Err.ensures.exact.1 memory)))
    (λ spelled. c.in-Err.ensures.only spelled.0 spelled.1.0 spelled.1.1 (c.in_ok-bytes.ensures.ok ∙ sym spelled.2))
    c.undecoded.ensures
