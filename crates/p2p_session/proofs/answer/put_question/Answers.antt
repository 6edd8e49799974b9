use Rattle.std.proofs.Common.{◌∙◌}
use Rattle.p2p_session.proofs.Puts.{put_asked}
use Rattle.p2p_session.proofs.answer.put_question.Goals as goal
use Rattle.p2p_session.specs.Schemes.{scheme_by}

pub returns-clause-bytes : goal.returns-clause-bytes
returns-clause-bytes g c =
    put_asked (scheme_by g.C.PartialOrd g.C.Ord g.C.PartialEq g.C.FixedBytes g.C.PublicKey g.C.Signature.PartialEq g.C.Signature.FixedBytes) c.args.info.now c.args.at c.put-key_at.result c.put_fixed-signed_at.result c.put-signature_at.result
    c.to_be_bytes.result c.as_slice-signed.result.now c.args.out.now c.put-key_at.new.out
    c.put_fixed-signed_at.new.out c.put-signature_at.new.out c.put_fixed.new.out c.to_be_bytes.ensures
    (c.as_slice-signed.ensures ∙ c.signed-signed.ensures) c.requires
    c.put-key_at.ensures.bytes c.put-key_at.ensures.end c.put_fixed-signed_at.ensures.bytes c.put_fixed-signed_at.ensures.end
    c.put-signature_at.ensures.bytes c.put-signature_at.ensures.end c.put_fixed.ensures.bytes
