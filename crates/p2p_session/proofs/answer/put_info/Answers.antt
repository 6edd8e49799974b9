use Rattle.std.proofs.Common.{arith, ◌∙◌}
use Rattle.p2p_session.proofs.Puts.{put_info}
use Rattle.p2p_session.proofs.answer.put_info.Goals as goal
use Rattle.p2p_session.specs.Schemes.{scheme_by}

pub returns-clause-bytes : goal.returns-clause-bytes
returns-clause-bytes g c =
    let number = c.put_varint-key_at.ensures 10 (omega arith) (omega arith) in
    put_info (scheme_by g.C.PartialOrd g.C.Ord g.C.PartialEq g.C.FixedBytes g.C.PublicKey g.C.Signature.PartialEq g.C.Signature.FixedBytes) c.args.info.now c.args.at c.put-timestamp_at.result c.put_varint-key_at.result c.put_fixed-signature_at.result
    c.as_slice.result.now c.args.out.now c.put-timestamp_at.new.out c.put_varint-key_at.new.out
    c.put_fixed-signature_at.new.out c.put_fixed.new.out (c.as_slice.ensures ∙ c.encoded-ingress.ensures) c.requires
    c.put-timestamp_at.ensures.bytes c.put-timestamp_at.ensures.end number.0 number.1
    c.put_fixed-signature_at.ensures.bytes c.put_fixed-signature_at.ensures.end c.put_fixed.ensures.bytes
