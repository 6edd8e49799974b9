use Rattle.std.proofs.Common.{length, ap, ◌∙◌}
use Rattle.std.specs.Prelude.{nat_lt}
use Rattle.std.proofs.lemmas.Bool.{ltb-false}
use Rattle.p2p_discovery.specs.declared.discovery.Payload.TheVariants as said
use Rattle.p2p_discovery.specs.Reading.{whole}
use Rattle.std.proofs.lemmas.Result.{IfOk-weaker}
use Rattle.p2p_discovery.specs.Payload.{IsAdmitted, payload_at}
use Rattle.p2p_directory.proofs.Nodes.ReadBack.{read_back, too_many_bits, too_many_infos, is_admitted, is_above}
use Rattle.p2p_directory.proofs.node.Node.read.Goals as goal

pub returns-clause-bits : goal.returns-clause-bits
returns-clause-bits g c = λ v fits spelled. rw (← c.self.view_is) (
    read_back (nat_lt c.self.inside.payload.max_bit_vec (length v.bits)) (length v.bits) (said.BitVec v) c.decode_cfg.result
    (whole (payload_at g.C.FixedBytes.SIZE g.C.FixedBytes.value g.C.Signature.FixedBytes.SIZE
    g.C.Signature.FixedBytes.value c.self.inside.payload) c.args.frame)
    (λ below. c.decode_cfg.ensures.only (said.BitVec v) fits.index
    (record { within = ltb-false c.self.inside.payload.max_bit_vec (length v.bits) below; small = fits.count })
    spelled)
    (λ above. ap
    (λ frame. (whole
    (payload_at g.C.FixedBytes.SIZE g.C.FixedBytes.value g.C.Signature.FixedBytes.SIZE
    g.C.Signature.FixedBytes.value c.self.inside.payload) frame).outcome) spelled
    ∙ too_many_bits g.C.FixedBytes.SIZE g.C.FixedBytes.value g.C.Signature.FixedBytes.SIZE
    g.C.Signature.FixedBytes.value g.C.FixedBytes.spelled g.C.Signature.FixedBytes.spelled
    c.self.inside.payload v
    fits.index fits.count (is_above c.self.inside.payload.max_bit_vec (length v.bits) above))
    c.decode_cfg.ensures.exact)

pub returns-clause-infos : goal.returns-clause-infos
returns-clause-infos g c = λ infos fit spelled. rw (← c.self.view_is) (
    read_back (nat_lt c.self.inside.payload.max_peers (length infos)) (length infos) (said.Peers infos) c.decode_cfg.result
    (whole (payload_at g.C.FixedBytes.SIZE g.C.FixedBytes.value g.C.Signature.FixedBytes.SIZE
    g.C.Signature.FixedBytes.value c.self.inside.payload) c.args.frame)
    (λ below. c.decode_cfg.ensures.only (said.Peers infos) fit.values.0
    (record { within = is_admitted c.self.inside.payload.max_peers (length infos) below; small = fit.count; keyed = fit.values.1 }) spelled)
    (λ above. ap
    (λ frame. (whole
    (payload_at g.C.FixedBytes.SIZE g.C.FixedBytes.value g.C.Signature.FixedBytes.SIZE
    g.C.Signature.FixedBytes.value c.self.inside.payload) frame).outcome) spelled
    ∙ too_many_infos g.C.FixedBytes.SIZE g.C.FixedBytes.value g.C.Signature.FixedBytes.SIZE
    g.C.Signature.FixedBytes.value g.C.FixedBytes.spelled g.C.Signature.FixedBytes.spelled
    c.self.inside.payload infos
    fit.count (is_above c.self.inside.payload.max_peers (length infos) above))
    c.decode_cfg.ensures.exact)

pub returns-clause-admitted : goal.returns-clause-admitted
returns-clause-admitted g c = rw (← c.self.view_is)
    (IfOk-weaker c.decode_cfg.result _
    (IsAdmitted g.C.FixedBytes.IsValue g.C.Signature.FixedBytes.IsValue c.self.inside.payload)
    (λ p h. h.1) c.decode_cfg.ensures.found)
