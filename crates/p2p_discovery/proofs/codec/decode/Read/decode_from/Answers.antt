use Rattle.std.proofs.Common.{arith, length, [], ap, sym, ◌∙◌, refl}
use Rattle.std.proofs.lemmas.List.{nil_from_length, append-nil}
use Rattle.std.proofs.lemmas.Result.{err_from_is_err_and}
use Rattle.p2p_discovery.proofs.ReadLaws.{only_err, only_ok, found_at}
use Rattle.p2p_discovery.proofs.codec.decode.Read.decode_from.Goals as goal

pub returns-in_err-value-clause-only : goal.returns-in_err-value-clause-only
returns-in_err-value-clause-only g c = λ v is a s.
    let p = err_from_is_err_and c.from_residual.result c.from_residual.ensures.1 in
    rw (p.1, p.2)
    (only_err (g.met.Self.Read.lawful c.args.cfg.now) c.new-reader.result c.args.bytes.now c.new-reader.ensures.value
    _ v [] c.in_err-value.ensures (is, a) (s ∙ sym (append-nil _)))

pub returns-clause-found : goal.returns-clause-found
returns-clause-found g c =
    let f = found_at (g.met.Self.Read.lawful c.args.cfg.now) c.new-reader.result c.args.bytes.now
    c.new-reader.ensures.value _ c.read.new.reader c.new-reader.ensures.bytes c.in_ok-value.ensures in
    let nothing = nil_from_length c.read.new.reader (sym c.len-rest.ensures ∙ c.if-rest-ne0.false) in
    (f.0.0, f.0.1, f.1 ∙ rw nothing (append-nil _))

pub returns-clause-only : goal.returns-clause-only
returns-clause-only g c = λ v is a s. (
  (only_ok (g.met.Self.Read.lawful c.args.cfg.now) c.new-reader.result c.args.bytes.now c.new-reader.ensures.value _
      c.read.new.reader v [] c.in_ok-value.ensures (is, a) (s ∙ sym (append-nil _))).0,
  refl,
)

pub returns-then-rest-ne0-clause-only : goal.returns-then-rest-ne0-clause-only
returns-then-rest-ne0-clause-only g c = λ v is a s.
    let nothing =
    (only_ok (g.met.Self.Read.lawful c.args.cfg.now) c.new-reader.result c.args.bytes.now
    c.new-reader.ensures.value _ c.read.new.reader v [] c.in_ok-value.ensures (is, a)
    (s ∙ sym (append-nil _))).1 in
    absurd (omega (arith, c.if-rest-ne0.true, c.len-rest.ensures, ap length nothing))
