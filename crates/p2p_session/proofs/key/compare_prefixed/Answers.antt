use Rattle.std.proofs.Common.{sym, ap, ◌∙◌}
use Rattle.std.specs.Int.{w32, from_be_bytes}
use Rattle.std.specs.Ordering.{nat_cmp}
use Rattle.p2p_session.proofs.Compared.{fronted}
use Rattle.p2p_session.proofs.key.compare_prefixed.Goals as goal

pub returns-then-x-y : goal.returns-then-x-y
returns-then-x-y g c =
    let x = c.front-x.ensures in
    let y = c.front-y.ensures in
    c.cmp.ensures
    ∙ ap (λ n. nat_cmp n c.front-y.result) x.number
    ∙ ap (nat_cmp (from_be_bytes w32 c.args.a.now)) y.number
    ∙ sym (fronted c.args.a.now c.args.b.now x.length y.length x.bytes y.bytes
    (λ same. c.if-x-y.true (x.number ∙ same ∙ sym y.number)))
