use Rattle.std.proofs.Common.{◌∙◌, ap, cond, false, nat_eq, arith, ◌≡◌}
use Rattle.std.specs.BTreeMap.{is_at}
use Rattle.std.specs.Duration.{as_nanos}
use Rattle.std.proofs.lemmas.Bool.Decides.{nat_tests}
use Rattle.p2p_tracker.specs.Private.Expirations.{end_cmp}
use Rattle.p2p_tracker.proofs.SetsAndRecords.Expirations.{ends_instead}
use Rattle.p2p_tracker.proofs.kept.blocks.move_end.Goals as goal

pub returns-clause-ok : goal.returns-clause-ok
returns-clause-ok g c = λ old new are found put.
    let cmp = g.C.Ord.cmp in
    let before = as_nanos c.args.before in
    let m = as_nanos c.args.until in
    let other : nat_eq before m ≡ false =
    grind (arith, nat_tests, c.if-as_nanos.false, c.as_nanos.ensures, c.as_nanos-2.ensures) in
    let less = rw c.as_nanos-3.ensures at c.remove.ensures.updates.0 in
    ends_instead g.met.C.PublicKey.exact c.args.expirations.now.keys c.remove.new.self.keys old new
    c.args.key m before are
    (λ e. less e ∙ ap (cond (is_at (end_cmp cmp (before, c.args.key)) e) false) (c.in_ok-add_end.ensures.ok e))
    put found other
