use Rattle.std.proofs.Common.{◌≤◌, arith}
use Rattle.std.specs.Duration.{as_nanos}
use Rattle.std.specs.Map.{values_of}
use Rattle.std.specs.declared.time.Duration.{Duration}
use Rattle.std.proofs.lemmas.Grind.{common_steps}
use Rattle.std.proofs.lemmas.List.Elements.{All-weaker}
use Rattle.std.proofs.lemmas.Map.Views.{All-values-insert_entry}
use Rattle.p2p_tracker.proofs.SetsAndRecords.Cooldowns.{cooldown_put}
use Rattle.p2p_tracker.proofs.kept.cooldowns.put_cooldown.Goals as goal

pub returns-in-Ok-clause-bound : goal.returns-in-Ok-clause-bound
returns-in-Ok-clause-bound g c =
    let P : Duration × Duration → Type 0 = λ m. c.min.result ≤ as_nanos m.1 in
    let low : c.min.result ≤ c.args.bound.now = grind (arith, common_steps) in
    let here : c.min.result ≤ as_nanos c.args.cooldown.1 = grind (arith, common_steps) in
    rw c.in-Ok.ensures.entries
    (All-values-insert_entry g.C.Ord.cmp c.args.key c.args.cooldown P c.args.moments.now.entries
    (All-weaker (λ m. c.args.bound.now ≤ as_nanos m.1) P (λ m le. omega (arith, low, le))
    (values_of c.args.moments.now.entries) c.requires) here)

pub returns-in-Ok-clause-ok : goal.returns-in-Ok-clause-ok
returns-in-Ok-clause-ok g c = cooldown_put g.C.Ord.cmp c.args.moments.now.entries c.insert.new.self.entries
    c.args.key c.args.cooldown c.in-Ok.ensures.updates.0
