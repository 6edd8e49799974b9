use Rattle.std.proofs.lemmas.Result.{on_err_weaker}
use Rattle.p2p_tracker.proofs.SetsAndRecords.Entries.{same_entries}
use Rattle.p2p_tracker.proofs.directory.records.Records.join.Goals as goal

pub returns-clause-err : goal.returns-clause-err
returns-clause-err g c =
    on_err_weaker c.join_roles-joined.result
    (λ restored back. same_entries g.met.C.Ord.total g.met.C.PublicKey.exact c.self-2.inside.map c.self.inside.map
    c.len-after.ensures.ordered c.len-before.ensures.ordered c.join_roles-joined.new.self c.args.self.now
    c.self-2.view_is c.self.view_is (restored back))
    c.join_roles-joined.ensures.err
