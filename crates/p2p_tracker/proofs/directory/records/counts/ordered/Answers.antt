use Rattle.std.proofs.Common.{sym}
use Rattle.std.proofs.lemmas.List.Sorted.{list_any-IsPermutation}
use Rattle.std.specs.BTreeMap.{is_at}
use Rattle.p2p_tracker.proofs.directory.records.counts.ordered.Goals as goal

pub returns-clause-members : goal.returns-clause-members
returns-clause-members g c = λ q. sym (list_any-IsPermutation (λ key. is_at (g.C.Ord.cmp key) q) c.args.peers.items c.in-Ok.set c.in-Ok.ensures.same)
