use Rattle.p2p_discovery.proofs.sets.OrderedSet.from_iter_dedup.Goals as goal

pub returns-clause-same : goal.returns-clause-same
returns-clause-same g c =
    let run = c.in_ok-items.ensures.runs tt in
    let same = rw run.3.0 at c.from_vec_dedup.ensures.same in (run.0, run.1, run.2, same)
