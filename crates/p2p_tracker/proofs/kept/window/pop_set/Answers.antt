use Rattle.std.proofs.Common.{◌∙◌, ap}
use Rattle.p2p_tracker.specs.Private.Places.{place_of, unless_in}
use Rattle.p2p_tracker.proofs.SetsAndRecords.Indexed.{indexed_popped}
use Rattle.p2p_tracker.proofs.kept.window.pop_set.Goals as goal

pub returns-clause-indexed : goal.returns-clause-indexed
returns-clause-indexed g c =
    let old = place_of g.C.Ord.cmp c.args.places.now in
    indexed_popped g.met.C.Ord.total c.args.places.now c.remove_set.new.self c.args.links.now.items _
    c.args.sets.now.items _ c.in_ok-oldest.oldest c.requires c.in_ok-oldest.ensures.items c.pop_front-2.ensures.rest
    (λ q. c.remove_set.ensures q ∙ ap (λ n. unless_in n (old q)) c.index.ensures)
