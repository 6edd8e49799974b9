use Rattle.std.proofs.Common.{◌∙◌, ap, length, arith}
use Rattle.std.proofs.lemmas.List.Sums.{count_by-le-length}
use Rattle.p2p_tracker.specs.Private.Places.{with_bits_at, walk, indices}
use Rattle.p2p_tracker.specs.Private.Window.{has_primary}
use Rattle.p2p_tracker.proofs.SetsAndRecords.Indexed.{bits_of_all}
use Rattle.p2p_tracker.proofs.SetsAndRecords.Places.{places_counted}
use Rattle.p2p_tracker.proofs.kept.window.refresh_places.Goals as goal

pub set_bits-requires-clause-few : goal.set_bits-requires-clause-few
set_bits-requires-clause-few g c =
    let sets = c.args.sets.now.items in
    let p = c.args.peer.now in
    let met = ap (walk (indices sets) c.args.links.now.items) c.get.ensures ∙ c.requires.met_all p in
    omega (arith, ap length met, places_counted g.C.Ord.cmp sets p, count_by-le-length (has_primary g.C.Ord.cmp p) sets)

pub returns-clause-sets : goal.returns-clause-sets
returns-clause-sets g c =
    let sets = c.args.sets.now.items in
    let p = c.args.peer.now in
    let met = ap (walk (indices sets) c.args.links.now.items) c.get.ensures ∙ c.requires.met_all p in
    c.set_bits.ensures.sets ∙ ap (λ ps. with_bits_at c.args.known ps sets) met
    ∙ bits_of_all g.met.C.Ord.total p c.args.known sets c.requires.ascending c.requires.ordered

pub returns-clause-count : goal.returns-clause-count
returns-clause-count g c =
    let sets = c.args.sets.now.items in
    let p = c.args.peer.now in
    let met = ap (walk (indices sets) c.args.links.now.items) c.get.ensures ∙ c.requires.met_all p in
    c.set_bits.ensures.count ∙ ap length met ∙ places_counted g.C.Ord.cmp sets p
