use Rattle.std.proofs.Common.{sym, ◌∙◌, ap}
use mathlib.Core.Bool.{true≢false}
use Rattle.std.specs.Map.{keys_of}
use Rattle.p2p_tracker.specs.declared.kept.places.Place.{Place}
use Rattle.p2p_tracker.proofs.SetsAndRecords.Searches.{key_at}
use Rattle.p2p_tracker.proofs.SetsAndRecords.Walked.{less_rest, less_met, equal_rest, greater_met}
use Rattle.p2p_tracker.proofs.kept.places.find_from.Goals as goal

pub returns-in-Equal-clause-rest : goal.returns-in-Equal-clause-rest
returns-in-Equal-clause-rest g c =
    let es = c.args.latest.now in
    let at = c.loop-at.at in
    let e = c.index-latest-at.result in
    let here = key_at g.met.C.Ord.total es at e c.loop-at-test.true c.index-latest-at.is in
    equal_rest g.met.C.Ord.total c.args.key.now (keys_of es) at e.0 here.0 here.1 c.requires.sorted
    (ap (λ (x : g.row.C.Denot × Place). g.C.Ord.cmp x.0 c.args.key.now) c.index-latest-at.is
    ∙ sym c.cmp.ensures ∙ c.in-Equal.is)
    ∙ c.loop-at.invariant.rest

pub unreachable-requires : goal.unreachable-requires
unreachable-requires g c =
    let es = c.args.latest.now in
    let at = c.loop-at.at in
    let e = c.index-latest-at.result in
    let here = key_at g.met.C.Ord.total es at e c.loop-at-test.true c.index-latest-at.is in
    true≢false (sym c.requires.met ∙ sym c.loop-at.invariant.met
    ∙ greater_met g.met.C.Ord.total c.args.key.now (keys_of es) at e.0 here.0 here.1 c.requires.sorted
    (ap (λ (x : g.row.C.Denot × Place). g.C.Ord.cmp x.0 c.args.key.now) c.index-latest-at.is
    ∙ sym c.cmp.ensures ∙ c.in-Greater.is))

pub loop-at-preserved : goal.loop-at-preserved
loop-at-preserved g c =
    let es = c.args.latest.now in
    let at = c.loop-at.at in
    let e = c.index-latest-at.result in
    let here = key_at g.met.C.Ord.total es at e c.loop-at-test.true c.index-latest-at.is in
    let less = ap (λ (x : g.row.C.Denot × Place). g.C.Ord.cmp x.0 c.args.key.now) c.index-latest-at.is
    ∙ sym c.cmp.ensures ∙ c.in-Less.is in
    record {
      rest = sym (less_rest g.met.C.Ord.total c.args.key.now (keys_of es) at e.0 here.0 here.1 less)
          ∙ c.loop-at.invariant.rest;
      met = sym (less_met g.met.C.Ord.total c.args.key.now (keys_of es) at e.0 here.0 here.1 less)
          ∙ c.loop-at.invariant.met;
    }
