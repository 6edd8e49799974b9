use Rattle.std.proofs.Common.{◌≡◌, not, is_some, map, sym, ◌∙◌, ap}
use Rattle.std.specs.List.{count_by}
use Rattle.std.specs.Map.{keys_of}
use Rattle.p2p_discovery.specs.Ordered.{has_key}
use Rattle.p2p_tracker.specs.Private.Places.{place_of}
use Rattle.p2p_tracker.proofs.SetsAndRecords.Merged.{none_new}
use Rattle.p2p_tracker.proofs.SetsAndRecords.Searches.{has_found}
use Rattle.p2p_tracker.proofs.kept.places.Places.add_each.Goals as goal

pub write_each-requires-clause-met : goal.write_each-requires-clause-met
write_each-requires-clause-met g c = λ q has.
    let cmp = g.C.Ord.cmp in
    let es = c.self.inside.latest.items in
    let older : c.in_ok-links.links ≡ map (place_of cmp es) c.args.keys.now
    = c.in_ok-links.ensures ∙ ap (λ es. map (place_of cmp es) c.args.keys.now) c.deref.ensures.value in
    let none = ap (count_by (λ place. not (is_some place))) (sym older)
    ∙ sym c.count_new-new_keys.ensures ∙ c.if-new_keys-eq0.true in
    ap (λ es. has_key cmp (keys_of es) q) c.deref_mut.ensures.value
    ∙ has_found g.met.C.Ord.total es q (none_new g.met.C.PublicKey.exact (place_of cmp es) c.args.keys.now q none has)
