use Rattle.std.proofs.Common.{◌≡◌, ◌∙◌, sym, ap, None, Some, List, refl, length, ◌<◌, get_or, arith, ◌-◌}
use Rattle.std.specs.Option.{option_map}
use Rattle.p2p_tracker.specs.PeerSets.{latest_index}
use Rattle.p2p_tracker.specs.Private.Window.{SetWithBits, plain_sets}
use Rattle.p2p_tracker.proofs.SetsAndRecords.Retained.{last_is}
use Rattle.p2p_tracker.proofs.SetsAndRecords.Windows.{latest_plain}
use Rattle.p2p_tracker.proofs.kept.window.Window.latest_index.Goals as goal

pub returns-in-Some : goal.returns-in-Some
returns-in-Some g c =
    let sets = c.self.inside.sets in
    let set = c.in-Some.set.now in
    let size : sets.len ≡ length sets.items = sets.ok.0 in
    let some : 0 < sets.len = c.in-Some.ensures.variant.0 refl in
    let last = last_is None sets.items set (omega arith) (c.in-Some.ensures.lookup ∙ ap (λ n. get_or sets.items (n - 1) set) size) in
    ap Some c.index.ensures ∙ ap (option_map (λ (x : SetWithBits g.row.C.Denot). x.index)) last ∙ sym (latest_plain sets.items)
    ∙ ap (λ (xs : List (SetWithBits g.row.C.Denot)). latest_index (plain_sets xs)) c.self.view_is
