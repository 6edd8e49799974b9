use Rattle.std.proofs.Common.{◌≡◌, Bool, ◌∙◌, ap}
use Rattle.p2p_tracker.specs.Calls.{SetAt}
use Rattle.p2p_tracker.specs.Directory.{is_known}
use Rattle.p2p_tracker.specs.Seen.{record_at}
use Rattle.p2p_tracker.specs.Cooldowns.{cooldown_in}
use Rattle.p2p_tracker.specs.Private.Window.{SetWithBits, plain_set}
use Rattle.p2p_tracker.specs.Private.Counts.{record_leaving}
use Rattle.p2p_tracker.proofs.SetsAndRecords.Consistent.{left_again}
use Rattle.p2p_tracker.proofs.SetsAndRecords.Entries.{same_held}
use Rattle.p2p_tracker.proofs.SetsAndRecords.Windows.{plain_again}
use Rattle.p2p_tracker.proofs.directory.track.add.Goals as goal

pub returns-in-Err-clause-records : goal.returns-in-Err-clause-records
returns-in-Err-clause-records g c = λ back.
    let cmp = g.C.Ord.cmp in
    let known : g.row.C.Denot → Bool = λ q. is_known c.args.limit (record_at cmp c.args.records.now q) in
    let set : SetAt g.row.C.Denot = plain_set c.args.set in
    let plain : plain_set c.in-Err.refused ≡ set =
    ap (λ (s : SetWithBits g.row.C.Denot). plain_set s) (c.in-Err.ensures.back ∙ c.in_ok-join.ensures.bits)
    ∙ plain_again known set in
    same_held g.met.C.Ord.total g.met.C.PublicKey.exact c.undo.new.self c.args.records.now c.undo.ensures.map c.join.ensures.map (λ q.
    c.undo.ensures.records q
    ∙ (λ i. record_leaving cmp (plain i) q (c.in_ok-join.ensures.ok q i))
    ∙ left_again cmp set (cooldown_in cmp c.args.cooldowns.now q) q (record_at cmp c.args.records.now q) c.join.ensures.disjoint (back q))
