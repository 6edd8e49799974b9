use Rattle.std.proofs.Common.{rules, ◌≡◌, ◌∙◌, ap, Some, None}
use Rattle.std.specs.BTreeMap.{get, is_at}
use Rattle.std.specs.Duration.{as_nanos}
use Rattle.std.specs.Option.{option_map}
use Rattle.p2p_tracker.specs.Blocks.{in_nanos}
use Rattle.p2p_tracker.proofs.SetsAndRecords.Blocks.{lookup-in_nanos, taken_back}
use Rattle.p2p_tracker.proofs.SetsAndRecords.Expirations.{ends_more, same_or_none}
use Rattle.p2p_tracker.proofs.kept.blocks.put_end.Goals as goal

pub returns-in-Err-add_end-clause-err : goal.returns-in-Err-add_end-clause-err
returns-in-Err-add_end-clause-err g c = (
  taken_back g.met.C.Ord.total c.args.moments.now.entries _ c.remove.new.self.entries c.args.key c.args.until
      (search rules) (search rules) c.remove.ensures.entries,
  c.in-Err-add_end.ensures.err,
)

pub returns-in_ok-move_end-in-Ok-Occupied-clause-expirations :
    goal.returns-in_ok-move_end-in-Ok-Occupied-clause-expirations
returns-in_ok-move_end-in-Ok-Occupied-clause-expirations g c = λ _ new put.
    let old = c.args.moments.now in
    let had : get g.C.Ord.cmp old c.args.key ≡ Some c.get.result.now = search rules in
    c.in_ok-move_end-in-Ok-Occupied.ensures.ok (in_nanos old.entries) new c.requires
    (lookup-in_nanos (is_at (g.C.Ord.cmp c.args.key)) old.entries ∙ ap (option_map as_nanos) had) put

pub returns-in_default-clause-expirations : goal.returns-in_default-clause-expirations
returns-in_default-clause-expirations g c = λ _ new put.
    let old = c.args.moments.now in
    let had : get g.C.Ord.cmp old c.args.key ≡ None = search rules in
    ends_more g.met.C.PublicKey.exact c.args.expirations.now.keys c.add_end.new.expirations.keys (in_nanos old.entries) new
    c.args.key (as_nanos c.args.until) c.requires c.in_default.ensures.ok put
    (same_or_none (lookup-in_nanos (is_at (g.C.Ord.cmp c.args.key)) old.entries ∙ ap (option_map as_nanos) had))
