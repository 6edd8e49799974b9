use Rattle.std.proofs.Common.{◌∙◌, filter, subst, sym, ap}
use Rattle.std.specs.List.{list_any}
use Rattle.std.specs.Duration.{as_nanos}
use Rattle.std.specs.List.Sorted.{IsStrictlySortedBy}
use Rattle.std.specs.Map.{keys_of}
use Rattle.std.proofs.lemmas.Map.Keys.{IsDistinct-from_sorted}
use Rattle.p2p_tracker.specs.Blocks.{is_later}
use Rattle.p2p_discovery.specs.Ordered.{has_key}
use Rattle.p2p_discovery.proofs.Results.{OnErr-from}
use Rattle.p2p_tracker.proofs.SetsAndRecords.Blocks.{blocked_listed, somebody_blocked}
use Rattle.p2p_tracker.proofs.directory.blocked.blocked_at.Goals as goal

pub returns-in_err-peers-clause-err : goal.returns-in_err-peers-clause-err
returns-in_err-peers-clause-err g c =
    let now = as_nanos c.args.now in
    OnErr-from c.from_residual.result
    (somebody_blocked g.met.C.Ord.total g.met.C.PublicKey.exact c.args.blocks.now now c.iter.ensures.sorted
    (sym (ap (list_any (is_later now)) c.iter.ensures.all) ∙ c.in_err-peers.ensures.err))

pub ordered-requires : goal.ordered-requires
ordered-requires g c =
    let now = as_nanos c.args.now in
    let lists = blocked_listed g.met.C.Ord.total c.args.blocks.now now c.iter.ensures.sorted in
    let is = c.in_ok-peers.ensures.peers ∙ ap (λ bs. keys_of (filter (is_later now) bs)) c.iter.ensures.all in
    IsDistinct-from_sorted g.C.Ord.cmp c.in_ok-peers.peers.items (subst (IsStrictlySortedBy g.C.Ord.cmp) (sym is) lists.sorted)

pub returns-clause-peers : goal.returns-clause-peers
returns-clause-peers g c =
    let now = as_nanos c.args.now in
    let lists = blocked_listed g.met.C.Ord.total c.args.blocks.now now c.iter.ensures.sorted in
    let is = c.in_ok-peers.ensures.peers ∙ ap (λ bs. keys_of (filter (is_later now) bs)) c.iter.ensures.all in
    record {
      sorted = c.ordered.ensures.sorted;
      members = λ q. c.ordered.ensures.members q ∙ ap (λ ps. has_key g.C.Ord.cmp ps q) is ∙ lists.members q;
    }
