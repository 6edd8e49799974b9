use Rattle.std.proofs.Common.{◌≡◌, ◌++◌, ◌∷◌, [], ◌∙◌, ap}
use Rattle.std.specs.Prelude.{if◌then◌else◌}
use Rattle.std.specs.Duration.{as_nanos}
use Rattle.std.specs.Option.{option_map}
use Rattle.p2p_tracker.specs.Record.{DialView, dial_view, is_now, later_moment}
use Rattle.p2p_tracker.specs.Seen.{RecordView}
use Rattle.p2p_tracker.specs.Private.Dialling.{dial_state, entry_state, earliest}
use Rattle.p2p_tracker.proofs.SetsAndRecords.Listing.{listed_step, left_step, least_step}
use Rattle.p2p_tracker.proofs.directory.records.listing.dialable_in.Goals as goal

-- the status of the next entry
state : (g : _) (c : goal.In_ok-note g) →
    dial_view c.status_of.result ≡ entry_state g.C.Ord.cmp c.args.blocks.now c.args.cfg.now (as_nanos c.args.now)
    (c.in-Some.peer.now, c.in-Some.found.now)
state g c = c.status_of.ensures ∙ ap (λ o. dial_state c.args.cfg.now (as_nanos c.args.now) o c.in-Some.found.now) c.get.ensures

pub loop-peer-preserved : goal.loop-peer-preserved
loop-peer-preserved g c =
    let cmp = g.C.Ord.cmp in
    let blocks = c.args.blocks.now in
    let cfg = c.args.cfg.now in
    let now = as_nanos c.args.now in
    let e : g.row.C.Denot × RecordView g.row.C.Denot g.row.C-Signature.Denot = (c.in-Some.peer.now, c.in-Some.found.now) in
    record {
      peers =
          listed_step (λ e. is_now (entry_state cmp blocks cfg now e)) c.loop-peer.answer.peers.items
          c.note.new.answer.peers.items _ e _ _ c.in-Some.ensures.steps c.loop-peer.invariant.peers
          (c.in_ok-note.ensures.peers
          ∙ ap (λ (v : DialView). c.loop-peer.answer.peers.items
          ++ (if is_now v then c.in-Some.peer.now ∷ [] else [])) (state g c));
      next =
          least_step (λ e. later_moment (entry_state cmp blocks cfg now e))
          (option_map as_nanos c.loop-peer.answer.next_query_at)
          (option_map as_nanos c.note.new.answer.next_query_at) _ e _ _ c.in-Some.ensures.steps
          c.loop-peer.invariant.next
          (c.in_ok-note.ensures.next ∙ ap (λ (v : DialView). earliest (option_map as_nanos c.loop-peer.answer.next_query_at) (later_moment v)) (state g c));
      left = left_step (λ e. is_now (entry_state cmp blocks cfg now e)) _ e _ _ c.in-Some.ensures.steps c.loop-peer.invariant.left;
    }
