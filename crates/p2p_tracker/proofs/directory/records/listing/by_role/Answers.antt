use Rattle.p2p_tracker.specs.Private.Dialling.{is_primary_record, is_secondary_record, is_record_in_set}
use Rattle.p2p_tracker.proofs.SetsAndRecords.Listing.{listed_step, left_step}
use Rattle.p2p_tracker.proofs.directory.records.listing.by_role.Goals as goal

pub loop-peer-preserved : goal.loop-peer-preserved
loop-peer-preserved g c = record {
  primary = listed_step (λ e. is_primary_record e.1) c.loop-peer.primary.items c.push_by_role.new.primary.items _
      (c.in-Some.peer.now, c.in-Some.found.now) _ _ c.in-Some.ensures.steps c.loop-peer.invariant.primary
      c.in_ok-push_by_role.ensures.primary;
  secondary = listed_step (λ e. is_secondary_record e.1) c.loop-peer.secondary.items
      c.push_by_role.new.secondary.items _ (c.in-Some.peer.now, c.in-Some.found.now) _ _ c.in-Some.ensures.steps
      c.loop-peer.invariant.secondary c.in_ok-push_by_role.ensures.secondary;
  left = left_step (λ e. is_record_in_set e.1) _ (c.in-Some.peer.now, c.in-Some.found.now) _ _ c.in-Some.ensures.steps c.loop-peer.invariant.left;
}
