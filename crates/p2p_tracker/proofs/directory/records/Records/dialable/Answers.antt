use Rattle.std.proofs.Common.{sym, subst}
use Rattle.std.specs.Duration.{as_nanos}
use Rattle.std.proofs.lemmas.Result.{on_err_weaker, IfOk-weaker}
use Rattle.p2p_tracker.specs.Lists.{Lists, IsLeastOf}
use Rattle.p2p_tracker.specs.Record.{is_now, later_moment}
use Rattle.p2p_tracker.specs.Private.Dialling.{entry_state}
use Rattle.p2p_tracker.proofs.SetsAndRecords.Listing.{listed, least_of_entries, somebody_passes}
use Rattle.p2p_tracker.proofs.directory.records.Records.dialable.Goals as goal

pub returns-clause-peers : goal.returns-clause-peers
returns-clause-peers g c = rw (← c.self.view_is)
    (IfOk-weaker c.dialable_in.result _ _ (λ answer is. subst (Lists g.C.Ord.cmp _) (sym is)
    (listed g.met.C.Ord.total g.met.C.PublicKey.exact
    (λ e. is_now (entry_state g.C.Ord.cmp c.args.blocks.now c.args.cfg.now (as_nanos c.args.now) e))
    c.self.inside.map.entries c.len-count.ensures.ordered))
    c.dialable_in.ensures.peers)

pub returns-clause-next : goal.returns-clause-next
returns-clause-next g c = rw (← c.self.view_is)
    (IfOk-weaker c.dialable_in.result _ _ (λ answer is. subst (IsLeastOf _) (sym is)
    (least_of_entries g.met.C.Ord.total g.met.C.PublicKey.exact
    (λ e. later_moment (entry_state g.C.Ord.cmp c.args.blocks.now c.args.cfg.now (as_nanos c.args.now) e))
    c.self.inside.map.entries c.len-count.ensures.ordered))
    c.dialable_in.ensures.next)

pub returns-clause-err : goal.returns-clause-err
returns-clause-err g c = rw (← c.self.view_is)
    (on_err_weaker c.dialable_in.result
    (somebody_passes g.met.C.Ord.total g.met.C.PublicKey.exact
    (λ e. is_now (entry_state g.C.Ord.cmp c.args.blocks.now c.args.cfg.now (as_nanos c.args.now) e))
    c.self.inside.map.entries c.len-count.ensures.ordered)
    c.dialable_in.ensures.err)
