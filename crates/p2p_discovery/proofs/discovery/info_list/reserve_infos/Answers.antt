use Rattle.std.proofs.Common.{◌*◌, ◌≤◌, vec_capacity, ◌∙◌}
use Rattle.std.proofs.lemmas.Result.{IfOk-weaker}
use Rattle.p2p_discovery.proofs.ListReads.{room_fits}
use Rattle.p2p_discovery.proofs.discovery.info_list.reserve_infos.Goals as goal

pub returns-clause-room : goal.returns-clause-room
returns-clause-room g c =
    IfOk-weaker c.with_capacity.result _ (λ v. vec_capacity v * c.args.least ≤ c.args.bytes)
    (λ v e. room_fits c.args.least c.args.count c.args.bytes (vec_capacity v) c.requires.some
    (e ∙ c.min.ensures))
    c.with_capacity.ensures.exact
