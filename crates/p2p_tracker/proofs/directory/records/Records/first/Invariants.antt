use Rattle.std.proofs.Common.{◌≡◌, true}
use Rattle.std.specs.BTreeMap.{get}
use Rattle.std.specs.Option.{option_map}
use Rattle.p2p_tracker.specs.declared.record.Address.TheVariants.{Bootstrapper}
use Rattle.p2p_tracker.specs.Record.{new_record}
use Rattle.p2p_tracker.specs.Lists.{last_ingress_by}
use Rattle.p2p_tracker.proofs.directory.records.Records.first.Given as goal

-- the records are those of the bootstrappers so far
abbrev pub invariant-loop-peer : goal.invariant-loop-peer
invariant-loop-peer g l = (q : g.row.C.Denot) →
    get g.C.Ord.cmp l.map q ≡ option_map (λ ingress. new_record (Bootstrapper ingress) true)
    (last_ingress_by g.C.Ord.cmp q l.yielded)
