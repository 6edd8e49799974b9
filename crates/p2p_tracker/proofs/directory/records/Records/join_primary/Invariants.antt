use Rattle.std.proofs.Common.{◌≡◌, ◌++◌, map, take, drop, cond}
use Rattle.std.specs.Map.{keys_of}
use Rattle.p2p_tracker.specs.declared.record.Role.TheVariants.{Primary}
use Rattle.p2p_discovery.specs.Ordered.{has_key}
use Rattle.p2p_tracker.specs.Directory.{is_known}
use Rattle.p2p_tracker.specs.Seen.{record_at}
use Rattle.p2p_tracker.specs.Cooldowns.{cooldown_in}
use Rattle.p2p_tracker.specs.Private.Counts.{one_set_more}
use Rattle.p2p_tracker.specs.Private.Window.{SetWithBits}
use Rattle.p2p_tracker.proofs.directory.records.Records.join_primary.Given as goal

-- the peers so far are counted, and have their bits
abbrev pub invariant-loop-place : goal.invariant-loop-place
invariant-loop-place g l =
    let cmp = g.C.Ord.cmp in
    let was : SetWithBits g.row.C.Denot = l.initial.set in
    record {
      records : (q : g.row.C.Denot) → record_at cmp l.self q ≡
          cond (has_key cmp (take l.place (keys_of was.primary)) q)
          (one_set_more Primary (cooldown_in cmp l.cooldowns q) (record_at cmp l.initial.self q))
          (record_at cmp l.initial.self q);
      set : l.set ≡ record was {
        primary = map (λ q. (q, is_known l.limit (record_at cmp l.initial.self q))) (take l.place (keys_of was.primary)) ++ drop l.place was.primary;
      };
    }
