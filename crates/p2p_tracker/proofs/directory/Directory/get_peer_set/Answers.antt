use Rattle.std.proofs.Common.{◌≡◌, true, Option, Some, sym, subst, ◌∙◌, ap}
use Rattle.std.specs.Option.{option_map, IsSomeAnd}
use Rattle.p2p_discovery.proofs.Results.{OnErr-from}
use Rattle.p2p_tracker.specs.Calls.{SetAt}
use Rattle.p2p_tracker.specs.PeerSets.{has_peers}
use Rattle.p2p_tracker.specs.Seen.{peers_of}
use Rattle.p2p_tracker.specs.Private.Window.{plain_set}
use Rattle.p2p_tracker.proofs.SetsAndRecords.Windows.{set_with_plain}
use Rattle.p2p_tracker.proofs.directory.Directory.get_peer_set.Goals as goal

pub returns-in_err-peers_in-in-Some-clause-err : goal.returns-in_err-peers_in-in-Some-clause-err
returns-in_err-peers_in-in-Some-clause-err g c = rw (← c.self.view_is)
    (OnErr-from c.from_residual.result
    (subst (λ (o : Option (SetAt g.row.C.Denot)). IsSomeAnd o (λ set. has_peers set ≡ true))
    (ap (option_map plain_set) c.in-Some.ensures ∙ sym (set_with_plain c.self.inside.sets c.args.index))
    c.in_err-peers_in-in-Some.ensures.err))

pub returns-in_ok-peers_in-in-Some-clause-peers : goal.returns-in_ok-peers_in-in-Some-clause-peers
returns-in_ok-peers_in-in-Some-clause-peers g c = rw (← c.self.view_is)
    (ap Some c.in_ok-peers_in-in-Some.ensures.peers
    ∙ ap (option_map peers_of)
    (ap (option_map plain_set) c.in-Some.ensures ∙ sym (set_with_plain c.self.inside.sets c.args.index)))

pub returns-in-None-clause-peers : goal.returns-in-None-clause-peers
returns-in-None-clause-peers g c =
    rw (← c.self.view_is)
    (ap (option_map peers_of)
    (ap (option_map plain_set) c.in-None.ensures ∙ sym (set_with_plain c.self.inside.sets c.args.index)))
