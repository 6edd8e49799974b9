use Rattle.std.proofs.Common.{◌<◌, ◌++◌, ◌∙◌, Some, filter_map, length, ap, sym, subst}
use Rattle.std.specs.Map.{keys_of}
use Rattle.std.specs.Option.{IsSomeAnd}
use Rattle.p2p_discovery.proofs.Results.{OnErr-from}
use Rattle.p2p_tracker.specs.Private.Among.{shared_with, with_key}
use Rattle.p2p_tracker.proofs.SetsAndRecords.Among.{shared_among, shared_for_same}
use Rattle.p2p_tracker.proofs.directory.infos.shared_among.Goals as goal

pub returns-clause-infos : goal.returns-clause-infos
returns-clause-infos g c =
    let cmp = g.C.Ord.cmp in
    let asked = shared_with cmp c.args.records.now c.args.millis c.args.peers.now c.args.bits.now in
    ap Some (
    c.in_ok-copy_among.ensures.infos
    ∙ ap (λ is. is ++ filter_map asked (with_key cmp c.args.own.now (keys_of c.iter.result))) c.new-found.ensures.items
    ∙ ap (λ es. filter_map asked (with_key cmp c.args.own.now (keys_of es))) c.iter.ensures.rest
    ∙ shared_among g.met.C.Ord.total g.met.C.PublicKey.exact c.args.records.now c.args.millis c.args.peers.now
    c.args.bits.now c.args.own.now (keys_of c.args.busy.now.entries) c.as_slice-keys.ensures.sorted c.iter.ensures.ordered
    c.requires
    )
    ∙ sym (shared_for_same g.met.C.Ord.total g.met.C.PublicKey.exact c.args.records.now c.args.millis c.args.peers.now c.args.bits.now
    (sym c.len.ensures ∙ c.if-len.false ∙ c.len-2.ensures))

pub returns-in_err-copy_among-clause-err : goal.returns-in_err-copy_among-clause-err
returns-in_err-copy_among-clause-err g c =
    let cmp = g.C.Ord.cmp in
    let asked = shared_with cmp c.args.records.now c.args.millis c.args.peers.now c.args.bits.now in
    let all =
    ap (λ es. filter_map asked (with_key cmp c.args.own.now (keys_of es))) c.iter.ensures.rest
    ∙ shared_among g.met.C.Ord.total g.met.C.PublicKey.exact c.args.records.now c.args.millis c.args.peers.now
    c.args.bits.now c.args.own.now (keys_of c.args.busy.now.entries) c.as_slice-keys.ensures.sorted c.iter.ensures.ordered
    c.requires in
    OnErr-from c.from_residual.result
    (subst (λ o. IsSomeAnd o (λ infos. 0 < length infos))
    (sym (shared_for_same g.met.C.Ord.total g.met.C.PublicKey.exact c.args.records.now c.args.millis c.args.peers.now c.args.bits.now
    (sym c.len.ensures ∙ c.if-len.false ∙ c.len-2.ensures)))
    (subst (λ is. 0 < length is) all c.in_err-copy_among.ensures.err))
