use Rattle.std.proofs.Common.{◌∷◌, ◌++◌, ◌+◌, ap, sym, ◌∙◌, arith, drop}
use Rattle.std.proofs.lemmas.List.{at_drop_more}
use Rattle.p2p_driver.specs.Happenings.{shut_all}
use Rattle.p2p_driver.specs.Links.{link_of}
use Rattle.p2p_driver.proofs.Shutting.{closed_among, closed_next, shut_next}
use Rattle.p2p_driver.proofs.connections.shut_all.Goals as goal

pub loop-peer-preserved : goal.loop-peer-preserved
loop-peer-preserved g c =
    let cmp = g.C.Ord.cmp in
    let peers = c.args.peers.now in
    let i = c.loop-peer.peer-index in
    let p = c.peer-item.result in
    let rest = drop (i + 1) peers in
    let links = c.loop-peer.links in
    let invariant = c.loop-peer.invariant in (
      (let room = c.shut.ensures.room in let before = invariant.0 in grind (arith)),
      (λ way. c.shut.ensures.counts way ∙ invariant.1 way),
      shut_next cmp p rest links c.shut.new.links c.loop-peer.actions.items c.shut.new.actions.items
          c.shut.ensures.links c.shut.ensures.said
          ∙ ap (λ x. c.loop-peer.actions.items ++ shut_all cmp (x ∷ rest) (link_of cmp links)) c.peer-item.is
          ∙ sym (at_drop_more (λ ps. c.loop-peer.actions.items ++ shut_all cmp ps (link_of cmp links)) peers i p c.loop-peer-test.true)
          ∙ invariant.2,
      λ q. closed_next cmp p rest links c.shut.new.links c.shut.ensures.links q
          ∙ ap (λ x. closed_among cmp (x ∷ rest) (link_of cmp links) q) c.peer-item.is
          ∙ sym (at_drop_more (λ ps. closed_among cmp ps (link_of cmp links) q) peers i p c.loop-peer-test.true)
          ∙ invariant.3 q,
    )
