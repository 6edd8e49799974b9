use Rattle.std.proofs.Common.{◌≡◌, drop, ◌∙◌, sym, rules, cond, Some, None, ap}
use Rattle.p2p_discovery.specs.Ordered.{has_key}
use Rattle.p2p_tracker.specs.Private.Walked.{above}
use Rattle.p2p_tracker.proofs.SetsAndRecords.Walked.{walked}
use Rattle.p2p_tracker.proofs.directory.records.walks.leave_walked.Goals as goal

-- the closure has the peers, the place and the role
pub returns : goal.returns
returns g c = λ q.
    let cmp = g.C.Ord.cmp in
    walked g.met.C.Ord.total g.met.C.PublicKey.exact _ (g.V.Membership.left c.args.role)
    (λ f. f.2 ≡ c.args.role) (λ f. drop f.1 f.0.now)
    (λ f k v b w f2 keeps t.
    let same : f2.0 ≡ f.0 = search rules in
    let moves : drop f2.1 f.0.now ≡ above cmp t.key.now (drop f.1 f.0.now) = search rules in
    let changes : cond b (Some t.left.now) None
    ≡ cond (has_key cmp (drop f.1 f.0.now) t.key.now) (g.V.Membership.left f.2 t.value.now) (Some t.value.now) = search rules in
    record {
      keeps = search rules;
      moves = (λ i. drop f2.1 (same i).now) ∙ moves ∙ ap (λ x. above cmp x (drop f.1 f.0.now)) t.shows.0;
      changes = ap (λ x. cond b (Some x) None) (sym t.leaves) ∙ changes
          ∙ (λ i. cond (has_key cmp (drop f.1 f.0.now) (t.shows.0 i)) (g.V.Membership.left (keeps i) (t.shows.1 i)) (Some (t.shows.1 i)));
    })
    _ c.retain.ensures.was_ordered _ search rules _ c.retain.ensures.filtered q
