-- The claims that a driver answered, and what is said of one that goes on.
use Rattle.std.proofs.Common.{◌≡◌, ℕ, zero, suc, ◌==◌, ◌≤◌, true, false, not, ◌&&◌, ◌||◌, nat_lt, List, [], ◌∷◌, map, Option, Some, None, refl, sym, ◌∙◌, ap, subst}
use Rattle.std.proofs.Common.{arith}
use Rattle.std.specs.Prelude.{is_some, if◌then◌else◌, unwrap_or}
use Rattle.std.specs.Duration.{as_nanos}
use Rattle.std.specs.Option.{IsSomeAnd}
use Rattle.std.specs.Cmp.{IsTotalOrder}
use Rattle.std.specs.Ordering.{is_eq}
use Rattle.std.specs.declared.time.Duration.{Duration}
use Rattle.std.proofs.lemmas.Bool.Decides.{nat_tests}
use Rattle.std.proofs.lemmas.Cmp.{tied_itself}
use Rattle.p2p_tracker.specs.Answers.{may_listen_at}
use Rattle.p2p_tracker.specs.History.{last_with, found_with}
use Rattle.p2p_directory.specs.Run.{world_after}
use Rattle.p2p_driver.specs.Answers.{AreAnswered}
use Rattle.p2p_driver.specs.Drivers.{Base, AreRight, IsInTime, link, is_eligible, may_come, no_proof, is_claim_by}
use Rattle.p2p_driver.specs.Happenings.{Happening, time_by, latest_at, latest_of, answered_in, calls_of, stream_at, inbound_count, outbound_count, link_count}
use Rattle.p2p_driver.specs.Grants.{unless_linked}
use Rattle.p2p_driver.specs.Rates.{AreBefore}
use Rattle.p2p_driver.specs.Steps.{no_proof_of}
use Rattle.p2p_driver.specs.declared.arrivals.Arrival.{Arrival}
use Rattle.p2p_driver.specs.declared.origin.Origin.{Origin}
use Rattle.p2p_driver.proofs.Budget.{inbound_stays, outbound_stays, links_stay}
use Rattle.p2p_driver.proofs.GrantHistory.{grant_stays}
use Rattle.p2p_driver.proofs.InTime.{latest_kept}
use Rattle.p2p_driver.proofs.LinkHistory.{link_stays}
use Rattle.p2p_driver.proofs.StreamHistory.{stream_after, stream_later}

module _ {C S : Type 0} (b : Base C S) where
  -- the latest time is no earlier than it was
  pub later_than : (e : Happening C S) (h : List (Happening C S)) → IsInTime b h (time_by e) → latest_at h ≤ latest_at (e ∷ h)
  later_than e h within = go (time_by e) refl within
    where
      same : (n : ℕ) → n ≤ n
      same n = grind (arith)

      go : (o : Option Duration) → time_by e ≡ o → IsInTime b h o → latest_at h ≤ latest_at (e ∷ h)
      go None is within = subst (λ k. latest_at h ≤ k) (latest_kept e h is) (same (latest_at h))
      go (Some t) is within = subst (λ o. latest_at h ≤ latest_of (found_with o e (last_with time_by h))) (sym is) within

  -- none is after the latest time
  pub before_on : (now later : ℕ) (times : List ℕ) → now ≤ later → AreBefore now times → AreBefore later times
  before_on now later times after before k a at = let early = before k a at in grind (arith)

  pub one_before : (t : ℕ) (times : List ℕ) → AreBefore t times → AreBefore t (t ∷ times)
  one_before t times before zero a at = let same = ap (λ o. unwrap_or o a) at in grind (arith)
  one_before t times before (suc k) a at = before k a at

  abbrev times : List (Happening C S) → List ℕ
  times h = map (λ c. c.1) (answered_in h)

  other : (e : Happening C S) (h : List (Happening C S)) → answered_in (e ∷ h) ≡ answered_in h →
      IsInTime b h (time_by e) → AreBefore (latest_at h) (times h) → AreBefore (latest_at (e ∷ h)) (times (e ∷ h))
  other e h same within before = subst (λ cs. AreBefore (latest_at (e ∷ h)) (map (λ c. c.1) cs)) (sym same)
      (before_on (latest_at h) (latest_at (e ∷ h)) (times h) (later_than e h within) before)

  pub none_after : (h : List (Happening C S)) → AreRight b h → AreBefore (latest_at h) (times h)
  none_after [] right = λ k a at. absurd cc
  none_after (Happening.Claimed n q origin t ∷ h) right = one_before (as_nanos t) (times h)
      (before_on (latest_at h) (as_nanos t) (times h) right.1 (none_after h right.2))
  none_after (e ∷ h) right = other e h refl right.1 (none_after h right.2)

  -- each was answered when it might be
  pub are_answered : (h : List (Happening C S)) → AreRight b h → AreAnswered b.pace (answered_in h)
  are_answered [] right = tt
  are_answered (Happening.Claimed n q origin t ∷ h) right =
      (right.0.3, before_on (latest_at h) (as_nanos t) (times h) right.1 (none_after h right.2), are_answered h right.2)
  are_answered (e ∷ h) right = are_answered h right.2

  -- a claim that goes on may be proved at once
  pub proved_at_once : IsTotalOrder b.made.directory.cmp → (h : List (Happening C S)) (n : ℕ) (p : C) (origin : Origin) (t : Duration) →
      AreRight b (Happening.Claimed n p origin t ∷ h) →
      no_proof b (Happening.Claimed n p origin t ∷ h) n p (as_nanos t) ≡ None
  proved_at_once total h n p origin t right =
      ap (λ x. no_proof_of x (may_come b (e ∷ h) p (as_nanos t))) claims
      ∙ ap (λ x. no_proof_of true x) (comes ∙ right.0.2)
    where
      e : Happening C S
      e = Happening.Claimed n p origin t

      links : link_count (e ∷ h) ≡ link_count h
      links = links_stay e h refl refl refl (λ way. refl)

      inbound : inbound_count (e ∷ h) ≡ inbound_count h
      inbound = inbound_stays e h refl refl

      outbound : outbound_count (e ∷ h) ≡ outbound_count h
      outbound = outbound_stays e h refl refl (λ way. refl)

      linked : link b p (e ∷ h) ≡ link b p h
      linked = link_stays b.made.directory p e h refl refl refl

      comes : may_come b (e ∷ h) p (as_nanos t) ≡ may_come b h p (as_nanos t)
      comes i = (nat_lt (links i) b.pace.links && ((nat_lt (outbound i) b.pace.outbound || nat_lt (inbound i) b.pace.inbound)
          && (is_some (unless_linked (linked i) (grant_stays b.made.directory p e h refl refl i)) && is_eligible b h p (as_nanos t))))
          || ((nat_lt (links i) b.pace.links && nat_lt (inbound i) b.pace.inbound) && (not (is_some (linked i))
          && may_listen_at b.made.directory (world_after b.made.directory (calls_of h)) p (as_nanos t)))

      itself : (n == n) ≡ true
      itself = grind (arith, nat_tests)

      there : (o : Option (Arrival C)) → IsSomeAnd o (λ a. a.claim ≡ None) →
          is_claim_by b.made.directory.cmp p (stream_after false (Some p) o) ≡ true
      there None some = absurd some
      there (Some a) some = ap is_eq (tied_itself total p)

      claims : is_claim_by b.made.directory.cmp p (stream_at n (e ∷ h)) ≡ true
      claims = ap (is_claim_by b.made.directory.cmp p) (stream_later n e h refl
          ∙ ap (λ x. stream_after false (if◌then◌else◌ {A = Option C} x (Some p) None) (stream_at n h)) itself)
          ∙ there (stream_at n h) right.0.0
