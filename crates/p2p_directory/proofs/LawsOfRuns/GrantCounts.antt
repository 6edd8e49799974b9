-- How often a peer is granted within a while, by the replies to a run.
use Rattle.std.proofs.Common.{◌≡◌, ℕ, suc, ◌+◌, ◌*◌, ◌≤◌, ◌<◌, Bool, true, false, List, ◌∷◌, Option}
use Rattle.std.proofs.Common.{Some, None, inl, inr, refl, ap, arith}
use Rattle.std.specs.Prelude.{◌⊎◌, if◌then◌else◌, nat_le, ◌&&◌, IfSome}
use Rattle.std.specs.Duration.{max_nanos}
use Rattle.std.proofs.lemmas.Bool.{leb-true, and_parts}
use Rattle.std.proofs.Math.Nat.{suc-mul}
use Rattle.p2p_tracker.specs.Calls.{Settings, Call}
use Rattle.p2p_directory.specs.declared.run.commands.Reply.{Reply}
use Rattle.p2p_directory.specs.Laws.Grants.{moment_or}
use Rattle.p2p_directory.specs.Laws.GrantRuns.{granted_by, IsGrantCooledAfter, last_after}
use Rattle.p2p_directory.specs.Laws.GrantRuns.{RunKeepsCooldown}
use Rattle.p2p_directory.specs.Laws.GrantCounts.{number_within, RunGrantsFew, KeepGrantsFew}
use Rattle.p2p_directory.proofs.LawsOfRuns.BlockRuns.{granted_then}

module _ {C S : Type 0} (s : Settings C S) (t w : ℕ) (early : t + w < max_nanos) where
  -- the last of n grants comes no earlier than their cooldowns after t, all but one
  abbrev IsSpread : ℕ → Option (ℕ × ℕ) → ℕ → Type 0
  IsSpread now None n = n ≡ 0
  IsSpread now (Some last) n =
      (last.0 ≤ now) × ((n ≡ 0) ⊎ (n * s.cooldown + t ≤ last.0 + s.cooldown))

  -- the grants so far are few, and spread
  abbrev AreFew : ℕ → Option (ℕ × ℕ) → ℕ → Type 0
  AreFew now last n = (n * s.cooldown ≤ w + s.cooldown) × IsSpread now last n

  first_one : (u : ℕ × ℕ) (n : ℕ) → t ≤ u.0 → n ≡ 0 → suc n * s.cooldown + t ≤ u.0 + s.cooldown
  first_one u n from none = let one : suc n * s.cooldown ≡ 1 * s.cooldown =
      ap (λ k. suc k * s.cooldown) none in omega (arith, from, one)

  one_more : (u : ℕ × ℕ) (last : Option (ℕ × ℕ)) (now n : ℕ) → t ≤ u.0 → u.0 ≤ t + w → now ≤ u.0 →
      IsGrantCooledAfter s (Some u) last → IsSpread now last n →
      suc n * s.cooldown + t ≤ u.0 + s.cooldown
  one_more u None now n from to le cooled none = first_one u n from none
  one_more u (Some last) now n from to le cooled (before, inl none) = first_one u n from none
  one_more u (Some last) now n from to le cooled (before, inr spread) =
      let after : last.0 + s.cooldown ≤ u.0 = omega (arith, cooled, to, early) in
      omega (arith, after, spread, suc-mul n s.cooldown)

  not_more : (u : ℕ × ℕ) (last : Option (ℕ × ℕ)) (now n : ℕ) → now ≤ u.0 → IsSpread now last n →
      (n ≡ 0) ⊎ (n * s.cooldown + t ≤ u.0 + s.cooldown)
  not_more u None now n le none = inl none
  not_more u (Some last) now n le (before, inl none) = inl none
  not_more u (Some last) now n le (before, inr spread) = inr (omega (arith, le, before, spread))

  few_next : (now u n : ℕ) (granted last : Option (ℕ × ℕ)) → now ≤ u →
      IfSome granted (λ grant. grant.0 ≡ u) →
      IsGrantCooledAfter s granted last → AreFew now last n →
      AreFew u (last_after s granted last) (number_within t w granted n)
  few_next now u n None None le on_time cooled few = few
  few_next now u n None (Some last) le on_time cooled few =
      (few.0, (omega (arith, le, few.1.0), few.1.1))
  few_next now u n (Some grant) last le on_time cooled few =
      go (nat_le t grant.0 && nat_le grant.0 (t + w)) refl
    where
      go : (b : Bool) → (nat_le t grant.0 && nat_le grant.0 (t + w)) ≡ b →
          AreFew u (Some grant) (if b then suc n else n)
      go true e =
          let parts = and_parts (nat_le t grant.0) (nat_le grant.0 (t + w)) e in
          let from : t ≤ grant.0 = leb-true t grant.0 parts.0 in
          let to : grant.0 ≤ t + w = leb-true grant.0 (t + w) parts.1 in
          let spread = one_more grant last now n from to (omega (arith, le, on_time)) cooled
          few.1 in
          (omega (arith, spread, to), (omega (arith, on_time), inr spread))
      go false e = (
        few.0,
        (omega (arith, on_time), not_more grant last now n (omega (arith, le, on_time)) few.1),
      )

  few_from : (p : C) (now n : ℕ) (last : Option (ℕ × ℕ)) (cs : List (Call C S))
      (rs : List (Reply C S)) →
      AreFew now last n → RunKeepsCooldown s p now last cs rs → RunGrantsFew s p t w now n cs rs
  few_from p now n last (c ∷ cs) (r ∷ rs) few kept = λ forward.
      let more = few_next now (moment_or s now c) n (granted_by s p c r) last forward
      (granted_then s p now c r) (kept forward).0 few in (
        more.0,
        few_from p (moment_or s now c) (number_within t w (granted_by s p c r) n)
            (last_after s (granted_by s p c r) last) cs rs more (kept forward).1,
      )
  few_from p now n last cs rs few kept = tt

module _ {C S : Type 0} (s : Settings C S) where
  -- grants that keep the cooldown are few within any while
  pub keep_few : (p : C) (cs : List (Call C S)) (rs : List (Reply C S)) →
      RunKeepsCooldown s p 0 None cs rs → KeepGrantsFew s p cs rs
  keep_few p cs rs kept =
      λ t w early. few_from s t w early p 0 0 None cs rs (omega arith, refl) kept
