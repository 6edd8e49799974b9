-- How many signatures decide of what waits on a link.
use Rattle.std.proofs.Common.{◌≡◌, ◌≤◌, ℕ, Bool, true, false, List, [], ◌∷◌, Option, Some, None, refl, sym, subst, arith}
use Rattle.std.specs.Prelude.{if◌then◌else◌, is_some, length, nat_lt}
use Rattle.std.specs.Duration.{as_nanos}
use Rattle.std.specs.Option.{IsSomeAnd}
use Rattle.std.specs.declared.time.Duration.{Duration}
use Rattle.std.proofs.lemmas.Bool.Decides.{nat_tests}
use Rattle.p2p_discovery.specs.declared.discovery.Info.{Info}
use Rattle.p2p_discovery.specs.Judgement.{Judge, refusal_if, to_verify, judged_before}
use Rattle.p2p_driver.specs.Drivers.{Base, IsRight, IsHeard, link, standing}
use Rattle.p2p_driver.specs.Frames.{Cause, Outcome, IsWaiting}
use Rattle.p2p_driver.specs.Happenings.{Happening, calls_of}
use Rattle.p2p_driver.specs.declared.links.Held.{Held}
use Rattle.p2p_driver.specs.declared.links.Phase.{Phase}
use Rattle.p2p_driver.specs.declared.links.Phase.TheVariants as phase
use Rattle.p2p_driver.specs.declared.links.Waiting.{Waiting}
use Rattle.p2p_driver.proofs.Waiting.{waits}

-- no more decide than there are
few_before : {C S : Type 0} (judge : Judge C S) (now : ℕ) (infos : List (Info C S)) → length (judged_before judge now infos) ≤ length infos
few_before judge now [] = omega arith
few_before judge now (i ∷ is) = go (is_some (refusal_if judge true now i)) (few_before judge now is)
  where
    go : (b : Bool) → length (judged_before judge now is) ≤ length is →
        length (if b then [] else i ∷ judged_before judge now is) ≤ length (i ∷ is)
    go true few = omega arith
    go false few = omega (arith, few)

-- .. than are taken at a time
few : {C S : Type 0} (judge : Judge C S) (now : ℕ) (infos : List (Info C S)) → length (to_verify judge now infos) ≤ judge.greatest_count
few judge now infos = go (nat_lt judge.greatest_count (length infos)) refl (few_before judge now infos)
  where
    go : (b : Bool) → nat_lt judge.greatest_count (length infos) ≡ b → length (judged_before judge now infos) ≤ length infos →
        length (if b then [] else judged_before judge now infos) ≤ judge.greatest_count
    go true is few = omega arith
    go false is few = grind (arith, nat_tests)

module _ {C S : Type 0} (b : Base C S) (h : List (Happening C S)) (n : ℕ) (p : C) (t : Duration) (owed : ℕ) (cause : Cause)
    (w : Waiting) (right : IsRight b h (Happening.Heard n p t owed cause (Outcome.Waits w))) where
  -- what waits on a link in a phase
  in_phase : (ph : Phase) → IsSomeAnd (link b p h) (λ held. held.phase ≡ ph) →
      IsWaiting b.made.directory.cmp b.wire (standing b []).limits (standing b []).judge ph p w
  in_phase ph is = go (link b p h) right is
    where
      go : (o : Option Held) → IsSomeAnd o (IsHeard b h n p t owed cause (Outcome.Waits w)) → IsSomeAnd o (λ held. held.phase ≡ ph) →
          IsWaiting b.made.directory.cmp b.wire (standing b []).limits (standing b []).judge ph p w
      go None right is = absurd right
      go (Some held) right is = subst (λ ph. IsWaiting b.made.directory.cmp b.wire (standing b []).limits (standing b []).judge ph p w) is
          (waits b (calls_of h) p held.phase held.owed held.waiting cause w right.comes)

  pub of_greeting : IsSomeAnd (link b p h) (λ held. held.phase ≡ phase.Greeting) → w.count ≡ 1
  of_greeting is = (in_phase phase.Greeting is).4

  pub of_list : IsSomeAnd (link b p h) (λ held. held.phase ≡ phase.Open) → w.count ≤ b.made.verifier.greatest_count
  of_list is = let may = in_phase phase.Open is in
      subst (λ k. k ≤ b.made.verifier.greatest_count) (sym may.3) (few (standing b []).judge (as_nanos w.wall) may.0)
