-- How many peers a directory holds, by the replies to a run.
use Rattle.std.proofs.Common.{◌≡◌, ℕ, Bool, true, false, List, [], ◌∷◌, refl, sym, ◌∙◌, subst, arith}
use Rattle.std.specs.Prelude.{if◌then◌else◌}
use Rattle.std.specs.Cmp.{IsTotalOrder}
use Rattle.std.proofs.lemmas.Bool.{and_parts}
use Rattle.p2p_tracker.specs.Calls.{Settings, Call}
use Rattle.p2p_tracker.specs.Calls.Question.{NumberTracked}
use Rattle.p2p_tracker.specs.Calls.Call.{Connect, Release, Ask}
use Rattle.p2p_tracker.specs.Answers.{IsNumberTracked, is_present_in, may_connect, may_release}
use Rattle.p2p_directory.specs.Run
use Rattle.p2p_directory.specs.declared.run.commands.Reply.{Reply}
use Rattle.p2p_directory.specs.declared.run.commands.Reply.TheVariants as reply
use Rattle.p2p_directory.specs.Laws.BoundRuns.{IsFew, TellsFew, NameAtMost, KeepBound}
use Rattle.p2p_directory.proofs.LawsOfRuns.Bounded
use Rattle.p2p_directory.proofs.LawsOfRuns.GrantRuns.{answered}

module _ {C S : Type 0} (s : Settings C S) (n : ℕ) (total : IsTotalOrder s.cmp) where
  -- the number that is tracked
  tracked_few : (before : List (Call C S)) (count : ℕ) → NameAtMost s n before →
      IsNumberTracked s (Run.world_after s before) count → IsFew s n before count
  tracked_few before count h number = λ qs rs persistent left_over.
      let w = Run.world_after s before in
      let few = Bounded.retained_few s n total before h in
      let most = Bounded.some_bounded s n total w few.0 few.1 number.0 qs rs number.1.sorted
      (λ p e. (and_parts (is_present_in s w p) _ (sym (number.1.members p) ∙ e)).0) persistent left_over in
      omega (arith, most, number.2)

  -- only a question for the number is replied it
  count_few : (before : List (Call C S)) (c : Call C S) (count : ℕ) → NameAtMost s n before →
      Run.Replies s (Run.event_of s before c) (Run.world_after s before)
      (Run.world_after s (c ∷ before)) c (reply.Tracked count) → IsFew s n before count
  count_few before (Ask NumberTracked) count h a = tracked_few before count h a
  count_few before (Connect q dialer) count h a = go (may_connect s (Run.world_after s before) q) a
    where
      go : (b : Bool) → ◌≡◌ {A = Reply C S} (reply.Tracked count) (if b then reply.Connect else reply.NotReserved) → IsFew s n before count
      go true e = absurd (cc)
      go false e = absurd (cc)
  count_few before (Release q) count h a = go (may_release s (Run.world_after s before) q) a
    where
      go : (b : Bool) → ◌≡◌ {A = Reply C S} (reply.Tracked count) (if b then reply.Release else reply.NotHeld) → IsFew s n before count
      go true e = absurd (cc)
      go false e = absurd (cc)
  count_few before c count h a = absurd (first_of (cc, search))

  few : (before : List (Call C S)) (c : Call C S) (r : Reply C S) → NameAtMost s n before →
      Run.IsAnswer s before c r → TellsFew s n before r
  few before c r h a = λ count is. count_few before c count h
      (answered s before c (reply.Tracked count) refl (subst (Run.IsAnswer s before c) is a))

  keep_bound_from : (before cs : List (Call C S)) (rs : List (Reply C S)) → Run.AreAnswers s before cs rs → KeepBound s n before cs rs
  keep_bound_from before (c ∷ cs) (r ∷ rs) answers =
      ((λ h. (Bounded.bounded s n total before h, few before c r h answers.0)), keep_bound_from (Run.next s before c r) cs rs answers.1)
  keep_bound_from before cs rs answers = λ h. Bounded.bounded s n total before h

  -- by the replies to a whole run, the present keys and what is told of their number are within the bound
  pub keep_bound : (cs : List (Call C S)) (rs : List (Reply C S)) → Run.AreAnswers s [] cs rs → KeepBound s n [] cs rs
  keep_bound cs rs answers = keep_bound_from [] cs rs answers
