-- Infos in another order, by the replies to a run.
use Rattle.std.proofs.Common.{◌≡◌, ◌≤◌, true, false, List, [], ◌∷◌, ◌++◌, inl, inr, sym, ◌∙◌, ap, subst}
use Rattle.std.specs.Prelude.{if◌then◌else◌}
use Rattle.std.proofs.lemmas.List.{append-nil, append_assoc}
use Rattle.p2p_discovery.specs.declared.discovery.Info.{Info}
use Rattle.p2p_tracker.specs.Calls.{Settings, Call}
use Rattle.p2p_tracker.specs.Calls.Call.{Update}
use Rattle.p2p_tracker.specs.World
use Rattle.p2p_tracker.specs.World.{World}
use Rattle.p2p_directory.specs.Run
use Rattle.p2p_directory.specs.declared.run.commands.Reply.{Reply}
use Rattle.p2p_directory.specs.declared.run.commands.Reply.TheVariants as reply
use Rattle.p2p_directory.specs.Laws.Order.{HaveSame, IsUnambiguous}
use Rattle.p2p_directory.specs.Laws.OrderRuns.{infos_together, with_updates, IsSameAfter, IsFreeAfter, AreFreeFrom, KeepOrder}
use Rattle.p2p_directory.proofs.Definitions.Law
use Rattle.p2p_directory.proofs.LawsOfRuns.Ordered

module _ {C S : Type 0} (s : Settings C S) (least : 1 ≤ s.max_sets) where
  -- after these accepted calls all stands as it does
  abbrev Alike : List (Call C S) → List (Call C S) → Type 0
  Alike before other = Run.world_after s before ≡ Run.world_after s other

  -- one more call
  more_alike : (before other : List (Call C S)) (c : Call C S) → Alike before other → Alike (c ∷ before) (c ∷ other)
  more_alike before other c alike = Ordered.later_alike s least (c ∷ []) before other alike

  next_alike : (before other : List (Call C S)) (c : Call C S) (r : Reply C S) → Alike before other → Alike (Run.next s before c r) (Run.next s other c r)
  next_alike before other c r alike = elim (Run.was_made r) as (λ b. Alike (if b then c ∷ before else before) (if b then c ∷ other else other)) [
    | true ↦ more_alike before other c alike
    | false ↦ alike
  ]

  answer_alike : (before other : List (Call C S)) (c : Call C S) (r : Reply C S) → Alike before other → Run.IsAnswer s before c r → Run.IsAnswer s other c r
  answer_alike before other c r alike a =
      let does = Law.does_same s before c least ∙ ap (λ (w : World C S). World.event_in s w.sets w c) alike ∙ sym (Law.does_same s other c least) in
      let later = more_alike before other c alike in
      subst (λ e. Run.MayReply s e (Run.world_after s other) (Run.world_after s (c ∷ other)) c r) does
      (subst (λ w. Run.MayReply s (Run.event_of s before c) w (Run.world_after s (c ∷ other)) c r) alike
      (subst (λ w. Run.MayReply s (Run.event_of s before c) (Run.world_after s before) w c r) later a))

  same_after : (before other cs : List (Call C S)) (rs : List (Reply C S)) → Alike before other →
      Run.AreAnswers s before cs rs → IsSameAfter s before other cs rs
  same_after before other (c ∷ cs) (r ∷ rs) alike answers = (
    alike,
    answer_alike before other c r alike answers.0,
    same_after (Run.next s before c r) (Run.next s other c r) cs rs (next_alike before other c r alike)
        answers.1,
  )
  same_after before other cs rs alike answers = alike

  -- updates one after the other are one
  one_update : (first before : List (Call C S)) (infos given : List (Info C S)) →
      Run.world_after s before ≡ World.step s (Run.world_after s first) (Update infos) →
      Run.world_after s (Update given ∷ before) ≡ World.step s (Run.world_after s first) (Update (infos ++ given))
  one_update first before infos given at =
      Law.recomputed_is_one_step s least before (Update given)
      ∙ ap (λ w. World.step s w (Update given)) at
      ∙ Ordered.updates_join s (Run.world_after s first) infos given

  updates_are_one : (first before : List (Call C S)) (infos : List (Info C S)) (more : List (List (Info C S))) →
      Run.world_after s before ≡ World.step s (Run.world_after s first) (Update infos) →
      Run.world_after s (with_updates s more before) ≡ World.step s (Run.world_after s first) (Update (infos ++ infos_together s more))
  updates_are_one first before infos [] at = at ∙ ap (λ xs. World.step s (Run.world_after s first) (Update xs)) (sym (append-nil infos))
  updates_are_one first before infos (given ∷ more) at =
      updates_are_one first (Update given ∷ before) (infos ++ given) more (one_update first before infos given at)
      ∙ ap (λ xs. World.step s (Run.world_after s first) (Update xs)) (append_assoc infos given (infos_together s more))

  -- whatever updates give the infos
  rearranged : (first before : List (Call C S)) (infos some : List (Info C S)) (more : List (List (Info C S))) →
      Run.world_after s before ≡ World.step s (Run.world_after s first) (Update infos) →
      IsUnambiguous s infos → HaveSame infos (infos_together s (some ∷ more)) → Alike before (with_updates s (some ∷ more) first)
  rearranged first before infos some more at one have =
      at ∙ Ordered.updates_alike s (Run.world_after s first) infos (infos_together s (some ∷ more)) have one
      ∙ sym (updates_are_one first (Update some ∷ first) some more (Law.recomputed_is_one_step s least first (Update some)))

  pub reordered : (calls later first : List (Call C S)) (given some : List (Info C S))
      (more others : List (List (Info C S))) →
      calls ≡ later ++ with_updates s (given ∷ more) first →
      IsUnambiguous s (infos_together s (given ∷ more)) →
      HaveSame (infos_together s (given ∷ more)) (infos_together s (some ∷ others)) →
      Run.world_after s (later ++ with_updates s (some ∷ others) first) ≡ Run.world_after s calls
  reordered calls later first given some more others is one have =
      let before = with_updates s (given ∷ more) first in
      sym (ap (Run.world_after s) is
      ∙ Ordered.later_alike s least later before (with_updates s (some ∷ others) first)
      (rearranged first before (infos_together s (given ∷ more)) some others
      (updates_are_one first (Update given ∷ first) given more
      (Law.recomputed_is_one_step s least first (Update given))) one have))

  -- an update is replied that it was done
  updated : (before : List (Call C S)) (given : List (Info C S)) (r : Reply C S) → Run.IsAnswer s before (Update given) r → r ≡ reply.UpdatePeers
  updated before given r (inl (refused, may)) = absurd may
  updated before given r (inr is) = is

  -- what holds before an update, if infos were given by updates directly after `first`
  abbrev IsFrom : List (Call C S) → List (Info C S) → List (Call C S) → Type 0
  IsFrom first infos before = (given : List (Info C S)) →
      Run.world_after s (Update given ∷ before) ≡ World.step s (Run.world_after s first) (Update (infos ++ given))

  free_from : (first : List (Call C S)) (infos : List (Info C S)) (before cs : List (Call C S))
      (rs : List (Reply C S)) → IsFrom first infos before → Run.AreAnswers s before cs rs →
      AreFreeFrom s first infos before cs rs
  free_from first infos before (Update given ∷ cs) (r ∷ rs) from answers =
      subst (λ x. Run.AreAnswers s (Run.next s before (Update given) x) cs rs →
      IsFreeAfter s first (infos ++ given) (Run.next s before (Update given) x) cs rs
      × AreFreeFrom s first (infos ++ given) (Run.next s before (Update given) x) cs rs)
      (sym (updated before given r answers.0))
      (λ more. (
        λ one some others have. same_after (Update given ∷ before) (with_updates s (some ∷ others) first) cs rs
            (rearranged first (Update given ∷ before) (infos ++ given) some others (from given) one have) more,
        free_from first (infos ++ given) (Update given ∷ before) cs rs
            (λ next. one_update first (Update given ∷ before) (infos ++ given) next (from given)) more,
      ))
      answers.1
  free_from first infos before cs rs from answers = tt

  keep_order_from : (before cs : List (Call C S)) (rs : List (Reply C S)) → Run.AreAnswers s before cs rs → KeepOrder s before cs rs
  keep_order_from before [] rs answers = tt
  keep_order_from before (c ∷ cs) [] answers = tt
  keep_order_from before (c ∷ cs) (r ∷ rs) answers = (
    free_from before [] before (c ∷ cs) (r ∷ rs) (λ given. Law.recomputed_is_one_step s least before (Update given)) answers,
    keep_order_from (Run.next s before c r) cs rs answers.1,
  )

  -- by the replies to a whole run, the order of infos is of no matter
  pub keep_order : (cs : List (Call C S)) (rs : List (Reply C S)) → Run.AreAnswers s [] cs rs → KeepOrder s [] cs rs
  keep_order cs rs answers = keep_order_from [] cs rs answers
