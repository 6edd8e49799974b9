-- Grants and blocks by the replies to a run.
use Rattle.std.proofs.Common.{◌≡◌, ℕ, ◌≤◌, Bool, true, false, List, [], ◌∷◌, Option, Some, None, inl, inr, refl, sym, ◌∙◌, ap, subst, arith}
use Rattle.std.specs.Prelude.{if◌then◌else◌}
use Rattle.std.specs.Option.{option_map}
use Rattle.std.specs.List.{list_any}
use Rattle.p2p_tracker.specs.Calls.{Settings, SetAt, Call, Grant, Event, moment_of}
use Rattle.p2p_tracker.specs.Calls.Call.{Dial, Listen, Block, ForgetCooled}
use Rattle.p2p_tracker.specs.Calls.Event.{Granted, Blocked, Forgot}
use Rattle.p2p_tracker.specs.Answers.{was_granted, was_blocked}
use Rattle.p2p_tracker.specs.History
use Rattle.p2p_tracker.specs.History.{last_with, found_with, unless_ended, last_unless_ended}
use Rattle.p2p_tracker.specs.World
use Rattle.p2p_tracker.specs.World.{World}
use Rattle.p2p_directory.specs.Laws.Grants.{IsSpaced, IsSpacedUnlessForgotten, or_now, moment_or, NeverGoBack}
use Rattle.p2p_directory.specs.Run
use Rattle.p2p_directory.specs.declared.run.commands.Reply.{Reply}
use Rattle.p2p_directory.specs.declared.run.commands.Reply.TheVariants as reply
use Rattle.p2p_directory.specs.Laws.GrantRuns.{granted_by, forgets_by, blocked_by, IsGrantCooledAfter, last_after}
use Rattle.p2p_directory.specs.Laws.GrantRuns.{kept_after, RunKeepsCooldownUnlessForgotten, RunKeepsCooldown}
use Rattle.p2p_directory.proofs.Definitions.Steps
use Rattle.p2p_directory.proofs.Definitions.Steps.{Makes, makes}
use Rattle.p2p_directory.proofs.LawsOfRuns.Spacing

module _ {C S : Type 0} (s : Settings C S) where
  -- WHAT A REPLY TELLS OF THE EVENT

  -- a reply to a call that was accepted answers it
  pub answered : (before : List (Call C S)) (c : Call C S) (r : Reply C S) → Run.was_made r ≡ true →
      Run.IsAnswer s before c r → Run.Replies s (Run.event_of s before c) (Run.world_after s before)
      (Run.world_after s (c ∷ before)) c r
  answered before c r made (inl (refused, may)) = absurd (let b = sym made ∙ ap Run.was_made refused in cc)
  answered before c r made (inr a) = a

  -- when the grant was made, and with which draw
  abbrev pub made : Grant → ℕ × ℕ
  made grant = (grant.t, grant.draw)

  abbrev pub moment_by : C → Event C S → Option (ℕ × ℕ)
  moment_by p e = option_map made (History.grant_by s p e)

  -- what an event says, where its call was accepted
  abbrev pub if_accepted : {A : Type 0} → Bool → Option A → Option A
  if_accepted accepted o = if accepted then o else None

  nothing : {A : Type 0} (b : Bool) → ◌≡◌ {A = Option A} None (if_accepted b None)
  nothing true = refl
  nothing false = refl

  -- the reply says whether p was granted, and when; and until when it was blocked
  pub record IsTold (p : C) (c : Call C S) (r : Reply C S) (e : Event C S) : Type 0 where
    pub granted : granted_by s p c r ≡ if_accepted (Run.was_made r) (moment_by p e)
    pub blocked : blocked_by s p c r ≡ if_accepted (Run.was_made r) (History.block_by s p e)

  -- a reply to a call that neither grants nor blocks
  nothing_told : (p : C) (e : Event C S) (w v : World C S) (c : Call C S) (r : Reply C S) → was_granted e ≡ false → was_blocked e ≡ false →
      Run.MayReply s e w v c r → (granted_by s p c r ≡ None) × (blocked_by s p c r ≡ None)
  nothing_told p e w v (Dial q t draw) (reply.Dial true) not_granted not_blocked (inl (refused, may)) = absurd (cc)
  nothing_told p e w v (Dial q t draw) (reply.Dial true) not_granted not_blocked (inr is) = absurd (let said = is ∙ ap reply.Dial not_granted in cc)
  nothing_told p e w v (Listen q t draw) (reply.Listen true) not_granted not_blocked (inl (refused, may)) = absurd (cc)
  nothing_told p e w v (Listen q t draw) (reply.Listen true) not_granted not_blocked (inr is) = absurd (let said = is ∙ ap reply.Listen not_granted in cc)
  nothing_told p e w v (Block q t) (reply.Block true) not_granted not_blocked (inl (refused, may)) = absurd (cc)
  nothing_told p e w v (Block q t) (reply.Block true) not_granted not_blocked (inr is) = absurd (let said = is ∙ ap reply.Block not_blocked in cc)
  nothing_told p e w v c r not_granted not_blocked a = (refl, refl)

  granted_alike : (p q : C) (grant : Grant) → (if History.same s q p then Some (made grant) else None) ≡ moment_by p (Granted q grant)
  granted_alike p q grant = elim (History.same s q p) as
      (λ b. (if b then Some (made grant) else None) ≡ option_map made (if b then Some grant else None))
      [ true ↦ refl | false ↦ refl ]

  -- by both replies that a call may get
  either_told : (p : C) (e : Event C S) (w v : World C S) {c d : Call C S} {r : Reply C S} (said : Reply C S) → c ≡ d → Run.MayReply s e w v c r →
      (Run.Replies s e w v d r → r ≡ said) → IsTold p d reply.OutOfMemory e → IsTold p d said e → IsTold p c r e
  either_told p e w v {c = c} {d = d} {r = r} said same a is refused accepted =
      subst (λ x. IsTold p x r e) (sym same) (go (subst (λ x. Run.MayReply s e w v x r) same a))
    where
      go : Run.MayReply s e w v d r → IsTold p d r e
      go (inl out) = subst (λ x. IsTold p d x e) (sym out.0) refused
      go (inr x) = subst (λ x. IsTold p d x e) (sym (is x)) accepted

  told : (p : C) (w v : World C S) (c : Call C S) (r : Reply C S) (e : Event C S) → Makes c e → Run.MayReply s e w v c r → IsTold p c r e
  told p w v c r (Granted q grant) (inl m) a =
      either_told p (Granted q grant) w v (reply.Dial true) m a (λ x. x)
      (record { granted = refl; blocked = refl }) (record { granted = granted_alike p q grant; blocked = refl })
  told p w v c r (Granted q grant) (inr m) a =
      either_told p (Granted q grant) w v (reply.Listen true) m a (λ x. x)
      (record { granted = refl; blocked = refl }) (record { granted = granted_alike p q grant; blocked = refl })
  told p w v c r (Blocked q t) m a =
      either_told p (Blocked q t) w v (reply.Block true) m a (λ x. x)
      (record { granted = refl; blocked = refl }) (record { granted = refl; blocked = refl })
  told p w v c r e m a =
      let n = nothing_told p e w v c r refl refl a in
      record { granted = n.0 ∙ nothing (Run.was_made r); blocked = n.1 ∙ nothing (Run.was_made r) }

  pub told_after : (p : C) (before : List (Call C S)) (c : Call C S) (r : Reply C S) → Run.IsAnswer s before c r → IsTold p c r (Run.event_of s before c)
  told_after p before c r a =
      told p (Run.world_after s before) (Run.world_after s (c ∷ before)) c r (Run.event_of s before c)
      (makes s (History.taken_sets s (World.past s before)) (Run.world_after s before) c) a

  -- BLOCKS

  -- a later now is as good
  later_back : (cs : List (Call C S)) (now later : ℕ) → now ≤ later → NeverGoBack s now cs → NeverGoBack s later cs
  later_back [] now later le on = tt
  later_back (c ∷ cs) now later le on = go (moment_of c) (λ x. later_back cs now later le x) on
    where
      go : (o : Option ℕ) → (NeverGoBack s now cs → NeverGoBack s later cs) →
          (or_now now o ≤ now) × NeverGoBack s (or_now now o) cs →
          (or_now later o ≤ later) × NeverGoBack s (or_now later o) cs
      go None more on = (omega arith, more on.1)
      go (Some t) more on = (omega (arith, on.0), on.1)

  -- a call that comes no earlier than now
  one_forward : (c : Call C S) (cs : List (Call C S)) (now : ℕ) → now ≤ moment_or s now c → NeverGoBack s now cs → NeverGoBack s (moment_or s now c) (c ∷ cs)
  one_forward c cs now le on = go (moment_of c) le
    where
      go : (o : Option ℕ) → now ≤ or_now now o → (or_now (or_now now o) o ≤ or_now now o) × NeverGoBack s (or_now (or_now now o) o) cs
      go None le = (omega arith, on)
      go (Some t) le = (omega arith, later_back cs now t le on)

  next_forward : (c : Call C S) (cs : List (Call C S)) (now : ℕ) (accepted : Bool) → now ≤ moment_or s now c →
      NeverGoBack s now cs → NeverGoBack s (moment_or s now c) (if accepted then c ∷ cs else cs)
  next_forward c cs now true le on = one_forward c cs now le on
  next_forward c cs now false le on = later_back cs now (moment_or s now c) le on

  -- COOLDOWN

  -- a call to forget is always accepted, and no other call forgets
  abbrev ForgetsAlike : Bool → Call C S → Event C S → Type 0
  ForgetsAlike accepted c e = (grant : Grant) → forgets_by s (made grant) c ≡ (if accepted then History.is_forgetting s grant e else false)

  none_forgotten : (accepted : Bool) (c : Call C S) (e : Event C S) →
      ((grant : Grant) → forgets_by s (made grant) c ≡ false) →
      ((grant : Grant) → History.is_forgetting s grant e ≡ false) → ForgetsAlike accepted c e
  none_forgotten true c e left right = λ grant. left grant ∙ sym (right grant)
  none_forgotten false c e left right = left

  -- the reply to a call to forget
  forgets_told : (u : ℕ) (w v : World C S) (r : Reply C S) → Run.MayReply s (Forgot u) w v (ForgetCooled u) r →
      ForgetsAlike (Run.was_made r) (ForgetCooled u) (Forgot u)
  forgets_told u w v (reply.ForgetCooled count) a = λ grant. refl
  forgets_told u w v r (inl (refused, may)) = absurd may
  forgets_told u w v r (inr a) = absurd a

  forgets_after : (sets : List (SetAt C)) (w v : World C S) (c : Call C S) (r : Reply C S) →
      Run.MayReply s (World.event_in s sets w c) w v c r →
      ForgetsAlike (Run.was_made r) c (World.event_in s sets w c)
  forgets_after sets w v (ForgetCooled u) r a = forgets_told u w v r a
  forgets_after sets w v c r a = none_forgotten (Run.was_made r) c (World.event_in s sets w c) (λ grant. refl) (go (World.event_in s sets w c) (makes s sets w c))
    where
      go : (e : Event C S) → Makes c e → (grant : Grant) → History.is_forgetting s grant e ≡ false
      go (Forgot u) m grant = absurd (cc)
      go e m grant = refl

  -- the last grant of p in a past, and the last unless it was forgotten
  abbrev last_in : C → List (Event C S) → Option (ℕ × ℕ)
  last_in p h = option_map (λ found. made found.0) (last_with (History.grant_by s p) h)

  abbrev kept_in : C → List (Event C S) → Option (ℕ × ℕ)
  kept_in p h = option_map made (last_unless_ended (History.grant_by s p) (History.is_forgetting s) h)

  -- after one more reply
  last_more : (p : C) (before : List (Call C S)) (c : Call C S) (accepted : Bool) →
      last_after s (if_accepted accepted (moment_by p (Run.event_of s before c))) (last_in p (World.past s before))
      ≡ last_in p (World.past s (if accepted then c ∷ before else before))
  last_more p before c false = refl
  last_more p before c true = go (History.grant_by s p (Run.event_of s before c)) (last_with (History.grant_by s p) (World.past s before))
    where
      go : (given : Option Grant) (found : Option (Grant × List (Event C S))) →
          last_after s (option_map made given) (option_map (λ found. made found.0) found)
          ≡ option_map (λ found. made found.0) (found_with given (Run.event_of s before c) found)
      go (Some grant) found = refl
      go None None = refl
      go None (Some found) = refl

  kept_more : (p : C) (before : List (Call C S)) (c : Call C S) (accepted : Bool) → ForgetsAlike accepted c (Run.event_of s before c) →
      kept_after s c (if_accepted accepted (moment_by p (Run.event_of s before c)))
      (kept_in p (World.past s before)) ≡ kept_in p (World.past s (if accepted then c ∷ before else before))
  kept_more p before c false alike = go (last_unless_ended (History.grant_by s p) (History.is_forgetting s) (World.past s before))
    where
      go : (kept : Option Grant) → kept_after s c None (option_map made kept) ≡ option_map made kept
      go None = refl
      go (Some grant) = ap (λ b. if b then None else Some (made grant)) (alike grant)
  kept_more p before c true alike =
      go (History.grant_by s p (Run.event_of s before c)) (last_unless_ended (History.grant_by s p) (History.is_forgetting s) (World.past s before))
      ∙ sym (ap (option_map made) (Steps.lasting_step (History.grant_by s p) (History.is_forgetting s) (Run.event_of s before c) (World.past s before)))
    where
      go : (given kept : Option Grant) → kept_after s c (option_map made given) (option_map made kept)
          ≡ option_map made
          (Steps.lasted given (λ grant. History.is_forgetting s grant (Run.event_of s before c)) kept)
      go (Some grant) kept = refl
      go None None = refl
      go None (Some grant) =
          ap (λ b. if b then None else Some (made grant)) (alike grant)
          ∙ elim (History.is_forgetting s grant (Run.event_of s before c)) as
          (λ b. (if b then None else Some (made grant)) ≡ option_map made (if b then None else Some grant))
          [ true ↦ refl | false ↦ refl ]

  -- what the laws of the past say, on these
  spaced_kept : (accepted : Bool) (given : Option Grant) (found : Option (Grant × List (Event C S))) → IsSpacedUnlessForgotten s given found →
      IsGrantCooledAfter s (if_accepted accepted (option_map made given)) (option_map made (unless_ended (History.is_forgetting s) found))
  spaced_kept true (Some grant) (Some found) spaced = go (list_any (History.is_forgetting s found.0) found.1) refl
    where
      go : (b : Bool) → list_any (History.is_forgetting s found.0) found.1 ≡ b →
          IsGrantCooledAfter s (Some (made grant)) (option_map made (if b then None else Some found.0))
      go true e = tt
      go false e = spaced e
  spaced_kept _ _ _ spaced = tt

  spaced_last : (accepted : Bool) (given : Option Grant) (found : Option (Grant × List (Event C S))) → IsSpaced s given found →
      IsGrantCooledAfter s (if_accepted accepted (option_map made given)) (option_map (λ found. made found.0) found)
  spaced_last true (Some grant) (Some found) spaced = spaced
  spaced_last _ _ _ spaced = tt

  keep_unless_forgotten_from : History.IsExact s → (p : C) (kept : Option (ℕ × ℕ)) (before cs : List (Call C S)) (rs : List (Reply C S)) →
      kept ≡ kept_in p (World.past s before) → Run.AreAnswers s before cs rs → RunKeepsCooldownUnlessForgotten s p kept cs rs
  keep_unless_forgotten_from exact p kept before (c ∷ cs) (r ∷ rs) e answers =
      let t = told_after p before c r answers.0 in
      let f = forgets_after (History.taken_sets s (World.past s before)) (Run.world_after s before) (Run.world_after s (c ∷ before)) c r answers.0 in (
        subst (λ o. IsGrantCooledAfter s o kept) (sym t.granted)
            (subst (λ o. IsGrantCooledAfter s (if_accepted (Run.was_made r) (moment_by p (Run.event_of s before c))) o) (sym e)
            (spaced_kept (Run.was_made r) (History.grant_by s p (Run.event_of s before c))
            (last_with (History.grant_by s p) (World.past s before)) (Spacing.next_spaced s exact p c before))),
        keep_unless_forgotten_from exact p (kept_after s c (granted_by s p c r) kept) (Run.next s before c r) cs rs
            ((λ i. kept_after s c (t.granted i) (e i)) ∙ kept_more p before c (Run.was_made r) f)
            answers.1,
      )
  keep_unless_forgotten_from exact p kept before cs rs e answers = tt

  -- by the replies to a whole run, the grants of p keep the cooldown, unless forgotten
  pub keep_unless_forgotten : History.IsExact s → (p : C) (cs : List (Call C S)) (rs : List (Reply C S)) →
      Run.AreAnswers s [] cs rs → RunKeepsCooldownUnlessForgotten s p None cs rs
  keep_unless_forgotten exact p cs rs answers = keep_unless_forgotten_from exact p None [] cs rs refl answers

  keep_cooldown_from : History.IsExact s → (p : C) (last : Option (ℕ × ℕ)) (now : ℕ) (before cs : List (Call C S)) (rs : List (Reply C S)) →
      last ≡ last_in p (World.past s before) → NeverGoBack s now before → Run.AreAnswers s before cs rs → RunKeepsCooldown s p now last cs rs
  keep_cooldown_from exact p last now before (c ∷ cs) (r ∷ rs) e on answers =
      λ forward. let t = told_after p before c r answers.0 in (
        subst (λ o. IsGrantCooledAfter s o last) (sym t.granted)
            (subst (λ o. IsGrantCooledAfter s (if_accepted (Run.was_made r) (moment_by p (Run.event_of s before c))) o) (sym e)
            (spaced_last (Run.was_made r) (History.grant_by s p (Run.event_of s before c)) (last_with (History.grant_by s p) (World.past s before))
            (Spacing.next_spaced_forward s exact p c before (moment_or s now c) (one_forward c before now forward on)))),
        keep_cooldown_from exact p (last_after s (granted_by s p c r) last) (moment_or s now c) (Run.next s before c r) cs rs
            ((λ i. last_after s (t.granted i) (e i)) ∙ last_more p before c (Run.was_made r))
            (next_forward c before now (Run.was_made r) forward on) answers.1,
      )
  keep_cooldown_from exact p last now before cs rs e on answers = tt

  -- by the replies to a whole run whose moments never go back, the grants of p keep the cooldown
  pub keep_cooldown : History.IsExact s → (p : C) (cs : List (Call C S)) (rs : List (Reply C S)) → Run.AreAnswers s [] cs rs → RunKeepsCooldown s p 0 None cs rs
  keep_cooldown exact p cs rs answers = keep_cooldown_from exact p None 0 [] cs rs refl tt answers
