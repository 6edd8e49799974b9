-- Blocks by the replies to a run: of any moments, and where these never go back.
use Rattle.std.proofs.Common.{◌≡◌, ℕ, ◌+◌, ◌≤◌, max, Bool, true, false, not, ◌&&◌, List, [], ◌∷◌}
use Rattle.std.proofs.Common.{◌++◌, Option, Some, None, inl, inr, refl, sym, ◌∙◌, ap, subst, arith}
use Rattle.std.specs.Prelude.{if◌then◌else◌, nat_le, option_to_list, IfSome}
use Rattle.std.specs.Option.{option_map}
use Rattle.std.proofs.lemmas.Bool.{leb-true, ltb-false, not-true, and_parts}
use Rattle.p2p_tracker.specs.Blocks.{is_blocked}
use Rattle.p2p_tracker.specs.Calls.{Settings, Call, SetAt, Grant, Event, expires_until}
use Rattle.p2p_tracker.specs.Calls.Call.{Dial, Listen, Block, UnblockExpired}
use Rattle.p2p_tracker.specs.Calls.Event.{Nothing, Blocked, Expired}
use Rattle.p2p_tracker.specs.Moments.{cap}
use Rattle.p2p_tracker.specs.History
use Rattle.p2p_tracker.specs.World
use Rattle.p2p_tracker.specs.World.{World}
use Rattle.p2p_tracker.specs.Answers.{was_blocked}
use Rattle.p2p_directory.specs.Run
use Rattle.p2p_directory.specs.declared.run.commands.Reply.{Reply}
use Rattle.p2p_directory.specs.declared.run.commands.Reply.TheVariants as reply
use Rattle.p2p_directory.specs.Laws.Grants.{moment_or, AreOver}
use Rattle.p2p_directory.specs.Laws.GrantRuns.{granted_by, blocked_by, IsAfter, RunKeepsBlocks}
use Rattle.p2p_directory.specs.Laws.BlockRuns.{expired_by, unless_expired, IsNotBefore, block_taken_by, block_left, KeepLastBlock}
use Rattle.p2p_directory.proofs.Definitions.Steps
use Rattle.p2p_directory.proofs.Definitions.Steps.{Makes, makes}
use Rattle.p2p_directory.proofs.LawsOfRuns.Spacing
use Rattle.p2p_directory.proofs.LawsOfRuns.Spacing.{GrantFits, limit, over_more}
use Rattle.p2p_directory.proofs.LawsOfRuns.GrantRuns.{told_after, made, if_accepted, moment_by}

module _ {C S : Type 0} (s : Settings C S) where
  -- WHAT A REPLY TELLS OF THE BLOCK THAT IS KEPT

  -- until when an event ends blocks, if it does
  abbrev expiry_of : Event C S → Option ℕ
  expiry_of (Expired t) = Some t
  expiry_of _ = None

  -- that of a call's event is that of the call
  expiry_in : (sets : List (SetAt C)) (w : World C S) (c : Call C S) → expiry_of (World.event_in s sets w c) ≡ expires_until c
  expiry_in sets w (UnblockExpired t) = refl
  expiry_in sets w c = go (World.event_in s sets w c) (makes s sets w c)
    where
      go : (e : Event C S) → Makes c e → expiry_of e ≡ None
      go (Expired t) m = absurd (cc)
      go e m = refl

  -- the end of a block by the moment at which it was taken
  abbrev end_of : Option ℕ → Option ℕ
  end_of None = None
  end_of (Some t) = Some (cap (t + s.block_duration))

  end_is : (p : C) (c : Call C S) (r : Reply C S) → end_of (block_taken_by s p c r) ≡ blocked_by s p c r
  end_is p (Block q t) (reply.Block true) =
      elim (History.same s q p) as
      (λ b. end_of (if b then Some t else None) ≡ (if b then Some (cap (t + s.block_duration)) else None))
      [ true ↦ refl | false ↦ refl ]
  end_is p c r = refl

  -- an event's block, else what it leaves of the one before
  abbrev kept_by : Option ℕ → Option ℕ → Option ℕ → Option ℕ
  kept_by None expiry end = unless_expired expiry end
  kept_by (Some more) expiry end = Some more

  left_is : (taken : Option ℕ) (expiry end : Option ℕ) →
      elim taken [ None ↦ unless_expired expiry end | Some t ↦ Some (cap (t + s.block_duration)) ] ≡ kept_by (end_of taken) expiry end
  left_is None expiry end = refl
  left_is (Some t) expiry end = refl

  after_is : (p : C) (e : Event C S) (end : Option ℕ) → kept_by (History.block_by s p e) (expiry_of e) end ≡ World.unblock_after s p e end
  after_is p (Blocked q t) end = go (History.same s q p)
    where
      go : (b : Bool) → kept_by (if b then Some (cap (t + s.block_duration)) else None) None end ≡ (if b then Some (cap (t + s.block_duration)) else end)
      go true = refl
      go false = refl
  after_is p (Expired t) None = refl
  after_is p (Expired t) (Some end) = refl
  after_is p e end = refl

  -- what is kept after one more reply is the unblock moment at the next point
  kept_next : (p : C) (before : List (Call C S)) (c : Call C S) (r : Reply C S) → Run.IsAnswer s before c r →
      block_left s p c r (History.unblock_at s p (World.past s before)) ≡ History.unblock_at s p (World.past s (Run.next s before c r))
  kept_next p before c r a =
      left_is (block_taken_by s p c r) (expired_by c r) end
      ∙ ap (λ o. kept_by o (expired_by c r) end) (end_is p c r ∙ (told_after s p before c r a).blocked)
      ∙ go (Run.was_made r)
    where
      end : Option ℕ
      end = History.unblock_at s p (World.past s before)

      e : Event C S
      e = Run.event_of s before c

      go : (accepted : Bool) → kept_by (if_accepted s accepted (History.block_by s p e)) (if accepted then expires_until c else None) end
          ≡ History.unblock_at s p (World.past s (if accepted then c ∷ before else before))
      go true =
          ap (λ o. kept_by (History.block_by s p e) o end) (sym (expiry_in (History.taken_sets s (World.past s before)) (Run.world_after s before) c))
          ∙ after_is p e end ∙ sym (Steps.unblock_step s p e (World.past s before))
      go false = refl

  -- EACH GRANT AND EACH BLOCK

  free : (t : ℕ) (end : Option ℕ) → is_blocked end t ≡ false → IsNotBefore (Some t) end
  free t None e = tt
  free t (Some end) e = ltb-false t end e

  grant_free : (p : C) (w : World C S) (t : ℕ) (accepted : Bool) (found : Option Grant) → GrantFits s p w t found →
      IsNotBefore (option_map (λ grant. grant.0) (if_accepted s accepted (option_map (made s) found))) (w.unblock p)
  grant_free p w t true (Some grant) f = subst (λ u. IsNotBefore (Some u) (w.unblock p)) (sym f.0) (free t (w.unblock p) f.1.unblocked)
  grant_free p w t _ _ f = tt

  -- a reply that the block was taken
  abbrev SaysTaken : Event C S → Type 0
  SaysTaken e = let said : Reply C S = reply.Block true in said ≡ reply.Block (was_blocked e)

  taken_free : History.IsExact s → (p : C) (sets : List (SetAt C)) (w v : World C S) (c : Call C S) (r : Reply C S) →
      Run.MayReply s (World.event_in s sets w c) w v c r → IsNotBefore (block_taken_by s p c r) (w.unblock p)
  taken_free exact p sets w v (Block q t) (reply.Block true) (inr a) = go (not (History.is_own s q) && not (is_blocked (w.unblock q) t)) refl a
    where
      go : (b : Bool) → (not (History.is_own s q) && not (is_blocked (w.unblock q) t)) ≡ b →
          SaysTaken (if b then Blocked q t else Nothing) →
          IsNotBefore (if History.same s q p then Some t else None) (w.unblock p)
      go false e said = absurd cc
      go true e said = peer (History.same s q p) refl
        where
          peer : (b : Bool) → History.same s q p ≡ b → IsNotBefore (if b then Some t else None) (w.unblock p)
          peer true same = free t (w.unblock p) (subst (λ x. is_blocked (w.unblock x) t ≡ false) (exact q p same) (not-true _ (and_parts _ _ e).1))
          peer false same = tt
  taken_free exact p sets w v (Block q t) (reply.Block true) (inl (refused, may)) = absurd (cc)
  taken_free exact p sets w v c r a = tt

  keep_from : History.IsExact s → (p : C) (end : Option ℕ) (before cs : List (Call C S)) (rs : List (Reply C S)) →
      end ≡ History.unblock_at s p (World.past s before) → Run.AreAnswers s before cs rs → KeepLastBlock s p end cs rs
  keep_from exact p end before (c ∷ cs) (r ∷ rs) kept answers =
      let sets = History.taken_sets s (World.past s before) in
      let w = Run.world_after s before in (
        subst (λ (o : Option (ℕ × ℕ)). IsNotBefore (option_map (λ grant. grant.0) o) end) (sym (told_after s p before c r answers.0).granted)
            (subst (λ o. IsNotBefore
            (option_map (λ grant. grant.0)
            (if_accepted s (Run.was_made r) (moment_by s p (Run.event_of s before c)))) o) (sym kept)
            (grant_free p w (moment_or s 0 c) (Run.was_made r)
            (History.grant_by s p (Run.event_of s before c)) (Spacing.event_fits s exact p c before 0))),
        subst (IsNotBefore (block_taken_by s p c r)) (sym kept) (taken_free exact p sets w (Run.world_after s (c ∷ before)) c r answers.0),
        keep_from exact p (block_left s p c r end) (Run.next s before c r) cs rs
            (ap (block_left s p c r) kept ∙ kept_next p before c r answers.0) answers.1,
      )
  keep_from exact p end before cs rs kept answers = tt

  -- by the replies to a whole run, each grant comes when the last block that wasn't ended is over
  pub keep_last_block : History.IsExact s → (p : C) (cs : List (Call C S)) (rs : List (Reply C S)) → Run.AreAnswers s [] cs rs → KeepLastBlock s p None cs rs
  keep_last_block exact p cs rs answers = keep_from exact p None [] cs rs refl answers

  -- MOMENTS THAT NEVER GO BACK

  -- a grant comes at the moment of its command
  pub granted_then : (p : C) (now : ℕ) (c : Call C S) (r : Reply C S) → IfSome (granted_by s p c r) (λ grant. grant.0 ≡ moment_or s now c)
  granted_then p now (Dial q t draw) (reply.Dial true) =
      elim (History.same s q p) as
      (λ b. IfSome {T = ℕ × ℕ} (if b then Some (t, draw) else None) (λ grant. grant.0 ≡ t))
      [ true ↦ refl | false ↦ tt ]
  granted_then p now (Listen q t draw) (reply.Listen true) =
      elim (History.same s q p) as
      (λ b. IfSome {T = ℕ × ℕ} (if b then Some (t, draw) else None) (λ grant. grant.0 ≡ t))
      [ true ↦ refl | false ↦ tt ]
  granted_then p now c r = tt

  taken_then : (p : C) (now : ℕ) (c : Call C S) (r : Reply C S) → IfSome (block_taken_by s p c r) (λ t. t ≡ moment_or s now c)
  taken_then p now (Block q t) (reply.Block true) =
      elim (History.same s q p) as (λ b. IfSome (if b then Some t else None) (λ u. u ≡ t))
      [ true ↦ refl | false ↦ tt ]
  taken_then p now c r = tt

  expired_then : (now : ℕ) (c : Call C S) (r : Reply C S) → IfSome (expired_by c r) (λ t. t ≡ moment_or s now c)
  expired_then now c r = go (Run.was_made r) c
    where
      go : (b : Bool) (c : Call C S) → IfSome (if b then expires_until c else None) (λ t. t ≡ moment_or s now c)
      go false c = tt
      go true (UnblockExpired t) = refl
      go true c = tt

  over_at : (now u : ℕ) (granted : Option (ℕ × ℕ)) (end : Option ℕ) (ms : List ℕ) → now ≤ u → IfSome granted (λ grant. grant.0 ≡ u) →
      IsNotBefore (option_map (λ grant. grant.0) granted) end →
      AreOver s (limit s now end) ms → IsAfter s granted ms
  over_at now u None end ms le on_time free over = tt
  over_at now u (Some grant) None ms le on_time free over = over_more s ms now grant.0 (omega (arith, on_time)) over
  over_at now u (Some grant) (Some end) ms le on_time free over = over_more s ms (max now end) grant.0 (omega (arith, on_time, free)) over

  over_next : (now u : ℕ) (taken expiry end : Option ℕ) (ms : List ℕ) → now ≤ u → IfSome taken (λ t. t ≡ u) →
      IfSome expiry (λ t. t ≡ u) → IsNotBefore taken end →
      AreOver s (limit s now end) ms → AreOver s (limit s u (kept_by (end_of taken) expiry end)) (option_to_list (end_of taken) ++ ms)
  over_next now u (Some t) expiry None ms le on_time until free over = (omega arith, over_more s ms now (max u (cap (t + s.block_duration))) (omega arith) over)
  over_next now u (Some t) expiry (Some end) ms le on_time until free over =
      (omega arith, over_more s ms (max now end) (max u (cap (t + s.block_duration))) (omega (arith, on_time, free)) over)
  over_next now u None None None ms le on_time until free over = over_more s ms now u le over
  over_next now u None None (Some end) ms le on_time until free over = over_more s ms (max now end) (max u end) (omega arith) over
  over_next now u None (Some t) None ms le on_time until free over = over_more s ms now u le over
  over_next now u None (Some t) (Some end) ms le on_time until free over = go (nat_le end t) refl
    where
      go : (b : Bool) → nat_le end t ≡ b → AreOver s (limit s u (if b then None else Some end)) ms
      go true e = over_more s ms (max now end) u (omega (arith, until, leb-true end t e)) over
      go false e = over_more s ms (max now end) (max u end) (omega arith) over

  forward_from : (p : C) (now : ℕ) (end : Option ℕ) (ms : List ℕ) (cs : List (Call C S)) (rs : List (Reply C S)) →
      AreOver s (limit s now end) ms → KeepLastBlock s p end cs rs → RunKeepsBlocks s p now ms cs rs
  forward_from p now end ms (c ∷ cs) (r ∷ rs) over kept = λ forward.
      let u = moment_or s now c in (
        over_at now u (granted_by s p c r) end ms forward (granted_then p now c r) kept.0 over,
        forward_from p u (block_left s p c r end) (option_to_list (blocked_by s p c r) ++ ms) cs rs
            (subst (λ o. AreOver s (limit s u (block_left s p c r end)) (option_to_list o ++ ms)) (end_is p c r)
            (subst (λ o. AreOver s (limit s u o) (option_to_list (end_of (block_taken_by s p c r)) ++ ms))
            (sym (left_is (block_taken_by s p c r) (expired_by c r) end))
            (over_next now u (block_taken_by s p c r) (expired_by c r) end ms forward (taken_then p now c r) (expired_then now c r) kept.1 over)))
            kept.2,
      )
  forward_from p now end ms cs rs over kept = tt

  -- as long as moments never go back, each grant comes when all blocks before it are over
  pub keep_blocks : (p : C) (cs : List (Call C S)) (rs : List (Reply C S)) → KeepLastBlock s p None cs rs → RunKeepsBlocks s p 0 [] cs rs
  keep_blocks p cs rs kept = forward_from p 0 None [] cs rs tt kept
