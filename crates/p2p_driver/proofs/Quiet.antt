-- What ends in time ends for nobody who may be dialled later.
use Rattle.std.proofs.Common.{◌≡◌, ◌≤◌, ℕ, Bool, true, false, not, ◌&&◌, ◌||◌, List, ◌∷◌, Option, Some, None, refl, ◌∙◌, ap, arith}
use Rattle.std.specs.Prelude.{if◌then◌else◌, nat_le, nat_lt}
use Rattle.std.proofs.lemmas.Bool.Decides.{nat_tests}
use Rattle.p2p_tracker.specs.Answers.{is_dialable}
use Rattle.p2p_tracker.specs.Blocks.{is_blocked}
use Rattle.p2p_tracker.specs.Calls.{Settings, Call, Cooldown}
use Rattle.p2p_tracker.specs.Calls.Call.{UnblockExpired, ForgetCooled}
use Rattle.p2p_tracker.specs.Calls.Event.{Expired, Forgot}
use Rattle.p2p_tracker.specs.Cooldowns.{dialable_from}
use Rattle.p2p_tracker.specs.History.{is_own, is_named, is_persistent, is_present_with}
use Rattle.p2p_tracker.specs.Status.{is_inert}
use Rattle.p2p_tracker.specs.World.{World, Known, is_target, is_valid_address, address_with, is_dial_target, new_known, unblock_after, cooldown_after, world_with, step}
use Rattle.p2p_directory.specs.Run.{world_after}
use Rattle.p2p_directory.proofs.Definitions.Law
use Rattle.p2p_driver.specs.Steps.{IsQuietIn}

module _ {C S : Type 0} (s : Settings C S) where
  -- whoever is entitled is present, so what is known of it stays
  same_target : (own named persistent alive inert targeted : Bool) (valid : Known C S → Bool) (k k2 : Known C S) →
      ((not own && (named || persistent)) && inert && valid (if persistent || named || alive then k else k2) && targeted)
      ≡ ((not own && (named || persistent)) && inert && valid k && targeted)
  same_target own named true alive inert targeted valid k k2 = refl
  same_target own true false alive inert targeted valid k k2 = refl
  same_target true false false alive inert targeted valid k k2 = refl
  same_target false false false alive inert targeted valid k k2 = refl

  -- a block that has ended holds no longer
  same_block : (t u : ℕ) (block : Option ℕ) → t ≤ u → (p : C) → is_blocked (unblock_after s p (Expired t) block) u ≡ is_blocked block u
  same_block t u None later p = refl
  same_block t u (Some moment) later p = go (nat_le moment t) refl
    where
      go : (b : Bool) → nat_le moment t ≡ b → is_blocked (if b then None else Some moment) u ≡ nat_lt u moment
      go true is = grind (arith, nat_tests)
      go false is = refl

  -- .. a cooldown
  same_cooldown : (t u : ℕ) (cooldown : Option Cooldown) → t ≤ u → (p : C) →
      nat_le (dialable_from (cooldown_after s p (Forgot t) cooldown)) u ≡ nat_le (dialable_from cooldown) u
  same_cooldown t u None later p = refl
  same_cooldown t u (Some cooldown) later p = go (nat_le cooldown.dial_at t) refl
    where
      go : (b : Bool) → nat_le cooldown.dial_at t ≡ b →
          nat_le (dialable_from (if b then None else Some cooldown)) u ≡ nat_le cooldown.dial_at u
      go true is = grind (arith, nat_tests)
      go false is = refl

  module _ (some : 1 ≤ s.max_sets) (cs : List (Call C S)) (t : ℕ) where
    abbrev w : World C S
    w = world_after s cs

    stepped : world_after s (UnblockExpired t ∷ ForgetCooled t ∷ cs) ≡ world_with s (Expired t) (world_with s (Forgot t) w)
    stepped = Law.recomputed_is_one_step s some (ForgetCooled t ∷ cs) (UnblockExpired t)
        ∙ ap (λ x. step s x (UnblockExpired t)) (Law.recomputed_is_one_step s some cs (ForgetCooled t))

    abbrev valid : C → Known C S → Bool
    valid p k = is_valid_address s (address_with s p k.info)

    abbrev left : C → Known C S → Known C S
    left p k = if is_present_with s p w.sets (w.peer p).status then k else new_known s p

    targets : (p : C) (k : Known C S) →
        is_target s p w.sets (record { status = (w.peer p).status; known = left p k })
        ≡ is_target s p w.sets (record { status = (w.peer p).status; known = k })
    targets p k = same_target (is_own s p) (is_named s p w.sets) (is_persistent s p) (not (is_inert (w.peer p).status))
        (is_inert (w.peer p).status) (is_dial_target s p w.sets) (valid p) k (new_known s p)

    -- who may be dialled later may be when what ends by t has ended, and who mayn't mayn't
    pub same_dialable : (u : ℕ) → t ≤ u → (p : C) →
        is_dialable s (world_after s (UnblockExpired t ∷ ForgetCooled t ∷ cs)) u p ≡ is_dialable s w u p
    same_dialable u later p = ap (λ x. is_dialable s x u p) stepped
        ∙ (λ i. (targets p (left p (w.peer p).known) ∙ targets p (w.peer p).known) i
        && not (same_block t u (w.unblock p) later p i) && same_cooldown t u (w.cooldown p) later p i)

    pub quiet_passed : (until : Option ℕ) → IsQuietIn s w t until →
        IsQuietIn s (world_after s (UnblockExpired t ∷ ForgetCooled t ∷ cs)) t until
    quiet_passed until quiet u later before p = same_dialable u later p ∙ quiet u later before p
