-- When an info of a peer is asked for anew, by the replies to a run.
use Rattle.std.proofs.Common.{◌≡◌, ℕ, suc, ◌+◌, ◌≤◌, Bool, true, false, not, ◌&&◌, ◌||◌, List, []}
use Rattle.std.proofs.Common.{◌∷◌, Option, Some, None, inl, inr, refl, sym, ◌∙◌, ap, subst, arith}
use Rattle.std.specs.Prelude.{◌⊎◌, if◌then◌else◌, filter, map, zip}
use Rattle.std.specs.Option.{option_map}
use Rattle.std.specs.List.{list_any, AllByRecursion}
use Rattle.std.proofs.lemmas.Bool.{or_parts, le-leb, not_from_true}
use Rattle.p2p_discovery.specs.declared.discovery.BitVec.{BitVec}
use Rattle.p2p_discovery.specs.declared.discovery.Info.{Info}
use Rattle.p2p_tracker.specs.declared.record.Status.{Status}
use Rattle.p2p_tracker.specs.declared.record.Status.TheVariants.{Inert, Reserved, Active}
use Rattle.p2p_tracker.specs.Status.{is_active}
use Rattle.p2p_tracker.specs.Calls.{Settings, Call, SetAt, Event}
use Rattle.p2p_tracker.specs.Calls.Question.{BitsAt}
use Rattle.p2p_tracker.specs.Calls.Call.{Ask}
use Rattle.p2p_tracker.specs.Calls.Event.{Connected, Released, Updated}
use Rattle.p2p_tracker.specs.History
use Rattle.p2p_tracker.specs.World
use Rattle.p2p_tracker.specs.World.{World, Known}
use Rattle.p2p_tracker.specs.Answers
use Rattle.p2p_directory.specs.Run
use Rattle.p2p_directory.specs.declared.run.commands.Reply.{Reply}
use Rattle.p2p_directory.specs.declared.run.commands.Reply.TheVariants as reply
use Rattle.p2p_directory.specs.Laws.Repair.{brings_info, failures_with, failures_after, IsZeroAmong}
use Rattle.p2p_directory.specs.Laws.Repair.{IsZeroInEach}
use Rattle.p2p_directory.specs.Laws.Repair.{IsToldZero, IsDue, KeepRepair}
use Rattle.p2p_directory.proofs.Definitions.Law
use Rattle.p2p_directory.proofs.LawsOfRuns.GrantRuns.{answered}

module _ {C S : Type 0} (s : Settings C S) where
  -- FAILURES

  -- no info is known, or at least n dials at its address failed
  abbrev HasFailed : ℕ → Known C S → Type 0
  HasFailed n k = (k.info ≡ None) ⊎ (n ≤ k.fails)

  none_more : (n : ℕ) (k : Known C S) → HasFailed n k → HasFailed (0 + n) k
  none_more n k (inl none) = inl none
  none_more n k (inr le) = inr (omega (arith, le))

  -- infos none of which is newer change nothing
  none_newer : (k : Known C S) (infos : List (Info C S)) →
      list_any (λ i. History.is_newer k.info (Some i)) infos ≡ false →
      World.known_with_infos s k infos ≡ k
  none_newer k [] e = refl
  none_newer k (i ∷ infos) e =
      let parts = or_parts _ _ e in
      ap (λ x. World.known_with_infos s x infos) (go k.info parts.0) ∙ none_newer k infos parts.1
    where
      go : (o : Option (Info C S)) → History.is_newer o (Some i) ≡ false →
          World.known_with_info s k i o ≡ k
      go None e = absurd cc
      go (Some j) e = ap (λ b. if b then record k { info = Some i; fails = 0 } else k) e

  -- what an event makes of what is known of a peer that stays
  failed_step : (p : C) (w : World C S) (e : Event C S) (n : ℕ) → History.is_own s p ≡ false →
      HasFailed n (w.peer p).known →
      HasFailed (failures_with s p w e n) (World.known_after s p e (w.peer p).known)
  failed_step p w (Updated infos) n other failed = go (brings_info s p w (Updated infos)) refl
    where
      k : Known C S
      k = (w.peer p).known

      given : List (Info C S)
      given = filter (λ i. History.same s i.public_key p) infos

      none : (o : Option (Info C S)) →
          HasFailed (History.failures_of s p o (Updated infos ∷ []) + n) k
      none None = none_more n k failed
      none (Some i) = none_more n k failed

      go : (b : Bool) → brings_info s p w (Updated infos) ≡ b →
          HasFailed (if b || false then 0 else History.failures_of s p k.info
          (Updated infos ∷ []) + n)
          (if History.is_own s p then k else World.known_with_infos s k given)
      go true e = inr (omega arith)
      go false e =
          let m = History.failures_of s p k.info (Updated infos ∷ []) + n in
          subst (λ b. HasFailed m (if b then k else World.known_with_infos s k given)) (sym other)
          (subst (HasFailed m) (sym (none_newer k given e)) (none k.info))
  failed_step p w (Connected q dialer) n other failed = go (History.same s q p && dialer)
    where
      k : Known C S
      k = (w.peer p).known

      none : (o : Option (Info C S)) →
          HasFailed (History.failures_of s p o (Connected q dialer ∷ []) + n) k
      none None = none_more n k failed
      none (Some i) = none_more n k failed

      go : (b : Bool) →
          HasFailed (if b then 0 else History.failures_of s p k.info (Connected q dialer ∷ []) + n)
          (if b then record k { fails = 0 } else k)
      go true = inr (omega arith)
      go false = none k.info
  failed_step p w (Released q direction) n other failed = go k.info refl
    where
      k : Known C S
      k = (w.peer p).known

      go : (o : Option (Info C S)) → k.info ≡ o →
          HasFailed (History.failures_of s p o (Released q direction ∷ []) + n)
          (if History.same s q p && World.is_failed_dial s o direction then record k
          { fails = suc k.fails } else k)
      go None e = elim (History.same s q p && false) as
          (λ b. HasFailed (0 + n) (if b then record k { fails = suc k.fails } else k))
          [ true ↦ inl e | false ↦ inl e ]
      go (Some i) e = counted (History.same s q p && History.is_dial_at i.ingress direction) failed
        where
          counted : (b : Bool) → HasFailed n k →
              HasFailed (0 + (if b then 1 else 0) + n) (if b then record k {
                fails =
                    suc k.fails;
              } else k)
          counted true (inl none) = inl none
          counted true (inr le) = inr (omega (arith, le))
          counted false (inl none) = inl none
          counted false (inr le) = inr (omega (arith, le))
  failed_step p w e n other failed = none k.info
    where
      k : Known C S
      k = (w.peer p).known

      none : (o : Option (Info C S)) → HasFailed (History.failures_of s p o (e ∷ []) + n) k
      none None = none_more n k failed
      none (Some i) = none_more n k failed

  -- .. or of one that is gone then
  failed_world : (p : C) (w : World C S) (e : Event C S) (n : ℕ) → History.is_own s p ≡ false →
      HasFailed n (w.peer p).known →
      HasFailed (failures_with s p w e n) ((World.world_with s e w).peer p).known
  failed_world p w e n other failed =
      go (History.is_present_with s p (World.sets_after s e w.sets)
      (World.status_after s p e (w.peer p).status))
    where
      go : (present : Bool) → HasFailed (failures_with s p w e n)
          (if present then World.known_after s p e (w.peer p).known else World.new_known s p)
      go true = failed_step p w e n other failed
      go false = inl (ap (λ b. if b then Some s.own else None) other)

  failed_next : (p : C) (before : List (Call C S)) (c : Call C S) (r : Reply C S) (n : ℕ) →
      History.is_own s p ≡ false →
      HasFailed n ((Run.world_after s before).peer p).known →
      HasFailed (failures_after s p before c r n)
      ((Run.world_after s (Run.next s before c r)).peer p).known
  failed_next p before c r n other failed = go (Run.was_made r)
    where
      go : (accepted : Bool) →
          HasFailed (if accepted then failures_with s p (Run.world_after s before)
          (Run.event_of s before c) n else n)
          ((Run.world_after s (if accepted then c ∷ before else before)).peer p).known
      go true =
          subst (λ v. HasFailed
          (failures_with s p (Run.world_after s before) (Run.event_of s before c) n)
          (v.peer p).known)
          (sym (Law.world_step s (Run.event_of s before c) (World.past s before)))
          (failed_world p (Run.world_after s before) (Run.event_of s before c) n other failed)
      go false = failed

  -- BITS

  wanted : (p : C) (n : ℕ) (w : World C S) → HasFailed n (w.peer p).known → IsDue s p n w →
      Answers.wants s p (w.peer p) ≡ true
  wanted p n w failed due =
      ap (λ b. not b && Answers.wants_with s (w.peer p).status (w.peer p).known.fails
      (w.peer p).known.info) due.other
      ∙ go (w.peer p).status (w.peer p).known.info failed due.idle
    where
      go : (status : Status) (o : Option (Info C S)) → (o ≡ None) ⊎ (n ≤ (w.peer p).known.fails) →
          is_active status ≡ false →
          Answers.wants_with s status (w.peer p).known.fails o ≡ true
      go status None failed idle = refl
      go Active (Some i) failed idle = absurd cc
      go Inert (Some i) (inl none) idle = absurd cc
      go Reserved (Some i) (inl none) idle = absurd cc
      go Inert (Some i) (inr le) idle = le-leb _ _ (omega (arith, due.failed, le))
      go Reserved (Some i) (inr le) idle = le-leb _ _ (omega (arith, due.failed, le))

  bits_zero : History.IsExact s → (p : C) (w : World C S) → Answers.wants s p (w.peer p) ≡ true →
      (qs : List C) →
      AllByRecursion (λ bit. History.same s bit.0 p ≡ true → bit.1 ≡ false)
      (zip qs (map (λ q. not (Answers.wants s q (w.peer q))) qs))
  bits_zero exact p w wants [] = tt
  bits_zero exact p w wants (q ∷ qs) = (
    (λ same. subst (λ x. not (Answers.wants s x (w.peer x)) ≡ false) (sym (exact q p same))
        (not_from_true _ wants)),
    bits_zero exact p w wants qs,
  )

  zero_in_each : History.IsExact s → (p : C) (n : ℕ) (w : World C S) →
      (History.is_own s p ≡ false → HasFailed n (w.peer p).known) → IsDue s p n w →
      IsZeroInEach s p w
  zero_in_each exact p n w failed due = go w.sets
    where
      go : (sets : List (SetAt C)) →
          AllByRecursion (λ x. IsZeroAmong s p x.primary (Answers.bits_of s w x)) sets
      go [] = tt
      go (x ∷ sets) = (bits_zero exact p w (wanted p n w (failed due.other) due) x.primary, go sets)

  -- the bits that are told are those of the set
  told_bits : (w : World C S) (place : ℕ) (x : SetAt C) (told : BitVec) →
      Answers.set_at_place s w place ≡ Some x →
      ◌≡◌ {A = Reply C S} (reply.GetRandomBitVec (Some told))
      (reply.GetRandomBitVec (Run.bit_vec_in s w place)) → told.bits ≡ Answers.bits_of s w x
  told_bits w place x told at is =
      let one : Some told ≡ Some (Run.bit_vec_of (x.index, Answers.bits_of s w x)) =
      ap vec_said is ∙ ap
      (λ o. option_map Run.bit_vec_of (option_map (λ x. (x.index, Answers.bits_of s w x)) o))
      at in
      ap bits_in one
    where
      bits_in : Option BitVec → List Bool
      bits_in None = []
      bits_in (Some v) = v.bits

      vec_said : Reply C S → Option BitVec
      vec_said (reply.GetRandomBitVec o) = o
      vec_said r = None

  told_zero : History.IsExact s →
      (p : C) (n : ℕ) (before : List (Call C S)) (c : Call C S) (r : Reply C S) →
      Run.IsAnswer s before c r →
      (History.is_own s p ≡ false → HasFailed n ((Run.world_after s before).peer p).known) →
      IsDue s p n (Run.world_after s before) → IsToldZero s p (Run.world_after s before) c r
  told_zero exact p n before c r a failed due = λ place x told asked at is.
      let w = Run.world_after s before in
      let answer = answered s before (Ask (BitsAt place)) (reply.GetRandomBitVec (Some told)) refl
      (subst (λ c. Run.IsAnswer s before c (reply.GetRandomBitVec (Some told))) asked
      (subst (Run.IsAnswer s before c) is a)) in
      subst (IsZeroAmong s p x.primary) (sym (told_bits w place x told at answer))
      (bits_zero exact p w (wanted p n w (failed due.other) due) x.primary)

  -- THE RUN

  keep_repair_from : History.IsExact s →
      (p : C) (n : ℕ) (before cs : List (Call C S)) (rs : List (Reply C S)) →
      (History.is_own s p ≡ false → HasFailed n ((Run.world_after s before).peer p).known) →
      Run.AreAnswers s before cs rs →
      KeepRepair s p n before cs rs
  keep_repair_from exact p n before (c ∷ cs) (r ∷ rs) failed answers = (
    (λ due. (
      zero_in_each exact p n (Run.world_after s before) failed due,
      told_zero exact p n
          before c r answers.0 failed due,
    )),
    keep_repair_from exact p (failures_after s p before c r n) (Run.next s before c r) cs rs
        (λ other. failed_next p before c r n other (failed other)) answers.1,
  )
  keep_repair_from exact p n before cs rs failed answers =
      λ due. zero_in_each exact p n (Run.world_after s before) failed due

  -- by the replies to a whole run, an info is asked for anew once dials at its address failed so
  -- often
  pub keep_repair : History.IsExact s → (p : C) (cs : List (Call C S)) (rs : List (Reply C S)) →
      Run.AreAnswers s [] cs rs → KeepRepair s p 0 [] cs rs
  keep_repair exact p cs rs answers =
      keep_repair_from exact p 0 [] cs rs (λ other. inr (omega arith)) answers
