-- Dials by the replies to a run.
use Rattle.std.proofs.Common.{◌≡◌, ℕ, ◌≤◌, Bool, true, false, cond, not, ◌||◌, List, [], ◌∷◌, Option, inl, inr, refl, sym, ◌∙◌, ap, subst}
use Rattle.std.specs.Cmp.{IsTotalOrder}
use Rattle.std.proofs.lemmas.Bool.{or_right}
use Rattle.p2p_tracker.specs.Calls.{Settings, Question, Call}
use Rattle.p2p_tracker.specs.Calls.Question.{DialableAt}
use Rattle.p2p_tracker.specs.Calls.Call.{Dial, Ask}
use Rattle.p2p_tracker.specs.declared.record.dialing.Dialable.{Dialable}
use Rattle.p2p_tracker.specs.History
use Rattle.p2p_tracker.specs.World
use Rattle.p2p_tracker.specs.World.{World}
use Rattle.p2p_tracker.specs.Answers.{IsDialable, is_dialable, query_moment, was_granted}
use Rattle.p2p_directory.specs.Laws.Isolation.{SameFor}
use Rattle.p2p_tracker.specs.Dials.{IsDialled}
use Rattle.p2p_directory.specs.Run
use Rattle.p2p_directory.specs.declared.run.commands.Reply.{Reply}
use Rattle.p2p_directory.specs.declared.run.commands.Reply.TheVariants as reply
use Rattle.p2p_directory.specs.Laws.DialRuns.{IsGrantedOrOutOfMemory, next_query, without, AreGrantedAt, IsRepeated, IsQuiet, IsDialableKept, KeepDialable}
use Rattle.p2p_directory.proofs.LawsOfRuns.Isolation
use Rattle.p2p_directory.proofs.LawsOfRuns.Dialled
use Rattle.p2p_tracker.proofs.Definitions.Listed
use Rattle.p2p_tracker.proofs.Definitions.Quiet
use Rattle.p2p_directory.proofs.LawsOfRuns.GrantRuns.{answered}

module _ {C S : Type 0} (s : Settings C S) where
  -- DIALS

  without_in : History.IsExact s → (p q : C) (ps : List C) → History.is_in s p (without s q ps) ≡ true →
      (History.is_in s p ps ≡ true) × (History.same s q p ≡ false)
  without_in exact p q [] e = absurd (cc)
  without_in exact p q (x ∷ ps) e = go (History.same s q x) (History.same s x p) refl refl (without_in exact p q ps) e
    where
      go : (b d : Bool) → History.same s q x ≡ b → History.same s x p ≡ d →
          (History.is_in s p (without s q ps) ≡ true → (History.is_in s p ps ≡ true) × (History.same s q p ≡ false)) →
          History.is_in s p (cond (not b) (x ∷ without s q ps) (without s q ps)) ≡ true → ((d || History.is_in s p ps) ≡ true) × (History.same s q p ≡ false)
      go true d f g more h = let m = more h in (or_right d (History.is_in s p ps) m.0, m.1)
      go false true f g more h = (refl, ap (λ y. History.same s q y) (sym (exact x p g)) ∙ f)
      go false false f g more h = more (sym (ap (λ d. d || History.is_in s p (without s q ps)) g) ∙ h)

  -- these are dialable in a world
  abbrev AreReady : World C S → ℕ → List C → Type 0
  AreReady w t ps = (p : C) → History.is_in s p ps ≡ true → is_dialable s w t p ≡ true

  -- the reply to a dial of a dialable peer, and what holds of those after it
  one_granted : {X : Type 0} (p : C) (t draw : ℕ) (before cs : List (Call C S)) (r : Reply C S) (rs : List (Reply C S)) →
      IsDialled s p t draw (Run.event_of s before (Dial p t draw)) →
      Run.IsAnswer s before (Dial p t draw) r →
      (Run.AreAnswers s before cs rs → X) → (Run.AreAnswers s (Dial p t draw ∷ before) cs rs → X) →
      Run.AreAnswers s (Run.next s before (Dial p t draw) r) cs rs → IsGrantedOrOutOfMemory r × X
  one_granted {X} p t draw before cs r rs granted (inl (e, may)) refused more =
      subst (λ y. Run.AreAnswers s (Run.next s before (Dial p t draw) y) cs rs → IsGrantedOrOutOfMemory y × X) (sym e) (λ answers. (tt, refused answers))
  one_granted {X} p t draw before cs r rs granted (inr e) refused more =
      subst (λ y. Run.AreAnswers s (Run.next s before (Dial p t draw) y) cs rs → IsGrantedOrOutOfMemory y × X)
      (sym (e ∙ ap (λ x. reply.Dial (was_granted x)) granted.1)) (λ answers. (tt, more answers))

  all_granted : 1 ≤ s.max_sets → History.IsExact s → (t : ℕ) (ps : List C) (before cs : List (Call C S)) (rs : List (Reply C S)) →
      AreReady (Run.world_after s before) t ps → Run.AreAnswers s before cs rs → AreGrantedAt s t ps cs rs
  all_granted some exact t ps before (Dial q u draw ∷ cs) (r ∷ rs) ready answers = λ e listed.
      one_granted q u draw before cs r rs
      (Dialled.granted s q u draw (Run.world_after s before) (Dialled.cooled_first s q (World.past s before))
      (subst (λ m. is_dialable s (Run.world_after s before) m q ≡ true) (sym e) (ready q listed)))
      answers.0
      (λ a. all_granted some exact t (without s q ps) before cs rs (λ p other. ready p (without_in exact p q ps other).0) a)
      (λ a. all_granted some exact t (without s q ps) (Dial q u draw ∷ before) cs rs
      (λ p other. Dialled.dialable_alike s p t _ _
      (Isolation.another_alike s some p (Dial q u draw) before (ap not (without_in exact p q ps other).1))
      ∙ ready p (without_in exact p q ps other).0) a)
      answers.1
  all_granted some exact t ps before cs rs ready answers = tt

  -- QUIET

  turned : (p : C) (w v : World C S) → SameFor p w v → SameFor p v w
  turned p w v alike =
      record {
        sets = sym alike.sets;
        peer = sym alike.peer;
        unblock = sym alike.unblock;
        cooldown =
            sym alike.cooldown;
        held = sym alike.held;
      }

  same_answer : History.IsExact s → (w v : World C S) → ((p : C) → SameFor p w v) →
      (t : ℕ) (ps : List C) (next : Option ℕ) → IsDialable s w t ps next → IsDialable s v t ps next
  same_answer exact w v alike t ps next answer = (
    record { sorted = answer.0.sorted; members = λ p. answer.0.members p ∙ (Isolation.answers_alike s exact p w v (alike p)).dialable t },
    Listed.least_alike (query_moment s w t) (query_moment s v t) next (λ p. sym ((Isolation.answers_alike s exact p w v (alike p)).query t)) answer.1,
  )

  -- a question, accepted or not, leaves the answer as it was
  asked_answer : History.IsExact s → (question : Question C) (before : List (Call C S)) (accepted : Bool) (t : ℕ) (ps : List C) (next : Option ℕ) →
      IsDialable s (Run.world_after s before) t ps next → IsDialable s (Run.world_after s (cond accepted (Ask question ∷ before) before)) t ps next
  asked_answer exact question before true t ps next answer =
      same_answer exact (Run.world_after s before) (Run.world_after s (Ask question ∷ before))
      (λ p. turned p _ _ (Isolation.asked_alike s p question before)) t ps next answer
  asked_answer exact question before false t ps next answer = answer

  module _ (total : IsTotalOrder s.cmp) (exact : History.IsExact s) where
    repeated : (t : ℕ) (ps : List C) (next : Option ℕ) (before : List (Call C S)) (question : Question C)
        (r : Reply C S) → IsDialable s (Run.world_after s before) t ps next →
        Run.IsAnswer s before (Ask question) r → IsRepeated s t ps next question r
    repeated t ps next before question r first again = λ u answer asked told le soon.
        Quiet.only_dialable s total exact (Run.world_after s before) u answer.peers.items ps (next_query answer)
        next
        (answered s before (Ask (DialableAt u)) (reply.Dialable answer) refl
        (subst (λ q. Run.IsAnswer s before (Ask q) (reply.Dialable answer)) asked
        (subst (Run.IsAnswer s before (Ask question)) told again)))
        (Quiet.stays_dialable s (Run.world_after s before) t u ps next first le soon)

    all_quiet : (t : ℕ) (ps : List C) (next : Option ℕ) (before cs : List (Call C S)) (rs : List (Reply C S)) →
        IsDialable s (Run.world_after s before) t ps next → Run.AreAnswers s before cs rs → IsQuiet s t ps next cs rs
    all_quiet t ps next before (Ask question ∷ cs) (r ∷ rs) first answers = (
      repeated t ps next before question r first answers.0,
      all_quiet t ps next (Run.next s before (Ask question) r) cs rs (asked_answer exact question before (Run.was_made r) t ps next first) answers.1,
    )
    all_quiet t ps next before cs rs first answers = tt

    -- THE RUN

    dialable_kept : 1 ≤ s.max_sets → (before : List (Call C S)) (t : ℕ) (given : Dialable C S)
        (cs : List (Call C S)) (rs : List (Reply C S)) →
        Run.IsAnswer s before (Ask (DialableAt t)) (reply.Dialable given) →
        Run.AreAnswers s (Ask (DialableAt t) ∷ before) cs rs →
        AreGrantedAt s t given.peers.items cs rs × IsQuiet s t given.peers.items (next_query given) cs rs
    dialable_kept least before t given cs rs answer answers =
        let ps = given.peers.items in
        let next = next_query given in
        let listed = answered s before (Ask (DialableAt t)) (reply.Dialable given) refl answer in
        let still = asked_answer exact (DialableAt t) before true t ps next listed in (
          all_granted least exact t ps (Ask (DialableAt t) ∷ before) cs rs
              (λ p listed. sym (still.0.members p) ∙ listed) answers,
          all_quiet t ps next (Ask (DialableAt t) ∷ before) cs rs still answers,
        )

    kept_after : 1 ≤ s.max_sets → (before : List (Call C S)) (c : Call C S) (r : Reply C S)
        (cs : List (Call C S)) (rs : List (Reply C S)) → Run.IsAnswer s before c r →
        Run.AreAnswers s (Run.next s before c r) cs rs → IsDialableKept s c r cs rs
    kept_after least before c r cs rs answer answers = λ t given asked told.
        dialable_kept least before t given cs rs
        (subst (λ c. Run.IsAnswer s before c (reply.Dialable given)) asked
        (subst (Run.IsAnswer s before c) told answer))
        (subst (λ c. Run.AreAnswers s (c ∷ before) cs rs) asked
        (subst (λ r. Run.AreAnswers s (Run.next s before c r) cs rs) told answers))

    -- each reply of `dialable` in a run says this of those after it
    pub keep_dialable : 1 ≤ s.max_sets → (before cs : List (Call C S)) (rs : List (Reply C S)) → Run.AreAnswers s before cs rs → KeepDialable s cs rs
    keep_dialable least before [] rs answers = tt
    keep_dialable least before (c ∷ cs) [] answers = tt
    keep_dialable least before (c ∷ cs) (r ∷ rs) answers = (
      kept_after least before c r cs rs answers.0 answers.1,
      keep_dialable least (Run.next s before c r) cs rs answers.1,
    )
