-- What an update leaves: what is known is at least as new as each of its infos, and where it was so
-- before, nothing changes.
use Rattle.std.proofs.Common.{◌≡◌, ℕ, ◌≤◌, Bool, true, false, cond, List, [], ◌∷◌, Option, Some}
use Rattle.std.proofs.Common.{None, refl, sym, ◌∙◌, ap, subst, inl, inr, arith}
use Rattle.std.specs.Prelude.{if◌then◌else◌, filter, nat_lt}
use Rattle.std.specs.List.{AllByRecursion}
use Rattle.std.proofs.lemmas.Bool.{ltb-true, ltb-false, le-ltb}
use Rattle.p2p_discovery.specs.declared.discovery.Info.{Info}
use Rattle.p2p_tracker.specs.Lists.{earlier_best, first_greatest}
use Rattle.p2p_tracker.specs.Calls.{Settings, Call}
use Rattle.p2p_tracker.specs.Calls.Call.{Update}
use Rattle.p2p_tracker.specs.History
use Rattle.p2p_tracker.specs.World
use Rattle.p2p_tracker.specs.World.{World, Known}
use Rattle.p2p_tracker.specs.Answers
use Rattle.p2p_directory.specs.Laws.Gossip.{IsSince, IsUpToDate}
use Rattle.p2p_tracker.proofs.Definitions.Knowledge
use Rattle.p2p_directory.proofs.LawsOfRuns.Forgotten
use Rattle.p2p_directory.proofs.LawsOfGossip.Lists.{Member, from_members, member_filter}

module _ {C S : Type 0} (s : Settings C S) where
  -- AT LEAST AS NEW

  pub since_first : (n : ℕ) (i : Info C S) (o : Option (Info C S)) → n ≤ i.timestamp →
      IsSince n (earlier_best i o)
  since_first n i None le = le
  since_first n i (Some j) le = go (nat_lt i.timestamp j.timestamp) refl
    where
      go : (b : Bool) → nat_lt i.timestamp j.timestamp ≡ b →
          IsSince n (if b then Some j else Some i)
      go true e = omega (arith, ltb-true i.timestamp j.timestamp e)
      go false e = le

  since_rest : (n : ℕ) (i : Info C S) (o : Option (Info C S)) → IsSince n o →
      IsSince n (earlier_best i o)
  since_rest n i None h = absurd h
  since_rest n i (Some j) h = go (nat_lt i.timestamp j.timestamp) refl
    where
      go : (b : Bool) → nat_lt i.timestamp j.timestamp ≡ b →
          IsSince n (if b then Some j else Some i)
      go true e = h
      go false e = omega (arith, ltb-false i.timestamp j.timestamp e)

  since_later_right : (n : ℕ) (a b : Option (Info C S)) → IsSince n b →
      IsSince n (Knowledge.later a b)
  since_later_right n None b h = h
  since_later_right n (Some i) b h = since_rest n i b h

  -- the best of those that pass a test is at least as new as each of them
  since_best : (test : Info C S → Bool) (xs : List (Info C S)) (i : Info C S) → Member xs i →
      test i ≡ true → IsSince i.timestamp (first_greatest (filter test xs))
  since_best test [] i m e = absurd m
  since_best test (x ∷ xs) i (inl is) e = go (test x) (sym (ap test is) ∙ e)
    where
      go : (b : Bool) → b ≡ true →
          IsSince i.timestamp (first_greatest
          (cond b (x ∷ filter test xs) (filter test xs)))
      go true f = since_first i.timestamp x (first_greatest (filter test xs))
          (omega (arith, ap (λ (j : Info C S). j.timestamp) is))
      go false f = absurd (cc)
  since_best test (x ∷ xs) i (inr m) e = go (since_best test xs i m e) (test x)
    where
      go : IsSince i.timestamp (first_greatest (filter test xs)) → (b : Bool) →
          IsSince i.timestamp (first_greatest
          (cond b (x ∷ filter test xs) (filter test xs)))
      go rest true = since_rest i.timestamp x (first_greatest (filter test xs)) rest
      go rest false = rest

  -- after an update, what is known of a present peer other than the own is at least as new as each
  -- of its infos
  known_since : (w : World C S) (infos : List (Info C S)) (p : C) (i : Info C S) → Member infos i →
      History.same s i.public_key p ≡ true → History.is_own s p ≡ false →
      Answers.is_present_in s w p ≡ true →
      IsSince i.timestamp ((World.step s w (Update infos)).peer p).known.info
  known_since w infos p i m e other present =
      let k = (w.peer p).known in
      let mine = filter (λ j. History.same s j.public_key p) infos in
      subst (λ b. IsSince i.timestamp
      (if b then (if History.is_own s p then k else World.known_with_infos s k mine)
      else World.new_known s p).info) (sym present)
      (subst (λ b. IsSince i.timestamp (if b then k else World.known_with_infos s k mine).info)
      (sym other)
      (subst (λ (x : Known C S). IsSince i.timestamp x.info)
      (sym (Knowledge.updated_all_with_best s k mine))
      (since_later_right i.timestamp k.info (first_greatest mine)
      (since_best (λ j. History.same s j.public_key p) infos i m e))))

  -- each info of an update that is of another present peer
  pub update_is_since : ((p : C) → History.same s p p ≡ true) →
      (w : World C S) (infos : List (Info C S)) (i : Info C S) → Member infos i →
      History.is_own s i.public_key ≡ false → Answers.is_present_in s w i.public_key ≡ true →
      IsUpToDate (World.step s w (Update infos)) i
  update_is_since itself w infos i m other present = known_since w infos i.public_key i m
      (itself i.public_key) other present

  -- NOTHING NEW

  not_updated : (k : Known C S) (i : Info C S) (o : Option (Info C S)) → IsSince i.timestamp o →
      World.known_with_info s k i o ≡ k
  not_updated k i None h = absurd h
  not_updated k i (Some j) h = ap (λ b. if b then record k { info = Some i; fails = 0 } else k)
      (le-ltb j.timestamp i.timestamp h)

  none_updated : (k : Known C S) (xs : List (Info C S)) →
      AllByRecursion (λ i. IsSince i.timestamp k.info) xs → World.known_with_infos s k xs ≡ k
  none_updated k [] h = refl
  none_updated k (i ∷ is) h = ap (λ x. World.known_with_infos s x is) (not_updated k i k.info h.0)
      ∙ none_updated k is h.1

  -- an absent peer is as a new one
  abbrev pub AreForgotten : World C S → Type 0
  AreForgotten w = (p : C) → Answers.is_present_in s w p ≡ false →
      (w.peer p).known ≡ World.new_known s p

  pub forgotten : (cs : List (Call C S)) → AreForgotten (World.world_at s (World.past s cs))
  forgotten cs = λ p absent. Forgotten.absent s cs p absent

  -- where each info of a present peer was known as new already, an update changes nothing
  pub update_is_known : History.IsExact s → (w : World C S) → AreForgotten w →
      (infos : List (Info C S)) →
      ((i : Info C S) → Member infos i → Answers.is_present_in s w i.public_key ≡ true →
      IsUpToDate w i) →
      World.step s w (Update infos) ≡ w
  update_is_known exact w gone infos known = λ i. record {
    state = record {
      sets = w.sets;
      peer = λ p. record { status = (w.peer p).status; known = same_known p i };
      unblock = λ p. w.unblock p;
      cooldown = λ p. w.cooldown p;
    };
    held = λ p. w.held p;
  }
    where
      mine : C → List (Info C S)
      mine p = filter (λ j. History.same s j.public_key p) infos

      in_filter : (p : C) → Answers.is_present_in s w p ≡ true →
          AllByRecursion (λ i. IsSince i.timestamp (w.peer p).known.info) (mine p)
      in_filter p present = from_members (λ i. IsSince i.timestamp (w.peer p).known.info) (mine p)
          (λ i m.
          let found = member_filter (λ j. History.same s j.public_key p) infos i m in
          let key : i.public_key ≡ p = exact i.public_key p found.1 in
          subst (λ q. IsSince i.timestamp (w.peer q).known.info) key
          (known i found.0 (ap (Answers.is_present_in s w) key ∙ present)))

      same_known : (p : C) →
          (if Answers.is_present_in s w p
          then (if History.is_own s p then (w.peer p).known
          else World.known_with_infos s (w.peer p).known (mine p))
          else World.new_known s p) ≡ (w.peer p).known
      same_known p = go (Answers.is_present_in s w p) refl (History.is_own s p)
        where
          go : (b : Bool) → Answers.is_present_in s w p ≡ b → (own : Bool) →
              (if b
              then (if own then (w.peer p).known
              else World.known_with_infos s (w.peer p).known (mine p))
              else World.new_known s p) ≡ (w.peer p).known
          go true present true = refl
          go true present false = none_updated (w.peer p).known (mine p) (in_filter p present)
          go false absent own = sym (gone p absent)
