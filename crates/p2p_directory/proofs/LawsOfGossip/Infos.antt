-- Where infos come from: what is known of a peer is the own info or was given, and has its key.
use Rattle.std.proofs.Common.{◌≡◌, ℕ, Bool, true, false, List, [], ◌∷◌, length, Option, Some, None, refl, subst}
use Rattle.std.specs.Prelude.{if◌then◌else◌, nat_lt, nat_le, zip, ◌==◌}
use Rattle.std.specs.List.{AllByRecursion}
use Rattle.p2p_discovery.specs.declared.discovery.Info.{Info}
use Rattle.p2p_tracker.specs.Lists.{earlier_best, first_greatest}
use Rattle.p2p_tracker.specs.Moments.{epoch_millis}
use Rattle.p2p_tracker.specs.declared.record.Status.{Status}
use Rattle.p2p_tracker.specs.declared.record.Status.TheVariants.{Active}
use Rattle.p2p_tracker.specs.Calls.{Settings, Call, SetAt, Event}
use Rattle.p2p_tracker.specs.Calls.Event.{Updated}
use Rattle.p2p_tracker.specs.History
use Rattle.p2p_tracker.specs.World
use Rattle.p2p_tracker.specs.World.{World}
use Rattle.p2p_tracker.specs.Answers
use Rattle.p2p_directory.specs.Laws.Gossip.{GivesOnly}
use Rattle.p2p_directory.proofs.Definitions.Steps.{Makes, makes}
use Rattle.p2p_directory.proofs.LawsOfGossip.Lists.{inside, all_append, all_filter, from_members, member_filter_map}

module _ {C S : Type 0} (s : Settings C S) (P : Info C S → Type 0) where
  -- P holds of the own info, and of each info that these calls give
  pub record AreGiven (cs : List (Call C S)) : Type 0 where
    pub own : P s.own
    pub calls : AllByRecursion (GivesOnly P) cs

  -- P holds of each info that an event brought
  abbrev pub Brings : Event C S → Type 0
  Brings (Updated infos) = AllByRecursion P infos
  Brings _ = Unit {0}

  -- .. where P holds of each that its call gave
  brings : (c : Call C S) (e : Event C S) → Makes c e → GivesOnly P c → Brings e
  brings c (Updated infos) made h = subst (GivesOnly P) made h
  brings c e made h = tt

  pub brings_past : (cs : List (Call C S)) → AllByRecursion (GivesOnly P) cs →
      AllByRecursion Brings (World.past s cs)
  brings_past [] h = tt
  brings_past (c ∷ cs) h = (
    brings c _ (makes s (History.taken_sets s (World.past s cs))
        (World.world_at s (World.past s cs)) c) h.0,
    brings_past cs h.1,
  )

  brings_life : (p : C) (h : List (Event C S)) → AllByRecursion Brings h →
      AllByRecursion Brings (History.life s p h)
  unfolding History.life
  brings_life p [] g = tt
  brings_life p (e ∷ h) g = go (brings_life p h g.1) (History.is_present s p (e ∷ h))
    where
      go : AllByRecursion Brings (History.life s p h) → (b : Bool) →
          AllByRecursion Brings (if b then e ∷ History.life s p h else [])
      go rest true = (g.0, rest)
      go rest false = tt

  -- P holds of it, and it has p's key
  abbrev pub IsOf : C → Info C S → Type 0
  IsOf p i = P i × (History.same s i.public_key p ≡ true)

  of_event : (p : C) (e : Event C S) → Brings e → AllByRecursion (IsOf p) (History.infos_by s p e)
  of_event p (Updated infos) h = all_filter P (λ i. History.same s i.public_key p) infos h
  of_event p e h = tt

  of_life : (p : C) (l : List (Event C S)) → AllByRecursion Brings l →
      AllByRecursion (IsOf p) (History.infos_offered s p l)
  of_life p [] h = tt
  of_life p (e ∷ l) h = all_append (IsOf p) (History.infos_offered s p l) (History.infos_by s p e)
      (of_life p l h.1) (of_event p e h.0)

  of_best : (Q : Info C S → Type 0) (is : List (Info C S)) → AllByRecursion Q is → (i : Info C S) →
      first_greatest is ≡ Some i → Q i
  of_best Q [] h i e = absurd (cc)
  of_best Q (j ∷ is) h i e = go (first_greatest is) (of_best Q is h.1) e
    where
      pick : (k : Info C S) → Q k → (b : Bool) → (if b then Some k else Some j) ≡ Some i → Q i
      pick k q true f = subst Q (inside k i f) q
      pick k q false f = subst Q (inside j i f) h.0

      go : (o : Option (Info C S)) → ((k : Info C S) → o ≡ Some k → Q k) →
          earlier_best j o ≡ Some i → Q i
      go None rest f = subst Q (inside j i f) h.0
      go (Some k) rest f = pick k (rest k refl) (nat_lt j.timestamp k.timestamp) f

  known_of : (p : C) (l : List (Event C S)) → P s.own → AllByRecursion Brings l → (i : Info C S) →
      History.info_in s p l ≡ Some i → IsOf p i
  known_of p l own h i e = go (History.is_own s p) refl e
    where
      go : (b : Bool) → History.is_own s p ≡ b →
          (if b then Some s.own else first_greatest (History.infos_offered s p l)) ≡ Some i →
          IsOf p i
      go true f g = subst (IsOf p) (inside s.own i g) (own, f)
      go false f g = of_best (IsOf p) (History.infos_offered s p l) (of_life p l h) i g

  -- what is known of a peer
  pub known_is_given : (cs : List (Call C S)) → AreGiven cs → (p : C) (i : Info C S) →
      ((World.world_at s (World.past s cs)).peer p).known.info ≡ Some i → IsOf p i
  known_is_given cs given p i e =
      known_of p (History.life s p (World.past s cs)) given.own
      (brings_life p (World.past s cs) (brings_past cs given.calls)) i e

  -- what may be shared of a peer
  pub sharable_is_given : (cs : List (Call C S)) → AreGiven cs → (p : C) (i : Info C S) →
      Answers.sharable_info s (World.world_at s (World.past s cs)) p ≡ Some i → IsOf p i
  sharable_is_given cs given p i e = go (History.is_own s p) refl e
    where
      peer : World.Peer C S
      peer = (World.world_at s (World.past s cs)).peer p

      active : (status : Status) → Answers.active_info s status peer.known.info ≡ Some i → IsOf p i
      active Active f = known_is_given cs given p i f
      active _ f = absurd (cc)

      go : (b : Bool) → History.is_own s p ≡ b →
          (if b then Some s.own else Answers.active_info s peer.status peer.known.info) ≡ Some i →
          IsOf p i
      go true f g = subst (IsOf p) (inside s.own i g) (given.own, f)
      go false f g = active peer.status g

  -- what is told of a peer with its bit may be shared of it
  shared_of : (w : World C S) (millis : ℕ) (x : C × Bool) (i : Info C S) →
      Answers.shared_info s w millis x ≡ Some i → Answers.sharable_info s w x.0 ≡ Some i
  shared_of w millis (p, true) i e = absurd (cc)
  shared_of w millis (p, false) i e = go (Answers.sharable_info s w p) e
    where
      pick : (j : Info C S) (b : Bool) → (if b then Some j else None) ≡ Some i → Some j ≡ Some i
      pick j true f = f
      pick j false f = absurd (cc)

      go : (o : Option (Info C S)) →
          elim o [ None ↦ None | Some j ↦ if nat_le j.timestamp millis then Some j else None ]
          ≡ Some i → o ≡ Some i
      go None f = absurd (cc)
      go (Some j) f = pick j (nat_le j.timestamp millis) f

  -- what is answered to bits
  pub infos_are_given : (cs : List (Call C S)) → AreGiven cs →
      (index : ℕ) (bits : List Bool) (now : ℕ) (infos : List (Info C S)) →
      Answers.infos_for s (World.world_at s (World.past s cs)) index bits now ≡ Some infos →
      AllByRecursion P infos
  infos_are_given cs given index bits now infos e = go (Answers.set_with_index s w index) e
    where
      w : World C S
      w = World.world_at s (World.past s cs)

      millis : ℕ
      millis = epoch_millis now

      found : (x : SetAt C) (b : Bool) →
          (if b then Some (Answers.shared_infos s w millis x.primary bits) else None) ≡ Some infos →
          AllByRecursion P infos
      found x false f = absurd (cc)
      found x true f = subst (AllByRecursion P)
          (inside (Answers.shared_infos s w millis x.primary bits) infos f)
          (from_members P (Answers.shared_infos s w millis x.primary bits) (λ i m.
          let from = member_filter_map (Answers.shared_info s w millis) (zip x.primary bits) i m in
          (sharable_is_given cs given from.0.0 i (shared_of w millis from.0 i from.2)).0))

      go : (o : Option (SetAt C)) →
          elim o [
            | None ↦ Some []
            | Some x ↦ if length bits == length x.primary
                then Some (Answers.shared_infos s w millis x.primary bits) else None
          ] ≡ Some infos →
          AllByRecursion P infos
      go None f = subst (AllByRecursion P) (inside [] infos f) tt
      go (Some x) f = found x (length bits == length x.primary) f
