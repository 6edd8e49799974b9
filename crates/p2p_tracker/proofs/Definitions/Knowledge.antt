-- What one more event of a life changes of what is known.
use Rattle.std.proofs.Common.{zero-add, ◌≡◌, ℕ, suc, ◌+◌, ◌<◌, ◌≤◌, Bool, true, false, cond, ◌&&◌, ◌||◌, List, [], ◌∷◌}
use Rattle.std.proofs.Common.{◌++◌, Option, Some, None, refl, sym, ◌∙◌, ap, arith}
use Rattle.std.specs.Prelude.{if◌then◌else◌, nat_lt, filter}
use Rattle.std.proofs.lemmas.List.{append-nil}
use Rattle.std.proofs.lemmas.List.Sums.{sum_by-cons}
use Rattle.std.proofs.lemmas.Bool.{ltb-true, ltb-false, lt-ltb, le-ltb}
use Rattle.std.proofs.Math.Bool.{or-true, or-false}
use Rattle.p2p_discovery.specs.declared.discovery.Info.{Info}
use Rattle.p2p_discovery.specs.declared.types.ingress.Ingress.{Ingress}
use Rattle.p2p_tracker.specs.Calls.{Settings, Direction, Event}
use Rattle.p2p_tracker.specs.Calls.Event.{Connected, Released, Updated}
use Rattle.p2p_tracker.specs.History
use Rattle.p2p_tracker.specs.Lists.{earlier_best, first_greatest}
use Rattle.p2p_tracker.specs.World
use Rattle.p2p_tracker.specs.World.{Known, Peer, World}

module _ {C S : Type 0} where
  -- THE FIRST OF GREATEST TIMESTAMP

  -- of two, the first unless the second is newer
  abbrev pub later : Option (Info C S) → Option (Info C S) → Option (Info C S)
  later None b = b
  later (Some i) b = earlier_best i b

  later_none : (a : Option (Info C S)) → later a None ≡ a
  later_none None = refl
  later_none (Some i) = refl

  later_assoc : (a b c : Option (Info C S)) → later (later a b) c ≡ later a (later b c)
  later_assoc (Some i) (Some j) None = later_none (later (Some i) (Some j))
  later_assoc (Some i) (Some j) (Some k) = go (nat_lt i.timestamp j.timestamp) (nat_lt j.timestamp k.timestamp) refl refl
    where
      go : (x y : Bool) → nat_lt i.timestamp j.timestamp ≡ x → nat_lt j.timestamp k.timestamp ≡ y →
          later (if x then Some j else Some i) (Some k) ≡ later (Some i) (if y then Some k else Some j)
      go true true e f =
          let lt : i.timestamp < k.timestamp = omega (arith, ltb-true i.timestamp j.timestamp e, ltb-true j.timestamp k.timestamp f) in
          ap (λ b. if b then Some k else Some j) f ∙ sym (ap (λ b. if b then Some k else Some i) (lt-ltb i.timestamp k.timestamp lt))
      go true false e f = ap (λ b. if b then Some k else Some j) f ∙ sym (ap (λ b. if b then Some j else Some i) e)
      go false true e f = refl
      go false false e f =
          let le : k.timestamp ≤ i.timestamp = omega (arith, ltb-false i.timestamp j.timestamp e, ltb-false j.timestamp k.timestamp f) in
          ap (λ b. if b then Some k else Some i) (le-ltb i.timestamp k.timestamp le) ∙ sym (ap (λ b. if b then Some j else Some i) e)
  later_assoc _ _ c = refl

  pub first_greatest-append : (xs ys : List (Info C S)) → first_greatest (xs ++ ys) ≡ later (first_greatest xs) (first_greatest ys)
  first_greatest-append [] ys = refl
  first_greatest-append (i ∷ xs) ys =
      ap (earlier_best i) (first_greatest-append xs ys) ∙ sym (later_assoc (Some i) (first_greatest xs) (first_greatest ys))

module _ {C S : Type 0} (s : Settings C S) where
  -- NEWER

  not_newer : (a : Option (Info C S)) → History.is_newer a a ≡ false
  not_newer None = refl
  not_newer (Some i) = le-ltb i.timestamp i.timestamp (omega arith)

  kept_unless_newer : (a b : Option (Info C S)) → History.is_newer a (later a b) ≡ false → later a b ≡ a
  kept_unless_newer None None e = refl
  kept_unless_newer None (Some j) e = absurd (cc)
  kept_unless_newer (Some i) None e = refl
  kept_unless_newer (Some i) (Some j) e = go (nat_lt i.timestamp j.timestamp) refl e
    where
      go : (x : Bool) → nat_lt i.timestamp j.timestamp ≡ x →
          History.is_newer (Some i) (if x then Some j else Some i) ≡ false → (if x then Some j else Some i) ≡ Some i
      go true f e = absurd (cc)
      go false f e = refl

  newer_later : (a b : Option (Info C S)) → History.is_newer a (later a b) ≡ History.is_newer a b
  newer_later None b = refl
  newer_later (Some i) None = not_newer (Some i)
  newer_later (Some i) (Some j) = go (nat_lt i.timestamp j.timestamp) refl
    where
      go : (x : Bool) → nat_lt i.timestamp j.timestamp ≡ x → History.is_newer (Some i) (if x then Some j else Some i) ≡ nat_lt i.timestamp j.timestamp
      go true e = refl
      go false e = not_newer (Some i) ∙ sym e

  newer_some : (j : Info C S) (c : Option (Info C S)) → History.is_newer None (later (Some j) c) ≡ true
  newer_some j None = refl
  newer_some j (Some k) =
      elim (nat_lt j.timestamp k.timestamp) as (λ x. History.is_newer None (if x then Some k else Some j) ≡ true)
      [ true ↦ refl | false ↦ refl ]

  newer_chain : (a b c : Option (Info C S)) → History.is_newer a (later b c) ≡ (History.is_newer (later a b) c || History.is_newer a b)
  newer_chain None None c = sym (or-false (History.is_newer None c))
  newer_chain None (Some j) c = newer_some j c ∙ sym (or-true (History.is_newer (Some j) c))
  newer_chain (Some i) None c = sym (or-false (History.is_newer (Some i) c))
  newer_chain (Some i) (Some j) None =
      elim (nat_lt i.timestamp j.timestamp) as
      (λ x. nat_lt i.timestamp j.timestamp
      ≡ (History.is_newer (if x then Some j else Some i) None || nat_lt i.timestamp j.timestamp))
      [ true ↦ refl | false ↦ refl ]
  newer_chain (Some i) (Some j) (Some k) = go (nat_lt i.timestamp j.timestamp) (nat_lt j.timestamp k.timestamp) refl refl
    where
      go : (x y : Bool) → nat_lt i.timestamp j.timestamp ≡ x → nat_lt j.timestamp k.timestamp ≡ y →
          History.is_newer (Some i) (if y then Some k else Some j)
          ≡ (History.is_newer (if x then Some j else Some i) (Some k) || nat_lt i.timestamp j.timestamp)
      go true true e f =
          lt-ltb i.timestamp k.timestamp
          (omega (arith, ltb-true i.timestamp j.timestamp e, ltb-true j.timestamp k.timestamp f))
          ∙ sym (ap (λ x. x || nat_lt i.timestamp j.timestamp) f)
      go true false e f = e ∙ sym (ap (λ x. nat_lt j.timestamp k.timestamp || x) e ∙ or-true (nat_lt j.timestamp k.timestamp))
      go false true e f = sym (ap (λ x. nat_lt i.timestamp k.timestamp || x) e ∙ or-false (nat_lt i.timestamp k.timestamp))
      go false false e f =
          ap (λ x. x || nat_lt i.timestamp j.timestamp)
          (sym (le-ltb i.timestamp k.timestamp
          (omega (arith, ltb-false i.timestamp j.timestamp e, ltb-false j.timestamp k.timestamp f))))

  -- ONE INFO AFTER ANOTHER

  known_path : {a b : Option (Info C S)} {c d : ℕ} → a ≡ b → c ≡ d →
      ◌≡◌ {A = Known C S} (record { info = a; fails = c }) (record { info = b; fails = d })
  known_path p q = λ i. record { info = p i; fails = q i }

  -- what is known after the best of some infos came
  abbrev pub with_best : Known C S → Option (Info C S) → Known C S
  with_best k x = record { info = later k.info x; fails = if History.is_newer k.info x then 0 else k.fails }

  pub with_best_none : (k : Known C S) → with_best k None ≡ k
  with_best_none k = known_path (later_none k.info) (go k.info)
    where
      go : (o : Option (Info C S)) → (if History.is_newer o None then 0 else k.fails) ≡ k.fails
      go None = refl
      go (Some i) = refl

  either : (x y : Bool) (n : ℕ) → (if x then 0 else if y then 0 else n) ≡ (if x || y then 0 else n)
  either true y n = refl
  either false y n = refl

  with_best_twice : (k : Known C S) (x y : Option (Info C S)) → with_best (with_best k x) y ≡ with_best k (later x y)
  with_best_twice k x y = known_path
      (later_assoc k.info x y)
      (either (History.is_newer (later k.info x) y) (History.is_newer k.info x) k.fails ∙ ap (λ b. if b then 0 else k.fails) (sym (newer_chain k.info x y)))

  updated_with_best : (k : Known C S) (i : Info C S) (o : Option (Info C S)) → k.info ≡ o → World.known_with_info s k i o ≡ with_best k (Some i)
  updated_with_best k i None e = known_path (sym (ap (λ x. later x (Some i)) e)) (sym (ap (λ x. if History.is_newer x (Some i) then 0 else k.fails) e))
  updated_with_best k i (Some j) e = go (nat_lt j.timestamp i.timestamp) refl
    where
      go : (b : Bool) → nat_lt j.timestamp i.timestamp ≡ b → (if b then record k { info = Some i; fails = 0 } else k) ≡ with_best k (Some i)
      go true f = sym
          (known_path (ap (λ x. later x (Some i)) e ∙ ap (λ b. if b then Some i else Some j) f)
          (ap (λ x. if History.is_newer x (Some i) then 0 else k.fails) e ∙ ap (λ b. if b then 0 else k.fails) f))
      go false f =
          sym (known_path (ap (λ x. later x (Some i)) e ∙ ap (λ b. if b then Some i else Some j) f ∙ sym e)
          (ap (λ x. if History.is_newer x (Some i) then 0 else k.fails) e ∙ ap (λ b. if b then 0 else k.fails) f))

  -- updated one by one, the best of them all is what comes
  pub updated_all_with_best : (k : Known C S) (is : List (Info C S)) → World.known_with_infos s k is ≡ with_best k (first_greatest is)
  updated_all_with_best k [] = sym (with_best_none k)
  updated_all_with_best k (i ∷ is) =
      ap (λ x. World.known_with_infos s x is) (updated_with_best k i k.info refl)
      ∙ updated_all_with_best (with_best k (Some i)) is ∙ with_best_twice k (Some i) (first_greatest is)

  -- INFO IN A LIFE

  info_own : (p : C) (l : List (Event C S)) → History.is_own s p ≡ true → History.info_in s p l ≡ Some s.own
  info_own p l e = ap (λ b. if b then Some s.own else first_greatest (History.infos_offered s p l)) e

  info_other : (p : C) (l : List (Event C S)) → History.is_own s p ≡ false → History.info_in s p l ≡ first_greatest (History.infos_offered s p l)
  info_other p l e = ap (λ b. if b then Some s.own else first_greatest (History.infos_offered s p l)) e

  info_updated : (p : C) (infos : List (Info C S)) (l : List (Event C S)) → History.is_own s p ≡ false →
      History.info_in s p (Updated infos ∷ l) ≡ later (History.info_in s p l) (first_greatest (History.infos_by s p (Updated infos)))
  info_updated p infos l e =
      info_other p (Updated infos ∷ l) e
      ∙ first_greatest-append (History.infos_offered s p l) (History.infos_by s p (Updated infos))
      ∙ ap (λ x. later x (first_greatest (History.infos_by s p (Updated infos)))) (sym (info_other p l e))

  -- FAILURES IN A LIFE

  abbrev one_failure : C → Option (Info C S) → Event C S → ℕ
  one_failure p None e = 0
  one_failure p (Some i) e = cond (History.is_failure s p i.ingress e) 1 0

  failures-cons : (p : C) (o : Option (Info C S)) (e : Event C S) (l : List (Event C S)) →
      History.failures_of s p o (e ∷ l) ≡ one_failure p o e + History.failures_of s p o l
  failures-cons p None e l = omega arith
  failures-cons p (Some i) e l = sum_by-cons (λ x. cond (History.is_failure s p i.ingress x) 1 0) e l

  failures_none : (p : C) (o : Option (Info C S)) → History.failures_of s p o [] ≡ 0
  failures_none p None = refl
  failures_none p (Some i) = refl

  fails_step : (p : C) (e : Event C S) (l : List (Event C S)) → History.fails_in s p (e ∷ l)
      ≡ (if History.is_brought_by s p e l || History.connects_as_dialer s p e then 0 else one_failure p
      (History.info_in s p (e ∷ l)) e + History.failures_of s p (History.info_in s p (e ∷ l))
      (History.since_cleared s p l))
  fails_step p e l = go (History.is_brought_by s p e l || History.connects_as_dialer s p e)
    where
      go : (b : Bool) → History.failures_of s p (History.info_in s p (e ∷ l)) (if b then [] else e ∷ History.since_cleared s p l)
          ≡ (if b then 0 else one_failure p (History.info_in s p (e ∷ l)) e + History.failures_of s p
          (History.info_in s p (e ∷ l)) (History.since_cleared s p l))
      go true = failures_none p (History.info_in s p (e ∷ l))
      go false = failures-cons p (History.info_in s p (e ∷ l)) e (History.since_cleared s p l)

  -- an event that leaves the info as it was
  fails_quiet : (p : C) (e : Event C S) (l : List (Event C S)) → History.info_in s p (e ∷ l) ≡ History.info_in s p l →
      History.fails_in s p (e ∷ l) ≡ (if History.connects_as_dialer s p e then 0 else one_failure p (History.info_in s p l) e + History.fails_in s p l)
  fails_quiet p e l same =
      fails_step p e l
      ∙ ap (λ o. if History.is_newer (History.info_in s p l) o || History.connects_as_dialer s p e then 0
      else one_failure p o e + History.failures_of s p o (History.since_cleared s p l)) same
      ∙ ap (λ b. if b || History.connects_as_dialer s p e then 0 else one_failure p (History.info_in s p l) e
      + History.fails_in s p l) (not_newer (History.info_in s p l))

  -- ONE MORE CALL OF A LIFE

  info_quiet : (p : C) (e : Event C S) (l : List (Event C S)) → History.infos_by s p e ≡ [] → History.info_in s p (e ∷ l) ≡ History.info_in s p l
  info_quiet p e l none =
      ap (λ is. if History.is_own s p then Some s.own else first_greatest (History.infos_offered s p l ++ is)) none
      ∙ ap (λ is. if History.is_own s p then Some s.own else first_greatest is) (append-nil (History.infos_offered s p l))

  -- an event that is no release
  no_failure : (p : C) (e : Event C S) → ((a : Ingress) → History.is_failure s p a e ≡ false) → (o : Option (Info C S)) → one_failure p o e ≡ 0
  no_failure p e none None = refl
  no_failure p e none (Some i) = ap (λ b. cond b 1 0) (none i.ingress)

  fails_same : (p : C) (e : Event C S) (l : List (Event C S)) →
      History.info_in s p (e ∷ l) ≡ History.info_in s p l → ((a : Ingress) → History.is_failure s p a e ≡ false) →
      History.fails_in s p (e ∷ l) ≡ (if History.connects_as_dialer s p e then 0 else History.fails_in s p l)
  fails_same p e l same none =
      fails_quiet p e l same
      ∙ ap (λ n. if History.connects_as_dialer s p e then 0 else n + History.fails_in s p l) (no_failure p e none (History.info_in s p l))
      ∙ ap (λ n. if History.connects_as_dialer s p e then 0 else n) (zero-add (History.fails_in s p l))

  -- an event that says nothing of p
  nothing_known : (p : C) (e : Event C S) (l : List (Event C S)) → History.infos_by s p e ≡ [] →
      ((a : Ingress) → History.is_failure s p a e ≡ false) → History.connects_as_dialer s p e ≡ false →
      World.known_in s p (e ∷ l) ≡ World.known_in s p l
  nothing_known p e l no_info none no_dial =
      let same = info_quiet p e l no_info in
      known_path same
      (fails_same p e l same none ∙ ap (λ b. if b then 0 else History.fails_in s p l) no_dial)

  fails_by_best : (p : C) (e : Event C S) (l : List (Event C S)) (x : Option (Info C S)) →
      ((a : Ingress) → History.is_failure s p a e ≡ false) → (b : Bool) →
      History.is_newer (History.info_in s p l) x ≡ b →
      (if History.is_newer (History.info_in s p l) (later (History.info_in s p l) x) || false then 0
      else one_failure p (later (History.info_in s p l) x) e + History.failures_of s p (later (History.info_in s p l) x) (History.since_cleared s p l))
      ≡ (if b then 0 else History.fails_in s p l)
  fails_by_best p e l x none true f =
      ap (λ b. if b || false then 0 else one_failure p (later (History.info_in s p l) x) e + History.failures_of s
      p (later (History.info_in s p l) x) (History.since_cleared s p l))
      (newer_later (History.info_in s p l) x ∙ f)
  fails_by_best p e l x none false f =
      let old_newer : History.is_newer (History.info_in s p l) (later (History.info_in s p l) x) ≡ false = newer_later (History.info_in s p l) x ∙ f in
      ap (λ b. if b || false then 0 else one_failure p (later (History.info_in s p l) x) e + History.failures_of s
      p (later (History.info_in s p l) x) (History.since_cleared s p l)) old_newer
      ∙ ap (λ o. one_failure p o e + History.failures_of s p o (History.since_cleared s p l)) (kept_unless_newer (History.info_in s p l) x old_newer)
      ∙ ap (λ n. n + History.fails_in s p l) (no_failure p e none (History.info_in s p l))
      ∙ zero-add (History.fails_in s p l)

  fails_updated : (p : C) (infos : List (Info C S)) (l : List (Event C S)) → History.is_own s p ≡ false →
      History.fails_in s p (Updated infos ∷ l)
      ≡ (if History.is_newer (History.info_in s p l)
      (first_greatest (History.infos_by s p (Updated infos))) then 0 else History.fails_in s p l)
  fails_updated p infos l other =
      fails_step p (Updated infos) l
      ∙ ap (λ o. if History.is_newer (History.info_in s p l) o || false then 0 else one_failure p o (Updated infos)
      + History.failures_of s p o (History.since_cleared s p l)) (info_updated p infos l other)
      ∙ fails_by_best p (Updated infos) l (first_greatest (History.infos_by s p (Updated infos)))
      (λ a. refl) (History.is_newer (History.info_in s p l)
      (first_greatest (History.infos_by s p (Updated infos)))) refl

  known_updated : (p : C) (infos : List (Info C S)) (l : List (Event C S)) (own : Bool) → History.is_own s p ≡ own →
      World.known_in s p (Updated infos ∷ l)
      ≡ (if own then World.known_in s p l else World.known_with_infos s (World.known_in s p l)
      (filter (λ i. History.same s i.public_key p) infos))
  known_updated p infos l true own =
      let same : History.info_in s p (Updated infos ∷ l) ≡ History.info_in s p l = info_own p (Updated infos ∷ l) own ∙ sym (info_own p l own) in
      known_path same (fails_same p (Updated infos) l same (λ a. refl))
  known_updated p infos l false other =
      known_path (info_updated p infos l other)
      (fails_updated p infos l other)
      ∙ sym (updated_all_with_best (World.known_in s p l) (filter (λ i. History.same s i.public_key p) infos))

  known_connected : (p q : C) (dialer : Bool) (l : List (Event C S)) →
      World.known_in s p (Connected q dialer ∷ l) ≡ World.known_after s p (Connected q dialer) (World.known_in s p l)
  known_connected p q dialer l =
      known_path same (fails_same p (Connected q dialer) l same (λ a. refl))
      ∙ go (History.same s q p && dialer)
    where
      same : History.info_in s p (Connected q dialer ∷ l) ≡ History.info_in s p l
      same = info_quiet p (Connected q dialer) l refl

      go : (b : Bool) →
          ◌≡◌ {A = Known C S} (record (World.known_in s p l) { fails = if b then 0 else History.fails_in s p l })
          (if b then record (World.known_in s p l) { fails = 0 } else World.known_in s p l)
      go true = refl
      go false = refl

  -- how a release counts
  failure_counts : (p q : C) (direction : Direction) (k : Known C S) (o : Option (Info C S)) (n : ℕ) → k.info ≡ o → k.fails ≡ n →
      ◌≡◌ {A = Known C S} (record k { fails = one_failure p o (Released q direction) + n })
      (if History.same s q p && World.is_failed_dial s o direction then record k { fails = suc k.fails } else k)
  failure_counts p q direction k None n e f = go (History.same s q p)
    where
      go : (b : Bool) → ◌≡◌ {A = Known C S} (record k { fails = 0 + n }) (if b && false then record k { fails = suc k.fails } else k)
      go true = known_path refl ((zero-add n) ∙ sym f)
      go false = known_path refl ((zero-add n) ∙ sym f)
  failure_counts p q direction k (Some i) n e f = go (History.same s q p && History.is_dial_at i.ingress direction)
    where
      go : (b : Bool) → ◌≡◌ {A = Known C S} (record k { fails = cond b 1 0 + n }) (if b then record k { fails = suc k.fails } else k)
      go true = known_path refl (omega arith)
      go false = known_path refl ((zero-add n) ∙ sym f)

  known_released : (p q : C) (direction : Direction) (l : List (Event C S)) →
      World.known_in s p (Released q direction ∷ l) ≡ World.known_after s p (Released q direction)
      (World.known_in s p l)
  known_released p q direction l =
      known_path same (fails_quiet p (Released q direction) l same)
      ∙ failure_counts p q direction (World.known_in s p l) (History.info_in s p l) (History.fails_in s p l) refl refl
    where
      same : History.info_in s p (Released q direction ∷ l) ≡ History.info_in s p l
      same = info_quiet p (Released q direction) l refl

  pub known_step : (p : C) (e : Event C S) (l : List (Event C S)) → World.known_in s p (e ∷ l) ≡ World.known_after s p e (World.known_in s p l)
  known_step p (Updated infos) l = known_updated p infos l (History.is_own s p) refl
  known_step p (Connected q dialer) l = known_connected p q dialer l
  known_step p (Released q direction) l = known_released p q direction l
  known_step p e l = nothing_known p e l refl (λ a. refl) refl

  -- what is known of a peer with no life
  pub known_nothing : (p : C) → World.known_in s p [] ≡ World.new_known s p
  known_nothing p = known_path refl (failures_none p (History.info_in s p []))

  -- a life goes on or is emptied
  pub known_life : (p : C) (e : Event C S) (h : List (Event C S)) → World.known_in s p (History.life s p (e ∷ h))
      ≡ (if History.is_present s p (e ∷ h) then World.known_after s p e (World.known_in s p (History.life s p h)) else World.new_known s p)
  unfolding History.life
  known_life p e h = go (History.is_present s p (e ∷ h))
    where
      go : (b : Bool) → World.known_in s p (if b then e ∷ History.life s p h else [])
          ≡ (if b then World.known_after s p e (World.known_in s p (History.life s p h)) else World.new_known s p)
      go true = known_step p e (History.life s p h)
      go false = known_nothing p
