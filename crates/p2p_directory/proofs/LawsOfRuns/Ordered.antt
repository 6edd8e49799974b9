-- The order of infos is of no matter.
use Rattle.std.proofs.Common.{◌≡◌, ◌≤◌, Bool, true, false, cond, List, [], ◌∷◌, ◌++◌, Option, Some, None, inl, inr, refl, sym, ◌∙◌, ap, arith}
use Rattle.std.specs.Prelude.{if◌then◌else◌, nat_lt, filter}
use Rattle.std.proofs.lemmas.Bool.{ltb-true, ltb-false}
use Rattle.p2p_discovery.specs.declared.discovery.Info.{Info}
use Rattle.p2p_tracker.specs.Calls.{Settings, Call}
use Rattle.p2p_tracker.specs.Calls.Call.{Update}
use Rattle.p2p_tracker.specs.History
use Rattle.p2p_tracker.specs.Lists.{first_greatest, earlier_best}
use Rattle.p2p_tracker.specs.World
use Rattle.p2p_tracker.specs.World.{World, Known}
use Rattle.p2p_directory.specs.Laws.Order.{Member, HaveSame, IsUnambiguous}
use Rattle.p2p_tracker.proofs.Definitions.Knowledge
use Rattle.p2p_directory.proofs.Definitions.Law

-- what the first of greatest timestamp is
abbrev IsGreatest : {C S : Type 0} → List (Info C S) → Option (Info C S) → Type 0
IsGreatest {C} {S} xs None = (j : Info C S) → Member xs j → ⊥
IsGreatest {C} {S} xs (Some i) = Member xs i × ((j : Info C S) → Member xs j → j.timestamp ≤ i.timestamp)

greatest : {C S : Type 0} (xs : List (Info C S)) → IsGreatest xs (first_greatest xs)
greatest [] = λ j m. m
greatest {C} {S} (x ∷ xs) = go (first_greatest xs) (greatest xs)
  where
    pick : (b : Bool) (i : Info C S) → nat_lt x.timestamp i.timestamp ≡ b → IsGreatest xs (Some i) → IsGreatest (x ∷ xs) (if b then Some i else Some x)
    pick true i e h = (inr h.0, λ j. elim [ inl same ↦ omega (arith, ltb-true x.timestamp i.timestamp e, ap (λ k. k.timestamp) same) | inr m ↦ h.1 j m ])
    pick false i e h = (
      inl refl,
      λ j. elim [
        | inl same ↦ omega (arith, ap (λ k. k.timestamp) same)
        | inr m ↦ omega
            (arith, ltb-false x.timestamp i.timestamp e, h.1 j m)
      ],
    )

    go : (o : Option (Info C S)) → IsGreatest xs o → IsGreatest (x ∷ xs) (earlier_best x o)
    go None h = (inl refl, λ j. elim [ inl same ↦ omega (arith, ap (λ k. k.timestamp) same) | inr m ↦ absurd (h j m) ])
    go (Some i) h = pick (nat_lt x.timestamp i.timestamp) i refl h

member_filter : {A : Type 0} (test : A → Bool) (xs : List A) (x : A) → Member (filter test xs) x → Member xs x × (test x ≡ true)
member_filter test [] x m = absurd m
member_filter {A} test (y ∷ xs) x m = go (member_filter test xs x) (test y) refl m
  where
    go : (Member (filter test xs) x → Member xs x × (test x ≡ true)) → (b : Bool) → test y ≡ b →
        Member (cond b (y ∷ filter test xs) (filter test xs)) x → Member (y ∷ xs) x × (test x ≡ true)
    go more true e = elim [ inl same ↦ (inl same, ap test same ∙ e) | inr m ↦ (inr (more m).0, (more m).1) ]
    go more false e = λ m. (inr (more m).0, (more m).1)

filter_member : {A : Type 0} (test : A → Bool) (xs : List A) (x : A) → Member xs x → test x ≡ true → Member (filter test xs) x
filter_member test [] x m t = m
filter_member {A} test (y ∷ xs) x m t = go (filter_member test xs x) (test y) refl m
  where
    go : (Member xs x → test x ≡ true → Member (filter test xs) x) → (b : Bool) → test y ≡ b → Member (y ∷ xs) x →
        Member (cond b (y ∷ filter test xs) (filter test xs)) x
    go more true e = elim [ inl same ↦ inl same | inr m ↦ inr (more m t) ]
    go more false e = elim [ inl same ↦ absurd (let f = sym e ∙ ap test (sym same) ∙ t in cc) | inr m ↦ more m t ]

module _ {C S : Type 0} (s : Settings C S) where
  mine : C → List (Info C S) → List (Info C S)
  mine p xs = filter (λ i. History.same s i.public_key p) xs

  -- lists with the same infos have the same best one
  pub same_greatest : (p : C) (xs ys : List (Info C S)) → HaveSame xs ys → IsUnambiguous s xs →
      first_greatest (filter (λ i. History.same s i.public_key p) xs) ≡ first_greatest (filter (λ i. History.same s i.public_key p) ys)
  same_greatest p xs ys have one = go (first_greatest fx) (first_greatest fy) (greatest fx) (greatest fy)
    where
      test : Info C S → Bool
      test = λ i. History.same s i.public_key p

      fx : List (Info C S)
      fx = filter (λ i. History.same s i.public_key p) xs

      fy : List (Info C S)
      fy = filter (λ i. History.same s i.public_key p) ys

      over : (i : Info C S) → Member (filter (λ i. History.same s i.public_key p) xs) i → Member (filter (λ i. History.same s i.public_key p) ys) i
      over i m = let parts = member_filter (λ i. History.same s i.public_key p) xs i m in
          filter_member (λ i. History.same s i.public_key p) ys i ((have i).0 parts.0) parts.1

      back : (i : Info C S) → Member (filter (λ i. History.same s i.public_key p) ys) i → Member (filter (λ i. History.same s i.public_key p) xs) i
      back i m = let parts = member_filter (λ i. History.same s i.public_key p) ys i m in
          filter_member (λ i. History.same s i.public_key p) xs i ((have i).1 parts.0) parts.1

      go : (a b : Option (Info C S)) → IsGreatest (filter (λ i. History.same s i.public_key p) xs) a →
          IsGreatest (filter (λ i. History.same s i.public_key p) ys) b → a ≡ b
      go None None g h = refl
      go None (Some j) g h = absurd (g j (back j h.0))
      go (Some i) None g h = absurd (h i (over i g.0))
      go (Some i) (Some j) g h =
          let x = member_filter (λ i. History.same s i.public_key p) xs i g.0 in
          let y = member_filter (λ i. History.same s i.public_key p) xs j (back j h.0) in
          ap Some (one p i j x.0 y.0 x.1 y.1 (omega (arith, h.1 i (over i g.0), g.1 j (back j h.0))))

  -- an update with the same infos, in any order
  pub updates_alike : (w : World C S) (xs ys : List (Info C S)) → HaveSame xs ys → IsUnambiguous s xs → World.step s w (Update xs) ≡ World.step s w (Update ys)
  updates_alike w xs ys have one = λ i. record {
    state = record {
      sets = w.sets;
      peer = λ p. record {
        status = (w.peer p).status;
        known = if History.is_present_with s p w.sets (w.peer p).status
            then (if History.is_own s p then (w.peer p).known else taught p i) else World.new_known s p;
      };
      unblock = w.unblock;
      cooldown = w.cooldown;
    };
    held = w.held;
  }
    where
      taught : (p : C) → World.known_with_infos s (w.peer p).known (filter (λ i. History.same s i.public_key p) xs)
          ≡ World.known_with_infos s (w.peer p).known (filter (λ i. History.same s i.public_key p) ys)
      taught p =
          Knowledge.updated_all_with_best s (w.peer p).known (filter (λ i. History.same s i.public_key p) xs)
          ∙ ap (Knowledge.with_best s (w.peer p).known) (same_greatest p xs ys have one)
          ∙ sym (Knowledge.updated_all_with_best s (w.peer p).known (filter (λ i. History.same s i.public_key p) ys))

  taught-append : (k : Known C S) (xs ys : List (Info C S)) → World.known_with_infos s k (xs ++ ys) ≡ World.known_with_infos s (World.known_with_infos s k xs) ys
  taught-append k [] ys = refl
  taught-append k (x ∷ xs) ys = taught-append (World.known_with_info s k x k.info) xs ys

  filter-append : {A : Type 0} (test : A → Bool) (xs ys : List A) → filter test (xs ++ ys) ≡ filter test xs ++ filter test ys
  filter-append test [] ys = refl
  filter-append test (x ∷ xs) ys = ap (λ zs. cond (test x) (x ∷ zs) zs) (filter-append test xs ys) ∙ go (test x)
    where
      go : (b : Bool) → cond b (x ∷ (filter test xs ++ filter test ys)) (filter test xs ++ filter test ys)
          ≡ cond b (x ∷ filter test xs) (filter test xs) ++ filter test ys
      go true = refl
      go false = refl

  -- two updates that follow each other are one
  pub updates_join : (w : World C S) (xs ys : List (Info C S)) → World.step s (World.step s w (Update xs)) (Update ys) ≡ World.step s w (Update (xs ++ ys))
  updates_join w xs ys = λ i. record {
    state = record {
      sets = w.sets;
      peer = λ p. record { status = (w.peer p).status; known = go p (History.is_present_with s p w.sets (w.peer p).status) (History.is_own s p) i };
      unblock = w.unblock;
      cooldown = w.cooldown;
    };
    held = w.held;
  }
    where
      go : (p : C) (b own : Bool) →
          (if b then (if own
          then (if b then (if own then (w.peer p).known else World.known_with_infos s (w.peer p).known
          (filter (λ i. History.same s i.public_key p) xs)) else World.new_known s p)
          else World.known_with_infos s
          (if b then (if own then (w.peer p).known else World.known_with_infos s (w.peer p).known
          (filter (λ i. History.same s i.public_key p) xs)) else World.new_known s p)
          (filter (λ i. History.same s i.public_key p) ys)) else World.new_known s p)
          ≡ (if b then (if own then (w.peer p).known else World.known_with_infos s (w.peer p).known
          (filter (λ i. History.same s i.public_key p) (xs ++ ys))) else World.new_known s p)
      go p true false =
          sym (ap (World.known_with_infos s (w.peer p).known) (filter-append (λ i. History.same s i.public_key p) xs ys)
          ∙ taught-append (w.peer p).known (filter (λ i. History.same s i.public_key p) xs) (filter (λ i. History.same s i.public_key p) ys))
      go p _ _ = refl

  -- worlds that are alike stay so
  pub later_alike : 1 ≤ s.max_sets → (es cs ds : List (Call C S)) → World.world_at s (World.past s cs) ≡ World.world_at s (World.past s ds) →
      World.world_at s (World.past s (es ++ cs)) ≡ World.world_at s (World.past s (es ++ ds))
  later_alike some [] cs ds h = h
  later_alike some (e ∷ es) cs ds h =
      Law.recomputed_is_one_step s some (es ++ cs) e ∙ ap (λ w. World.step s w e) (later_alike some es cs ds h)
      ∙ sym (Law.recomputed_is_one_step s some (es ++ ds) e)
