-- There are sorted lists, without repeats, of the keys that are present, persistent or left over: the
-- settings, the retained sets and the grants name all of them.
use Rattle.std.proofs.Common.{◌≡◌, Bool, true, false, cond, ◌||◌, List, [], ◌∷◌, ◌++◌, Option, Some, None}
use Rattle.std.proofs.Common.{refl, sym, ◌∙◌, ap, subst, inl, inr}
use Rattle.std.specs.Prelude.{◌⊎◌, not, is_some, map}
use Rattle.std.specs.List.{list_any}
use Rattle.std.specs.List.Sorted.{IsStrictlySortedBy}
use Rattle.std.specs.Cmp.{IsTotalOrder}
use Rattle.std.specs.Ordering.{is_eq}
use Rattle.std.specs.declared.cmp.Ordering.{Ordering}
use Rattle.std.specs.declared.cmp.Ordering.TheVariants.{Equal}
use Rattle.std.proofs.lemmas.Bool.{or_cases, or_left, or_right, and_parts}
use Rattle.std.proofs.lemmas.Cmp.{tied_itself}
use Rattle.p2p_discovery.specs.Ordered.{has_key}
use Rattle.p2p_discovery.specs.declared.types.ingress.Ingress.{Ingress}
use Rattle.p2p_discovery.proofs.Unions.{In, insert, sorted_insert, insert_has_new, insert_has_old, insert_has_only}
use Rattle.p2p_tracker.specs.Status.{is_inert}
use Rattle.p2p_tracker.specs.Calls.{Settings, Call, SetAt, Grant, Event}
use Rattle.p2p_tracker.specs.Calls.Event.{Granted}
use Rattle.p2p_tracker.specs.History
use Rattle.p2p_tracker.specs.World.{past, world_at}
use Rattle.p2p_tracker.specs.Answers.{is_present_in}
use Rattle.p2p_tracker.specs.Lists.{Lists}
use Rattle.p2p_directory.specs.Laws.Bounds.{names_in, is_left_over, AreListed, IsNamingListed}
use Rattle.p2p_directory.proofs.LawsOfRuns.Bounded.{named_any}

-- two truths that follow from each other are the same
same_truth : (a b : Bool) → (a ≡ true → b ≡ true) → (b ≡ true → a ≡ true) → a ≡ b
same_truth true b f g = sym (f refl)
same_truth false true f g = g refl
same_truth false false f g = refl

in_left : {A : Type 0} (xs ys : List A) (q : A) → In xs q → In (xs ++ ys) q
in_left [] ys q h = absurd h
in_left (x ∷ xs) ys q (inl e) = inl e
in_left (x ∷ xs) ys q (inr h) = inr (in_left xs ys q h)

in_right : {A : Type 0} (xs ys : List A) (q : A) → In ys q → In (xs ++ ys) q
in_right [] ys q h = h
in_right (x ∷ xs) ys q h = inr (in_right xs ys q h)

-- THE KEYS OF A LIST THAT HAVE A PROPERTY

module _ {C : Type 0} (cmp : C → C → Ordering) (test : C → Bool) where
  sorted_of : List C → List C
  sorted_of [] = []
  sorted_of (k ∷ ks) = cond (test k) (insert cmp k (sorted_of ks)) (sorted_of ks)

  module _ (total : IsTotalOrder cmp) (exact : (x y : C) → is_eq (cmp x y) ≡ true → x ≡ y) where
    tied : (x y : C) → cmp x y ≡ Equal → x ≡ y
    tied x y e = exact x y (ap is_eq e)

    are_sorted : (ks : List C) → IsStrictlySortedBy cmp (sorted_of ks)
    unfolding sorted_of IsStrictlySortedBy
    are_sorted [] = tt
    are_sorted (k ∷ ks) = go (test k) (are_sorted ks)
      where
        go : (b : Bool) → IsStrictlySortedBy cmp (sorted_of ks) →
            IsStrictlySortedBy cmp (cond b (insert cmp k (sorted_of ks)) (sorted_of ks))
        go true sorted = sorted_insert total tied k (sorted_of ks) sorted
        go false sorted = sorted

    has_each : (ks : List C) (q : C) → In ks q → test q ≡ true → In (sorted_of ks) q
    unfolding sorted_of
    has_each [] q h is = absurd h
    has_each (k ∷ ks) q h is = go (test k) refl h (has_each ks q)
      where
        go : (b : Bool) → test k ≡ b → In (k ∷ ks) q → (In ks q → test q ≡ true → In (sorted_of ks) q) →
            In (cond b (insert cmp k (sorted_of ks)) (sorted_of ks)) q
        go true e (inl same) rest =
            subst (λ z. In (insert cmp k (sorted_of ks)) z) same (insert_has_new total tied k (sorted_of ks))
        go true e (inr later) rest = insert_has_old total tied k (sorted_of ks) q (rest later is)
        go false e (inl same) rest = absurd (let no : false ≡ true = sym e ∙ (ap test same ∙ is) in cc)
        go false e (inr later) rest = rest later is

    has_only : (ks : List C) (q : C) → In (sorted_of ks) q → test q ≡ true
    unfolding sorted_of
    has_only [] q h = absurd h
    has_only (k ∷ ks) q h = go (test k) refl (has_only ks q) h
      where
        go : (b : Bool) → test k ≡ b → (In (sorted_of ks) q → test q ≡ true) →
            In (cond b (insert cmp k (sorted_of ks)) (sorted_of ks)) q → test q ≡ true
        go true e rest m = from (insert_has_only total tied k (sorted_of ks) q m)
          where
            from : (k ≡ q) ⊎ In (sorted_of ks) q → test q ≡ true
            from (inl same) = sym (ap test same) ∙ e
            from (inr old) = rest old
        go false e rest m = rest m

    has_from_in : (xs : List C) (q : C) → In xs q → has_key cmp xs q ≡ true
    has_from_in [] q h = absurd h
    has_from_in (x ∷ xs) q (inl same) = or_left (is_eq (cmp x q)) (has_key cmp xs q)
        (subst (λ z. is_eq (cmp x z) ≡ true) same (ap is_eq (tied_itself total x)))
    has_from_in (x ∷ xs) q (inr h) = or_right (is_eq (cmp x q)) (has_key cmp xs q) (has_from_in xs q h)

    in_from_has : (xs : List C) (q : C) → has_key cmp xs q ≡ true → In xs q
    in_from_has [] q e = absurd (cc)
    in_from_has (x ∷ xs) q e = go (or_cases (is_eq (cmp x q)) (has_key cmp xs q) e) (in_from_has xs q)
      where
        go : (is_eq (cmp x q) ≡ true) ⊎ (has_key cmp xs q ≡ true) →
            (has_key cmp xs q ≡ true → In xs q) → In (x ∷ xs) q
        go (inl f) rest = inl (exact x q f)
        go (inr f) rest = inr (rest f)

    -- a property that only keys of a list have: there is a list of those that have it
    listed : (ks : List C) → ((q : C) → test q ≡ true → In ks q) → (ps : List C) × Lists cmp test ps
    listed ks all = (
      sorted_of ks,
      record {
        sorted = are_sorted ks;
        members = λ q. same_truth (has_key cmp (sorted_of ks) q) (test q)
            (λ e. has_only ks q (in_from_has (sorted_of ks) q e))
            (λ e. has_from_in (sorted_of ks) q (has_each ks q (all q e) e));
      },
    )

-- THE KEYS OF A DIRECTORY

module _ {C S : Type 0} (s : Settings C S) (exact : History.IsExact s) where
  key_in : (xs : List C) (q : C) → History.is_in s q xs ≡ true → In xs q
  key_in [] q e = absurd (cc)
  key_in (x ∷ xs) q e = go (or_cases (History.same s x q) (History.is_in s q xs) e) (key_in xs q)
    where
      go : (History.same s x q ≡ true) ⊎ (History.is_in s q xs ≡ true) →
          (History.is_in s q xs ≡ true → In xs q) → In (x ∷ xs) q
      go (inl f) rest = inl (exact x q f)
      go (inr f) rest = inr (rest f)

  -- the persistent ones

  bootstrapper_keys : List (C × Ingress) → List C
  bootstrapper_keys bs = map (λ b. b.0) bs

  bootstrapper_in : (bs : List (C × Ingress)) (q : C) → list_any (λ b. History.same s b.0 q) bs ≡ true →
      In (bootstrapper_keys bs) q
  unfolding bootstrapper_keys
  bootstrapper_in [] q e = absurd (cc)
  bootstrapper_in (b ∷ bs) q e =
      go (or_cases (History.same s b.0 q) (list_any (λ c. History.same s c.0 q) bs) e) (bootstrapper_in bs q)
    where
      go : (History.same s b.0 q ≡ true) ⊎ (list_any (λ c. History.same s c.0 q) bs ≡ true) →
          (list_any (λ c. History.same s c.0 q) bs ≡ true → In (bootstrapper_keys bs) q) →
          In (b.0 ∷ bootstrapper_keys bs) q
      go (inl f) rest = inl (exact b.0 q f)
      go (inr f) rest = inr (rest f)

  persistent_keys : List C
  persistent_keys = s.own.public_key ∷ bootstrapper_keys s.bootstrappers

  persistent_in : (q : C) → History.is_persistent s q ≡ true → In persistent_keys q
  unfolding persistent_keys
  persistent_in q e =
      go (or_cases (History.is_own s q) (list_any (λ b. History.same s b.0 q) s.bootstrappers) e)
    where
      go : (History.is_own s q ≡ true) ⊎ (list_any (λ b. History.same s b.0 q) s.bootstrappers ≡ true) →
          In (s.own.public_key ∷ bootstrapper_keys s.bootstrappers) q
      go (inl f) = inl (exact s.own.public_key q f)
      go (inr f) = inr (bootstrapper_in s.bootstrappers q f)

  -- those that sets name

  set_keys : SetAt C → List C
  set_keys x = x.primary ++ x.secondary

  set_in : (x : SetAt C) (q : C) → names_in s x q ≡ true → In (set_keys x) q
  unfolding set_keys
  set_in x q e = go (or_cases (History.is_in s q x.primary) (History.is_in s q x.secondary) e)
    where
      go : (History.is_in s q x.primary ≡ true) ⊎ (History.is_in s q x.secondary ≡ true) →
          In (x.primary ++ x.secondary) q
      go (inl f) = in_left x.primary x.secondary q (key_in x.primary q f)
      go (inr f) = in_right x.primary x.secondary q (key_in x.secondary q f)

  sets_keys : List (SetAt C) → List C
  sets_keys [] = []
  sets_keys (x ∷ xs) = set_keys x ++ sets_keys xs

  sets_in : (xs : List (SetAt C)) (q : C) → list_any (λ x. names_in s x q) xs ≡ true → In (sets_keys xs) q
  unfolding sets_keys
  sets_in [] q e = absurd (cc)
  sets_in (x ∷ xs) q e = go (or_cases (names_in s x q) (list_any (λ y. names_in s y q) xs) e) (sets_in xs q)
    where
      go : (names_in s x q ≡ true) ⊎ (list_any (λ y. names_in s y q) xs ≡ true) →
          (list_any (λ y. names_in s y q) xs ≡ true → In (sets_keys xs) q) →
          In (set_keys x ++ sets_keys xs) q
      go (inl f) rest = in_left (set_keys x) (sets_keys xs) q (set_in x q f)
      go (inr f) rest = in_right (set_keys x) (sets_keys xs) q (rest f)

  -- those that were granted

  granted_keys : List (Event C S) → List C
  granted_keys [] = []
  granted_keys (Granted q grant ∷ h) = q ∷ granted_keys h
  granted_keys (e ∷ h) = granted_keys h

  abbrev Found : Type 0
  Found = Option (Grant × List (Event C S))

  found_before : (e : Event C S) (o : Found) → is_some (History.found_with None e o) ≡ true → is_some o ≡ true
  found_before e None is = absurd (cc)
  found_before e (Some found) is = refl

  granted_in : (h : List (Event C S)) (p : C) →
      is_some (History.last_with (History.grant_by s p) h) ≡ true → In (granted_keys h) p
  unfolding granted_keys
  granted_in [] p e = absurd (cc)
  granted_in (Granted q grant ∷ h) p e =
      go (History.same s q p) refl (History.last_with (History.grant_by s p) h) (granted_in h p) e
    where
      go : (b : Bool) → History.same s q p ≡ b → (o : Found) → (is_some o ≡ true → In (granted_keys h) p) →
          is_some (History.found_with (cond b (Some grant) None) (Granted q grant) o) ≡ true →
          In (q ∷ granted_keys h) p
      go true is o rest f = inl (exact q p is)
      go false is o rest f = inr (rest (found_before (Granted q grant) o f))
  granted_in (other ∷ h) p e = granted_in h p (found_before other (History.last_with (History.grant_by s p) h) e)

  was_found : (p : C) (o : Found) → not (is_inert (History.status_since s p o)) ≡ true → is_some o ≡ true
  was_found p None e = absurd (cc)
  was_found p (Some found) e = refl

  busy_in : (h : List (Event C S)) (p : C) → not (is_inert (History.status_at s p h)) ≡ true →
      In (granted_keys h) p
  busy_in h p e = granted_in h p (was_found p (History.last_with (History.grant_by s p) h) e)

  -- the present ones

  module _ (h : List (Event C S)) where
    abbrev sets : List (SetAt C)
    sets = History.retained_sets s h

    abbrev others : List C
    others = sets_keys sets ++ granted_keys h

    abbrev named : C → Bool
    named p = History.is_named s p sets

    abbrev busy : C → Bool
    busy p = not (is_inert (History.status_at s p h))

    present_in : (p : C) → is_present_in s (world_at s h) p ≡ true → In (persistent_keys ++ others) p
    present_in p e = go (or_cases (History.is_persistent s p || named p) (busy p) e)
      where
        kept : (History.is_persistent s p ≡ true) ⊎ (named p ≡ true) → In (persistent_keys ++ others) p
        kept (inl f) = in_left persistent_keys others p (persistent_in p f)
        kept (inr f) = in_right persistent_keys others p
            (in_left (sets_keys sets) (granted_keys h) p (sets_in sets p (named_any s 0 p sets f)))

        go : ((History.is_persistent s p || named p) ≡ true) ⊎ (busy p ≡ true) →
            In (persistent_keys ++ others) p
        go (inl f) = kept (or_cases (History.is_persistent s p) (named p) f)
        go (inr f) = in_right persistent_keys others p
            (in_right (sets_keys sets) (granted_keys h) p (busy_in h p f))

    module _ (total : IsTotalOrder s.cmp) where
      are_listed_at : AreListed s (world_at s h)
      are_listed_at = record {
        present = listed s.cmp (is_present_in s (world_at s h)) total exact (persistent_keys ++ others) present_in;
        persistent = listed s.cmp (History.is_persistent s) total exact persistent_keys persistent_in;
        left_over = listed s.cmp (is_left_over s (world_at s h)) total exact (granted_keys h)
            (λ p e. busy_in h p (and_parts (not (is_inert (History.status_at s p h)))
            (not (History.is_named s p (History.retained_sets s h))) e).0);
      }

  -- AT EACH POINT

  pub are_listed : IsTotalOrder s.cmp → (cs : List (Call C S)) → AreListed s (world_at s (past s cs))
  are_listed total cs = are_listed_at (past s cs) total

  pub naming_listed : IsTotalOrder s.cmp → (x : SetAt C) → IsNamingListed s x
  naming_listed total x = listed s.cmp (names_in s x) total exact (set_keys x) (set_in x)
