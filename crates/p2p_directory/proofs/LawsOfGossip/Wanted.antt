-- The infos that answer bits are those that are wanted and may be shared, and no others.
use Rattle.std.proofs.Common.{◌≡◌, ℕ, ◌≤◌, Bool, true, false, ◌||◌, List, [], ◌∷◌, map, Option}
use Rattle.std.proofs.Common.{Some, None, refl, sym, ◌∙◌, ap, subst, inl, inr}
use Rattle.std.specs.Prelude.{if◌then◌else◌, filter_map, nat_le, nat_lt, not}
use Rattle.std.specs.List.{cons_option}
use Rattle.std.proofs.lemmas.Bool.{leb-true, lt-ltb, or_left, or_right}
use Rattle.p2p_discovery.specs.declared.discovery.Info.{Info}
use Rattle.p2p_tracker.specs.Status.{is_inert}
use Rattle.p2p_tracker.specs.Calls.{Settings, SetAt}
use Rattle.p2p_tracker.specs.History
use Rattle.p2p_tracker.specs.World.{World}
use Rattle.p2p_tracker.specs.Answers.{wants, sharable_info, shared_infos, shared_info, is_present_in, set_at_place}
use Rattle.p2p_directory.specs.Nodes.{Made}
use Rattle.p2p_directory.specs.Laws.Gossip.{unless_above, wanted_info}
use Rattle.p2p_directory.proofs.LawsOfGossip.Lists.{inside, IsLess, Member, member_at, any_member, count_some}

module _ {C S : Type 0} (asker replier : Made C S) (v : World C S) (millis : ℕ) where
  -- at the asker's bits, a peer's info is shared where it is wanted
  shared_wanted : (w : World C S) (p : C) →
      shared_info replier.directory v millis (p, not (wants asker.directory p (w.peer p)))
      ≡ wanted_info asker w replier v millis p
  shared_wanted w p = go (wants asker.directory p (w.peer p)) (sharable_info replier.directory v p)
      refl
    where
      go : (b : Bool) (o : Option (Info C S)) → sharable_info replier.directory v p ≡ o →
          shared_info replier.directory v millis (p, not b)
          ≡ (if b then unless_above millis (sharable_info replier.directory v p) else None)
      go false o e = refl
      go true None e =
          ap (λ x. elim x [
            | None ↦ None
            | Some i ↦ if nat_le i.timestamp millis then Some i else None
          ]) e ∙ sym (ap (unless_above millis) e)
      go true (Some i) e =
          ap (λ x. elim x [
            | None ↦ None
            | Some i ↦ if nat_le i.timestamp millis then Some i else None
          ]) e ∙ sym (ap (unless_above millis) e)

  pub shared_is_wanted : (w : World C S) (ps : List C) →
      shared_infos replier.directory v millis ps
      (map (λ q. not (wants asker.directory q (w.peer q))) ps)
      ≡ filter_map (wanted_info asker w replier v millis) ps
  shared_is_wanted w [] = refl
  shared_is_wanted w (p ∷ ps) = λ i. cons_option (shared_wanted w p i) (shared_is_wanted w ps i)

  -- what is brought is wanted, may be shared and is timely
  pub record IsBrought (w : World C S) (p : C) (i : Info C S) : Type 0 where
    pub wanted : wants asker.directory p (w.peer p) ≡ true
    pub shared : sharable_info replier.directory v p ≡ Some i
    pub timely : i.timestamp ≤ millis

  pub brought_is : (w : World C S) (p : C) (i : Info C S) →
      wanted_info asker w replier v millis p ≡ Some i → IsBrought w p i
  brought_is w p i e = go (wants asker.directory p (w.peer p)) refl
      (sharable_info replier.directory v p) refl e
    where
      pick : (j : Info C S) → wants asker.directory p (w.peer p) ≡ true →
          sharable_info replier.directory v p ≡ Some j → (c : Bool) →
          nat_le j.timestamp millis ≡ c → (if c then Some j else None) ≡ Some i → IsBrought w p i
      pick j wanted is true le f = subst (IsBrought w p) (inside j i f)
          (record { wanted = wanted; shared = is; timely = leb-true j.timestamp millis le })
      pick j wanted is false le f = absurd (cc)

      go : (b : Bool) → wants asker.directory p (w.peer p) ≡ b → (o : Option (Info C S)) →
          sharable_info replier.directory v p ≡ o →
          (if b then unless_above millis o else None) ≡ Some i → IsBrought w p i
      go true wanted (Some j) is f = pick j wanted is (nat_le j.timestamp millis) refl f
      go _ wanted _ is f = absurd (cc)

  -- where less is wanted, less is brought
  pub brought_less : (w u : World C S) (p : C) →
      (wants asker.directory p (u.peer p) ≡ true → wants asker.directory p (w.peer p) ≡ true) →
      IsLess (wanted_info asker u replier v millis p) (wanted_info asker w replier v millis p)
  brought_less w u p h = go (wants asker.directory p (u.peer p))
      (wants asker.directory p (w.peer p)) h
    where
      go : (b c : Bool) → (b ≡ true → c ≡ true) →
          IsLess (if b then unless_above millis (sharable_info replier.directory v p) else None)
          (if c then unless_above millis (sharable_info replier.directory v p) else None)
      go false c k = inl refl
      go true true k = inr refl
      go true false k = absurd (let e = k refl in cc)

-- the peers of a retained set's primary list are present
module _ {C S : Type 0} (s : Settings C S) (itself : (p : C) → History.same s p p ≡ true) where
  primary_present : (w : World C S) (x : SetAt C) (p : C) → Member w.sets x → Member x.primary p →
      is_present_in s w p ≡ true
  primary_present w x p retained m =
      let named_in : History.is_in s p x.primary ≡ true = any_member (λ q. History.same s q p)
      x.primary p m (itself p) in
      let counted : nat_lt 0 (History.primary_count s p w.sets) ≡ true =
      lt-ltb 0 (History.primary_count s p w.sets)
      (count_some (λ y. History.is_in s p y.primary) w.sets x retained named_in) in
      let named : History.is_named s p w.sets ≡ true =
      or_left (nat_lt 0 (History.primary_count s p w.sets))
      (nat_lt 0 (History.secondary_count s p w.sets)) counted in
      or_left (History.is_persistent s p || History.is_named s p w.sets)
      (not (is_inert (w.peer p).status))
      (or_right (History.is_persistent s p) (History.is_named s p w.sets) named)

  pub primary_at_place : (w : World C S) (place : ℕ) (x : SetAt C) (p : C) →
      set_at_place s w place ≡ Some x → Member x.primary p → is_present_in s w p ≡ true
  primary_at_place w place x p e m = primary_present w x p (member_at w.sets place x e) m

-- .. by their names
module _ {C S : Type 0} (s : Settings C S) where
  pub named_at_place : (w : World C S) (place : ℕ) (x : SetAt C) (p : C) →
      set_at_place s w place ≡ Some x → History.is_in s p x.primary ≡ true →
      is_present_in s w p ≡ true
  named_at_place w place x p e named_in =
      let counted : nat_lt 0 (History.primary_count s p w.sets) ≡ true =
      lt-ltb 0 (History.primary_count s p w.sets)
      (count_some (λ y. History.is_in s p y.primary) w.sets x (member_at w.sets place x e) named_in)
      in
      let named : History.is_named s p w.sets ≡ true =
      or_left (nat_lt 0 (History.primary_count s p w.sets))
      (nat_lt 0 (History.secondary_count s p w.sets)) counted in
      or_left (History.is_persistent s p || History.is_named s p w.sets)
      (not (is_inert (w.peer p).status))
      (or_right (History.is_persistent s p) (History.is_named s p w.sets) named)
