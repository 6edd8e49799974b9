-- Who may be dialled, as a node tells it.
use Rattle.std.proofs.Common.{◌≡◌, ◌≤◌, ◌<◌, ◌%◌, ℕ, zero, suc, Bool, true, false, ◌&&◌, ◌||◌, List, [], ◌∷◌, Option, Some, None, refl, sym, ◌∙◌, ap, subst, arith}
use Rattle.std.specs.Prelude.{if◌then◌else◌, length, not, nat_le, nat_lt, slice_get, Result, Ok, Err, IfOk, OnErr}
use Rattle.std.specs.BTreeMap.{is_at}
use Rattle.std.specs.Cmp.{IsTotalOrder}
use Rattle.std.specs.declared.cmp.Ordering.{Ordering}
use Rattle.std.proofs.lemmas.Bool.Decides.{nat_tests}
use Rattle.std.proofs.lemmas.Cmp.{tied_itself}
use Rattle.std.specs.Ordering.{is_eq}
use Rattle.p2p_tracker.specs.Seen.{DirectoryView}
use Rattle.p2p_directory.specs.Refinement.{Refines}
use Rattle.p2p_discovery.specs.Ordered.{has_key}
use Rattle.p2p_tracker.specs.Answers.{is_dialable, IsDialable, query_moment, is_present_in, was_granted}
use Rattle.p2p_tracker.specs.Blocks.{is_blocked}
use Rattle.p2p_tracker.specs.Calls.{Settings, Call}
use Rattle.p2p_tracker.specs.Cooldowns.{dialable_from}
use Rattle.p2p_tracker.specs.Dials.{IsBefore, AreDialled, AreChosen}
use Rattle.p2p_tracker.specs.Directory.{is_dialable_in, AreDialableIn}
use Rattle.p2p_tracker.specs.Lists.{IsLeastOf, Somebody}
use Rattle.p2p_tracker.specs.History.{is_entitled}
use Rattle.p2p_tracker.specs.Status.{is_inert}
use Rattle.p2p_tracker.specs.World.{World, is_target, is_valid_address, address_with, is_dial_target}
use Rattle.p2p_directory.specs.Nodes.{NodeView, StandsSomewhere, made_of}
use Rattle.p2p_directory.specs.Run.{world_after}
use Rattle.p2p_directory.proofs.Refinement.DialsRefine.{tie_is_dialable, tie_dialable}
use Rattle.p2p_driver.specs.Steps.{is_before, IsChosenIn, AreDialable, StaysQuiet, MayBeDialled, IsChosen, IsGranted}

some_is : {A : Type 0} {x y : A} → Some x ≡ Some y → x ≡ y
some_is e = cc

no_some : {A : Type 0} (x : A) → ¬ (None ≡ Some x)
no_some x is = cc

is_less : (t m : ℕ) → nat_lt t m ≡ true → t < m
is_less t m is = grind (arith, nat_tests)

less_is : (t m : ℕ) → t < m → nat_lt t m ≡ true
less_is t m is = grind (arith, nat_tests)

pub before_is : (t : ℕ) (next : Option ℕ) → is_before t next ≡ true → IsBefore t next
before_is t None is = tt
before_is t (Some m) is = is_less t m is

-- what is so of what is returned
pub map_ok : {A E : Type 0} {P Q : A → Type 0} (r : Result A E) → ((x : A) → P x → Q x) → IfOk r P → IfOk r Q
map_ok (Ok x) goes is = goes x is
map_ok (Err e) goes is = tt

pub map_err : {A E : Type 0} {P Q : Type 0} (r : Result A E) → (P → Q) → OnErr r P → OnErr r Q
map_err (Ok x) goes is = tt
map_err (Err e) goes is = goes is

-- who stands in a list has its key
pub has_at : {C : Type 0} (cmp : C → C → Ordering) → IsTotalOrder cmp → (ps : List C) (k : ℕ) (p : C) → slice_get ps k ≡ Some p → has_key cmp ps p ≡ true
has_at cmp total [] k p is = cc
has_at cmp total (x ∷ ps) zero p is = ap (λ y. is_at (cmp y) p || has_key cmp ps p) (some_is is) ∙ ap (λ b. b || has_key cmp ps p) (itself p)
  where
    itself : (q : _) → is_at (cmp q) q ≡ true
    itself q = ap is_eq (tied_itself total q)
has_at cmp total (x ∷ ps) (suc k) p is = go (is_at (cmp x) p) (has_at cmp total ps k p is)
  where
    go : (b : Bool) → has_key cmp ps p ≡ true → (b || has_key cmp ps p) ≡ true
    go true has = refl
    go false has = has

module _ {C S : Type 0} (s : Settings C S) where
  -- a query is to be repeated later
  query_later : (w : World C S) (t m : ℕ) (p : C) → query_moment s w t p ≡ Some m → t < m
  query_later w t m p is = go (w.unblock p) (is_blocked (w.unblock p) t) refl (is_present_in s w p) refl is
    where
      of_target : (b : Bool) → b ≡ (is_target s p w.sets (w.peer p) && nat_lt t (dialable_from (w.cooldown p))) →
          (if b then Some (dialable_from (w.cooldown p)) else None) ≡ Some m → t < m
      of_target true at is = subst (λ x. t < x) (some_is is) (is_less t (dialable_from (w.cooldown p)) (second (is_target s p w.sets (w.peer p)) (sym at)))
        where
          second : (x : Bool) → (x && nat_lt t (dialable_from (w.cooldown p))) ≡ true → nat_lt t (dialable_from (w.cooldown p)) ≡ true
          second true is = is
          second false is = cc
      of_target false at is = absurd (no_some m is)

      go : (u : Option ℕ) (b : Bool) → is_blocked u t ≡ b → (there : Bool) → is_present_in s w p ≡ there →
          (if b then (if there then u else None) else (if is_target s p w.sets (w.peer p) && nat_lt t (dialable_from (w.cooldown p))
          then Some (dialable_from (w.cooldown p)) else None)) ≡ Some m → t < m
      go u false at there present is = of_target _ refl is
      go None true at there present is = absurd cc
      go (Some moment) true at true present is = subst (λ x. t < x) (some_is is) (is_less t moment at)
      go (Some moment) true at false present is = absurd (no_some m is)

  next_later : (w : World C S) (t : ℕ) (next : Option ℕ) → IsLeastOf (query_moment s w t) next → is_before t next ≡ true
  next_later w t None least = refl
  next_later w t (Some m) least = less_is t m (query_later w t m least.0.0 least.0.1)

  -- nobody is listed, so nobody may be dialled
  none_listed : (w : World C S) (u : ℕ) (ps : List C) (next : Option ℕ) → ps ≡ [] → IsDialable s w u ps next → (p : C) → is_dialable s w u p ≡ false
  none_listed w u ps next none lists p = sym (lists.0.members p) ∙ ap (λ qs. has_key s.cmp qs p) none

  -- the chosen one may be
  pub chosen_is_dialable : IsTotalOrder s.cmp → (w : World C S) (t word : ℕ) (p : C) → IsChosenIn s w t word p → is_dialable s w t p ≡ true
  chosen_is_dialable total w t word p is = sym (is.dialable.0.members p) ∙ has_at s.cmp total is.peers (word % length is.peers) p is.chosen

  -- who may be dialled is neither reserved nor connected
  pub dialable_is_inert : (w : World C S) (t : ℕ) (p : C) → is_dialable s w t p ≡ true → is_inert (w.peer p).status ≡ true
  dialable_is_inert w t p is = go (is_entitled s p w.sets) (is_inert (w.peer p).status) is
    where
      go : (a b : Bool) → ((a && b && is_valid_address s (address_with s p (w.peer p).known.info) && is_dial_target s p w.sets)
          && not (is_blocked (w.unblock p) t) && nat_le (dialable_from (w.cooldown p)) t) ≡ true → b ≡ true
      go true true is = refl
      go true false is = cc
      go false b is = cc

-- how a node tells it, by its directory
module _ {C S : Type 0} (cmp : C → C → Ordering) (v : NodeView C S) (d : DirectoryView C S) (same : d ≡ v.directory) (t : ℕ) where
  refined : (s : Settings C S) (w : World C S) → Refines s w v.directory → Refines s w d
  refined s w refines = subst (Refines s w) (sym same) refines

  pub are_dialable : (ps : List C) (next : Option ℕ) → AreDialableIn cmp d t ps next → AreDialable cmp t ps next v
  are_dialable ps next told given calls at = let s = (made_of cmp given).directory in
      tie_dialable s (world_after s calls) d t ps next (refined s (world_after s calls) at.refines) told

  pub stays_quiet : (ps : List C) (next : Option ℕ) →
      ((u : ℕ) → t ≤ u → IsBefore u next → AreDialableIn cmp d u ps next) → ps ≡ [] → StaysQuiet cmp t next v
  stays_quiet ps next told none given calls at u later before p = let s = (made_of cmp given).directory in
      none_listed s (world_after s calls) u ps next none
      (tie_dialable s (world_after s calls) d u ps next (refined s (world_after s calls) at.refines) (told u later (before_is u next before))) p

  pub asks_later : StandsSomewhere cmp v → (ps : List C) (next : Option ℕ) → AreDialableIn cmp d t ps next → is_before t next ≡ true
  asks_later at ps next told = let s = (made_of cmp at.given).directory in
      next_later s (world_after s at.calls) t next
      (tie_dialable s (world_after s at.calls) d t ps next (refined s (world_after s at.calls) at.stands.refines) told).1

  pub may_be_dialled : Somebody (is_dialable_in cmp d t) → MayBeDialled cmp t v
  may_be_dialled one given calls at = let s = (made_of cmp given).directory in
      (one.0, sym (tie_is_dialable s (world_after s calls) d t (refined s (world_after s calls) at.refines) one.0) ∙ one.1)

module _ {C S : Type 0} (cmp : C → C → Ordering) (v : NodeView C S) (t : ℕ) where
  -- one of those who may be dialled
  pub chosen : (ps : List C) (next : Option ℕ) (word : ℕ) (p : C) → AreDialable cmp t ps next v → slice_get ps (word % length ps) ≡ Some p → IsChosen cmp t word p v
  chosen ps next word p are is given calls at = record { peers = ps; next = next; dialable = are given calls at; chosen = is }

  -- .. is granted
  pub granted_by : IsTotalOrder cmp → ((s : Settings C S) → s.cmp ≡ cmp → 1 ≤ s.max_sets → (cs : List (Call C S)) (t : ℕ) (ps : List C) (xs : List (C × ℕ)) (next : Option ℕ) →
      IsDialable s (world_after s cs) t ps next → AreChosen s ps xs → AreDialled s t xs cs) → (word draw : ℕ) (p : C) → IsChosen cmp t word p v → IsGranted cmp p t draw v
  granted_by total law word draw p is given calls at =
      let s = (made_of cmp given).directory in
      let one = is given calls at in
      let dialled = law s refl given.cfg.max_sets.ok calls t one.peers ((p, draw) ∷ []) one.next one.dialable
      (has_at cmp total one.peers (word % length one.peers) p one.chosen, tt, tt) in
      ap was_granted dialled.0.1
