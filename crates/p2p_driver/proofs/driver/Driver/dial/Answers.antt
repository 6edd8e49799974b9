use Rattle.std.proofs.Common.{◌≡◌, ◌==◌, ◌<◌, ◌%◌, arith, ℕ, zero, suc, Some, true, false, List, [], ◌∷◌, length, refl, sym, ap, subst, ◌∙◌}
use Rattle.std.specs.Duration.{as_nanos}
use Rattle.std.specs.Prelude.{slice_get}
use Rattle.std.proofs.Math.ListN.{get_or}
use Rattle.std.proofs.Math.Nat.{mod-lt}
use Rattle.std.proofs.lemmas.Option.{slice_get_read}
use Rattle.p2p_driver.proofs.Dialable.{chosen}
use Rattle.std.proofs.lemmas.Bool.Decides.{nat_tests}
use Rattle.p2p_driver.specs.Steps.{IsChosen, MayBeDialled}
use Rattle.p2p_driver.specs.Timers.{is_to_dial, DialsOne}
use Rattle.p2p_driver.specs.declared.driver.dialing.Dialed.TheVariants as dialed
use Rattle.p2p_directory.specs.Received.{Wire}
use Rattle.p2p_driver.specs.Drivers.{DriverView, seen, wire_with}
use Rattle.p2p_driver.proofs.Driving.{goes_on}
use Rattle.p2p_driver.proofs.DrivingDials.{undials, dial_fails, dial_rests, quiet_on, chosen_in, somebody_chosen, somebody_of, somebody_in, dial_kept}
use Rattle.p2p_driver.proofs.driver.Driver.dial.Given as given
use Rattle.p2p_driver.proofs.driver.Driver.dial.Goals as goal

-- how keys are, by the type of the keys
abbrev wire_in : (g : given.Over) → Wire g.row.C.Denot g.row.C-Signature.Denot
wire_in g = wire_with g.C.PublicKey.verifies g.C.FixedBytes.spelled g.C.Signature.FixedBytes.spelled g.C.FixedBytes.SIZE
    g.C.FixedBytes.value g.C.Signature.FixedBytes.SIZE g.C.Signature.FixedBytes.value

-- there are none
no_items : {C : Type 0} (xs : List C) {n : ℕ} → n ≡ length xs → (n == 0) ≡ true → xs ≡ []
no_items [] is none = refl
no_items (x ∷ xs) {n = n} is none = absurd (never (length xs) (sym (zero_is n none) ∙ is))
  where
    zero_is : (n : ℕ) → (n == 0) ≡ true → n ≡ 0
    zero_is n is = grind (arith, nat_tests)

    never : (k : ℕ) → ¬ (0 ≡ suc k)
    never k is = omega (arith, is)

-- the word chooses one of them
chosen_one : {C : Type 0} (xs ys : List C) (word : ℕ) (p : C) → xs ≡ ys → (length xs == 0) ≡ false → p ≡ get_or xs (word % length xs) p →
    slice_get ys (word % length ys) ≡ Some p
chosen_one xs ys word p same some is = subst (λ zs. slice_get zs (word % length zs) ≡ Some p) same
    (slice_get_read xs (length xs) (word % length xs) p refl (below (length xs) some) is)
  where
    below : (n : ℕ) → (n == 0) ≡ false → word % n < n
    below zero is = absurd cc
    below (suc n) is = mod-lt word {m = suc n} (let k = n in omega (arith))

-- somebody is to be dialled, and may be
abbrev IsToBegin : (g : given.Over) → ℕ → DriverView g.row.C.Denot g.row.C-Signature.Denot → Type 0
IsToBegin g t v = (v.latest ≡ t) × (is_to_dial t v ≡ true) × MayBeDialled g.C.Ord.cmp t v.node

pub returns-then-not-is_to_dial : goal.returns-then-not-is_to_dial
returns-then-not-is_to_dial g c = (λ given pace h at. at, (c.args.self.now.next_dial.from, refl), sym c.is_to_dial.ensures ∙ c.if-not-is_to_dial.true, λ none. refl)

pub invariant_of-self : goal.invariant_of-self
invariant_of-self g c = let d = c.self.inside in (
  goes_on _ _ _ c.self.invariant.0
      (undials g.C.Ord.cmp (wire_in g) d.node d.pace d.greeting (as_nanos d.cooldown) d.next_dial (as_nanos d.latest) d.next d.arrivals d.answers d.reads d.links d.actions.items
      c.args.now _ refl refl c.retry-self-inside.ensures
      (ap (λ (v : DriverView g.row.C.Denot g.row.C-Signature.Denot). v.latest) c.self.view_is ∙ c.requires)
      (subst (λ (v : DriverView g.row.C.Denot g.row.C-Signature.Denot). is_to_dial (as_nanos c.args.now) v ≡ true) (sym c.self.view_is)
      (sym c.is_to_dial.ensures ∙ c.if-not-is_to_dial.false)) c.in_default.ensures.err),
  record {
    actions_fit = c.self.invariant.1.actions_fit;
    answers_fit = c.self.invariant.1.answers_fit;
  },
)

pub returns-in_default : goal.returns-in_default
returns-in_default g c = let d = c.self.inside in
    subst (λ v. DialsOne g.C.Ord.cmp (wire_in g) c.args.now c.args.word dialed.Memory v
    (seen d.node d.pace d.greeting (as_nanos d.cooldown) (record d.next_dial { retry = c.retry-self-inside.result }) (as_nanos d.latest) d.next d.arrivals d.answers d.reads d.links d.actions.items))
    c.self.view_is
    (dial_fails g.C.Ord.cmp (wire_in g) d.node d.pace d.greeting (as_nanos d.cooldown) d.next_dial (as_nanos d.latest) d.next d.arrivals d.answers d.reads d.links d.actions.items
    c.args.now c.args.word _ refl refl c.retry-self-inside.ensures
    (ap (λ (v : DriverView g.row.C.Denot g.row.C-Signature.Denot). v.latest) c.self.view_is ∙ c.requires)
    (subst (λ (v : DriverView g.row.C.Denot g.row.C-Signature.Denot). is_to_dial (as_nanos c.args.now) v ≡ true) (sym c.self.view_is)
    (sym c.is_to_dial.ensures ∙ c.if-not-is_to_dial.false)) c.in_default.ensures.err)

pub invariant_of-self-then-is_empty : goal.invariant_of-self-then-is_empty
invariant_of-self-then-is_empty g c = let d = c.self.inside in (
  quiet_on g.C.Ord.cmp (wire_in g) d.node d.pace d.greeting (as_nanos d.cooldown) d.next_dial (as_nanos d.latest) d.next d.arrivals d.answers d.reads d.links d.actions.items
      c.self.invariant.0 c.args.now (record d.next_dial { from = c.in-Ok.dialable.next_query_at }) refl refl
      (ap (λ (v : DriverView g.row.C.Denot g.row.C-Signature.Denot). v.latest) c.self.view_is ∙ c.requires)
      (c.in-Ok.ensures.quiet (no_items _ (ap length c.as_slice-peers.ensures.value) (sym c.is_empty.ensures ∙ c.if-is_empty.true))),
  record {
    actions_fit = c.self.invariant.1.actions_fit;
    answers_fit = c.self.invariant.1.answers_fit;
  },
)

pub returns-then-is_empty : goal.returns-then-is_empty
returns-then-is_empty g c = let d = c.self.inside in
    subst (λ v. DialsOne g.C.Ord.cmp (wire_in g) c.args.now c.args.word dialed.Nobody v
    (seen d.node d.pace d.greeting (as_nanos d.cooldown) (record d.next_dial { from = c.in-Ok.dialable.next_query_at }) (as_nanos d.latest) d.next d.arrivals d.answers d.reads d.links d.actions.items))
    c.self.view_is
    (dial_rests g.C.Ord.cmp (wire_in g) d.node d.pace d.greeting (as_nanos d.cooldown) d.next_dial (as_nanos d.latest) d.next d.arrivals d.answers d.reads d.links d.actions.items
    c.args.now c.args.word (record d.next_dial { from = c.in-Ok.dialable.next_query_at }) refl refl
    (ap (λ (v : DriverView g.row.C.Denot g.row.C-Signature.Denot). v.latest) c.self.view_is ∙ c.requires)
    (subst (λ (v : DriverView g.row.C.Denot g.row.C-Signature.Denot). is_to_dial (as_nanos c.args.now) v ≡ true) (sym c.self.view_is)
    (sym c.is_to_dial.ensures ∙ c.if-not-is_to_dial.false)) c.in-Ok.ensures.later
    (c.in-Ok.ensures.quiet (no_items _ (ap length c.as_slice-peers.ensures.value) (sym c.is_empty.ensures ∙ c.if-is_empty.true))))

pub begin_dial-requires-clause-chosen : goal.begin_dial-requires-clause-chosen
begin_dial-requires-clause-chosen g c = let peers = c.in-Ok.dialable.peers.items in
    subst (λ (v : DriverView g.row.C.Denot g.row.C-Signature.Denot). IsChosen g.C.Ord.cmp (as_nanos c.args.now) c.args.word c.index-peers-word.result v.node) c.self.view_is
    (chosen_in g.C.Ord.cmp (chosen g.C.Ord.cmp c.self.inside.node (as_nanos c.args.now) peers _ c.args.word c.index-peers-word.result c.in-Ok.ensures.dialable
    (chosen_one c.as_slice-peers.result.now peers c.args.word c.index-peers-word.result c.as_slice-peers.ensures.value
    (sym c.is_empty.ensures ∙ c.if-is_empty.false) c.index-peers-word.is)))

pub invariant_of-self-then-is_err : goal.invariant_of-self-then-is_err
invariant_of-self-then-is_err g c = let d = c.self-2.inside in
    let peers = c.in-Ok.dialable.peers.items in
    let kept = c.self-2.view_is ∙ dial_kept g.C.Ord.cmp (wire_in g) c.args.now c.args.word _ c.begin_dial.result _ _ c.begin_dial.ensures (sym c.is_err.ensures.value ∙ c.if-is_err.true) in
    let at = subst (IsToBegin g (as_nanos c.args.now)) (sym kept) (
      c.requires,
      sym c.is_to_dial.ensures ∙ c.if-not-is_to_dial.false,
      subst (λ (v : DriverView g.row.C.Denot g.row.C-Signature.Denot). MayBeDialled g.C.Ord.cmp (as_nanos c.args.now) v.node) c.self.view_is
          (somebody_in g.C.Ord.cmp _ (somebody_chosen g.C.Ord.cmp g.met.C.Ord.total (chosen g.C.Ord.cmp c.self.inside.node (as_nanos c.args.now) peers _ c.args.word c.index-peers-word.result c.in-Ok.ensures.dialable
          (chosen_one c.as_slice-peers.result.now peers c.args.word c.index-peers-word.result c.as_slice-peers.ensures.value
          (sym c.is_empty.ensures ∙ c.if-is_empty.false) c.index-peers-word.is)))),
    ) in (
      goes_on _ _ _ c.self-2.invariant.0
          (undials g.C.Ord.cmp (wire_in g) d.node d.pace d.greeting (as_nanos d.cooldown) d.next_dial (as_nanos d.latest) d.next d.arrivals d.answers d.reads d.links d.actions.items
          c.args.now _ refl refl c.retry-self-inside-then-is_err.ensures at.0 at.1 (somebody_of g.C.Ord.cmp _ at.2)),
      record {
        actions_fit = c.self-2.invariant.1.actions_fit;
        answers_fit = c.self-2.invariant.1.answers_fit;
      },
    )

pub returns-then-is_err : goal.returns-then-is_err
returns-then-is_err g c = let d = c.self-2.inside in
    let peers = c.in-Ok.dialable.peers.items in
    let kept = c.self-2.view_is ∙ dial_kept g.C.Ord.cmp (wire_in g) c.args.now c.args.word _ c.begin_dial.result _ _ c.begin_dial.ensures (sym c.is_err.ensures.value ∙ c.if-is_err.true) in
    let at = subst (IsToBegin g (as_nanos c.args.now)) (sym kept) (
      c.requires,
      sym c.is_to_dial.ensures ∙ c.if-not-is_to_dial.false,
      subst (λ (v : DriverView g.row.C.Denot g.row.C-Signature.Denot). MayBeDialled g.C.Ord.cmp (as_nanos c.args.now) v.node) c.self.view_is
          (somebody_in g.C.Ord.cmp _ (somebody_chosen g.C.Ord.cmp g.met.C.Ord.total (chosen g.C.Ord.cmp c.self.inside.node (as_nanos c.args.now) peers _ c.args.word c.index-peers-word.result c.in-Ok.ensures.dialable
          (chosen_one c.as_slice-peers.result.now peers c.args.word c.index-peers-word.result c.as_slice-peers.ensures.value
          (sym c.is_empty.ensures ∙ c.if-is_empty.false) c.index-peers-word.is)))),
    ) in
    subst (λ v. DialsOne g.C.Ord.cmp (wire_in g) c.args.now c.args.word dialed.Memory v
    (seen d.node d.pace d.greeting (as_nanos d.cooldown) (record d.next_dial { retry = c.retry-self-inside-then-is_err.result }) (as_nanos d.latest) d.next d.arrivals d.answers d.reads d.links d.actions.items))
    kept
    (dial_fails g.C.Ord.cmp (wire_in g) d.node d.pace d.greeting (as_nanos d.cooldown) d.next_dial (as_nanos d.latest) d.next d.arrivals d.answers d.reads d.links d.actions.items
    c.args.now c.args.word _ refl refl c.retry-self-inside-then-is_err.ensures at.0 at.1 (somebody_of g.C.Ord.cmp _ at.2))
