-- No more lists of a peer are admitted on its link than it was asked for.
use Rattle.std.proofs.Common.{◌≡◌, ◌==◌, ℕ, ◌+◌, ◌-◌, ◌≤◌, ◌<◌, Bool, true, false, not, ◌&&◌, cond, List, [], ◌∷◌, Option, Some, None, refl, sym, ◌∙◌, ap, subst}
use Rattle.std.proofs.Common.{arith}
use Rattle.std.specs.Prelude.{if◌then◌else◌, option_map, is_some, min, length, nat_lt}
use Rattle.std.specs.List.{count_by}
use Rattle.std.specs.Option.{IsSomeAnd}
use Rattle.std.specs.Duration.{as_nanos}
use Rattle.std.specs.declared.time.Duration.{Duration}
use Rattle.std.proofs.lemmas.Bool.Decides.{nat_tests}
use Rattle.std.proofs.lemmas.Map.Views.{tells_apart}
use Rattle.std.proofs.lemmas.Map.Lookups.{CmpEqualImpliesEq}
use Rattle.p2p_discovery.specs.declared.discovery.Info.{Info}
use Rattle.p2p_discovery.specs.declared.discovery.Payload.TheVariants as payload
use Rattle.p2p_discovery.specs.Judgement.{Judge, to_verify, judged_before}
use Rattle.p2p_discovery.specs.declared.discovery.PayloadConfig.{PayloadConfig}
use Rattle.p2p_discovery.specs.Ordered.{has_key}
use Rattle.p2p_tracker.specs.Calls.{Settings, Call}
use Rattle.p2p_tracker.specs.History.{same, last_with, found_with}
use Rattle.p2p_driver.specs.declared.links.Direction.{Direction}
use Rattle.p2p_driver.specs.declared.links.Direction.TheVariants as way
use Rattle.p2p_driver.specs.declared.links.Held.{Held}
use Rattle.p2p_driver.specs.declared.links.Phase.{Phase}
use Rattle.p2p_driver.specs.declared.links.Phase.TheVariants as phase
use Rattle.p2p_driver.specs.declared.links.Waiting.{Waiting}
use Rattle.p2p_driver.specs.Frames.{Cause, Outcome, IsOutcome, Spells, begins_with, is_empty_list, owed_after}
use Rattle.p2p_driver.specs.Happenings.{Happening, calls_of, opened_by, ends_by, link_since, heard_as, said_with}
use Rattle.p2p_driver.specs.Laws.{since_of, since_began, is_asked, is_for_set, is_list, asks_by, lists_by, asked_on, lists_on}
use Rattle.p2p_driver.specs.Links.{link_with, link_as, taken_way, dial_with, asking, saying, writing, closed}
use Rattle.p2p_driver.specs.Questions.{asked_after, owed_with}
use Rattle.p2p_driver.specs.declared.questions.Question.{Question}
use Rattle.p2p_driver.specs.Drivers.{Base, AreRight, IsHeard, IsAsked, link, standing}
use Rattle.p2p_driver.proofs.Beginnings.{Begins, not_both, the_empty}
use Rattle.p2p_driver.proofs.LinkHistory.{touch_by, untouched, closing_if, reaching_if, link_after, link_stays, link_later, link_opens, link_adopts, link_dials, link_hears, link_asks, link_writes, link_speaks, ended_link, closed_link}
use Rattle.p2p_driver.proofs.Standing.{one_more}

-- so many lists were admitted and so many questions asked, on a link that there may be
abbrev Few : ℕ → ℕ → Option Held → Type 0
Few lists asked None = lists ≤ asked
Few lists asked (Some held) = lists + held.owed ≤ asked

few_at : (l m a b : ℕ) (o x : Option Held) → l ≡ m → a ≡ b → o ≡ x → Few m b x → Few l a o
few_at l m a b o x lists asked is few = subst (λ l. Few l a o) (sym lists) (subst (λ a. Few m a o) (sym asked)
    (subst (Few m b) (sym is) few))

few : (l a : ℕ) (o : Option Held) → Few l a o → l ≤ a
few l a None is = is
few l a (Some held) is = omega (arith, is)

closes : (x : Bool) (l a : ℕ) (o : Option Held) → Few l a o → Few l a (if x then option_map closed o else o)
closes true l a None is = is
closes true l a (Some held) is = is
closes false l a o is = is

writes : (x : Bool) (l a : ℕ) (o : Option Held) → Few l a o → Few l a (if x then option_map writing o else o)
writes true l a None is = is
writes true l a (Some held) is = is
writes false l a o is = is

speaks : (x : Bool) (t : Duration) (l a : ℕ) (o : Option Held) → Few l a o → Few l a (if x then option_map (saying (Some t)) o else o)
speaks true t l a None is = is
speaks true t l a (Some held) is = is
speaks false t l a o is = is

reaches : (x : Bool) (t : Duration) (l a : ℕ) (o : Option Held) → Few l a o → Few l a (link_after false (reaching_if x t) o)
reaches true t l a None is = is
reaches true t l a (Some held) is = is
reaches false t l a None is = is
reaches false t l a (Some held) is = is

ended : (x : Bool) (l a : ℕ) (o : Option Held) → Few l a o → Few l a (if x then None else o)
ended true l a o is = few l a o is
ended false l a o is = is

no_more : (most owed : ℕ) → min (owed + 1) most ≤ owed + 1
no_more most owed = grind (arith)

uncounted : (more n : ℕ) → more ≡ 0 + n → more ≡ n
uncounted more n is = omega (arith, is)

module _ {C S : Type 0} (b : Base C S) (reading : Begins b.wire) where
  abbrev d : Settings C S
  d = b.made.directory

  -- no signature of the empty list decides
  none_decide : (judge : Judge C S) (now : ℕ) (infos : List (Info C S)) (count : ℕ) → infos ≡ [] →
      count ≡ length (to_verify judge now infos) → 0 < count → ⊥
  none_decide judge now infos count is counted more =
      let zero = counted ∙ ap (λ is. length (to_verify judge now is)) is ∙ ap length (go (nat_lt judge.greatest_count 0)) in omega (arith, zero, more)
    where
      go : (many : Bool) → (if many then [] else judged_before judge now []) ≡ []
      go true = refl
      go false = refl

  -- a list of which some decide isn't the empty one
  not_empty : (judge : Judge C S) (now : ℕ) (limits : PayloadConfig) (infos : List (Info C S)) (count : ℕ) (frame : List ℕ) →
      Spells b.wire limits frame (payload.Peers infos) →
      count ≡ length (to_verify judge now infos) → 0 < count → is_empty_list frame ≡ false
  not_empty judge now limits infos count frame spells counted more = go (is_empty_list frame) refl
    where
      go : (x : Bool) → is_empty_list frame ≡ x → x ≡ false
      go true at = absurd (none_decide judge now infos count
          (reading.empty limits infos (subst (λ f. Spells b.wire limits f (payload.Peers infos)) (the_empty frame at) spells)) counted more)
      go false at = refl

  owed_if : (owed : ℕ) (zero x y : Bool) → (owed == 0) ≡ zero → x ≡ true → y ≡ false → (zero && (x && not y)) ≡ false → 0 < owed
  owed_if owed true true false at list isnt is = absurd cc
  owed_if owed true true true at list isnt is = absurd cc
  owed_if owed true false y at list isnt is = absurd cc
  owed_if owed false x y at list isnt is = grind (arith, nat_tests)

  -- where a list is admitted, a question is owed
  owes : (cs : List (Call C S)) (p : C) (ph : Phase) (owed : ℕ) (waiting : Option Waiting) (c : Cause) (w : Waiting) →
      IsOutcome d.cmp b.wire (standing b cs) ph owed waiting p c (Outcome.Waits w) → begins_with 3 w.frame ≡ true → 0 < owed
  owes cs p phase.Greeting owed None (Cause.OfFrame frame wall) w comes list =
      absurd (not_both 1 3 w.frame refl (reading.prefixed (standing b cs).limits w.frame (payload.Greeting comes.1.0) comes.1.1) list)
  owes cs p phase.Greeting owed None (Cause.OfVerdicts verdicts) w comes list = absurd comes
  owes cs p phase.Greeting owed None (Cause.OfHead longest head size) w comes list = absurd cc
  owes cs p phase.Greeting owed (Some old) (Cause.OfHead longest head size) w comes list = absurd comes
  owes cs p phase.Greeting owed (Some old) (Cause.OfFrame frame wall) w comes list = absurd comes
  owes cs p phase.Greeting owed (Some old) (Cause.OfVerdicts verdicts) w comes list = absurd comes.1.2
  owes cs p phase.Open owed None (Cause.OfFrame frame wall) w comes list = let may = comes.2.1 in
      owed_if owed (owed == 0) (begins_with 3 frame) (is_empty_list frame) refl (sym (ap (begins_with 3) comes.2.0.0) ∙ list)
      (sym (ap is_empty_list comes.2.0.0) ∙ not_empty (standing b cs).judge (as_nanos w.wall) (standing b cs).limits may.0 w.count w.frame may.1 may.3 may.4)
      comes.1
  owes cs p phase.Open owed None (Cause.OfVerdicts verdicts) w comes list = absurd comes
  owes cs p phase.Open owed None (Cause.OfHead longest head size) w comes list = absurd cc
  owes cs p phase.Open owed (Some old) (Cause.OfHead longest head size) w comes list = absurd comes
  owes cs p phase.Open owed (Some old) (Cause.OfFrame frame wall) w comes list = absurd comes
  owes cs p phase.Open owed (Some old) (Cause.OfVerdicts verdicts) w comes list = absurd comes.1.2
  owes cs p phase.Closing owed waiting c w comes list = absurd comes

  -- one more list, and one question fewer is owed
  pays : (x : Bool) (owed : ℕ) → (x ≡ true → 0 < owed) → cond x 1 0 + (owed - 1) ≤ owed
  pays true owed some = let more = some refl in omega (arith, more)
  pays false owed some = omega arith

  -- no more than one more is owed, if a set is asked for
  owed_up_to : (q : Option Question) (most owed : ℕ) → owed_with q most owed ≤ cond (is_for_set q) 1 0 + owed
  owed_up_to None most owed = omega arith
  owed_up_to (Some q) most owed = by (is_some q.index)
    where
      by : (x : Bool) → (if x then min (owed + 1) most else owed) ≤ cond x 1 0 + owed
      by true = omega arith
      by false = omega arith

  -- what is owed after an outcome, with the list that was admitted by it
  owed_then : (x : Outcome C S) (t : Duration) (most : ℕ) (held : Held) →
      ((w : Waiting) → x ≡ Outcome.Waits w → begins_with 3 w.frame ≡ true → 0 < held.owed) →
      cond (is_list x) 1 0 + (heard_as t (owed_after held.phase x most held.owed) x held).owed ≤ cond (is_asked x) 1 0 + held.owed
  owed_then (Outcome.Waits w) t most held some =
      let paid = pays (begins_with 3 w.frame) held.owed (some w refl) in omega (arith, paid)
  owed_then (Outcome.Greets dialer info question) t most held some =
      let up_to = owed_up_to question most held.owed in omega (arith, up_to)
  owed_then (Outcome.Takes infos) t most held some = omega arith
  owed_then (Outcome.Answers reply) t most held some = omega arith
  owed_then (Outcome.Delivers message) t most held some = omega arith
  owed_then Outcome.Ignores t most held some = omega arith
  owed_then (Outcome.Breaks breach blocked) t most held some = omega arith
  owed_then Outcome.IsEarly t most held some = omega arith
  owed_then Outcome.LacksChannel t most held some = omega arith
  owed_then (Outcome.Delays next) t most held some = omega arith
  owed_then (Outcome.Reads kind looked) t most held some = omega arith

  -- HOW MANY since the link of p began

  abbrev began : C → List (Happening C S) → Option ((ℕ × Direction × Duration) × List (Happening C S))
  began p h = last_with (opened_by d p) h

  -- .. with one more that doesn't count
  as_many : (f : Happening C S → Bool) (p : C) (e : Happening C S) (h : List (Happening C S)) → opened_by d p e ≡ None → f e ≡ false →
      count_by f (since_began d p (e ∷ h)) ≡ count_by f (since_began d p h)
  as_many f p e h opened isnt = ap (λ o. count_by f (since_of (found_with o e (began p h)))) opened ∙ go (began p h)
    where
      go : (found : Option ((ℕ × Direction × Duration) × List (Happening C S))) →
          count_by f (since_of (found_with None e found)) ≡ count_by f (since_of found)
      go None = refl
      go (Some found) = uncounted (count_by f (e ∷ found.1)) (count_by f found.1) (one_more f e found.1 false isnt)

  -- .. with one more on a link
  more : (f : Happening C S → Bool) (p : C) (e : Happening C S) (h : List (Happening C S)) (x : Bool) → opened_by d p e ≡ None → f e ≡ x →
      is_some (link b p h) ≡ true → count_by f (since_began d p (e ∷ h)) ≡ cond x 1 0 + count_by f (since_began d p h)
  more f p e h x opened is linked = ap (λ o. count_by f (since_of (found_with o e (began p h)))) opened ∙ go (began p h) linked
    where
      go : (found : Option ((ℕ × Direction × Duration) × List (Happening C S))) → is_some (link_since d p found) ≡ true →
          count_by f (since_of (found_with None e found)) ≡ cond x 1 0 + count_by f (since_of found)
      go None linked = absurd cc
      go (Some found) linked = one_more f e found.1 x is

  abbrev Asked : C → List (Happening C S) → Type 0
  Asked p h = Few (lists_on d p h) (asked_on d p h) (link b p h)

  -- a link changes, but no list comes and nobody is asked
  keeps : (e : Happening C S) (h : List (Happening C S)) (p : C) (o : Option Held) → opened_by d p e ≡ None → lists_by d p e ≡ false →
      asks_by d p e ≡ false → link b p (e ∷ h) ≡ o → Few (lists_on d p h) (asked_on d p h) o → Asked p (e ∷ h)
  keeps e h p o opened lists asks is few = few_at _ _ _ _ _ _ (as_many (lists_by d p) p e h opened lists)
      (as_many (asks_by d p) p e h opened asks) is few

  stays : (e : Happening C S) (h : List (Happening C S)) (p : C) → opened_by d p e ≡ None → lists_by d p e ≡ false →
      asks_by d p e ≡ false → ends_by d p e ≡ false → touch_by d p e ≡ untouched → Asked p h → Asked p (e ∷ h)
  stays e h p opened lists asks ends touch few = keeps e h p (link b p h) opened lists asks (link_stays d p e h opened ends touch) few

  closed_by : (e : Happening C S) (h : List (Happening C S)) (p : C) (x : Bool) → opened_by d p e ≡ None → lists_by d p e ≡ false →
      asks_by d p e ≡ false → ends_by d p e ≡ false → touch_by d p e ≡ closing_if x → Asked p h → Asked p (e ∷ h)
  closed_by e h p x opened lists asks ends touch few = keeps e h p (if x then option_map closed (link b p h) else link b p h) opened lists asks
      (link_later d p e h opened ∙ ap (λ y. link_after y (touch_by d p e) (link b p h)) ends
      ∙ ap (λ y. link_after false y (link b p h)) touch ∙ closed_link x (link b p h))
      (closes x (lists_on d p h) (asked_on d p h) (link b p h) few)

  -- a link began, on which nobody was asked
  begun : (e : Happening C S) (p q : C) (start : ℕ × Direction × Duration) (new : Held) (h : List (Happening C S)) →
      opened_by d p e ≡ (if same d q p then Some start else None) → lists_by d p e ≡ false → asks_by d p e ≡ false →
      link b p (e ∷ h) ≡ (if same d q p then Some new else link b p h) → Few 0 0 (Some new) → Asked p h → Asked p (e ∷ h)
  begun e p q start new h opens lists asks tied none few = few_at _ _ _ _ _ _ (at (lists_by d p)) (at (asks_by d p)) tied (go (same d q p) (began p h) few)
    where
      at : (f : Happening C S → Bool) → count_by f (since_of (last_with (opened_by d p) (e ∷ h)))
          ≡ count_by f (since_of (found_with (if same d q p then Some start else None) e (began p h)))
      at f = ap (λ o. count_by f (since_of (found_with o e (began p h)))) opens

      other : (f : Happening C S → Bool) → f e ≡ false → (found : Option ((ℕ × Direction × Duration) × List (Happening C S))) →
          count_by f (since_of (found_with None e found)) ≡ count_by f (since_of found)
      other f isnt None = refl
      other f isnt (Some found) = uncounted (count_by f (e ∷ found.1)) (count_by f found.1) (one_more f e found.1 false isnt)

      go : (x : Bool) (found : Option ((ℕ × Direction × Duration) × List (Happening C S))) →
          Few (count_by (lists_by d p) (since_of found)) (count_by (asks_by d p) (since_of found)) (link b p h) →
          Few (count_by (lists_by d p) (since_of (found_with (if x then Some start else None) e found)))
          (count_by (asks_by d p) (since_of (found_with (if x then Some start else None) e found)))
          (if x then Some new else link b p h)
      go true found few = none
      go false found few = few_at _ _ _ _ _ _ (other (lists_by d p) lists found) (other (asks_by d p) asks found) refl few

  module _ (exact : CmpEqualImpliesEq b.made.directory.cmp) where
    -- the peer of a link was heard
    hears : (n : ℕ) (p : C) (t : Duration) (owed : ℕ) (c : Cause) (x : Outcome C S) (h : List (Happening C S)) →
        IsSomeAnd (link b p h) (IsHeard b h n p t owed c x) → same d p p ≡ true → Asked p h → Asked p (Happening.Heard n p t owed c x ∷ h)
    hears n p t owed c x h right is few = go (link b p h) refl right few
      where
        e : Happening C S
        e = Happening.Heard n p t owed c x

        go : (o : Option Held) → link b p h ≡ o → IsSomeAnd o (IsHeard b h n p t owed c x) →
            Few (lists_on d p h) (asked_on d p h) o → Asked p (e ∷ h)
        go None at right few = absurd right
        go (Some held) at right few = few_at _ _ _ _ _ _
            (more (lists_by d p) p e h (is_list x) refl (ap (λ y. y && is_list x) is) (ap is_some at))
            (more (asks_by d p) p e h (is_asked x) refl (ap (λ y. y && is_asked x) is) (ap is_some at))
            (link_hears d p p n t owed c x h
            ∙ ap (λ y. if y then option_map (heard_as t owed x) (link b p h) else link b p h) is
            ∙ ap (option_map (heard_as t owed x)) at
            ∙ ap (λ k. Some (heard_as t k x held)) right.owes)
            (let now = owed_then x t b.pace.owed held (λ w is. owes (calls_of h) p held.phase held.owed held.waiting c w
            (subst (IsOutcome d.cmp b.wire (standing b (calls_of h)) held.phase held.owed held.waiting p c) is right.comes)) in
            omega (arith, now, few))

    heard : (n : ℕ) (q : C) (t : Duration) (owed : ℕ) (c : Cause) (x : Outcome C S) (h : List (Happening C S)) (p : C) →
        IsSomeAnd (link b q h) (IsHeard b h n q t owed c x) → Asked p h → Asked p (Happening.Heard n q t owed c x ∷ h)
    heard n q t owed c x h p right few = go (same d q p) refl
      where
        go : (y : Bool) → same d q p ≡ y → Asked p (Happening.Heard n q t owed c x ∷ h)
        go true is = let at = tells_apart exact q p is in
            subst (λ r. Asked p (Happening.Heard n r t owed c x ∷ h)) (sym at)
            (hears n p t owed c x h (subst (λ r. IsSomeAnd (link b r h) (IsHeard b h n r t owed c x)) at right)
            (subst (λ r. same d r p ≡ true) at is) few)
        go false is = keeps (Happening.Heard n q t owed c x) h p (link b p h) refl (ap (λ y. y && is_list x) is) (ap (λ y. y && is_asked x) is)
            (link_hears d p q n t owed c x h ∙ ap (λ y. if y then option_map (heard_as t owed x) (link b p h) else link b p h) is) few

    -- a question was due
    asks : (n : ℕ) (p : C) (t : Duration) (owed : ℕ) (fits : Bool) (question : Option Question) (h : List (Happening C S)) →
        IsSomeAnd (link b p h) (IsAsked b h n p t owed fits question) → same d p p ≡ true → Asked p h →
        Asked p (Happening.Asked n p t owed fits question ∷ h)
    asks n p t owed fits question h right is few = go (link b p h) refl right few
      where
        e : Happening C S
        e = Happening.Asked n p t owed fits question

        go : (o : Option Held) → link b p h ≡ o → IsSomeAnd o (IsAsked b h n p t owed fits question) →
            Few (lists_on d p h) (asked_on d p h) o → Asked p (e ∷ h)
        go None at right few = absurd right
        go (Some held) at right few = few_at _ _ _ _ _ _
            (more (lists_by d p) p e h false refl refl (ap is_some at))
            (more (asks_by d p) p e h (is_for_set question) refl (ap (λ y. y && is_for_set question) is) (ap is_some at))
            (link_asks d p p n t owed fits question h
            ∙ ap (λ y. if y then option_map (λ x. saying (said_with t question) (asking owed (asked_after t question x.asked) x)) (link b p h) else link b p h) is
            ∙ ap (option_map (λ x. saying (said_with t question) (asking owed (asked_after t question x.asked) x))) at)
            (let now = owed_up_to question b.pace.owed held.owed in let owes = right.owes in omega (arith, now, owes, few))

    tried : (n : ℕ) (q : C) (t : Duration) (owed : ℕ) (fits : Bool) (question : Option Question) (h : List (Happening C S)) (p : C) →
        IsSomeAnd (link b q h) (IsAsked b h n q t owed fits question) → Asked p h → Asked p (Happening.Asked n q t owed fits question ∷ h)
    tried n q t owed fits question h p right few = go (same d q p) refl
      where
        go : (y : Bool) → same d q p ≡ y → Asked p (Happening.Asked n q t owed fits question ∷ h)
        go true is = let at = tells_apart exact q p is in
            subst (λ r. Asked p (Happening.Asked n r t owed fits question ∷ h)) (sym at)
            (asks n p t owed fits question h (subst (λ r. IsSomeAnd (link b r h) (IsAsked b h n r t owed fits question)) at right)
            (subst (λ r. same d r p ≡ true) at is) few)
        go false is = keeps (Happening.Asked n q t owed fits question) h p (link b p h) refl refl (ap (λ y. y && is_for_set question) is)
            (link_asks d p q n t owed fits question h
            ∙ ap (λ y. if y then option_map (λ x. saying (said_with t question) (asking owed (asked_after t question x.asked) x)) (link b p h) else link b p h) is) few

    all_asked : (h : List (Happening C S)) → AreRight b h → (p : C) → Asked p h
    all_asked [] right p = omega arith
    all_asked (Happening.Proved n q t draw ∷ h) right p = begun (Happening.Proved n q t draw) p q (n, way.Inbound, t) (link_with n t) h
        refl refl refl (link_opens d p q n t draw h) (omega arith) (all_asked h right.2 p)
    all_asked (Happening.Adopted n q t outbound ∷ h) right p =
        begun (Happening.Adopted n q t outbound) p q (n, taken_way outbound, t) (link_as (taken_way outbound) n t) h
        refl refl refl (link_adopts d p q n t outbound h) (omega arith) (all_asked h right.2 p)
    all_asked (Happening.Dialed n q t draw word ingress ∷ h) right p =
        begun (Happening.Dialed n q t draw word ingress) p q (n, way.Dialing, t) (dial_with n t) h
        refl refl refl (link_dials d p q n t draw word ingress h) (omega arith) (all_asked h right.2 p)
    all_asked (Happening.Reached n q t ∷ h) right p =
        keeps (Happening.Reached n q t) h p (link_after false (reaching_if (same d q p) t) (link b p h)) refl refl refl
        (link_later d p (Happening.Reached n q t) h refl)
        (reaches (same d q p) t (lists_on d p h) (asked_on d p h) (link b p h) (all_asked h right.2 p))
    all_asked (Happening.Mistaken n q t ∷ h) right p =
        closed_by (Happening.Mistaken n q t) h p (same d q p) refl refl refl refl refl (all_asked h right.2 p)
    all_asked (Happening.Ended n q t direction ∷ h) right p =
        keeps (Happening.Ended n q t direction) h p (if same d q p then None else link b p h) refl refl refl
        (link_later d p (Happening.Ended n q t direction) h refl ∙ ended_link (same d q p) (link b p h))
        (ended (same d q p) (lists_on d p h) (asked_on d p h) (link b p h) (all_asked h right.2 p))
    all_asked (Happening.Failed n q t direction ∷ h) right p =
        keeps (Happening.Failed n q t direction) h p (if same d q p then None else link b p h) refl refl refl
        (link_later d p (Happening.Failed n q t direction) h refl ∙ ended_link (same d q p) (link b p h))
        (ended (same d q p) (lists_on d p h) (asked_on d p h) (link b p h) (all_asked h right.2 p))
    all_asked (Happening.SetCame t index primary secondary torn ∷ h) right p =
        closed_by (Happening.SetCame t index primary secondary torn) h p (has_key d.cmp torn p) refl refl refl refl refl (all_asked h right.2 p)
    all_asked (Happening.LinkLate n q t ∷ h) right p =
        closed_by (Happening.LinkLate n q t) h p (same d q p) refl refl refl refl refl (all_asked h right.2 p)
    all_asked (Happening.Written n q t ∷ h) right p =
        keeps (Happening.Written n q t) h p (if same d q p then option_map writing (link b p h) else link b p h) refl refl refl (link_writes d p q n t h)
        (writes (same d q p) (lists_on d p h) (asked_on d p h) (link b p h) (all_asked h right.2 p))
    all_asked (Happening.Spoken n q t place ∷ h) right p =
        keeps (Happening.Spoken n q t place) h p (if same d q p then option_map (saying (Some t)) (link b p h) else link b p h) refl refl refl
        (link_speaks d p q n t place h)
        (speaks (same d q p) t (lists_on d p h) (asked_on d p h) (link b p h) (all_asked h right.2 p))
    all_asked (Happening.Heard n q t owed c x ∷ h) right p = heard n q t owed c x h p right.0 (all_asked h right.2 p)
    all_asked (Happening.Asked n q t owed fits question ∷ h) right p = tried n q t owed fits question h p right.0 (all_asked h right.2 p)
    all_asked (Happening.Barred q t taken ∷ h) right p =
        closed_by (Happening.Barred q t taken) h p (same d q p) refl refl refl refl refl (all_asked h right.2 p)
    all_asked (Happening.Parted q t ∷ h) right p =
        closed_by (Happening.Parted q t) h p (same d q p) refl refl refl refl refl (all_asked h right.2 p)
    all_asked (e ∷ h) right p = stays e h p refl refl refl refl refl (all_asked h right.2 p)

    -- no more lists than questions
    pub lists_are_asked : (h : List (Happening C S)) → AreRight b h → (p : C) → lists_on d p h ≤ asked_on d p h
    lists_are_asked h right p = few (lists_on d p h) (asked_on d p h) (link b p h) (all_asked h right p)
