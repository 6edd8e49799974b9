-- Links of peers, as they are kept by peer and by number.
use Rattle.std.proofs.Common.{◌≡◌, ◌≤◌, ◌<◌, ◌+◌, ℕ, Bool, true, false, cond, List, [], ◌∷◌}
use Rattle.std.proofs.Common.{Option, Some, None, refl, sym, ◌∙◌, ap, subst, arith}
use Rattle.std.proofs.Common.{Less, Greater, inl, inr}
use Rattle.std.specs.Prelude.{IfSome, IfNone, is_some, option_map, unwrap_or, if◌then◌else◌, max, nat_le, ◌&&◌}
use Rattle.std.specs.Duration.{as_nanos}
use Rattle.std.proofs.lemmas.Bool.Decides.{nat_tests}
use Rattle.std.specs.declared.cmp.Ordering.{Ordering}
use Rattle.std.specs.declared.time.Duration.{Duration}
use Rattle.std.specs.BTreeMap.{is_at, insert_entry}
use Rattle.std.specs.Cmp.{IsTotalOrder, IsEquivalence, eq_by_cmp_equiv}
use Rattle.std.specs.HashMap.Eq.{lookup_congr}
use Rattle.std.specs.List.Sorted.{IsStrictlySortedBy}
use Rattle.std.specs.Map.{lookup, keys_of, remove_entry, set_value}
use Rattle.std.specs.Option.{IsSomeAnd, IsSome}
use Rattle.std.specs.Ordering.{nat_cmp, eq_by_cmp, is_eq}
use Rattle.std.specs.Cmp.{nat_cmp_is}
use Rattle.std.proofs.lemmas.Bool.{cases_lt}
use Rattle.std.proofs.lemmas.Cmp.{nat_cmp_total}
use Rattle.std.proofs.lemmas.Map.{lookup-set_value}
use Rattle.std.proofs.lemmas.Map.Entries.{sum_by-remove_entry, sum_by-set_value, sum_by-insert_entry}
use Rattle.p2p_driver.specs.declared.links.Asked.{Asked}
use Rattle.p2p_driver.specs.declared.links.Direction.{Direction}
use Rattle.p2p_driver.specs.declared.links.Direction.TheVariants.{Inbound, Dialing, Outbound, TakenOver}
use Rattle.p2p_driver.specs.declared.links.Held.{Held}
use Rattle.p2p_driver.specs.declared.links.Phase.{Phase}
use Rattle.p2p_driver.specs.declared.links.Phase.TheVariants as phase
use Rattle.p2p_driver.specs.Links.{link_of, need_of, need_at, needs, greeted, is_greeting, one_if_greeting, opened, asking, closed, is_open, is_to_ask, to_ask}
use Rattle.p2p_driver.specs.Links.{AreInverse, AreNumbered, AreAlike, count_of, is_way, is_dialing}

-- one, if it is so
abbrev tally : Bool → ℕ
tally b = cond b 1 0

-- a number is equal to itself
itself : (n : ℕ) → is_at (nat_cmp n) n ≡ true
itself n = (eq_by_cmp_equiv nat_cmp_total).refl n

-- the same number
same : (n m : ℕ) → is_at (nat_cmp n) m ≡ true → n ≡ m
same n m is = elim (cases_lt n m) [
  | inl less ↦ absurd (let e = sym (ap is_eq (nat_cmp_is n m Less less)) in
      let f = sym is ∙ e in cc)
  | inr more ↦ elim (cases_lt m n) [
    | inl less ↦ absurd (let e = sym (ap is_eq (nat_cmp_is n m Greater less)) in
        let f = sym is ∙ e in cc)
    | inr less ↦ omega (arith, less, more)
  ]
]

-- what isn't there isn't written
pub set_none : {K X : Type 0} (test : K → Bool) (es : List (K × X)) (w : X) →
    lookup test es ≡ None → set_value test es w ≡ es
set_none test [] w none = refl
set_none {K} {X} test (e ∷ es) w none = go (test e.0) none (set_none test es w)
  where
    go : (b : Bool) → cond b (Some e.1) (lookup test es) ≡ None →
        (lookup test es ≡ None → set_value test es w ≡ es) →
        cond b ((e.0, w) ∷ es) (e ∷ set_value test es w) ≡ e ∷ es
    go true none rest = absurd cc
    go false none rest = ap (λ fs. e ∷ fs) (rest none)

-- BY PEER AND BY NUMBER
module _ {C : Type 0} {cmp : C → C → Ordering} (total : IsTotalOrder cmp) where
  laws : IsEquivalence (eq_by_cmp cmp)
  laws = eq_by_cmp_equiv total

  pub alike : (links : List (C × Held)) → AreAlike cmp links
  alike links p q e = lookup_congr (eq_by_cmp cmp) laws.congr links p q e

  -- of equal keys
  turned : (p q : C) → is_at (cmp p) q ≡ true → is_at (cmp q) p ≡ true
  turned p q e = sym (laws.symm p q) ∙ e

  through : (p q r : C) → is_at (cmp p) q ≡ true → is_at (cmp p) r ≡ true → is_at (cmp q) r ≡ true
  through p q r e f = sym (laws.congr p q r e) ∙ f

  -- a link is written over
  pub written : (links : List (C × Held)) (f : Held → Held) (peer : C) (held : Held) →
      link_of cmp links peer ≡ Some held → (q : C) →
      link_of cmp (set_value (is_at (cmp peer)) links (f held)) q
      ≡ cond (is_at (cmp peer) q) (option_map f (link_of cmp links q)) (link_of cmp links q)
  written links f peer held has q =
      lookup-set_value laws (is_at (cmp peer)) (λ x y t. laws.congr peer x y t) q (f held) links
      (subst (λ o. IsSome o) (sym has) refl)
      ∙ go (is_at (cmp peer) q) refl
    where
      go : (b : Bool) → is_at (cmp peer) q ≡ b → cond b (Some (f held)) (link_of cmp links q)
          ≡ cond b (option_map f (link_of cmp links q)) (link_of cmp links q)
      go true e = ap (option_map f) (sym has ∙ alike links peer q e)
      go false e = refl

  module _ (links new : List (C × Held)) (f : Held → Held) (peer : C) (held : Held)
      (has : link_of cmp links peer ≡ Some held)
      (is : new ≡ set_value (is_at (cmp peer)) links (f held)) where
    pub written_at : (q : C) → link_of cmp new q
        ≡ cond (is_at (cmp peer) q) (option_map f (link_of cmp links q)) (link_of cmp links q)
    written_at q = ap (λ ls. link_of cmp ls q) is ∙ written links f peer held has q

    pub written_counts : (way : Direction) → count_of way new + cond (is_way way held.direction) 1 0
        ≡ count_of way links + cond (is_way way (f held).direction) 1 0
    written_counts way = ap (λ ls. count_of way ls + cond (is_way way held.direction) 1 0) is
        ∙ sum_by-set_value (λ h. cond (is_way way h.direction) 1 0) (is_at (cmp peer)) links held (f held) has

    pub written_needs : needs new + need_of held.phase ≡ needs links + need_of (f held).phase
    written_needs = ap (λ ls. needs ls + need_of held.phase) is
        ∙ sum_by-set_value (λ h. need_of h.phase) (is_at (cmp peer)) links held (f held) has

  once_greeted : (p : Phase) → need_of (greeted p) ≡ need_of p + (if is_greeting p then 1 else 0)
  once_greeted phase.Greeting = refl
  once_greeted phase.Open = refl
  once_greeted phase.Closing = refl

  -- a link is written over, if there is one: of what is there, and what isn't
  module _ (links new : List (C × Held)) (f : Held → Held) (peer : C)
      (noted : (held : Held) → link_of cmp links peer ≡ Some held → new ≡ set_value (is_at (cmp peer)) links (f held))
      (none : link_of cmp links peer ≡ None → new ≡ links) where
    pub noted_at : (q : C) → link_of cmp new q
        ≡ cond (is_at (cmp peer) q) (option_map f (link_of cmp links q)) (link_of cmp links q)
    noted_at q = go (link_of cmp links peer) refl
      where
        of_none : link_of cmp links peer ≡ None → (b : Bool) → is_at (cmp peer) q ≡ b →
            link_of cmp links q ≡ cond b (option_map f (link_of cmp links q)) (link_of cmp links q)
        of_none has true e = sym (alike links peer q e) ∙ has ∙ ap (option_map f) (sym has ∙ alike links peer q e)
        of_none has false e = refl

        go : (o : Option Held) → link_of cmp links peer ≡ o → link_of cmp new q
            ≡ cond (is_at (cmp peer) q) (option_map f (link_of cmp links q)) (link_of cmp links q)
        go None has = ap (λ ls. link_of cmp ls q) (none has) ∙ of_none has (is_at (cmp peer) q) refl
        go (Some held) has = written_at links new f peer held has (noted held has) q

    pub noted_counts : ((held : Held) → (f held).direction ≡ held.direction) → (way : Direction) → count_of way new ≡ count_of way links
    noted_counts same way = go (link_of cmp links peer) refl
      where
        go : (o : Option Held) → link_of cmp links peer ≡ o → count_of way new ≡ count_of way links
        go None has = ap (count_of way) (none has)
        go (Some held) has = omega (
          arith,
          written_counts links new f peer held has (noted held has) way,
          ap (λ x. tally (is_way way x)) (same held),
        )

    pub noted_needs : ((held : Held) → need_of (f held).phase ≡ need_of held.phase) → needs new ≡ needs links
    noted_needs same = go (link_of cmp links peer) refl
      where
        go : (o : Option Held) → link_of cmp links peer ≡ o → needs new ≡ needs links
        go None has = ap needs (none has)
        go (Some held) has = omega (arith, written_needs links new f peer held has (noted held has), same held)

  -- .. and was closed
  pub needs_closed : (links new : List (C × Held)) (peer : C) (held : Held) →
      link_of cmp links peer ≡ Some held →
      new ≡ set_value (is_at (cmp peer)) links (closed held) →
      needs new + need_at (link_of cmp links peer) ≡ needs links
  needs_closed links new peer held has is =
      let e : need_at (link_of cmp links peer) ≡ need_of held.phase = ap need_at has in
      omega (arith, e, written_needs links new closed peer held has is)

  -- .. or was greeted on, or closed, if it was there
  pub noted_opened : (links new : List (C × Held)) (peer : C) (t : Duration) (owed : ℕ) (asked : Asked) →
      ((held : Held) → link_of cmp links peer ≡ Some held → new ≡ set_value (is_at (cmp peer)) links (opened t owed asked held)) →
      (link_of cmp links peer ≡ None → new ≡ links) → needs new ≡ needs links + one_if_greeting (link_of cmp links peer)
  noted_opened links new peer t owed asked noted none = go (link_of cmp links peer) refl
    where
      go : (o : Option Held) → link_of cmp links peer ≡ o → needs new ≡ needs links + one_if_greeting (link_of cmp links peer)
      go None has = let e : one_if_greeting (link_of cmp links peer) ≡ 0 = ap one_if_greeting has in
          let same : needs new ≡ needs links = ap needs (none has) in omega (arith, e, same)
      go (Some held) has = let e : one_if_greeting (link_of cmp links peer) ≡ (if is_greeting held.phase then 1 else 0) = ap one_if_greeting has in
          omega (arith, e, written_needs links new (opened t owed asked) peer held has (noted held has), once_greeted held.phase)

  pub noted_closed : (links new : List (C × Held)) (peer : C) →
      ((held : Held) → link_of cmp links peer ≡ Some held → new ≡ set_value (is_at (cmp peer)) links (closed held)) →
      (link_of cmp links peer ≡ None → new ≡ links) → needs new + need_at (link_of cmp links peer) ≡ needs links
  noted_closed links new peer noted none = go (link_of cmp links peer) refl
    where
      go : (o : Option Held) → link_of cmp links peer ≡ o → needs new + need_at (link_of cmp links peer) ≡ needs links
      go None has = let e : need_at (link_of cmp links peer) ≡ 0 = ap need_at has in
          let same : needs new ≡ needs links = ap needs (none has) in omega (arith, e, same)
      go (Some held) has = needs_closed links new peer held has (noted held has)

  -- as many are to be asked, once a frame is said on one
  pub noted_to_ask : (tick now : ℕ) (links new : List (C × Held)) (f : Held → Held) (peer : C) →
      ((held : Held) → link_of cmp links peer ≡ Some held → new ≡ set_value (is_at (cmp peer)) links (f held)) →
      (link_of cmp links peer ≡ None → new ≡ links) → ((held : Held) → is_to_ask tick now (f held) ≡ is_to_ask tick now held) →
      to_ask tick now new ≡ to_ask tick now links
  noted_to_ask tick now links new f peer noted none same = go (link_of cmp links peer) refl
    where
      count : Held → ℕ
      count h = cond (is_to_ask tick now h) 1 0

      go : (o : Option Held) → link_of cmp links peer ≡ o → to_ask tick now new ≡ to_ask tick now links
      go None has = ap (to_ask tick now) (none has)
      go (Some held) has = let sums = sum_by-set_value count (is_at (cmp peer)) links held (f held) has in
          let one : count (f held) ≡ count held = ap (λ b. cond b 1 0) (same held) in
          let is : to_ask tick now new ≡ to_ask tick now (set_value (is_at (cmp peer)) links (f held)) =
          ap (to_ask tick now) (noted held has) in
          omega (arith, sums, one, is)

  -- one fewer is to be asked, once one was that is to be
  pub fewer_to_ask : (tick now owed : ℕ) (asked : Asked) (links new : List (C × Held)) (peer : C) →
      ((held : Held) → link_of cmp links peer ≡ Some held → new ≡ set_value (is_at (cmp peer)) links (asking owed asked held)) →
      now < as_nanos asked.at + max tick 1 → IsSomeAnd (link_of cmp links peer) (λ h. is_to_ask tick now h ≡ true) →
      to_ask tick now new + 1 ≡ to_ask tick now links
  fewer_to_ask tick now owed asked links new peer noted later is = go (link_of cmp links peer) refl is
    where
      count : Held → ℕ
      count h = cond (is_to_ask tick now h) 1 0

      not_yet : (ph : Phase) (b : Bool) → nat_le (as_nanos asked.at + max tick 1) now ≡ b → (is_open ph && b) ≡ false
      not_yet phase.Open true at = absurd (grind (arith, nat_tests))
      not_yet phase.Open false at = refl
      not_yet phase.Greeting b at = refl
      not_yet phase.Closing b at = refl

      go : (o : Option Held) → link_of cmp links peer ≡ o → IsSomeAnd o (λ h. is_to_ask tick now h ≡ true) →
          to_ask tick now new + 1 ≡ to_ask tick now links
      go None has is = absurd is
      go (Some held) has is = let one : count held ≡ 1 = ap (λ b. cond b 1 0) is in
          let none : count (asking owed asked held) ≡ 0 =
          ap (λ b. cond b 1 0) (not_yet held.phase (nat_le (as_nanos asked.at + max tick 1) now) refl) in
          let sums = sum_by-set_value count (is_at (cmp peer)) links held (asking owed asked held) has in
          let same : to_ask tick now new ≡ to_ask tick now (set_value (is_at (cmp peer)) links (asking owed asked held)) =
          ap (to_ask tick now) (noted held has) in
          omega (arith, one, none, sums, same)

  -- a frame is said on a link, or nothing changes
  module _ (links new : List (C × Held)) (f : Held → Held) (peer : C) (result : Bool)
      (said : result ≡ true → (held : Held) → link_of cmp links peer ≡ Some held →
      new ≡ set_value (is_at (cmp peer)) links (f held))
      (linked : result ≡ true → is_some (link_of cmp links peer) ≡ true) (same : result ≡ false → new ≡ links) where
    none : result ≡ true → link_of cmp links peer ≡ None → new ≡ links
    none is at = absurd (differ (sym (linked is) ∙ ap is_some at))
      where
        differ : true ≡ false → ⊥
        differ e = cc

    pub said_at : result ≡ true → (q : C) → link_of cmp new q
        ≡ cond (is_at (cmp peer) q) (option_map f (link_of cmp links q)) (link_of cmp links q)
    said_at is = noted_at links new f peer (said is) (none is)

    pub said_counts : ((held : Held) → (f held).direction ≡ held.direction) → (way : Direction) → count_of way new ≡ count_of way links
    said_counts alike way = go result refl
      where
        go : (b : Bool) → result ≡ b → count_of way new ≡ count_of way links
        go true is = noted_counts links new f peer (said is) (none is) alike way
        go false is = ap (count_of way) (same is)

    -- .. and moves it from one kind to another
    pub said_moves : result ≡ true → ((held : Held) → is_dialing held ≡ true → (f held).direction ≡ Outbound) →
        IsSomeAnd (link_of cmp links peer) (λ h. is_dialing h ≡ true) → (way : Direction) →
        count_of way new + (if is_way way Dialing then 1 else 0) ≡ count_of way links + (if is_way way Outbound then 1 else 0)
    said_moves is moves dials way = go (link_of cmp links peer) refl dials
      where
        as_cond : (b : Bool) → tally b ≡ (if b then 1 else 0)
        as_cond true = refl
        as_cond false = refl

        dialed : (d : Direction) → is_way Dialing d ≡ true → d ≡ Dialing
        dialed Inbound is = cc
        dialed Dialing is = refl
        dialed Outbound is = cc
        dialed TakenOver is = cc

        go : (o : Option Held) → link_of cmp links peer ≡ o → IsSomeAnd o (λ h. is_dialing h ≡ true) →
            count_of way new + (if is_way way Dialing then 1 else 0) ≡ count_of way links + (if is_way way Outbound then 1 else 0)
        go None has dials = absurd dials
        go (Some held) has dials = omega (
          arith,
          written_counts links new f peer held has (said is held has) way,
          ap (λ x. tally (is_way way x)) (dialed held.direction dials),
          ap (λ x. tally (is_way way x)) (moves held dials),
          as_cond (is_way way Dialing),
          as_cond (is_way way Outbound),
        )

    pub said_needs : ((held : Held) → need_of (f held).phase ≡ need_of held.phase) → needs new ≡ needs links
    said_needs alike = go result refl
      where
        go : (b : Bool) → result ≡ b → needs new ≡ needs links
        go true is = noted_needs links new f peer (said is) (none is) alike
        go false is = ap needs (same is)

    pub said_to_ask : ((tick now : ℕ) (held : Held) → is_to_ask tick now (f held) ≡ is_to_ask tick now held) → (tick now : ℕ) → to_ask tick now new ≡ to_ask tick now links
    said_to_ask alike tick now = go result refl
      where
        go : (b : Bool) → result ≡ b → to_ask tick now new ≡ to_ask tick now links
        go true is = noted_to_ask tick now links new f peer (said is) (none is) (alike tick now)
        go false is = ap (to_ask tick now) (same is)

  -- one more link is of one more kind
  pub counts_put : (links new : List (C × Held)) (peer : C) (held : Held) →
      IsStrictlySortedBy cmp (keys_of links) → link_of cmp links peer ≡ None →
      new ≡ insert_entry cmp links peer held → (way : Direction) → count_of way new ≡ count_of way links + (if is_way way held.direction then 1 else 0)
  counts_put links new peer held sorted none is way =
      let e : counted_at (link_of cmp links peer) ≡ 0 = ap counted_at none in
      ap (count_of way) is ∙ omega (arith, e, sum_by-insert_entry (λ h. cond (is_way way h.direction) 1 0) total links peer held sorted, as_cond (is_way way held.direction))
    where
      counted_at : Option Held → ℕ
      counted_at o = unwrap_or (option_map (λ h. cond (is_way way h.direction) 1 0) o) 0

      as_cond : (b : Bool) → tally b ≡ (if b then 1 else 0)
      as_cond true = refl
      as_cond false = refl

  -- .. and one less
  pub counts_removed : (links : List (C × Held)) (peer : C) (held : Held) → link_of cmp links peer ≡ Some held → (way : Direction) →
      count_of way (remove_entry (is_at (cmp peer)) links) + (if is_way way held.direction then 1 else 0) ≡ count_of way links
  counts_removed links peer held has way =
      let e : counted_at (link_of cmp links peer) ≡ tally (is_way way held.direction) = ap counted_at has in
      omega (arith, e, sum_by-remove_entry (λ h. cond (is_way way h.direction) 1 0) (is_at (cmp peer)) links, as_cond (is_way way held.direction))
    where
      counted_at : Option Held → ℕ
      counted_at o = unwrap_or (option_map (λ h. cond (is_way way h.direction) 1 0) o) 0

      as_cond : (b : Bool) → tally b ≡ (if b then 1 else 0)
      as_cond true = refl
      as_cond false = refl

  pub needs_put : (links new : List (C × Held)) (peer : C) (held : Held) →
      IsStrictlySortedBy cmp (keys_of links) → link_of cmp links peer ≡ None →
      new ≡ insert_entry cmp links peer held → needs new ≡ needs links + need_of held.phase
  needs_put links new peer held sorted none is =
      let e : need_at (link_of cmp links peer) ≡ 0 = ap need_at none in
      ap needs is ∙ omega (arith, sum_by-insert_entry (λ h. need_of h.phase) total links peer held sorted)

  pub need_within : (links : List (C × Held)) (q : C) → need_at (link_of cmp links q) ≤ needs links
  need_within links q =
      omega (arith, sum_by-remove_entry (λ h. need_of h.phase) (is_at (cmp q)) links)

  module _ (links : List (C × Held)) (at : ℕ → Option C) (inverse : AreInverse cmp links at) where
    -- what is found by number
    pub found : (n : ℕ) (r : Option C) → r ≡ at n →
        IfSome r (λ p. IsSomeAnd (link_of cmp links p) (λ h. h.number ≡ n))
    found n None e = tt
    found n (Some p) e = inverse.forth n p (sym e)

    back_at : (n : ℕ) (r : Option C) → r ≡ at n → (q : C) (h : Held) → link_of cmp links q ≡ Some h →
        h.number ≡ n → IsSomeAnd r (λ p. is_at (cmp p) q ≡ true)
    back_at n r e q h has is =
        subst (λ o. IsSomeAnd o (λ p. is_at (cmp p) q ≡ true)) (ap at is ∙ sym e) (inverse.back q h has)

    pub only : (n : ℕ) (r : Option C) → r ≡ at n → IfSome r (λ p. (q : C) (h : Held) →
        link_of cmp links q ≡ Some h → h.number ≡ n → is_at (cmp p) q ≡ true)
    only n None e = tt
    only n (Some p) e = back_at n (Some p) e

    pub none_found : (n : ℕ) (r : Option C) → r ≡ at n → IfNone r ((q : C) (h : Held) →
        link_of cmp links q ≡ Some h → h.number ≡ n → ⊥)
    none_found n None e = back_at n None e
    none_found n (Some p) e = tt

    pub numbered : AreNumbered cmp links
    numbered p q g h has_p has_q is = go (at h.number) refl (back_at h.number (at h.number) refl p g has_p is)
        (back_at h.number (at h.number) refl q h has_q refl)
      where
        go : (o : Option C) → at h.number ≡ o → IsSomeAnd o (λ r. is_at (cmp r) p ≡ true) →
            IsSomeAnd o (λ r. is_at (cmp r) q ≡ true) → is_at (cmp p) q ≡ true
        go None e at_p at_q = absurd at_p
        go (Some r) e at_p at_q = through r p q at_p at_q

    -- no peer is found by a number that no link has
    pub unused : (n : ℕ) → ((q : C) (h : Held) → link_of cmp links q ≡ Some h → h.number ≡ n → ⊥) →
        at n ≡ None
    unused n free = go (at n) refl
      where
        go : (o : Option C) → at n ≡ o → at n ≡ None
        go None e = e
        go (Some p) e = absurd (by (link_of cmp links p) refl (inverse.forth n p e))
          where
            by : (l : Option Held) → link_of cmp links p ≡ l → IsSomeAnd l (λ h. h.number ≡ n) → ⊥
            by None f is = is
            by (Some h) f is = free p h f is

    -- the same peers are found by the same numbers
    pub inverse_at : (at2 : ℕ → Option C) → ((n : ℕ) → at2 n ≡ at n) → AreInverse cmp links at2
    inverse_at at2 e = record {
      forth = λ n p f. inverse.forth n p (sym (e n) ∙ f);
      back = λ q h has. subst (λ o. IsSomeAnd o (λ p. is_at (cmp p) q ≡ true)) (sym (e h.number))
          (inverse.back q h has);
    }

    -- a link that is written over keeps its number
    pub inverse_on : (new : List (C × Held)) (f : Held → Held) (peer : C) →
        ((h : Held) → (f h).number ≡ h.number) →
        ((q : C) → link_of cmp new q
        ≡ cond (is_at (cmp peer) q) (option_map f (link_of cmp links q)) (link_of cmp links q)) →
        AreInverse cmp new at
    inverse_on new f peer keeps e = record {
      forth = λ n p has. forward n (is_at (cmp peer) p) (link_of cmp links p) (link_of cmp new p) (e p)
          (inverse.forth n p has);
      back = λ q h has. let was = before (is_at (cmp peer) q) (link_of cmp links q) h (sym (e q) ∙ has) in
          back_at h.number (at h.number) refl q was.0 was.1 was.2;
    }
      where
        forward : (n : ℕ) (b : Bool) (old now : Option Held) → now ≡ cond b (option_map f old) old →
            IsSomeAnd old (λ h. h.number ≡ n) → IsSomeAnd now (λ h. h.number ≡ n)
        forward n b None now is has = absurd has
        forward n true (Some h) now is has =
            subst (λ o. IsSomeAnd o (λ h. h.number ≡ n)) (sym is) (keeps h ∙ has)
        forward n false (Some h) now is has =
            subst (λ o. IsSomeAnd o (λ h. h.number ≡ n)) (sym is) has

        before : (b : Bool) (old : Option Held) (h : Held) → cond b (option_map f old) old ≡ Some h →
            (g : Held) × (old ≡ Some g) × (g.number ≡ h.number)
        before true None h is = absurd cc
        before false None h is = absurd cc
        before true (Some g) h is =
            (g, refl, sym (keeps g) ∙ ap (λ o. unwrap_or (option_map (λ h. h.number) o) 0) is)
        before false (Some g) h is = (g, refl, ap (λ o. unwrap_or (option_map (λ h. h.number) o) 0) is)

    -- .. on which a frame is said, or nothing changes
    pub inverse_said : (new : List (C × Held)) (f : Held → Held) (peer : C) (result : Bool) → ((h : Held) → (f h).number ≡ h.number) →
        (result ≡ true → (held : Held) → link_of cmp links peer ≡ Some held → new ≡ set_value (is_at (cmp peer)) links (f held)) →
        (result ≡ true → is_some (link_of cmp links peer) ≡ true) → (result ≡ false → new ≡ links) → AreInverse cmp new at
    inverse_said new f peer result numbers said linked same = go result refl
      where
        go : (b : Bool) → result ≡ b → AreInverse cmp new at
        go true is = inverse_on new f peer numbers (said_at links new f peer result said linked same is)
        go false is = subst (λ ls. AreInverse cmp ls at) (sym (same is)) inverse

    -- one more link
    module _ (new : List (C × Held)) (at2 : ℕ → Option C) (peer : C) (held : Held)
        (unlinked : link_of cmp links peer ≡ None)
        (free : (q : C) (h : Held) → link_of cmp links q ≡ Some h → h.number ≡ held.number → ⊥)
        (put : (q : C) → link_of cmp new q
        ≡ cond (is_at (cmp peer) q) (Some held) (link_of cmp links q))
        (put2 : (n : ℕ) → at2 n ≡ cond (is_at (nat_cmp held.number) n) (Some peer) (at n)) where
      pub inverse_put : AreInverse cmp new at2
      inverse_put = record {
        forth = λ n p has. forward n p (is_at (nat_cmp held.number) n) refl (sym (put2 n) ∙ has);
        back = λ q h has. backward q h (is_at (cmp peer) q) refl (sym (put q) ∙ has);
      }
        where
          other : (p : C) (l : Option Held) → link_of cmp links p ≡ l → (P : Held → Type 0) →
              IsSomeAnd l P → (b : Bool) → is_at (cmp peer) p ≡ b → IsSomeAnd (link_of cmp new p) P
          other p None e P has b at = absurd has
          other p (Some h) e P has true at = absurd (let f = sym unlinked ∙ alike links peer p at ∙ e in cc)
          other p (Some h) e P has false at = subst (λ o. IsSomeAnd o P)
              (sym (put p ∙ ap (λ b. cond b (Some held) (link_of cmp links p)) at ∙ e)) has

          forward : (n : ℕ) (p : C) (b : Bool) → is_at (nat_cmp held.number) n ≡ b →
              cond b (Some peer) (at n) ≡ Some p → IsSomeAnd (link_of cmp new p) (λ h. h.number ≡ n)
          forward n p true e is =
              let here : link_of cmp new p ≡ Some held = put p
              ∙ ap (λ b. cond b (Some held) (link_of cmp links p))
              (ap (λ o. is_at (cmp peer) (unwrap_or o peer)) (sym is) ∙ laws.refl peer) in
              subst (λ o. IsSomeAnd o (λ h. h.number ≡ n)) (sym here) (same held.number n e)
          forward n p false e is = other p (link_of cmp links p) refl (λ h. h.number ≡ n)
              (inverse.forth n p is) (is_at (cmp peer) p) refl

          backward : (q : C) (h : Held) (b : Bool) → is_at (cmp peer) q ≡ b →
              cond b (Some held) (link_of cmp links q) ≡ Some h →
              IsSomeAnd (at2 h.number) (λ p. is_at (cmp p) q ≡ true)
          backward q h true e is =
              let number : held.number ≡ h.number =
              ap (λ o. unwrap_or (option_map (λ h. h.number) o) 0) is in
              let here : at2 h.number ≡ Some peer = ap at2 (sym number) ∙ put2 held.number
              ∙ ap (λ b. cond b (Some peer) (at held.number)) (itself held.number) in
              subst (λ o. IsSomeAnd o (λ p. is_at (cmp p) q ≡ true)) (sym here) e
          backward q h false e is = go (is_at (nat_cmp held.number) h.number) refl
            where
              go : (b : Bool) → is_at (nat_cmp held.number) h.number ≡ b →
                  IsSomeAnd (at2 h.number) (λ p. is_at (cmp p) q ≡ true)
              go true at_number = absurd (free q h is (sym (same held.number h.number at_number)))
              go false at_number = subst (λ o. IsSomeAnd o (λ p. is_at (cmp p) q ≡ true))
                  (sym (put2 h.number ∙ ap (λ b. cond b (Some peer) (at h.number)) at_number))
                  (inverse.back q h is)

    -- .. and one less
    module _ (new : List (C × Held)) (at2 : ℕ → Option C) (peer : C) (held : Held)
        (linked : link_of cmp links peer ≡ Some held)
        (gone : (q : C) → link_of cmp new q ≡ cond (is_at (cmp peer) q) None (link_of cmp links q))
        (gone2 : (n : ℕ) → at2 n ≡ cond (is_at (nat_cmp held.number) n) None (at n)) where
      pub inverse_removed : AreInverse cmp new at2
      inverse_removed = record {
        forth = λ n p has. forward n p (is_at (nat_cmp held.number) n) refl (sym (gone2 n) ∙ has);
        back = λ q h has. backward q h (is_at (cmp peer) q) refl (sym (gone q) ∙ has);
      }
        where
          other : (n : ℕ) → is_at (nat_cmp held.number) n ≡ false → (p : C) (l : Option Held) →
              link_of cmp links p ≡ l → IsSomeAnd l (λ h. h.number ≡ n) →
              (b : Bool) → is_at (cmp peer) p ≡ b → IsSomeAnd (link_of cmp new p) (λ h. h.number ≡ n)
          other n apart p None e has b at = absurd has
          other n apart p (Some h) e has true at =
              let one : held.number ≡ h.number = ap (λ o. unwrap_or (option_map (λ h. h.number) o) 0)
              (sym linked ∙ alike links peer p at ∙ e) in
              absurd (let f = sym (itself held.number)
              ∙ ap (λ m. is_at (nat_cmp held.number) m) (one ∙ has) ∙ apart in cc)
          other n apart p (Some h) e has false at = subst (λ o. IsSomeAnd o (λ h. h.number ≡ n))
              (sym (gone p ∙ ap (λ b. cond b None (link_of cmp links p)) at ∙ e)) has

          forward : (n : ℕ) (p : C) (b : Bool) → is_at (nat_cmp held.number) n ≡ b →
              cond b None (at n) ≡ Some p → IsSomeAnd (link_of cmp new p) (λ h. h.number ≡ n)
          forward n p true e is = absurd cc
          forward n p false e is = other n e p (link_of cmp links p) refl (inverse.forth n p is)
              (is_at (cmp peer) p) refl

          backward : (q : C) (h : Held) (b : Bool) → is_at (cmp peer) q ≡ b →
              cond b None (link_of cmp links q) ≡ Some h →
              IsSomeAnd (at2 h.number) (λ p. is_at (cmp p) q ≡ true)
          backward q h true e is = absurd cc
          backward q h false e is = go (is_at (nat_cmp held.number) h.number) refl
            where
              go : (b : Bool) → is_at (nat_cmp held.number) h.number ≡ b →
                  IsSomeAnd (at2 h.number) (λ p. is_at (cmp p) q ≡ true)
              go true at_number = absurd (let f = sym (numbered peer q held h linked is
                  (same held.number h.number at_number)) ∙ e in cc)
              go false at_number = subst (λ o. IsSomeAnd o (λ p. is_at (cmp p) q ≡ true))
                  (sym (gone2 h.number ∙ ap (λ b. cond b None (at h.number)) at_number))
                  (inverse.back q h is)
