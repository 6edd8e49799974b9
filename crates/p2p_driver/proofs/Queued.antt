-- The frames of a link that were said and aren't written.
use Rattle.std.proofs.Common.{◌≡◌, ℕ, ◌<◌, ◌≤◌, ◌+◌, ◌-◌, Bool, true, false, cond, suc, zero, List, [], ◌∷◌, ◌++◌, Option, Some, None, refl, sym, ◌∙◌, ap, subst}
use Rattle.std.proofs.Common.{arith}
use Rattle.std.proofs.lemmas.Bool.Decides.{nat_tests}
use Rattle.std.proofs.lemmas.List.{append-nil, append_assoc, drop-append-le, length-drop, length-append}
use Rattle.std.proofs.lemmas.Map.Views.{tells_apart}
use Rattle.std.proofs.lemmas.Map.Lookups.{CmpEqualImpliesEq}
use Rattle.std.specs.List.{count_by}
use Rattle.std.specs.Option.{IsSomeAnd, option_to_list}
use Rattle.std.specs.Prelude.{if◌then◌else◌, drop, length, max, nat_lt, IfSome}
use Rattle.std.specs.declared.time.Duration.{Duration}
use Rattle.p2p_discovery.specs.declared.types.ingress.Ingress.{Ingress}
use Rattle.p2p_tracker.specs.Calls.{Settings}
use Rattle.p2p_tracker.specs.History.{same, last_with, found_with}
use Rattle.p2p_driver.specs.declared.links.Direction.{Direction}
use Rattle.p2p_driver.specs.declared.links.Direction.TheVariants as way
use Rattle.p2p_driver.specs.declared.links.Held.{Held}
use Rattle.p2p_driver.specs.declared.questions.Question.{Question}
use Rattle.p2p_driver.specs.Happenings.{Happening, opened_by, ends_by, link_since, reached_by, says_on, said_as, said_with, writes_by}
use Rattle.p2p_driver.specs.Laws.{since_of, since_began, said_in, first_of, first_on, said_since, written_since}
use Rattle.p2p_driver.specs.Links.{link_as, taken_way, dial_with, is_way, is_dialing, is_timed, proved_way, has_room}
use Rattle.p2p_driver.specs.Drivers.{Base, AreRight, IsHeard, IsAsked, IsSpoken, IsDialOf, link, untaken}
use Rattle.p2p_driver.proofs.Dials.{some_is, link_was, dialing_before, fresh}
use Rattle.p2p_driver.proofs.LinkHistory.{touch_by, touched, unwritten_after, way_after, since_after, link_later, link_opens, link_adopts, link_dials}
use Rattle.p2p_driver.proofs.Standing.{one_more}

drop_next : {A : Type 0} (k : ℕ) (xs : List A) → drop 1 (drop k xs) ≡ drop (suc k) xs
drop_next zero xs = refl
drop_next (suc k) [] = refl
drop_next (suc k) (x ∷ xs) = drop_next k xs

drop_more : {A : Type 0} (k : ℕ) (xs : List A) → drop 1 (drop k xs) ≡ drop (1 + k) xs
drop_more k xs = drop_next k xs ∙ ap (λ n. drop n xs) (next k)
  where
    next : (k : ℕ) → suc k ≡ 1 + k
    next k = omega arith

-- what isn't written, by how many were written of those that were said
pub record Are (queue written : ℕ) (first said unwritten : List Duration) : Type 0 where
  pub are : unwritten ≡ drop written (first ++ said)
  pub within : written ≤ length (first ++ said)
  pub bound : length unwritten ≤ max queue 1

-- .. as many are left
left : (queue written : ℕ) (first said unwritten : List Duration) → Are queue written first said unwritten →
    length unwritten ≡ length (first ++ said) - written
left queue written first said unwritten is = ap length is.are ∙ length-drop written (first ++ said)

-- one more is said
says_more : (queue written : ℕ) (first : List Duration) (t : Duration) (said unwritten : List Duration) → length unwritten + 1 ≤ max queue 1 →
    Are queue written first said unwritten → Are queue written first (said ++ t ∷ []) (unwritten ++ t ∷ [])
says_more queue written first t said unwritten room is = record {
  are = ap (λ xs. xs ++ t ∷ []) is.are ∙ sym (drop-append-le written (first ++ said) (t ∷ []) is.within)
      ∙ ap (drop written) (append_assoc first said (t ∷ []));
  within = subst (λ xs. written ≤ length xs) (append_assoc first said (t ∷ []))
      (let more = length-append (first ++ said) (t ∷ []) in let within = is.within in omega (arith, more, within));
  bound = subst (λ k. k ≤ max queue 1) (sym (length-append unwritten (t ∷ []))) room;
}

-- .. where a queue has room
room_fits : (few queue : ℕ) → nat_lt few queue ≡ true → few + 1 ≤ max queue 1
room_fits few queue room = grind (arith, nat_tests)

-- .. or is empty
none_fits : (few queue : ℕ) → few ≡ 0 → few + 1 ≤ max queue 1
none_fits few queue none = grind (arith)

-- the own greeting is the first on the link of a stream that took over a grant
first_taken : (outbound : Bool) (t : Duration) → first_of (taken_way outbound) t ≡ t ∷ []
first_taken true t = refl
first_taken false t = refl

-- one is written
writes_more : (queue written : ℕ) (first said unwritten : List Duration) → 0 < length unwritten →
    Are queue written first said unwritten → Are queue (1 + written) first said (drop 1 unwritten)
writes_more queue written first said unwritten some is = record {
  are = ap (drop 1) is.are ∙ drop_more written (first ++ said);
  within = let few = left queue written first said unwritten is in omega (arith, few, some);
  bound = let few = length-drop 1 unwritten in let bound = is.bound in fits (length unwritten) (length (drop 1 unwritten)) (max queue 1) few bound;
}
  where
    fits : (all few most : ℕ) → few ≡ all - 1 → all ≤ most → few ≤ most
    fits all few most is bound = omega (arith, is, bound)

-- where nothing is left nothing was said
nothing_said : (written : Bool) (said : Option Duration) (unwritten : List Duration) → unwritten_after written said unwritten ≡ [] → said ≡ None
nothing_said written None unwritten is = refl
nothing_said written (Some t) unwritten is = absurd (some (if written then drop 1 unwritten else unwritten) is)
  where
    some : (xs : List Duration) → ¬ (xs ++ t ∷ [] ≡ [])
    some [] is = cc
    some (x ∷ xs) is = cc

none_more : (n : ℕ) → n ≡ 0 + n
none_more n = omega arith

module _ {C S : Type 0} (b : Base C S) where
  abbrev pub d : Settings C S
  d = b.made.directory

  abbrev began : C → List (Happening C S) → Option ((ℕ × Direction × Duration) × List (Happening C S))
  began p h = last_with (opened_by d p) h

  -- of the link of p, if there is one
  abbrev pub AreOf : C → List (Happening C S) → Type 0
  AreOf p h = (held : Held) → link b p h ≡ Some held → Are b.pace.queue (written_since d p h) (first_on held) (said_since d p h) held.unwritten

  -- one more since its link began
  since_is : (p : C) (e : Happening C S) (h : List (Happening C S)) (held : Held) → opened_by d p e ≡ None → link b p h ≡ Some held →
      since_began d p (e ∷ h) ≡ e ∷ since_began d p h
  since_is p e h held opened linked = ap (λ o. since_of (found_with o e (began p h))) opened ∙ go (began p h) linked
    where
      go : (found : Option ((ℕ × Direction × Duration) × List (Happening C S))) → link_since d p found ≡ Some held →
          since_of (found_with None e found) ≡ e ∷ since_of found
      go None linked = absurd cc
      go (Some found) linked = refl

  -- .. what was said then, and how many were written
  said_is : (p : C) (e : Happening C S) (h : List (Happening C S)) (held : Held) → opened_by d p e ≡ None → link b p h ≡ Some held →
      said_since d p (e ∷ h) ≡ said_since d p h ++ option_to_list (says_on d p e)
  said_is p e h held opened linked = ap (said_in d p) (since_is p e h held opened linked)

  written_is : (p : C) (e : Happening C S) (h : List (Happening C S)) (held : Held) → opened_by d p e ≡ None → link b p h ≡ Some held →
      (x : Bool) → writes_by d p e ≡ x → written_since d p (e ∷ h) ≡ cond x 1 0 + written_since d p h
  written_is p e h held opened linked x is = ap (count_by (writes_by d p)) (since_is p e h held opened linked)
      ∙ one_more (writes_by d p) e (since_began d p h) x is

  -- what a happening does may be done
  abbrev pub Fits : C → Happening C S → List (Happening C S) → Bool → Option Duration → Type 0
  Fits p e h true (Some t) = ⊥
  Fits p e h true None = (held : Held) → link b p h ≡ Some held → 0 < length held.unwritten
  Fits p e h false (Some t) = (held : Held) → link b p h ≡ Some held → length held.unwritten + 1 ≤ max b.pace.queue 1
  Fits p e h false None = Unit {0}

  -- where no link begins, and what was said as it began stays
  steps : (e : Happening C S) (h : List (Happening C S)) (p : C) (x : Bool) (said : Option Duration) → opened_by d p e ≡ None →
      writes_by d p e ≡ x → says_on d p e ≡ said →
      ((g : Held) → link b p h ≡ Some g → first_on (touched (touch_by d p e) g) ≡ first_on g) → Fits p e h x said → AreOf p h → AreOf p (e ∷ h)
  steps e h p x said opened writes says first fits are held linked =
      let was = link_was (ends_by d p e) (touch_by d p e) (link b p h) held (sym (link_later d p e h opened) ∙ linked) in
      let now : unwritten_after x said was.0.unwritten ≡ held.unwritten =
      ap (λ y. unwritten_after y said was.0.unwritten) (sym writes) ∙ ap (λ o. unwritten_after (writes_by d p e) o was.0.unwritten) (sym says)
      ∙ ap (λ (h : Held). h.unwritten) was.2 in
      let began_with : first_on was.0 ≡ first_on held = sym (first was.0 was.1) ∙ ap (λ (h : Held). first_on h) was.2 in
      subst (λ k. Are b.pace.queue k (first_on held) (said_since d p (e ∷ h)) held.unwritten) (sym (written_is p e h was.0 opened was.1 x writes))
      (subst (λ ts. Are b.pace.queue (cond x 1 0 + written_since d p h) (first_on held) ts held.unwritten)
      (sym (said_is p e h was.0 opened was.1 ∙ ap (λ o. said_since d p h ++ option_to_list o) says))
      (subst (λ ts. Are b.pace.queue (cond x 1 0 + written_since d p h) ts (said_since d p h ++ option_to_list said) held.unwritten) began_with
      (subst (Are b.pace.queue (cond x 1 0 + written_since d p h) (first_on was.0) (said_since d p h ++ option_to_list said)) now
      (go x said fits was.0 was.1 (are was.0 was.1)))))
    where
      go : (x : Bool) (said : Option Duration) → Fits p e h x said → (g : Held) → link b p h ≡ Some g →
          Are b.pace.queue (written_since d p h) (first_on g) (said_since d p h) g.unwritten →
          Are b.pace.queue (cond x 1 0 + written_since d p h) (first_on g) (said_since d p h ++ option_to_list said) (unwritten_after x said g.unwritten)
      go true (Some t) fits g linked is = absurd fits
      go true None fits g linked is =
          subst (λ ts. Are b.pace.queue (1 + written_since d p h) (first_on g) ts (drop 1 g.unwritten)) (sym (append-nil (said_since d p h)))
          (writes_more b.pace.queue (written_since d p h) (first_on g) (said_since d p h) g.unwritten (fits g linked) is)
      go false (Some t) fits g linked is = subst (λ k. Are b.pace.queue k (first_on g) (said_since d p h ++ t ∷ []) (g.unwritten ++ t ∷ []))
          (none_more (written_since d p h))
          (says_more b.pace.queue (written_since d p h) (first_on g) t (said_since d p h) g.unwritten (fits g linked) is)
      go false None fits g linked is = subst (λ k. Are b.pace.queue k (first_on g) (said_since d p h ++ []) g.unwritten) (none_more (written_since d p h))
          (subst (λ ts. Are b.pace.queue (written_since d p h) (first_on g) ts g.unwritten) (sym (append-nil (said_since d p h))) is)

  -- .. as no stream of a dial is proved
  step : (e : Happening C S) (h : List (Happening C S)) (p : C) (x : Bool) (said : Option Duration) → opened_by d p e ≡ None →
      writes_by d p e ≡ x → says_on d p e ≡ said → reached_by d p e ≡ None → Fits p e h x said → AreOf p h → AreOf p (e ∷ h)
  step e h p x said opened writes says reaches fits are = steps e h p x said opened writes says
      (λ g linked. ap (λ o. first_of (way_after o g.direction) (since_after o g.since)) reaches) fits are

  module _ (exact : CmpEqualImpliesEq b.made.directory.cmp) where
    -- what holds of a link holds of each link of its peer
    at_peer : (P : Held → Type 0) (p q : C) (h : List (Happening C S)) → same d q p ≡ true → IsSomeAnd (link b q h) P →
        (held : Held) → link b p h ≡ Some held → P held
    at_peer P p q h is has held linked = subst (λ o. IsSomeAnd o P) linked (subst (λ r. IsSomeAnd (link b r h) P) (tells_apart exact q p is) has)

    -- a frame was said, or none was
    speaks : (e : Happening C S) (h : List (Happening C S)) (p q : C) (said : Option Duration) → opened_by d p e ≡ None → writes_by d p e ≡ false →
        says_on d p e ≡ (if same d q p then said else None) → reached_by d p e ≡ None → IsSomeAnd (link b q h) (λ held. IfSome said (λ t. has_room b.pace.queue held ≡ true)) →
        AreOf p h → AreOf p (e ∷ h)
    speaks e h p q said opened writes says reaches room are = go (same d q p) refl said says room
      where
        go : (x : Bool) → same d q p ≡ x → (said : Option Duration) → says_on d p e ≡ (if same d q p then said else None) →
            IsSomeAnd (link b q h) (λ held. IfSome said (λ t. has_room b.pace.queue held ≡ true)) → AreOf p (e ∷ h)
        go true is (Some t) says room = step e h p false (Some t) opened writes (says ∙ ap (λ y. if y then Some t else None) is) reaches
            (λ held linked. room_fits (length held.unwritten) b.pace.queue (at_peer (λ held. has_room b.pace.queue held ≡ true) p q h is room held linked)) are
        go true is None says room = step e h p false None opened writes (says ∙ ap (λ y. if y then None else None) is) reaches tt are
        go false is said says room = step e h p false None opened writes (says ∙ ap (λ y. if y then said else None) is) reaches tt are

    -- a frame was written
    writes : (n : ℕ) (q : C) (t : Duration) (h : List (Happening C S)) (p : C) →
        IsSomeAnd (link b q h) (λ held. (held.number ≡ n) × (untaken b h n < length held.unwritten)) → AreOf p h →
        AreOf p (Happening.Written n q t ∷ h)
    writes n q t h p right are = go (same d q p) refl
      where
        some : (few : ℕ) (held : Held) → (held.number ≡ n) × (few < length held.unwritten) → 0 < length held.unwritten
        some few held is = omega (arith, is.1)

        go : (x : Bool) → same d q p ≡ x → AreOf p (Happening.Written n q t ∷ h)
        go true is = step (Happening.Written n q t) h p true None refl is refl refl
            (λ held linked. some (untaken b h n) held
            (at_peer (λ held. (held.number ≡ n) × (untaken b h n < length held.unwritten)) p q h is right held linked)) are
        go false is = step (Happening.Written n q t) h p false None refl is refl refl tt are

    -- a link began, on which the own greeting is said
    begun : (e : Happening C S) (n : ℕ) (q : C) (way : Direction) (t : Duration) (h : List (Happening C S)) (p : C) → first_of way t ≡ t ∷ [] →
        opened_by d p e ≡ (if same d q p then Some (n, way, t) else None) → writes_by d p e ≡ false → says_on d p e ≡ None → reached_by d p e ≡ None →
        link b p (e ∷ h) ≡ (if same d q p then Some (link_as way n t) else link b p h) → AreOf p h → AreOf p (e ∷ h)
    begun e n q way t h p first opens writes says reaches tied are = go (same d q p) refl
      where
        new : Are b.pace.queue 0 (t ∷ []) [] (t ∷ [])
        new = record { are = refl; within = omega arith; bound = grind (arith) }

        go : (x : Bool) → same d q p ≡ x → AreOf p (e ∷ h)
        go true is held linked =
            let now : link_as way n t ≡ held = some_is (sym (tied ∙ ap (λ y. if y then Some (link_as way n t) else link b p h) is) ∙ linked) in
            let over : since_began d p (e ∷ h) ≡ [] = ap (λ o. since_of (found_with o e (began p h)))
            (opens ∙ ap (λ y. if◌then◌else◌ {A = Option (ℕ × Direction × Duration)} y (Some (n, way, t)) None) is) in
            subst (λ (x : Held). Are b.pace.queue (written_since d p (e ∷ h)) (first_on x) (said_since d p (e ∷ h)) x.unwritten) now
            (subst (λ es. Are b.pace.queue (count_by (writes_by d p) es) (first_of way t) (said_in d p es) (t ∷ [])) (sym over)
            (subst (λ xs. Are b.pace.queue 0 xs [] (t ∷ [])) (sym first) new))
        go false is held linked = step e h p false None
            (opens ∙ ap (λ y. if◌then◌else◌ {A = Option (ℕ × Direction × Duration)} y (Some (n, way, t)) None) is) writes says reaches tt are held linked

    -- .. a dial did
    dialed : (n : ℕ) (q : C) (t draw : Duration) (word : ℕ) (ingress : Ingress) (h : List (Happening C S)) (p : C) → AreOf p h →
        AreOf p (Happening.Dialed n q t draw word ingress ∷ h)
    dialed n q t draw word ingress h p are = go (same d q p) refl
      where
        e : Happening C S
        e = Happening.Dialed n q t draw word ingress

        new : Are b.pace.queue 0 [] [] []
        new = record { are = refl; within = omega arith; bound = omega arith }

        go : (x : Bool) → same d q p ≡ x → AreOf p (e ∷ h)
        go true is held linked =
            let now : dial_with n t ≡ held = some_is (sym (link_dials d p q n t draw word ingress h
            ∙ ap (λ y. if y then Some (dial_with n t) else link b p h) is) ∙ linked) in
            let over : since_began d p (e ∷ h) ≡ [] = ap (λ y. since_of (found_with (if y then Some (n, way.Dialing, t) else None) e (began p h))) is in
            subst (λ (x : Held). Are b.pace.queue (written_since d p (e ∷ h)) (first_on x) (said_since d p (e ∷ h)) x.unwritten) now
            (subst (λ es. Are b.pace.queue (count_by (writes_by d p) es) [] (said_in d p es) []) (sym over) new)
        go false is held linked = step e h p false None (ap (λ y. if y then Some (n, way.Dialing, t) else None) is) refl refl refl tt are held linked

    -- the stream of a dial was proved: the own greeting is said, the first of all
    reached : (n : ℕ) (q : C) (t : Duration) (h : List (Happening C S)) (p : C) → AreRight b h → IsDialOf b h n q → AreOf p h →
        AreOf p (Happening.Reached n q t ∷ h)
    reached n q t h p right of_q are = go (same d q p) refl
      where
        e : Happening C S
        e = Happening.Reached n q t

        dials : same d q p ≡ true → (held : Held) → link b p h ≡ Some held → is_dialing held ≡ true
        dials is held linked = (at_peer (λ held. (held.number ≡ n) × (is_dialing held ≡ true) × (is_timed held.phase ≡ true)) p q h is of_q held linked).1

        first_stays : (direction : Direction) (since : Duration) → is_way way.Dialing direction ≡ true →
            first_of (proved_way direction) t ≡ first_of direction since
        first_stays way.Inbound since is = absurd cc
        first_stays way.Dialing since is = refl
        first_stays way.Outbound since is = refl
        first_stays way.TakenOver since is = absurd cc

        go : (x : Bool) → same d q p ≡ x → AreOf p (e ∷ h)
        go true is = steps e h p false (Some t) refl refl (ap (λ y. if y then Some t else None) is)
            (λ g linked. ap (λ y. first_of (way_after (if◌then◌else◌ {A = Option Duration} y (Some t) None) g.direction)
            (since_after (if◌then◌else◌ {A = Option Duration} y (Some t) None) g.since)) is ∙ first_stays g.direction g.since (dials is g linked))
            (λ g linked. none_fits (length g.unwritten) b.pace.queue
            (ap length (fresh b exact h right p g linked (dials is g linked)).unwritten)) are
        go false is = step e h p false None refl refl (ap (λ y. if y then Some t else None) is) (ap (λ y. if y then Some t else None) is) tt are

    pub are_unwritten : (h : List (Happening C S)) → AreRight b h → (p : C) → AreOf p h
    are_unwritten [] right p = λ held is. absurd cc
    are_unwritten (Happening.Proved n r t draw ∷ h) right p = begun (Happening.Proved n r t draw) n r way.Inbound t h p refl refl refl refl refl
        (link_opens d p r n t draw h) (are_unwritten h right.2 p)
    are_unwritten (Happening.Adopted n r t outbound ∷ h) right p = begun (Happening.Adopted n r t outbound) n r (taken_way outbound) t h p
        (first_taken outbound t) refl refl refl refl (link_adopts d p r n t outbound h) (are_unwritten h right.2 p)
    are_unwritten (Happening.Dialed n r t draw word ingress ∷ h) right p = dialed n r t draw word ingress h p (are_unwritten h right.2 p)
    are_unwritten (Happening.Reached n r t ∷ h) right p = reached n r t h p right.2 right.0 (are_unwritten h right.2 p)
    are_unwritten (Happening.Heard n r t owed cause outcome ∷ h) right p =
        speaks (Happening.Heard n r t owed cause outcome) h p r (said_as t outcome) refl refl refl refl (heard (link b r h) right.0) (are_unwritten h right.2 p)
      where
        heard : (o : Option Held) → IsSomeAnd o (IsHeard b h n r t owed cause outcome) →
            IsSomeAnd o (λ held. IfSome (said_as t outcome) (λ t. has_room b.pace.queue held ≡ true))
        heard None is = absurd is
        heard (Some held) is = is.room
    are_unwritten (Happening.Asked n r t owed fits question ∷ h) right p =
        speaks (Happening.Asked n r t owed fits question) h p r (said_with t question) refl refl refl refl (asked (link b r h) right.0) (are_unwritten h right.2 p)
      where
        said : (q : Option Question) (held : Held) → fits ≡ has_room b.pace.queue held → IfSome q (λ q. fits ≡ true) →
            IfSome (said_with t q) (λ t. has_room b.pace.queue held ≡ true)
        said None held is room = tt
        said (Some q) held is room = sym is ∙ room

        asked : (o : Option Held) → IsSomeAnd o (IsAsked b h n r t owed fits question) →
            IsSomeAnd o (λ held. IfSome (said_with t question) (λ t. has_room b.pace.queue held ≡ true))
        asked None is = absurd is
        asked (Some held) is = said question held is.room_is is.room
    are_unwritten (Happening.Written n r t ∷ h) right p = writes n r t h p right.0 (are_unwritten h right.2 p)
    are_unwritten (Happening.Spoken n r t place ∷ h) right p =
        speaks (Happening.Spoken n r t place) h p r (Some t) refl refl refl refl (spoken (link b r h) right.0) (are_unwritten h right.2 p)
      where
        spoken : (o : Option Held) → IsSomeAnd o (IsSpoken b h n t place) → IsSomeAnd o (λ held. has_room b.pace.queue held ≡ true)
        spoken None is = absurd is
        spoken (Some held) is = is.room
    are_unwritten (e ∷ h) right p = step e h p false None refl refl refl refl tt (are_unwritten h right.2 p)

    -- before the stream of a dial is proved nothing is said on it
    pub none_said : (h : List (Happening C S)) → AreRight b h → (p : C) (held : Held) → link b p h ≡ Some held → is_dialing held ≡ true →
        said_since d p h ≡ []
    none_said [] right p held linked dial = absurd cc
    none_said (e ∷ h) right p held linked dial = go (opened_by d p e) refl (none_said h right.2 p)
      where
        go : (o : Option (ℕ × Direction × Duration)) → opened_by d p e ≡ o →
            ((g : Held) → link b p h ≡ Some g → is_dialing g ≡ true → said_since d p h ≡ []) → said_since d p (e ∷ h) ≡ []
        go (Some first) opened before = ap (λ o. said_in d p (since_of (found_with o e (began p h)))) opened
        go None opened before =
            let was = link_was (ends_by d p e) (touch_by d p e) (link b p h) held (sym (link_later d p e h opened) ∙ linked) in
            let none = nothing_said (writes_by d p e) (says_on d p e) was.0.unwritten
            (ap (λ (x : Held). x.unwritten) was.2 ∙ (fresh b exact (e ∷ h) right p held linked dial).unwritten) in
            let old = before was.0 was.1 (dialing_before (reached_by d p e) was.0.direction (ap (λ (x : Held). is_dialing x) was.2 ∙ dial)) in
            said_is p e h was.0 opened was.1 ∙ (λ i. old i ++ option_to_list (none i))
