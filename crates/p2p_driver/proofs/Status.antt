-- How the peer of a link stands in the world: it is reserved until it greets, then active.
use Rattle.std.proofs.Common.{◌≡◌, ℕ, ◌≤◌, Bool, true, false, not, ◌||◌, ◌&&◌, List, [], ◌∷◌, ◌++◌, Option, Some, None, refl, sym, ◌∙◌, ap, subst}
use Rattle.std.specs.Prelude.{if◌then◌else◌, is_some, nat_lt}
use Rattle.std.specs.List.{list_any, list_all}
use Rattle.std.specs.Duration.{as_nanos}
use Rattle.std.specs.declared.time.Duration.{Duration}
use Rattle.std.proofs.lemmas.Map.Views.{tells_apart}
use Rattle.std.proofs.lemmas.Map.Lookups.{CmpEqualImpliesEq}
use Rattle.p2p_discovery.specs.declared.discovery.Info.{Info}
use Rattle.p2p_discovery.specs.declared.types.ingress.Ingress.{Ingress}
use Rattle.p2p_tracker.specs.declared.record.Status.{Status}
use Rattle.p2p_tracker.specs.declared.record.Status.TheVariants.{Inert, Reserved, Active}
use Rattle.p2p_tracker.specs.Answers.{may_connect, was_granted}
use Rattle.p2p_tracker.specs.Blocks.{is_blocked}
use Rattle.p2p_tracker.specs.Calls.{Settings, Call, SetAt, Grant}
use Rattle.p2p_tracker.specs.Calls.Call.{Track, Dial, Listen, Connect, Release, Update, Block, UnblockExpired, ForgetCooled}
use Rattle.p2p_tracker.specs.Calls.Event.{Nothing, SetTaken, Blocked}
use Rattle.p2p_tracker.specs.History.{same, is_own, last_with, found_with, taken_sets}
use Rattle.p2p_tracker.specs.PeerSets.{set_of}
use Rattle.p2p_tracker.specs.Status.{is_inert, is_reserved, is_active}
use Rattle.p2p_tracker.specs.World
use Rattle.p2p_tracker.specs.World.{World, past, status_after}
use Rattle.p2p_directory.specs.Run.{world_after, event_of}
use Rattle.p2p_directory.proofs.LawsOfRuns.OneCall
use Rattle.p2p_driver.specs.declared.links.Direction.{Direction}
use Rattle.p2p_driver.specs.declared.links.Direction.TheVariants as way
use Rattle.p2p_driver.specs.declared.links.Held.{Held}
use Rattle.p2p_driver.specs.declared.links.Phase.TheVariants as phase
use Rattle.p2p_driver.specs.Frames.{Outcome}
use Rattle.p2p_driver.specs.Happenings.{Happening, calls_of, calls_for, link_at, link_since, opened_by, ends_by, closes_by, greets_by, is_greeted, kept_of, granted_by, spends_by, grant_at}
use Rattle.p2p_driver.specs.Grants.{unless_linked}
use Rattle.p2p_driver.specs.Drivers.{DriverView, Base, DriverStandsAt, AreRight, link, kept}
use Rattle.p2p_driver.specs.Laws.{since_of, has_greeted}
use Rattle.p2p_driver.specs.Links.{link_of, taken_way}
use Rattle.p2p_driver.proofs.Busy.{may_listen, is_linked, adopts_kept, stays_has_grant}
use Rattle.p2p_driver.proofs.GrantHistory.{grant_after, grant_later, grant_begins}
use Rattle.p2p_driver.proofs.LinkHistory.{of_greeting, of_open}

-- A LINK AND ITS STATUS

-- by whether the link ended, and its peer greeted on it
abbrev pub status_of : Bool → Bool → Status
status_of true greeted = Inert
status_of false true = Active
status_of false false = Reserved

-- once it ended, or its peer greeted
abbrev pub connected_from : Status → Status
connected_from Inert = Inert
connected_from Reserved = Active
connected_from Active = Active

abbrev pub greeted_if : Bool → Status → Status
greeted_if true status = connected_from status
greeted_if false status = status

abbrev pub status_with : Bool → Bool → Status → Status
status_with true greets status = Inert
status_with false greets status = greeted_if greets status

one_more : (e es g gs : Bool) → status_of (e || es) (g || gs) ≡ status_with e g (status_of es gs)
one_more true es g gs = refl
one_more false true true gs = refl
one_more false true false gs = refl
one_more false false true true = refl
one_more false false true false = refl
one_more false false false gs = refl

none_yet : (e g : Bool) → status_with e g Inert ≡ Inert
none_yet true g = refl
none_yet false true = refl
none_yet false false = refl

no_link : (held : Held) → ¬ (None ≡ Some held)
no_link held is = cc

some_is : {A : Type 0} {x y : A} → Some x ≡ Some y → x ≡ y
some_is e = cc

-- .. and a grant of a dial is kept, or none is
abbrev pub with_grant : Option Duration → Status → Status
with_grant (Some t) Inert = Reserved
with_grant grant status = status

reserved_stays : (grant : Option Duration) → with_grant grant Reserved ≡ Reserved
reserved_stays None = refl
reserved_stays (Some t) = refl

active_stays : (grant : Option Duration) → with_grant grant Active ≡ Active
active_stays None = refl
active_stays (Some t) = refl

grant_connects_none : (grant : Option Duration) (st : Status) → is_active (with_grant grant st) ≡ is_active st
grant_connects_none None st = refl
grant_connects_none (Some t) Inert = refl
grant_connects_none (Some t) Reserved = refl
grant_connects_none (Some t) Active = refl

-- .. on which the peer hasn't greeted
kept_reserved : (grant : Option Duration) (st : Status) → is_some grant ≡ true → is_active st ≡ false → with_grant grant st ≡ Reserved
kept_reserved None st has isnt = absurd cc
kept_reserved (Some t) Inert has isnt = refl
kept_reserved (Some t) Reserved has isnt = refl
kept_reserved (Some t) Active has isnt = absurd cc

-- .. by whether one began, one is spent, or it ended
begins_with : (x : Bool) (t : Duration) (grant : Option Duration) (st : Status) →
    with_grant (if x then Some t else grant) (if x then Reserved else st) ≡ (if x then Reserved else with_grant grant st)
begins_with true t grant st = refl
begins_with false t grant st = refl

opens_with : (x : Bool) (grant : Option Duration) (st : Status) → with_grant grant (if x then Reserved else st) ≡ (if x then Reserved else with_grant grant st)
opens_with true grant st = reserved_stays grant
opens_with false grant st = refl

ends_with : (x : Bool) (grant : Option Duration) (st : Status) →
    with_grant (if x then None else grant) (status_with x false st) ≡ (if x then Inert else with_grant grant st)
ends_with true grant st = refl
ends_with false grant st = refl

fails_with : (x : Bool) (grant : Option Duration) (st : Status) → (x ≡ true → (is_some grant ≡ true) × (is_active st ≡ false)) →
    with_grant grant (status_with x false st) ≡ with_grant grant st
fails_with true None st is = let has = (is refl).0 in absurd cc
fails_with true (Some t) st is = sym (kept_reserved (Some t) st refl (is refl).1)
fails_with false grant st is = refl

frees_with : (x : Bool) (grant : Option Duration) (st : Status) → (x ≡ true → st ≡ Inert) →
    with_grant (if x then None else grant) st ≡ (if x then Inert else with_grant grant st)
frees_with true grant st is = is refl
frees_with false grant st is = refl

adopts_with : (x : Bool) (grant : Option Duration) (st : Status) → (x ≡ true → with_grant grant st ≡ Reserved) →
    with_grant (if x then None else grant) (if x then Reserved else st) ≡ with_grant grant st
adopts_with true grant st is = sym (is refl)
adopts_with false grant st is = refl

greets_with : (x : Bool) (grant : Option Duration) (st : Status) → (x ≡ true → is_inert st ≡ false) →
    with_grant (if x then None else grant) (status_with false x st) ≡ greeted_if x (with_grant grant st)
greets_with true None st linked = refl
greets_with true (Some t) Inert linked = let isnt = linked refl in absurd cc
greets_with true (Some t) Reserved linked = refl
greets_with true (Some t) Active linked = refl
greets_with false grant st linked = refl

-- an inert status, by what it isn't
is_none : (status : Status) → false ≡ not (is_inert status) → Inert ≡ status
is_none Inert is = refl
is_none Reserved is = absurd cc
is_none Active is = absurd cc

module _ {C S : Type 0} (s : Settings C S) where
  -- how p stands by its last link: inert without one, or once it ended; active since it greeted; else reserved
  abbrev pub status_since : C → Option ((ℕ × Direction × Duration) × List (Happening C S)) → Status
  status_since p None = Inert
  status_since p (Some found) = status_of (list_any (ends_by s p) found.1) (list_any (greets_by s p) found.1)

  abbrev pub link_status : C → List (Happening C S) → Status
  link_status p h = status_since p (last_with (opened_by s p) h)

  -- .. and by the grant of a dial on which it hasn't greeted: reserved without a link
  abbrev pub status_by : C → List (Happening C S) → Status
  status_by p h = with_grant (grant_at s p h) (link_status p h)

  since_later : (p : C) (e : Happening C S) (found : Option ((ℕ × Direction × Duration) × List (Happening C S))) →
      status_since p (found_with None e found) ≡ status_with (ends_by s p e) (greets_by s p e) (status_since p found)
  since_later p e None = sym (none_yet (ends_by s p e) (greets_by s p e))
  since_later p e (Some found) = one_more (ends_by s p e) (list_any (ends_by s p) found.1)
      (greets_by s p e) (list_any (greets_by s p) found.1)

  -- one more happening by which no link of p began
  link_later_status : (p : C) (e : Happening C S) (h : List (Happening C S)) → opened_by s p e ≡ None →
      link_status p (e ∷ h) ≡ status_with (ends_by s p e) (greets_by s p e) (link_status p h)
  link_later_status p e h none = ap (λ o. status_since p (found_with o e (last_with (opened_by s p) h))) none
      ∙ since_later p e (last_with (opened_by s p) h)

  -- .. as its link and its grant tell
  status_later : (p : C) (e : Happening C S) (h : List (Happening C S)) → opened_by s p e ≡ None →
      status_by p (e ∷ h) ≡ with_grant (grant_after (granted_by s p e) (spends_by s p e) (grant_at s p h))
      (status_with (ends_by s p e) (greets_by s p e) (link_status p h))
  status_later p e h none = λ i. with_grant (grant_later s p e h i) (link_later_status p e h none i)

  -- a link that is there is reserved or active
  linked_status : (h : List (Happening C S)) (p : C) → is_some (link_at s p h) ≡ not (is_inert (link_status p h))
  linked_status h p = go (last_with (opened_by s p) h)
    where
      at : (ended greets : Bool) (held : Held) → is_some (if ended then None else Some held) ≡ not (is_inert (status_of ended greets))
      at true greets held = refl
      at false true held = refl
      at false false held = refl

      go : (found : Option ((ℕ × Direction × Duration) × List (Happening C S))) →
          is_some (link_since s p found) ≡ not (is_inert (status_since p found))
      go None = refl
      go (Some found) = at (list_any (ends_by s p) found.1) (list_any (greets_by s p) found.1)
          (kept_of s p found.0.0 found.0.1 found.0.2 found.1)

  -- what grants a dial begins a link
  unopened_grants_none : (p : C) (e : Happening C S) → opened_by s p e ≡ None → granted_by s p e ≡ None
  unopened_grants_none p (Happening.Dialed n q t draw word ingress) none = go (same s q p) none
    where
      go : (x : Bool) → if◌then◌else◌ {A = Option (ℕ × Direction × Duration)} x (Some (n, way.Dialing, t)) None ≡ None →
          if◌then◌else◌ {A = Option Duration} x (Some t) None ≡ None
      go true none = absurd cc
      go false none = refl
  unopened_grants_none p e none = refl

  -- who greets spends the grant
  greets_spends : (p : C) (e : Happening C S) → greets_by s p e ≡ true → spends_by s p e ≡ true
  greets_spends p (Happening.Adopted n q t outbound) is = absurd cc
  greets_spends p (Happening.Ended n q t direction) is = absurd cc
  greets_spends p (Happening.Released q t) is = absurd cc
  greets_spends p e is = is

  -- a peer that has a grant hasn't greeted
  pub ungreeted : (h : List (Happening C S)) (p : C) → is_some (grant_at s p h) ≡ true → is_active (link_status p h) ≡ false
  ungreeted [] p has = refl
  ungreeted (e ∷ h) p has = by (opened_by s p e) refl (ungreeted h p)
    where
      here : (ends greets spends : Bool) (grant : Option Duration) (st : Status) → (greets ≡ true → spends ≡ true) →
          is_some (grant_after None spends grant) ≡ true → (is_some grant ≡ true → is_active st ≡ false) →
          is_active (status_with ends greets st) ≡ false
      here true greets spends grant st both has before = refl
      here false true spends grant st both has before = absurd (none spends (both refl) has)
        where
          none : (x : Bool) → x ≡ true → ¬ (is_some (grant_after None x grant) ≡ true)
          none true is has = cc
          none false is has = cc
      here false false true grant st both has before = absurd cc
      here false false false grant st both has before = before has

      by : (o : Option (ℕ × Direction × Duration)) → opened_by s p e ≡ o → (is_some (grant_at s p h) ≡ true → is_active (link_status p h) ≡ false) →
          is_active (link_status p (e ∷ h)) ≡ false
      by (Some start) is before = ap (λ o. is_active (status_since p (found_with o e (last_with (opened_by s p) h)))) is
      by None is before = ap is_active (link_later_status p e h is)
          ∙ here (ends_by s p e) (greets_by s p e) (spends_by s p e) (grant_at s p h) (link_status p h) (greets_spends p e)
          (sym (ap is_some (grant_later s p e h ∙ ap (λ o. grant_after o (spends_by s p e) (grant_at s p h)) (unopened_grants_none p e is))) ∙ has)
          before

  status_opens : (p q : C) (n : ℕ) (t draw : Duration) (h : List (Happening C S)) →
      link_status p (Happening.Proved n q t draw ∷ h) ≡ (if same s q p then Reserved else link_status p h)
  status_opens p q n t draw h = go (same s q p)
    where
      go : (b : Bool) → status_since p (found_with (if b then Some (n, way.Inbound, t) else None)
          (Happening.Proved n q t draw) (last_with (opened_by s p) h))
          ≡ (if b then Reserved else link_status p h)
      go true = refl
      go false = since_later p (Happening.Proved n q t draw) (last_with (opened_by s p) h)

  status_adopts : (p q : C) (n : ℕ) (t : Duration) (outbound : Bool) (h : List (Happening C S)) →
      link_status p (Happening.Adopted n q t outbound ∷ h) ≡ (if same s q p then Reserved else link_status p h)
  status_adopts p q n t outbound h = go (same s q p)
    where
      go : (b : Bool) → status_since p (found_with (if b then Some (n, taken_way outbound, t) else None)
          (Happening.Adopted n q t outbound) (last_with (opened_by s p) h))
          ≡ (if b then Reserved else link_status p h)
      go true = refl
      go false = since_later p (Happening.Adopted n q t outbound) (last_with (opened_by s p) h)

  status_dials : (p q : C) (n : ℕ) (t draw : Duration) (word : ℕ) (ingress : Ingress) (h : List (Happening C S)) →
      link_status p (Happening.Dialed n q t draw word ingress ∷ h) ≡ (if same s q p then Reserved else link_status p h)
  status_dials p q n t draw word ingress h = go (same s q p)
    where
      go : (b : Bool) → status_since p (found_with (if b then Some (n, way.Dialing, t) else None)
          (Happening.Dialed n q t draw word ingress) (last_with (opened_by s p) h))
          ≡ (if b then Reserved else link_status p h)
      go true = refl
      go false = since_later p (Happening.Dialed n q t draw word ingress) (last_with (opened_by s p) h)

  -- a link on which p hasn't greeted is reserved
  pub greeting_is_reserved : (h : List (Happening C S)) (p : C) (held : Held) → link_at s p h ≡ Some held →
      held.phase ≡ phase.Greeting → link_status p h ≡ Reserved
  greeting_is_reserved h p held of_p is = go (last_with (opened_by s p) h) of_p
    where
      at : (found : (ℕ × Direction × Duration) × List (Happening C S)) (ended : Bool) →
          (if ended then None else Some (kept_of s p found.0.0 found.0.1 found.0.2 found.1)) ≡ Some held →
          status_of ended (list_any (greets_by s p) found.1) ≡ Reserved
      at found true of_p = absurd (no_link held of_p)
      at found false of_p = ap (status_of false) (of_greeting (list_any (closes_by s p) found.1)
          (list_any (greets_by s p) found.1) (ap (λ (x : Held). x.phase) (some_is of_p) ∙ is))

      go : (found : Option ((ℕ × Direction × Duration) × List (Happening C S))) → link_since s p found ≡ Some held →
          status_since p found ≡ Reserved
      go None of_p = absurd (no_link held of_p)
      go (Some found) of_p = at found (list_any (ends_by s p) found.1) of_p

  -- .. and one on which it has is active
  pub open_is_active : (h : List (Happening C S)) (p : C) (held : Held) → link_at s p h ≡ Some held →
      held.phase ≡ phase.Open → link_status p h ≡ Active
  open_is_active h p held of_p is = go (last_with (opened_by s p) h) of_p
    where
      at : (found : (ℕ × Direction × Duration) × List (Happening C S)) (ended : Bool) →
          (if ended then None else Some (kept_of s p found.0.0 found.0.1 found.0.2 found.1)) ≡ Some held →
          status_of ended (list_any (greets_by s p) found.1) ≡ Active
      at found true of_p = absurd (no_link held of_p)
      at found false of_p = ap (status_of false) (of_open (list_any (closes_by s p) found.1)
          (list_any (greets_by s p) found.1) (ap (λ (x : Held). x.phase) (some_is of_p) ∙ is))

      go : (found : Option ((ℕ × Direction × Duration) × List (Happening C S))) → link_since s p found ≡ Some held →
          status_since p found ≡ Active
      go None of_p = absurd (no_link held of_p)
      go (Some found) of_p = at found (list_any (ends_by s p) found.1) of_p

  -- a peer is active exactly if it has a link on which it has greeted
  active_if : (h : List (Happening C S)) (p : C) →
      is_active (link_status p h) ≡ (is_some (link_at s p h) && has_greeted s p h)
  active_if h p = go (last_with (opened_by s p) h)
    where
      at : (ended greets : Bool) (held : Held) →
          is_active (status_of ended greets) ≡ (is_some (if ended then None else Some held) && greets)
      at true greets held = refl
      at false true held = refl
      at false false held = refl

      go : (found : Option ((ℕ × Direction × Duration) × List (Happening C S))) →
          is_active (status_since p found) ≡ (is_some (link_since s p found) && list_any (greets_by s p) (since_of found))
      go None = refl
      go (Some found) = at (list_any (ends_by s p) found.1) (list_any (greets_by s p) found.1)
          (kept_of s p found.0.0 found.0.1 found.0.2 found.1)

-- THE STATUS IN THE WORLD

module _ {C S : Type 0} (b : Base C S) where
  abbrev pub d : Settings C S
  d = b.made.directory

  module _ (some : 1 ≤ b.made.directory.max_sets) (exact : CmpEqualImpliesEq b.made.directory.cmp) where
    abbrev pub status : List (Call C S) → C → Status
    status cs p = ((world_after d cs).peer p).status

    -- one more call
    called : (cs : List (Call C S)) (c : Call C S) (p : C) →
        status (c ∷ cs) p ≡ status_after d p (event_of d cs c) (status cs p)
    called cs c p = OneCall.status_is d some cs c p

    tracked : (cs : List (Call C S)) (index : ℕ) (primary secondary : List C) (p : C) →
        status (Track index primary secondary ∷ cs) p ≡ status cs p
    tracked cs index primary secondary p = called cs (Track index primary secondary) p
        ∙ go (list_all (λ (x : SetAt C). nat_lt x.index index) (taken_sets d (past d cs))) (set_of d.cmp index primary secondary)
      where
        go : (x : Bool) (taken : SetAt C) →
            status_after d p (if x then SetTaken taken else Nothing) (status cs p) ≡ status cs p
        go true taken = refl
        go false taken = refl

    updated : (cs : List (Call C S)) (infos : List (Info C S)) (p : C) → status (Update infos ∷ cs) p ≡ status cs p
    updated cs infos p = called cs (Update infos) p

    blocked : (cs : List (Call C S)) (q : C) (t : ℕ) (p : C) → status (Block q t ∷ cs) p ≡ status cs p
    blocked cs q t p = called cs (Block q t) p
        ∙ go (not (is_own d q) && not (is_blocked ((world_after d cs).unblock q) t))
      where
        go : (x : Bool) → status_after d p (if x then Blocked q t else Nothing) (status cs p) ≡ status cs p
        go true = refl
        go false = refl

    passed : (cs : List (Call C S)) (t : ℕ) (p : C) →
        status (UnblockExpired t ∷ ForgetCooled t ∷ cs) p ≡ status cs p
    passed cs t p = called (ForgetCooled t ∷ cs) (UnblockExpired t) p ∙ called cs (ForgetCooled t) p

    -- a reservation that is granted
    listened : (cs : List (Call C S)) (q : C) (t draw : ℕ) (p : C) →
        World.may_listen d q t (world_after d cs).sets ((world_after d cs).peer q) ((world_after d cs).unblock q)
        ((world_after d cs).cooldown q) ≡ true →
        status (Listen q t draw ∷ cs) p ≡ (if same d q p then Reserved else status cs p)
    listened cs q t draw p may = called cs (Listen q t draw) p
        ∙ ap (λ x. status_after d p (World.listen_event d q t draw x) (status cs p)) may

    -- .. a dial that is
    granted : (q p : C) (t draw : ℕ) (may : Bool) (address : Option Ingress) (st : Status) →
        was_granted (World.dial_event d q t draw may address) ≡ true →
        status_after d p (World.dial_event d q t draw may address) st ≡ (if same d q p then Reserved else st)
    granted q p t draw may None st is = absurd cc
    granted q p t draw true (Some address) st is = refl
    granted q p t draw false (Some address) st is = absurd cc

    dialled : (cs : List (Call C S)) (q : C) (t draw : ℕ) (p : C) →
        was_granted (event_of d cs (Dial q t draw)) ≡ true →
        status (Dial q t draw ∷ cs) p ≡ (if same d q p then Reserved else status cs p)
    dialled cs q t draw p is = called cs (Dial q t draw) p ∙ granted q p t draw
        (World.may_dial d q t (world_after d cs).sets ((world_after d cs).peer q) ((world_after d cs).unblock q)
        ((world_after d cs).cooldown q)) (World.address_with d q ((world_after d cs).peer q).known.info) (status cs p) is

    -- a release of who is reserved or connected
    released : (cs : List (Call C S)) (q p : C) →
        status (Release q ∷ cs) p ≡ (if same d q p then Inert else status cs p)
    released cs q p = called cs (Release q) p ∙ go ((world_after d cs).held q) refl
      where
        none : (x : Bool) → same d q p ≡ x → None ≡ (world_after d cs).held q →
            status cs p ≡ (if x then Inert else status cs p)
        none true is without = subst (λ r. status cs r ≡ Inert) (tells_apart exact q p is)
            (sym (is_none (status cs q) (ap is_some without ∙ OneCall.held_is_busy d q (past d cs))))
        none false is without = refl

        go : (o : Option Grant) → o ≡ (world_after d cs).held q →
            status_after d p (World.release_event d q o) (status cs p) ≡ (if same d q p then Inert else status cs p)
        go (Some grant) is = refl
        go None is = none (same d q p) refl is

    -- a connect
    connected : (cs : List (Call C S)) (q : C) (dialer : Bool) (p : C) →
        status (Connect q dialer ∷ cs) p ≡ greeted_if (same d q p) (status cs p)
    connected cs q dialer p = called cs (Connect q dialer) p ∙ go (same d q p) refl (status cs q) refl
      where
        with_it : (x : Bool) (st : Status) → (if x then World.status_connected d st else st) ≡ greeted_if x st
        with_it true Inert = refl
        with_it true Reserved = refl
        with_it true Active = refl
        with_it false st = refl

        is_of : same d q p ≡ true → status cs q ≡ status cs p
        is_of is = ap (status cs) (tells_apart exact q p is)

        go : (x : Bool) → same d q p ≡ x → (of_q : Status) → of_q ≡ status cs q →
            status_after d p (World.connect_event d q dialer of_q) (status cs p) ≡ greeted_if (same d q p) (status cs p)
        go x is Reserved at = with_it (same d q p) (status cs p)
        go true is Inert at = subst (λ st. st ≡ greeted_if (same d q p) st) (at ∙ is_of is)
            (ap (λ y. greeted_if y Inert) (sym is))
        go true is Active at = subst (λ st. st ≡ greeted_if (same d q p) st) (at ∙ is_of is)
            (ap (λ y. greeted_if y Active) (sym is))
        go false is Inert at = ap (λ y. greeted_if y (status cs p)) (sym is)
        go false is Active at = ap (λ y. greeted_if y (status cs p)) (sym is)

    -- the calls since a peer was heard
    heard : (cs : List (Call C S)) (q : C) (t : Duration) (outcome : Outcome C S) (p : C) →
        status (calls_for q t outcome ++ cs) p ≡ greeted_if (is_greeted outcome && same d q p) (status cs p)
    heard cs q t (Outcome.Waits waiting) p = refl
    heard cs q t (Outcome.Greets dialer info question) p = connected (Update (info ∷ []) ∷ cs) q dialer p
        ∙ ap (greeted_if (same d q p)) (updated cs (info ∷ []) p)
    heard cs q t (Outcome.Takes infos) p = updated cs infos p
    heard cs q t (Outcome.Answers reply) p = refl
    heard cs q t (Outcome.Delivers message) p = refl
    heard cs q t Outcome.Ignores p = refl
    heard cs q t (Outcome.Breaks breach (Some taken)) p = blocked cs q (as_nanos t) p
    heard cs q t (Outcome.Breaks breach None) p = refl
    heard cs q t Outcome.IsEarly p = refl
    heard cs q t Outcome.LacksChannel p = refl
    heard cs q t (Outcome.Delays next) p = refl
    heard cs q t (Outcome.Reads kind looked) p = refl

    -- a grant that is kept is there, and its peer has no link
    kept_parts : (link : Option Held) (grant : Option Duration) → is_some (unless_linked link grant) ≡ true → (is_some link ≡ false) × (is_some grant ≡ true)
    kept_parts None grant has = (refl, has)
    kept_parts (Some held) grant has = absurd cc

    kept_has_grant : (h : List (Happening C S)) (p : C) → is_some (kept b p h) ≡ true → is_some (grant_at d p h) ≡ true
    kept_has_grant h p has = (kept_parts (link b p h) (grant_at d p h) has).1

    kept_is_inert : (h : List (Happening C S)) (p : C) → is_some (kept b p h) ≡ true → link_status d p h ≡ Inert
    kept_is_inert h p has = sym (is_none (link_status d p h) (sym (kept_parts (link b p h) (grant_at d p h) has).0 ∙ linked_status d h p))

    -- as the last link of p tells
    pub status_is : (h : List (Happening C S)) → AreRight b h → (p : C) →
        ((world_after d (calls_of h)).peer p).status ≡ status_by d p h
    status_is [] right p = refl
    status_is (Happening.Proved n q t draw ∷ h) right p =
        listened (calls_of h) q (as_nanos t) (as_nanos draw) p (may_listen b h q (as_nanos t) right.0.1)
        ∙ ap (λ st. if same d q p then Reserved else st) (status_is h right.2 p)
        ∙ sym ((λ i. with_grant (grant_later d p (Happening.Proved n q t draw) h i) (status_opens d p q n t draw h i))
        ∙ opens_with (same d q p) (grant_at d p h) (link_status d p h))
    status_is (Happening.Adopted n q t outbound ∷ h) right p = status_is h right.2 p
        ∙ sym ((λ i. with_grant (grant_later d p (Happening.Adopted n q t outbound) h i) (status_adopts d p q n t outbound h i))
        ∙ adopts_with (same d q p) (grant_at d p h) (link_status d p h) reserved)
      where
        reserved : same d q p ≡ true → with_grant (grant_at d p h) (link_status d p h) ≡ Reserved
        reserved is = let has = kept_has_grant h p (subst (λ r. is_some (kept b r h) ≡ true) (tells_apart exact q p is) (adopts_kept b h q (as_nanos t) right.0.1)) in
            kept_reserved (grant_at d p h) (link_status d p h) has (ungreeted d h p has)
    status_is (Happening.Dialed n q t draw word ingress ∷ h) right p =
        dialled (calls_of h) q (as_nanos t) (as_nanos draw) p right.0.granted
        ∙ ap (λ st. if same d q p then Reserved else st) (status_is h right.2 p)
        ∙ sym ((λ i. with_grant (grant_begins d p q n t draw word ingress h i) (status_dials d p q n t draw word ingress h i))
        ∙ begins_with (same d q p) t (grant_at d p h) (link_status d p h))
    status_is (Happening.Ended n q t direction ∷ h) right p = released (calls_of h) q p
        ∙ ap (λ st. if same d q p then Inert else st) (status_is h right.2 p)
        ∙ sym (status_later d p (Happening.Ended n q t direction) h refl ∙ ends_with (same d q p) (grant_at d p h) (link_status d p h))
    status_is (Happening.Failed n q t direction ∷ h) right p = status_is h right.2 p
        ∙ sym (status_later d p (Happening.Failed n q t direction) h refl ∙ fails_with (same d q p) (grant_at d p h) (link_status d p h) calm)
      where
        calm : same d q p ≡ true → (is_some (grant_at d p h) ≡ true) × (is_active (link_status d p h) ≡ false)
        calm is = let has = subst (λ r. is_some (grant_at d r h) ≡ true) (tells_apart exact q p is) (stays_has_grant b h q (as_nanos t) right.0.1) in
            (has, ungreeted d h p has)
    status_is (Happening.Released q t ∷ h) right p = released (calls_of h) q p
        ∙ ap (λ st. if same d q p then Inert else st) (status_is h right.2 p)
        ∙ sym (status_later d p (Happening.Released q t) h refl ∙ frees_with (same d q p) (grant_at d p h) (link_status d p h) unlinked)
      where
        unlinked : same d q p ≡ true → link_status d p h ≡ Inert
        unlinked is = kept_is_inert h p (subst (λ r. is_some (kept b r h) ≡ true) (tells_apart exact q p is) right.0.0)
    status_is (Happening.SetCame t index primary secondary torn ∷ h) right p =
        tracked (calls_of h) index primary secondary p ∙ status_is h right.2 p
        ∙ sym (status_later d p (Happening.SetCame t index primary secondary torn) h refl)
    status_is (Happening.StaleSetCame index primary secondary ∷ h) right p =
        tracked (calls_of h) index primary secondary p ∙ status_is h right.2 p
        ∙ sym (status_later d p (Happening.StaleSetCame index primary secondary) h refl)
    status_is (Happening.Heard n q t owed cause outcome ∷ h) right p = heard (calls_of h) q t outcome p
        ∙ ap (greeted_if (is_greeted outcome && same d q p)) (status_is h right.2 p)
        ∙ sym (status_later d p (Happening.Heard n q t owed cause outcome) h refl
        ∙ greets_with (is_greeted outcome && same d q p) (grant_at d p h) (link_status d p h) linked)
      where
        last : (x y : Bool) → (x && y) ≡ true → y ≡ true
        last true y is = is
        last false y is = absurd cc

        not_so : (x : Bool) → true ≡ not x → x ≡ false
        not_so true is = absurd cc
        not_so false is = refl

        linked : (is_greeted outcome && same d q p) ≡ true → is_inert (link_status d p h) ≡ false
        linked is = not_so _ (sym (subst (λ r. is_some (link b r h) ≡ true) (tells_apart exact q p (last (is_greeted outcome) (same d q p) is))
            (is_linked _ (link b q h) right.0)) ∙ linked_status d h p)
    status_is (Happening.Given infos t ∷ h) right p = updated (calls_of h) infos p ∙ status_is h right.2 p
        ∙ sym (status_later d p (Happening.Given infos t) h refl)
    status_is (Happening.Barred q t taken ∷ h) right p = blocked (calls_of h) q (as_nanos t) p ∙ status_is h right.2 p
        ∙ sym (status_later d p (Happening.Barred q t taken) h refl)
    status_is (Happening.Passed t ∷ h) right p = passed (calls_of h) (as_nanos t) p ∙ status_is h right.2 p
        ∙ sym (status_later d p (Happening.Passed t) h refl)
    status_is (e ∷ h) right p = status_is h right.2 p ∙ sym (status_later d p e h refl)

    -- a peer that hasn't greeted may be connected once infos were applied
    pub connects : (h : List (Happening C S)) → AreRight b h → (p : C) (held : Held) → link b p h ≡ Some held →
        held.phase ≡ phase.Greeting → (infos : List (Info C S)) →
        may_connect d (world_after d (Update infos ∷ calls_of h)) p ≡ true
    connects h right p held of_p is infos = ap is_reserved (updated (calls_of h) infos p ∙ status_is h right p
        ∙ ap (with_grant (grant_at d p h)) (greeting_is_reserved d h p held of_p is) ∙ reserved_stays (grant_at d p h))

    -- .. and one that has is connected
    pub is_connected : (h : List (Happening C S)) → AreRight b h → (p : C) (held : Held) → link b p h ≡ Some held →
        held.phase ≡ phase.Open → ((world_after d (calls_of h)).peer p).status ≡ Active
    is_connected h right p held of_p is = status_is h right p
        ∙ ap (with_grant (grant_at d p h)) (open_is_active d h p held of_p is) ∙ active_stays (grant_at d p h)

    -- who is connected
    pub connected_if : (h : List (Happening C S)) → AreRight b h → (p : C) →
        is_active ((world_after d (calls_of h)).peer p).status ≡ (is_some (link b p h) && has_greeted d p h)
    connected_if h right p = ap is_active (status_is h right p)
        ∙ grant_connects_none (grant_at d p h) (link_status d p h) ∙ active_if d h p

    -- .. as it is seen of a driver
    pub connects_by : (h : List (Happening C S)) (v : DriverView C S) → DriverStandsAt b h v → (p : C) (held : Held) →
        link_of d.cmp v.links p ≡ Some held → held.phase ≡ phase.Greeting → (infos : List (Info C S)) →
        may_connect d (world_after d (Update infos ∷ calls_of h)) p ≡ true
    connects_by h v at p held of_p is infos = connects h at.right p held (sym (at.links p) ∙ of_p) is infos
