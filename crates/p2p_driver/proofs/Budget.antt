-- No more is kept than the settings say.
use Rattle.std.proofs.Common.{◌≡◌, ℕ, ◌==◌, ◌+◌, ◌-◌, ◌<◌, ◌≤◌, Bool, true, false, not, ◌&&◌, ◌||◌, cond, List, [], ◌∷◌, Some, None, find, filter, refl, sym, ◌∙◌, ap, subst}
use Rattle.std.proofs.Common.{arith}
use Rattle.std.proofs.lemmas.Bool.Decides.{nat_tests}
use Rattle.std.specs.Prelude.{if◌then◌else◌, length, nat_lt, is_some}
use Rattle.std.specs.Duration.{as_nanos}
use Rattle.std.specs.List.{count_by}
use Rattle.std.specs.declared.time.Duration.{Duration}
use Rattle.std.proofs.lemmas.List.{length-map}
use Rattle.std.proofs.lemmas.List.Sums.{sum_by-cons, length-filter, count_by-le-length}
use Rattle.p2p_discovery.specs.declared.types.ingress.Ingress.{Ingress}
use Rattle.p2p_tracker.specs.History.{same}
use Rattle.p2p_driver.specs.declared.arrivals.Arrival.{Arrival}
use Rattle.p2p_driver.specs.declared.arrivals.Room.{Room}
use Rattle.p2p_driver.specs.declared.arrivals.Room.TheVariants as room
use Rattle.p2p_driver.specs.declared.origin.Origin.{Origin}
use Rattle.p2p_driver.specs.Arrivals.{has_number, is_of, arrival_of, arrived, room_of, with_claim, claimed}
use Rattle.p2p_driver.specs.declared.links.Direction.{Direction}
use Rattle.p2p_driver.specs.declared.links.Direction.TheVariants as way
use Rattle.p2p_driver.specs.Happenings.{Happening, is_proved, is_dialed, is_reached, is_taken_over, is_ended, inbound_count, dial_count, outbound_count, link_count, next_at}
use Rattle.p2p_driver.specs.Drivers.{Base, AreRight, AreStreams, Rise, IsDialed, has_dial_place, has_outbound_place, may_begin, may_adopt, is_eligible, kept}
use Rattle.p2p_driver.proofs.Dials.{some_is}
use Rattle.p2p_driver.proofs.Fairness.{bounded, of_one}
use Rattle.p2p_driver.proofs.Standing.{one_more}
use Rattle.p2p_driver.proofs.StreamHistory.{streams_stay, streams_leave, streams_claim, streams_come, streams_pass}

-- LINKS

zeros : (m n : ℕ) → (0 + m) - (0 + n) ≡ m - n
zeros m n = omega arith

more_zeros : (m n k : ℕ) → (0 + m) - ((0 + n) + (0 + k)) ≡ m - (n + k)
more_zeros m n k = omega arith

all_zeros : (m n i j k : ℕ) → ((0 + m) + (0 + n)) - ((0 + i) + (0 + j) + (0 + k)) ≡ (m + n) - (i + j + k)
all_zeros m n i j k = omega arith

module _ {C S : Type 0} where
  -- how many links of each kind there are, with one more happening
  inbound_is : (e : Happening C S) (h : List (Happening C S)) (proved ended : Bool) → is_proved e ≡ proved → is_ended way.Inbound e ≡ ended →
      inbound_count (e ∷ h) ≡ (cond proved 1 0 + count_by is_proved h) - (cond ended 1 0 + count_by (is_ended way.Inbound) h)
  inbound_is e h proved ended is over = λ i. one_more is_proved e h proved is i - one_more (is_ended way.Inbound) e h ended over i

  dials_are : (e : Happening C S) (h : List (Happening C S)) (dialed reached ended : Bool) → is_dialed e ≡ dialed → is_reached e ≡ reached →
      is_ended way.Dialing e ≡ ended → dial_count (e ∷ h) ≡ (cond dialed 1 0 + count_by is_dialed h)
      - ((cond reached 1 0 + count_by is_reached h) + (cond ended 1 0 + count_by (is_ended way.Dialing) h))
  dials_are e h dialed reached ended is proved over = λ i. one_more is_dialed e h dialed is i
      - (one_more is_reached e h reached proved i + one_more (is_ended way.Dialing) e h ended over i)

  outbound_is : (e : Happening C S) (h : List (Happening C S)) (dialed taken : Bool) → is_dialed e ≡ dialed → is_taken_over e ≡ taken →
      outbound_count (e ∷ h) ≡ ((cond dialed 1 0 + count_by is_dialed h) + (cond taken 1 0 + count_by is_taken_over h))
      - ((cond (is_ended way.Dialing e) 1 0 + count_by (is_ended way.Dialing) h) + (cond (is_ended way.Outbound e) 1 0 + count_by (is_ended way.Outbound) h)
      + (cond (is_ended way.TakenOver e) 1 0 + count_by (is_ended way.TakenOver) h))
  outbound_is e h dialed taken is over = λ i. (one_more is_dialed e h dialed is i + one_more is_taken_over e h taken over i)
      - (one_more (is_ended way.Dialing) e h (is_ended way.Dialing e) refl i + one_more (is_ended way.Outbound) e h (is_ended way.Outbound e) refl i
      + one_more (is_ended way.TakenOver) e h (is_ended way.TakenOver e) refl i)

  -- .. as many, where none begins, is proved or ends
  pub inbound_stays : (e : Happening C S) (h : List (Happening C S)) → is_proved e ≡ false → is_ended way.Inbound e ≡ false →
      inbound_count (e ∷ h) ≡ inbound_count h
  inbound_stays e h proved ended = inbound_is e h false false proved ended
      ∙ zeros (count_by is_proved h) (count_by (is_ended way.Inbound) h)

  dials_stay : (e : Happening C S) (h : List (Happening C S)) → is_dialed e ≡ false → is_reached e ≡ false → is_ended way.Dialing e ≡ false →
      dial_count (e ∷ h) ≡ dial_count h
  dials_stay e h dialed reached ended = dials_are e h false false false dialed reached ended
      ∙ more_zeros (count_by is_dialed h) (count_by is_reached h) (count_by (is_ended way.Dialing) h)

  pub outbound_stays : (e : Happening C S) (h : List (Happening C S)) → is_dialed e ≡ false → is_taken_over e ≡ false →
      ((way : Direction) → is_ended way e ≡ false) → outbound_count (e ∷ h) ≡ outbound_count h
  outbound_stays e h dialed taken ended = outbound_is e h false false dialed taken
      ∙ (λ i. ((0 + count_by is_dialed h) + (0 + count_by is_taken_over h))
      - ((cond (ended way.Dialing i) 1 0 + count_by (is_ended way.Dialing) h) + (cond (ended way.Outbound i) 1 0 + count_by (is_ended way.Outbound) h)
      + (cond (ended way.TakenOver i) 1 0 + count_by (is_ended way.TakenOver) h)))
      ∙ all_zeros (count_by is_dialed h) (count_by is_taken_over h) (count_by (is_ended way.Dialing) h) (count_by (is_ended way.Outbound) h)
      (count_by (is_ended way.TakenOver) h)

  pub links_stay : (e : Happening C S) (h : List (Happening C S)) → is_proved e ≡ false → is_dialed e ≡ false → is_taken_over e ≡ false →
      ((way : Direction) → is_ended way e ≡ false) → link_count (e ∷ h) ≡ link_count h
  links_stay e h proved dialed taken ended = λ i. inbound_stays e h proved (ended way.Inbound) i
      + outbound_stays e h dialed taken ended i

both : (x y z : Bool) → ((x && y) && z) ≡ true → (x ≡ true) × (y ≡ true)
both true true z is = (refl, refl)
both true false z is = absurd cc
both false y z is = absurd cc

all_three : (x y z : Bool) → (x && (y && z)) ≡ true → (x ≡ true) × (y ≡ true) × (z ≡ true)
all_three true true true is = (refl, refl, refl)
all_three true true false is = absurd cc
all_three true false z is = absurd cc
all_three false y z is = absurd cc

either : (x y : Bool) → (x || y) ≡ true → x ≡ false → y ≡ true
either true y is isnt = absurd cc
either false y is isnt = is

less : (m n : ℕ) → nat_lt m n ≡ true → m < n
less m n is = grind (arith, nat_tests)

-- one more, or one less
begins_one : (all over most : ℕ) → all - over < most → (1 + all) - (0 + over) ≤ most
begins_one all over most few = omega (arith, few)

dials_one : (all left over most : ℕ) → all - (left + over) < most → (1 + all) - ((0 + left) + (0 + over)) ≤ most
dials_one all left over most few = omega (arith, few)

outbound_one : (x y : Bool) (dialed taken i j k most : ℕ) → cond x 1 0 + cond y 1 0 ≤ 1 → (dialed + taken) - (i + j + k) < most →
    ((cond x 1 0 + dialed) + (cond y 1 0 + taken)) - ((0 + i) + (0 + j) + (0 + k)) ≤ most
outbound_one x y dialed taken i j k most one few = omega (arith, one, few)

outbound_more : (x y : Bool) (dialed taken i j k : ℕ) → cond x 1 0 + cond y 1 0 ≤ 1 →
    ((cond x 1 0 + dialed) + (cond y 1 0 + taken)) - ((0 + i) + (0 + j) + (0 + k)) ≤ ((dialed + taken) - (i + j + k)) + 1
outbound_more x y dialed taken i j k one = omega (arith, one)

-- a dial that is proved
proves_one : (all left over most : ℕ) → all - (left + over) ≤ most → (0 + all) - ((1 + left) + (0 + over)) ≤ most
proves_one all left over most few = omega (arith, few)

no_more : (few fewer most : ℕ) → fewer ≤ few → few ≤ most → fewer ≤ most
no_more few fewer most less is = omega (arith, less, is)

no_more_two : (a b a2 b2 most : ℕ) → a2 ≤ a → b2 ≤ b → a + b ≤ most → a2 + b2 ≤ most
no_more_two a b a2 b2 most one two is = omega (arith, one, two, is)

one_of_two : (a b a2 b2 most : ℕ) → (a2 + b2) ≤ (a + b) + 1 → a + b < most → a2 + b2 ≤ most
one_of_two a b a2 b2 most more few = omega (arith, more, few)

ends_one : (x : Bool) (all over : ℕ) → (0 + all) - (cond x 1 0 + over) ≤ all - over
ends_one true all over = omega arith
ends_one false all over = omega arith

ends_dial : (x : Bool) (all left over : ℕ) → (0 + all) - ((0 + left) + (cond x 1 0 + over)) ≤ all - (left + over)
ends_dial true all left over = omega arith
ends_dial false all left over = omega arith

ends_outbound : (x y z dialed taken i j k : ℕ) → ((0 + dialed) + (0 + taken)) - ((x + i) + (y + j) + (z + k)) ≤ (dialed + taken) - (i + j + k)
ends_outbound x y z dialed taken i j k = omega arith

module _ {C S : Type 0} (b : Base C S) where
  -- NO MORE LINKS than the settings say

  pub record Few (h : List (Happening C S)) : Type 0 where
    pub inbound : inbound_count h ≤ b.pace.inbound
    pub dials : dial_count h ≤ b.pace.dials
    pub links : link_count h ≤ b.pace.links
    pub outbound : outbound_count h ≤ b.pace.outbound

  -- there is a place where a peer may be reserved for its stream
  placed : (h : List (Happening C S)) (p : C) (t : ℕ) → may_begin b h p t ≡ true →
      (link_count h < b.pace.links) × (inbound_count h < b.pace.inbound)
  placed h p t may = let is = both (nat_lt (link_count h) b.pace.links) (nat_lt (inbound_count h) b.pace.inbound) _ may in
      (less (link_count h) b.pace.links is.0, less (inbound_count h) b.pace.inbound is.1)

  -- .. where one is dialled
  dial_placed : (h : List (Happening C S)) → has_dial_place b h ≡ true →
      (link_count h < b.pace.links) × (outbound_count h < b.pace.outbound) × (dial_count h < b.pace.dials)
  dial_placed h may = let is = all_three (nat_lt (link_count h) b.pace.links) (nat_lt (outbound_count h) b.pace.outbound)
      (nat_lt (dial_count h) b.pace.dials) may in
      (less (link_count h) b.pace.links is.0, less (outbound_count h) b.pace.outbound is.1, less (dial_count h) b.pace.dials is.2)

  still : (e : Happening C S) (h : List (Happening C S)) → is_proved e ≡ false → is_dialed e ≡ false → is_reached e ≡ false → is_taken_over e ≡ false →
      ((way : Direction) → is_ended way e ≡ false) → Few h → Few (e ∷ h)
  still e h proved dialed reached taken ended few = record {
    inbound = subst (λ k. k ≤ b.pace.inbound) (sym (inbound_stays e h proved (ended way.Inbound))) few.inbound;
    dials = subst (λ k. k ≤ b.pace.dials) (sym (dials_stay e h dialed reached (ended way.Dialing))) few.dials;
    links = subst (λ k. k ≤ b.pace.links) (sym (links_stay e h proved dialed taken ended)) few.links;
    outbound = subst (λ k. k ≤ b.pace.outbound) (sym (outbound_stays e h dialed taken ended)) few.outbound;
  }

  -- an inbound link began
  enters : (e : Happening C S) (h : List (Happening C S)) → is_proved e ≡ true → is_dialed e ≡ false → is_reached e ≡ false → is_taken_over e ≡ false →
      ((way : Direction) → is_ended way e ≡ false) → link_count h < b.pace.links → inbound_count h < b.pace.inbound → Few h → Few (e ∷ h)
  enters e h proved dialed reached taken ended place room few = record {
    inbound = subst (λ k. k ≤ b.pace.inbound) (sym now) (begins_one (count_by is_proved h) (count_by (is_ended way.Inbound) h) b.pace.inbound room);
    dials = subst (λ k. k ≤ b.pace.dials) (sym (dials_stay e h dialed reached (ended way.Dialing))) few.dials;
    links = one_of_two (inbound_count h) (outbound_count h) (inbound_count (e ∷ h)) (outbound_count (e ∷ h)) b.pace.links more place;
    outbound = subst (λ k. k ≤ b.pace.outbound) (sym (outbound_stays e h dialed taken ended)) few.outbound;
  }
    where
      now : inbound_count (e ∷ h) ≡ (1 + count_by is_proved h) - (0 + count_by (is_ended way.Inbound) h)
      now = inbound_is e h true false proved (ended way.Inbound)

      more : inbound_count (e ∷ h) + outbound_count (e ∷ h) ≤ (inbound_count h + outbound_count h) + 1
      more = omega (arith, now, outbound_stays e h dialed taken ended)

  -- .. an outbound one did
  leaves : (e : Happening C S) (h : List (Happening C S)) (dialed taken : Bool) → is_dialed e ≡ dialed → is_taken_over e ≡ taken →
      cond dialed 1 0 + cond taken 1 0 ≤ 1 → is_proved e ≡ false → ((way : Direction) → is_ended way e ≡ false) → link_count h < b.pace.links →
      outbound_count h < b.pace.outbound → dial_count (e ∷ h) ≤ b.pace.dials → Few h → Few (e ∷ h)
  leaves e h dialed taken dials takes one proved ended place room few_dials few = record {
    inbound = subst (λ k. k ≤ b.pace.inbound) (sym (inbound_stays e h proved (ended way.Inbound))) few.inbound;
    dials = few_dials;
    links = one_of_two (inbound_count h) (outbound_count h) (inbound_count (e ∷ h)) (outbound_count (e ∷ h)) b.pace.links more place;
    outbound = subst (λ k. k ≤ b.pace.outbound) (sym now) (outbound_one dialed taken (count_by is_dialed h) (count_by is_taken_over h)
        (count_by (is_ended way.Dialing) h) (count_by (is_ended way.Outbound) h) (count_by (is_ended way.TakenOver) h) b.pace.outbound one room);
  }
    where
      now : outbound_count (e ∷ h) ≡ ((cond dialed 1 0 + count_by is_dialed h) + (cond taken 1 0 + count_by is_taken_over h))
          - ((0 + count_by (is_ended way.Dialing) h) + (0 + count_by (is_ended way.Outbound) h) + (0 + count_by (is_ended way.TakenOver) h))
      now = outbound_is e h dialed taken dials takes ∙ (λ i. ((cond dialed 1 0 + count_by is_dialed h) + (cond taken 1 0 + count_by is_taken_over h))
          - ((cond (ended way.Dialing i) 1 0 + count_by (is_ended way.Dialing) h) + (cond (ended way.Outbound i) 1 0 + count_by (is_ended way.Outbound) h)
          + (cond (ended way.TakenOver i) 1 0 + count_by (is_ended way.TakenOver) h)))

      one_out : outbound_count (e ∷ h) ≤ outbound_count h + 1
      one_out = subst (λ k. k ≤ outbound_count h + 1) (sym now) (outbound_more dialed taken (count_by is_dialed h) (count_by is_taken_over h)
          (count_by (is_ended way.Dialing) h) (count_by (is_ended way.Outbound) h) (count_by (is_ended way.TakenOver) h) one)

      more : inbound_count (e ∷ h) + outbound_count (e ∷ h) ≤ (inbound_count h + outbound_count h) + 1
      more = omega (arith, inbound_stays e h proved (ended way.Inbound), one_out)

  dialed : (n : ℕ) (q : C) (t draw : Duration) (word : ℕ) (ingress : Ingress) (h : List (Happening C S)) →
      IsDialed b h n q (as_nanos t) (as_nanos draw) word ingress → Few h → Few (Happening.Dialed n q t draw word ingress ∷ h)
  dialed n q t draw word ingress h right few = leaves e h true false refl refl (omega arith) refl (λ way. refl) place.0 place.1
      (subst (λ k. k ≤ b.pace.dials) (sym (dials_are e h true false false refl refl refl))
      (dials_one (count_by is_dialed h) (count_by is_reached h) (count_by (is_ended way.Dialing) h) b.pace.dials place.2)) few
    where
      e : Happening C S
      e = Happening.Dialed n q t draw word ingress

      place : (link_count h < b.pace.links) × (outbound_count h < b.pace.outbound) × (dial_count h < b.pace.dials)
      place = dial_placed h right.place

  -- a stream took over a grant
  adopted : (n : ℕ) (q : C) (t : Duration) (outbound : Bool) (h : List (Happening C S)) → may_adopt b h q (as_nanos t) ≡ true →
      outbound ≡ has_outbound_place b h → Few h → Few (Happening.Adopted n q t outbound ∷ h)
  adopted n q t true h may is few = leaves e h false true refl refl (omega arith) refl (λ way. refl) (less (link_count h) b.pace.links place.0)
      (less (outbound_count h) b.pace.outbound (sym is)) (subst (λ k. k ≤ b.pace.dials) (sym (dials_stay e h refl refl refl)) few.dials) few
    where
      e : Happening C S
      e = Happening.Adopted n q t true

      place : (nat_lt (link_count h) b.pace.links ≡ true) × ((has_outbound_place b h || nat_lt (inbound_count h) b.pace.inbound) ≡ true)
          × ((is_some (kept b q h) && is_eligible b h q (as_nanos t)) ≡ true)
      place = all_three (nat_lt (link_count h) b.pace.links) _ _ may
  adopted n q t false h may is few = enters e h refl refl refl refl (λ way. refl) (less (link_count h) b.pace.links place.0)
      (less (inbound_count h) b.pace.inbound (either _ _ place.1 (sym is))) few
    where
      e : Happening C S
      e = Happening.Adopted n q t false

      place : (nat_lt (link_count h) b.pace.links ≡ true) × ((has_outbound_place b h || nat_lt (inbound_count h) b.pace.inbound) ≡ true)
          × ((is_some (kept b q h) && is_eligible b h q (as_nanos t)) ≡ true)
      place = all_three (nat_lt (link_count h) b.pace.links) _ _ may

  reaches : (n : ℕ) (q : C) (t : Duration) (h : List (Happening C S)) → Few h → Few (Happening.Reached n q t ∷ h)
  reaches n q t h few = record {
    inbound = subst (λ k. k ≤ b.pace.inbound) (sym (inbound_stays e h refl refl)) few.inbound;
    dials = subst (λ k. k ≤ b.pace.dials) (sym (dials_are e h false true false refl refl refl))
        (proves_one (count_by is_dialed h) (count_by is_reached h) (count_by (is_ended way.Dialing) h) b.pace.dials few.dials);
    links = subst (λ k. k ≤ b.pace.links) (sym (links_stay e h refl refl refl (λ way. refl))) few.links;
    outbound = subst (λ k. k ≤ b.pace.outbound) (sym (outbound_stays e h refl refl (λ way. refl))) few.outbound;
  }
    where
      e : Happening C S
      e = Happening.Reached n q t

  -- a link ended
  ends : (e : Happening C S) (h : List (Happening C S)) → is_proved e ≡ false → is_dialed e ≡ false → is_reached e ≡ false → is_taken_over e ≡ false →
      Few h → Few (e ∷ h)
  ends e h proved dialed reached taken few = record {
    inbound = no_more (inbound_count h) (inbound_count (e ∷ h)) b.pace.inbound fewer_in few.inbound;
    dials = no_more (dial_count h) (dial_count (e ∷ h)) b.pace.dials fewer_dials few.dials;
    links = no_more_two (inbound_count h) (outbound_count h) (inbound_count (e ∷ h)) (outbound_count (e ∷ h)) b.pace.links fewer_in fewer_out few.links;
    outbound = no_more (outbound_count h) (outbound_count (e ∷ h)) b.pace.outbound fewer_out few.outbound;
  }
    where
      fewer_in : inbound_count (e ∷ h) ≤ inbound_count h
      fewer_in = subst (λ k. k ≤ inbound_count h) (sym (inbound_is e h false (is_ended way.Inbound e) proved refl))
          (ends_one (is_ended way.Inbound e) (count_by is_proved h) (count_by (is_ended way.Inbound) h))

      fewer_dials : dial_count (e ∷ h) ≤ dial_count h
      fewer_dials = subst (λ k. k ≤ dial_count h) (sym (dials_are e h false false (is_ended way.Dialing e) dialed reached refl))
          (ends_dial (is_ended way.Dialing e) (count_by is_dialed h) (count_by is_reached h) (count_by (is_ended way.Dialing) h))

      fewer_out : outbound_count (e ∷ h) ≤ outbound_count h
      fewer_out = subst (λ k. k ≤ outbound_count h) (sym (outbound_is e h false false dialed taken))
          (ends_outbound (cond (is_ended way.Dialing e) 1 0) (cond (is_ended way.Outbound e) 1 0) (cond (is_ended way.TakenOver e) 1 0)
          (count_by is_dialed h) (count_by is_taken_over h)
          (count_by (is_ended way.Dialing) h) (count_by (is_ended way.Outbound) h) (count_by (is_ended way.TakenOver) h))

  pub few_of : (h : List (Happening C S)) → AreRight b h → Few h
  few_of [] right = record { inbound = omega arith; dials = omega arith; links = omega arith; outbound = omega arith }
  few_of (Happening.Proved n q t draw ∷ h) right = let place = placed h q (as_nanos t) right.0.1 in
      enters (Happening.Proved n q t draw) h refl refl refl refl (λ way. refl) place.0 place.1 (few_of h right.2)
  few_of (Happening.Adopted n q t outbound ∷ h) right = adopted n q t outbound h right.0.1 right.0.2 (few_of h right.2)
  few_of (Happening.Dialed n q t draw word ingress ∷ h) right = dialed n q t draw word ingress h right.0 (few_of h right.2)
  few_of (Happening.Reached n q t ∷ h) right = reaches n q t h (few_of h right.2)
  few_of (Happening.Ended n q t direction ∷ h) right = ends (Happening.Ended n q t direction) h refl refl refl refl (few_of h right.2)
  few_of (Happening.Failed n q t direction ∷ h) right = ends (Happening.Failed n q t direction) h refl refl refl refl (few_of h right.2)
  few_of (e ∷ h) right = still e h refl refl refl refl (λ way. refl) (few_of h right.2)

-- STREAMS

module _ {C : Type 0} where
  -- none has a number that isn't above the first
  pub none_below : (m k : ℕ) (xs : List (Arrival C)) → Rise m xs k → (n : ℕ) → n ≤ m → find (has_number n) xs ≡ None
  none_below m k [] rise n le = refl
  none_below m k (a ∷ xs) rise n le =
      ap (λ b. cond b (Some a) (find (has_number n) xs)) (other rise.0)
      ∙ none_below a.number k xs rise.1 n (above rise.0)
    where
      other : m < a.number → (a.number == n) ≡ false
      other less = grind (arith, nat_tests)

      above : m < a.number → n ≤ a.number
      above less = grind (arith)

  -- the first is found by its number
  first_found : (a : Arrival C) (xs : List (Arrival C)) (n : ℕ) → a.number ≡ n → find (has_number n) (a ∷ xs) ≡ Some a
  first_found a xs n is = ap (λ b. cond b (Some a) (find (has_number n) xs)) (tied is)
    where
      tied : a.number ≡ n → (a.number == n) ≡ true
      tied is = grind (arith, nat_tests)

  -- in two lists with the same streams, the first of one isn't below the first of the other
  not_below : (a b : Arrival C) (xs ys : List (Arrival C)) (k : ℕ) → Rise b.number ys k →
      find (has_number a.number) (a ∷ xs) ≡ find (has_number a.number) (b ∷ ys) → ¬ (a.number < b.number)
  not_below a b xs ys k rise same less =
      let found = sym (first_found a xs a.number refl) ∙ same
      ∙ none_below a.number k (b ∷ ys) (less, rise) a.number (omega arith) in absurd cc

  -- lists that rise and have the same streams are one list
  pub one_list : (m k : ℕ) (xs ys : List (Arrival C)) → Rise m xs k → Rise m ys k →
      ((n : ℕ) → find (has_number n) xs ≡ find (has_number n) ys) → xs ≡ ys
  one_list m k [] [] up rise same = refl
  one_list m k [] (b ∷ ys) up rise same = let found = same b.number ∙ first_found b ys b.number refl in absurd cc
  one_list m k (a ∷ xs) [] up rise same = let found = sym (first_found a xs a.number refl) ∙ same a.number in absurd cc
  one_list m k (a ∷ xs) (b ∷ ys) up rise same =
      λ i. heads i ∷ one_list a.number k xs ys up.1 (subst (λ m. Rise m ys k) tied rise.1) at i
    where
      numbers : ¬ (a.number < b.number) → ¬ (b.number < a.number) → b.number ≡ a.number
      numbers above below = grind (arith)

      tied : b.number ≡ a.number
      tied = numbers (not_below a b xs ys k rise.1 (same a.number)) (not_below b a ys xs k up.1 (sym (same b.number)))

      heads : a ≡ b
      heads = some_is (sym (first_found a xs a.number refl) ∙ same a.number ∙ first_found b ys a.number tied)

      at : (n : ℕ) → find (has_number n) xs ≡ find (has_number n) ys
      at n = go (a.number == n) refl
        where
          go : (e : Bool) → (a.number == n) ≡ e → find (has_number n) xs ≡ find (has_number n) ys
          go true is = none_below a.number k xs up.1 n (within is)
              ∙ sym (none_below b.number k ys rise.1 n (subst (λ m. n ≤ m) (sym tied) (within is)))
            where
              within : (a.number == n) ≡ true → n ≤ a.number
              within is = grind (arith, nat_tests)
          go false is = sym (ap (λ e. cond e (Some a) (find (has_number n) xs)) is) ∙ same n
              ∙ ap (λ e. cond e (Some b) (find (has_number n) ys)) (ap (λ m. m == n) tied ∙ is)

  -- a claim leaves the origin
  count_claimed : (origin : Origin) (n : ℕ) (p : C) (xs : List (Arrival C)) →
      count_by (is_of origin) (claimed n p xs) ≡ count_by (is_of origin) xs
  count_claimed origin n p [] = refl
  count_claimed origin n p (a ∷ xs) =
      sum_by-cons (λ a. cond (is_of origin a) 1 0) (with_claim n p a) (claimed n p xs)
      ∙ ap (λ k. cond (is_of origin (with_claim n p a)) 1 0 + k) (count_claimed origin n p xs)
      ∙ ap (λ b. cond b 1 0 + count_by (is_of origin) xs) (go (has_number n a))
      ∙ sym (sum_by-cons (λ a. cond (is_of origin a) 1 0) a xs)
    where
      go : (b : Bool) → is_of origin (if◌then◌else◌ b (record a { claim = Some p }) a) ≡ is_of origin a
      go true = refl
      go false = refl

  -- of some there are no more than of all
  count_some : (p q : Arrival C → Bool) (xs : List (Arrival C)) → count_by p (filter q xs) ≤ count_by p xs
  count_some p q [] = omega arith
  count_some p q (x ∷ xs) = go (q x) (count_some p q xs)
    where
      go : (b : Bool) → count_by p (filter q xs) ≤ count_by p xs →
          count_by p (cond b (x ∷ filter q xs) (filter q xs)) ≤ count_by p (x ∷ xs)
      go true less = omega (arith, sum_by-cons (λ a. cond (p a) 1 0) x xs, sum_by-cons (λ a. cond (p a) 1 0) x (filter q xs), less)
      go false less = omega (arith, sum_by-cons (λ a. cond (p a) 1 0) x xs, less)

module _ {C S : Type 0} (b : Base C S) where
  -- the streams after these happenings, which are few
  pub record FewStreams (h : List (Happening C S)) : Type 0 where
    pub streams : List (Arrival C)
    pub are : AreStreams h streams
    pub within : length streams ≤ b.pace.arrivals
    pub of_each : (origin : Origin) → count_by (is_of origin) streams ≤ b.pace.by_address

  those : (h : List (Happening C S)) (xs ys : List (Arrival C)) → AreStreams h xs → AreStreams h ys → xs ≡ ys
  those h xs ys at are = one_list 0 (next_at h) xs ys at.rise are.rise (λ n. at.each n ∙ sym (are.each n))

  stay : (e : Happening C S) (h : List (Happening C S)) (few : FewStreams h) → AreStreams (e ∷ h) few.streams → FewStreams (e ∷ h)
  stay e h few at = record { streams = few.streams; are = at; within = few.within; of_each = few.of_each }

  leave : (n : ℕ) (e : Happening C S) (h : List (Happening C S)) (few : FewStreams h) →
      AreStreams (e ∷ h) (filter (λ a. not (has_number n a)) few.streams) → FewStreams (e ∷ h)
  leave n e h few at = let q = λ (a : Arrival C). not (has_number n a) in record {
    streams = filter q few.streams;
    are = at;
    within = omega (arith, length-filter q few.streams, count_by-le-length q few.streams, few.within);
    of_each = λ origin. omega (arith, count_some (is_of origin) q few.streams, few.of_each origin);
  }

  claim : (n : ℕ) (p : C) (e : Happening C S) (h : List (Happening C S)) (few : FewStreams h) →
      AreStreams (e ∷ h) (claimed n p few.streams) → FewStreams (e ∷ h)
  claim n p e h few at = record {
    streams = claimed n p few.streams;
    are = at;
    within = subst (λ k. k ≤ b.pace.arrivals) (sym (length-map few.streams (with_claim n p))) few.within;
    of_each = λ origin. subst (λ k. k ≤ b.pace.by_address) (sym (count_claimed origin n p few.streams)) (few.of_each origin);
  }

  come : (origin : Origin) (t : Duration) (space : Room) (h : List (Happening C S)) (few : FewStreams h) →
      room_of b.pace (as_nanos t) few.streams origin ≡ space → ¬ (space ≡ room.None) →
      FewStreams (Happening.Arrived (next_at h) origin t space ∷ h)
  come origin t space h few is some = let new : Arrival C = arrival_of (next_at h) origin t in record {
    streams = arrived new space few.streams;
    are = streams_come origin t space h few.streams some few.are;
    within = subst (λ r. length (arrived new r few.streams) ≤ b.pace.arrivals) is
        (bounded b.pace (as_nanos t) few.streams new few.within);
    of_each = λ from. subst (λ r. count_by (is_of from) (arrived new r few.streams) ≤ b.pace.by_address) is
        (of_one b.pace (as_nanos t) few.streams new few.of_each from);
  }

  pub streams_of : (h : List (Happening C S)) → AreRight b h → FewStreams h
  streams_of [] right = record { streams = []; are = record { rise = omega arith; each = λ n. refl }; within = omega arith; of_each = λ origin. omega arith }
  streams_of (Happening.Arrived n origin t space ∷ h) right = let few = streams_of h right.2 in
      subst (λ n. FewStreams (Happening.Arrived n origin t space ∷ h)) (sym right.0.0)
      (come origin t space h few (ap (λ xs. room_of b.pace (as_nanos t) xs origin)
      (those h few.streams right.0.2.0 few.are right.0.2.1) ∙ right.0.2.2) right.0.1)
  streams_of (Happening.Claimed n q origin t ∷ h) right = let few = streams_of h right.2 in
      let e : Happening C S = Happening.Claimed n q origin t in
      claim n q e h few (streams_claim n q e h few.streams refl (λ j. refl) (λ j. refl) (λ j. refl) few.are)
  streams_of (Happening.Refused n q t why ∷ h) right = let few = streams_of h right.2 in
      let e : Happening C S = Happening.Refused n q t why in
      leave n e h few (streams_leave n e h few.streams refl (λ j. refl) (λ j. refl) (λ j. refl) few.are)
  streams_of (Happening.Proved n q t draw ∷ h) right = let few = streams_of h right.2 in
      let e : Happening C S = Happening.Proved n q t draw in
      leave n e h few (streams_leave n e h few.streams refl (λ j. refl) (λ j. refl) (λ j. refl) few.are)
  streams_of (Happening.Unproved n q t why ∷ h) right = let few = streams_of h right.2 in
      let e : Happening C S = Happening.Unproved n q t why in
      leave n e h few (streams_leave n e h few.streams refl (λ j. refl) (λ j. refl) (λ j. refl) few.are)
  streams_of (Happening.Adopted n q t outbound ∷ h) right = let few = streams_of h right.2 in
      let e : Happening C S = Happening.Adopted n q t outbound in
      leave n e h few (streams_leave n e h few.streams refl (λ j. refl) (λ j. refl) (λ j. refl) few.are)
  streams_of (Happening.Left n t ∷ h) right = let few = streams_of h right.2 in
      let e : Happening C S = Happening.Left n t in
      leave n e h few (streams_leave n e h few.streams refl (λ j. refl) (λ j. refl) (λ j. refl) few.are)
  streams_of (Happening.Dialed n q t draw word ingress ∷ h) right = let few = streams_of h right.2 in
      let e : Happening C S = Happening.Dialed n q t draw word ingress in
      stay e h few (streams_pass e h few.streams refl (λ j. refl) (λ j. refl) (λ j. refl) few.are)
  streams_of (Happening.StreamLate n t ∷ h) right = let few = streams_of h right.2 in
      let e : Happening C S = Happening.StreamLate n t in
      leave n e h few (streams_leave n e h few.streams refl (λ j. refl) (λ j. refl) (λ j. refl) few.are)
  streams_of (e ∷ h) right = let few = streams_of h right.2 in stay e h few (streams_stay e h few.streams refl (λ j. refl) (λ j. refl) (λ j. refl) few.are)

  pub few_streams : (h : List (Happening C S)) (xs : List (Arrival C)) → AreRight b h → AreStreams h xs →
      (length xs ≤ b.pace.arrivals) × ((origin : Origin) → count_by (is_of origin) xs ≤ b.pace.by_address)
  few_streams h xs right at = let few = streams_of h right in
      subst (λ ys. (length ys ≤ b.pace.arrivals) × ((origin : Origin) → count_by (is_of origin) ys ≤ b.pace.by_address))
      (those h few.streams xs few.are at) (few.within, few.of_each)
