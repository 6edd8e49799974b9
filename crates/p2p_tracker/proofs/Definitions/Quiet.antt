-- Before its next query an answer of `dialable` stays.
use Rattle.std.proofs.Common.{◌≡◌, ℕ, ◌<◌, ◌≤◌, Bool, true, false, not, ◌&&◌, ◌||◌, List, Option, Some, None, refl, sym, ◌∙◌, ap, arith}
use Rattle.std.specs.Prelude.{if◌then◌else◌, nat_lt, nat_le}
use Rattle.std.specs.Cmp.{IsTotalOrder}
use Rattle.std.proofs.lemmas.Bool.{le-leb, lt-leb, ltb-true, ltb-false, lt-ltb, le-ltb}
use Rattle.p2p_tracker.specs.Status.{is_inert}
use Rattle.p2p_tracker.specs.Blocks.{is_blocked}
use Rattle.p2p_tracker.specs.Cooldowns.{dialable_from}
use Rattle.p2p_tracker.specs.Calls.{Settings}
use Rattle.p2p_tracker.specs.History
use Rattle.p2p_tracker.specs.World
use Rattle.p2p_tracker.specs.World.{World, is_target}
use Rattle.p2p_tracker.specs.Answers.{IsDialable, is_dialable, is_present_in, query_moment}
use Rattle.p2p_tracker.specs.Dials.{IsBefore}
use Rattle.p2p_tracker.proofs.Definitions.Listed

-- the tests of one peer: whether it is a target, and present, its unblock and dial moments, and a moment
abbrev pub due : Bool → Option ℕ → ℕ → ℕ → Bool
due target o d t = target && not (is_blocked o t) && nat_le d t

abbrev pub query : Bool → Bool → Option ℕ → ℕ → ℕ → Option ℕ
query target present o d t =
    if is_blocked o t then (if present then o else None)
    else if target && nat_lt t d then Some d
    else None

-- a peer is alike at both moments
abbrev pub StaysAlike : Bool → Bool → Option ℕ → ℕ → ℕ → ℕ → Type 0
StaysAlike target present o d t u = (due target o d u ≡ due target o d t) × (query target present o d u ≡ query target present o d t)

-- .. where it isn't blocked at either
unblocked : (target : Bool) (d t u : ℕ) → t ≤ u → ((n : ℕ) → (if target && nat_lt t d then Some d else None) ≡ Some n → u < n) →
    ((target && true && nat_le d u) ≡ (target && true && nat_le d t))
    × ((if target && nat_lt u d then Some d else None) ≡ (if target && nat_lt t d then Some d else None))
unblocked false d t u le next = (refl, refl)
unblocked true d t u le next = go (nat_lt t d) refl
  where
    go : (b : Bool) → nat_lt t d ≡ b → (nat_le d u ≡ nat_le d t) × ((if nat_lt u d then Some d else None) ≡ (if nat_lt t d then Some d else None))
    go true e =
        let early : u < d = next d (ap (λ b. if b then Some d else None) e) in
        (lt-leb d u early ∙ sym (lt-leb d t (ltb-true t d e)), ap (λ b. if b then Some d else None) (lt-ltb u d early ∙ sym e))
    go false e =
        let come : d ≤ t = ltb-false t d e in
        (le-leb d u (omega arith) ∙ sym (le-leb d t come), ap (λ b. if b then Some d else None) (le-ltb u d (omega arith) ∙ sym e))

-- .. where it has a block: b and c say whether that holds at the one and the other
blocked : (target present b c : Bool) (m d t u : ℕ) → nat_lt t m ≡ b → nat_lt u m ≡ c → (present ≡ false → target ≡ false) → t ≤ u →
    ((n : ℕ) → (if b then (if present then Some m else None) else if target && nat_lt t d then Some d else None) ≡ Some n → u < n) →
    ((target && not c && nat_le d u) ≡ (target && not b && nat_le d t))
    × ((if c then (if present then Some m else None) else if target && nat_lt u d then Some d else None)
    ≡ (if b then (if present then Some m else None) else if target && nat_lt t d then Some d else None))
blocked target present false false m d t u before after absent le next = unblocked target d t u le next
blocked target present false true m d t u before after absent le next = absurd (omega (arith, ltb-false t m before, ltb-true u m after, le))
blocked target true true false m d t u before after absent le next = absurd (omega (arith, next m refl, ltb-false u m after))
blocked true false true false m d t u before after absent le next = absurd (let e = absent refl in cc)
blocked false false true false m d t u before after absent le next = (refl, refl)
blocked true present true true m d t u before after absent le next = (refl, refl)
blocked false present true true m d t u before after absent le next = (refl, refl)

pub stays : (target present : Bool) (o : Option ℕ) (d t u : ℕ) → (present ≡ false → target ≡ false) → t ≤ u →
    ((n : ℕ) → query target present o d t ≡ Some n → u < n) →
    StaysAlike target present o d t u
stays target present None d t u absent le next = unblocked target d t u le next
stays target present (Some m) d t u absent le next = blocked target present (nat_lt t m) (nat_lt u m) m d t u refl refl absent le next

-- who isn't present isn't entitled
not_entitled : (own persistent named rest : Bool) → (persistent || named || rest) ≡ false → (own && (named || persistent)) ≡ false
not_entitled true false false rest e = refl
not_entitled false false false rest e = refl
not_entitled own _ _ rest e = absurd (cc)

module _ {C S : Type 0} (s : Settings C S) where
  absent : (p : C) (w : World C S) → is_present_in s w p ≡ false → is_target s p w.sets (w.peer p) ≡ false
  absent p w e =
      ap (λ b. b && is_inert (w.peer p).status && World.is_valid_address s
      (World.address_with s p (w.peer p).known.info) && World.is_dial_target s p w.sets)
      (not_entitled (not (History.is_own s p)) (History.is_persistent s p) (History.is_named s p w.sets) (not (is_inert (w.peer p).status)) e)

  -- the whole answer stays
  pub stays_dialable : (w : World C S) (t u : ℕ) (ps : List C) (next : Option ℕ) → IsDialable s w t ps next → t ≤ u → IsBefore u next → IsDialable s w u ps next
  stays_dialable w t u ps next answer le before = (
    record { sorted = answer.0.sorted; members = λ p. answer.0.members p ∙ sym (alike p).0 },
    Listed.least_alike (query_moment s w t) (query_moment s w u) next (λ p. (alike p).1) answer.1,
  )
    where
      alike : (p : C) → (is_dialable s w u p ≡ is_dialable s w t p) × (query_moment s w u p ≡ query_moment s w t p)
      alike p =
          stays (is_target s p w.sets (w.peer p)) (is_present_in s w p) (w.unblock p) (dialable_from (w.cooldown p)) t u
          (absent p w) le (Listed.least_later (query_moment s w t) u next before answer.1 p)

  -- and there is no other
  pub only_dialable : IsTotalOrder s.cmp → History.IsExact s →
      (w : World C S) (t : ℕ) (ps qs : List C) (next after : Option ℕ) → IsDialable s w t ps next →
      IsDialable s w t qs after → (ps ≡ qs) × (next ≡ after)
  only_dialable total exact w t ps qs next after x y = (
    Listed.one_list s total exact (is_dialable s w t) ps qs x.0 y.0,
    Listed.one_least s (query_moment s w t) next after x.1 y.1,
  )
