-- Claims that were answered, by what is kept of them.
use Rattle.std.proofs.Common.{◌≡◌, ◌≤◌, ℕ, Bool, true, false, cond, not, nat_le, List, [], ◌∷◌, map}
use Rattle.std.proofs.Common.{Option, Some, None, refl, sym, ◌∙◌, ap, subst, arith, zero, suc}
use Rattle.std.specs.Prelude.{unwrap_or, if◌then◌else◌}
use Rattle.std.specs.Duration.{as_nanos}
use Rattle.std.specs.List.{filter, list_any, IsDistinct}
use Rattle.std.specs.Map.{lookup, keys_of}
use Rattle.std.specs.Int.NonZero.{non_zero_u32_get}
use Rattle.std.proofs.Common.{inl, ◌++◌, ◌||◌, find}
use Rattle.std.specs.Prelude.{option_map}
use Rattle.std.proofs.Math.Dec.{leb-zero}
use Rattle.std.proofs.lemmas.Bool.{leb-true}
use Rattle.std.proofs.lemmas.Bool.Decides.{nat_tests}
use Rattle.std.proofs.lemmas.Cmp.{nat_eq_equiv}
use Rattle.std.proofs.lemmas.List.{map-append}
use Rattle.std.proofs.lemmas.Map.Entries.{option_filter, lookup-filter-values, lookup-filter-keys}
use Rattle.std.proofs.lemmas.Map.Made.{IsDistinct-keys_filter}
use Rattle.std.proofs.lemmas.Map.Keys.{IsDistinct-push}
use Rattle.p2p_driver.specs.declared.pace.Pace.{Pace}
use Rattle.p2p_driver.specs.Rates.{AreAllowed, AreBefore, IsKept, IsAllowed}
use Rattle.p2p_driver.specs.Answers.{AnswersView, AreKept, AreAnswered, kept_of, left_of, times_of, is_origin}
use Rattle.p2p_driver.specs.Answers.{AreDistinct}
use Rattle.p2p_driver.proofs.Kept.{forgotten, kept_later}

-- what is left of a moment, by what a look-up gives
left : (now : ℕ) (o : Option ℕ) →
    unwrap_or (option_filter (λ m. not (nat_le m now)) o) 0 ≡ left_of now (unwrap_or o 0)
left now None = sym (ap (λ b. if b then 0 else 0) (leb-zero now))
left now (Some m) = go (nat_le m now)
  where
    go : (b : Bool) → unwrap_or (cond (not b) (Some m) None) 0 ≡ (if b then 0 else m)
    go true = refl
    go false = refl

pub kept_filtered : (now : ℕ) (es : List (ℕ × ℕ)) → AreDistinct es → (o : ℕ) →
    kept_of (filter (λ e. not (nat_le e.1 now)) es) o ≡ left_of now (kept_of es o)
kept_filtered now es distinct o =
    ap (λ found. unwrap_or found 0) (lookup-filter-values nat_eq_equiv
    (λ m. not (nat_le m now)) o es distinct)
    ∙ left now (lookup (is_origin o) es)

-- no origin stands twice: among none ..
pub none_distinct : AreDistinct []
unfolding IsDistinct
none_distinct = tt

-- .. and among some of those of which none does
pub distinct_filtered : (p : ℕ × ℕ → Bool) (es : List (ℕ × ℕ)) → AreDistinct es →
    AreDistinct (filter p es)
distinct_filtered p es distinct = IsDistinct-keys_filter is_origin p es distinct

-- the first that is found is the one that a look-up gives
pub found_lookup : (o : ℕ) (es : List (ℕ × ℕ)) →
    option_map (λ e. e.1) (find (λ e. is_origin o e.0) es) ≡ lookup (is_origin o) es
found_lookup o [] = refl
found_lookup o (e ∷ es) = go (is_origin o e.0) (found_lookup o es)
  where
    go : (b : Bool) →
        option_map (λ e. e.1) (find (λ e. is_origin o e.0) es) ≡ lookup (is_origin o) es →
        option_map (λ e. e.1) (cond b (Some e) (find (λ e. is_origin o e.0) es))
        ≡ cond b (Some e.1) (lookup (is_origin o) es)
    go true rest = refl
    go false rest = rest

-- what is forgotten once it is over is kept all the same
pub kept_left : (burst refill now : ℕ) (h : List ℕ) (kept : ℕ) → IsKept burst refill now h kept →
    IsKept burst refill now h (left_of now kept)
kept_left burst refill now h kept is = go (nat_le kept now) refl
  where
    go : (b : Bool) → nat_le kept now ≡ b → IsKept burst refill now h (if b then 0 else kept)
    go true over = forgotten burst refill h kept now is (leb-true kept now over)
    go false over = is

-- nothing is kept of nothing
pub none_kept : (burst refill now : ℕ) → IsKept burst refill now [] 0
none_kept burst refill now = record {
  before = λ k a at. absurd cc;
  least = λ k a at. absurd cc;
  reached = inl (omega arith);
}

-- the same origin
same : (origin o : ℕ) → is_origin origin o ≡ true → origin ≡ o
same origin o is = grind (arith, nat_tests)

-- ONE MORE ORIGIN
-- what is found once one more stands last
abbrev or_last : Option ℕ → Bool → ℕ → Option ℕ
or_last None b kept = cond b (Some kept) None
or_last (Some m) b kept = Some m

lookup_push : (test : ℕ → Bool) (es : List (ℕ × ℕ)) (o kept : ℕ) →
    lookup test (es ++ (o, kept) ∷ []) ≡ or_last (lookup test es) (test o) kept
lookup_push test [] o kept = refl
lookup_push test (e ∷ es) o kept = go (test e.0) (lookup_push test es o kept)
  where
    go : (b : Bool) →
        lookup test (es ++ (o, kept) ∷ []) ≡ or_last (lookup test es) (test o) kept →
        cond b (Some e.1) (lookup test (es ++ (o, kept) ∷ []))
        ≡ or_last (cond b (Some e.1) (lookup test es)) (test o) kept
    go true rest = refl
    go false rest = rest

-- .. of which none is left
none_left : (o : ℕ) (es : List (ℕ × ℕ)) →
    list_any (is_origin o) (keys_of (filter (λ e. not (is_origin o e.0)) es)) ≡ false
none_left o [] = refl
none_left o (e ∷ es) = go (is_origin o e.0) refl (none_left o es)
  where
    rest : List (ℕ × ℕ)
    rest = filter (λ e. not (is_origin o e.0)) es

    go : (b : Bool) → is_origin o e.0 ≡ b → list_any (is_origin o) (keys_of rest) ≡ false →
        list_any (is_origin o) (keys_of (cond (not b) (e ∷ rest) rest)) ≡ false
    go true is none = none
    go false is none = ap (λ b. b || list_any (is_origin o) (keys_of rest)) is ∙ none

pub distinct_put : (origin kept : ℕ) (es : List (ℕ × ℕ)) → AreDistinct es →
    AreDistinct (filter (λ e. not (is_origin origin e.0)) es ++ (origin, kept) ∷ [])
distinct_put origin kept es distinct =
    let rest = filter (λ e. not (is_origin origin e.0)) es in
    subst (λ keys. IsDistinct is_origin keys) (sym (map-append (λ e. e.0) rest ((origin, kept) ∷ [])))
    (IsDistinct-push nat_eq_equiv (keys_of rest) origin
    (distinct_filtered (λ e. not (is_origin origin e.0)) es distinct) (none_left origin es))

pub kept_put : (origin kept : ℕ) (es : List (ℕ × ℕ)) (o : ℕ) →
    kept_of (filter (λ e. not (is_origin origin e.0)) es ++ (origin, kept) ∷ []) o
    ≡ (if is_origin origin o then kept else kept_of es o)
kept_put origin kept es o = ap (λ found. unwrap_or found 0)
    (lookup_push (is_origin o) (filter (λ e. not (is_origin origin e.0)) es) origin kept
    ∙ ap (λ found. or_last found (is_origin o origin) kept) (lookup-filter-keys (is_origin o)
    (λ k. not (is_origin origin k)) (not (is_origin origin o)) others es))
    ∙ ap (λ b. unwrap_or (or_last (cond (not (is_origin origin o)) (lookup (is_origin o) es) None) b kept) 0)
    (nat_eq_equiv.symm o origin)
    ∙ go (is_origin origin o) (lookup (is_origin o) es)
  where
    others : (k : ℕ) → is_origin o k ≡ true →
        not (is_origin origin k) ≡ not (is_origin origin o)
    others k is = ap (λ k. not (is_origin origin k)) (sym (same o k is))

    go : (b : Bool) (found : Option ℕ) →
        unwrap_or (or_last (cond (not b) found None) b kept) 0
        ≡ (if b then kept else unwrap_or found 0)
    go true found = refl
    go false None = refl
    go false (Some m) = refl

both : (burst refill now : ℕ) (xs ys : List ℕ) (k l : ℕ) → xs ≡ ys → k ≡ l →
    IsKept burst refill now ys l → IsKept burst refill now xs k
both burst refill now xs ys k l is_xs is_k kept =
    subst (λ xs. IsKept burst refill now xs k) (sym is_xs)
    (subst (λ k. IsKept burst refill now ys k) (sym is_k) kept)

module _ (pace : Pace) (now : ℕ) (claims : List (ℕ × ℕ)) where
  -- the buckets that are full may be forgotten
  pub kept_on : (v : AnswersView) (es : List (ℕ × ℕ)) (room : ℕ) → AreKept pace now claims v →
      ((o : ℕ) → kept_of es o ≡ left_of now (kept_of v.of_origins o)) →
      AreKept pace now claims (record { all = v.all; of_origins = es; room = room })
  kept_on v es room kept forgot = record {
    all = kept.all;
    each = λ o. subst (IsKept _ _ now (times_of o claims)) (sym (forgot o))
        (kept_left _ _ now (times_of o claims) (kept_of v.of_origins o) (kept.each o));
  }

  -- what is kept at a moment is kept later
  pub kept_at_later : (v : AnswersView) (later : ℕ) → AreKept pace now claims v → now ≤ later →
      AreKept pace later claims v
  kept_at_later v later kept after = record {
    all = kept_later _ _ _ v.all now later kept.all after;
    each = λ o. kept_later _ _ _ (kept_of v.of_origins o) now later (kept.each o) after;
  }

  -- .. whatever room is promised
  pub kept_in_room : (v : AnswersView) (room : ℕ) → AreKept pace now claims v →
      AreKept pace now claims (record { all = v.all; of_origins = v.of_origins; room = room })
  kept_in_room v room kept = record { all = kept.all; each = kept.each }

-- one more claim of an origin is kept of each origin
module _ (burst refill now origin bucket : ℕ) (claims : List (ℕ × ℕ)) (es es2 : List (ℕ × ℕ)) where
  each_by : (o : ℕ) (t : Bool) → is_origin origin o ≡ t →
      IsKept burst refill now (now ∷ times_of origin claims) bucket →
      IsKept burst refill now (times_of o claims) (kept_of es o) →
      kept_of es2 o ≡ (if is_origin origin o then bucket else kept_of es o) →
      IsKept burst refill now (times_of o ((origin, now) ∷ claims)) (kept_of es2 o)
  each_by o true is kept_bucket kept put = both burst refill now
      (times_of o ((origin, now) ∷ claims)) (now ∷ times_of o claims) (kept_of es2 o) bucket
      (ap (λ b. map (λ c. c.1) (cond b ((origin, now) ∷ filter (λ c. is_origin c.0 o) claims)
      (filter (λ c. is_origin c.0 o) claims))) is)
      (put ∙ ap (λ b. if b then bucket else kept_of es o) is)
      (subst (λ q. IsKept burst refill now (now ∷ times_of q claims) bucket) (same origin o is) kept_bucket)
  each_by o false is kept_bucket kept put = both burst refill now
      (times_of o ((origin, now) ∷ claims)) (times_of o claims) (kept_of es2 o) (kept_of es o)
      (ap (λ b. map (λ c. c.1) (cond b ((origin, now) ∷ filter (λ c. is_origin c.0 o) claims)
      (filter (λ c. is_origin c.0 o) claims))) is)
      (put ∙ ap (λ b. if b then bucket else kept_of es o) is)
      kept

-- .. and of all
pub kept_more : (pace : Pace) (now : ℕ) (claims : List (ℕ × ℕ)) (origin : ℕ) (all bucket : ℕ)
    (es es2 : List (ℕ × ℕ)) (room : ℕ) →
    IsKept (non_zero_u32_get pace.answers.burst) (as_nanos pace.answers.refill) now
    (now ∷ map (λ c. c.1) claims) all →
    IsKept (non_zero_u32_get pace.answers_of_address.burst)
    (as_nanos pace.answers_of_address.refill) now (now ∷ times_of origin claims) bucket →
    ((o : ℕ) → IsKept (non_zero_u32_get pace.answers_of_address.burst)
    (as_nanos pace.answers_of_address.refill) now (times_of o claims) (kept_of es o)) →
    ((o : ℕ) → kept_of es2 o ≡ (if is_origin origin o then bucket else kept_of es o)) →
    AreKept pace now ((origin, now) ∷ claims) (record { all = all; of_origins = es2; room = room })
kept_more pace now claims origin all bucket es es2 room kept_all kept_bucket kept_each put = record {
  all = kept_all;
  each = λ o. each_by (non_zero_u32_get pace.answers_of_address.burst)
      (as_nanos pace.answers_of_address.refill) now origin bucket claims es es2 o
      (is_origin origin o) refl kept_bucket (kept_each o) (put o);
}

-- IN A WINDOW

pub allowed_all : (pace : Pace) (claims : List (ℕ × ℕ)) → AreAnswered pace claims →
    AreAllowed (non_zero_u32_get pace.answers.burst) (as_nanos pace.answers.refill)
    (map (λ c. c.1) claims)
allowed_all pace [] answered = tt
allowed_all pace (c ∷ claims) answered =
    (answered.0.all, answered.1, allowed_all pace claims answered.2)

before_by : (t o : ℕ) (c : ℕ × ℕ) (claims : List (ℕ × ℕ)) (b : Bool) → c.1 ≤ t →
    AreBefore t (times_of o claims) → AreBefore t (map (λ c. c.1) (cond b
    (c ∷ filter (λ c. is_origin c.0 o) claims) (filter (λ c. is_origin c.0 o) claims)))
before_by t o c claims false first before k a at = before k a at
before_by t o c claims true first before zero a at =
    let is : c.1 ≡ a = ap (λ o. unwrap_or o a) at in omega (arith, is, first)
before_by t o c claims true first before (suc k) a at = before k a at

before_of : (t o : ℕ) (claims : List (ℕ × ℕ)) → AreBefore t (map (λ c. c.1) claims) →
    AreBefore t (times_of o claims)
before_of t o [] before = before
before_of t o (c ∷ claims) before =
    before_by t o c claims (is_origin c.0 o) (before 0 c.1 refl)
    (before_of t o claims (λ k a at. before (suc k) a at))

allowed_by : (burst refill o : ℕ) (c : ℕ × ℕ) (claims : List (ℕ × ℕ)) (b : Bool) →
    is_origin c.0 o ≡ b → IsAllowed burst refill (times_of c.0 claims) c.1 →
    AreBefore c.1 (times_of o claims) → AreAllowed burst refill (times_of o claims) →
    AreAllowed burst refill (map (λ c. c.1) (cond b
    (c ∷ filter (λ c. is_origin c.0 o) claims) (filter (λ c. is_origin c.0 o) claims)))
allowed_by burst refill o c claims true is may before allowed =
    (subst (λ q. IsAllowed burst refill (times_of q claims) c.1) (same c.0 o is) may, before, allowed)
allowed_by burst refill o c claims false is may before allowed = allowed

pub allowed_of : (pace : Pace) (o : ℕ) (claims : List (ℕ × ℕ)) → AreAnswered pace claims →
    AreAllowed (non_zero_u32_get pace.answers_of_address.burst)
    (as_nanos pace.answers_of_address.refill) (times_of o claims)
allowed_of pace o [] answered = tt
allowed_of pace o (c ∷ claims) answered = allowed_by _ _ o c claims (is_origin c.0 o) refl
    answered.0.of_origin (before_of c.1 o claims answered.1) (allowed_of pace o claims answered.2)
