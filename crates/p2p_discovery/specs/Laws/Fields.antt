-- Readers of several fields take exactly the spellings of their fields.
use Rattle.std.proofs.Common.{◌≡◌, ℕ, zero, suc, ◌≤◌, ◌<◌, ◌^◌, ◌/◌, ◌%◌, Bool, true, false, cond}
use Rattle.std.proofs.Common.{List, [], ◌∷◌, ◌++◌, length, take, drop, Result, Ok, Err, refl, sym}
use Rattle.std.proofs.Common.{ap, subst, ◌∙◌, append_assoc, arith, eqb, ltb, ◌⊎◌, inl, inr, eq-eqb}
use Rattle.std.specs.Int.{w16, from_be_bytes, to_be_bytes}
use Rattle.std.proofs.lemmas.Bool.{cases_lt, ltb-false, le-ltb, lt-ltb, eqb-true}
use Rattle.std.proofs.lemmas.List.{take_at, drop_at, take-append-drop, length-append, length-take}
use Rattle.std.proofs.lemmas.List.{get_or-take, get_or_past}
use Rattle.std.proofs.lemmas.Nat.{be_bytes_2, from_be_bytes-to_be_bytes_2}
use Rattle.p2p_discovery.specs.declared.codec.error.CodecError.{CodecError}
use Rattle.p2p_discovery.specs.declared.codec.error.CodecError.TheVariants.{EndOfBuffer}
use Rattle.p2p_discovery.specs.declared.codec.error.CodecError.TheVariants.{InvalidEnum}
use Rattle.p2p_discovery.specs.Reading.{Reading, ◌>>=◌, reads, refuses, outcome_then, checked}
use Rattle.p2p_discovery.specs.Reading.{takes_memory, byte_at, counted_at, Lawful, IsBytes}
use Rattle.p2p_discovery.specs.Laws.Reading.{bind_ok, ok_is, guard_ok, done, split_at, head_is}
use Rattle.p2p_discovery.specs.Laws.Reading.{tail_is, one_byte_front}
use Rattle.p2p_discovery.specs.Fields.{◌&◌, choice, IsSized, port_at}

-- ---- one field after another

pub IsBytes-after : (front rest : List ℕ) → IsBytes (front ++ rest) → IsBytes rest
IsBytes-after [] rest h = h
IsBytes-after (b ∷ front) rest h = IsBytes-after front rest (λ i. h (suc i))

pub lawful_both : {A B : Type 0} {r : List ℕ → Reading A} {s : List ℕ → Reading B} {sp : A → List ℕ}
    {sq : B → List ℕ} {P : A → Type 0} {Q : B → Type 0}
    → Lawful r sp P → Lawful s sq Q → Lawful (r & s) (λ p. sp p.0 ++ sq p.1) (λ p. P p.0 × Q p.1)
lawful_both {A = A} {B = B} {r = r} {s = s} {sp = sp} {sq = sq} {P = P} {Q = Q} l m = record {
  takes = λ bytes v rest fits e.
      let a = bind_ok (r bytes).outcome (λ x. s >>= λ y. reads (x, y)) (v, rest) e in
      let t = l.takes bytes a.0.0 a.0.1 fits a.1 in
      let fits2 : IsBytes a.0.1 = IsBytes-after (sp a.0.0) a.0.1 (subst IsBytes t.1 fits) in
      let b = bind_ok (s a.0.1).outcome (λ y. reads (a.0.0, y)) (v, rest) a.2 in
      let u = m.takes a.0.1 b.0.0 b.0.1 fits2 b.1 in
      let same : ◌≡◌ {A = (A × B) × List ℕ} ((a.0.0, b.0.0), b.0.1) (v, rest) =
      ok_is ((a.0.0, b.0.0), b.0.1) (v, rest) b.2 in
      let parts : bytes ≡ (sp a.0.0 ++ sq b.0.0) ++ b.0.1 =
      t.1 ∙ ap (λ (w : List ℕ). sp a.0.0 ++ w) u.1
      ∙ sym (append_assoc (sp a.0.0) (sq b.0.0) b.0.1) in
      subst
      (λ (w : (A × B) × List ℕ). (P w.0.0 × Q w.0.1) × (bytes ≡ (sp w.0.0 ++ sq w.0.1) ++ w.1))
      same ((t.0, u.0), parts);
  again = λ v rest a.
      let first = l.again v.0 (sq v.1 ++ rest) a.0 in
      let second = m.again v.1 rest a.1 in
      rw (append_assoc (sp v.0) (sq v.1) rest, first, second) refl;
  cut = λ v front rest a e some.
      elim (split_at (sp v.0) (sq v.1) front rest e) [
        | inl h ↦ rw (h.1, l.again v.0 h.0 a.0, m.cut v.1 h.0 rest a.1 h.2 some) refl
        | inr h ↦ rw (l.cut v.0 front h.0 a.0 h.1 h.2) refl
      ];
}

-- ---- the same values in another form

pub lawful_as : {A B : Type 0} {r : List ℕ → Reading A} {sp : A → List ℕ} {P : A → Type 0}
    (to : A → B) (from : B → A) (sq : B → List ℕ) (Q : B → Type 0)
    → ((a : A) → P a → Q (to a) × (sp a ≡ sq (to a)))
    → ((b : B) → Q b → (to (from b) ≡ b) × P (from b) × (sq b ≡ sp (from b)))
    → Lawful r sp P → Lawful (r >>= λ a. reads (to a)) sq Q
lawful_as {A = A} {B = B} {r = r} {sp = sp} {P = P} to from sq Q there back l = record {
  takes = λ bytes v rest fits e.
      let a = bind_ok (r bytes).outcome (λ x. reads (to x)) (v, rest) e in
      let t = l.takes bytes a.0.0 a.0.1 fits a.1 in
      let h = there a.0.0 t.0 in
      let same : ◌≡◌ {A = B × List ℕ} (to a.0.0, a.0.1) (v, rest) =
      ok_is (to a.0.0, a.0.1) (v, rest) a.2 in
      subst (λ (w : B × List ℕ). Q w.0 × (bytes ≡ sq w.0 ++ w.1)) same
      (h.0, t.1 ∙ ap (λ (w : List ℕ). w ++ a.0.1) h.1);
  again = λ v rest a.
      let h = back v a in
      rw (h.2, l.again (from v) rest h.1) (ap (λ (b : B). done (b, rest)) h.0);
  cut = λ v front rest a e some.
      let h = back v a in
      rw (l.cut (from v) front rest h.1 (sym h.2 ∙ e) some) refl;
}

-- the same, where each such value is made of some value that is read
pub lawful_made : {A B : Type 0} {r : List ℕ → Reading A} {sp : A → List ℕ} {P : A → Type 0}
    (to : A → B) (sq : B → List ℕ) (Q : B → Type 0)
    → ((a : A) → P a → Q (to a) × (sp a ≡ sq (to a)))
    → ((b : B) → Q b → (a : A) × (to a ≡ b) × P a × (sq b ≡ sp a))
    → Lawful r sp P → Lawful (r >>= λ a. reads (to a)) sq Q
lawful_made {A = A} {B = B} {r = r} {sp = sp} {P = P} to sq Q there back l = record {
  takes = λ bytes v rest fits e.
      let a = bind_ok (r bytes).outcome (λ x. reads (to x)) (v, rest) e in
      let t = l.takes bytes a.0.0 a.0.1 fits a.1 in
      let h = there a.0.0 t.0 in
      let same : ◌≡◌ {A = B × List ℕ} (to a.0.0, a.0.1) (v, rest) =
      ok_is (to a.0.0, a.0.1) (v, rest) a.2 in
      subst (λ (w : B × List ℕ). Q w.0 × (bytes ≡ sq w.0 ++ w.1)) same
      (h.0, t.1 ∙ ap (λ (w : List ℕ). w ++ a.0.1) h.1);
  again = λ v rest a.
      let h = back v a in
      rw (h.3, l.again h.0 rest h.2) (ap (λ (b : B). done (b, rest)) h.1);
  cut = λ v front rest a e some.
      let h = back v a in
      rw (l.cut h.0 front rest h.2 (sym h.3 ∙ e) some) refl;
}

-- one of two readers, by a test
pub lawful_if : {A : Type 0} {r s : List ℕ → Reading A} {sp : A → List ℕ} {P : A → Type 0}
    (t : Bool) → (t ≡ true → Lawful r sp P) → (t ≡ false → Lawful s sp P)
    → Lawful (λ bytes. cond t (r bytes) (s bytes)) sp P
lawful_if true l m = l refl
lawful_if false l m = m refl

-- nothing is read where no value is meant
pub lawful_none : {A : Type 0} {sp : A → List ℕ} {P : A → Type 0} (fault : CodecError)
    → ((v : A) → P v → ⊥) → Lawful (refuses fault) sp P
lawful_none fault none = record {
  takes = λ bytes v rest fits e. absurd cc;
  again = λ v rest a. absurd (none v a);
  cut = λ v front rest a e some. absurd (none v a);
}

-- one byte
pub lawful_byte : Lawful byte_at (λ b. b ∷ []) (λ b. b < 256)
lawful_byte = record {
  takes = elim [
    | [] ↦ λ v rest fits e. absurd cc
    | b ∷ bytes ↦
        λ v rest fits e. subst (λ (w : ℕ × List ℕ). (w.0 < 256) × (b ∷ bytes ≡ w.0 ∷ w.1))
        (ok_is (b, bytes) (v, rest) e) (fits 0, refl)
  ];
  again = λ v rest a. refl;
  cut = λ v. elim [
    | [] ↦ λ rest a e some. refl
    | b ∷ front ↦ λ rest a e some. absurd (one_byte_front v b front rest e some)
  ];
}

-- ---- one of two forms, behind a first byte

pub chosen : {A : Type 0} (b : Bool) (x y : Reading A) (z : Result (A × List ℕ) CodecError)
    → (cond b x y).outcome ≡ z → ((b ≡ true) × (x.outcome ≡ z)) ⊎ ((b ≡ false) × (y.outcome ≡ z))
chosen true x y z e = inl (refl, e)
chosen false x y z e = inr (refl, e)

when_true : {A : Type 0} (b : Bool) (x y : A) → b ≡ true → cond b x y ≡ x
when_true b x y e = rw e refl

when_false : {A : Type 0} (b : Bool) (x y : A) → b ≡ false → cond b x y ≡ y
when_false b x y e = rw e refl

pub lawful_choice : {A : Type 0} {r s : List ℕ → Reading A} {sp sq : A → List ℕ} {P Q : A → Type 0}
    (t u : ℕ) (so : A → List ℕ) (Either : A → Type 0)
    → (eqb u t ≡ false)
    → ((v : A) → P v → Either v × (so v ≡ t ∷ sp v))
    → ((v : A) → Q v → Either v × (so v ≡ u ∷ sq v)) → ((v : A) → Either v → P v ⊎ Q v)
    → Lawful r sp P → Lawful s sq Q → Lawful (choice t r u s) so Either
lawful_choice {A = A} {r = r} {s = s} {sp = sp} {sq = sq} t u so Either differ left right either l
    m = record {
      takes = elim [
        | [] ↦ λ v rest fits e. absurd cc
        | b ∷ bytes ↦ λ v rest fits e.
            let after : IsBytes bytes = λ i. fits (suc i) in
            let other = cond (eqb b u) (s bytes) (refuses (InvalidEnum b) bytes) in
            elim (chosen (eqb b t) (r bytes) other (Ok (v, rest)) e) [
              | inl h ↦
                  let k = l.takes bytes v rest after h.1 in
                  let g = left v k.0 in
                  (g.0, rw (g.1, eqb-true b t h.0) (ap (λ (w : List ℕ). t ∷ w) k.1))
              | inr h ↦
                  let refused = refuses (InvalidEnum b) bytes in
                  elim (chosen (eqb b u) (s bytes) refused (Ok (v, rest)) h.1) [
                    | inl i ↦
                        let k = m.takes bytes v rest after i.1 in
                        let g = right v k.0 in
                        (g.0, rw (g.1, eqb-true b u i.0) (ap (λ (w : List ℕ). u ∷ w) k.1))
                    | inr i ↦ absurd (let f = i.1 in cc)
                  ]
            ]
      ];
      again = λ v rest a.
          elim (either v a) [
            | inl p ↦
                let g = left v p in
                rw g.1
                (ap (λ (x : Reading A). x.outcome)
                (when_true (eqb t t) (r (sp v ++ rest))
                (cond (eqb t u) (s (sp v ++ rest)) (refuses (InvalidEnum t) (sp v ++ rest)))
                (eq-eqb t t refl)) ∙ l.again v rest p)
            | inr q ↦
                let g = right v q in
                rw g.1
                (ap (λ (x : Reading A). x.outcome)
                (when_false (eqb u t) (r (sq v ++ rest))
                (cond (eqb u u) (s (sq v ++ rest)) (refuses (InvalidEnum u) (sq v ++ rest)))
                differ
                ∙ when_true (eqb u u) (s (sq v ++ rest)) (refuses (InvalidEnum u) (sq v ++ rest))
                (eq-eqb u u refl)) ∙ m.again v rest q)
          ];
      cut = λ v. elim [
        | [] ↦ λ rest a e some. refl
        | b ∷ front ↦ λ rest a e some.
            elim (either v a) [
              | inl p ↦
                  let k = sym (left v p).1 ∙ e in
                  rw (← head_is t b (sp v) (front ++ rest) k)
                  (ap (λ (x : Reading A). x.outcome)
                  (when_true (eqb t t) (r front)
                  (cond (eqb t u) (s front) (refuses (InvalidEnum t) front)) (eq-eqb t t refl))
                  ∙ l.cut v front rest p (tail_is t b (sp v) (front ++ rest) k) some)
              | inr q ↦
                  let k = sym (right v q).1 ∙ e in
                  rw (← head_is u b (sq v) (front ++ rest) k)
                  (ap (λ (x : Reading A). x.outcome)
                  (when_false (eqb u t) (r front)
                  (cond (eqb u u) (s front) (refuses (InvalidEnum u) front)) differ
                  ∙ when_true (eqb u u) (s front) (refuses (InvalidEnum u) front) (eq-eqb u u refl))
                  ∙ m.cut v front rest q (tail_is u b (sq v) (front ++ rest) k) some)
            ]
      ];
    }

-- ---- fields of a fixed number of bytes

cut_short : (v front rest : List ℕ) (n : ℕ) → length v ≡ n → v ≡ front ++ rest → 0 < length rest
    → (counted_at n front).outcome ≡ Err EndOfBuffer
cut_short v front rest n a e some =
    rw (lt-ltb (length front) n (omega (arith, ap length e, length-append front rest, a))) refl

IsBytes-take : (n : ℕ) (bytes : List ℕ) → IsBytes bytes → IsBytes (take n bytes)
IsBytes-take n bytes h i =
    elim (cases_lt i n) [
      | inl lt ↦ rw (get_or-take n bytes i 0 lt) (h i)
      | inr le ↦
          rw (get_or_past (take n bytes) i 0 (omega (arith, length-take n bytes))) (omega arith)
    ]

pub lawful_counted : (n : ℕ) → Lawful (counted_at n) (λ b. b) (IsSized n)
lawful_counted n = record {
  takes = λ bytes v rest fits e.
      let g = guard_ok (ltb (length bytes) n) EndOfBuffer (take n bytes) (drop n bytes) v rest e in
      let long : n ≤ length bytes = ltb-false _ _ g.0 in
      let k : length (take n bytes) ≡ n = omega (arith, length-take n bytes) in
      rw (← g.1, ← g.2) ((k, IsBytes-take n bytes fits), sym (take-append-drop n bytes));
  again = λ v rest a.
      let long : ltb (length (v ++ rest)) n ≡ false =
      le-ltb _ _ (omega (arith, length-append v rest, a.0)) in
      rw (long, take_at v rest n a.0, drop_at v rest n a.0) refl;
  cut = λ v front rest a e some. cut_short v front rest n a.0 e some;
}

two_bytes : (a b : ℕ) → a < 256 → b < 256 → IsBytes (a ∷ b ∷ [])
two_bytes a b p q zero = p
two_bytes a b p q (suc zero) = q
two_bytes a b p q (suc (suc i)) = omega arith

pub lawful_port : Lawful port_at (to_be_bytes w16) (λ n. n < 2 ^ 16)
lawful_port =
    lawful_as (from_be_bytes w16) (to_be_bytes w16) (to_be_bytes w16) (λ n. n < 2 ^ 16)
    (λ b h. (omega (arith, h.1 0, h.1 1), sym (be_bytes_2 b _ h.0 h.1 refl)))
    (λ n h. (
      from_be_bytes-to_be_bytes_2 n h,
      (refl, two_bytes (n / 256 % 256) (n % 256) (omega arith) (omega arith)),
      refl,
    ))
    (lawful_counted 2)

-- ---- values without limits

pub lawful_unlimited : {A : Type 0} {r : List ℕ → Reading A} {sp : A → List ℕ} {P : A → Type 0}
    → Lawful r sp P → Lawful r sp (λ v. P v × Unit {0})
lawful_unlimited l = record {
  takes = λ bytes v rest fits e. let t = l.takes bytes v rest fits e in ((t.0, tt), t.1);
  again = λ v rest a. l.again v rest a.0;
  cut = λ v front rest a e some. l.cut v front rest a.0 e some;
}

-- ---- a part that a first field says the size of

pub lawful_sized : {A : Type 0} {r : List ℕ → Reading ℕ} {sp : ℕ → List ℕ} {IsSize : ℕ → Type 0}
    {part : ℕ → List ℕ → Reading A} {sq : A → List ℕ} {P : A → Type 0} (size : A → ℕ)
    → Lawful r sp IsSize → ((n : ℕ) → IsSize n → Lawful (part n) sq (λ v. P v × (size v ≡ n)))
    → Lawful (r >>= part) (λ v. sp (size v) ++ sq v) (λ v. P v × IsSize (size v))
lawful_sized {r = r} {sp = sp} {IsSize = IsSize} {part = part} {sq = sq} {P = P} size l m = record {
  takes = λ bytes v rest fits e.
      let a = bind_ok (r bytes).outcome part (v, rest) e in
      let t = l.takes bytes a.0.0 a.0.1 fits a.1 in
      let u =
      (m a.0.0 t.0).takes a.0.1 v rest (IsBytes-after (sp a.0.0) a.0.1 (subst IsBytes t.1 fits))
      a.2 in (
        (u.0.0, subst IsSize (sym u.0.1) t.0),
        t.1 ∙ rw (u.1, ← u.0.1) (sym (append_assoc (sp (size v)) (sq v) rest)),
      );
  again = λ v rest a.
      rw (append_assoc (sp (size v)) (sq v) rest, l.again (size v) (sq v ++ rest) a.1)
      ((m (size v) a.1).again v rest (a.0, refl));
  cut = λ v front rest a e some.
      elim (split_at (sp (size v)) (sq v) front rest e) [
        | inl h ↦
            rw (h.1, l.again (size v) h.0 a.1)
            ((m (size v) a.1).cut v h.0 rest (a.0, refl) h.2 some)
        | inr h ↦ rw (l.cut (size v) front h.0 a.1 h.1 h.2) refl
      ];
}

-- ---- values that pass a test, and values that take memory

pub lawful_checked : {A : Type 0} {r : List ℕ → Reading A} {sp : A → List ℕ} {P : A → Type 0}
    (grows : Bool) (test : A → Bool) (fault : A → CodecError) → Lawful r sp P
    → Lawful (r >>= checked grows test fault) sp (λ v. (test v ≡ true) × P v)
lawful_checked {A = A} {r = r} {sp = sp} {P = P} grows test fault l = record {
  takes = λ bytes v rest fits e.
      let a = bind_ok (r bytes).outcome (checked grows test fault) (v, rest) e in
      let t = l.takes bytes a.0.0 a.0.1 fits a.1 in
      elim (chosen (test a.0.0) (takes_memory grows a.0.0 a.0.1) (refuses (fault a.0.0) a.0.1)
      (Ok (v, rest)) a.2) [
        | inl h ↦
            subst (λ (w : A × List ℕ). ((test w.0 ≡ true) × P w.0) × (bytes ≡ sp w.0 ++ w.1))
            (ok_is (a.0.0, a.0.1) (v, rest) h.1) ((h.0, t.0), t.1)
        | inr h ↦ absurd (let i = h.1 in cc)
      ];
  again = λ v rest a.
      ap (λ o. outcome_then o (checked grows test fault)) (l.again v rest a.1)
      ∙ ap (λ (b : Bool). (cond b (takes_memory grows v rest) (refuses (fault v) rest)).outcome)
      a.0;
  cut = λ v front rest a e some. rw (l.cut v front rest a.1 e some) refl;
}

pub lawful_kept : {A : Type 0} {r : List ℕ → Reading A} {sp : A → List ℕ} {P : A → Type 0}
    (grows : Bool) → Lawful r sp P → Lawful (r >>= takes_memory grows) sp P
lawful_kept {A = A} {r = r} {sp = sp} {P = P} grows l = record {
  takes = λ bytes v rest fits e.
      let a = bind_ok (r bytes).outcome (takes_memory grows) (v, rest) e in
      let t = l.takes bytes a.0.0 a.0.1 fits a.1 in
      subst (λ (w : A × List ℕ). P w.0 × (bytes ≡ sp w.0 ++ w.1))
      (ok_is (a.0.0, a.0.1) (v, rest) a.2) t;
  again = λ v rest a. rw (l.again v rest a) refl;
  cut = λ v front rest a e some. rw (l.cut v front rest a e some) refl;
}

-- ---- bytes of which nothing else is asked than how many they are

pub lawful_part : (n : ℕ) → Lawful (counted_at n) (λ b. b) (λ b. Unit {0} × (length b ≡ n))
lawful_part n = record {
  takes =
      λ bytes v rest fits e. let t = (lawful_counted n).takes bytes v rest fits e in
      ((tt, t.0.0), t.1);
  again = λ v rest a.
      let long : ltb (length (v ++ rest)) n ≡ false =
      le-ltb _ _ (omega (arith, length-append v rest, a.1)) in
      rw (long, take_at v rest n a.1, drop_at v rest n a.1) refl;
  cut = λ v front rest a e some. cut_short v front rest n a.1 e some;
}

-- ---- the same values in other words

pub lawful_same : {A : Type 0} {r : List ℕ → Reading A} {sp : A → List ℕ} {P Q : A → Type 0}
    → ((v : A) → P v → Q v) → ((v : A) → Q v → P v) → Lawful r sp P → Lawful r sp Q
lawful_same there back l = record {
  takes = λ bytes v rest fits e. let t = l.takes bytes v rest fits e in (there v t.0, t.1);
  again = λ v rest a. l.again v rest (back v a);
  cut = λ v front rest a e some. l.cut v front rest (back v a) e some;
}
