-- Lists are read by their spelling.
use Rattle.std.proofs.Common.{◌≡◌, ℕ, zero, suc, ◌<◌, ◌^◌, true, List, [], ◌∷◌, ◌++◌}
use Rattle.std.proofs.Common.{length, Ok, Err, refl, sym, ap, subst, ◌∙◌, append_assoc, arith, inl}
use Rattle.std.proofs.Common.{inr}
use Rattle.std.specs.List.{AllByRecursion}
use Rattle.std.proofs.lemmas.List.{length-append}
use Rattle.p2p_discovery.specs.declared.codec.error.CodecError.TheVariants.{EndOfBuffer}
use Rattle.p2p_discovery.specs.declared.codec.error.RangeCfg.{RangeCfg}
use Rattle.p2p_discovery.specs.Reading.{Reading, ◌>>=◌, reads, is_within, Lawful, IsBytes}
use Rattle.p2p_discovery.specs.Reading.{outcome_then}
use Rattle.p2p_discovery.specs.Laws.Reading.{bind_ok, ok_is, split_at}
use Rattle.p2p_discovery.specs.Laws.Fields.{IsBytes-after, lawful_sized}
use Rattle.p2p_discovery.specs.Laws.Counted.{lawful_length}
use Rattle.p2p_discovery.specs.Lists.{spellings, list_spelling, elems, items_at, list_at}

elems_take : {A : Type 0} {r : List ℕ → Reading A} {sp : A → List ℕ} {P : A → Type 0}
    (law : Lawful r sp P) (n : ℕ) (bytes : List ℕ) (x : List A × List ℕ) → IsBytes bytes
    → (elems r n bytes).outcome ≡ Ok x
    → (bytes ≡ spellings sp x.0 ++ x.1) × (length x.0 ≡ n) × AllByRecursion P x.0
unfolding elems spellings
elems_take {A = A} {r = r} {sp = sp} {P = P} law zero bytes x fits e =
    subst
    (λ (y : List A × List ℕ). (bytes ≡ spellings sp y.0 ++ y.1) × (length y.0 ≡ 0)
    × AllByRecursion P y.0) (ok_is ([], bytes) x e) (refl, refl, tt)
elems_take {A = A} {r = r} {sp = sp} {P = P} law (suc n) bytes x fits e =
    let a = bind_ok (r bytes).outcome (λ x. elems r n >>= λ xs. reads (x ∷ xs)) x e in
    let t = law.takes bytes a.0.0 a.0.1 fits a.1 in
    let b = bind_ok (elems r n a.0.1).outcome (λ xs. reads (a.0.0 ∷ xs)) x a.2 in
    let u =
    elems_take law n a.0.1 b.0 (IsBytes-after (sp a.0.0) a.0.1 (subst IsBytes t.1 fits)) b.1 in
    subst
    (λ (y : List A × List ℕ). (bytes ≡ spellings sp y.0 ++ y.1) × (length y.0 ≡ suc n)
    × AllByRecursion P y.0) (ok_is (a.0.0 ∷ b.0.0, b.0.1) x b.2) (
      t.1 ∙ ap (λ (w : List ℕ). sp a.0.0 ++ w) u.0
          ∙ sym (append_assoc (sp a.0.0) (spellings sp b.0.0) b.0.1),
      ap suc u.1,
      (t.0, u.2),
    )

elems_again : {A : Type 0} {r : List ℕ → Reading A} {sp : A → List ℕ} {P : A → Type 0}
    (law : Lawful r sp P) (xs : List A) (rest : List ℕ) → AllByRecursion P xs
    → (elems r (length xs) (spellings sp xs ++ rest)).outcome ≡ Ok (xs, rest)
unfolding elems spellings
elems_again law [] rest h = refl
elems_again {r = r} {sp = sp} law (x ∷ xs) rest h =
    let first : (r ((sp x ++ spellings sp xs) ++ rest)).outcome ≡ Ok (x, spellings sp xs ++ rest) =
    rw (append_assoc (sp x) (spellings sp xs) rest)
    (law.again x (spellings sp xs ++ rest) h.0) in
    ap (λ o. outcome_then o (λ x. elems r (length xs) >>= λ xs. reads (x ∷ xs))) first
    ∙ ap (λ o. outcome_then o (λ xs. reads (x ∷ xs))) (elems_again law xs rest h.1)

elems_cut : {A : Type 0} {r : List ℕ → Reading A} {sp : A → List ℕ} {P : A → Type 0}
    (law : Lawful r sp P) (xs : List A) (front rest : List ℕ) → AllByRecursion P xs
    → spellings sp xs ≡ front ++ rest → 0 < length rest
    → (elems r (length xs) front).outcome ≡ Err EndOfBuffer
unfolding elems spellings
elems_cut law [] front rest h e some = absurd (omega (arith, ap length e, length-append front rest))
elems_cut {r = r} {sp = sp} law (x ∷ xs) front rest h e some =
    elim (split_at (sp x) (spellings sp xs) front rest e) [
      | inl s ↦ rw (s.1, law.again x s.0 h.0, elems_cut law xs s.0 rest h.1 s.2 some) refl
      | inr s ↦ rw (law.cut x front s.0 h.0 s.1 s.2) refl
    ]

lawful_items : {A : Type 0} {r : List ℕ → Reading A} {sp : A → List ℕ} {P : A → Type 0}
    (least n : ℕ) → Lawful r sp P
    → Lawful (items_at least r n) (spellings sp) (λ xs. AllByRecursion P xs × (length xs ≡ n))
unfolding items_at
lawful_items {A = A} {r = r} {sp = sp} {P = P} least n law = record {
  takes =
      λ bytes v rest fits e. let u = elems_take law n bytes (v, rest) fits e in ((u.2, u.1), u.0);
  again =
      λ v rest a. subst (λ k. (elems r k (spellings sp v ++ rest)).outcome ≡ Ok (v, rest)) a.1
      (elems_again law v rest a.0);
  cut =
      λ v front rest a e some. subst (λ k. (elems r k front).outcome ≡ Err EndOfBuffer) a.1
      (elems_cut law v front rest a.0 e some);
}

pub lawful_list : {A : Type 0} {r : List ℕ → Reading A} {sp : A → List ℕ} {P : A → Type 0}
    (limit : RangeCfg) (least : ℕ) → Lawful r sp P
    → Lawful (list_at limit least r) (list_spelling sp)
    (λ xs. AllByRecursion P xs × ((is_within limit (length xs) ≡ true) × (length xs < 2 ^ 32)))
unfolding list_at
lawful_list limit least law =
    lawful_sized length (lawful_length limit) (λ n _. lawful_items least n law)
