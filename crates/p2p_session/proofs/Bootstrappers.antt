-- Bootstrappers, as they are read one after the other.
use Rattle.std.proofs.Common.{◌≡◌, ◌≢◌, ℕ, List, [], ◌∷◌, ◌++◌, length, drop, sym, ap, ◌∙◌, ◌<◌, ◌+◌, refl, arith}
use Rattle.std.proofs.Common.{append_assoc, ◌⊎◌, inl, inr, Bool, true, false, ◌==◌}
use Rattle.std.proofs.Math.Seq.{drop-append_seam}
use Rattle.std.proofs.lemmas.List.{append-nil, length-append}
use Rattle.std.proofs.lemmas.Grind.{flat_map-append}
use Rattle.std.specs.List.{AllByRecursion}
use Rattle.p2p_discovery.specs.declared.codec.error.CodecError.{CodecError}
use Rattle.p2p_discovery.specs.declared.codec.error.CodecError.TheVariants as codec
use Rattle.p2p_discovery.specs.declared.types.ingress.Ingress.{Ingress}
use Rattle.p2p_discovery.specs.Ingress.{ingress_spelling}
use Rattle.p2p_session.specs.declared.refusal.Refusal.{Refusal}
use Rattle.p2p_session.specs.declared.refusal.Refusal.TheVariants.{Memory, BadInfo}
use Rattle.p2p_session.specs.Given.{IsBootstrapper, SpellBootstrappers, bootstrapper_spelling, bootstrappers_spelling}
use Rattle.p2p_discovery.specs.Fixed.{IsFixed}
use Rattle.p2p_session.specs.Schemes.{Scheme}

pub some_left : {b : Bool} {l : List ℕ} → b ≡ (length l == 0) → b ≡ false → l ≡ [] → ⊥
some_left e f z = let t : false ≡ true = sym f ∙ e ∙ ap (λ (l : List ℕ). length l == 0) z in cc

-- .. and of the bytes that they end, some are
pub some_bytes : (left front : List ℕ) {bytes : List ℕ} → (left ≡ [] → ⊥) → front ++ left ≡ bytes → 0 < length bytes
some_bytes [] front some is = absurd (some refl)
some_bytes (b ∷ left) front some is =
    omega (arith, ap (λ (l : List ℕ). length l) is, length-append front (b ∷ left))

-- one more, behind those before
pub all_with : {A : Type 0} (P : A → Type 0) (xs : List A) (x : A) → AllByRecursion P xs → P x → AllByRecursion P (xs ++ x ∷ [])
all_with P [] x all is = (is, tt)
all_with P (y ∷ ys) x all is = (all.0, all_with P ys x all.1 is)

module _ {C S : Type 0} (k : Scheme C S)
    (key_laws : IsFixed k.key.SIZE k.key.spelled k.key.value k.key.IsValue) where
  -- bytes that begin with no bootstrapper spell none, where there are some
  pub none_begins : (left : List ℕ) → (left ≡ [] → ⊥) → ((b : C × Ingress) (rest : List ℕ) → IsBootstrapper k b → ¬ (left ≡ bootstrapper_spelling k b ++ rest)) →
      ¬ SpellBootstrappers k left
  none_begins left some none ([], all, e) = some (sym e)
  none_begins left some none (b ∷ bs, all, e) = none b (bootstrappers_spelling k bs) all.0 (sym e)

  -- what is left behind the first spells the others
  pub others_spelled : (left new : List ℕ) → (left ≡ [] → ⊥) →
      ((b : C × Ingress) (rest : List ℕ) → IsBootstrapper k b → left ≡ bootstrapper_spelling k b ++ rest → new ≡ rest) →
      SpellBootstrappers k left → SpellBootstrappers k new
  others_spelled left new some only ([], all, e) = absurd (some (sym e))
  others_spelled left new some only (b ∷ bs, all, e) =
      (bs, all.1, sym (only b (bootstrappers_spelling k bs) all.0 (sym e)))

  -- bytes that begin with no key begin with no bootstrapper
  pub no_key : (left : List ℕ) → ((key : C) (rest : List ℕ) → k.key.IsValue key → ¬ (left ≡ k.key.spelled key ++ rest)) →
      (b : C × Ingress) (rest : List ℕ) → IsBootstrapper k b → ¬ (left ≡ bootstrapper_spelling k b ++ rest)
  no_key left none b rest is e =
      none b.0 (ingress_spelling b.1 ++ rest) is.0
      (e ∙ append_assoc (k.key.spelled b.0) (ingress_spelling b.1) rest)

  -- .. behind its key is its ingress
  pub behind_key : (left : List ℕ) (key : C) (behind : List ℕ) (b : C × Ingress) (rest : List ℕ) →
      left ≡ k.key.spelled key ++ behind → IsBootstrapper k b → left ≡ bootstrapper_spelling k b ++ rest →
      behind ≡ ingress_spelling b.1 ++ rest
  behind_key left key behind b rest e is e2 =
      sym (drop-append_seam (k.key.spelled key) behind)
      ∙ ap (λ n. drop n (k.key.spelled key ++ behind)) (key_laws.len key ∙ sym (key_laws.len b.0))
      ∙ ap (λ l. drop (length (k.key.spelled b.0)) l) (sym e ∙ e2 ∙ append_assoc (k.key.spelled b.0) (ingress_spelling b.1) rest)
      ∙ drop-append_seam (k.key.spelled b.0) (ingress_spelling b.1 ++ rest)

  pub spelled_with : (bs : List (C × Ingress)) (b : C × Ingress) (new left bytes : List ℕ) →
      left ≡ bootstrapper_spelling k b ++ new → bootstrappers_spelling k bs ++ left ≡ bytes →
      bootstrappers_spelling k (bs ++ b ∷ []) ++ new ≡ bytes
  spelled_with bs b new left bytes e before =
      ap (λ l. l ++ new) (flat_map-append (bootstrapper_spelling k) bs (b ∷ []))
      ∙ append_assoc (bootstrappers_spelling k bs) (bootstrapper_spelling k b ++ []) new
      ∙ ap (λ l. bootstrappers_spelling k bs ++ (l ++ new)) (append-nil (bootstrapper_spelling k b))
      ∙ ap (λ l. bootstrappers_spelling k bs ++ l) (sym e) ∙ before

  -- .. where it is no want of memory
  pub unread : {why : Refusal} {fault : CodecError} {left : List ℕ} → ((why ≡ Memory) × (fault ≡ codec.Memory)) ⊎ ((why ≡ BadInfo) × (fault ≢ codec.Memory)) →
      ((b : C × Ingress) (rest : List ℕ) → IsBootstrapper k b → left ≡ bootstrapper_spelling k b ++ rest → fault ≡ codec.Memory) →
      (why ≡ Memory) ⊎ ((why ≡ BadInfo) × ((b : C × Ingress) (rest : List ℕ) → IsBootstrapper k b → ¬ (left ≡ bootstrapper_spelling k b ++ rest)))
  unread (inl memory) only = inl memory.0
  unread (inr other) only = inr (other.0, λ b rest is e. other.1 (only b rest is e))

  -- why none is read, where one is not
  pub none_read : {why : Refusal} (left bytes : List ℕ) → (left ≡ [] → ⊥) → 0 < length bytes → (SpellBootstrappers k bytes → SpellBootstrappers k left) →
      (why ≡ Memory) ⊎ ((why ≡ BadInfo) × ((b : C × Ingress) (rest : List ℕ) → IsBootstrapper k b → ¬ (left ≡ bootstrapper_spelling k b ++ rest))) →
      ((why ≡ Memory) × (0 < length bytes)) ⊎ ((why ≡ BadInfo) × (¬ SpellBootstrappers k bytes))
  none_read left bytes some any back (inl memory) = inl (memory, any)
  none_read left bytes some any back (inr none) = inr (none.0, λ spelled. none_begins left some none.1 (back spelled))
