-- Keys, as they are read one after the other.
use Rattle.std.proofs.Common.{◌≡◌, ℕ, ◌+◌, ◌*◌, ◌/◌, ◌≤◌, ◌<◌, List, [], ◌∷◌, ◌++◌, length, drop, take, sym, ap, ◌∙◌, arith, refl, zero, suc}
use Rattle.std.proofs.Math.Nat.{le-div_iff_mul-le}
use Rattle.std.proofs.Math.Seq.{drop-append_seam, take-add, take-append_seam}
use Rattle.std.proofs.lemmas.List.{append-nil, length-take-le, length-drop, take-append-drop, drop-drop}
use Rattle.std.proofs.lemmas.Grind.{flat_map-append}
use Rattle.std.specs.Prelude.{Option, Some, None, IfSome}
use Rattle.p2p_discovery.specs.Reading.{IsBytes}
use Rattle.p2p_discovery.specs.Fixed.{IsFixed}
use Rattle.p2p_session.specs.Answers.{keys_bytes}
use Rattle.p2p_session.specs.Given.{AreKeys, AreKeysOf}
use Rattle.p2p_session.specs.Schemes.{Scheme}
use Rattle.p2p_session.proofs.Bootstrappers.{all_with}

-- there is room for one key more, where there is for as many as fit the bytes
pub one_more_fits : (size count at total room : ℕ) → 0 < size → count * size ≡ at → at + size ≤ total →
    total / size ≤ room → count < room
one_more_fits size count at total room positive is fits most =
    let k : count + 1 ≤ total / size = (le-div_iff_mul-le positive).1 (omega (arith, is, fits)) in
    omega (arith, k, most)

-- bytes are left behind a place before their end
pub some_behind : (bytes : List ℕ) (at : ℕ) → at < length bytes → drop at bytes ≡ [] → ⊥
some_behind bytes at inside none =
    omega (arith, inside, length-drop at bytes, ap (λ (l : List ℕ). length l) none)

module _ {C S : Type 0} (k : Scheme C S)
    (key_laws : IsFixed k.key.SIZE k.key.spelled k.key.value k.key.IsValue) where
  -- keys of no bytes are no bytes
  pub none_of_none : (bytes : List ℕ) → k.key.SIZE ≡ 0 → AreKeys k bytes → bytes ≡ []
  none_of_none bytes none (keys, are) = sym are.1 ∙ go keys
    where
      empty : (l : List ℕ) → length l ≡ 0 → l ≡ []
      empty [] h = refl
      empty (b ∷ l) h = absurd (omega (arith, h))

      go : (keys : List C) → keys_bytes k keys ≡ []
      go [] = refl
      go (key ∷ keys) = ap (λ l. l ++ keys_bytes k keys) (empty (k.key.spelled key) (key_laws.len key ∙ none)) ∙ go keys

  -- so a key has bytes, if there are bytes that are keys
  pub some_size : (bytes : List ℕ) → (bytes ≡ [] → ⊥) → AreKeys k bytes → 0 < k.key.SIZE
  some_size bytes some are = go k.key.SIZE refl
    where
      go : (n : ℕ) → k.key.SIZE ≡ n → 0 < n
      go zero e = absurd (some (none_of_none bytes e are))
      go (suc n) e = omega arith

  -- bytes that are keys begin with one
  pub begin_with_one : (bytes : List ℕ) → (bytes ≡ [] → ⊥) → AreKeys k bytes →
      ((key : C) (rest : List ℕ) → k.key.IsValue key → ¬ (bytes ≡ k.key.spelled key ++ rest)) → ⊥
  begin_with_one bytes some ([], are) none = some (sym are.1)
  begin_with_one bytes some (key ∷ keys, are) none = none key (keys_bytes k keys) are.0.0 (sym are.1)

  -- what is behind the first are keys
  pub behind_one : (bytes rest : List ℕ) (key : C) → (bytes ≡ [] → ⊥) → bytes ≡ k.key.spelled key ++ rest →
      AreKeys k bytes → AreKeys k rest
  behind_one bytes rest key some is ([], are) = absurd (some (sym are.1))
  behind_one bytes rest key some is (first ∷ keys, are) = (
    keys,
    (
      are.0.1,
      sym (drop-append_seam (k.key.spelled first) (keys_bytes k keys))
          ∙ ap (λ l. drop (length (k.key.spelled first)) l) (are.1 ∙ is)
          ∙ ap (λ n. drop n (k.key.spelled key ++ rest)) (key_laws.len first ∙ sym (key_laws.len key))
          ∙ drop-append_seam (k.key.spelled key) rest,
    ),
  )

  -- one more, behind those before
  pub one_more : (before after : List ℕ) (keys : List C) (key : C) → AreKeysOf k before keys → k.key.IsValue key →
      after ≡ before ++ k.key.spelled key → AreKeysOf k after (keys ++ key ∷ [])
  one_more before after keys key are is e = (
    all_with k.key.IsValue keys key are.0 is,
    flat_map-append k.key.spelled keys (key ∷ [])
        ∙ ap (λ l. keys_bytes k keys ++ l) (append-nil (k.key.spelled key))
        ∙ ap (λ l. l ++ k.key.spelled key) are.1 ∙ sym e,
  )

  -- the bytes before a place, and one key more
  pub taken : (bytes : List ℕ) (at : ℕ) (key : C) → drop at bytes ≡ k.key.spelled key ++ drop (at + k.key.SIZE) bytes →
      take (at + k.key.SIZE) bytes ≡ take at bytes ++ k.key.spelled key
  taken bytes at key e =
      take-add at k.key.SIZE bytes
      ∙ ap (λ l. take at bytes ++ take k.key.SIZE l) e
      ∙ ap (λ n. take at bytes ++ take n (k.key.spelled key ++ drop (at + k.key.SIZE) bytes)) (sym (key_laws.len key))
      ∙ ap (λ l. take at bytes ++ l) (take-append_seam (k.key.spelled key) (drop (at + k.key.SIZE) bytes))

  -- ---- the key that bytes begin with

  module _ (bytes front : List ℕ) (at : ℕ) (long : at + k.key.SIZE ≤ length bytes)
      (is_front : front ≡ take k.key.SIZE (drop at bytes)) (are_bytes : IsBytes front) where
    sized : length front ≡ k.key.SIZE
    sized =
        ap (λ (l : List ℕ). length l) is_front
        ∙ length-take-le k.key.SIZE (drop at bytes) (omega (arith, long, length-drop at bytes))

    both : drop at bytes ≡ front ++ drop (at + k.key.SIZE) bytes
    both =
        sym (take-append-drop k.key.SIZE (drop at bytes))
        ∙ ap (λ l. l ++ drop k.key.SIZE (drop at bytes)) (sym is_front)
        ∙ ap (λ l. front ++ l) (drop-drop k.key.SIZE at bytes)

    pub key_read : (o : Option C) → o ≡ k.key.value front →
        IfSome o (λ key. (at + k.key.SIZE ≤ length bytes) × k.key.IsValue key × (drop at bytes ≡ k.key.spelled key ++ drop (at + k.key.SIZE) bytes))
    key_read None e = tt
    key_read (Some key) e =
        let it = key_laws.only front key (sized, are_bytes) (sym e) in
        (long, it.0, both ∙ ap (λ l. l ++ drop (at + k.key.SIZE) bytes) (sym it.1))
