-- What stands in a room once parts were put into it one after the other.
use Rattle.std.proofs.Common.{◌*◌, ◌≡◌, ℕ, ◌+◌, ◌≤◌, ◌<◌, List, [], ◌∷◌, ◌++◌, length, take, drop, refl, sym, ap, ◌∙◌, subst, arith, add_assoc, get_or, zero, suc}
use Rattle.std.specs.Prelude.{flat_map, map}
use Rattle.std.proofs.lemmas.List.{length-take-le, length-append, append-nil, drop-drop}
use Rattle.std.proofs.lemmas.List.Folds.{length-flat_map-take}
use Rattle.std.proofs.lemmas.Grind.{common_steps}
use Rattle.std.proofs.Math.Seq.{take-append-add, drop-append-add, take-append_seam}
use Rattle.p2p_discovery.specs.declared.discovery.Info.{Info}
use Rattle.p2p_discovery.specs.Ingress.{ingress_spelling}
use Rattle.p2p_discovery.specs.Judgement.{signed_bytes}
use Rattle.p2p_discovery.specs.Lists.{spellings}
use Rattle.p2p_discovery.specs.Info.{infos_spelling}
use Rattle.p2p_discovery.specs.Varint.{varint32, varint64}
use Rattle.p2p_session.specs.Answers.{keys_bytes, number, asked_bytes, info_bytes, put_at}
use Rattle.p2p_discovery.specs.Fixed.{IsFixed}
use Rattle.p2p_session.specs.Schemes.{Scheme}

append_assoc : (xs ys zs : List ℕ) → (xs ++ ys) ++ zs ≡ xs ++ (ys ++ zs)
append_assoc xs ys zs = grind (arith, common_steps)

take_two : (fs xs rs : List ℕ) → take (length fs + length xs) (fs ++ (xs ++ rs)) ≡ fs ++ xs
take_two fs xs rs =
    take-append-add fs (xs ++ rs) (length xs) ∙ ap (λ l. fs ++ l) (take-append_seam xs rs)

drop_two : (fs xs rs : List ℕ) (n : ℕ) → drop (length fs + length xs + n) (fs ++ (xs ++ rs)) ≡ drop n rs
drop_two fs xs rs n =
    ap (λ k. drop k (fs ++ (xs ++ rs))) (add_assoc (length fs) (length xs) n)
    ∙ drop-append-add fs (xs ++ rs) (length xs + n) ∙ drop-append-add xs rs n

put_after : (fs xs ys rs : List ℕ) →
    put_at (length fs + length xs) ys (fs ++ (xs ++ rs)) ≡ fs ++ ((xs ++ ys) ++ drop (length ys) rs)
put_after fs xs ys rs =
    ap (λ l. l ++ (ys ++ drop (length fs + length xs + length ys) (fs ++ (xs ++ rs)))) (take_two fs xs rs)
    ∙ ap (λ l. (fs ++ xs) ++ (ys ++ l)) (drop_two fs xs rs (length ys))
    ∙ append_assoc fs xs (ys ++ drop (length ys) rs)
    ∙ ap (λ l. fs ++ l) (sym (append_assoc xs ys (drop (length ys) rs)))

pub put_put : (at : ℕ) (xs ys out : List ℕ) → at + length xs ≤ length out →
    put_at (at + length xs) ys (put_at at xs out) ≡ put_at at (xs ++ ys) out
put_put at xs ys out fits =
    let front : length (take at out) ≡ at = length-take-le at out (omega (arith, fits)) in
    let rest = drop (at + length xs) out in
    let same : at + length xs + length ys ≡ at + length (xs ++ ys) = omega (arith, length-append xs ys) in
    subst (λ n. put_at (n + length xs) ys (put_at at xs out) ≡ take at out ++ ((xs ++ ys) ++ drop (length ys) rest))
    front (put_after (take at out) xs ys rest)
    ∙ ap (λ l. take at out ++ ((xs ++ ys) ++ l))
    (drop-drop (length ys) (at + length xs) out ∙ ap (λ n. drop n out) same)

module _ {X : Type 0} (f : X → List ℕ) where
  flat_next : (xs : List X) (i : ℕ) (d : X) → i < length xs →
      flat_map f (take (suc i) xs) ≡ flat_map f (take i xs) ++ f (get_or xs i d)
  flat_next [] i d h = absurd (omega (arith, h))
  flat_next (y ∷ ys) zero d h = append-nil (f y)
  flat_next (y ∷ ys) (suc i) d h =
      ap (λ l. f y ++ l) (flat_next ys i d (omega (arith, h)))
      ∙ sym (append_assoc (f y) (flat_map f (take i ys)) (f (get_or ys i d)))

  -- the bytes of one more
  pub one_more : (xs : List X) (i : ℕ) (d : X) → i < length xs →
      flat_map f (take (i + 1) xs) ≡ flat_map f (take i xs) ++ f (get_or xs i d)
  one_more xs i d h = let next : i + 1 ≡ suc i = omega arith in rw next (flat_next xs i d h)

  module _ (xs : List X) (i start : ℕ) (d : X) (at : ℕ) (room out : List ℕ) where
    -- there is room for the next where there is for all
    pub room_next : i < length xs → start + length (flat_map f xs) ≤ length room →
        at ≡ start + length (flat_map f (take i xs)) → length out ≡ length room →
        at + length (f (get_or xs i d)) ≤ length out
    room_next h fits is same =
        let within = length-flat_map-take f xs i d h in
        omega (arith, fits, is, same, within)

    -- once the next was put behind those before, one more stands there
    pub put_next : (at2 : ℕ) (out2 : List ℕ) → i < length xs →
        start + length (flat_map f xs) ≤ length room →
        at ≡ start + length (flat_map f (take i xs)) →
        out ≡ put_at start (flat_map f (take i xs)) room →
        at2 ≡ at + length (f (get_or xs i d)) → out2 ≡ put_at at (f (get_or xs i d)) out →
        (at2 ≡ start + length (flat_map f (take (i + 1) xs)))
        × (out2 ≡ put_at start (flat_map f (take (i + 1) xs)) room)
    put_next at2 out2 h fits is before is2 after =
        let more = one_more xs i d h in
        let within = length-flat_map-take f xs i d h in
        let front = flat_map f (take i xs) in
        let x = f (get_or xs i d) in
        let whole : length (front ++ x) ≡ length front + length x = length-append front x in
        rw more (
          omega (arith, is, is2, whole),
          after ∙ ap (λ o. put_at at x o) before
              ∙ subst (λ n. put_at n x (put_at start front room) ≡ put_at start (front ++ x) room) (sym is)
              (put_put start front x room (omega (arith, fits, within))),
        )

    -- the same of an item of the list
    pub room_item : d ≡ get_or xs i d → i < length xs → start + length (flat_map f xs) ≤ length room →
        at ≡ start + length (flat_map f (take i xs)) → length out ≡ length room →
        at + length (f d) ≤ length out
    room_item item h fits is same =
        subst (λ x. at + length (f x) ≤ length out) (sym item) (room_next h fits is same)

    pub put_item : d ≡ get_or xs i d → (at2 : ℕ) (out2 : List ℕ) → i < length xs →
        start + length (flat_map f xs) ≤ length room →
        at ≡ start + length (flat_map f (take i xs)) →
        out ≡ put_at start (flat_map f (take i xs)) room →
        at2 ≡ at + length (f d) → out2 ≡ put_at at (f d) out →
        (at2 ≡ start + length (flat_map f (take (i + 1) xs)))
        × (out2 ≡ put_at start (flat_map f (take (i + 1) xs)) room)
    put_item item at2 out2 h fits is before is2 after =
        put_next at2 out2 h fits is before (is2 ∙ ap (λ x. at + length (f x)) item)
        (after ∙ ap (λ x. put_at at (f x) out) item)

-- what is put behind what was put before
pub put_more : (at r : ℕ) (xs ys out out1 out2 : List ℕ) → at + length xs ≤ length out →
    out1 ≡ put_at at xs out → r ≡ at + length xs → out2 ≡ put_at r ys out1 →
    out2 ≡ put_at at (xs ++ ys) out
put_more at r xs ys out out1 out2 fits before is after =
    after ∙ ap (λ o. put_at r ys o) before
    ∙ subst (λ n. put_at n ys (put_at at xs out) ≡ put_at at (xs ++ ys) out) (sym is)
    (put_put at xs ys out fits)

-- four parts, one behind the other
put_four : (at a b c : ℕ) (ws xs ys zs out out1 out2 out3 out4 : List ℕ) →
    at + length (ws ++ (xs ++ (ys ++ zs))) ≤ length out →
    out1 ≡ put_at at ws out → a ≡ at + length ws → out2 ≡ put_at a xs out1 → b ≡ a + length xs →
    out3 ≡ put_at b ys out2 → c ≡ b + length ys → out4 ≡ put_at c zs out3 →
    out4 ≡ put_at at (ws ++ (xs ++ (ys ++ zs))) out
put_four at a b c ws xs ys zs out out1 out2 out3 out4 fits one is two is2 three is3 four =
    let size : length (ws ++ (xs ++ (ys ++ zs))) ≡ length ws + (length xs + (length ys + length zs)) =
    length-append ws (xs ++ (ys ++ zs))
    ∙ ap (λ n. length ws + n) (length-append xs (ys ++ zs) ∙ ap (λ n. length xs + n) (length-append ys zs)) in
    let of_two : length (ws ++ xs) ≡ length ws + length xs = length-append ws xs in
    let of_three : length ((ws ++ xs) ++ ys) ≡ length ws + length xs + length ys =
    length-append (ws ++ xs) ys ∙ ap (λ n. n + length ys) of_two in
    let first = put_more at a ws xs out out1 out2 (omega (arith, fits, size)) one is two in
    let second = put_more at b (ws ++ xs) ys out out2 out3 (omega (arith, fits, size, of_two)) first
    (omega (arith, is, is2, of_two)) three in
    put_more at c ((ws ++ xs) ++ ys) zs out out3 out4 (omega (arith, fits, size, of_three)) second
    (omega (arith, is, is2, is3, of_three)) four
    ∙ ap (λ l. put_at at l out) (append_assoc (ws ++ xs) ys zs ∙ append_assoc ws xs (ys ++ zs))

-- infos, one after the other, are spelled as a list spells them behind its number
pub spellings_are : {A : Type 0} (f : A → List ℕ) (xs : List A) → spellings f xs ≡ flat_map f xs
unfolding spellings
spellings_are f [] = refl
spellings_are f (x ∷ xs) = ap (λ l. f x ++ l) (spellings_are f xs)

pub map_next : {X Y : Type 0} (f : X → Y) (xs : List X) (i : ℕ) (d : X) → i < length xs →
    map f (take (i + 1) xs) ≡ map f (take i xs) ++ f (get_or xs i d) ∷ []
map_next f xs i d h =
    let next : i + 1 ≡ suc i = omega arith in rw next (one f xs i d h)
  where
    one : {X Y : Type 0} (f : X → Y) (xs : List X) (i : ℕ) (d : X) → i < length xs →
        map f (take (suc i) xs) ≡ map f (take i xs) ++ f (get_or xs i d) ∷ []
    one f [] i d h = absurd (omega (arith, h))
    one f (x ∷ xs) zero d h = refl
    one f (x ∷ xs) (suc i) d h = ap (λ l. f x ∷ l) (one f xs i d (omega (arith, h)))

module _ {C S : Type 0} (k : Scheme C S) where
  -- what is asked of an info, in its four parts
  pub put_asked : (i : Info C S) (at a b c : ℕ) (count signed out out1 out2 out3 out4 : List ℕ) →
      count ≡ number (length signed) → signed ≡ signed_bytes i.ingress i.timestamp →
      at + length (asked_bytes k i) ≤ length out →
      out1 ≡ put_at at count out → a ≡ at + length count →
      out2 ≡ put_at a (k.key.spelled i.public_key) out1 → b ≡ a + length (k.key.spelled i.public_key) →
      out3 ≡ put_at b signed out2 → c ≡ b + length signed →
      out4 ≡ put_at c (k.signature.spelled i.signature) out3 → out4 ≡ put_at at (asked_bytes k i) out
  put_asked i at a b c count signed out out1 out2 out3 out4 counted same fits one is two is2 three is3 four =
      let key = k.key.spelled i.public_key in
      let signature = k.signature.spelled i.signature in
      let all : List ℕ → List ℕ = λ s. number (length s) ++ (key ++ (s ++ signature)) in
      put_four at a b c (number (length signed)) key signed signature out out1 out2 out3 out4
      (subst (λ s. at + length (all s) ≤ length out) (sym same) fits)
      (one ∙ ap (λ l. put_at at l out) counted) (is ∙ ap (λ (l : List ℕ). at + length l) counted) two is2 three is3 four
      ∙ ap (λ s. put_at at (all s) out) same

  -- an info, in its four parts
  pub put_info : (i : Info C S) (at a b c : ℕ) (ingress out out1 out2 out3 out4 : List ℕ) →
      ingress ≡ ingress_spelling i.ingress → at + length (info_bytes k i) ≤ length out →
      out1 ≡ put_at at ingress out → a ≡ at + length ingress →
      out2 ≡ put_at a (varint64 i.timestamp) out1 → b ≡ a + length (varint64 i.timestamp) →
      out3 ≡ put_at b (k.key.spelled i.public_key) out2 → c ≡ b + length (k.key.spelled i.public_key) →
      out4 ≡ put_at c (k.signature.spelled i.signature) out3 → out4 ≡ put_at at (info_bytes k i) out
  put_info i at a b c ingress out out1 out2 out3 out4 same fits one is two is2 three is3 four =
      let number = varint64 i.timestamp in
      let key = k.key.spelled i.public_key in
      let signature = k.signature.spelled i.signature in
      let all : List ℕ → List ℕ = λ s. s ++ (number ++ (key ++ signature)) in
      put_four at a b c ingress number key signature out out1 out2 out3 out4
      (subst (λ s. at + length (all s) ≤ length out) (sym same) fits) one is two is2 three is3 four
      ∙ ap (λ s. put_at at (all s) out) same

  -- .. the number, and the infos behind it
  pub list_is : (infos : List (Info C S)) (n : ℕ) → n ≡ length infos →
      varint32 n ++ (flat_map (info_bytes k) infos ++ []) ≡ infos_spelling k.key.spelled k.signature.spelled infos
  list_is infos n is =
      ap (λ l. varint32 n ++ l) (append-nil (flat_map (info_bytes k) infos) ∙ sym (spellings_are (info_bytes k) infos))
      ∙ ap (λ m. varint32 m ++ spellings (info_bytes k) infos) is

  -- ---- sizes

  module _ (key_laws : IsFixed k.key.SIZE k.key.spelled k.key.value k.key.IsValue) where
    pub length_keys : (keys : List C) → length (keys_bytes k keys) ≡ length keys * k.key.SIZE
    length_keys [] = omega arith
    length_keys (key ∷ keys) =
        omega (
          arith,
          length-append (k.key.spelled key) (keys_bytes k keys),
          key_laws.len key,
          length_keys keys,
        )

    module _ (signature_laws : IsFixed k.signature.SIZE k.signature.spelled k.signature.value k.signature.IsValue) where
      -- how much is asked of an info
      pub length_asked : (i : Info C S) →
          length (asked_bytes k i) ≡ 8 + (k.key.SIZE + (length (ingress_spelling i.ingress) + 8 + k.signature.SIZE))
      unfolding signed_bytes
      length_asked i =
          let signed = signed_bytes i.ingress i.timestamp in
          let key = k.key.spelled i.public_key in
          let signature = k.signature.spelled i.signature in
          omega (
            arith,
            length-append key (signed ++ signature),
            length-append signed signature,
            length-append (ingress_spelling i.ingress) (number i.timestamp),
            key_laws.len i.public_key,
            signature_laws.len i.signature,
          )
