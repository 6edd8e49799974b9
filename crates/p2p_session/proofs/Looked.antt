-- What is told of a reservation, and what has to be verified, are decided by their bytes.
use Rattle.std.proofs.Common.{◌≡◌, ℕ, ◌-◌, ◌<◌, ◌^◌, List, [], ◌∷◌, ◌++◌, length, Option}
use Rattle.std.proofs.Common.{Some, None, refl, sym, ap, ◌∙◌, arith}
use Rattle.std.specs.Prelude.{flat_map}
use Rattle.std.specs.Int.{w64, to_be_bytes}
use Rattle.std.specs.List.{AllByRecursion}
use Rattle.std.proofs.lemmas.List.{append-nil, append_assoc, length-append}
use Rattle.p2p_discovery.specs.declared.discovery.Info.{Info}
use Rattle.p2p_discovery.specs.declared.types.ingress.Ingress.{Ingress}
use Rattle.p2p_discovery.specs.Fixed.{IsFixed}
use Rattle.p2p_discovery.specs.Ingress.{ingress_spelling}
use Rattle.p2p_discovery.specs.Judgement.{signed_bytes}
use Rattle.p2p_discovery.specs.Laws.Ingress.{lawful_ingress}
use Rattle.p2p_discovery.specs.Laws.Reading.{ok_is}
use Rattle.p2p_discovery.specs.Reading.{Reading, Lawful}
use Rattle.p2p_tracker.specs.declared.directory.Metadata.{Metadata}
use Rattle.p2p_tracker.specs.declared.directory.Metadata.TheVariants.{Dialer, Listener}
use Rattle.p2p_session.specs.Alike.{IsWhole, IsHeldOf}
use Rattle.p2p_session.specs.Answers.{Tells, asked_bytes, number}
use Rattle.p2p_session.specs.Frames.{held_answer, held_bytes}
use Rattle.p2p_session.specs.Given.{IsInfoOfKeys}
use Rattle.p2p_session.specs.Schemes.{Scheme}
use Rattle.p2p_session.proofs.Alike.{bytes_are, no_refusal}
use Rattle.p2p_session.proofs.Parts.{cut}
use Rattle.p2p_session.proofs.Told.{number_before, length_number}

-- a value that is read again, and what is behind it
encoded_before : {A : Type 0} {reading : List ℕ → Reading A} {spelling : A → List ℕ}
    {Admits : A → Type 0} → Lawful reading spelling Admits → (x y : A) (l m : List ℕ) → Admits x →
    Admits y → spelling x ++ l ≡ spelling y ++ m → (x ≡ y) × (l ≡ m)
encoded_before {A} {reading} law x y l m h i e =
    let same = ap (λ b. (reading b).outcome) e in
    let pair : (x, l) ≡ (y, m) =
    ok_is (x, l) (y, m) (sym (law.again x l h) ∙ (same ∙ law.again y m i)) in
    (ap (λ (p : A × List ℕ). p.0) pair, ap (λ (p : A × List ℕ). p.1) pair)

-- five parts before others
in_parts : (a b c d e l : List ℕ) →
    (a ++ (b ++ ((c ++ d) ++ e))) ++ l ≡ a ++ (b ++ (c ++ (d ++ (e ++ l))))
in_parts a b c d e l =
    append_assoc a (b ++ ((c ++ d) ++ e)) l
    ∙ ap (λ x. a ++ x) (append_assoc b ((c ++ d) ++ e) l
    ∙ ap (λ x. b ++ x) (append_assoc (c ++ d) e l ∙ append_assoc c d (e ++ l)))

info_by : {C S : Type 0} (x y : Info C S) → x.ingress ≡ y.ingress → x.timestamp ≡ y.timestamp →
    x.public_key ≡ y.public_key → x.signature ≡ y.signature → x ≡ y
info_by {C} {S} x y i t p s =
    let made : Ingress → ℕ → C → S → Info C S =
    λ i t p s. record { ingress = i; timestamp = t; public_key = p; signature = s } in
    ap (λ i. made i x.timestamp x.public_key x.signature) i
    ∙ (ap (λ t. made y.ingress t x.public_key x.signature) t
    ∙ (ap (λ p. made y.ingress y.timestamp p x.signature) p
    ∙ ap (λ s. made y.ingress y.timestamp y.public_key s) s))

module _ {C S : Type 0} (k : Scheme C S)
    (key_laws : IsFixed k.key.SIZE k.key.spelled k.key.value k.key.IsValue)
    (signature_laws :
    IsFixed k.signature.SIZE k.signature.spelled k.signature.value k.signature.IsValue) where
  signature_is : (x y : S) → k.signature.IsValue x → k.signature.IsValue y →
      k.signature.spelled x ≡ k.signature.spelled y → x ≡ y
  signature_is x y h i e =
      let same : Some x ≡ Some y =
      sym (signature_laws.again x h).1 ∙ (ap k.signature.value e ∙ (signature_laws.again y i).1) in
      cc

  -- one info whose signature is asked about, before others
  one_asked : (x y : Info C S) (l m : List ℕ) → IsInfoOfKeys k x → IsInfoOfKeys k y →
      asked_bytes k x ++ l ≡ asked_bytes k y ++ m → (x ≡ y) × (l ≡ m)
  unfolding signed_bytes
  one_asked x y l m h i e =
      let bytes_of = λ (x : Info C S). signed_bytes x.ingress x.timestamp in
      let parts =
      sym (in_parts (number (length (bytes_of x))) (k.key.spelled x.public_key)
      (ingress_spelling x.ingress) (to_be_bytes w64 x.timestamp) (k.signature.spelled x.signature)
      l)
      ∙ (e ∙ in_parts (number (length (bytes_of y))) (k.key.spelled y.public_key)
      (ingress_spelling y.ingress) (to_be_bytes w64 y.timestamp) (k.signature.spelled y.signature)
      m) in
      let count = cut (number (length (bytes_of x))) _ (number (length (bytes_of y))) _
      (length_number (length (bytes_of x)) ∙ sym (length_number (length (bytes_of y)))) parts in
      let key = cut (k.key.spelled x.public_key) _ (k.key.spelled y.public_key) _
      (key_laws.len x.public_key ∙ sym (key_laws.len y.public_key)) count.1 in
      let ingress = encoded_before lawful_ingress x.ingress y.ingress _ _ h.0.ingress i.0.ingress
      key.1 in
      let time = number_before x.timestamp y.timestamp _ _ h.0.timestamp i.0.timestamp ingress.1 in
      let signed = cut (k.signature.spelled x.signature) l (k.signature.spelled y.signature) m
      (signature_laws.len x.signature ∙ sym (signature_laws.len y.signature)) time.1 in (
        info_by x y ingress.0 time.0
            (key_by x.public_key y.public_key h.1.key i.1.key key.0)
            (signature_is x.signature y.signature h.1.signature i.1.signature signed.0),
        signed.1,
      )
    where
      key_by : (x y : C) → k.key.IsValue x → k.key.IsValue y → k.key.spelled x ≡ k.key.spelled y →
          x ≡ y
      key_by x y h i e =
          let same : Some x ≡ Some y =
          sym (key_laws.again x h).1 ∙ (ap k.key.value e ∙ (key_laws.again y i).1) in
          cc

  none_left : (x : Info C S) (l : List ℕ) → [] ≡ asked_bytes k x ++ l → ⊥
  none_left x l e =
      let signed = signed_bytes x.ingress x.timestamp in
      let rest = k.key.spelled x.public_key ++ (signed ++ k.signature.spelled x.signature) in
      let count : 0 ≡ length (asked_bytes k x ++ l) = ap (λ (b : List ℕ). length b) e in
      omega (
        arith,
        count,
        length-append (asked_bytes k x) l,
        length-append (number (length signed)) rest,
        length_number (length signed),
      )

  asked_are : (xs ys : List (Info C S)) → AllByRecursion (IsInfoOfKeys k) xs →
      AllByRecursion (IsInfoOfKeys k) ys →
      flat_map (asked_bytes k) xs ≡ flat_map (asked_bytes k) ys → xs ≡ ys
  asked_are [] [] h i e = refl
  asked_are [] (y ∷ ys) h i e = absurd (none_left y (flat_map (asked_bytes k) ys) e)
  asked_are (x ∷ xs) [] h i e = absurd (none_left x (flat_map (asked_bytes k) xs) (sym e))
  asked_are (x ∷ xs) (y ∷ ys) h i e =
      let parts = one_asked x y (flat_map (asked_bytes k) xs) (flat_map (asked_bytes k) ys) h.0 i.0
      e in
      ap (λ z. z ∷ xs) parts.0 ∙ ap (λ l. y ∷ l) (asked_are xs ys h.1 i.1 parts.1)

  pub to_verify_are : (count count2 : ℕ) (infos infos2 : List (Info C S)) → count < 2 ^ 64 →
      count2 < 2 ^ 64 → AllByRecursion (IsInfoOfKeys k) infos →
      AllByRecursion (IsInfoOfKeys k) infos2 → number count ++ flat_map (asked_bytes k) infos
      ≡ number count2 ++ flat_map (asked_bytes k) infos2 → (count ≡ count2) × (infos ≡ infos2)
  to_verify_are count count2 infos infos2 few few2 h i e =
      let parts = number_before count count2 _ _ few few2 e in
      (parts.0, asked_are infos infos2 h i parts.1)

-- ---- reservations

module _ (out out2 : List ℕ) (n : ℕ) (whole : IsWhole out n) where
  tail_is : (a b : ℕ) (l m : List ℕ) → a ∷ l ≡ b ∷ m → l ≡ m
  tail_is a b l m e = cc

  pub held_are : {C S : Type 0} (peer : C) (a b : Option (Metadata C S)) → IsHeldOf peer a →
      IsHeldOf peer b → Tells (held_answer a) out out2 n → Tells (held_answer b) out out2 n → a ≡ b
  held_are peer None None h i t u = refl
  held_are peer None (Some y) h i t u =
      absurd (no_refusal out out2 n whole (2 ^ 64 - 3) (held_bytes y) (omega arith) t.0 u)
  held_are peer (Some x) None h i t u =
      absurd (no_refusal out out2 n whole (2 ^ 64 - 3) (held_bytes x) (omega arith) u.0 t)
  held_are peer (Some (Listener p)) (Some (Listener q)) h i t u =
      ap (λ p. Some (Listener p)) (h ∙ sym i)
  held_are peer (Some (Dialer p a)) (Some (Dialer q b)) h i t u =
      let same = tail_is 1 1 _ _ (bytes_are out out2 n whole (1 ∷ ingress_spelling a)
      (1 ∷ ingress_spelling b) t u) in
      let ingress = encoded_before lawful_ingress a b [] [] h.1 i.1
      (append-nil (ingress_spelling a) ∙ (same ∙ sym (append-nil (ingress_spelling b)))) in
      ap (λ p. Some (Dialer p a)) (h.0 ∙ sym i.0) ∙ ap (λ a. Some (Dialer q a)) ingress.0
  held_are peer (Some (Listener p)) (Some (Dialer q b)) h i t u =
      absurd (let e = bytes_are out out2 n whole (0 ∷ []) (1 ∷ ingress_spelling b) t u in cc)
  held_are peer (Some (Dialer p a)) (Some (Listener q)) h i t u =
      absurd (let e = bytes_are out out2 n whole (1 ∷ ingress_spelling a) (0 ∷ []) t u in cc)
