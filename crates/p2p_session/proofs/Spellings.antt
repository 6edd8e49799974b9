-- A request has one spelling: what is spelled can be told from it.
use Rattle.std.proofs.Common.{◌≡◌, ◌⊎◌, inl, inr, ℕ, ◌+◌, ◌*◌, ◌/◌, ◌%◌, ◌<◌, Bool, true, false, List, [], ◌∷◌, length, Option, Some, None, Result, Ok, Err, refl, sym, ◌∙◌, ap, subst, arith}
use Rattle.std.specs.Prelude.{if◌then◌else◌, ◌==◌, ◌&&◌, nat_lt}
use Rattle.std.proofs.lemmas.Bool.{eqb-true}
use Rattle.std.proofs.lemmas.Bool.Decides.{eqb_tells}
use Rattle.std.proofs.lemmas.Nat.{div-mul-add, mod-mul-add}
use Rattle.p2p_discovery.specs.Reading.{IsBytes}
use Rattle.p2p_discovery.specs.Fixed.{IsFixed}
use Rattle.p2p_tracker.specs.Calls.{Call, Question}
use Rattle.p2p_tracker.specs.Calls.Call.{Track, Update, Dial, Listen, Connect, Release, Block, UnblockExpired, ForgetCooled, Ask}
use Rattle.p2p_tracker.specs.Calls.Question.{StatusOf, NumberTracked, NextUnblock, BlockedAt, PeerSet, LatestIndex, AllPeers, LatestUpdate, InfoOf, IngressOf, InfosFor, BitsAt, IsEligible, IsAcceptable, MayListen, DialableAt}
use Rattle.p2p_session.specs.declared.refusal.Refusal.{Refusal}
use Rattle.p2p_session.specs.declared.refusal.Refusal.TheVariants as refusal
use Rattle.p2p_session.specs.Given.{Asked, and_then, key_at, moment_at, or_bad}
use Rattle.p2p_session.specs.Sessions.{at_moment, of_peer, of_peer_at, with_draw}
use Rattle.p2p_session.specs.declared.setup.Numbers.{Numbers}
use Rattle.p2p_session.specs.Schemes.{Scheme}
use Rattle.p2p_session.specs.Requests.{Request, Spelling, IsUnread, AreSpelledOnce, bool_at, with_bool, is_empty, when, request_of, of_nothing, of_bytes, of_number, of_moment, of_bytes_at, of_frame, of_draw, of_setup}
use Rattle.p2p_session.specs.Requests.Request.{Numbered, Written, SetOf, Infos, Bits, Frame, Looking, Init}
use Rattle.p2p_session.specs.Sessions.Look.{Room, Retained, NextCooled, Held, Wanted, Check}

-- a spelling with these parts
abbrev pub spelling : ℕ → List ℕ → List ℕ → List ℕ → List ℕ → Spelling
spelling number numbers first second third = record {
  number = number;
  numbers = numbers;
  first = first;
  second = second;
  third = third;
}

abbrev pub bit : Bool → ℕ
bit true = 1
bit false = 0

abbrev pub s_of : ℕ → ℕ
s_of t = t / 1_000_000_000

abbrev pub n_of : ℕ → ℕ
n_of t = t % 1_000_000_000

-- ---- parts

-- bytes that have to be empty are
empty : (bytes : List ℕ) → is_empty bytes ≡ true → bytes ≡ []
empty [] h = refl
empty (b ∷ bytes) h = absurd (let e = eqb-true (length (b ∷ bytes)) 0 h in omega (arith, e))

both : (a b : Bool) → (a && b) ≡ true → (a ≡ true) × (b ≡ true)
both true true h = (refl, refl)
both true false h = absurd (cc)
both false b h = absurd (cc)

when_is : {A : Type 0} (b : Bool) (o : Option A) (x : A) → when b o ≡ Some x → (b ≡ true) × (o ≡ Some x)
when_is true o x h = (refl, h)
when_is false o x h = absurd (cc)

-- a test on the number, and the rest of the table
pick : {R : Type 0} (P : R → Type 0) (n c : ℕ) (x : R) (y : Option R) (r : R) → (n ≡ c → P x) →
    (y ≡ Some r → P r) → (if n == c then Some x else y) ≡ Some r → P r
pick {R} P n c x y r here there h = elim (eqb_tells n c) [ inl t ↦ yes t | inr f ↦ no f ]
  where
    yes : (n == c ≡ true) × (n ≡ c) → P r
    yes t = let e : (if true then Some x else y) ≡ Some r =
        subst (λ b. (if b then Some x else y) ≡ Some r) t.0 h in
        subst P (let e2 : x ≡ r = cc in e2) (here t.1)

    no : (n == c ≡ false) × (n ≡ c → ⊥) → P r
    no t = there (subst (λ b. (if b then Some x else y) ≡ Some r) t.0 h)

pick_in : {R : Type 0} (P : R → Type 0) (n c : ℕ) (o y : Option R) (r : R) → (n ≡ c → o ≡ Some r → P r) →
    (y ≡ Some r → P r) → (if n == c then o else y) ≡ Some r → P r
pick_in {R} P n c o y r here there h = elim (eqb_tells n c) [
  | inl t ↦ here t.1 (subst (λ b. (if b then o else y) ≡ Some r) t.0 h)
  | inr f ↦ there (subst (λ b. (if b then o else y) ≡ Some r) f.0 h)
]

with_is : {A : Type 0} (o : Option Bool) (f : Bool → Option A) (x : A) → with_bool o f ≡ Some x →
    (b : Bool) × (o ≡ Some b) × (f b ≡ Some x)
with_is (Some b) f x h = (b, refl, h)
with_is None f x h = absurd (cc)

nothing : {R : Type 0} (P : R → Type 0) (r : R) → None ≡ Some r → P r
nothing P r h = absurd (cc)

bool_is : (n : ℕ) (b : Bool) → bool_at n ≡ Some b → bit b ≡ n
bool_is n b h = elim (eqb_tells n 0) [
  | inl t ↦ zero_case t
  | inr f ↦ elim (eqb_tells n 1) [ inl t ↦ one_case f t | inr g ↦ none_case f g ]
]
  where
    zero_case : (n == 0 ≡ true) × (n ≡ 0) → bit b ≡ n
    zero_case t =
        let e : Some false ≡ Some b = subst (λ x. (if x then Some false else (if n == 1 then Some true else None)) ≡ Some b) t.0 h in
        let e2 : false ≡ b = cc in subst (λ x. bit x ≡ n) e2 (sym t.1)

    one_case : (n == 0 ≡ false) × (n ≡ 0 → ⊥) → (n == 1 ≡ true) × (n ≡ 1) → bit b ≡ n
    one_case f t =
        let h2 : (if n == 1 then Some true else None) ≡ Some b = subst (λ x. (if x then Some false else (if n == 1 then Some true else None)) ≡ Some b) f.0 h in
        let e : Some true ≡ Some b = subst (λ x. (if x then Some true else None) ≡ Some b) t.0 h2 in
        let e2 : true ≡ b = cc in subst (λ x. bit x ≡ n) e2 (sym t.1)

    none_case : (n == 0 ≡ false) × (n ≡ 0 → ⊥) → (n == 1 ≡ false) × (n ≡ 1 → ⊥) → bit b ≡ n
    none_case f g =
        let h2 : (if n == 1 then Some true else None) ≡ Some b = subst (λ x. (if x then Some false else (if n == 1 then Some true else None)) ≡ Some b) f.0 h in
        let e : None ≡ Some b = subst (λ x. (if x then Some true else None) ≡ Some b) g.0 h2 in
        absurd (cc)

-- a moment that was read tells its seconds and its nanoseconds
moment_is : (Q : Result ℕ Refusal → Type 0) (s n : ℕ) → ((t : ℕ) → s_of t ≡ s → n_of t ≡ n → Q (Ok t)) →
    ((why : Refusal) → Q (Err why)) → Q (moment_at s n)
moment_is Q s n ok err = go (nat_lt n 1_000_000_000) refl
  where
    go : (b : Bool) → nat_lt n 1_000_000_000 ≡ b →
        Q (if b then Ok (s * 1_000_000_000 + n) else Err refusal.BadMoment)
    go true h = let small : n < 1_000_000_000 = grind (arith, h) in
        ok (s * 1_000_000_000 + n) (div-mul-add s 1_000_000_000 n small) (mod-mul-add s 1_000_000_000 n small)
    go false h = err refusal.BadMoment

module _ {C S : Type 0} (k : Scheme C S)
    (key_laws : IsFixed k.key.SIZE k.key.spelled k.key.value k.key.IsValue) where
  -- ---- what a request tells of its spelling

  abbrev of_question : Question C → Spelling
  of_question (StatusOf p) = spelling 15 [] (k.key.spelled p) [] []
  of_question NumberTracked = spelling 28 [] [] [] []
  of_question NextUnblock = spelling 13 [] [] [] []
  of_question (BlockedAt t) = spelling 14 (s_of t ∷ n_of t ∷ []) [] [] []
  of_question (PeerSet index) = spelling 16 (index ∷ []) [] [] []
  of_question LatestIndex = spelling 17 [] [] [] []
  of_question AllPeers = spelling 19 [] [] [] []
  of_question LatestUpdate = spelling 18 [] [] [] []
  of_question (InfoOf p) = spelling 20 [] (k.key.spelled p) [] []
  of_question (IngressOf p) = spelling 33 [] (k.key.spelled p) [] []
  of_question (InfosFor index bits t) = spelling 0 [] [] [] []
  of_question (BitsAt place) = spelling 22 (place ∷ []) [] [] []
  of_question (IsEligible p t) = spelling 23 (s_of t ∷ n_of t ∷ []) (k.key.spelled p) [] []
  of_question (IsAcceptable p t) = spelling 24 (s_of t ∷ n_of t ∷ []) (k.key.spelled p) [] []
  of_question (MayListen p t) = spelling 32 (s_of t ∷ n_of t ∷ []) (k.key.spelled p) [] []
  of_question (DialableAt t) = spelling 25 (s_of t ∷ n_of t ∷ []) [] [] []

  abbrev of_call : Call C S → Spelling
  of_call (Track index primary secondary) = spelling 0 [] [] [] []
  of_call (Dial p t draw) = spelling 4 (s_of t ∷ n_of t ∷ s_of draw ∷ n_of draw ∷ []) (k.key.spelled p) [] []
  of_call (Listen p t draw) = spelling 5 (s_of t ∷ n_of t ∷ s_of draw ∷ n_of draw ∷ []) (k.key.spelled p) [] []
  of_call (Connect p dialer) = spelling 7 (bit dialer ∷ []) (k.key.spelled p) [] []
  of_call (Release p) = spelling 8 [] (k.key.spelled p) [] []
  of_call (Update infos) = spelling 0 [] [] [] []
  of_call (Block p t) = spelling 10 (s_of t ∷ n_of t ∷ []) (k.key.spelled p) [] []
  of_call (UnblockExpired t) = spelling 11 (s_of t ∷ n_of t ∷ []) [] [] []
  of_call (ForgetCooled t) = spelling 12 (s_of t ∷ n_of t ∷ []) [] [] []
  of_call (Ask question) = of_question question

  abbrev of_asked : Asked C S → Spelling
  of_asked (Ok call) = of_call call
  of_asked (Err why) = spelling 0 [] [] [] []

  abbrev spelling_of : Request C S → Spelling
  spelling_of (Numbered given) = of_asked given
  spelling_of (Written given) = of_asked given
  spelling_of (SetOf index primary secondary) = spelling 2 (index ∷ []) primary secondary []
  spelling_of (Infos infos) = spelling 9 [] infos [] []
  spelling_of (Bits bits seconds nanos) = spelling 21 (seconds ∷ nanos ∷ []) bits [] []
  spelling_of (Frame frame seconds nanos verdicts) = spelling 31 (seconds ∷ nanos ∷ []) frame verdicts []
  spelling_of (Looking Room) = spelling 3 [] [] [] []
  spelling_of (Looking Retained) = spelling 26 [] [] [] []
  spelling_of (Looking NextCooled) = spelling 27 [] [] [] []
  spelling_of (Looking (Held peer)) = spelling 6 [] peer [] []
  spelling_of (Looking (Wanted place)) = spelling 29 (place ∷ []) [] [] []
  spelling_of (Looking (Check frame seconds nanos)) = spelling 30 (seconds ∷ nanos ∷ []) frame [] []
  spelling_of (Init n namespace bootstrappers myself) =
      spelling 1 (bit n.allow_private_ips ∷ bit n.allow_dns ∷ n.max_sets ∷ n.dial_fail_limit ∷ n.cooldown.0 ∷ n.cooldown.1
      ∷ n.block.0 ∷ n.block.1 ∷ n.max_bit_vec ∷ n.max_peers ∷ n.max_data_length ∷ n.peer_gossip_max_count
      ∷ n.bound.0 ∷ n.bound.1 ∷ []) namespace bootstrappers myself

  -- the request tells this spelling, or can't be read
  abbrev Back : Spelling → Request C S → Type 0
  Back s r = (spelling_of r ≡ s) ⊎ IsUnread r

  numbered : (s : Spelling) (why : Refusal) → Back s (Numbered (Err why))
  numbered s why = inr (why, inl refl)

  written : (s : Spelling) (why : Refusal) → Back s (Written (Err why))
  written s why = inr (why, inr refl)

  -- ---- keys, and calls of them

  key_is : (Q : Result C Refusal → Type 0) (bytes : List ℕ) → IsBytes bytes →
      ((p : C) → k.key.spelled p ≡ bytes → Q (Ok p)) → ((why : Refusal) → Q (Err why)) → Q (key_at k bytes)
  key_is Q bytes are ok err = go (length bytes == k.key.SIZE) refl
    where
      go2 : (o : Option C) → k.key.value bytes ≡ o → length bytes ≡ k.key.SIZE → Q (or_bad o)
      go2 (Some p) e h = ok p ((key_laws.only bytes p (h, are) e).1)
      go2 None e h = err refusal.BadKey

      go : (b : Bool) → (length bytes == k.key.SIZE) ≡ b →
          Q (if b then or_bad (k.key.value bytes) else Err refusal.BadKey)
      go true h = go2 (k.key.value bytes) refl (eqb-true (length bytes) k.key.SIZE h)
      go false h = err refusal.BadKey

  peer_is : (Q : Asked C S → Type 0) (f : C → Call C S) (bytes : List ℕ) → IsBytes bytes →
      ((p : C) → k.key.spelled p ≡ bytes → Q (Ok (f p))) → ((why : Refusal) → Q (Err why)) → Q (of_peer k bytes f)
  peer_is Q f bytes are ok err = key_is (λ x. Q (and_then x (λ p. Ok (f p)))) bytes are ok err

  time_is : (Q : Asked C S → Type 0) (f : ℕ → Call C S) (s n : ℕ) →
      ((t : ℕ) → s_of t ≡ s → n_of t ≡ n → Q (Ok (f t))) → ((why : Refusal) → Q (Err why)) → Q (at_moment s n f)
  time_is Q f s n ok err = moment_is (λ x. Q (and_then x (λ t. Ok (f t)))) s n ok err

  peer_time_is : (Q : Asked C S → Type 0) (f : C → ℕ → Call C S) (bytes : List ℕ) (s n : ℕ) → IsBytes bytes →
      ((p : C) (t : ℕ) → k.key.spelled p ≡ bytes → s_of t ≡ s → n_of t ≡ n → Q (Ok (f p t))) →
      ((why : Refusal) → Q (Err why)) → Q (of_peer_at k bytes s n f)
  peer_time_is Q f bytes s n are ok err = key_is (λ x. Q (and_then x (λ p. at_moment s n (f p)))) bytes are
      (λ p e. time_is Q (f p) s n (λ t es en. ok p t e es en) err) err

  draw_is : (Q : Asked C S → Type 0) (f : C → ℕ → ℕ → Call C S) (bytes : List ℕ) (s n ds dn : ℕ) → IsBytes bytes →
      ((p : C) (t d : ℕ) → k.key.spelled p ≡ bytes → s_of t ≡ s → n_of t ≡ n → s_of d ≡ ds → n_of d ≡ dn →
      Q (Ok (f p t d))) → ((why : Refusal) → Q (Err why)) → Q (with_draw k bytes s n ds dn f)
  draw_is Q f bytes s n ds dn are ok err =
      key_is (λ x. Q (and_then x (λ p. and_then (moment_at s n) (λ now. at_moment ds dn (f p now))))) bytes are
      (λ p e. moment_is (λ x. Q (and_then x (λ now. at_moment ds dn (f p now)))) s n
      (λ t es en. time_is Q (f p t) ds dn (λ d fs fn. ok p t d e es en fs fn) err) err) err

  -- ---- the tables

  nothing_back : (number : ℕ) (r : Request C S) → of_nothing k number ≡ Some r → Back (spelling number [] [] [] []) r
  nothing_back number r =
      let P = λ (r : Request C S). Back (spelling number [] [] [] []) r in
      pick P number 3 (Looking Room) _ r (λ e. inl (cc)) (
      pick P number 13 (Written (Ok (Ask NextUnblock))) _ r (λ e. inl (cc)) (
      pick P number 17 (Written (Ok (Ask LatestIndex))) _ r (λ e. inl (cc)) (
      pick P number 18 (Written (Ok (Ask LatestUpdate))) _ r (λ e. inl (cc)) (
      pick P number 19 (Written (Ok (Ask AllPeers))) _ r (λ e. inl (cc)) (
      pick P number 26 (Looking Retained) _ r (λ e. inl (cc)) (
      pick P number 27 (Looking NextCooled) _ r (λ e. inl (cc)) (
      pick P number 28 (Numbered (Ok (Ask NumberTracked))) _ r (λ e. inl (cc)) (
      nothing P r))))))))

  bytes_back : (number : ℕ) (bytes : List ℕ) → IsBytes bytes → (r : Request C S) → of_bytes k number bytes ≡ Some r →
      Back (spelling number [] bytes [] []) r
  bytes_back number bytes are r =
      let P = λ (r : Request C S). Back (spelling number [] bytes [] []) r in
      pick P number 6 (Looking (Held bytes)) _ r (λ e. inl (cc)) (
      pick P number 8 (Numbered (of_peer k bytes (λ p. Release p))) _ r (λ e. peer_is (λ x. P (Numbered x)) (λ p. Release p) bytes are (λ p is. inl (cc)) (numbered (spelling number [] bytes [] []))) (
      pick P number 9 (Infos bytes) _ r (λ e. inl (cc)) (
      pick P number 15 (Numbered (of_peer k bytes (λ p. Ask (StatusOf p)))) _ r (λ e. peer_is (λ x. P (Numbered x)) (λ p. Ask (StatusOf p)) bytes are (λ p is. inl (cc)) (numbered (spelling number [] bytes [] []))) (
      pick P number 20 (Written (of_peer k bytes (λ p. Ask (InfoOf p)))) _ r (λ e. peer_is (λ x. P (Written x)) (λ p. Ask (InfoOf p)) bytes are (λ p is. inl (cc)) (written (spelling number [] bytes [] []))) (
      pick P number 33 (Written (of_peer k bytes (λ p. Ask (IngressOf p)))) _ r (λ e. peer_is (λ x. P (Written x)) (λ p. Ask (IngressOf p)) bytes are (λ p is. inl (cc)) (written (spelling number [] bytes [] []))) (
      (λ h. let w = when_is (is_empty bytes) (of_nothing k number) r h in
      subst (λ b. Back (spelling number [] b [] []) r) (sym (empty bytes w.0)) (nothing_back number r w.1))))))))

  moment_back : (number s n : ℕ) (r : Request C S) → of_moment k number s n ≡ Some r →
      Back (spelling number (s ∷ n ∷ []) [] [] []) r
  moment_back number s n r =
      let P = λ (r : Request C S). Back (spelling number (s ∷ n ∷ []) [] [] []) r in
      pick P number 11 (Numbered (at_moment s n (λ now. UnblockExpired now))) _ r (λ e. time_is (λ x. P (Numbered x)) (λ now. UnblockExpired now) s n (λ t es en. inl (cc)) (numbered (spelling number (s ∷ n ∷ []) [] [] []))) (
      pick P number 12 (Numbered (at_moment s n (λ now. ForgetCooled now))) _ r (λ e. time_is (λ x. P (Numbered x)) (λ now. ForgetCooled now) s n (λ t es en. inl (cc)) (numbered (spelling number (s ∷ n ∷ []) [] [] []))) (
      pick P number 14 (Written (at_moment s n (λ now. Ask (BlockedAt now)))) _ r (λ e. time_is (λ x. P (Written x)) (λ now. Ask (BlockedAt now)) s n (λ t es en. inl (cc)) (written (spelling number (s ∷ n ∷ []) [] [] []))) (
      pick P number 25 (Written (at_moment s n (λ now. Ask (DialableAt now)))) _ r (λ e. time_is (λ x. P (Written x)) (λ now. Ask (DialableAt now)) s n (λ t es en. inl (cc)) (written (spelling number (s ∷ n ∷ []) [] [] []))) (
      nothing P r))))

  bytes_at_back : (number : ℕ) (bytes : List ℕ) (s n : ℕ) → IsBytes bytes → (r : Request C S) →
      of_bytes_at k number bytes s n ≡ Some r → Back (spelling number (s ∷ n ∷ []) bytes [] []) r
  bytes_at_back number bytes s n are r =
      let P = λ (r : Request C S). Back (spelling number (s ∷ n ∷ []) bytes [] []) r in
      pick P number 10 (Numbered (of_peer_at k bytes s n (λ p now. Block p now))) _ r (λ e. peer_time_is (λ x. P (Numbered x)) (λ p now. Block p now) bytes s n are (λ p t ep es en. inl (cc)) (numbered (spelling number (s ∷ n ∷ []) bytes [] []))) (
      pick P number 21 (Bits bytes s n) _ r (λ e. inl (cc)) (
      pick P number 23 (Numbered (of_peer_at k bytes s n (λ p now. Ask (IsEligible p now)))) _ r (λ e. peer_time_is (λ x. P (Numbered x)) (λ p now. Ask (IsEligible p now)) bytes s n are (λ p t ep es en. inl (cc)) (numbered (spelling number (s ∷ n ∷ []) bytes [] []))) (
      pick P number 24 (Numbered (of_peer_at k bytes s n (λ p now. Ask (IsAcceptable p now)))) _ r (λ e. peer_time_is (λ x. P (Numbered x)) (λ p now. Ask (IsAcceptable p now)) bytes s n are (λ p t ep es en. inl (cc)) (numbered (spelling number (s ∷ n ∷ []) bytes [] []))) (
      pick P number 32 (Numbered (of_peer_at k bytes s n (λ p now. Ask (MayListen p now)))) _ r (λ e. peer_time_is (λ x. P (Numbered x)) (λ p now. Ask (MayListen p now)) bytes s n are (λ p t ep es en. inl (cc)) (numbered (spelling number (s ∷ n ∷ []) bytes [] []))) (
      pick P number 30 (Looking (Check bytes s n)) _ r (λ e. inl (cc)) (
      (λ h. let w = when_is (is_empty bytes) (of_moment k number s n) r h in
      subst (λ b. Back (spelling number (s ∷ n ∷ []) b [] []) r) (sym (empty bytes w.0)) (moment_back number s n r w.1))))))))

  frame_back : (number : ℕ) (first second : List ℕ) (s n : ℕ) → IsBytes first → (r : Request C S) →
      of_frame k number first second s n ≡ Some r → Back (spelling number (s ∷ n ∷ []) first second []) r
  frame_back number first second s n are r =
      let P = λ (r : Request C S). Back (spelling number (s ∷ n ∷ []) first second []) r in
      pick P number 31 (Frame first s n second) _ r (λ e. inl (cc)) (
      (λ h. let w = when_is (is_empty second) (of_bytes_at k number first s n) r h in
      subst (λ b. Back (spelling number (s ∷ n ∷ []) first b []) r) (sym (empty second w.0)) (bytes_at_back number first s n are r w.1)))

  draw_back : (number : ℕ) (peer : List ℕ) (s n ds dn : ℕ) → IsBytes peer → (r : Request C S) →
      of_draw k number peer s n ds dn ≡ Some r → Back (spelling number (s ∷ n ∷ ds ∷ dn ∷ []) peer [] []) r
  draw_back number peer s n ds dn are r =
      let P = λ (r : Request C S). Back (spelling number (s ∷ n ∷ ds ∷ dn ∷ []) peer [] []) r in
      pick P number 4 (Numbered (with_draw k peer s n ds dn (λ p now draw. Dial p now draw))) _ r (λ e. draw_is (λ x. P (Numbered x)) (λ p now draw. Dial p now draw) peer s n ds dn are (λ p t d ep es en fs fn. inl (cc)) (numbered (spelling number (s ∷ n ∷ ds ∷ dn ∷ []) peer [] []))) (
      pick P number 5 (Numbered (with_draw k peer s n ds dn (λ p now draw. Listen p now draw))) _ r (λ e. draw_is (λ x. P (Numbered x)) (λ p now draw. Listen p now draw) peer s n ds dn are (λ p t d ep es en fs fn. inl (cc)) (numbered (spelling number (s ∷ n ∷ ds ∷ dn ∷ []) peer [] []))) (
      nothing P r))

  number_back : (number n : ℕ) (first second : List ℕ) → IsBytes first → (r : Request C S) →
      of_number k number n first second ≡ Some r → Back (spelling number (n ∷ []) first second []) r
  number_back number n first second are r =
      let P = λ (r : Request C S). Back (spelling number (n ∷ []) first second []) r in
      let P2 = λ (r : Request C S). Back (spelling number (n ∷ []) [] [] []) r in
      pick P number 2 (SetOf n first second) _ r (λ e. inl (cc)) (
      pick_in P number 7 _ _ r connect (λ h.
      let w = when_is (is_empty first && is_empty second) _ r h in
      let v = both (is_empty first) (is_empty second) w.0 in
      subst (λ b. Back (spelling number (n ∷ []) b second []) r) (sym (empty first v.0))
      (subst (λ b. Back (spelling number (n ∷ []) [] b []) r) (sym (empty second v.1)) (
      pick P2 number 16 (Written (Ok (Ask (PeerSet n)))) _ r (λ e. inl (cc)) (
      pick P2 number 22 (Written (Ok (Ask (BitsAt n)))) _ r (λ e. inl (cc)) (
      pick P2 number 29 (Looking (Wanted n)) _ r (λ e. inl (cc)) (
      nothing P2 r))) w.1))))
    where
      connect : number ≡ 7 → when (is_empty second) (with_bool (bool_at n)
          (λ dialer. Some (Numbered (of_peer k first (λ p. Connect p dialer))))) ≡ Some r →
          Back (spelling number (n ∷ []) first second []) r
      connect e h =
          let w = when_is (is_empty second) _ r h in
          let v = with_is (bool_at n) (λ dialer. Some (Numbered (of_peer k first (λ p. Connect p dialer)))) r w.1 in
          let is : Numbered (of_peer k first (λ p. Connect p v.0)) ≡ r = (let x = v.2 in cc) in
          subst (λ b. Back (spelling number (n ∷ []) first b []) r) (sym (empty second w.0))
          (subst (Back (spelling number (n ∷ []) first [] [])) is
          (peer_is (λ x. Back (spelling number (n ∷ []) first [] []) (Numbered x)) (λ p. Connect p v.0) first are
          (λ p ep. inl (cc (bool_is n v.0 v.1)))
          (numbered (spelling number (n ∷ []) first [] []))))

  setup_back : (number private_ips dns : ℕ) (rest : List ℕ) (numbers : Bool → Bool → Numbers)
      (namespace bootstrappers myself : List ℕ) →
      ((p d : Bool) → spelling_of (Init (numbers p d) namespace bootstrappers myself)
      ≡ spelling 1 (bit p ∷ bit d ∷ rest) namespace bootstrappers myself) → (r : Request C S) →
      of_setup k number private_ips dns numbers namespace bootstrappers myself ≡ Some r →
      Back (spelling number (private_ips ∷ dns ∷ rest) namespace bootstrappers myself) r
  setup_back number private_ips dns rest numbers namespace bootstrappers myself spells r h =
      let w = when_is (number == 1) _ r h in
      let v = with_is (bool_at private_ips) (λ p. with_bool (bool_at dns) (λ d.
      Some (Init (numbers p d) namespace bootstrappers myself))) r w.1 in
      let u = with_is (bool_at dns) (λ d. Some (Init (numbers v.0 d) namespace bootstrappers myself)) r v.2 in
      let is : Init (numbers v.0 u.0) namespace bootstrappers myself ≡ r = (let x = u.2 in cc) in
      inl (subst (λ r. spelling_of r ≡ spelling number (private_ips ∷ dns ∷ rest) namespace bootstrappers myself) is
      (spells v.0 u.0
      ∙ (ap (λ x. spelling 1 (x ∷ bit u.0 ∷ rest) namespace bootstrappers myself) (bool_is private_ips v.0 v.1)
      ∙ (ap (λ x. spelling 1 (private_ips ∷ x ∷ rest) namespace bootstrappers myself) (bool_is dns u.0 u.1)
      ∙ ap (λ m. spelling m (private_ips ∷ dns ∷ rest) namespace bootstrappers myself)
      (sym (eqb-true number 1 w.0))))))

  spelled_back : (number : ℕ) (numbers first second third : List ℕ) → IsBytes first → (r : Request C S) →
      request_of k number numbers first second third ≡ Some r → Back (spelling number numbers first second third) r
  spelled_back number [] first second third are r h =
      let w = when_is (is_empty second && is_empty third) _ r h in
      let v = both (is_empty second) (is_empty third) w.0 in
      subst (λ b. Back (spelling number [] first b third) r) (sym (empty second v.0))
      (subst (λ b. Back (spelling number [] first [] b) r) (sym (empty third v.1)) (bytes_back number first are r w.1))
  spelled_back number (n ∷ []) first second third are r h =
      let w = when_is (is_empty third) _ r h in
      subst (λ b. Back (spelling number (n ∷ []) first second b) r) (sym (empty third w.0))
      (number_back number n first second are r w.1)
  spelled_back number (s ∷ n ∷ []) first second third are r h =
      let w = when_is (is_empty third) _ r h in
      subst (λ b. Back (spelling number (s ∷ n ∷ []) first second b) r) (sym (empty third w.0))
      (frame_back number first second s n are r w.1)
  spelled_back number (s ∷ n ∷ ds ∷ dn ∷ []) first second third are r h =
      let w = when_is (is_empty second && is_empty third) _ r h in
      let v = both (is_empty second) (is_empty third) w.0 in
      subst (λ b. Back (spelling number (s ∷ n ∷ ds ∷ dn ∷ []) first b third) r) (sym (empty second v.0))
      (subst (λ b. Back (spelling number (s ∷ n ∷ ds ∷ dn ∷ []) first [] b) r) (sym (empty third v.1))
      (draw_back number first s n ds dn are r w.1))
  spelled_back number (p ∷ d ∷ x2 ∷ x3 ∷ x4 ∷ x5 ∷ x6 ∷ x7 ∷ x8 ∷ x9 ∷ x10 ∷ x11 ∷ x12 ∷ x13 ∷ []) first second third are r h =
      setup_back number p d (x2 ∷ x3 ∷ x4 ∷ x5 ∷ x6 ∷ x7 ∷ x8 ∷ x9 ∷ x10 ∷ x11 ∷ x12 ∷ x13 ∷ []) _ first second third
      (λ p d. refl) r h
  spelled_back number _ first second third are r h = absurd (cc)

  pub spelled_once : AreSpelledOnce k
  spelled_once r a b ha hb =
      both_back (spelled_back a.number a.numbers a.first a.second a.third ha.0 r ha.1)
      (spelled_back b.number b.numbers b.first b.second b.third hb.0 r hb.1)
    where
      both_back : (spelling_of r ≡ a) ⊎ IsUnread r → (spelling_of r ≡ b) ⊎ IsUnread r → (a ≡ b) ⊎ IsUnread r
      both_back (inl x) (inl y) = inl (sym x ∙ y)
      both_back (inl x) (inr u) = inr u
      both_back (inr u) y = inr u
