-- Two replies to one call, or to one frame, that are told by one number and the same bytes are one.
use Rattle.std.proofs.Common.{◌≡◌, inl, inr, ℕ, ◌-◌, ◌<◌, ◌^◌, Bool, true}
use Rattle.std.proofs.Common.{false, List, [], ◌∷◌, ◌++◌, length, Option, Some, None, Vec, Global}
use Rattle.std.proofs.Common.{refl, sym, ap, ◌∙◌, subst, arith}
use Rattle.std.specs.Prelude.{IfSome, option_map, if◌then◌else◌, ◌&&◌}
use Rattle.std.specs.Duration.{as_nanos}
use Rattle.std.specs.List.{AllByRecursion}
use Rattle.std.specs.declared.time.Duration.{Duration}
use Rattle.std.proofs.lemmas.Bool.{le-leb}
use Rattle.std.proofs.lemmas.List.{append-nil, length-append}
use Rattle.p2p_discovery.specs.declared.codec.error.CodecError.{CodecError}
use Rattle.p2p_discovery.specs.declared.codec.error.CodecError.TheVariants as fault
use Rattle.p2p_discovery.specs.declared.codec.error.What.{What}
use Rattle.p2p_discovery.specs.declared.codec.error.What.TheVariants as what
use Rattle.p2p_discovery.specs.declared.discovery.BitVec.{BitVec}
use Rattle.p2p_discovery.specs.declared.discovery.Error.{Error}
use Rattle.p2p_discovery.specs.declared.discovery.Error.TheVariants as error
use Rattle.p2p_discovery.specs.declared.discovery.Info.{Info}
use Rattle.p2p_discovery.specs.BitVec.{bit_vec_spelling, IsBitVecAllowed}
use Rattle.p2p_discovery.specs.Fixed.{IsFixed}
use Rattle.p2p_discovery.specs.Info.{IsInfo, IsKeyed, AreAllowed, infos_spelling}
use Rattle.p2p_discovery.specs.Laws.BitVec.{lawful_bit_vec}
use Rattle.p2p_discovery.specs.Laws.Info.{lawful_info, lawful_infos}
use Rattle.p2p_discovery.specs.Laws.Ingress.{lawful_ingress}
use Rattle.p2p_discovery.specs.declared.types.ingress.Ingress.{Ingress}
use Rattle.p2p_discovery.specs.Ingress.{IsIngress, ingress_spelling}
use Rattle.p2p_discovery.specs.Payload.{up_to}
use Rattle.p2p_discovery.specs.Reading.{IsBytes}
use Rattle.p2p_tracker.specs.Calls.{Call, Question, Settings, Event}
use Rattle.p2p_tracker.specs.Calls.Call.{Track, Dial, Listen, Connect, Release, Update, Block}
use Rattle.p2p_tracker.specs.Calls.Call.{UnblockExpired, ForgetCooled, Ask}
use Rattle.p2p_tracker.specs.Calls.Question.{StatusOf, NumberTracked, NextUnblock, BlockedAt}
use Rattle.p2p_tracker.specs.Calls.Question.{PeerSet, LatestIndex, AllPeers, LatestUpdate, InfoOf}
use Rattle.p2p_tracker.specs.Calls.Question.{InfosFor, BitsAt, IsEligible, IsAcceptable, DialableAt}
use Rattle.p2p_tracker.specs.Calls.Question.{IngressOf, MayListen}
use Rattle.p2p_tracker.specs.World.{World}
use Rattle.p2p_tracker.specs.declared.directory.PeerSetUpdate.{PeerSetUpdate}
use Rattle.p2p_tracker.specs.declared.directory.TrackedPeers.{TrackedPeers}
use Rattle.p2p_tracker.specs.declared.record.Status.{Status}
use Rattle.p2p_tracker.specs.declared.record.Status.TheVariants.{Inert, Reserved, Active}
use Rattle.p2p_tracker.specs.declared.record.dialing.Dialable.{Dialable}
use Rattle.p2p_tracker.specs.Answers.{may_connect, may_release}
use Rattle.p2p_directory.specs.declared.node.received.Received.{Received}
use Rattle.p2p_directory.specs.declared.node.received.Received.TheVariants as received
use Rattle.p2p_directory.specs.declared.run.commands.Reply.{Reply}
use Rattle.p2p_directory.specs.declared.run.commands.Reply.TheVariants as reply
use Rattle.p2p_directory.specs.Nodes.{Made, IsStepAnswer}
use Rattle.p2p_directory.specs.Run.{Replies, Informs, event_of, world_after}
use Rattle.p2p_session.specs.Alike.{AreAlike, IsWhole, IsDuration, IsFault, IsError, AreKeyValues}
use Rattle.p2p_session.specs.Alike.{ArePeers, HasValues, TellsOfCall}
use Rattle.p2p_session.specs.Alike.{TellsOfFrame}
use Rattle.p2p_session.specs.Answers.{IsAnswered, Tells, truth, optional, status_number}
use Rattle.p2p_session.specs.Answers.{moment_bytes, keys_bytes, peers_bytes, update_bytes}
use Rattle.p2p_session.specs.Answers.{info_bytes, dialable_bytes, number}
use Rattle.p2p_session.specs.Frames.{fault_bytes, error_bytes}
use Rattle.p2p_session.specs.Given.{IsInfoOfKeys}
use Rattle.p2p_session.specs.Schemes.{Scheme}
use Rattle.p2p_session.specs.Sessions.{TellsReply, answer_to}
use Rattle.p2p_session.proofs.Heard.{message_ends}
use Rattle.p2p_session.proofs.Parts.{cut, encoded_is, number_is, values_are}
use Rattle.p2p_session.proofs.Told.{number_before, moment_before, two_lists, four_lists}
use Rattle.p2p_session.proofs.Told.{stands_in_front}

-- ---- which replies a call may have, beside want of memory

abbrev pub QuestionForm : {C S : Type 0} → Question C → Reply C S → Type 0
QuestionForm (StatusOf p) r = (x : Option Status) × (r ≡ reply.Status x)
QuestionForm NumberTracked r = (x : ℕ) × (r ≡ reply.Tracked x)
QuestionForm NextUnblock r = (x : Option Duration) × (r ≡ reply.NextUnblock x)
QuestionForm {C} (BlockedAt t) r = (x : List C) × (r ≡ reply.BlockedPeers x)
QuestionForm {C} {S} (PeerSet index) r = (x : Option (TrackedPeers C S)) × (r ≡ reply.GetPeerSet x)
QuestionForm LatestIndex r = (x : Option ℕ) × (r ≡ reply.LatestSetIndex x)
QuestionForm {C} {S} AllPeers r = (x : TrackedPeers C S) × (r ≡ reply.All x)
QuestionForm {C} {S} LatestUpdate r = (x : Option (PeerSetUpdate C S)) × (r ≡ reply.LatestUpdate x)
QuestionForm {C} {S} (InfoOf p) r = (x : Option (Info C S)) × (r ≡ reply.Info x)
QuestionForm (IngressOf p) r = (x : Option Ingress) × (r ≡ reply.Ingress x)
QuestionForm {C} {S} (InfosFor index bits t) r =
    (x : Option (Vec (Info C S) Global)) × (r ≡ reply.Infos x)
QuestionForm (BitsAt place) r = (x : Option BitVec) × (r ≡ reply.GetRandomBitVec x)
QuestionForm (IsEligible p t) r = (x : Bool) × (r ≡ reply.Eligible x)
QuestionForm (IsAcceptable p t) r = (x : Bool) × (r ≡ reply.Acceptable x)
QuestionForm (MayListen p t) r = (x : Bool) × (r ≡ reply.MayListen x)
QuestionForm {C} {S} (DialableAt t) r = (x : Dialable C S) × (r ≡ reply.Dialable x)

abbrev pub CallForm : {C S : Type 0} → Call C S → Reply C S → Type 0
CallForm {C} (Track index primary secondary) r = (x : Option (List C)) × (r ≡ reply.Track x)
CallForm (Dial p t draw) r = (x : Bool) × (r ≡ reply.Dial x)
CallForm (Listen p t draw) r = (x : Bool) × (r ≡ reply.Listen x)
CallForm (Connect p dialer) r = (x : Bool) × (r ≡ (if x then reply.Connect else reply.NotReserved))
CallForm (Release p) r = (x : Bool) × (r ≡ (if x then reply.Release else reply.NotHeld))
CallForm (Update infos) r = r ≡ reply.UpdatePeers
CallForm (Block p t) r = (x : Bool) × (r ≡ reply.Block x)
CallForm (UnblockExpired t) r = (x : Bool) × (r ≡ reply.UnblockExpired x)
CallForm (ForgetCooled t) r = (x : ℕ) × (r ≡ reply.ForgetCooled x)
CallForm (Ask question) r = QuestionForm question r

module _ {C S : Type 0} (s : Settings C S) where
  question_form : (w : World C S) (question : Question C) (r : Reply C S) →
      Informs s w question r → QuestionForm question r
  question_form w (StatusOf p) r h = (_, h)
  question_form w NumberTracked (reply.Tracked x) h = (x, refl)
  question_form w NextUnblock (reply.NextUnblock x) h = (x, refl)
  question_form w (BlockedAt t) (reply.BlockedPeers x) h = (x, refl)
  question_form w (PeerSet index) r h = (_, h)
  question_form w LatestIndex r h = (_, h)
  question_form w AllPeers (reply.All x) h = (x, refl)
  question_form w LatestUpdate (reply.LatestUpdate x) h = (x, refl)
  question_form w (InfoOf p) r h = (_, h)
  question_form w (IngressOf p) r h = (_, h)
  question_form w (InfosFor index bits t) (reply.Infos x) h = (x, refl)
  question_form w (BitsAt place) r h = (_, h)
  question_form w (IsEligible p t) r h = (_, h)
  question_form w (IsAcceptable p t) r h = (_, h)
  question_form w (MayListen p t) r h = (_, h)
  question_form w (DialableAt t) (reply.Dialable x) h = (x, refl)
  question_form w _ _ h = absurd h

  pub call_form : (e : Event C S) (w v : World C S) (call : Call C S) (r : Reply C S) →
      Replies s e w v call r → CallForm call r
  call_form e w v (Track index primary secondary) (reply.Track x) h = (x, refl)
  call_form e w v (Dial p t draw) r h = (_, h)
  call_form e w v (Listen p t draw) r h = (_, h)
  call_form e w v (Connect p dialer) r h = (may_connect s w p, h)
  call_form e w v (Release p) r h = (may_release s w p, h)
  call_form e w v (Update infos) r h = h
  call_form e w v (Block p t) r h = (_, h)
  call_form e w v (UnblockExpired t) (reply.UnblockExpired x) h = (x, refl)
  call_form e w v (ForgetCooled t) (reply.ForgetCooled x) h = (x, refl)
  call_form e w v (Ask question) r h = question_form w question r h
  call_form e w v _ _ h = absurd h

-- ---- what is told

some_is : {A : Type 0} (x y : A) → Some x ≡ Some y → x ≡ y
some_is x y e = cc

same_map : {A : Type 0} (a b : Option A) → option_map (λ x. x) a ≡ option_map (λ x. x) b → a ≡ b
same_map None None e = refl
same_map None (Some y) e = absurd (cc)
same_map (Some x) None e = absurd (cc)
same_map (Some x) (Some y) e = cc

module _ (out out2 : List ℕ) (n : ℕ) (whole : IsWhole out n) where
  pub bytes_are : (x y : List ℕ) → IsAnswered x out out2 n → IsAnswered y out out2 n → x ≡ y
  bytes_are x y a b = elim whole.fits [
    | inl fits ↦ sym (stands_in_front x out out2 n a.count a.room fits whole.room)
        ∙ stands_in_front y out out2 n b.count b.room fits whole.room
    | inr over ↦ absurd (let count = a.count in omega (arith, over, count))
  ]

  -- a refusal's number is above all lengths
  pub no_refusal : (m : ℕ) (x : List ℕ) → 2 ^ 63 < m → n ≡ m → IsAnswered x out out2 n → ⊥
  no_refusal m x above is a = let count = a.count in omega (arith, above, is, count)

  optional_are : {A B : Type 0} (bytes : A → List ℕ) (P : A → Type 0) (f : A → B) →
      ((x y : A) → P x → P y → bytes x ≡ bytes y → f x ≡ f y) → (a b : Option A) → IfSome a P →
      IfSome b P →
      Tells (optional bytes a) out out2 n → Tells (optional bytes b) out out2 n →
      option_map f a ≡ option_map f b
  optional_are bytes P f one None None h i t u = refl
  optional_are bytes P f one None (Some y) h i t u =
      absurd (no_refusal (2 ^ 64 - 3) (bytes y) (omega arith) t.0 u)
  optional_are bytes P f one (Some x) None h i t u =
      absurd (no_refusal (2 ^ 64 - 3) (bytes x) (omega arith) u.0 t)
  optional_are bytes P f one (Some x) (Some y) h i t u =
      ap Some (one x y h i (bytes_are (bytes x) (bytes y) t u))

  optional_is : {A : Type 0} (bytes : A → List ℕ) (P : A → Type 0) →
      ((x y : A) → P x → P y → bytes x ≡ bytes y → x ≡ y) → (a b : Option A) → IfSome a P →
      IfSome b P →
      Tells (optional bytes a) out out2 n → Tells (optional bytes b) out out2 n → a ≡ b
  optional_is bytes P one a b h i t u = same_map a b (optional_are bytes P (λ x. x) one a b h i t u)

  truth_is : (a b : Bool) → Tells (truth a) out out2 n → Tells (truth b) out out2 n → a ≡ b
  truth_is true true t u = refl
  truth_is true false t u = absurd (let x = t.0 in let y = u.0 in omega (arith, x, y))
  truth_is false true t u = absurd (let x = t.0 in let y = u.0 in omega (arith, x, y))
  truth_is false false t u = refl

  -- the number of a status
  abbrev status_told : Option Status → ℕ
  status_told None = 2 ^ 64 - 3
  status_told (Some Inert) = 0
  status_told (Some Reserved) = 1
  status_told (Some Active) = 2

  status_number_is : (a : Option Status) → Tells (status_number a) out out2 n → n ≡ status_told a
  status_number_is None t = t.0
  status_number_is (Some Inert) t = t.0
  status_number_is (Some Reserved) t = t.0
  status_number_is (Some Active) t = t.0

  status_is : (a b : Option Status) → Tells (status_number a) out out2 n →
      Tells (status_number b) out out2 n → a ≡ b
  status_is a b t u = go a b (sym (status_number_is a t) ∙ status_number_is b u)
    where
      go : (a b : Option Status) → status_told a ≡ status_told b → a ≡ b
      go None None e = refl
      go (Some Inert) (Some Inert) e = refl
      go (Some Reserved) (Some Reserved) e = refl
      go (Some Active) (Some Active) e = refl
      go None (Some Inert) e = absurd (omega (arith, e))
      go None (Some Reserved) e = absurd (omega (arith, e))
      go None (Some Active) e = absurd (omega (arith, e))
      go (Some Inert) None e = absurd (omega (arith, e))
      go (Some Reserved) None e = absurd (omega (arith, e))
      go (Some Active) None e = absurd (omega (arith, e))
      go (Some Inert) (Some Reserved) e = absurd (omega (arith, e))
      go (Some Inert) (Some Active) e = absurd (omega (arith, e))
      go (Some Reserved) (Some Inert) e = absurd (omega (arith, e))
      go (Some Reserved) (Some Active) e = absurd (omega (arith, e))
      go (Some Active) (Some Inert) e = absurd (omega (arith, e))
      go (Some Active) (Some Reserved) e = absurd (omega (arith, e))

  module _ {C S : Type 0} (k : Scheme C S)
      (key_laws : IsFixed k.key.SIZE k.key.spelled k.key.value k.key.IsValue)
      (signature_laws : IsFixed k.signature.SIZE k.signature.spelled k.signature.value
      k.signature.IsValue) where
    -- ---- keys, and what is made of them

    key_is : (x y : C) → k.key.IsValue x → k.key.IsValue y → k.key.spelled x ≡ k.key.spelled y →
        x ≡ y
    key_is x y h i e = some_is x y
        (sym (key_laws.again x h).1 ∙ (ap k.key.value e ∙ (key_laws.again y i).1))

    info_is : (x y : Info C S) → IsInfoOfKeys k x →
        IsInfoOfKeys k y → info_bytes k x ≡ info_bytes k y → x ≡ y
    info_is x y h i e = encoded_is (lawful_info key_laws signature_laws) x y h i e

    module _ (some : 0 < k.key.SIZE) where
      keys_are : (x y : List C) → AreKeyValues k x → AreKeyValues k y →
          keys_bytes k x ≡ keys_bytes k y → x ≡ y
      keys_are x y h i e = values_are k.key.spelled k.key.IsValue k.key.SIZE some key_laws.len
          key_is x y h.0 i.0 e

      below : (m : ℕ) → m < 2 ^ 63 → m < 2 ^ 64
      below m h = omega (arith, h)

      peers_are : (x y : TrackedPeers C S) → ArePeers k x → ArePeers k y →
          peers_bytes k x ≡ peers_bytes k y → x ≡ y
      peers_are x y h i e =
          let it = two_lists k.key.spelled k.key.IsValue k.key.SIZE some key_laws.len key_is
          x.primary x.secondary y.primary y.secondary h.0.0 h.1.0 i.0.0 i.1.0
          (below (length x.primary) h.0.1) (below (length y.primary) i.0.1) e in
          let made : List C → List C → TrackedPeers C S =
          λ p s. record { primary = p; secondary = s } in
          ap (λ p. made p x.secondary) it.0 ∙ ap (λ s. made y.primary s) it.1

      update_is : (x y : PeerSetUpdate C S) →
          (x.index < 2 ^ 64) × ArePeers k x.latest × ArePeers k x.all →
          (y.index < 2 ^ 64) × ArePeers k y.latest × ArePeers k y.all →
          update_bytes k x ≡ update_bytes k y → x ≡ y
      update_is x y h i e =
          let it = four_lists k.key.spelled k.key.IsValue k.key.SIZE some key_laws.len key_is
          x.index y.index
          x.latest.primary x.latest.secondary x.all.primary x.all.secondary
          y.latest.primary y.latest.secondary y.all.primary y.all.secondary h.0 i.0
          h.1.0.0 h.1.1.0 h.2.0.0 h.2.1.0 i.1.0.0 i.1.1.0 i.2.0.0 i.2.1.0
          (below (length x.latest.primary) h.1.0.1) (below (length x.latest.secondary) h.1.1.1)
          (below (length x.all.primary) h.2.0.1) (below (length y.latest.primary) i.1.0.1)
          (below (length y.latest.secondary) i.1.1.1) (below (length y.all.primary) i.2.0.1) e in
          made_is x y it.0 (peers_by x.latest y.latest it.1 it.2) (peers_by x.all y.all it.3 it.4)
        where
          peers_by : (x y : TrackedPeers C S) → x.primary ≡ y.primary → x.secondary ≡ y.secondary →
              x ≡ y
          peers_by x y p s =
              let made : List C → List C → TrackedPeers C S =
              λ p s. record { primary = p; secondary = s } in
              ap (λ p. made p x.secondary) p ∙ ap (λ s. made y.primary s) s

          made_is : (x y : PeerSetUpdate C S) → x.index ≡ y.index → x.latest ≡ y.latest →
              x.all ≡ y.all → x ≡ y
          made_is x y i l a =
              let made : ℕ → TrackedPeers C S → TrackedPeers C S → PeerSetUpdate C S =
              λ i l a. record { index = i; latest = l; all = a } in
              ap (λ i. made i x.latest x.all) i
              ∙ (ap (λ l. made y.index l x.all) l ∙ ap (λ a. made y.index y.latest a) a)

      dialable_is : (a b : Option Duration) (x y : List C) → IfSome a IsDuration →
          IfSome b IsDuration →
          AreKeyValues k x → AreKeyValues k y →
          dialable_bytes k (option_map as_nanos a) x ≡ dialable_bytes k (option_map as_nanos b) y →
          (x ≡ y) × (option_map as_nanos a ≡ option_map as_nanos b)
      dialable_is None None x y ha hb h i e =
          let tail : keys_bytes k x ++ [] ≡ keys_bytes k y ++ [] = cc in (
            keys_are x y h i (sym (append-nil (keys_bytes k x))
                ∙ (tail ∙ append-nil (keys_bytes k y))),
            refl,
          )
      dialable_is None (Some u) x y ha hb h i e = absurd (cc)
      dialable_is (Some t) None x y ha hb h i e = absurd (cc)
      dialable_is (Some t) (Some u) x y ha hb h i e =
          let tail = behind 1 _ 1 _ e in
          let moment = moment_before (as_nanos t) (as_nanos u) (keys_bytes k x ++ [])
          (keys_bytes k y ++ []) ha hb tail in (
            keys_are x y h i (sym (append-nil (keys_bytes k x))
                ∙ (moment.1 ∙ append-nil (keys_bytes k y))),
            ap Some moment.0,
          )
        where
          behind : (a : ℕ) (l : List ℕ) (b : ℕ) (m : List ℕ) → a ∷ l ≡ b ∷ m → l ≡ m
          behind a l b m e = cc

      moment_is : (x y : Duration) → IsDuration x → IsDuration y →
          moment_bytes (as_nanos x) ≡ moment_bytes (as_nanos y) → as_nanos x ≡ as_nanos y
      moment_is x y h i e = (moment_before (as_nanos x) (as_nanos y) [] [] h i e).0

      infos_are : (x y : Vec (Info C S) Global) →
          AllByRecursion (IsInfoOfKeys k) x.items × (length x.items < 2 ^ 32) →
          AllByRecursion (IsInfoOfKeys k) y.items × (length y.items < 2 ^ 32) →
          infos_spelling k.key.spelled k.signature.spelled x.items
          ≡ infos_spelling k.key.spelled k.signature.spelled y.items →
          x.items ≡ y.items
      infos_are x y h i e =
          encoded_is (lawful_infos key_laws signature_laws (up_to (2 ^ 64 - 1))) x.items y.items
          (allowed x.items h) (allowed y.items i) e
        where
          both : {a b : Bool} → a ≡ true → b ≡ true → a && b ≡ true
          both {a} {b} h i = ap (λ c. c && b) h ∙ i

          is_infos : (l : List (Info C S)) → AllByRecursion (IsInfoOfKeys k) l →
              AllByRecursion IsInfo l
          is_infos [] h = tt
          is_infos (x ∷ l) h = (h.0.0, is_infos l h.1)

          are_keyed : (l : List (Info C S)) → AllByRecursion (IsInfoOfKeys k) l →
              AllByRecursion (IsKeyed k.key.IsValue k.signature.IsValue) l
          are_keyed [] h = tt
          are_keyed (x ∷ l) h = (h.0.1, are_keyed l h.1)

          allowed : (l : List (Info C S)) →
              AllByRecursion (IsInfoOfKeys k) l × (length l < 2 ^ 32) →
              AllByRecursion IsInfo l × AreAllowed k.key.IsValue k.signature.IsValue
              (up_to (2 ^ 64 - 1)) l
          allowed l h = (
            is_infos l h.0,
            record {
              within = both (le-leb 0 (length l) (omega arith))
                  (le-leb (length l) (2 ^ 64 - 1) (let few = h.1 in omega (arith, few)));
              small = h.1;
              keyed = are_keyed l h.0;
            },
          )

      -- ---- replies

      -- both are told, so they are alike
      abbrev Agree : Reply C S → Reply C S → Type 0
      Agree r r2 = HasValues k r → HasValues k r2 → TellsReply k r out out2 n →
          TellsReply k r2 out out2 n → AreAlike r r2

      agree : (r r2 a b : Reply C S) → r ≡ a → r2 ≡ b → Agree a b → Agree r r2
      agree r r2 a b e f h = subst (λ x. Agree x r2) (sym e) (subst (λ y. Agree a y) (sym f) h)

      -- it isn't want of memory that is told
      plain : (r : Reply C S) → TellsReply k r out out2 n → Tells (answer_to k r) out out2 n
      plain r (inl h) = absurd (whole.no_want h.1.0)
      plain r (inr h) = h

      ingress_is : (x y : Ingress) → IsIngress x → IsIngress y →
          ingress_spelling x ≡ ingress_spelling y → x ≡ y
      ingress_is x y h i e = encoded_is lawful_ingress x y h i e

      bits_are : (x y : BitVec) → (x.index < 2 ^ 64) × (length x.bits < 2 ^ 64) →
          (y.index < 2 ^ 64) × (length y.bits < 2 ^ 64) → bit_vec_spelling x ≡ bit_vec_spelling y →
          x ≡ y
      bits_are x y h i e = encoded_is (lawful_bit_vec (2 ^ 64)) x y (allowed x h) (allowed y i) e
        where
          allowed : (v : BitVec) → (v.index < 2 ^ 64) × (length v.bits < 2 ^ 64) →
              (v.index < 2 ^ 64) × IsBitVecAllowed (2 ^ 64) v
          allowed v h = (
            h.0,
            record
                { within = (let few = h.1 in omega (arith, few)); small = h.1 },
          )

      questions : (question : Question C) (r r2 : Reply C S) → QuestionForm question r →
          QuestionForm question r2 → Agree r r2
      questions (StatusOf p) r r2 (x, e) (y, f) = agree r r2 (reply.Status x) (reply.Status y) e f
          (λ h i t u. ap reply.Status
          (status_is x y (plain (reply.Status x) t) (plain (reply.Status y) u)))
      questions NumberTracked r r2 (x, e) (y, f) =
          agree r r2 (reply.Tracked x) (reply.Tracked y) e f
          (λ h i t u. ap reply.Tracked
          (sym (plain (reply.Tracked x) t).0 ∙ (plain (reply.Tracked y) u).0))
      questions NextUnblock r r2 (x, e) (y, f) =
          agree r r2 (reply.NextUnblock x) (reply.NextUnblock y) e f
          (λ h i t u. optional_are (λ t. moment_bytes (as_nanos t)) IsDuration as_nanos moment_is x
          y h i
          (plain (reply.NextUnblock x) t) (plain (reply.NextUnblock y) u))
      questions (BlockedAt at) r r2 (x, e) (y, f) =
          agree r r2 (reply.BlockedPeers x) (reply.BlockedPeers y) e f
          (λ h i t u. ap reply.BlockedPeers
          (keys_are x y h i (bytes_are (keys_bytes k x) (keys_bytes k y)
          (plain (reply.BlockedPeers x) t) (plain (reply.BlockedPeers y) u))))
      questions (PeerSet index) r r2 (x, e) (y, f) =
          agree r r2 (reply.GetPeerSet x) (reply.GetPeerSet y) e f
          (λ h i t u. ap reply.GetPeerSet
          (optional_is (peers_bytes k) (ArePeers k) peers_are x y h i
          (plain (reply.GetPeerSet x) t) (plain (reply.GetPeerSet y) u)))
      questions LatestIndex r r2 (x, e) (y, f) =
          agree r r2 (reply.LatestSetIndex x) (reply.LatestSetIndex y) e f
          (λ h i t u. ap reply.LatestSetIndex
          (optional_is number (λ n. n < 2 ^ 64) number_is x y h i
          (plain (reply.LatestSetIndex x) t) (plain (reply.LatestSetIndex y) u)))
      questions AllPeers r r2 (x, e) (y, f) = agree r r2 (reply.All x) (reply.All y) e f
          (λ h i t u. ap reply.All (peers_are x y h i (bytes_are (peers_bytes k x) (peers_bytes k y)
          (plain (reply.All x) t) (plain (reply.All y) u))))
      questions LatestUpdate r r2 (x, e) (y, f) =
          agree r r2 (reply.LatestUpdate x) (reply.LatestUpdate y) e f
          (λ h i t u. ap reply.LatestUpdate (optional_is (update_bytes k)
          (λ u. (u.index < 2 ^ 64) × ArePeers k u.latest × ArePeers k u.all) update_is x y h i
          (plain (reply.LatestUpdate x) t) (plain (reply.LatestUpdate y) u)))
      questions (InfoOf p) r r2 (x, e) (y, f) = agree r r2 (reply.Info x) (reply.Info y) e f
          (λ h i t u. ap reply.Info (optional_is (info_bytes k) (IsInfoOfKeys k) info_is x y h i
          (plain (reply.Info x) t) (plain (reply.Info y) u)))
      questions (IngressOf p) r r2 (x, e) (y, f) =
          agree r r2 (reply.Ingress x) (reply.Ingress y) e f
          (λ h i t u. ap reply.Ingress (optional_is ingress_spelling IsIngress ingress_is x y h i
          (plain (reply.Ingress x) t) (plain (reply.Ingress y) u)))
      questions (InfosFor index bits at) r r2 (x, e) (y, f) =
          agree r r2 (reply.Infos x) (reply.Infos y) e f
          (λ h i t u. optional_are (λ v. infos_spelling k.key.spelled k.signature.spelled v.items)
          (λ v. AllByRecursion (IsInfoOfKeys k) v.items × (length v.items < 2 ^ 32))
          (λ v. v.items) infos_are x y h i
          (plain (reply.Infos x) t) (plain (reply.Infos y) u))
      questions (BitsAt place) r r2 (x, e) (y, f) =
          agree r r2 (reply.GetRandomBitVec x) (reply.GetRandomBitVec y) e f
          (λ h i t u. ap reply.GetRandomBitVec (optional_is bit_vec_spelling
          (λ v. (v.index < 2 ^ 64) × (length v.bits < 2 ^ 64)) bits_are x y h i
          (plain (reply.GetRandomBitVec x) t) (plain (reply.GetRandomBitVec y) u)))
      questions (IsEligible p at) r r2 (x, e) (y, f) =
          agree r r2 (reply.Eligible x) (reply.Eligible y) e f
          (λ h i t u. ap reply.Eligible
          (truth_is x y (plain (reply.Eligible x) t) (plain (reply.Eligible y) u)))
      questions (IsAcceptable p at) r r2 (x, e) (y, f) =
          agree r r2 (reply.Acceptable x) (reply.Acceptable y) e f
          (λ h i t u. ap reply.Acceptable
          (truth_is x y (plain (reply.Acceptable x) t) (plain (reply.Acceptable y) u)))
      questions (MayListen p at) r r2 (x, e) (y, f) =
          agree r r2 (reply.MayListen x) (reply.MayListen y) e f
          (λ h i t u. ap reply.MayListen
          (truth_is x y (plain (reply.MayListen x) t) (plain (reply.MayListen y) u)))
      questions (DialableAt at) r r2 (x, e) (y, f) =
          agree r r2 (reply.Dialable x) (reply.Dialable y) e f
          (λ h i t u. dialable_is x.next_query_at y.next_query_at x.peers.items y.peers.items h.1
          i.1 h.0 i.0
          (bytes_are (dialable_bytes k (option_map as_nanos x.next_query_at) x.peers.items)
          (dialable_bytes k (option_map as_nanos y.next_query_at) y.peers.items)
          (plain (reply.Dialable x) t) (plain (reply.Dialable y) u)))

      connects : (x y : Bool) →
          Agree (if x then reply.Connect else reply.NotReserved)
          (if y then reply.Connect else reply.NotReserved)
      connects true true h i t u = refl
      connects false false h i t u = refl
      connects true false h i t u =
          absurd (let a = (plain reply.Connect t).0 in let b = (plain reply.NotReserved u).0 in
          omega (arith, a, b))
      connects false true h i t u =
          absurd (let a = (plain reply.NotReserved t).0 in let b = (plain reply.Connect u).0 in
          omega (arith, a, b))

      releases : (x y : Bool) →
          Agree (if x then reply.Release else reply.NotHeld)
          (if y then reply.Release else reply.NotHeld)
      releases true true h i t u = refl
      releases false false h i t u = refl
      releases true false h i t u =
          absurd (let a = (plain reply.Release t).0 in let b = (plain reply.NotHeld u).0 in
          omega (arith, a, b))
      releases false true h i t u =
          absurd (let a = (plain reply.NotHeld t).0 in let b = (plain reply.Release u).0 in
          omega (arith, a, b))

      calls : (call : Call C S) (r r2 : Reply C S) → CallForm call r → CallForm call r2 → Agree r r2
      calls (Track index primary secondary) r r2 (x, e) (y, f) =
          agree r r2 (reply.Track x) (reply.Track y) e f
          (λ h i t u. ap reply.Track (optional_is (keys_bytes k) (AreKeyValues k) keys_are x y h i
          (plain (reply.Track x) t) (plain (reply.Track y) u)))
      calls (Dial p at draw) r r2 (x, e) (y, f) = agree r r2 (reply.Dial x) (reply.Dial y) e f
          (λ h i t u. ap reply.Dial
          (truth_is x y (plain (reply.Dial x) t) (plain (reply.Dial y) u)))
      calls (Listen p at draw) r r2 (x, e) (y, f) = agree r r2 (reply.Listen x) (reply.Listen y) e f
          (λ h i t u. ap reply.Listen
          (truth_is x y (plain (reply.Listen x) t) (plain (reply.Listen y) u)))
      calls (Connect p dialer) r r2 (x, e) (y, f) =
          agree r r2 (if x then reply.Connect else reply.NotReserved)
          (if y then reply.Connect else reply.NotReserved) e f (connects x y)
      calls (Release p) r r2 (x, e) (y, f) = agree r r2 (if x then reply.Release else reply.NotHeld)
          (if y then reply.Release else reply.NotHeld) e f (releases x y)
      calls (Update infos) r r2 e f =
          agree r r2 reply.UpdatePeers reply.UpdatePeers e f (λ h i t u. refl)
      calls (Block p at) r r2 (x, e) (y, f) = agree r r2 (reply.Block x) (reply.Block y) e f
          (λ h i t u. ap reply.Block
          (truth_is x y (plain (reply.Block x) t) (plain (reply.Block y) u)))
      calls (UnblockExpired at) r r2 (x, e) (y, f) =
          agree r r2 (reply.UnblockExpired x) (reply.UnblockExpired y) e f
          (λ h i t u. ap reply.UnblockExpired
          (truth_is x y (plain (reply.UnblockExpired x) t) (plain (reply.UnblockExpired y) u)))
      calls (ForgetCooled at) r r2 (x, e) (y, f) =
          agree r r2 (reply.ForgetCooled x) (reply.ForgetCooled y) e f
          (λ h i t u. ap reply.ForgetCooled
          (sym (plain (reply.ForgetCooled x) t).0 ∙ (plain (reply.ForgetCooled y) u).0))
      calls (Ask question) r r2 e f = questions question r r2 e f

      wants : (r : Reply C S) → r ≡ reply.OutOfMemory → TellsReply k r out out2 n → ⊥
      wants r e t = whole.no_want
          ((plain reply.OutOfMemory (subst (λ x. TellsReply k x out out2 n) e t)).0)

      form_of : (m : Made C S) (before : List (Call C S)) (call : Call C S) (r : Reply C S) →
          IsStepAnswer m before call r → TellsReply k r out out2 n → CallForm call r
      form_of m before call r (inl (inl want)) t = absurd (wants r want.0 t)
      form_of m before call r (inl (inr replies)) t =
          let s = m.directory in
          call_form s (event_of s before call) (world_after s before)
          (world_after s (call ∷ before)) call r replies
      form_of m before call r (inr room) t = absurd (wants r room.1 t)

      pub calls_are : (call : Call C S) (r r2 : Reply C S) → TellsOfCall k call r out out2 n →
          TellsOfCall k call r2 out out2 n → AreAlike r r2
      calls_are call r r2 a b =
          calls call r r2 (form_of a.m a.before call r a.answer a.told)
          (form_of b.m b.before call r2 b.answer b.told)
          a.values b.values a.told b.told

    -- ---- frames

    tail_is : (a b : ℕ) (l m : List ℕ) → a ∷ l ≡ b ∷ m → l ≡ m
    tail_is a b l m e = cc

    -- the end of a frame, by its length
    end_is : (f m g l : List ℕ) → length m ≡ length l → f ++ m ≡ g ++ l → m ≡ l
    end_is f m g l same e =
        let whole_length : length (f ++ m) ≡ length (g ++ l) = ap (λ (x : List ℕ). length x) e in
        (cut f m g l (omega (arith, length-append f m, length-append g l, same, whole_length)) e).1

    what_is : (a b : What) → fault_bytes (fault.Invalid a) ≡ fault_bytes (fault.Invalid b) → a ≡ b
    what_is what.Hostname what.Hostname e = refl
    what_is what.Padding what.Padding e = refl
    what_is what.Key what.Key e = refl
    what_is what.Signature what.Signature e = refl
    what_is _ _ e = absurd (cc)

    is_invalid : (a : What) (b : CodecError) → fault_bytes (fault.Invalid a) ≡ fault_bytes b →
        fault.Invalid a ≡ b
    is_invalid a (fault.Invalid b) e = ap fault.Invalid (what_is a b e)
    is_invalid what.Hostname _ e = absurd (cc)
    is_invalid what.Padding _ e = absurd (cc)
    is_invalid what.Key _ e = absurd (cc)
    is_invalid what.Signature _ e = absurd (cc)

    fault_is : (a b : CodecError) → IsFault a → IsFault b → fault_bytes a ≡ fault_bytes b → a ≡ b
    fault_is fault.EndOfBuffer fault.EndOfBuffer h i e = refl
    fault_is (fault.ExtraData x) (fault.ExtraData y) h i e =
        ap fault.ExtraData (number_is x y h i (tail_is 1 1 _ _ e))
    fault_is (fault.InvalidLength x) (fault.InvalidLength y) h i e =
        ap fault.InvalidLength (number_is x y h i (tail_is 2 2 _ _ e))
    fault_is (fault.InvalidVarint x) (fault.InvalidVarint y) h i e =
        ap fault.InvalidVarint (number_is x y h i (tail_is 3 3 _ _ e))
    fault_is (fault.InvalidEnum x) (fault.InvalidEnum y) h i e =
        ap fault.InvalidEnum (number_is x y h i (tail_is 4 4 _ _ e))
    fault_is (fault.Invalid x) b h i e = is_invalid x b e
    fault_is a (fault.Invalid y) h i e = sym (is_invalid y a (sym e))
    fault_is fault.Memory fault.Memory h i e = refl
    fault_is _ _ h i e = absurd (cc)

    error_is : (a b : Error) → IsError a → IsError b → error_bytes a ≡ error_bytes b → a ≡ b
    error_is (error.TooManyPeers x) (error.TooManyPeers y) h i e =
        ap error.TooManyPeers (number_is x y h i (tail_is 0 0 _ _ e))
    error_is error.ReceivedSelf error.ReceivedSelf h i e = refl
    error_is error.InvalidSignature error.InvalidSignature h i e = refl
    error_is error.SynchronyBound error.SynchronyBound h i e = refl
    error_is _ _ h i e = absurd (cc)

    pub returned_are : (frame : List ℕ) → IsBytes frame → (r r2 : Received C S) →
        TellsOfFrame k frame r out out2 n →
        TellsOfFrame k frame r2 out out2 n → r ≡ r2
    returned_are frame bytes received.Memory r2 a b = absurd (whole.no_want a.told.0)
    returned_are frame bytes r received.Memory a b = absurd (whole.no_want b.told.0)
    returned_are frame bytes (received.Data d) (received.Data d2) a b =
        let e = tail_is 0 0 _ _ (bytes_are _ _ a.told b.told) in
        let channel = number_before d.channel d2.channel _ _ a.values.0 b.values.0 e in
        let count = number_is (length d.message) (length d2.message) a.values.1 b.values.1
        channel.1 in
        let end = message_ends k key_laws signature_laws a.verdicts frame a.now a.v a.v2 bytes d
        a.heard.seen in
        let end2 = message_ends k key_laws signature_laws b.verdicts frame b.now b.v b.v2 bytes d2
        b.heard.seen in
        let message : d.message ≡ d2.message =
        end_is end.0 d.message end2.0 d2.message count (sym end.1 ∙ end2.1) in
        let made : ℕ → List ℕ → Received C S =
        λ c m. received.Data (record { channel = c; message = m }) in
        ap (λ c. made c d.message) channel.0 ∙ ap (λ m. made d2.channel m) message
    returned_are frame bytes (received.Greeted x) (received.Greeted y) a b =
        ap received.Greeted (key_is x y a.values b.values
        (tail_is 1 1 _ _ (bytes_are _ _ a.told b.told)))
    returned_are frame bytes (received.Reply x) (received.Reply y) a b =
        ap received.Reply (tail_is 2 2 _ _ (bytes_are _ _ a.told b.told))
    returned_are frame bytes (received.Applied x) (received.Applied y) a b =
        ap received.Applied (number_is x y a.values b.values
        (tail_is 3 3 _ _ (bytes_are _ _ a.told b.told)))
    returned_are frame bytes (received.Codec x) (received.Codec y) a b =
        ap received.Codec (fault_is x y a.values b.values
        (tail_is 4 4 _ _ (bytes_are _ _ a.told b.told)))
    returned_are frame bytes received.Malformed received.Malformed a b = refl
    returned_are frame bytes (received.Invalid x) (received.Invalid y) a b =
        ap received.Invalid (error_is x y a.values b.values
        (tail_is 6 6 _ _ (bytes_are _ _ a.told b.told)))
    returned_are frame bytes _ _ a b = absurd (let e = bytes_are _ _ a.told b.told in cc)
