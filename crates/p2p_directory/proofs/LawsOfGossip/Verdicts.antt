-- The signatures of the infos that are to be verified decide, and no others.
use Rattle.std.proofs.Common.{◌≡◌, ℕ, Bool, true, false, List, [], ◌∷◌, length, Option, Some, None}
use Rattle.std.proofs.Common.{◌++◌, is_some, refl, sym, ◌∙◌, ap}
use Rattle.std.specs.List.{AllByRecursion}
use Rattle.std.specs.Prelude.{if◌then◌else◌, nat_lt, not}
use Rattle.p2p_discovery.specs.declared.discovery.Error.{Error}
use Rattle.p2p_discovery.specs.declared.discovery.Error.TheVariants.{TooManyPeers, ReceivedSelf}
use Rattle.p2p_discovery.specs.declared.discovery.Error.TheVariants.{InvalidSignature}
use Rattle.p2p_discovery.specs.declared.discovery.Error.TheVariants.{SynchronyBound}
use Rattle.p2p_discovery.specs.declared.discovery.Info.{Info}
use Rattle.p2p_discovery.specs.Judgement.{Judge, first_of, is_signed, is_too_late, refusal_if}
use Rattle.p2p_discovery.specs.Judgement.{refusal, first_refusal_by, first_refusal, list_refusal_by}
use Rattle.p2p_discovery.specs.Judgement.{list_refusal, judged_before, to_verify}
use Rattle.p2p_directory.specs.Received.{first_verdict}
use Rattle.p2p_directory.specs.Laws.Verdicts.{judge_with, AreToldBy}

-- why an info is refused, by whether its key is the own one, its timestamp too late, its signature
-- right
abbrev refused_if : Bool → Bool → Bool → Option Error
refused_if own late right =
    if own then Some ReceivedSelf else if late then Some SynchronyBound
    else if not right then Some InvalidSignature else None

-- where it is refused whatever its signature is, that is for one reason
refused_alike : (own late right : Bool) → is_some (refused_if own late true) ≡ true →
    refused_if own late right ≡ refused_if own late true
refused_alike true late right h = refl
refused_alike false true right h = refl
refused_alike false false right h = absurd (cc)

-- a wrong signature is refused
refused_wrong : (own late : Bool) → is_some (refused_if own late false) ≡ true
refused_wrong true late = refl
refused_wrong false true = refl
refused_wrong false false = refl

-- .. for that, where it is refused for nothing else
refused_by_it : (own late : Bool) → is_some (refused_if own late true) ≡ false →
    refused_if own late false ≡ Some InvalidSignature
refused_by_it true late h = absurd (cc)
refused_by_it false true h = absurd (cc)
refused_by_it false false h = refl

is_none : (o : Option Error) → is_some o ≡ false → o ≡ None
is_none None h = refl
is_none (Some e) h = absurd (cc)

-- behind a refusal nothing decides
settled : (first a b : Option Error) → is_some first ≡ true → first_of first a ≡ first_of first b
settled None a b h = absurd (cc)
settled (Some e) a b h = refl

module _ {C S : Type 0} (verifies : C → List ℕ → List ℕ → S → Bool) (j : Judge C S) (now : ℕ) where
  abbrev with_them : Judge C S
  with_them = judge_with verifies j

  abbrev AreTold : List (Info C S) → List Bool → Type 0
  AreTold asked verdicts = AreToldBy verifies j.namespace asked verdicts

  abbrev refuses : Info C S → Bool → Option Error
  refuses i right = refusal_if j right now i

  alike : (i : Info C S) (right other : Bool) → is_some (refuses i true) ≡ true →
      refuses i right ≡ refuses i other
  alike i right other h =
      let own = j.is_me i.public_key in
      let late = is_too_late j now i in
      refused_alike own late right h ∙ sym (refused_alike own late other h)

  -- refused whatever its signature is: nothing behind it decides
  whatever : (i : Info C S) (right other : Bool) (behind rest : Option Error) →
      is_some (refuses i true) ≡ true →
      first_of (refuses i right) behind ≡ first_of (refuses i other) rest
  whatever i right other behind rest e =
      ap (λ o. first_of o behind) (alike i right true e)
      ∙ settled (refuses i true) behind rest e
      ∙ ap (λ o. first_of o rest) (alike i true other e)

  -- .. and what is told of its signature, where it is that of the predicate
  told : (i : Info C S) (right : Bool) (behind rest : Option Error) →
      right ≡ is_signed with_them i → (right ≡ true → behind ≡ rest) →
      first_of (refuses i right) behind ≡ first_of (refuses i (is_signed with_them i)) rest
  told i true behind rest is_right h =
      ap (first_of (refuses i true)) (h refl) ∙ ap (λ b. first_of (refuses i b) rest) is_right
  told i false behind rest is_right h =
      settled (refuses i false) behind rest
      (refused_wrong (j.is_me i.public_key) (is_too_late j now i))
      ∙ ap (λ b. first_of (refuses i b) rest) is_right

  first_suffice : (is : List (Info C S)) (verdicts : List Bool) →
      AreTold (judged_before j now is) verdicts →
      first_refusal_by j verdicts now is ≡ first_refusal with_them now is
  first_suffice [] verdicts h = refl
  first_suffice (i ∷ is) verdicts h =
      go (first_suffice is) (is_some (refuses i true)) refl verdicts h
    where
      go : ((verdicts : List Bool) → AreTold (judged_before j now is) verdicts →
          first_refusal_by j verdicts now is ≡ first_refusal with_them now is) →
          (c : Bool) → is_some (refuses i true) ≡ c → (verdicts : List Bool) →
          AreTold (if c then [] else i ∷ judged_before j now is) verdicts →
          first_refusal_by j verdicts now (i ∷ is) ≡ first_refusal with_them now (i ∷ is)
      go behind true e [] h = whatever i false (is_signed with_them i)
          (first_refusal_by j [] now is) (first_refusal with_them now is) e
      go behind true e (right ∷ verdicts) h = whatever i right (is_signed with_them i)
          (first_refusal_by j verdicts now is) (first_refusal with_them now is) e
      go behind false e [] h = absurd h
      go behind false e (right ∷ verdicts) h = told i right (first_refusal_by j verdicts now is)
          (first_refusal with_them now is) h.0 (λ r. behind verdicts (h.1 r))

  pub list_suffices : (is : List (Info C S)) (verdicts : List Bool) →
      AreTold (to_verify j now is) verdicts →
      list_refusal_by j verdicts now is ≡ list_refusal with_them now is
  list_suffices is verdicts = go (nat_lt j.greatest_count (length is))
    where
      go : (c : Bool) → AreTold (if c then [] else judged_before j now is) verdicts →
          (if c then Some (TooManyPeers (length is)) else first_refusal_by j verdicts now is)
          ≡ (if c then Some (TooManyPeers (length is)) else first_refusal with_them now is)
      go true h = refl
      go false h = first_suffice is verdicts h

  -- a list is refused for a signature that is to be verified, where that is wrong and those before
  -- it are right
  first_needed : (is before : List (Info C S)) (i : Info C S) (behind : List (Info C S)) →
      judged_before j now is ≡ before ++ i ∷ behind →
      AllByRecursion (λ x. is_signed with_them x ≡ true) before → is_signed with_them i ≡ false →
      first_refusal with_them now is ≡ Some InvalidSignature
  first_needed [] [] i behind e h wrong = absurd (cc)
  first_needed [] (y ∷ before) i behind e h wrong = absurd (cc)
  first_needed (x ∷ is) before i behind e h wrong =
      go (first_needed is) (is_some (refuses x true)) refl before e h
    where
      go : ((before : List (Info C S)) (i : Info C S) (behind : List (Info C S)) →
          judged_before j now is ≡ before ++ i ∷ behind →
          AllByRecursion (λ x. is_signed with_them x ≡ true) before →
          is_signed with_them i ≡ false →
          first_refusal with_them now is ≡ Some InvalidSignature) →
          (c : Bool) → is_some (refuses x true) ≡ c → (before : List (Info C S)) →
          (if c then [] else x ∷ judged_before j now is) ≡ before ++ i ∷ behind →
          AllByRecursion (λ x. is_signed with_them x ≡ true) before →
          first_refusal with_them now (x ∷ is) ≡ Some InvalidSignature
      go later true a [] e h = absurd (cc)
      go later true a (y ∷ before) e h = absurd (cc)
      go later false a [] e h =
          let same : x ≡ i = cc in
          ap (λ b. first_of (refuses x b) (first_refusal with_them now is))
          (ap (is_signed with_them) same ∙ wrong)
          ∙ ap (λ o. first_of o (first_refusal with_them now is))
          (refused_by_it (j.is_me x.public_key) (is_too_late j now x) a)
      go later false a (y ∷ before) e h =
          let same : x ≡ y = cc in
          let rest : judged_before j now is ≡ before ++ i ∷ behind = cc in
          ap (λ b. first_of (refuses x b) (first_refusal with_them now is))
          (ap (is_signed with_them) same ∙ h.0)
          ∙ ap (λ o. first_of o (first_refusal with_them now is)) (is_none (refuses x true) a)
          ∙ later before i behind rest h.1 wrong

  pub list_needs : (is before : List (Info C S)) (i : Info C S) (behind : List (Info C S)) →
      to_verify j now is ≡ before ++ i ∷ behind →
      AllByRecursion (λ x. is_signed with_them x ≡ true) before → is_signed with_them i ≡ false →
      list_refusal with_them now is ≡ Some InvalidSignature
  list_needs is before i behind e h wrong = go (nat_lt j.greatest_count (length is)) before e h
    where
      go : (c : Bool) (before : List (Info C S)) →
          (if c then [] else judged_before j now is) ≡ before ++ i ∷ behind →
          AllByRecursion (λ x. is_signed with_them x ≡ true) before →
          (if c then Some (TooManyPeers (length is)) else first_refusal with_them now is)
          ≡ Some InvalidSignature
      go true [] e h = absurd (cc)
      go true (y ∷ before) e h = absurd (cc)
      go false before e h = first_needed is before i behind e h wrong

  pub one_suffices : (i : Info C S) (verdicts : List Bool) →
      AreTold (judged_before j now (i ∷ [])) verdicts →
      refuses i (first_verdict verdicts) ≡ refusal with_them now i
  one_suffices i verdicts h = go (is_some (refuses i true)) refl verdicts h
    where
      go : (c : Bool) → is_some (refuses i true) ≡ c → (verdicts : List Bool) →
          AreTold (if c then [] else i ∷ []) verdicts →
          refuses i (first_verdict verdicts) ≡ refuses i (is_signed with_them i)
      go true e verdicts h = alike i (first_verdict verdicts) (is_signed with_them i) e
      go false e [] h = absurd h
      go false e (right ∷ verdicts) h = ap (refuses i) h.0
