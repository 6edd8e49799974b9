-- Which infos are fine, and why one or a list of them is refused. Moments and bounds: nanoseconds.
use Rattle.std.specs.Prelude.{ℕ, ◌+◌, ◌*◌, ◌^◌, min, Bool, true, false, not, if◌then◌else◌, List, []}
use Rattle.std.specs.Prelude.{◌∷◌, ◌++◌, length, map, Option, Some, None, is_some, Result, Ok, Err}
use Rattle.std.specs.Prelude.{nat_lt}
use Rattle.std.specs.Int.{w64, to_be_bytes}
use Rattle.std.specs.Duration.{max_nanos}
use Rattle.std.specs.Ordering.{is_eq}
use Rattle.std.specs.declared.cmp.Ordering.{Ordering}
use Rattle.p2p_discovery.specs.declared.discovery.Error.{Error}
use Rattle.p2p_discovery.specs.declared.discovery.Error.TheVariants.{TooManyPeers, ReceivedSelf}
use Rattle.p2p_discovery.specs.declared.discovery.Error.TheVariants.{InvalidSignature}
use Rattle.p2p_discovery.specs.declared.discovery.Error.TheVariants.{SynchronyBound}
use Rattle.p2p_discovery.specs.declared.discovery.Info.{Info}
use Rattle.p2p_discovery.specs.declared.types.ingress.Ingress.{Ingress}
use Rattle.p2p_discovery.specs.Ingress.{ingress_spelling}

-- what is signed: the ingress as it is spelled, the timestamp in eight bytes from the greatest on
unfoldable pub signed_bytes : Ingress → ℕ → List ℕ
signed_bytes ingress timestamp = ingress_spelling ingress ++ to_be_bytes w64 timestamp

-- the signature is one of the info's key over the namespace and what is signed
abbrev pub is_signed_in : {C S : Type 0} → (C → List ℕ → List ℕ → S → Bool)
    → List ℕ → Info C S → Bool
is_signed_in verifies namespace i =
    verifies i.public_key namespace (signed_bytes i.ingress i.timestamp) i.signature

-- by what a node judges infos
pub record Judge (C S : Type 0) : Type 0 where
  -- whether a key is its own
  pub is_me : C → Bool
  -- how many infos it takes at a time
  pub greatest_count : ℕ
  -- how far ahead a timestamp may lie
  pub synchrony_bound : ℕ
  pub namespace : List ℕ
  -- whether a signature of a key over a namespace and bytes is right
  pub verifies : C → List ℕ → List ℕ → S → Bool

-- what a verifier holds: the own key, and what else it judges by
pub record Verifier (C : Type 0) : Type 0 where
  pub me : C
  pub greatest_count : ℕ
  pub synchrony_bound : ℕ
  pub namespace : List ℕ

-- the judge that a verifier is, by the order and the signatures of its keys
abbrev pub judge_of : {C S : Type 0} → (C → C → Ordering) → (C → List ℕ → List ℕ → S → Bool)
    → Verifier C → Judge C S
judge_of cmp verifies v = record {
  is_me = λ key. is_eq (cmp v.me key);
  greatest_count = v.greatest_count;
  synchrony_bound = v.synchrony_bound;
  namespace = v.namespace;
  verifies = verifies;
}

-- the first of two refusals, if there is one
abbrev pub first_of : {A : Type 0} → Option A → Option A → Option A
first_of None later = later
first_of (Some e) later = Some e

module _ {C S : Type 0} (j : Judge C S) where
  -- the signature is right
  abbrev pub is_signed : Info C S → Bool
  is_signed i = is_signed_in j.verifies j.namespace i

  -- the timestamp, milliseconds, is later than now and the bound, at most the greatest moment
  abbrev pub is_too_late : ℕ → Info C S → Bool
  is_too_late now i = nat_lt (min (now + j.synchrony_bound) max_nanos) (i.timestamp * 10 ^ 6)

  -- why an info is refused at a moment, if it is, by whether its signature is right: the own key,
  -- the timestamp, the signature
  abbrev pub refusal_if : Bool → ℕ → Info C S → Option Error
  refusal_if right now i =
      if j.is_me i.public_key then Some ReceivedSelf
      else if is_too_late now i then Some SynchronyBound
      else if not right then Some InvalidSignature
      else None

  -- .. by the signatures of its key
  abbrev pub refusal : ℕ → Info C S → Option Error
  refusal now i = refusal_if (is_signed i) now i

  -- the first refusal in list order, if there is one, by whether each info's signature is right, in
  -- the order of the list; a signature of which nothing is said isn't
  abbrev pub first_refusal_by : List Bool → ℕ → List (Info C S) → Option Error
  first_refusal_by verdicts now [] = None
  first_refusal_by [] now (i ∷ is) = first_of (refusal_if false now i) (first_refusal_by [] now is)
  first_refusal_by (right ∷ verdicts) now (i ∷ is) =
      first_of (refusal_if right now i) (first_refusal_by verdicts now is)

  -- whether each signature is right
  abbrev pub verdicts_on : List (Info C S) → List Bool
  verdicts_on is = map is_signed is

  abbrev pub first_refusal : ℕ → List (Info C S) → Option Error
  first_refusal now is = first_refusal_by (verdicts_on is) now is

  -- why a list is refused at a moment, if it is, by these verdicts: too many infos, before the first
  -- refused one
  abbrev pub list_refusal_by : List Bool → ℕ → List (Info C S) → Option Error
  list_refusal_by verdicts now is =
      if nat_lt j.greatest_count (length is) then Some (TooManyPeers (length is))
      else first_refusal_by verdicts now is

  -- .. by the signatures of their keys
  abbrev pub list_refusal : ℕ → List (Info C S) → Option Error
  list_refusal now is = list_refusal_by (verdicts_on is) now is

  -- the infos whose signatures decide: those before the first that is refused whatever its signature
  -- is, and none where they are too many
  abbrev pub judged_before : ℕ → List (Info C S) → List (Info C S)
  judged_before now [] = []
  judged_before now (i ∷ is) =
      if is_some (refusal_if true now i) then [] else i ∷ judged_before now is

  abbrev pub to_verify : ℕ → List (Info C S) → List (Info C S)
  to_verify now is =
      if nat_lt j.greatest_count (length is) then [] else judged_before now is

-- what is answered to a refusal, and to none
abbrev pub judged : Option Error → Result (Unit {0}) Error
judged None = Ok tt
judged (Some e) = Err e
