-- When infos are fine.
use Rattle.std.proofs.Common.{◌≡◌, ℕ, ◌+◌, ◌*◌, ◌≤◌, ◌^◌, min, true, false, List, [], ◌∷◌, length}
use Rattle.std.proofs.Common.{Some, None, refl, ◌∙◌, ap, arith}
use Rattle.std.specs.Prelude.{if◌then◌else◌, nat_lt, not}
use Rattle.std.specs.List.{AllByRecursion}
use Rattle.std.specs.Duration.{max_nanos}
use Rattle.std.proofs.lemmas.Bool.{le-ltb}
use Rattle.p2p_discovery.specs.declared.discovery.Error.TheVariants.{TooManyPeers, ReceivedSelf, InvalidSignature}
use Rattle.p2p_discovery.specs.declared.discovery.Error.TheVariants.{SynchronyBound}
use Rattle.p2p_discovery.specs.declared.discovery.Info.{Info}
use Rattle.p2p_discovery.specs.Judgement.{Judge, first_of, is_signed, is_too_late, refusal, first_refusal, list_refusal}
use Rattle.p2p_tracker.specs.Moments.{epoch_millis}

-- a timestamp that isn't above the milliseconds of a moment, which lies at most the bound past now,
-- isn't too late
pub in_time : (n t now bound : ℕ) → n ≤ epoch_millis t → t ≤ now + bound →
    nat_lt (min (now + bound) max_nanos) (n * 10 ^ 6) ≡ false
in_time n t now bound le past = le-ltb (min (now + bound) max_nanos) (n * 10 ^ 6) (omega arith)

module _ {C S : Type 0} (j : Judge C S) where
  pub fine : (now : ℕ) (i : Info C S) → j.is_me i.public_key ≡ false → is_too_late j now i ≡ false →
      is_signed j i ≡ true → refusal j now i ≡ None
  fine now i other late signed =
      ap (λ b. if b then Some ReceivedSelf else if is_too_late j now i then Some SynchronyBound
      else if not (is_signed j i) then Some InvalidSignature else None) other
      ∙ ap (λ b. if b then Some SynchronyBound else if not (is_signed j i)
      then Some InvalidSignature else None) late
      ∙ ap (λ b. if not b then Some InvalidSignature else None) signed

  all_fine : (now : ℕ) (is : List (Info C S)) → AllByRecursion (λ i. refusal j now i ≡ None) is →
      first_refusal j now is ≡ None
  all_fine now [] h = refl
  all_fine now (i ∷ is) h = ap (λ o. first_of o (first_refusal j now is)) h.0 ∙ all_fine now is h.1

  pub list_fine : (now : ℕ) (is : List (Info C S)) → length is ≤ j.greatest_count →
      AllByRecursion (λ i. refusal j now i ≡ None) is → list_refusal j now is ≡ None
  list_fine now is few h =
      ap (λ b. if b then Some (TooManyPeers (length is)) else first_refusal j now is)
      (le-ltb j.greatest_count (length is) few) ∙ all_fine now is h
