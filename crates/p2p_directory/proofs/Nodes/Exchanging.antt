-- The replier's part of an exchange, by what it read.
use Rattle.std.proofs.Common.{◌≡◌, ℕ, true, List, Option, Some, None, sym, subst, inl, inr}
use Rattle.std.specs.Prelude.{option_map, is_some, IfSome}
use Rattle.p2p_discovery.specs.declared.discovery.BitVec.{BitVec}
use Rattle.p2p_discovery.specs.declared.discovery.Payload.{Payload}
use Rattle.p2p_discovery.specs.declared.discovery.Payload.TheVariants as said
use Rattle.p2p_directory.specs.declared.node.exchanged.Exchanged.{Exchanged}
use Rattle.p2p_directory.specs.Received.{Standing}
use Rattle.p2p_directory.specs.Exchange.{asked_at, exchanged_at, exchange_may_want_memory, IsExchangeAnswer}
use Rattle.p2p_directory.specs.Private.Exchanging.{UnlessRefused}
use Rattle.p2p_directory.specs.Exchange.{HasSpelling, CanBeReplied, CanBeSpelled}

pub bits_are : {C S : Type 0} (x y : BitVec) → ◌≡◌ {A = Payload C S} (said.BitVec x) (said.BitVec y) → x ≡ y
bits_are x y h = cc

module _ {C S : Type 0} (IsKey : C → Type 0) (IsSignature : S → Type 0) (spelling : Payload C S → List ℕ) where
  -- all that is told has a spelling, where the bits have one and the infos for them
  pub all_spelled : (asker replier : Standing C S) (place now : ℕ) (frame : List ℕ) (r : Exchanged C S) (o : Option BitVec) → asker.bits place ≡ o →
      Some frame ≡ option_map (λ v. spelling (said.BitVec v)) o → IfSome o HasSpelling →
      ((v : BitVec) → HasSpelling v → frame ≡ spelling (said.BitVec v) → UnlessRefused (CanBeReplied IsKey IsSignature replier now v) r) →
      UnlessRefused (CanBeSpelled IsKey IsSignature asker replier place now) r
  all_spelled asker replier place now frame r None is asked fits told = absurd cc
  all_spelled asker replier place now frame r (Some v) is asked fits told = go (told v fits (let same : frame ≡ spelling (said.BitVec v) = cc in same))
    where
      go : UnlessRefused (CanBeReplied IsKey IsSignature replier now v) r → UnlessRefused (CanBeSpelled IsKey IsSignature asker replier place now) r
      go (inl refused) = inl refused
      go (inr can) = inr (record {
        bits = subst (λ o. IfSome o HasSpelling) (sym is) fits;
        infos = subst (λ o. IfSome o (CanBeReplied IsKey IsSignature replier now)) (sym is) can;
      })

-- a frame that was asked with, and what came of handing it on
pub handed : {C S : Type 0} (spelling : Payload C S → List ℕ) (asker replier : Standing C S)
    (place asker_now now : ℕ) (frame : List ℕ) (r : Exchanged C S) (o : Option BitVec) → asker.bits place ≡ o →
    Some frame ≡ option_map (λ v. spelling (said.BitVec v)) o → IfSome o HasSpelling →
    ((v : BitVec) → HasSpelling v → frame ≡ spelling (said.BitVec v) → IsExchangeAnswer true (asked_at asker replier asker_now now (Some v)) r) →
    IsExchangeAnswer (exchange_may_want_memory asker place) (exchanged_at asker replier place asker_now now) r
handed spelling asker replier place asker_now now frame r None is asked fits answers = absurd cc
handed spelling asker replier place asker_now now frame r (Some v) is asked fits answers =
    subst (λ o. IsExchangeAnswer (is_some o) (asked_at asker replier asker_now now o) r) (sym is)
    (answers v fits (let same : frame ≡ spelling (said.BitVec v) = cc in same))
