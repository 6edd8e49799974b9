-- Infos offered to an address one after the other.
use Rattle.std.proofs.Common.{◌≡◌, ℕ, ◌<◌, ◌≤◌, Bool, true, false, List, [], ◌∷◌, ◌++◌, Option, Some, None, refl, sym, ◌∙◌, ap, arith}
use Rattle.std.specs.Prelude.{if◌then◌else◌, nat_lt}
use Rattle.std.proofs.lemmas.Bool.{ltb-true, ltb-false, lt-ltb, le-ltb}
use Rattle.p2p_discovery.specs.declared.discovery.Info.{Info}
use Rattle.p2p_tracker.specs.declared.record.Address.{Address}
use Rattle.p2p_tracker.specs.declared.record.Address.TheVariants.{Unknown, Myself, Bootstrapper, Discovered}
use Rattle.p2p_tracker.specs.Lists.{first_greatest}
use Rattle.p2p_tracker.specs.Record.{address_after_update, address_after_offer, address_after_infos}
use Rattle.p2p_tracker.proofs.Definitions.Knowledge.{later, first_greatest-append}

-- by three numbers, what depends on which is below which
lt_trans : (a b c : ℕ) → nat_lt a b ≡ true → nat_lt b c ≡ true → nat_lt a c ≡ true
lt_trans a b c e f =
    let lt : a < c = omega (arith, ltb-true a b e, ltb-true b c f) in
    lt-ltb a c lt

ge_trans : (a b c : ℕ) → nat_lt a b ≡ false → nat_lt b c ≡ false → nat_lt a c ≡ false
ge_trans a b c e f =
    let le : c ≤ a = omega (arith, ltb-false a b e, ltb-false b c f) in
    le-ltb a c le

module _ {C S : Type 0} where
  -- what the better of two makes of an address, one after the other make
  offer_of_two : (j i : Info C S) (a : Address C S) →
      address_after_offer (later (Some j) (Some i)) a ≡ address_after_update i (address_after_update j a)
  offer_of_two j i Unknown = go (nat_lt j.timestamp i.timestamp)
    where
      go : (b : Bool) → address_after_offer (if b then Some i else Some j) Unknown
          ≡ (if b then Discovered i 0 else Discovered j 0)
      go true = refl
      go false = refl
  offer_of_two j i (Bootstrapper ingress) = go (nat_lt j.timestamp i.timestamp)
    where
      go : (b : Bool) → address_after_offer (if b then Some i else Some j) (Bootstrapper ingress)
          ≡ (if b then Discovered i 0 else Discovered j 0)
      go true = refl
      go false = refl
  offer_of_two j i (Myself own) = go (nat_lt j.timestamp i.timestamp)
    where
      go : (b : Bool) → address_after_offer (if b then Some i else Some j) (Myself own) ≡ Myself own
      go true = refl
      go false = refl
  offer_of_two j i (Discovered k fails) = go (nat_lt k.timestamp j.timestamp) (nat_lt j.timestamp i.timestamp) refl refl
    where
      go : (b c : Bool) → nat_lt k.timestamp j.timestamp ≡ b → nat_lt j.timestamp i.timestamp ≡ c →
          address_after_offer (if c then Some i else Some j) (Discovered k fails)
          ≡ address_after_update i (if b then Discovered j 0 else Discovered k fails)
      go true true e f =
          ap (λ b. if b then Discovered i 0 else Discovered k fails) (lt_trans k.timestamp j.timestamp i.timestamp e f)
          ∙ sym (ap (λ b. if b then Discovered i 0 else Discovered j 0) f)
      go true false e f =
          ap (λ b. if b then Discovered j 0 else Discovered k fails) e
          ∙ sym (ap (λ b. if b then Discovered i 0 else Discovered j 0) f)
      go false true e f = refl
      go false false e f =
          ap (λ b. if b then Discovered j 0 else Discovered k fails) e
          ∙ sym (ap (λ b. if b then Discovered i 0 else Discovered k fails) (ge_trans k.timestamp j.timestamp i.timestamp e f))

  offer_one_more : (o : Option (Info C S)) (i : Info C S) (a : Address C S) →
      address_after_offer (later o (Some i)) a ≡ address_after_update i (address_after_offer o a)
  offer_one_more None i a = refl
  offer_one_more (Some j) i a = offer_of_two j i a

  -- one more info is updated after those before
  pub address_after-one_more : (infos : List (Info C S)) (i : Info C S) (a : Address C S) →
      address_after_infos (infos ++ i ∷ []) a ≡ address_after_update i (address_after_infos infos a)
  address_after-one_more infos i a =
      ap (λ o. address_after_offer o a) (first_greatest-append infos (i ∷ [])) ∙ offer_one_more (first_greatest infos) i a
