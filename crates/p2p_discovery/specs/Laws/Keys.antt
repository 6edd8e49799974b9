-- The laws of the keys and signatures for tests.
use Rattle.std.proofs.Common.{◌≡◌, ℕ, ◌<◌, ◌^◌, ◌==◌, true, Some, refl, ap}
use Rattle.std.specs.Int.{w64, to_be_bytes, from_be_bytes}
use Rattle.std.specs.declared.cmp.Ordering.TheVariants.{Equal}
use Rattle.std.specs.Ordering.{nat_cmp}
use Rattle.std.specs.Cmp.{IsTotalOrder, nat_cmp_total, on_total}
use Rattle.std.proofs.lemmas.Bool.{eqb-true}
use Rattle.std.proofs.lemmas.Map.Lookups.{exact_unsigned}
use Rattle.std.proofs.lemmas.Nat.{from_be_bytes-to_be_bytes_8}
use Rattle.p2p_discovery.specs.declared.codec.test_key.TestKey.{TestKey}
use Rattle.p2p_discovery.specs.declared.codec.test_key.TestSignature.{TestSignature}
use Rattle.p2p_discovery.specs.Fixed.{IsFixed}
use Rattle.p2p_discovery.specs.Laws.Fixed.{fixed64}

abbrev key_from : ℕ → TestKey
key_from n = record { 0 = n }

pub key_total : IsTotalOrder (λ (x y : TestKey). nat_cmp x.0 y.0)
key_total = on_total (λ (k : TestKey). k.0) nat_cmp_total

pub exact_key : (x y : TestKey) → nat_cmp x.0 y.0 ≡ Equal → x ≡ y
exact_key x y e = ap key_from (exact_unsigned x.0 y.0 e)

key_is : (a b : TestKey) → Some a ≡ Some b → a ≡ b
key_is a b e = cc

pub one_key : (x y : TestKey) → (x.0 == y.0) ≡ true → x ≡ y
one_key x y e = ap key_from (eqb-true x.0 y.0 e)

pub fixed_key : IsFixed 8 (λ (k : TestKey). to_be_bytes w64 k.0)
    (λ b. Some (record { 0 = from_be_bytes w64 b })) (λ k. k.0 < 2 ^ 64)
fixed_key = record {
  small = fixed64.small;
  len = λ k. refl;
  again =
      λ k h. let g = fixed64.again k.0 h in
      (g.0, ap (λ (n : ℕ). Some (key_from n)) (from_be_bytes-to_be_bytes_8 k.0 h));
  only = λ b x h e.
      let k : from_be_bytes w64 b ≡ x.0 =
      ap (λ (k : TestKey). k.0) (key_is (key_from (from_be_bytes w64 b)) x e) in
      fixed64.only b x.0 h (ap (λ (n : ℕ). Some n) k);
}

abbrev signature_from : ℕ → TestSignature
signature_from n = record { 0 = n }

signature_is : (a b : TestSignature) → Some a ≡ Some b → a ≡ b
signature_is a b e = cc

pub one_signature : (x y : TestSignature) → (x.0 == y.0) ≡ true → x ≡ y
one_signature x y e = ap signature_from (eqb-true x.0 y.0 e)

pub fixed_signature : IsFixed 8 (λ (k : TestSignature). to_be_bytes w64 k.0)
    (λ b. Some (record { 0 = from_be_bytes w64 b })) (λ k. k.0 < 2 ^ 64)
fixed_signature = record {
  small = fixed64.small;
  len = λ k. refl;
  again =
      λ k h. let g = fixed64.again k.0 h in
      (g.0, ap (λ (n : ℕ). Some (signature_from n)) (from_be_bytes-to_be_bytes_8 k.0 h));
  only = λ b x h e.
      let k : from_be_bytes w64 b ≡ x.0 =
      ap (λ (k : TestSignature). k.0)
      (signature_is (signature_from (from_be_bytes w64 b)) x e) in
      fixed64.only b x.0 h (ap (λ (n : ℕ). Some n) k);
}
