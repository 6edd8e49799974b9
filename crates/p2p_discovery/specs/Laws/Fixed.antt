-- Values of a fixed number of bytes are read by their spelling, as numbers of eight bytes are.
use Rattle.std.proofs.Common.{◌≡◌, ℕ, zero, suc, ◌<◌, ◌^◌, List, Option, Some, None, Ok, refl, ap}
use Rattle.std.proofs.Common.{◌∙◌, arith}
use Rattle.std.specs.Int.{w64, to_be_bytes, from_be_bytes}
use Rattle.std.proofs.lemmas.Nat.{be_bytes_8, from_be_bytes-to_be_bytes_8}
use Rattle.p2p_discovery.specs.declared.codec.error.What.{What}
use Rattle.p2p_discovery.specs.Reading.{counted_at, outcome_then, Lawful, IsBytes}
use Rattle.p2p_discovery.specs.Laws.Reading.{bind_ok, ok_is}
use Rattle.p2p_discovery.specs.Laws.Fields.{lawful_counted}
use Rattle.p2p_discovery.specs.Fixed.{IsFixed, fixed_at, valued}

valued_ok : {K : Type 0} (what : What) (o : Option K) (mid : List ℕ) (v : K) (rest : List ℕ)
    → (valued what o mid).outcome ≡ Ok (v, rest) → (o ≡ Some v) × (mid ≡ rest)
valued_ok {K = K} what (Some k) mid v rest e =
    let p : ◌≡◌ {A = K × List ℕ} (k, mid) (v, rest) = ok_is (k, mid) (v, rest) e in
    (ap (λ (q : K × List ℕ). Some q.0) p, ap (λ (q : K × List ℕ). q.1) p)
valued_ok what None mid v rest e = absurd cc

pub lawful_fixed : {K : Type 0} {size : ℕ} {bytes : K → List ℕ} {value : List ℕ → Option K}
    {IsValue : K → Type 0} (what : What) → IsFixed size bytes value IsValue
    → Lawful (fixed_at size value what) bytes IsValue
lawful_fixed {size = size} {bytes = bytes} {value = value} what f = record {
  takes = λ bs v rest fits e.
      let a = bind_ok (counted_at size bs).outcome (λ b. valued what (value b)) (v, rest) e in
      let t = (lawful_counted size).takes bs a.0.0 a.0.1 fits a.1 in
      let o = valued_ok what (value a.0.0) a.0.1 v rest a.2 in
      let k = f.only a.0.0 v t.0 o.0 in
      (k.0, t.1 ∙ rw (k.1, o.1) refl);
  again = λ v rest h.
      let g = f.again v h in
      ap (λ o. outcome_then o (λ b. valued what (value b)))
      ((lawful_counted size).again (bytes v) rest g.0)
      ∙ ap (λ o. (valued what o rest).outcome) g.1;
  cut =
      λ v front rest h e some.
      rw ((lawful_counted size).cut (bytes v) front rest (f.again v h).0 e some) refl;
}

digits : (n : ℕ) → IsBytes (to_be_bytes w64 n)
digits n zero = omega arith
digits n (suc zero) = omega arith
digits n (suc (suc zero)) = omega arith
digits n (suc (suc (suc zero))) = omega arith
digits n (suc (suc (suc (suc zero)))) = omega arith
digits n (suc (suc (suc (suc (suc zero))))) = omega arith
digits n (suc (suc (suc (suc (suc (suc zero)))))) = omega arith
digits n (suc (suc (suc (suc (suc (suc (suc zero))))))) = omega arith
digits n (suc (suc (suc (suc (suc (suc (suc (suc i)))))))) = omega arith

some_is : (a b : ℕ) → Some a ≡ Some b → a ≡ b
some_is a b e = cc

pub fixed64 : IsFixed 8 (to_be_bytes w64) (λ b. Some (from_be_bytes w64 b)) (λ n. n < 2 ^ 64)
fixed64 = record {
  small = omega arith;
  len = λ n. refl;
  again = λ n h. ((refl, digits n), ap Some (from_be_bytes-to_be_bytes_8 n h));
  only = λ b x h e.
      let k : from_be_bytes w64 b ≡ x = some_is _ _ e in
      rw (← k) (
        omega (arith, h.1 0, h.1 1, h.1 2, h.1 3, h.1 4, h.1 5, h.1 6, h.1 7),
        be_bytes_8 b _ h.0 h.1 refl,
      );
}
