-- Bits and their index are read by their spelling.
use Rattle.std.proofs.Common.{◌≡◌, ℕ, ◌<◌, ◌^◌, Bool, true, false, cond, not, eqb, leb, List, ◌++◌}
use Rattle.std.proofs.Common.{length, Ok, refl, sym, ap, subst, ◌∙◌, lit<, inl, inr}
use Rattle.std.proofs.lemmas.Bool.{eqb-true, le-leb, leb-true}
use Rattle.p2p_discovery.specs.declared.codec.error.CodecError.TheVariants.{InvalidLength, Invalid}
use Rattle.p2p_discovery.specs.declared.codec.error.What.TheVariants as what
use Rattle.p2p_discovery.specs.Reading.{◌>>=◌, refuses, takes_memory, counted_at, outcome_then}
use Rattle.p2p_discovery.specs.Reading.{Lawful}
use Rattle.p2p_discovery.specs.Laws.Reading.{bind_ok, ok_is, done}
use Rattle.p2p_discovery.specs.Laws.Fields.{lawful_counted, lawful_part, lawful_checked}
use Rattle.p2p_discovery.specs.Laws.Fields.{lawful_sized, lawful_both, lawful_as, chosen}
use Rattle.p2p_discovery.specs.Varint.{varint64}
use Rattle.p2p_discovery.specs.Laws.Varint.{groups_lawful}
use Rattle.p2p_discovery.specs.Bits.{bits_in, byte_count, padding_of, packed}
use Rattle.p2p_discovery.specs.Laws.Bits.{length-bits_in, length-packed, bits_in-packed}
use Rattle.p2p_discovery.specs.Laws.Bits.{packed-bits_in, packed_unpadded, unpadded}
use Rattle.p2p_discovery.specs.BitVec.{bit_vec_spelling, IsBitVecAllowed, unpacked, bits_read_at}
use Rattle.p2p_discovery.specs.BitVec.{bit_vec_read_at}

bits_of_length : (n : ℕ)
    → Lawful (counted_at (byte_count n) >>= unpacked n) packed
    (λ bits. Unit {0} × (length bits ≡ n))
bits_of_length n = record {
  takes = λ bytes v rest fits e.
      let a = bind_ok (counted_at (byte_count n) bytes).outcome (unpacked n) (v, rest) e in
      let t = (lawful_counted (byte_count n)).takes bytes a.0.0 a.0.1 fits a.1 in
      elim (chosen (eqb (padding_of n a.0.0) 0)
      (takes_memory (not (eqb n 0)) (bits_in a.0.0 n) a.0.1)
      (refuses (Invalid what.Padding) a.0.1) (Ok (v, rest)) a.2) [
        | inl h ↦
            let is = packed_unpadded n a.0.0 t.0.0 (eqb-true (padding_of n a.0.0) 0 h.0) in
            subst
            (λ (w : List Bool × List ℕ). (Unit {0} × (length w.0 ≡ n))
            × (bytes ≡ packed w.0 ++ w.1)) (ok_is (bits_in a.0.0 n, a.0.1) (v, rest) h.1) (
              (tt, length-bits_in a.0.0 n),
              t.1 ∙ ap (λ (w : List ℕ). w ++ a.0.1) (sym (packed-bits_in n a.0.0 t.0.1 is)),
            )
        | inr h ↦ absurd (let i = h.1 in cc)
      ];
  again = λ v rest h.
      let first =
      (lawful_part (byte_count n)).again (packed v) rest
      (tt, length-packed v ∙ ap byte_count h.1) in
      let none : eqb (padding_of n (packed v)) 0 ≡ true =
      ap (λ k. eqb (padding_of k (packed v)) 0) (sym h.1) ∙ ap (λ x. eqb x 0) (unpadded v) in
      let same : bits_in (packed v) n ≡ v = ap (bits_in (packed v)) (sym h.1) ∙ bits_in-packed v in
      ap (λ o. outcome_then o (unpacked n)) first
      ∙ ap
      (λ (b : Bool).
      (cond b (takes_memory (not (eqb n 0)) (bits_in (packed v) n) rest)
      (refuses (Invalid what.Padding) rest)).outcome) none
      ∙ ap (λ (bits : List Bool). done (bits, rest)) same;
  cut =
      λ v front rest h e some.
      rw ((lawful_part (byte_count n)).cut (packed v) front rest
      (tt, length-packed v ∙ ap byte_count h.1) e some) refl;
}

lawful_bits : (limit : ℕ)
    → Lawful (bits_read_at limit) (λ bits. varint64 (length bits) ++ packed bits)
    (λ bits. Unit {0} × ((leb (length bits) limit ≡ true) × (length bits < 2 ^ 64)))
unfolding bits_read_at
lawful_bits limit =
    lawful_sized length
    (lawful_checked false (λ n. leb n limit) InvalidLength (groups_lawful 10 1 9 (lit< tt)))
    (λ n _. bits_of_length n)

pub lawful_bit_vec : (limit : ℕ)
    → Lawful (bit_vec_read_at limit) bit_vec_spelling
    (λ v. (v.index < 2 ^ 64) × IsBitVecAllowed limit v)
unfolding bit_vec_read_at
lawful_bit_vec limit =
    lawful_as (λ p. record { index = p.0; bits = p.1 }) (λ v. (v.index, v.bits)) bit_vec_spelling
    (λ v. (v.index < 2 ^ 64) × IsBitVecAllowed limit v)
    (λ p h. ((h.0, record { within = leb-true (length p.1) limit h.1.1.0; small = h.1.1.1 }), refl))
    (λ v h. (refl, (h.0, (tt, (le-leb (length v.bits) limit h.1.within, h.1.small))), refl))
    (lawful_both (groups_lawful 10 1 9 (lit< tt)) (lawful_bits limit))
