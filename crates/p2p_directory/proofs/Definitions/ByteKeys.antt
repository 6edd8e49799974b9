-- The keys and signatures of the worked examples, of one byte each, are those of a type of a fixed
-- number of bytes: so the laws of frames hold of their nodes.
use Rattle.std.proofs.Common.{◌≡◌, ℕ, zero, suc, ◌<◌, List, [], ◌∷◌, Some, refl, sym, subst, ap, arith}
use Rattle.p2p_discovery.specs.Reading.{IsBytes}
use Rattle.p2p_discovery.specs.Varint.{groups}
use Rattle.p2p_discovery.specs.Lists.{spellings}
use Rattle.p2p_discovery.specs.Fixed.{IsFixed}
use Rattle.p2p_discovery.specs.Fields.{IsSized}
use Rattle.p2p_directory.specs.Laws.LateFrames.{SpellsFor}
use Rattle.p2p_directory.proofs.LawsOfGossip.Lists.{inside}
use Rattle.p2p_directory.proofs.Definitions.Setting.{sec}
use Rattle.p2p_directory.proofs.Definitions.GossipExamples.{one, wire, signed, asker}
use Rattle.p2p_directory.proofs.Definitions.LatePremises.{address_bytes, peers_1}

abbrev pub IsByte : ℕ → Type 0
IsByte n = n < 256

abbrev pub spelled : ℕ → List ℕ
spelled n = n ∷ []

is_byte : (n : ℕ) → IsByte n → IsBytes (spelled n)
is_byte n h zero = h
is_byte n h (suc i) = omega arith

only : (b : List ℕ) (n : ℕ) → IsSized 1 b → one b ≡ Some n → IsByte n × (spelled n ≡ b)
only (c ∷ []) n sized e = (subst IsByte (inside c n e) (sized.1 0), ap spelled (sym (inside c n e)))
only _ n sized e = absurd (cc)

pub is_fixed : IsFixed 1 spelled one IsByte
is_fixed = record {
  small = omega arith;
  len = λ n. refl;
  again = λ n h. ((refl, is_byte n h), refl);
  only = only;
}

-- the reply of worked example 16, sent at 100 s, for the node with key 9
pub spells : SpellsFor wire IsByte IsByte asker (sec 100) peers_1 (signed 1 100000 ∷ [])
unfolding groups spellings
spells = record {
  spelled = refl;
  small = omega arith;
  values = (
    (record { ingress = ((refl, address_bytes), omega arith); timestamp = omega arith }, tt),
    (record { key = omega arith; signature = omega arith }, tt),
  );
  each = (record { signed = refl; of_another = refl; timely = omega arith }, tt);
}
