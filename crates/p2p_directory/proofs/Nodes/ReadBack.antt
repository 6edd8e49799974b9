-- Bits and infos that were spelled are read as they are, or refused for their number.
use Rattle.std.proofs.Common.{◌≡◌, ◌≢◌, ℕ, ◌+◌, ◌<◌, ◌^◌, Bool, true, false, List, [], ◌++◌, length, Option, Result, Ok}
use Rattle.std.proofs.Common.{Err, refl, ap, ◌∙◌, cond, lit<, ◌⊎◌, inl, inr, arith}
use Rattle.std.proofs.lemmas.Bool.Decides.{nat_tests}
use Rattle.std.specs.Prelude.{nat_lt, nat_le}
use Rattle.p2p_discovery.specs.declared.codec.error.CodecError.{CodecError}
use Rattle.p2p_discovery.specs.declared.codec.error.CodecError.TheVariants.{InvalidLength, Memory}
use Rattle.p2p_discovery.specs.declared.codec.error.RangeCfg.{RangeCfg}
use Rattle.p2p_discovery.specs.declared.codec.fixed.FixedBytes as fixed
use Rattle.p2p_discovery.specs.declared.discovery.BitVec.{BitVec}
use Rattle.p2p_discovery.specs.declared.discovery.Info.{Info}
use Rattle.p2p_discovery.specs.declared.discovery.Payload.TheVariants as said
use Rattle.p2p_discovery.specs.declared.discovery.PayloadConfig.{PayloadConfig}
use Rattle.p2p_discovery.specs.Reading.{Reading, ◌>>=◌, whole, Gives, Leaves, outcome_then, checked, refuses, takes_memory, counted_at, is_within}
use Rattle.p2p_discovery.specs.Varint.{varint32, varint64, varint32_at, varint64_at}
use Rattle.p2p_discovery.specs.Laws.Varint.{groups_lawful}
use Rattle.p2p_discovery.specs.Bits.{packed, byte_count}
use Rattle.p2p_discovery.specs.BitVec.{bits_read_at, bit_vec_read_at, unpacked}
use Rattle.p2p_discovery.specs.Counted.{length_at}
use Rattle.p2p_discovery.specs.Lists.{spellings, items_at, list_at}
use Rattle.p2p_discovery.specs.Info.{info_spelling, info_at}
use Rattle.p2p_discovery.specs.Payload.{payload_spelling, payload_at, body_at, up_to}
use Rattle.p2p_directory.specs.Private.Frames.{IsReadBack}
use Rattle.p2p_directory.specs.Received.{Wire}

-- what all nodes have in common, by the sizes of keys and of signatures, their bytes and what bytes
-- spell, and the right signatures
abbrev pub wire_by : {C S : Type 0} → ℕ → (C → List ℕ) → (List ℕ → Option C) →
    ℕ → (S → List ℕ) → (List ℕ → Option S) → (C → List ℕ → List ℕ → S → Bool) → Wire C S
wire_by key_size key key_of size signature signature_of verifies = record {
  spelling = payload_spelling key signature;
  reading = payload_at key_size key_of size signature_of;
  verifies = verifies;
}

-- .. by what goals know of their traits
abbrev pub wire_in : {C S : Type 0} → (C → List ℕ → List ℕ → S → Bool) → fixed.Ghosts C →
    fixed.Ghosts S → Wire C S
wire_in verifies key signature = wire_by key.SIZE key.spelled key.value
    signature.SIZE signature.spelled signature.value verifies

-- an error is want of memory or not
memory_or_not : (e : CodecError) → (e ≡ Memory) ⊎ (e ≢ Memory)
memory_or_not Memory = inl refl
memory_or_not _ = inr (λ h. cc)

-- what the test of a limit tells of a number
pub is_admitted : (limit n : ℕ) → nat_lt limit n ≡ false → is_within (up_to limit) n ≡ true
is_admitted limit n h = grind (arith, nat_tests)

pub is_above : (limit n : ℕ) → nat_lt limit n ≡ true → nat_le n limit ≡ false
is_above limit n h = grind (arith, nat_tests)

is_refused : (limit n : ℕ) → nat_le n limit ≡ false → is_within (up_to limit) n ≡ false
is_refused limit n h = grind (arith, nat_tests)

-- what a function read, by what reading gives where the count is above the limit, and where it is not
pub read_back : {A : Type 0} (above : Bool) (count : ℕ) (x : A) (r : Result A CodecError) (reading : Reading A) →
    (above ≡ false → Leaves r [] x []) → (above ≡ true → reading.outcome ≡ Err (InvalidLength count)) →
    Gives r [] reading → IsReadBack above count x r
read_back false count x (Ok y) reading below too_many gives = (refl, (below refl).0)
read_back false count x (Err e) reading below too_many gives = inl (below refl)
read_back true count x (Ok y) reading below too_many gives = absurd (let a = too_many refl in cc)
read_back true count x (Err e) reading below too_many gives = elim (memory_or_not e) [
  | inl h ↦ inl h
  | inr h ↦ inr (refl, let a = too_many refl in let b = gives.0 h in cc)
]

-- a field that is refused refuses what has it
then_refused : {A B : Type 0} (o : Result (A × List ℕ) CodecError) (e : CodecError) (f : A → List ℕ → Reading B) → o ≡ Err e → outcome_then o f ≡ Err e
then_refused o e f h = rw h refl

-- a number that its test refuses, behind nothing
number_refused : (r : List ℕ → Reading ℕ) (test : ℕ → Bool) (bytes : List ℕ) (n : ℕ) (rest : List ℕ) →
    (r bytes).outcome ≡ Ok (n, rest) → test n ≡ false → ((r >>= checked false test InvalidLength) bytes).outcome
    ≡ Err (InvalidLength n)
number_refused r test bytes n rest read refused =
    ap (λ o. outcome_then o (checked false test InvalidLength)) read
    ∙ ap (λ (b : Bool). (cond b (takes_memory false n rest) (refuses (InvalidLength n) rest)).outcome) refused

bits_refused : (limit : ℕ) (n : ℕ) (rest : List ℕ) → n < 2 ^ 64 → nat_le n limit ≡ false → (bits_read_at limit (varint64 n ++ rest)).outcome ≡ Err (InvalidLength n)
unfolding bits_read_at
bits_refused limit n rest small more =
    let bytes = varint64 n ++ rest in
    then_refused ((varint64_at >>= checked false (λ n. nat_le n limit) InvalidLength) bytes).outcome
    (InvalidLength n) (λ n. counted_at (byte_count n) >>= unpacked n)
    (number_refused varint64_at (λ n. nat_le n limit) bytes n rest ((groups_lawful 10 1 9 (lit< tt)).again n rest small) more)

bit_vec_refused : (limit index n : ℕ) (rest : List ℕ) → index < 2 ^ 64 → n < 2 ^ 64 → nat_le n limit ≡ false →
    (bit_vec_read_at limit (varint64 index ++ (varint64 n ++ rest))).outcome ≡ Err (InvalidLength n)
unfolding bit_vec_read_at
bit_vec_refused limit index n rest fits small more =
    rw (
      (groups_lawful 10 1 9 (lit< tt)).again index (varint64 n ++ rest) fits,
      bits_refused limit n rest small more,
    ) refl

list_refused : {A : Type 0} (limit : RangeCfg) (least : ℕ) (r : List ℕ → Reading A) (n : ℕ) (rest : List ℕ) →
    n < 2 ^ 32 → is_within limit n ≡ false → (list_at limit least r (varint32 n ++ rest)).outcome
    ≡ Err (InvalidLength n)
unfolding list_at length_at
list_refused limit least r n rest small more =
    let bytes = varint32 n ++ rest in
    then_refused ((varint32_at >>= checked false (is_within limit) InvalidLength) bytes).outcome (InvalidLength n) (items_at least r)
    (number_refused varint32_at (is_within limit) bytes n rest ((groups_lawful 5 15 4 (lit< tt)).again n rest small) more)

module _ {C S : Type 0} (key_size : ℕ) (key : List ℕ → Option C) (signature_size : ℕ)
    (signature : List ℕ → Option S) (spell_key : C → List ℕ) (spell_signature : S → List ℕ)
    (limits : PayloadConfig) where
  -- more bits than the limit
  pub too_many_bits : (v : BitVec) → v.index < 2 ^ 64 → length v.bits < 2 ^ 64 → nat_le (length v.bits) limits.max_bit_vec ≡ false →
      (whole (payload_at key_size key signature_size signature limits)
      (payload_spelling spell_key spell_signature (said.BitVec v))).outcome
      ≡ Err (InvalidLength (length v.bits))
  unfolding payload_at body_at
  too_many_bits v index count more = rw (bit_vec_refused limits.max_bit_vec v.index (length v.bits) (packed v.bits) index count more) refl

  -- more infos than the limit
  pub too_many_infos : (infos : List (Info C S)) → length infos < 2 ^ 32 → nat_le (length infos) limits.max_peers ≡ false →
      (whole (payload_at key_size key signature_size signature limits)
      (payload_spelling spell_key spell_signature (said.Peers infos))).outcome
      ≡ Err (InvalidLength (length infos))
  unfolding payload_at body_at
  too_many_infos infos count more =
      rw (list_refused (up_to limits.max_peers) (6 + key_size + signature_size)
      (info_at key_size key signature_size signature) (length infos)
      (spellings (info_spelling spell_key spell_signature) infos) count
      (is_refused limits.max_peers (length infos) more)) refl
