-- The keys and signatures of a session, as its contracts see them.
use Rattle.std.specs.Prelude.{ℕ, Bool, List, Option}
use Rattle.std.specs.declared.cmp.Ordering.{Ordering}
use Rattle.std.specs.declared.cmp.PartialOrd as partial_ord
use Rattle.std.specs.declared.cmp.Ord as ord
use Rattle.std.specs.declared.cmp.PartialEq as partial_eq
use Rattle.p2p_discovery.specs.declared.codec.fixed.FixedBytes as fixed
use Rattle.p2p_discovery.specs.declared.codec.fixed.PublicKey as public
use Rattle.p2p_discovery.specs.Payload.{payload_spelling, payload_at}
use Rattle.p2p_directory.specs.Received.{Wire, Fixed}

-- how a type of keys implements `PublicKey`: how they are encoded, their order, and the right
-- signatures
abbrev pub OfKey : Type 0 → Type 0 → Type 1
OfKey C S = record {
  partial_cmp : C → C → Option Ordering;
  cmp : C → C → Ordering;
  eq : C → C → Bool;
  SIZE : ℕ;
  IsValue : C → Type 0;
  spelled : C → List ℕ;
  value : List ℕ → Option C;
  verifies : C → List ℕ → List ℕ → S → Bool;
}

-- a signature scheme: its keys and signatures
pub record Scheme (C S : Type 0) : Type 1 where
  pub key : OfKey C S
  pub signature : Fixed S

abbrev pub scheme : {C S : Type 0} → OfKey C S → Fixed S → Scheme C S
scheme key signature = record { key = key; signature = signature }

-- .. by what each of the traits says, as proofs and impls have it
abbrev pub scheme_by : {C S : Type 0} → partial_ord.Ghosts C → ord.Ghosts C → partial_eq.Ghosts C →
    fixed.Ghosts C → public.Ghosts C S → partial_eq.Ghosts S → fixed.Ghosts S → Scheme C S
scheme_by partial total same key public same_signature signature = record {
  key = record {
    partial_cmp = partial.partial_cmp;
    cmp = total.cmp;
    eq = same.eq;
    SIZE = key.SIZE;
    IsValue = key.IsValue;
    spelled = key.spelled;
    value = key.value;
    verifies = public.verifies;
  };
  signature = record {
    eq = same_signature.eq;
    SIZE = signature.SIZE;
    IsValue = signature.IsValue;
    spelled = signature.spelled;
    value = signature.value;
  };
}

-- how payloads of these keys are spelled and read
abbrev pub wire : {C S : Type 0} → Scheme C S → Wire C S
wire k = record {
  spelling = payload_spelling k.key.spelled k.signature.spelled;
  reading = payload_at k.key.SIZE k.key.value k.signature.SIZE k.signature.value;
  verifies = k.key.verifies;
}
