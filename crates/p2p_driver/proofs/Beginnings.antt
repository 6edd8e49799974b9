-- How a frame begins that spells a payload, as nodes read frames.
use Rattle.std.proofs.Common.{◌≡◌, ◌==◌, ℕ, ◌+◌, Bool, true, false, ◌&&◌, List, [], ◌∷◌, Option, refl, sym, ◌∙◌, ap, subst}
use Rattle.std.proofs.Common.{arith}
use Rattle.std.specs.Prelude.{length, if◌then◌else◌, Result, Ok, Err}
use Rattle.std.proofs.lemmas.Bool.Decides.{nat_tests}
use Rattle.p2p_discovery.specs.declared.codec.error.CodecError.{CodecError}
use Rattle.p2p_discovery.specs.declared.codec.error.CodecError.TheVariants.{ExtraData, InvalidEnum, InvalidLength}
use Rattle.p2p_discovery.specs.declared.discovery.Info.{Info}
use Rattle.p2p_discovery.specs.declared.discovery.Payload.{Payload}
use Rattle.p2p_discovery.specs.declared.discovery.Payload.TheVariants as payload
use Rattle.p2p_discovery.specs.declared.discovery.PayloadConfig.{PayloadConfig}
use Rattle.p2p_discovery.specs.BitVec as bits
use Rattle.p2p_discovery.specs.Data as messages
use Rattle.p2p_discovery.specs.Info.{info_at, infos_at}
use Rattle.p2p_discovery.specs.Counted.{length_at}
use Rattle.p2p_discovery.specs.Lists.{list_at, items_at, elems}
use Rattle.p2p_discovery.specs.Payload.{prefix_of, infos_of_payload, payload_at, body_at, up_to}
use Rattle.p2p_discovery.specs.Varint.{groups_at}
use Rattle.p2p_discovery.specs.Reading.{Reading, takes_memory, is_within, ends_whole, reads, refuses, outcome_then, ◌>>=◌}
use Rattle.p2p_directory.specs.Received.{Wire}
use Rattle.p2p_driver.specs.Frames.{Spells, begins_with, is_empty_list}

-- a frame begins with the prefix of what it spells, and the empty list has no infos
pub record Begins {C S : Type 0} (wire : Wire C S) : Type 0 where
  pub prefixed : (limits : PayloadConfig) (frame : List ℕ) (p : Payload C S) → Spells wire limits frame p →
      begins_with (prefix_of p) frame ≡ true
  pub empty : (limits : PayloadConfig) (infos : List (Info C S)) → Spells wire limits (3 ∷ 0 ∷ []) (payload.Peers infos) →
      infos ≡ []

-- this was read, and all of the frame
abbrev Whole : {P : Type 0} → Result (P × List ℕ) CodecError → P → Type 0
Whole o p = o ≡ Ok (p, [])

-- reading all of a frame leaves nothing behind
read_all : {P : Type 0} (o : Result (P × List ℕ) CodecError) (p : P) → Whole (ends_whole o) p → Whole o p
read_all (Err e) p is = absurd cc
read_all {P} (Ok x) p is = go (length x.1 == 0) is
  where
    go : (b : Bool) → Whole {P = P} (if b then Ok x else Err (ExtraData (length x.1))) p → Whole {P = P} (Ok x) p
    go true is = is
    go false is = absurd cc

first_is : {P : Type 0} (x : P × List ℕ) (p : P) → Whole (Ok x) p → x.0 ≡ p
first_is x p is = cc

module _ {C S : Type 0} where
  -- .. as a reading
  abbrev Reads : Reading (Payload C S) → Payload C S → Type 0
  Reads r p = Whole r.outcome p

  -- what is read behind one prefix has it
  behind : {A : Type 0} (o : Result (A × List ℕ) CodecError) (f : A → Payload C S) (k : ℕ) (p : Payload C S) →
      ((a : A) → prefix_of (f a) ≡ k) → Whole (outcome_then o (λ a. reads (f a))) p → prefix_of p ≡ k
  behind (Err e) f k p has is = absurd cc
  behind (Ok x) f k p has is = sym (ap prefix_of (first_is (f x.0, x.1) p is)) ∙ has x.0

  module _ (key_size : ℕ) (key : List ℕ → Option C) (signature_size : ℕ) (signature : List ℕ → Option S)
      (limits : PayloadConfig) where
    -- what is read of a frame that begins with x
    body_has : (x : ℕ) (rest : List ℕ) (p : Payload C S) →
        Reads (body_at key_size key signature_size signature limits x rest) p → (x == prefix_of p) ≡ true
    unfolding body_at
    body_has x rest p is = go (x == 0) (x == 1) (x == 2) (x == 3) refl refl refl refl is
      where
        of : (k : ℕ) → (x == k) ≡ true → prefix_of p ≡ k → (x == prefix_of p) ≡ true
        of k at is = subst (λ j. (x == j) ≡ true) (sym is) at

        go : (b0 b1 b2 b3 : Bool) → (x == 0) ≡ b0 → (x == 1) ≡ b1 → (x == 2) ≡ b2 → (x == 3) ≡ b3 →
            Reads (if b0 then (messages.data_at (up_to limits.max_data_length) >>= λ d. reads (payload.Data d)) rest
            else if b1 then (info_at key_size key signature_size signature >>= λ i. reads (payload.Greeting i)) rest
            else if b2 then (bits.bit_vec_read_at limits.max_bit_vec >>= λ v. reads (payload.BitVec v)) rest
            else if b3 then (infos_at key_size key signature_size signature (up_to limits.max_peers) >>= λ is. reads (payload.Peers is)) rest
            else refuses (InvalidEnum x) rest) p → (x == prefix_of p) ≡ true
        go true b1 b2 b3 at0 at1 at2 at3 is = of 0 at0 (behind (messages.data_at (up_to limits.max_data_length) rest).outcome
            (λ d. payload.Data d) 0 p (λ a. refl) is)
        go false true b2 b3 at0 at1 at2 at3 is = of 1 at1 (behind (info_at key_size key signature_size signature rest).outcome
            (λ i. payload.Greeting i) 1 p (λ a. refl) is)
        go false false true b3 at0 at1 at2 at3 is = of 2 at2 (behind (bits.bit_vec_read_at limits.max_bit_vec rest).outcome
            (λ v. payload.BitVec v) 2 p (λ a. refl) is)
        go false false false true at0 at1 at2 at3 is = of 3 at3 (behind (infos_at key_size key signature_size signature (up_to limits.max_peers) rest).outcome
            (λ is. payload.Peers is) 3 p (λ a. refl) is)
        go false false false false at0 at1 at2 at3 is = absurd cc

    abbrev payloads : List ℕ → Reading (Payload C S)
    payloads = payload_at key_size key signature_size signature limits

    all_begin : (frame : List ℕ) (p : Payload C S) → Whole (ends_whole (payloads frame).outcome) p →
        begins_with (prefix_of p) frame ≡ true
    unfolding payload_at
    all_begin [] p is = absurd cc
    all_begin (x ∷ rest) p is = body_has x rest p
        (read_all (body_at key_size key signature_size signature limits x rest).outcome p is)

    infos_of : Result (Payload C S × List ℕ) CodecError → List (Info C S)
    infos_of (Ok x) = infos_of_payload x.0
    infos_of (Err e) = []

    none_behind : (within : Bool) → infos_of (ends_whole (outcome_then
        (outcome_then (if within then takes_memory false 0 [] else refuses (InvalidLength 0) []).outcome
        (items_at (6 + key_size + signature_size) (info_at key_size key signature_size signature)))
        (λ is. reads (payload.Peers is)))) ≡ []
    unfolding infos_of items_at elems
    none_behind true = refl
    none_behind false = refl

    none_in : (infos : List (Info C S)) → Whole (ends_whole (payloads (3 ∷ 0 ∷ [])).outcome) (payload.Peers infos) → infos ≡ []
    unfolding infos_of payload_at body_at list_at length_at groups_at
    none_in infos is = sym (ap infos_of is) ∙ none_behind (is_within (up_to limits.max_peers) 0)

-- as frames of nodes are read
pub begins : {C S : Type 0} (key_size : ℕ) (key : List ℕ → Option C) (signature_size : ℕ) (signature : List ℕ → Option S)
    (spelling : Payload C S → List ℕ) (verifies : C → List ℕ → List ℕ → S → Bool) →
    Begins (record { spelling = spelling; reading = payload_at key_size key signature_size signature; verifies = verifies })
begins key_size key signature_size signature spelling verifies = record {
  prefixed = λ limits frame p spells. all_begin key_size key signature_size signature limits frame p spells;
  empty = λ limits infos spells. none_in key_size key signature_size signature limits infos spells;
}

-- no frame begins in two ways
pub not_both : (i j : ℕ) (frame : List ℕ) → (i == j) ≡ false → begins_with i frame ≡ true → begins_with j frame ≡ true → ⊥
not_both i j [] apart one other = absurd cc
not_both i j (x ∷ rest) apart one other = grind (arith, nat_tests)

-- the empty list is this frame
pub the_empty : (frame : List ℕ) → is_empty_list frame ≡ true → frame ≡ 3 ∷ 0 ∷ []
the_empty [] is = absurd cc
the_empty (x ∷ []) is = absurd cc
the_empty (x ∷ n ∷ []) is = two (x == 3) (n == 0) refl refl is
  where
    eq : (a b : ℕ) → (a == b) ≡ true → a ≡ b
    eq a b is = grind (arith, nat_tests)

    two : (a b : Bool) → (x == 3) ≡ a → (n == 0) ≡ b → (a && b) ≡ true → x ∷ n ∷ [] ≡ 3 ∷ 0 ∷ []
    two true true at of is = ap (λ k. k ∷ n ∷ []) (eq x 3 at) ∙ ap (λ k. 3 ∷ k ∷ []) (eq n 0 of)
    two true false at of is = absurd cc
    two false b at of is = absurd cc
the_empty (x ∷ n ∷ m ∷ rest) is = absurd cc
