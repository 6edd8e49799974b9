-- Frames within the limits are read, and 11 bytes say what a frame is.
use Rattle.std.proofs.Common.{◌≡◌, ℕ, zero, suc, ◌+◌, ◌-◌, ◌*◌, ◌^◌, ◌≤◌, ◌<◌, Bool, true, false, cond, ◌&&◌, ◌||◌}
use Rattle.std.proofs.Common.{List, [], ◌∷◌, ◌++◌, length, Result, Ok, Err, Option, Some, None, option_map}
use Rattle.std.proofs.Common.{refl, sym, ap, subst, ◌∙◌, arith, inl, inr, take, ltb, eqb}
use Rattle.std.specs.Prelude.{find}
use Rattle.std.specs.List.{position_or_len, slice_get}
use Rattle.std.proofs.lemmas.Bool.{cases_lt, le-ltb, ltb-false, eqb-true}
use Rattle.std.proofs.lemmas.List.{length-append}
use Rattle.std.proofs.lemmas.List.Folds.{find_at}
use Rattle.p2p_discovery.specs.declared.codec.error.CodecError.{CodecError}
use Rattle.p2p_discovery.specs.declared.codec.error.CodecError.TheVariants.{InvalidVarint}
use Rattle.p2p_discovery.specs.declared.data.Data.{Data}
use Rattle.p2p_discovery.specs.declared.discovery.Info.{Info}
use Rattle.p2p_discovery.specs.declared.discovery.Payload.{Payload}
use Rattle.p2p_discovery.specs.declared.discovery.Payload.TheVariants as said
use Rattle.p2p_discovery.specs.declared.discovery.PayloadConfig.{PayloadConfig}
use Rattle.p2p_discovery.specs.Counted.{counted_spelling}
use Rattle.p2p_discovery.specs.Data.{data_payload}
use Rattle.p2p_discovery.specs.Fixed.{IsFixed}
use Rattle.p2p_discovery.specs.Info.{IsInfo}
use Rattle.p2p_discovery.specs.Payload.{IsPayload, IsAdmitted, prefix_of, payload_spelling, gossip_size}
use Rattle.p2p_discovery.specs.Reading.{IsBytes, reads, refuses}
use Rattle.p2p_discovery.specs.Varint.{groups_at, last_group, varint32, varint64, varint64_at}
use Rattle.p2p_discovery.specs.Laws.Varint.{groups_again, groups_take}
use Rattle.p2p_discovery.proofs.Lengths.{info_short, gossip_short, groups_less}
use Rattle.p2p_driver.specs.declared.heads.Kind.TheVariants as kind
use Rattle.p2p_driver.specs.declared.pace.Channel.{Channel}
use Rattle.p2p_driver.specs.Heads.{value_of, channel_of, BeginsOn, is_numbered, longest_frame}
use Rattle.p2p_driver.specs.Heads.{up_to, kind_at, next_kind, kind_of}
use Rattle.p2p_driver.proofs.Spelled.{last_byte, low_byte, high_byte}

-- ELEVEN BYTES

-- what is behind a last byte doesn't count
last_any : (most top : ℕ) (more : Bool) (b : ℕ) (x y : List ℕ) →
    value_of (last_group most top more b x).outcome ≡ value_of (last_group most top more b y).outcome
last_any most top more b x y =
    elim (ltb top b || (more && eqb b 0)) as (λ t.
    value_of (cond t (refuses (InvalidVarint most) x) (reads b x)).outcome
    ≡ value_of (cond t (refuses (InvalidVarint most) y) (reads b y)).outcome) [
      | true ↦ refl
      | false ↦ refl
    ]

-- a number is read of as many bytes as there may be
front_enough : (most top : ℕ) (more : Bool) (left k : ℕ) (bytes : List ℕ) → left < k →
    value_of (groups_at most top more left (take k bytes)).outcome
    ≡ value_of (groups_at most top more left bytes).outcome
front_enough most top more left zero bytes less = absurd (omega (arith, less))
front_enough most top more left (suc k) [] less = refl
front_enough most top more zero (suc k) (b ∷ bytes) less =
    last_byte most top more 0 b (take k bytes) refl
    ∙ last_any most top more b (take k bytes) bytes
    ∙ sym (last_byte most top more 0 b bytes refl)
front_enough most top more (suc left) (suc k) (b ∷ bytes) less = elim (cases_lt b 128) [
  | inl low ↦ low_byte most top more (suc left) left b (take k bytes) refl low
      ∙ last_any most 127 more b (take k bytes) bytes
      ∙ sym (low_byte most top more (suc left) left b bytes refl low)
  | inr high ↦ high_byte most top more (suc left) left b (take k bytes) refl high
      ∙ ap (option_map (λ high. b - 128 + 128 * high))
      (front_enough most top true left k bytes (omega (arith, less)))
      ∙ sym (high_byte most top more (suc left) left b bytes refl high)
]

channel_front : (frame : List ℕ) → channel_of (take 11 frame) ≡ channel_of frame
channel_front [] = refl
channel_front (prefix ∷ rest) =
    ap (λ (n : Option ℕ). cond (eqb prefix 0) n None) (front_enough 10 1 false 9 10 rest (omega arith))

pub eleven : (info : ℕ) (channels : List Channel) (limits : PayloadConfig) (greeted : Bool)
    (frame : List ℕ) (size : ℕ) → kind_of info channels limits greeted (take 11 frame) size
    ≡ kind_of info channels limits greeted frame size
eleven info channels limits false frame size = refl
eleven info channels limits true frame size =
    ap (λ number. next_kind info channels limits number size) (channel_front frame)

-- WHAT IS SENT WITHIN THE LIMITS

module _ {C S : Type 0} {key_size signature_size : ℕ} {spell_key : C → List ℕ}
    {spell_signature : S → List ℕ} {key : List ℕ → Option C} {signature : List ℕ → Option S}
    {IsKey : C → Type 0} {IsSignature : S → Type 0}
    (k : IsFixed key_size spell_key key IsKey)
    (s : IsFixed signature_size spell_signature signature IsSignature) where
  pub greeting_fits : (channels : List Channel) (limits : PayloadConfig) (i : Info C S) → IsInfo i →
      kind_of (261 + 10 + key_size + signature_size) channels limits false
      (payload_spelling spell_key spell_signature (said.Greeting i))
      (length (payload_spelling spell_key spell_signature (said.Greeting i))) ≡ kind.Greeting
  greeting_fits channels limits i is =
      rw (le-ltb (1 + (261 + 10 + key_size + signature_size))
      (length (payload_spelling spell_key spell_signature (said.Greeting i)))
      (omega (arith, info_short k s i is))) refl

  pub gossip_fits : (channels : List Channel) (limits : PayloadConfig) (p : Payload C S) →
      IsPayload p → IsAdmitted IsKey IsSignature limits p → 0 < prefix_of p →
      kind_of (261 + 10 + key_size + signature_size) channels limits true
      (payload_spelling spell_key spell_signature p)
      (length (payload_spelling spell_key spell_signature p)) ≡ kind.Gossip
  gossip_fits channels limits (said.Data d) is admitted other = absurd (omega (arith, other))
  gossip_fits channels limits (said.Greeting i) is admitted other =
      rw (le-ltb (gossip_size (261 + 10 + key_size + signature_size) limits.max_bit_vec limits.max_peers)
      (length (payload_spelling spell_key spell_signature (said.Greeting i)))
      (gossip_short k s limits (said.Greeting i) is admitted other)) refl
  gossip_fits channels limits (said.BitVec v) is admitted other =
      rw (le-ltb (gossip_size (261 + 10 + key_size + signature_size) limits.max_bit_vec limits.max_peers)
      (length (payload_spelling spell_key spell_signature (said.BitVec v)))
      (gossip_short k s limits (said.BitVec v) is admitted other)) refl
  gossip_fits channels limits (said.Peers is) are admitted other =
      rw (le-ltb (gossip_size (261 + 10 + key_size + signature_size) limits.max_bit_vec limits.max_peers)
      (length (payload_spelling spell_key spell_signature (said.Peers is)))
      (gossip_short k s limits (said.Peers is) are admitted other)) refl

-- what is found has the number
found_number : (number : ℕ) (channels : List Channel) (c : Channel) →
    find (is_numbered number) channels ≡ Some c → c.number ≡ number
found_number number [] c is = absurd cc
found_number number (d ∷ channels) c is =
    elim (eqb d.number number) as (λ t. eqb d.number number ≡ t →
    cond t (Some d) (find (is_numbered number) channels) ≡ Some c → c.number ≡ number) [
      | true ↦ λ same found. let e : d ≡ c = cc in
          rw (← e) (eqb-true d.number number same)
      | false ↦ λ other found. found_number number channels c found
    ] refl is

-- the number of a channel is read of its spelling
channel_spelled : (number : ℕ) (rest : List ℕ) → number < 2 ^ 64 →
    channel_of (0 ∷ (varint64 number ++ rest)) ≡ Some number
channel_spelled number rest small =
    ap value_of (groups_again 10 1 false 9 number rest (omega arith) small (λ e. absurd cc))

pub message_fits : (info : ℕ) (channels : List Channel) (limits : PayloadConfig) (d : Data)
    (c : Channel) → d.channel < 2 ^ 64 → find (is_numbered d.channel) channels ≡ Some c →
    length d.message ≤ c.longest →
    kind_of info channels limits true (data_payload d) (length (data_payload d))
    ≡ kind.Message (position_or_len (is_numbered d.channel) channels)
message_fits info channels limits d c small found short =
    let number = found_number d.channel channels c found in
    let fits : length (data_payload d) ≤ longest_frame c = omega (
      arith,
      short,
      groups_less 5 (length d.message) c.longest short,
      ap (λ n. length (varint64 n)) number,
      length-append (varint64 d.channel) (counted_spelling d.message),
      length-append (varint32 (length d.message)) d.message,
      length-append (varint64 c.number) (varint32 c.longest),
    ) in
    rw (
      channel_spelled d.channel (counted_spelling d.message) small,
      found,
      le-ltb (longest_frame c) (length (data_payload d)) fits,
    ) refl

-- WHAT IS TAKEN FOR A MESSAGE

taken_number : (bytes : List ℕ) (number : ℕ) (r : Result (ℕ × List ℕ) CodecError) → IsBytes bytes →
    (varint64_at bytes).outcome ≡ r → value_of r ≡ Some number →
    (number < 2 ^ 64) × ((rest : List ℕ) × (bytes ≡ varint64 number ++ rest))
taken_number bytes number (Err e) are read is = absurd cc
taken_number bytes number (Ok x) are read is =
    let took = groups_take 10 1 false 9 bytes x.0 x.1 (omega arith) are read in
    let same : x.0 ≡ number = cc in (
      subst (λ n. n < 2 ^ 64) same took.small,
      (x.1, subst (λ n. bytes ≡ varint64 n ++ x.1) same took.parts),
    )

pub begins : (head : List ℕ) (number : ℕ) → IsBytes head → channel_of head ≡ Some number →
    (number < 2 ^ 64) × BeginsOn number head
begins [] number are is = absurd cc
begins (prefix ∷ rest) number are is =
    elim (eqb prefix 0) as (λ t. eqb prefix 0 ≡ t →
    cond t (value_of (varint64_at rest).outcome) None ≡ Some number →
    (number < 2 ^ 64) × BeginsOn number (prefix ∷ rest)) [
      | true ↦ λ same spelled.
          let took = taken_number rest number _ (λ i. are (suc i)) refl spelled in (
            took.0,
            (took.1.0, rw (eqb-true prefix 0 same) (ap (λ (w : List ℕ). 0 ∷ w) took.1.1)),
          )
      | false ↦ λ other spelled. absurd cc
    ] refl is

pub spells : (head : List ℕ) (number : ℕ) → (number < 2 ^ 64) × BeginsOn number head →
    channel_of head ≡ Some number
spells head number on = rw on.1.1 (channel_spelled number on.1.0 on.0)

-- what was found at its place, if the frame is a message
kind_found : (channels : List Channel) (number size place : ℕ) (at : Option Channel) →
    find (is_numbered number) channels ≡ at →
    kind_at (position_or_len (is_numbered number) channels) at size ≡ kind.Message place →
    (c : Channel) × (slice_get channels place ≡ Some c) × (c.number ≡ number)
    × (size ≤ longest_frame c)
kind_found channels number size place None found is = absurd cc
kind_found channels number size place (Some c) found is =
    elim (ltb (longest_frame c) size) as (λ t. ltb (longest_frame c) size ≡ t →
    cond t kind.TooLong (kind.Message (position_or_len (is_numbered number) channels))
    ≡ kind.Message place →
    (c : Channel) × (slice_get channels place ≡ Some c) × (c.number ≡ number)
    × (size ≤ longest_frame c)) [
      | true ↦ λ long kinds. absurd cc
      | false ↦ λ fits kinds.
          let same : position_or_len (is_numbered number) channels ≡ place = cc in (
            c,
            subst (λ k. slice_get channels k ≡ Some c) same
                (sym (find_at (is_numbered number) channels) ∙ found),
            found_number number channels c found,
            ltb-false _ _ fits,
          )
    ] refl is

gossip_is_none : (most size place : ℕ) → up_to kind.Gossip most size ≡ kind.Message place → ⊥
gossip_is_none most size place =
    elim (ltb most size) as (λ t. cond t kind.TooLong kind.Gossip ≡ kind.Message place → ⊥) [
      | true ↦ λ is. absurd cc
      | false ↦ λ is. absurd cc
    ]

next_found : (info : ℕ) (channels : List Channel) (limits : PayloadConfig) (head : List ℕ)
    (size place : ℕ) (number : Option ℕ) → IsBytes head → channel_of head ≡ number →
    next_kind info channels limits number size ≡ kind.Message place →
    (c : Channel) × (slice_get channels place ≡ Some c) × BeginsOn c.number head
    × (size ≤ longest_frame c)
next_found info channels limits head size place None are spelled is =
    absurd (gossip_is_none _ size place is)
next_found info channels limits head size place (Some number) are spelled is =
    let there = kind_found channels number size place _ refl is in (
      there.0,
      there.1,
      subst (λ n. BeginsOn n head) (sym there.2) (begins head number are spelled).1,
      there.3,
    )

pub found : (info : ℕ) (channels : List Channel) (limits : PayloadConfig) (head : List ℕ)
    (size place : ℕ) → IsBytes head →
    kind_of info channels limits true head size ≡ kind.Message place →
    (c : Channel) × (slice_get channels place ≡ Some c) × BeginsOn c.number head
    × (size ≤ longest_frame c)
found info channels limits head size place are is =
    next_found info channels limits head size place (channel_of head) are refl is
