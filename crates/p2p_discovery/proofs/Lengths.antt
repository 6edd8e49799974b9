-- How many bytes spellings have, at least and at most.
use Rattle.std.proofs.Common.{◌≡◌, ℕ, zero, suc, ◌+◌, ◌*◌, ◌/◌, ◌≤◌, ◌<◌, true, List, [], ◌∷◌, ◌++◌, length, Option, arith, inl, inr}
use Rattle.std.specs.Int.{w16, to_be_bytes}
use Rattle.std.specs.List.{AllByRecursion}
use Rattle.std.proofs.Math.Nat.{mul-le-mul_right}
use Rattle.std.proofs.lemmas.Bool.{cases_lt, lt-ltb, le-ltb}
use Rattle.std.proofs.lemmas.Bool.Decides.{nat_tests}
use Rattle.std.proofs.lemmas.List.{length-append}
use Rattle.p2p_discovery.specs.declared.types.socket.IpAddr.{IpAddr}
use Rattle.p2p_discovery.specs.declared.types.socket.IpAddr.TheVariants.{V4, V6}
use Rattle.p2p_discovery.specs.declared.types.ingress.Ingress.{Ingress}
use Rattle.p2p_discovery.specs.declared.types.ingress.Ingress.TheVariants.{Socket, Dns}
use Rattle.p2p_discovery.specs.declared.discovery.BitVec.{BitVec}
use Rattle.p2p_discovery.specs.declared.discovery.Info.{Info}
use Rattle.p2p_discovery.specs.declared.discovery.Payload.{Payload}
use Rattle.p2p_discovery.specs.declared.discovery.Payload.TheVariants as said
use Rattle.p2p_discovery.specs.declared.discovery.PayloadConfig.{PayloadConfig}
use Rattle.p2p_discovery.specs.Reading.{is_within}
use Rattle.p2p_discovery.specs.Fixed.{IsFixed}
use Rattle.p2p_discovery.specs.Varint.{groups, varint32, varint64}
use Rattle.p2p_discovery.specs.Laws.Varint.{groups_short}
use Rattle.p2p_discovery.specs.Counted.{counted_spelling}
use Rattle.p2p_discovery.specs.Socket.{IsIp, ip_spelling}
use Rattle.p2p_discovery.specs.Ingress.{IsIngress, ingress_spelling}
use Rattle.p2p_discovery.specs.Laws.Ingress.{ingress_short}
use Rattle.p2p_discovery.specs.Lists.{spellings}
use Rattle.p2p_discovery.specs.Info.{IsInfo, info_spelling, infos_spelling}
use Rattle.p2p_discovery.specs.Bits.{packed}
use Rattle.p2p_discovery.specs.Laws.Bits.{length-packed}
use Rattle.p2p_discovery.specs.BitVec as bits
use Rattle.p2p_discovery.specs.Payload.{up_to, prefix_of, IsPayload, IsAdmitted, IsBoundedBy, payload_spelling, gossip_size}

-- a lesser number has no more groups
pub groups_less : (most n m : ℕ) → n ≤ m → length (groups most n) ≤ length (groups most m)
unfolding groups
groups_less zero n m h = omega arith
groups_less (suc most) n m h =
    elim (cases_lt n 128) [
      | inl low ↦ elim (cases_lt m 128) [
        | inl also ↦ rw (lt-ltb n 128 low, lt-ltb m 128 also) (omega arith)
        | inr high ↦ rw (lt-ltb n 128 low, le-ltb m 128 high) (omega arith)
      ]
      | inr high ↦
          rw (le-ltb n 128 high, le-ltb m 128 (omega arith))
          (omega (arith, groups_less most (n / 128) (m / 128) (omega arith)))
    ]

-- spellings of at most so many bytes each
pub spellings_short : {A : Type 0} (sp : A → List ℕ) (P : A → Type 0) (most : ℕ)
    → ((x : A) → P x → length (sp x) ≤ most) → (xs : List A) → AllByRecursion P xs
    → length (spellings sp xs) ≤ length xs * most
unfolding spellings
spellings_short sp P most each [] h = omega arith
spellings_short sp P most each (x ∷ xs) h =
    let one : suc (length xs) * most ≡ most + length xs * most = omega arith in
    omega (
      arith,
      one,
      each x h.0,
      spellings_short sp P most each xs h.1,
      length-append (sp x) (spellings sp xs),
    )

-- spellings of at least so many bytes each
pub spellings_long : {A : Type 0} (sp : A → List ℕ) (P : A → Type 0) (least : ℕ)
    → ((x : A) → P x → least ≤ length (sp x)) → (xs : List A) → AllByRecursion P xs
    → length xs * least ≤ length (spellings sp xs)
unfolding spellings
spellings_long sp P least each [] h = omega arith
spellings_long sp P least each (x ∷ xs) h =
    let one : suc (length xs) * least ≡ least + length xs * least = omega arith in
    omega (
      arith,
      one,
      each x h.0,
      spellings_long sp P least each xs h.1,
      length-append (sp x) (spellings sp xs),
    )

within_up_to : (n greatest : ℕ) → is_within (up_to greatest) n ≡ true → n ≤ greatest
within_up_to n greatest h = grind (arith, nat_tests)

-- bits need no more than the bytes of their spelling
pub bits_bounded : (v : BitVec) → length v.bits ≤ 8 * length (bits.bit_vec_spelling v)
bits_bounded v =
    omega (
      arith,
      length-packed v.bits,
      length-append (varint64 v.index) (varint64 (length v.bits) ++ packed v.bits),
      length-append (varint64 (length v.bits)) (packed v.bits),
    )

pub length-info : {C S : Type 0} (key : C → List ℕ) (signature : S → List ℕ) (i : Info C S)
    → length (info_spelling key signature i)
    ≡ length (ingress_spelling i.ingress)
    + (length (varint64 i.timestamp) + (length (key i.public_key) + length (signature i.signature)))
length-info key signature i = simp length-append

some_group : (most n : ℕ) → 1 ≤ length (groups (suc most) n)
unfolding groups
some_group most n =
    elim (cases_lt n 128) [
      | inl low ↦ rw (lt-ltb n 128 low) (omega arith)
      | inr high ↦ rw (le-ltb n 128 high) (omega arith)
    ]

some_ip : (ip : IpAddr) → IsIp ip → 5 ≤ length (ip_spelling ip)
some_ip (V4 b) h = omega (arith, h.0)
some_ip (V6 b) h = omega (arith, h.0)

some_ingress : (i : Ingress) → IsIngress i → 5 ≤ length (ingress_spelling i)
some_ingress (Socket s) h =
    omega (arith, some_ip s.ip h.0, length-append (ip_spelling s.ip) (to_be_bytes w16 s.port))
some_ingress (Dns host port) h =
    omega (
      arith,
      some_group 4 (length host),
      h.0.some,
      length-append (varint32 (length host)) host,
      length-append (counted_spelling host) (to_be_bytes w16 port),
    )

module _ {C S : Type 0} {key_size signature_size : ℕ} {spell_key : C → List ℕ}
    {spell_signature : S → List ℕ} {key : List ℕ → Option C} {signature : List ℕ → Option S}
    {IsKey : C → Type 0} {IsSignature : S → Type 0}
    (k : IsFixed key_size spell_key key IsKey)
    (s : IsFixed signature_size spell_signature signature IsSignature) where
  pub info_short : (i : Info C S) → IsInfo i
      → length (info_spelling spell_key spell_signature i) ≤ 261 + 10 + key_size + signature_size
  info_short i h =
      rw (length-info spell_key spell_signature i)
      (omega (
        arith,
        ingress_short i.ingress h.ingress,
        groups_short 10 i.timestamp,
        k.len i.public_key,
        s.len i.signature,
      ))

  pub info_long : (i : Info C S) → IsInfo i
      → 6 + key_size + signature_size ≤ length (info_spelling spell_key spell_signature i)
  info_long i h =
      rw (length-info spell_key spell_signature i)
      (omega (
        arith,
        some_ingress i.ingress h.ingress,
        some_group 9 i.timestamp,
        k.len i.public_key,
        s.len i.signature,
      ))

  pub gossip_short : (limits : PayloadConfig) (p : Payload C S) → IsPayload p
      → IsAdmitted IsKey IsSignature limits p → 0 < prefix_of p
      → length (payload_spelling spell_key spell_signature p)
      ≤ gossip_size (261 + 10 + key_size + signature_size) limits.max_bit_vec limits.max_peers
  gossip_short limits (said.Data d) h a other = absurd (omega arith)
  gossip_short limits (said.Greeting i) h a other = omega (arith, info_short i h)
  gossip_short limits (said.BitVec v) h a other =
      omega (
        arith,
        groups_short 10 v.index,
        groups_less 10 (length v.bits) limits.max_bit_vec a.within,
        a.within,
        length-packed v.bits,
        length-append (varint64 v.index) (varint64 (length v.bits) ++ packed v.bits),
        length-append (varint64 (length v.bits)) (packed v.bits),
      )
  gossip_short limits (said.Peers is) h a other =
      let info = 261 + 10 + key_size + signature_size in
      let all =
      spellings_short (info_spelling spell_key spell_signature) IsInfo
      (261 + 10 + key_size + signature_size) info_short is h in
      let few : length is ≤ limits.max_peers = within_up_to (length is) limits.max_peers a.within in
      let less : length is * (261 + 10 + key_size + signature_size)
      ≤ limits.max_peers * (261 + 10 + key_size + signature_size) =
      mul-le-mul_right (261 + 10 + key_size + signature_size) few in
      omega (
        arith,
        all,
        less,
        groups_short 5 (length is),
        length-append (varint32 (length is))
            (spellings (info_spelling spell_key spell_signature) is),
      )

  -- what is spelled needs no more than the bytes of its spelling
  pub infos_bounded : (is : List (Info C S)) → AllByRecursion IsInfo is
      → length is * (6 + key_size + signature_size)
      ≤ length (infos_spelling spell_key spell_signature is)
  infos_bounded is h =
      omega (
        arith,
        spellings_long (info_spelling spell_key spell_signature) IsInfo
            (6 + key_size + signature_size) info_long is h,
        length-append (varint32 (length is))
            (spellings (info_spelling spell_key spell_signature) is),
      )

  pub payload_bounded : (p : Payload C S) → IsPayload p
      → IsBoundedBy (6 + key_size + signature_size)
      (length (payload_spelling spell_key spell_signature p)) p
  payload_bounded (said.Data d) h =
      omega (
        arith,
        length-append (varint64 d.channel) (counted_spelling d.message),
        length-append (varint32 (length d.message)) d.message,
      )
  payload_bounded (said.Greeting i) h = omega (arith, info_long i h)
  payload_bounded (said.BitVec v) h = omega (arith, bits_bounded v)
  payload_bounded (said.Peers is) h = omega (arith, infos_bounded is h)
