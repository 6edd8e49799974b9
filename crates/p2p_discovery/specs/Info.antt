-- What a peer says of itself: which infos there are, how they are spelled, and what is signed.
use Rattle.std.specs.Prelude.{◌≡◌, ℕ, ◌+◌, ◌<◌, ◌^◌, true, List, ◌++◌, length, Option}
use Rattle.std.specs.List.{AllByRecursion}
use Rattle.p2p_discovery.specs.declared.codec.error.RangeCfg.{RangeCfg}
use Rattle.p2p_discovery.specs.declared.codec.error.What.TheVariants as what
use Rattle.p2p_discovery.specs.declared.discovery.Info.{Info}
use Rattle.p2p_discovery.specs.Reading.{Reading, ◌>>=◌, reads, is_within}
use Rattle.p2p_discovery.specs.Fields.{◌&◌}
use Rattle.p2p_discovery.specs.Fixed.{fixed_at}
use Rattle.p2p_discovery.specs.Ingress.{IsIngress, ingress_spelling, ingress_at}
use Rattle.p2p_discovery.specs.Lists.{list_spelling, list_at}
use Rattle.p2p_discovery.specs.Varint.{varint64, varint64_at}

-- the ingress is one, and the timestamp fits
pub record IsInfo {C S : Type 0} (i : Info C S) : Type 0 where
  pub ingress : IsIngress i.ingress
  pub timestamp : i.timestamp < 2 ^ 64

-- the key and the signature are values of their types
pub record IsKeyed {C S : Type 0} (IsKey : C → Type 0) (IsSignature : S → Type 0)
    (i : Info C S) : Type 0 where
  pub key : IsKey i.public_key
  pub signature : IsSignature i.signature

-- ---- spelling

-- the ingress, the timestamp, the key, the signature
abbrev pub info_spelling : {C S : Type 0} → (C → List ℕ) → (S → List ℕ) → Info C S → List ℕ
info_spelling key signature i =
    ingress_spelling i.ingress ++ (varint64 i.timestamp
    ++ (key i.public_key ++ signature i.signature))

-- a key of so many bytes and a signature of so many, behind the ingress and the timestamp
unfoldable pub info_at : {C S : Type 0} → ℕ → (List ℕ → Option C) → ℕ → (List ℕ → Option S)
    → List ℕ → Reading (Info C S)
info_at key_size key signature_size signature =
    (ingress_at & (varint64_at & (fixed_at key_size key what.Key
    & fixed_at signature_size signature what.Signature)))
    >>= λ p. reads (record {
      ingress = p.0;
      timestamp = p.1.0;
      public_key = p.1.1.0;
      signature = p.1.1.1;
    })

-- ---- lists of infos

-- the length, then the infos
abbrev pub infos_spelling : {C S : Type 0} → (C → List ℕ) → (S → List ℕ) → List (Info C S) → List ℕ
infos_spelling key signature = list_spelling (info_spelling key signature)

-- The limit allows so many infos, and so does the wire; each is made of values of its types.
pub record AreAllowed {C S : Type 0} (IsKey : C → Type 0) (IsSignature : S → Type 0)
    (limit : RangeCfg) (is : List (Info C S)) : Type 0 where
  pub within : is_within limit (length is) ≡ true
  pub small : length is < 2 ^ 32
  pub keyed : AllByRecursion (IsKeyed IsKey IsSignature) is

-- as many infos as the limit allows; each has at least 6 bytes beside its key and its signature
abbrev pub infos_at : {C S : Type 0} → ℕ → (List ℕ → Option C) → ℕ → (List ℕ → Option S)
    → RangeCfg → List ℕ → Reading (List (Info C S))
infos_at key_size key signature_size signature limit =
    list_at limit (6 + key_size + signature_size) (info_at key_size key signature_size signature)
