-- What is read of an info, part by part.
use Rattle.std.proofs.Common.{◌≡◌, ℕ, List, Option, Some, Ok, refl, sym, ap, ◌∙◌}
use Rattle.p2p_discovery.specs.declared.codec.error.What.{What}
use Rattle.p2p_discovery.specs.declared.codec.error.What.TheVariants as what
use Rattle.p2p_discovery.specs.declared.discovery.Info.{Info}
use Rattle.p2p_discovery.specs.Reading.{Reading, ◌>>=◌, reads, counted_at}
use Rattle.p2p_discovery.specs.Fields.{◌&◌}
use Rattle.p2p_discovery.specs.Fixed.{fixed_at, valued}
use Rattle.p2p_discovery.specs.Info.{info_at}
use Rattle.p2p_discovery.specs.Ingress.{ingress_at}
use Rattle.p2p_discovery.specs.Varint.{varint64_at}

next : {A B : Type 0} (r : List ℕ → Reading A) (f : A → List ℕ → Reading B) (bytes : List ℕ) (x : A) (rest : List ℕ) →
    (r bytes).outcome ≡ Ok (x, rest) → ((r >>= f) bytes).outcome ≡ (f x rest).outcome
next r f bytes x rest o = rw o refl

both : {A B : Type 0} (r : List ℕ → Reading A) (s : List ℕ → Reading B) (bytes : List ℕ) (x : A) (mid : List ℕ) (y : B)
    (rest : List ℕ) → (r bytes).outcome ≡ Ok (x, mid) → (s mid).outcome ≡ Ok (y, rest) →
    ((r & s) bytes).outcome ≡ Ok ((x, y), rest)
both r s bytes x mid y rest o p =
    next r (λ a. s >>= λ b. reads (a, b)) bytes x mid o ∙ next s (λ b. reads (x, b)) mid y rest p

fixed : {K : Type 0} (size : ℕ) (value : List ℕ → Option K) (fault : What) (bytes part : List ℕ) (rest : List ℕ) (k : K) →
    (counted_at size bytes).outcome ≡ Ok (part, rest) → Some k ≡ value part →
    (fixed_at size value fault bytes).outcome ≡ Ok (k, rest)
fixed size value fault bytes part rest k o e =
    next (counted_at size) (λ b. valued fault (value b)) bytes part rest o
    ∙ ap (λ v. (valued fault v rest).outcome) (sym e)

pub info_is : {C S : Type 0} (key_size : ℕ) (key : List ℕ → Option C) (signature_size : ℕ) (signature : List ℕ → Option S)
    (bytes : List ℕ) (i : Info C S) (after_ingress after_timestamp key_bytes after_key signature_bytes rest : List ℕ) →
    (ingress_at bytes).outcome ≡ Ok (i.ingress, after_ingress) →
    (varint64_at after_ingress).outcome ≡ Ok (i.timestamp, after_timestamp) →
    (counted_at key_size after_timestamp).outcome ≡ Ok (key_bytes, after_key) → Some i.public_key ≡ key key_bytes →
    (counted_at signature_size after_key).outcome ≡ Ok (signature_bytes, rest) → Some i.signature ≡ signature signature_bytes →
    (info_at key_size key signature_size signature bytes).outcome ≡ Ok (i, rest)
unfolding info_at
info_is key_size key signature_size signature bytes i after_ingress after_timestamp key_bytes after_key signature_bytes rest a b c d e f =
    let keyed = fixed key_size key what.Key after_timestamp key_bytes after_key i.public_key c d in
    let signed = fixed signature_size signature what.Signature after_key signature_bytes rest i.signature e f in
    let two = both (fixed_at key_size key what.Key) (fixed_at signature_size signature what.Signature)
    after_timestamp i.public_key after_key i.signature rest keyed signed in
    let three = both varint64_at (fixed_at key_size key what.Key & fixed_at signature_size signature what.Signature)
    after_ingress i.timestamp after_timestamp (i.public_key, i.signature) rest b two in
    let four = both ingress_at (varint64_at & (fixed_at key_size key what.Key & fixed_at signature_size signature what.Signature))
    bytes i.ingress after_ingress (i.timestamp, (i.public_key, i.signature)) rest a three in
    next (ingress_at & (varint64_at & (fixed_at key_size key what.Key & fixed_at signature_size signature what.Signature)))
    (λ p. reads (record { ingress = p.0; timestamp = p.1.0; public_key = p.1.1.0; signature = p.1.1.1 }))
    bytes (i.ingress, (i.timestamp, (i.public_key, i.signature))) rest four
