-- Data are read by their spelling, and a header before the buffers of a message makes its frame.
use Rattle.std.proofs.Common.{◌≡◌, ℕ, ◌+◌, ◌≤◌, ◌<◌, ◌^◌, true, List, [], ◌∷◌, ◌++◌, length, refl}
use Rattle.std.proofs.Common.{ap, ◌∙◌, arith, lit<, append_assoc, sum_by}
use Rattle.std.specs.List.{concat}
use Rattle.std.proofs.lemmas.List.{length-append, append-nil}
use Rattle.std.proofs.lemmas.List.Folds.{concat-append}
use Rattle.std.proofs.lemmas.List.Concat.{concat_is, length-flat_map}
use Rattle.p2p_discovery.specs.declared.codec.error.RangeCfg.{RangeCfg}
use Rattle.p2p_discovery.specs.declared.data.Data.{Data}
use Rattle.p2p_discovery.specs.Reading.{Lawful, is_within}
use Rattle.p2p_discovery.specs.Laws.Fields.{lawful_sized, lawful_both, lawful_as}
use Rattle.p2p_discovery.specs.Counted.{counted_spelling}
use Rattle.p2p_discovery.specs.Laws.Counted.{lawful_length, lawful_cut, counted_short}
use Rattle.p2p_discovery.specs.Varint.{varint32, varint64}
use Rattle.p2p_discovery.specs.Laws.Varint.{groups_lawful, groups_short}
use Rattle.p2p_discovery.specs.Data.{data_spelling, IsDataAllowed, message_at, data_at, header}
use Rattle.p2p_discovery.specs.Data.{data_payload}

lawful_message : (limit : RangeCfg)
    → Lawful (message_at limit) counted_spelling
    (λ m. Unit {0} × ((is_within limit (length m) ≡ true) × (length m < 2 ^ 32)))
unfolding message_at
lawful_message limit = lawful_sized length (lawful_length limit) (λ n _. lawful_cut n)

pub lawful_data : (limit : RangeCfg)
    → Lawful (data_at limit) data_spelling (λ d. (d.channel < 2 ^ 64) × IsDataAllowed limit d)
unfolding data_at
lawful_data limit =
    lawful_as (λ p. record { channel = p.0; message = p.1 }) (λ d. (d.channel, d.message))
    data_spelling (λ d. (d.channel < 2 ^ 64) × IsDataAllowed limit d)
    (λ p h. ((h.0, record { within = h.1.1.0; small = h.1.1.1 }), refl))
    (λ d h. (refl, (h.0, (tt, (h.1.within, h.1.small))), refl))
    (lawful_both (groups_lawful 10 1 9 (lit< tt)) (lawful_message limit))

-- the header and the buffers, joined, are the payload
pub frame_is : (channel : ℕ) (buffers frame : List (List ℕ))
    → frame ≡ header channel (length (concat buffers)) ∷ buffers
    → concat frame ≡ data_payload (record { channel = channel; message = concat buffers })
frame_is channel buffers frame e =
    ap concat e ∙ ap (λ (w : List ℕ). 0 ∷ w)
    (append_assoc (varint64 channel) (varint32 (length (concat buffers))) (concat buffers))

pub payload_short : (d : Data) → length (data_payload d) ≤ length d.message + 16
payload_short d =
    omega (
      arith,
      groups_short 10 d.channel,
      counted_short d.message,
      length-append (varint64 d.channel) (counted_spelling d.message),
    )

pub frame_short : (channel : ℕ) (buffers frame : List (List ℕ))
    → frame ≡ header channel (length (concat buffers)) ∷ buffers
    → length (concat frame) ≤ length (concat buffers) + 16
frame_short channel buffers frame e =
    omega (
      arith,
      ap length (frame_is channel buffers frame e),
      payload_short (record { channel = channel; message = concat buffers }),
    )

-- how long buffers are together
pub joined_len : (buffers : List (List ℕ)) → length (concat buffers) ≡ sum_by length buffers
joined_len buffers = ap length (concat_is buffers) ∙ length-flat_map (λ b. b) buffers

pub joined_push : (buffers : List (List ℕ)) (b : List ℕ)
    → length (concat (buffers ++ b ∷ [])) ≡ length (concat buffers) + length b
joined_push buffers b =
    ap length (concat-append buffers (b ∷ [])) ∙ length-append (concat buffers) (b ++ [])
    ∙ ap (λ (w : List ℕ). length (concat buffers) + length w) (append-nil b)
