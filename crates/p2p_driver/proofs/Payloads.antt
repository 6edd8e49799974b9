-- How a frame begins and ends that spells a payload.
use Rattle.std.proofs.Common.{◌≡◌, ◌==◌, ℕ, ◌+◌, ◌-◌, Bool, true, false, List, [], ◌∷◌, ◌++◌, Option, None, refl, sym, ◌∙◌, ap, subst}
use Rattle.std.proofs.Common.{arith}
use Rattle.std.specs.Prelude.{length, drop, if◌then◌else◌, Result, Ok, Err}
use Rattle.std.proofs.lemmas.List.{length-append, append_assoc, append-nil, drop_at}
use Rattle.p2p_discovery.specs.declared.codec.error.CodecError.{CodecError}
use Rattle.p2p_discovery.specs.declared.codec.error.CodecError.TheVariants.{ExtraData}
use Rattle.p2p_discovery.specs.declared.discovery.PayloadConfig.{PayloadConfig}
use Rattle.p2p_discovery.specs.Fixed.{IsFixed}
use Rattle.p2p_discovery.specs.Laws.Payload.{lawful_payload}
use Rattle.p2p_discovery.specs.Reading.{ends_whole, IsBytes}
use Rattle.std.specs.declared.cmp.Ordering.{Ordering}
use Rattle.std.specs.declared.time.Duration.{Duration}
use Rattle.p2p_discovery.specs.Judgement.{Judge}
use Rattle.p2p_directory.specs.Nodes.{IsDecoded}
use Rattle.p2p_directory.specs.Received.{Wire}
use Rattle.p2p_discovery.specs.declared.data.Data.{Data}
use Rattle.p2p_discovery.specs.declared.discovery.Info.{Info}
use Rattle.p2p_discovery.specs.declared.discovery.Payload.{Payload}
use Rattle.p2p_discovery.specs.declared.discovery.Payload.TheVariants as payload
use Rattle.p2p_discovery.specs.Payload.{payload_spelling, payload_at}
use Rattle.p2p_discovery.specs.Varint.{varint32, varint64}
use Rattle.p2p_driver.specs.Frames.{is_greeting_frame, is_unasked, Spells}
use Rattle.p2p_driver.specs.Hearing.{IsMessage, TellsPayload, TellsNext}
use Rattle.p2p_driver.specs.declared.actions.Breach.TheVariants as breach
use Rattle.p2p_driver.specs.declared.frames.Came.{Came}
use Rattle.p2p_driver.specs.declared.frames.Came.TheVariants as came

module _ {C S : Type 0} (key : C → List ℕ) (signature : S → List ℕ) where
  -- a frame that spells no greeting doesn't begin as one
  pub no_greeting : (p : Payload C S) (frame : List ℕ) → frame ≡ payload_spelling key signature p →
      ((i : Info C S) → ¬ (p ≡ payload.Greeting i)) → is_greeting_frame frame ≡ false
  no_greeting (payload.Data d) frame is isnt = ap is_greeting_frame is
  no_greeting (payload.Greeting i) frame is isnt = absurd (isnt i refl)
  no_greeting (payload.BitVec v) frame is isnt = ap is_greeting_frame is
  no_greeting (payload.Peers is) frame spelled isnt = ap is_greeting_frame spelled

  -- .. and one that spells a greeting does
  pub a_greeting : (i : Info C S) (frame : List ℕ) → frame ≡ payload_spelling key signature (payload.Greeting i) →
      is_greeting_frame frame ≡ true
  a_greeting i frame is = ap is_greeting_frame is

  -- a message is the end of its frame
  abbrev spelled_data : Data → List ℕ
  spelled_data d = payload_spelling key signature (payload.Data d)

  pub message_at : (d : Data) (frame : List ℕ) (n : ℕ) → frame ≡ spelled_data d →
      n ≡ length frame - length d.message → IsMessage frame d.channel n d
  message_at d frame n is counted = record {
    channel_is = refl;
    within = omega (arith, counted);
    message_is = ap (drop n) split ∙ drop_at front d.message n (long (ap length split ∙ length-append front d.message));
  }
    where
      front : List ℕ
      front = 0 ∷ (varint64 d.channel ++ varint32 (length d.message))

      split : frame ≡ front ++ d.message
      split = is ∙ ap (λ xs. 0 ∷ xs) (sym (append_assoc (varint64 d.channel) (varint32 (length d.message)) d.message))

      long : length frame ≡ length front + length d.message → length front ≡ n
      long sum = omega (arith, counted, sum)

-- reading all of a frame leaves nothing behind
read_all : {P : Type 0} (o : Result (P × List ℕ) CodecError) (p : P) → ends_whole o ≡ Ok (p, []) → o ≡ Ok (p, [])
read_all (Err e) p is = absurd cc
read_all {P = P} (Ok x) p is = go (length x.1 == 0) is
  where
    Left : Type 0
    Left = Result (P × List ℕ) CodecError

    left : Bool → Left
    left b = if b then Ok x else Err (ExtraData (length x.1))

    all : Left
    all = Ok (p, [])

    whole : Left
    whole = Ok x

    go : (b : Bool) → left b ≡ all → whole ≡ all
    go true is = is
    go false is = absurd cc

-- a frame that was decoded is the spelling of its payload
pub spelled_by : {C S : Type 0} {key_size signature_size : ℕ} {key : C → List ℕ} {signature : S → List ℕ}
    {key_of : List ℕ → Option C} {signature_of : List ℕ → Option S} {IsKey : C → Type 0} {IsSignature : S → Type 0}
    (k : IsFixed key_size key key_of IsKey) (s : IsFixed signature_size signature signature_of IsSignature)
    (limits : PayloadConfig) (frame : List ℕ) (p : Payload C S) → IsBytes frame →
    IsDecoded (payload_at key_size key_of signature_size signature_of limits) frame p → frame ≡ payload_spelling key signature p
spelled_by {key = key} {signature = signature} k s limits frame p bytes decoded =
    ((lawful_payload k s limits).takes frame p [] bytes (read_all _ p decoded)).1
    ∙ append-nil (payload_spelling key signature p)

-- a frame spells what another does that is the same
pub spells_as : {C S : Type 0} (wire : Wire C S) (limits : PayloadConfig) (f f2 : List ℕ) (p p2 : Payload C S) →
    Spells wire limits f p → f ≡ f2 → p ≡ p2 → Spells wire limits f2 p2
spells_as wire limits f f2 p p2 spells same_frame same =
    subst (λ p. Spells wire limits f2 p) same (subst (λ f. Spells wire limits f p) same_frame spells)

-- what is told of a payload is told of its frame, which is neither a greeting nor an unasked list
pub tells_next : {C S : Type 0} (cmp : C → C → Ordering) (wire : Wire C S) (l : PayloadConfig) (j : Judge C S) (owed : ℕ) (frame : List ℕ) (wall : Duration)
    (c : Came) → is_greeting_frame frame ≡ false → is_unasked owed frame ≡ false →
    TellsPayload cmp wire l j frame wall c → TellsNext cmp wire l j owed frame wall c
tells_next cmp wire l j owed frame wall (came.Breach breach.NoGreeting) g u tells = (g, u, tells)
tells_next cmp wire l j owed frame wall (came.Breach breach.OtherGreeting) g u tells = (g, u, tells)
tells_next cmp wire l j owed frame wall (came.Breach breach.SecondGreeting) g u tells = absurd (tells None (λ index bits now. None)).3
tells_next cmp wire l j owed frame wall (came.Breach (breach.Codec fault)) g u tells = (g, u, tells)
tells_next cmp wire l j owed frame wall (came.Breach breach.Malformed) g u tells = (g, u, tells)
tells_next cmp wire l j owed frame wall (came.Breach breach.FrameLength) g u tells = (g, u, tells)
tells_next cmp wire l j owed frame wall (came.Breach (breach.Invalid e)) g u tells = (g, u, tells)
tells_next cmp wire l j owed frame wall came.Early g u tells = (g, u, tells)
tells_next cmp wire l j owed frame wall (came.Waits w) g u tells = (g, u, tells)
tells_next cmp wire l j owed frame wall came.Ignored g u tells = absurd tells
tells_next cmp wire l j owed frame wall (came.Message channel start) g u tells = (g, u, tells)
tells_next cmp wire l j owed frame wall came.Served g u tells = (g, u, tells)
tells_next cmp wire l j owed frame wall came.Memory g u tells = absurd tells
