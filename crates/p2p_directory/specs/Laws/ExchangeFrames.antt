-- Exchanges of which each frame is a call of its own, among what else is done to a network.
use Rattle.std.specs.Prelude.{◌≡◌, ℕ, Bool, true, false, ◌==◌, ◌||◌, List, [], ◌∷◌, ◌++◌, Some}
use Rattle.std.specs.Prelude.{None, zero, suc}
use Rattle.std.specs.List.{AllByRecursion}
use Rattle.std.specs.Duration.{as_nanos}
use Rattle.std.specs.declared.time.Duration.{Duration}
use Rattle.p2p_discovery.specs.declared.discovery.Info.{Info}
use Rattle.p2p_directory.specs.declared.node.received.Received.{Received}
use Rattle.p2p_directory.specs.declared.node.received.Received.TheVariants as received
use Rattle.p2p_directory.specs.declared.node.exchanged.Exchanged.{Exchanged}
use Rattle.p2p_directory.specs.declared.node.exchanged.Exchanged.TheVariants as exchanged
use Rattle.p2p_directory.specs.declared.node.network.commands.NetworkCommand.{NetworkCommand}
use Rattle.p2p_directory.specs.declared.node.network.commands.NetworkCommand.TheVariants as command
use Rattle.p2p_directory.specs.declared.node.network.commands.NetworkReply.TheVariants as reply
use Rattle.p2p_directory.specs.Received.{Wire}
use Rattle.p2p_directory.specs.Nodes.{Made}
use Rattle.p2p_directory.specs.Exchange.{CanBeSpelled}
use Rattle.p2p_directory.specs.Network.{Done, changed_by, is_node, standing_at, done_after}
use Rattle.p2p_directory.specs.Network.{infos_of_frame}
use Rattle.p2p_directory.specs.Laws.InTurn.{Steps, commands_of, replies_of}

-- what was answered to the frames of an exchange, and what was done between them, the oldest first
pub data ExchangeFrames (C S : Type 0) : Type 0 where
  -- the asker has no set at the place
  NoFrame : ExchangeFrames C S
  -- it lacks memory for a frame
  NoMemory : ExchangeFrames C S
  -- it asks with a frame, and the replier answers to that
  Asked : (frame : List ℕ) → (between : Steps C S) → (answer : Received C S) → ExchangeFrames C S
  -- .. with a reply, and the asker answers to that
  Replied : (frame : List ℕ) → (between : Steps C S) → (reply : List ℕ) → (later : Steps C S) →
      (answer : Received C S) → ExchangeFrames C S

module _ {C S : Type 0} where
  -- the command is given to the node
  abbrev pub names : NetworkCommand C S → ℕ → Bool
  names (command.Exchange asker replier place s t) n = (asker == n) || (replier == n)
  names c n = changed_by c == n

  -- no step is one of either node
  abbrev pub NameNeither : ℕ → ℕ → Steps C S → Type 0
  NameNeither i j steps =
      AllByRecursion (λ x. (names x.0 i ≡ false) × (names x.0 j ≡ false)) steps

  -- the steps between the frames
  abbrev pub between_frames : ExchangeFrames C S → Steps C S
  between_frames (Asked frame between answer) = between
  between_frames (Replied frame between given later answer) = between ++ later
  between_frames _ = []

  -- WHAT THE FRAMES COME TO

  -- .. where the replier answers no reply
  abbrev pub IsRefusedReply : Received C S → Exchanged C S → Type 0
  IsRefusedReply (received.Codec fault) (exchanged.AskRefused f) = f ≡ fault
  IsRefusedReply received.Malformed exchanged.Malformed = Unit {0}
  IsRefusedReply received.Memory exchanged.Memory = Unit {0}
  IsRefusedReply _ _ = ⊥

  -- .. where the asker answers to a reply that has these infos
  abbrev pub IsTakenReply : List (Info C S) → Received C S → Exchanged C S → Type 0
  IsTakenReply infos (received.Codec fault) (exchanged.ReplyRefused f) = f ≡ fault
  IsTakenReply infos (received.Invalid error) (exchanged.Invalid e) = e ≡ error
  IsTakenReply infos received.Memory exchanged.Memory = Unit {0}
  IsTakenReply infos (received.Applied count) (exchanged.Applied given) = given.items ≡ infos
  IsTakenReply _ _ _ = ⊥

-- THE STEPS, by which nodes exchange at their moments s and t

module _ {C S : Type 0} (asker replier place : ℕ) (s t : Duration) where
  -- the frames in turn, and the steps between them
  abbrev pub frame_steps : ExchangeFrames C S → Steps C S
  frame_steps NoFrame = (command.Ask asker place, reply.Ask None) ∷ []
  frame_steps NoMemory = (command.Ask asker place, reply.OutOfMemory) ∷ []
  frame_steps (Asked frame between answer) = (command.Ask asker place, reply.Ask (Some frame))
      ∷ between ++ (command.Frame replier frame t, reply.Frame answer) ∷ []
  frame_steps (Replied frame between given later answer) =
      (command.Ask asker place, reply.Ask (Some frame)) ∷ between
      ++ ((command.Frame replier frame t, reply.Frame (received.Reply given)) ∷ later
      ++ (command.Frame asker given s, reply.Frame answer) ∷ [])

  -- the same with one exchange in place of all frames, where the last one stood
  abbrev pub exchange_steps : ExchangeFrames C S → Exchanged C S → Steps C S
  exchange_steps x r = between_frames x
      ++ (command.Exchange asker replier place s t, reply.Exchange r) ∷ []

module _ {C S : Type 0} (wire : Wire C S) (size : ℕ) (node : ℕ → Made C S) where
  -- what the frames of an exchange come to, where the asker is node n
  abbrev pub ComeTo : ℕ → ExchangeFrames C S → Exchanged C S → Type 0
  ComeTo n NoFrame exchanged.NoSet = Unit {0}
  ComeTo n NoMemory exchanged.Memory = Unit {0}
  ComeTo n (Asked frame between answer) r = IsRefusedReply answer r
  ComeTo n (Replied frame between given later answer) r =
      IsTakenReply (infos_of_frame wire (node n).limits given) answer r
  ComeTo n _ _ = ⊥

  -- the frames are those of two nodes with no call of either between, and come to r
  pub record AreExchange (asker replier : ℕ) (x : ExchangeFrames C S) (r : Exchanged C S) :
      Type 0 where
    pub there : is_node wire size node replier ≡ true
    pub apart : ¬ (asker ≡ replier)
    pub between : NameNeither asker replier (between_frames x)
    pub outcome : ComeTo asker x r

  -- what was done by some steps from the start
  abbrev pub done_by : Steps C S → Done C S
  done_by steps = done_after wire size node [] (commands_of steps) (replies_of steps)

  -- after these steps, what is told in an exchange has a spelling
  abbrev pub IsSpelledAfter : (C → Type 0) → (S → Type 0) → Steps C S → ℕ → ℕ → ℕ → ℕ → Type 0
  IsSpelledAfter IsKey IsSignature steps asker replier place t =
      CanBeSpelled IsKey IsSignature (standing_at wire size node (done_by steps) asker)
      (standing_at wire size node (done_by steps) replier) place t

  -- COUNTED: by these keys and signatures
  module _ (IsKey : C → Type 0) (IsSignature : S → Type 0) where
    -- the frames of one exchange count as the exchange, and what is told has a spelling, unless
    -- memory was refused
    pub record CountsOne (steps counted : Steps C S) : Type 0 where
      pub asker : ℕ
      pub replier : ℕ
      pub place : ℕ
      pub s : Duration
      pub t : Duration
      pub frames : ExchangeFrames C S
      pub r : Exchanged C S
      pub before : Steps C S
      pub after : Steps C S
      pub are_exchange : AreExchange asker replier frames r
      pub spelled : ¬ (r ≡ exchanged.Memory) →
          IsSpelledAfter IsKey IsSignature before asker replier place (as_nanos t)
      pub in_frames : steps ≡ before ++ (frame_steps asker replier place s t frames ++ after)
      pub in_exchange : counted
          ≡ before ++ (exchange_steps asker replier place s t frames r ++ after)

    -- .. of so many, one after the other
    abbrev pub AreCounted : ℕ → Steps C S → Steps C S → Type 0
    AreCounted zero steps counted = counted ≡ steps
    AreCounted (suc n) steps counted =
        (between : Steps C S) × CountsOne steps between × AreCounted n between counted
