-- What is done in turn to nodes, each by calls of its own.
use Rattle.std.specs.Prelude.{◌≡◌, ℕ, Bool, true, false, not, List, [], ◌∷◌, map, filter}
use Rattle.std.specs.declared.cmp.Ordering.{Ordering}
use Rattle.p2p_directory.specs.declared.node.network.commands.NetworkCommand.{NetworkCommand}
use Rattle.p2p_directory.specs.declared.node.network.commands.NetworkReply.{NetworkReply}
use Rattle.p2p_directory.specs.declared.node.network.commands.NetworkReply.TheVariants as reply
use Rattle.p2p_directory.specs.declared.run.commands.Reply.TheVariants as run_reply
use Rattle.p2p_directory.specs.Received.{Wire}
use Rattle.p2p_directory.specs.Nodes.{NodeView, Made}
use Rattle.p2p_directory.specs.Network.{IsServedAmong, AreNetworkAnswers, StandAfter, done_after}

-- commands with their replies, the oldest first
abbrev pub Steps : Type 0 → Type 0 → Type 0
Steps C S = List (NetworkCommand C S × NetworkReply C S)

-- each command was given to the nodes that it names, by what each call says, and to no other: vs
-- before the first, vs2 after the last
abbrev pub AreServedInTurn : {C S : Type 0} → (C → C → Ordering) → Wire C S → Steps C S →
    List (NodeView C S) → List (NodeView C S) → Type 0
AreServedInTurn cmp wire [] vs vs2 = vs2 ≡ vs
AreServedInTurn {C} {S} cmp wire (x ∷ steps) vs vs2 = (between : List (NodeView C S))
    × IsServedAmong cmp wire x.0 x.1 vs between × AreServedInTurn cmp wire steps between vs2

module _ {C S : Type 0} where
  -- the reply to a call of a directory is want of memory
  abbrev pub is_refused : NetworkReply C S → Bool
  is_refused (reply.Call run_reply.OutOfMemory) = true
  is_refused _ = false

  -- the steps without those
  abbrev pub not_refused : Steps C S → Steps C S
  not_refused steps = filter (λ x. not (is_refused x.1)) steps

  abbrev pub commands_of : Steps C S → List (NetworkCommand C S)
  commands_of steps = map (λ x. x.0) steps

  abbrev pub replies_of : Steps C S → List (NetworkReply C S)
  replies_of steps = map (λ x. x.1) steps

  -- the steps are a run of a network from its start, at whose end the nodes stand
  pub record IsNetworkRun (wire : Wire C S) (size : ℕ) (node : ℕ → Made C S) (steps : Steps C S)
      (vs : List (NodeView C S)) : Type 0 where
    pub answers : AreNetworkAnswers wire size node [] (commands_of steps) (replies_of steps)
    pub stand : StandAfter wire size node
        (done_after wire size node [] (commands_of steps) (replies_of steps)) vs
