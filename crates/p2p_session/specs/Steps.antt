-- The node of a session step by step, the oldest step first: calls, and frames that it received.
use Rattle.std.specs.Prelude.{◌≡◌, ◌⊎◌, ℕ, Bool, false, if◌then◌else◌, List, [], ◌∷◌, map}
use Rattle.std.specs.Prelude.{Option, Some, None, Ok, Err}
use Rattle.std.specs.List.{filter_map}
use Rattle.p2p_tracker.specs.Calls.{Call}
use Rattle.p2p_tracker.specs.Calls.Call.{Update}
use Rattle.p2p_directory.specs.declared.node.received.Received.{Received}
use Rattle.p2p_directory.specs.declared.run.commands.Reply.{Reply}
use Rattle.p2p_directory.specs.declared.run.commands.Reply.TheVariants as reply
use Rattle.p2p_directory.specs.Network.{infos_of_frame}
use Rattle.p2p_directory.specs.Nodes.{NodeView, Made, AtEach, IsSteppedAt, IsStepAnswer, IsSame}
use Rattle.p2p_directory.specs.Nodes.{NodeStandsAt, given_verdicts, standing_in}
use Rattle.p2p_directory.specs.Received.{IsFrameAnswer, applies, received_by}
use Rattle.p2p_directory.specs.Received.{frame_may_want_memory_by}
use Rattle.p2p_directory.specs.Run.{AreAnswers, accepted, next, was_made, world_after}
use Rattle.p2p_directory.specs.Laws.Run.{LawsOfRun}
use Rattle.p2p_session.specs.Schemes.{Scheme, wire}
use Rattle.p2p_session.specs.Answers.{Tells}
use Rattle.p2p_session.specs.Frames.{Hears, received_answer, verdicts_in}
use Rattle.p2p_session.specs.Given.{Asked, IsRead, IsTrackRead, moment_at}
use Rattle.p2p_session.specs.Sessions.{TellsReply, updated_by, infos_for}
use Rattle.p2p_session.specs.Requests.{Request}
use Rattle.p2p_session.specs.Requests.Request.{Numbered, Written, SetOf, Infos, Bits, Frame}

pub data Step (C S : Type 0) : Type 0 where
  -- a call, and its reply
  Called : (call : Call C S) (r : Reply C S) → Step C S
  -- a frame at a moment with verdicts on the signatures of its infos, and what was returned for it
  Heard : (frame : List ℕ) (now : ℕ) (verdicts : List Bool) (r : Received C S) → Step C S
  -- a look at the node, or what was refused before the node was called
  Looked : Step C S

module _ {C S : Type 0} (k : Scheme C S) where
  -- ---- what a step does, and what of a run it is

  -- it leads from a node to a node, wherever the calls accepted before led: a call and a frame to
  -- the next point, by what was answered; else nothing changes
  abbrev pub Leads : Step C S → NodeView C S → NodeView C S → Type 0
  Leads (Called call r) v v2 = AtEach k.key.cmp v (λ m calls. IsSteppedAt m calls call r v2)
      × (was_made r ≡ false → IsSame v v2)
  Leads (Heard frame now verdicts r) v v2 = Hears k verdicts frame now v v2 r
  Leads Looked v v2 = v2 ≡ v

  -- .. so each of these steps, in order
  abbrev pub Lead : List (Step C S) → NodeView C S → NodeView C S → Type 0
  Lead [] v v2 = v2 ≡ v
  Lead (step ∷ steps) v v2 = (u : NodeView C S) × Leads step v u × Lead steps u v2

  -- a step is answered as at its point: a call as in a run, or want of memory for the room of what
  -- it may be granted, and a frame by its verdicts
  abbrev pub IsStepAnsweredAt : Made C S → List (Call C S) → Step C S → Type 0
  IsStepAnsweredAt m before (Called call r) = IsStepAnswer m before call r
  IsStepAnsweredAt m before (Heard frame now verdicts r) =
      let node = standing_in m (wire k) (world_after m.directory before) in
      IsFrameAnswer
      (frame_may_want_memory_by (wire k) (given_verdicts verdicts node.judge) node frame now)
      (received_by (wire k) (given_verdicts verdicts node.judge) node frame now) r
  IsStepAnsweredAt m before Looked = Unit {0}

  -- the accepted calls after one more step: a frame that is accepted is an update with its infos
  abbrev pub taken_with : Made C S → List (Call C S) → Step C S → List (Call C S)
  taken_with m before (Called call r) = next m.directory before call r
  taken_with m before (Heard frame now verdicts r) =
      if applies r then Update (infos_of_frame (wire k) m.limits frame) ∷ before else before
  taken_with m before Looked = before

  -- .. after all of these
  abbrev pub taken_by : Made C S → List (Call C S) → List (Step C S) → List (Call C S)
  taken_by m before [] = before
  taken_by m before (step ∷ steps) = taken_by m (taken_with m before step) steps

  -- .. each of which is answered as at its point
  abbrev pub AreStepsAnsweredAt : Made C S → List (Call C S) → List (Step C S) → Type 0
  AreStepsAnsweredAt m before [] = Unit {0}
  AreStepsAnsweredAt m before (step ∷ steps) =
      IsStepAnsweredAt m before step × AreStepsAnsweredAt m (taken_with m before step) steps

  -- the call of a run that a step is, with its reply: a call that was refused for memory is none
  abbrev pub call_made : Made C S → Step C S → Option (Call C S × Reply C S)
  call_made m (Called call reply.OutOfMemory) = None
  call_made m (Called call r) = Some (call, r)
  call_made m (Heard frame now verdicts r) = if applies r
      then Some (Update (infos_of_frame (wire k) m.limits frame), reply.UpdatePeers) else None
  call_made m Looked = None

  -- .. those of all steps, and their replies
  abbrev pub calls_made : Made C S → List (Step C S) → List (Call C S)
  calls_made m steps = map (λ x. x.0) (filter_map (call_made m) steps)

  abbrev pub replies_made : Made C S → List (Step C S) → List (Reply C S)
  replies_made m steps = map (λ x. x.1) (filter_map (call_made m) steps)

  -- these steps, from the start of a node that was made from m, are a run, and left it as v
  pub record AreRun (m : Made C S) (steps : List (Step C S)) (v : NodeView C S) : Type 0 where
    -- the node stands at the calls taken, and each answer is that of the step at its point
    pub stands : NodeStandsAt m (taken_by m [] steps) v
    pub answered : AreStepsAnsweredAt m [] steps
    -- the calls in the steps are those of a run with their replies, and of the same accepted calls
    pub run : AreAnswers m.directory [] (calls_made m steps) (replies_made m steps)
    pub same : accepted m.directory [] (calls_made m steps) (replies_made m steps)
        ≡ taken_by m [] steps
    -- so the laws of a run hold of them
    pub laws : LawsOfRun m.directory (calls_made m steps) (replies_made m steps)

  -- ---- which step is asked for

  -- a call that was read is made; for one that wasn't nothing is
  abbrev pub IsStepOf : Asked C S → Step C S → Type 0
  IsStepOf (Ok call) step = (r : Reply C S) × (step ≡ Called call r)
  IsStepOf (Err why) step = step ≡ Looked

  -- the step is the call or the frame that was asked for, as it could be read
  abbrev pub IsStepFor : Option (Request C S) → Step C S → Type 0
  IsStepFor (Some (Numbered given)) step = IsStepOf given step
  IsStepFor (Some (Written given)) step = IsStepOf given step
  IsStepFor (Some (SetOf index primary secondary)) step = (step ≡ Looked)
      ⊎ ((given : Asked C S) × IsTrackRead k index primary secondary given × IsStepOf given step)
  IsStepFor (Some (Infos infos)) step =
      (given : Asked C S) × IsRead infos given (updated_by k infos) × IsStepOf given step
  IsStepFor (Some (Bits bits seconds nanos)) step =
      (given : Asked C S) × IsRead bits given (infos_for k bits seconds nanos) × IsStepOf given step
  IsStepFor (Some (Frame frame seconds nanos verdicts)) step = (step ≡ Looked)
      ⊎ ((now : ℕ) × (moment_at seconds nanos ≡ Ok now)
      × ((r : Received C S) × (step ≡ Heard frame now (verdicts_in verdicts) r)))
  IsStepFor _ step = step ≡ Looked

  -- its reply, or what was returned for the frame, is told; for no other step is anything said here
  abbrev pub TellsStep : Step C S → List ℕ → List ℕ → ℕ → Type 0
  TellsStep (Called call r) out out2 n = TellsReply k r out out2 n
  TellsStep (Heard frame now verdicts r) out out2 n = Tells (received_answer k r) out out2 n
  TellsStep Looked out out2 n = Unit {0}
