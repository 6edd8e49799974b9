-- A session is a run: whatever calls it serves, they are steps of its node from `init` on.
use Rattle.std.specs.Prelude.{◌≡◌, ◌⊎◌, ℕ, List, [], ◌∷◌, ◌++◌, Option, Some, None}
use Rattle.p2p_tracker.specs.Calls.{Call}
use Rattle.p2p_directory.specs.Nodes.{NodeView, Made, NodeStandsAt, made_of}
use Rattle.p2p_directory.specs.declared.node.setup.Setup.{Setup}
use Rattle.p2p_session.specs.declared.refusal.Refusal.{Refusal}
use Rattle.p2p_session.specs.declared.session.Session.{Session}
use Rattle.p2p_session.specs.Schemes.{Scheme}
use Rattle.p2p_session.specs.Answers.{Refuses}
use Rattle.p2p_session.specs.Given.{IsSetup}
use Rattle.p2p_session.specs.Requests.{Request, ServesRequest}
use Rattle.p2p_session.specs.Requests.Request.{Init, Looking}
use Rattle.p2p_session.specs.Sessions.{Shows}
use Rattle.p2p_session.specs.Steps.{Step, Leads, AreRun, IsStepFor, TellsStep, taken_with}
use Rattle.p2p_session.specs.Steps.Step.{Looked}

-- a call of a session: what is asked for, the room for its answer before and after it, and the
-- number that is returned
pub record Served (C S : Type 0) : Type 0 where
  pub asked : Option (Request C S)
  pub out : List ℕ
  pub out2 : List ℕ
  pub n : ℕ

module _ {C S : Type 0} (k : Scheme C S) where
  -- ---- one call

  -- a call is this step: it was asked for, and it is told, in the room or, by a call that is
  -- answered by a number alone, in none
  pub record IsStep (call : Served C S) (step : Step C S) : Type 0 where
    pub asked_for : IsStepFor k call.asked step
    pub told : TellsStep k step call.out call.out2 call.n
        ⊎ ((call.out2 ≡ call.out) × TellsStep k step [] [] call.n)

  -- a look is answered by what it shows of this node, and what else is no call and no frame by a
  -- refusal
  abbrev pub IsShown : Option (Request C S) → Step C S → List ℕ → List ℕ → ℕ → NodeView C S → Type 0
  IsShown (Some (Looking look)) step out out2 n v = Shows k look v out out2 n
  IsShown _ Looked out out2 n v = (why : Refusal) × Refuses why out out2 n
  IsShown _ _ out out2 n v = Unit {0}

  -- what was asked for is a node from this setup
  abbrev pub AsksFor : Option (Request C S) → Setup C S → Type 0
  AsksFor (Some (Init numbers namespace bootstrappers myself)) given =
      IsSetup k numbers namespace bootstrappers myself given
  AsksFor _ given = ⊥

  -- a call makes a node from this setup: `init`, that returns 1
  pub record IsInit (call : Served C S) (given : Setup C S) : Type 0 where
    pub asked_for : AsksFor call.asked given
    pub returned : call.n ≡ 1

  -- one call leads from a node to another by the step that it is. Where there is none, it stays so,
  -- or `init` makes one, which stands at no calls
  abbrev pub Goes : Served C S → Option (NodeView C S) → Option (NodeView C S) → Type 0
  Goes call None None = Unit {0}
  Goes call None (Some v) = (given : Setup C S) × IsInit call given
      × NodeStandsAt (made_of k.key.cmp given) [] v
  Goes call (Some v) None = ⊥
  Goes call (Some v) (Some v2) = (step : Step C S) × IsStep call step × Leads k step v v2
      × IsShown call.asked step call.out call.out2 call.n v

  -- ---- all calls of a session, the oldest first

  -- each is served, from one session to the next
  abbrev pub AreServed : List (Served C S) → Session C S → Session C S → Type 0
  AreServed [] before after = after ≡ before
  AreServed (call ∷ calls) before after = (next : Session C S)
      × ServesRequest k call.asked call.out call.out2 before next call.n
      × AreServed calls next after

  -- each is one of these steps, in order
  abbrev pub AreSteps : List (Served C S) → List (Step C S) → Type 0
  AreSteps [] [] = Unit {0}
  AreSteps (call ∷ calls) (step ∷ steps) = IsStep call step × AreSteps calls steps
  AreSteps _ _ = ⊥

  -- .. and each look among them is answered by what it shows of a node that stands at its point,
  -- and each refusal by why
  abbrev pub AreShownAt : Made C S → List (Call C S) → List (Served C S) → List (Step C S) → Type 0
  AreShownAt m before (call ∷ calls) (step ∷ steps) = ((v : NodeView C S)
      × NodeStandsAt m before v × IsShown call.asked step call.out call.out2 call.n v)
      × AreShownAt m (taken_with k m before step) calls steps
  AreShownAt m before _ _ = Unit {0}

  -- one of the calls made a node, those after it are the steps of a run of it, and left it as v
  pub record IsRun (calls : List (Served C S)) (v : NodeView C S) : Type 0 where
    pub earlier : List (Served C S)
    pub init : Served C S
    pub later : List (Served C S)
    pub in_order : calls ≡ earlier ++ (init ∷ later)
    pub given : Setup C S
    pub inits : IsInit init given
    pub steps : List (Step C S)
    pub are_steps : AreSteps later steps
    pub are_shown : AreShownAt (made_of k.key.cmp given) [] later steps
    pub are_run : AreRun k (made_of k.key.cmp given) steps v
