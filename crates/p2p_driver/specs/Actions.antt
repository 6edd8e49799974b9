-- The actions that wait for a host.
use Rattle.std.specs.Prelude.{ℕ, ◌==◌, Bool, false, List}
use Rattle.p2p_driver.specs.declared.actions.Action.{Action}
use Rattle.p2p_driver.specs.declared.actions.Action.TheVariants as action
use Rattle.p2p_driver.specs.declared.actions.Event.{Event}
use Rattle.p2p_driver.specs.declared.actions.Event.TheVariants as event

-- the actions that wait, the first in first, and for how many more room is promised
pub record ActionsView (C : Type 0) : Type 0 where
  pub items : List (Action C)
  pub room : ℕ

module _ {C : Type 0} (n : ℕ) where
  -- the application is told it of link n
  abbrev pub is_told_of : Event C → Bool
  is_told_of (event.Up link p) = link.0 == n
  is_told_of (event.Down link p why) = link.0 == n
  is_told_of (event.Blocked p breach) = false

  -- a frame is sent on link n
  abbrev pub is_sent_on : Action C → Bool
  is_sent_on (action.Send link frame) = link.0 == n
  is_sent_on _ = false

  -- an action of link n: it is dialled, a frame is sent on it, it is closed, or something is told
  -- of it
  abbrev pub is_of_link : Action C → Bool
  is_of_link (action.Dial link p ingress) = link.0 == n
  is_of_link (action.Send link frame) = link.0 == n
  is_of_link (action.Close link why) = link.0 == n
  is_of_link (action.Told e) = is_told_of e
