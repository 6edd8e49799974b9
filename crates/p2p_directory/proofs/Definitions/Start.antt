-- The world before any call.
use Rattle.std.proofs.Common.{◌≡◌, ℕ, zero, suc, ◌-◌, List, [], drop, None, refl}
use Rattle.p2p_tracker.specs.Calls.{Settings, SetAt}
use Rattle.p2p_tracker.specs.declared.record.Status.TheVariants.{Inert}
use Rattle.p2p_tracker.specs.History
use Rattle.p2p_tracker.specs.World
use Rattle.p2p_tracker.specs.World.{World}
use Rattle.p2p_tracker.proofs.Definitions.Knowledge

module _ {C S : Type 0} (s : Settings C S) where
  -- nothing is retained, reserved, blocked or cooling down, and of each key only what is known of a new peer
  abbrev pub new_world : World C S
  new_world = record {
    state = record {
      sets = [];
      peer = λ p. record { status = Inert; known = World.new_known s p };
      unblock = λ p. None;
      cooldown = λ p. None;
    };
    held = λ p. None;
  }

  pub retained_nothing : History.retained_sets s [] ≡ []
  retained_nothing = go (0 - s.max_sets)
    where
      go : (k : ℕ) → ◌≡◌ {A = List (SetAt C)} (drop k []) []
      go zero = refl
      go (suc k) = refl

  pub new_at_start : World.world_at s [] ≡ new_world
  unfolding History.life
  new_at_start = λ i. record {
    state = record {
      sets = retained_nothing i;
      peer = λ p. record { status = Inert; known = Knowledge.known_nothing s p i };
      unblock = λ p. None;
      cooldown = λ p. None;
    };
    held = λ p. None;
  }
