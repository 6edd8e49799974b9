-- Of a peer that is absent all is forgotten.
use Rattle.std.proofs.Common.{◌≡◌, false, List, sym, ◌∙◌, ap}
use Rattle.std.specs.Prelude.{if◌then◌else◌}
use Rattle.p2p_tracker.specs.Calls.{Settings, Call}
use Rattle.p2p_tracker.specs.History
use Rattle.p2p_tracker.specs.World
use Rattle.p2p_tracker.specs.Answers.{is_present_in}
use Rattle.p2p_directory.proofs.LawsOfRuns.Isolation

module _ {C S : Type 0} (s : Settings C S) where
  pub absent : (cs : List (Call C S)) (p : C) → is_present_in s (World.world_at s (World.past s cs)) p ≡ false →
      ((World.world_at s (World.past s cs)).peer p).known ≡ World.new_known s p
  absent cs p gone =
      sym (Isolation.forgotten s p (World.past s cs))
      ∙ ap (λ b. if b then World.known_in s p (History.life s p (World.past s cs)) else World.new_known s p) gone
