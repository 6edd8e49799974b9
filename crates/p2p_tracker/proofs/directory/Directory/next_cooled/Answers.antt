use Rattle.std.proofs.Common.{◌≡◌, Option, Some, None, refl, sym, subst}
use Rattle.std.specs.Option.{option_map, option_and_then}
use Rattle.p2p_tracker.specs.Calls.{Cooldown}
use Rattle.p2p_tracker.specs.Cooldowns.{cooldown_in}
use Rattle.p2p_tracker.specs.Lists.{IsLeastOf}
use Rattle.p2p_tracker.proofs.Definitions.Listed.{least_alike}
use Rattle.p2p_tracker.proofs.SetsAndRecords.Listing.{least_of_entries}
use Rattle.p2p_tracker.proofs.directory.Directory.next_cooled.Goals as goal

of_some : (o : Option Cooldown) → option_map (λ c. c.dial_at) o ≡ option_and_then (λ c. Some c.dial_at) o
of_some None = refl
of_some (Some c) = refl

pub returns : goal.returns
returns g c =
    let kept = c.self.inside.cooldowns in
    rw (← c.self.view_is)
    (subst (IsLeastOf _) (sym c.next_dial.ensures)
    (least_alike _ _ _ (λ q. of_some (cooldown_in g.C.Ord.cmp kept q))
    (least_of_entries g.met.C.Ord.total g.met.C.PublicKey.exact (λ e. Some e.1.dial_at) kept
    c.len-kept.ensures.sorted)))
