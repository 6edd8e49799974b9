use Rattle.std.proofs.Common.{sym, ◌∙◌, subst}
use Rattle.std.specs.Prelude.{◌≡◌, ◌||◌, is_some}
use Rattle.std.proofs.lemmas.Map.Lookups.{CmpEqualImpliesEq}
use Rattle.p2p_directory.specs.Held.{held_of}
use Rattle.p2p_driver.specs.Drivers.{link, kept}
use Rattle.p2p_driver.specs.Grants.{kept_grant, unless_linked}
use Rattle.p2p_driver.specs.Links.{link_of}
use Rattle.p2p_driver.proofs.Busy.{linked_is_busy, not_both}
use Rattle.p2p_driver.proofs.InTime.{in_time}
use Rattle.p2p_driver.proofs.Status.{connected_if}
use Rattle.p2p_driver.proofs.laws.links_are_reservations.Goals as goal

pub returns-clause-world : goal.returns-clause-world
returns-clause-world g c b order some h right p =
    linked_is_busy b some (subst CmpEqualImpliesEq (sym order) g.met.C.PublicKey.exact) h right p

pub returns-clause-connected : goal.returns-clause-connected
returns-clause-connected g c b order some h right p =
    connected_if b some (subst CmpEqualImpliesEq (sym order) g.met.C.PublicKey.exact) h right p

pub returns-clause-one : goal.returns-clause-one
returns-clause-one g c b h p = not_both b h p

pub returns-clause-held : goal.returns-clause-held
returns-clause-held g c b order some h v at p =
    subst (λ cmp. is_some (held_of cmp v.node.held p) ≡ (is_some (link_of cmp v.links p) || is_some (kept_grant cmp v.links v.next_dial.grants p))) order
    (at.node.holds.peers p
    ∙ sym (linked_is_busy b some (subst CmpEqualImpliesEq (sym order) g.met.C.PublicKey.exact) h at.right p)
    ∙ sym (λ i. is_some (at.links p i) || is_some (unless_linked (at.links p i) (at.grants p i))))

pub returns-clause-kept : goal.returns-clause-kept
returns-clause-kept g c b order h v at p =
    subst (λ cmp. (link_of cmp v.links p ≡ link b p h) × (kept_grant cmp v.links v.next_dial.grants p ≡ kept b p h)) order
    (at.links p, λ i. unless_linked (at.links p i) (at.grants p i))

pub returns-clause-run : goal.returns-clause-run
returns-clause-run g c b h v at = at.node

pub returns-clause-in_time : goal.returns-clause-in_time
returns-clause-in_time g c b h right = in_time b h right
