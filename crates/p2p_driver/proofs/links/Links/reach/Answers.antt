use Rattle.std.proofs.Common.{◌≡◌, ◌∙◌, true, false, Some, refl, sym, ap}
use Rattle.std.specs.BTreeMap.{is_at}
use Rattle.std.specs.Map.{set_value}
use Rattle.std.specs.Prelude.{is_some}
use Rattle.p2p_driver.specs.declared.links.Direction.{Direction}
use Rattle.p2p_driver.specs.declared.links.Direction.TheVariants.{Inbound, Dialing, Outbound, TakenOver}
use Rattle.p2p_driver.specs.declared.links.Held.{Held}
use Rattle.p2p_driver.specs.Links.{link_of, is_way, proved_way, reached, saying}
use Rattle.p2p_driver.proofs.Linked.{said_at, said_moves, said_needs, inverse_said}
use Rattle.p2p_driver.proofs.links.Links.reach.Given.{Over}
use Rattle.p2p_driver.proofs.links.Links.reach.Goals.{After-reach}
use Rattle.p2p_driver.proofs.links.Links.reach.Goals as goal

-- a frame is said on the link, or nothing changes
said : (g : Over) (c : After-reach g) → c.reach.result ≡ true → (held : Held) → link_of g.C.Ord.cmp c.args.self.now c.args.peer.now ≡ Some held →
    c.reach.new.of_peers.entries ≡ set_value (is_at (g.C.Ord.cmp c.args.peer.now)) c.args.self.now (saying (Some c.args.now) (reached c.args.now held))
said g c is held has = c.reach.ensures.reached is held (ap (λ ls. link_of g.C.Ord.cmp ls c.args.peer.now) c.self.view_is ∙ has)
    ∙ ap (λ ls. set_value (is_at (g.C.Ord.cmp c.args.peer.now)) ls (saying (Some c.args.now) (reached c.args.now held))) c.self.view_is

linked : (g : Over) (c : After-reach g) → c.reach.result ≡ true → is_some (link_of g.C.Ord.cmp c.args.self.now c.args.peer.now) ≡ true
linked g c is = ap (λ ls. is_some (link_of g.C.Ord.cmp ls c.args.peer.now)) (sym c.self.view_is) ∙ c.reach.ensures.linked is

same : (g : Over) (c : After-reach g) → c.reach.result ≡ false → c.reach.new.of_peers.entries ≡ c.args.self.now
same g c is = c.reach.ensures.unchanged is ∙ c.self.view_is

pub invariant_of-self : goal.invariant_of-self
invariant_of-self g c = inverse_said g.met.C.Ord.total c.self.inside.of_peers.entries _ c.self.invariant c.reach.new.of_peers.entries (λ h. saying (Some c.args.now) (reached c.args.now h))
    c.args.peer.now c.reach.result (λ h. refl) c.reach.ensures.reached c.reach.ensures.linked c.reach.ensures.unchanged

pub returns-clause-links : goal.returns-clause-links
returns-clause-links g c = said_at g.met.C.Ord.total c.args.self.now c.reach.new.of_peers.entries (λ h. saying (Some c.args.now) (reached c.args.now h)) c.args.peer.now c.reach.result
    (said g c) (linked g c) (same g c)

proved_out : (d : Direction) → is_way Dialing d ≡ true → proved_way d ≡ Outbound
proved_out Inbound is = cc
proved_out Dialing is = refl
proved_out Outbound is = cc
proved_out TakenOver is = cc

pub returns-clause-counts : goal.returns-clause-counts
returns-clause-counts g c is dials way = said_moves g.met.C.Ord.total c.args.self.now c.reach.new.of_peers.entries
    (λ h. saying (Some c.args.now) (reached c.args.now h)) c.args.peer.now c.reach.result
    (said g c) (linked g c) (same g c) is (λ h dialing. proved_out h.direction dialing) dials way

pub returns-clause-needs : goal.returns-clause-needs
returns-clause-needs g c = said_needs g.met.C.Ord.total c.args.self.now c.reach.new.of_peers.entries (λ h. saying (Some c.args.now) (reached c.args.now h)) c.args.peer.now c.reach.result
    (said g c) (linked g c) (same g c) (λ h. refl)
