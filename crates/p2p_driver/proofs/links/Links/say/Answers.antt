use Rattle.std.proofs.Common.{◌≡◌, ◌∙◌, true, false, Some, refl, sym, ap}
use Rattle.std.specs.BTreeMap.{is_at}
use Rattle.std.specs.Map.{set_value}
use Rattle.std.specs.Prelude.{is_some}
use Rattle.p2p_driver.specs.declared.links.Held.{Held}
use Rattle.p2p_driver.specs.Links.{link_of, saying}
use Rattle.p2p_driver.proofs.Linked.{said_at, said_counts, said_needs, said_to_ask, inverse_said}
use Rattle.p2p_driver.proofs.links.Links.say.Given.{Over}
use Rattle.p2p_driver.proofs.links.Links.say.Goals.{After-say}
use Rattle.p2p_driver.proofs.links.Links.say.Goals as goal

-- a frame is said on the link, or nothing changes
said : (g : Over) (c : After-say g) → c.say.result ≡ true → (held : Held) → link_of g.C.Ord.cmp c.args.self.now c.args.peer.now ≡ Some held →
    c.say.new.of_peers.entries ≡ set_value (is_at (g.C.Ord.cmp c.args.peer.now)) c.args.self.now (saying (Some c.args.now) held)
said g c is held has = c.say.ensures.said is held (ap (λ ls. link_of g.C.Ord.cmp ls c.args.peer.now) c.self.view_is ∙ has)
    ∙ ap (λ ls. set_value (is_at (g.C.Ord.cmp c.args.peer.now)) ls (saying (Some c.args.now) held)) c.self.view_is

linked : (g : Over) (c : After-say g) → c.say.result ≡ true → is_some (link_of g.C.Ord.cmp c.args.self.now c.args.peer.now) ≡ true
linked g c is = ap (λ ls. is_some (link_of g.C.Ord.cmp ls c.args.peer.now)) (sym c.self.view_is) ∙ c.say.ensures.linked is

same : (g : Over) (c : After-say g) → c.say.result ≡ false → c.say.new.of_peers.entries ≡ c.args.self.now
same g c is = c.say.ensures.unchanged is ∙ c.self.view_is

pub invariant_of-self : goal.invariant_of-self
invariant_of-self g c = inverse_said g.met.C.Ord.total c.self.inside.of_peers.entries _ c.self.invariant c.say.new.of_peers.entries (saying (Some c.args.now))
    c.args.peer.now c.say.result (λ h. refl) c.say.ensures.said c.say.ensures.linked c.say.ensures.unchanged

pub returns-clause-links : goal.returns-clause-links
returns-clause-links g c = said_at g.met.C.Ord.total c.args.self.now c.say.new.of_peers.entries (saying (Some c.args.now)) c.args.peer.now c.say.result
    (said g c) (linked g c) (same g c)

pub returns-clause-counts : goal.returns-clause-counts
returns-clause-counts g c = said_counts g.met.C.Ord.total c.args.self.now c.say.new.of_peers.entries (saying (Some c.args.now)) c.args.peer.now c.say.result
    (said g c) (linked g c) (same g c) (λ h. refl)

pub returns-clause-needs : goal.returns-clause-needs
returns-clause-needs g c = said_needs g.met.C.Ord.total c.args.self.now c.say.new.of_peers.entries (saying (Some c.args.now)) c.args.peer.now c.say.result
    (said g c) (linked g c) (same g c) (λ h. refl)

pub returns-clause-to_ask : goal.returns-clause-to_ask
returns-clause-to_ask g c = said_to_ask g.met.C.Ord.total c.args.self.now c.say.new.of_peers.entries (saying (Some c.args.now)) c.args.peer.now c.say.result
    (said g c) (linked g c) (same g c) (λ tick t h. refl)
