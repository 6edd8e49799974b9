use Rattle.std.proofs.Common.{◌≡◌, ◌∙◌, Some, None, refl, ap}
use Rattle.std.specs.BTreeMap.{is_at}
use Rattle.std.specs.Map.{set_value}
use Rattle.p2p_driver.specs.declared.links.Held.{Held}
use Rattle.p2p_driver.specs.Links.{link_of, asking}
use Rattle.p2p_driver.proofs.Linked.{noted_at, noted_counts, noted_needs, fewer_to_ask, inverse_on}
use Rattle.p2p_driver.proofs.links.Links.ask.Given.{Over}
use Rattle.p2p_driver.proofs.links.Links.ask.Goals.{After-apply}
use Rattle.p2p_driver.proofs.links.Links.ask.Goals as goal

-- what was kept is written over, if anything was
noted : (g : Over) (c : After-apply g) (held : Held) → link_of g.C.Ord.cmp c.args.self.now c.args.peer.now ≡ Some held →
    c.apply.new.of_peers.entries ≡ set_value (is_at (g.C.Ord.cmp c.args.peer.now)) c.args.self.now (asking c.args.owed c.args.asked held)
noted g c held has = c.apply.ensures.noted held (ap (λ ls. link_of g.C.Ord.cmp ls c.args.peer.now) c.self.view_is ∙ has)
    ∙ ap (λ ls. set_value (is_at (g.C.Ord.cmp c.args.peer.now)) ls (asking c.args.owed c.args.asked held)) c.self.view_is

none : (g : Over) (c : After-apply g) → link_of g.C.Ord.cmp c.args.self.now c.args.peer.now ≡ None →
    c.apply.new.of_peers.entries ≡ c.args.self.now
none g c has = c.apply.ensures.none (ap (λ ls. link_of g.C.Ord.cmp ls c.args.peer.now) c.self.view_is ∙ has) ∙ c.self.view_is

pub invariant_of-self : goal.invariant_of-self
invariant_of-self g c =
    inverse_on g.met.C.Ord.total c.self.inside.of_peers.entries _ c.self.invariant c.apply.new.of_peers.entries
    (asking c.args.owed c.args.asked) c.args.peer.now (λ h. refl) (noted_at g.met.C.Ord.total c.self.inside.of_peers.entries
    c.apply.new.of_peers.entries (asking c.args.owed c.args.asked) c.args.peer.now c.apply.ensures.noted c.apply.ensures.none)

pub returns-clause-links : goal.returns-clause-links
returns-clause-links g c = noted_at g.met.C.Ord.total c.args.self.now c.apply.new.of_peers.entries
    (asking c.args.owed c.args.asked) c.args.peer.now (noted g c) (none g c)

pub returns-clause-counts : goal.returns-clause-counts
returns-clause-counts g c = noted_counts g.met.C.Ord.total c.args.self.now c.apply.new.of_peers.entries
    (asking c.args.owed c.args.asked) c.args.peer.now (noted g c) (none g c) (λ h. refl)

pub returns-clause-needs : goal.returns-clause-needs
returns-clause-needs g c = noted_needs g.met.C.Ord.total c.args.self.now c.apply.new.of_peers.entries
    (asking c.args.owed c.args.asked) c.args.peer.now (noted g c) (none g c) (λ h. refl)

pub returns-clause-fewer : goal.returns-clause-fewer
returns-clause-fewer g c tick now later is = fewer_to_ask g.met.C.Ord.total tick now c.args.owed c.args.asked c.args.self.now
    c.apply.new.of_peers.entries c.args.peer.now (noted g c) later is
