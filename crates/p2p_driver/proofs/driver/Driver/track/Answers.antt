use Rattle.std.proofs.Common.{rules, ap, max, subst, refl, ◌∙◌}
use Rattle.std.specs.Prelude.{◌++◌, if◌then◌else◌, option_map}
use Rattle.std.specs.Duration.{as_nanos}
use Rattle.p2p_discovery.specs.Ordered.{has_key}
use Rattle.p2p_directory.specs.Received.{Wire}
use Rattle.p2p_driver.specs.Drivers.{Does, DriverView, seen, wire_with}
use Rattle.p2p_driver.specs.Happenings.{Happening, shut_all}
use Rattle.p2p_driver.specs.Links.{closed, link_of}
use Rattle.p2p_driver.specs.Steps.{TearsDown}
use Rattle.p2p_driver.proofs.DrivingGrants.{frees_after}
use Rattle.p2p_driver.proofs.Standing.{at_once}
use Rattle.p2p_driver.proofs.Driving.{goes_on, no_earlier}
use Rattle.p2p_driver.proofs.DrivingSets.{tears, stales, room_stays}
use Rattle.p2p_driver.proofs.driver.Driver.track.Given as given
use Rattle.p2p_driver.proofs.driver.Driver.track.Goals as goal

-- how keys are, by the type of the keys
abbrev wire_in : (g : given.Over) → Wire g.row.C.Denot g.row.C-Signature.Denot
wire_in g = wire_with g.C.PublicKey.verifies g.C.FixedBytes.spelled g.C.Signature.FixedBytes.spelled g.C.FixedBytes.SIZE
    g.C.FixedBytes.value g.C.Signature.FixedBytes.SIZE g.C.Signature.FixedBytes.value

-- a set that was accepted
torn_does : (g : given.Over) (c : goal.After-shut_all g) → let d = c.self.inside in
    Does {C = g.row.C.Denot} {S = g.row.C-Signature.Denot} g.C.Ord.cmp (wire_in g)
    (Happening.SetCame c.later-time.result c.args.index c.args.peers.primary c.args.peers.secondary c.in-Some-Some.torn)
    (seen d.node d.pace d.greeting (as_nanos d.cooldown) d.next_dial (as_nanos d.latest) d.next d.arrivals d.answers d.reads d.links d.actions.items)
    (seen c.track.new.node d.pace d.greeting (as_nanos d.cooldown) (at_once d.next_dial) (as_nanos c.later-time.result) d.next d.arrivals d.answers d.reads
    c.shut_all.new.links c.shut_all.new.actions.items)
torn_does g c =
    let d = c.self.inside in
    tears g.C.Ord.cmp (wire_in g) d.node d.pace d.greeting (as_nanos d.cooldown) d.next_dial (as_nanos d.latest) d.next d.arrivals d.answers d.reads d.links d.actions.items
    c.args.index c.args.peers.primary c.args.peers.secondary c.in-Some-Some.torn c.later-time.result
    c.track.new.node _ c.shut_all.new.links c.shut_all.new.actions.items ((refl, refl), refl)
    (no_earlier (as_nanos d.latest) (as_nanos c.args.now.steady) (as_nanos c.later-time.result) c.later-time.ensures)
    (search rules) c.in-Some-Some.ensures.made
    (subst (λ o. TearsDown g.C.Ord.cmp c.args.index c.args.peers.primary c.args.peers.secondary o d.node) c.in-Some-Some.field-0-is c.in-Some-Some.ensures.torn)
    (λ q. c.shut_all.ensures.links q ∙ ap (λ ps. if has_key g.C.Ord.cmp ps q then option_map closed (link_of g.C.Ord.cmp d.links q) else link_of g.C.Ord.cmp d.links q) c.as_slice.ensures.all)
    c.shut_all.ensures.counts (c.shut_all.ensures.said ∙ ap (λ ps. d.actions.items ++ shut_all g.C.Ord.cmp ps (link_of g.C.Ord.cmp d.links)) c.as_slice.ensures.all)

-- .. once the list of those is dropped, too
torn_did : (g : given.Over) (c : goal.After-drop-torn-inside g) → let d = c.self.inside in
    Does {C = g.row.C.Denot} {S = g.row.C-Signature.Denot} g.C.Ord.cmp (wire_in g)
    (Happening.SetCame c.later-time.result c.args.index c.args.peers.primary c.args.peers.secondary c.in-Some-Some.torn)
    (seen d.node d.pace d.greeting (as_nanos d.cooldown) d.next_dial (as_nanos d.latest) d.next d.arrivals d.answers d.reads d.links d.actions.items)
    (seen c.track.new.node d.pace d.greeting (as_nanos d.cooldown) (at_once d.next_dial) (as_nanos c.later-time.result) d.next d.arrivals d.answers d.reads
    c.shut_all.new.links c.shut_all.new.actions.items)
torn_did g c =
    let d = c.self.inside in
    tears g.C.Ord.cmp (wire_in g) d.node d.pace d.greeting (as_nanos d.cooldown) d.next_dial (as_nanos d.latest) d.next d.arrivals d.answers d.reads d.links d.actions.items
    c.args.index c.args.peers.primary c.args.peers.secondary c.in-Some-Some.torn c.later-time.result
    c.track.new.node _ c.shut_all.new.links c.shut_all.new.actions.items ((refl, refl), refl)
    (no_earlier (as_nanos d.latest) (as_nanos c.args.now.steady) (as_nanos c.later-time.result) c.later-time.ensures)
    (search rules) c.in-Some-Some.ensures.made
    (subst (λ o. TearsDown g.C.Ord.cmp c.args.index c.args.peers.primary c.args.peers.secondary o d.node) c.in-Some-Some.field-0-is c.in-Some-Some.ensures.torn)
    (λ q. c.shut_all.ensures.links q ∙ ap (λ ps. if has_key g.C.Ord.cmp ps q then option_map closed (link_of g.C.Ord.cmp d.links q) else link_of g.C.Ord.cmp d.links q) c.as_slice.ensures.all)
    c.shut_all.ensures.counts (c.shut_all.ensures.said ∙ ap (λ ps. d.actions.items ++ shut_all g.C.Ord.cmp ps (link_of g.C.Ord.cmp d.links)) c.as_slice.ensures.all)

-- a set that wasn't
stale_does : (g : given.Over) (c : goal.After-self-1 g) → let d = c.self.inside in
    Does {C = g.row.C.Denot} {S = g.row.C-Signature.Denot} g.C.Ord.cmp (wire_in g)
    (Happening.StaleSetCame c.args.index c.args.peers.primary c.args.peers.secondary)
    (seen d.node d.pace d.greeting (as_nanos d.cooldown) d.next_dial (as_nanos d.latest) d.next d.arrivals d.answers d.reads d.links d.actions.items)
    (seen c.track.new.node d.pace d.greeting (as_nanos d.cooldown) (at_once d.next_dial) (as_nanos d.latest) d.next d.arrivals d.answers d.reads d.links d.actions.items)
stale_does g c = let d = c.self.inside in
    stales g.C.Ord.cmp (wire_in g) d.node d.pace d.greeting (as_nanos d.cooldown) d.next_dial (as_nanos d.latest) d.next d.arrivals d.answers d.reads d.links d.actions.items
    c.args.index c.args.peers.primary c.args.peers.secondary c.track.new.node _ ((refl, refl), refl) (search rules) c.in-Some-None.ensures.made
    (subst (λ o. TearsDown g.C.Ord.cmp c.args.index c.args.peers.primary c.args.peers.secondary o d.node) c.in-Some-None.field-0-is c.in-Some-None.ensures.torn)

pub returns-in-Some-None-clause-stale : goal.returns-in-Some-None-clause-stale
returns-in-Some-None-clause-stale g c is = let d = c.self.inside in
    subst (λ v. Does {C = g.row.C.Denot} {S = g.row.C-Signature.Denot} g.C.Ord.cmp (wire_in g)
    (Happening.StaleSetCame c.args.index c.args.peers.primary c.args.peers.secondary) v
    (seen c.track.new.node d.pace d.greeting (as_nanos d.cooldown) (at_once d.next_dial) (as_nanos d.latest) d.next d.arrivals d.answers d.reads d.links d.actions.items))
    c.self.view_is (stale_does g c)

pub invariant_of-self-in-Some-None : goal.invariant_of-self-in-Some-None
invariant_of-self-in-Some-None g c =
    let d = c.self.inside in (
      goes_on (Happening.StaleSetCame c.args.index c.args.peers.primary c.args.peers.secondary) _ _ c.self.invariant.0
          (stale_does g c),
      c.self.invariant.1,
    )

pub invariant_of-self-in-Some-Some : goal.invariant_of-self-in-Some-Some
invariant_of-self-in-Some-Some g c =
    let d = c.self.inside in (
      goes_on _ _ _ c.self.invariant.0 (torn_does g c),
      room_stays d.arrivals d.answers d.links c.shut_all.new.links d.actions c.shut_all.new.actions c.self.invariant.1 c.shut_all.ensures.room,
    )

pub returns-in-Some-Some-clause-accepted : goal.returns-in-Some-Some-clause-accepted
returns-in-Some-Some-clause-accepted g c is = (
  c.in-Some-Some.torn,
  frees_after g.C.Ord.cmp (wire_in g) c.later-time.result (as_nanos c.args.now.steady)
      (λ t. Happening.SetCame t c.args.index c.args.peers.primary c.args.peers.secondary c.in-Some-Some.torn) _ _ _
      (c.later-time.ensures ∙ ap (λ (v : DriverView g.row.C.Denot g.row.C-Signature.Denot). max v.latest (as_nanos c.args.now.steady)) c.self.view_is)
      (subst (λ v. Does g.C.Ord.cmp (wire_in g) (Happening.SetCame c.later-time.result c.args.index c.args.peers.primary c.args.peers.secondary c.in-Some-Some.torn) v
      (seen c.track.new.node c.self.inside.pace c.self.inside.greeting (as_nanos c.self.inside.cooldown) (at_once c.self.inside.next_dial) (as_nanos c.later-time.result)
      c.self.inside.next c.self.inside.arrivals c.self.inside.answers c.self.inside.reads c.shut_all.new.links c.shut_all.new.actions.items)) c.self.view_is (torn_did g c))
      c.free_all_unfit.ensures.did c.free_all_unfit.ensures.none,
)
