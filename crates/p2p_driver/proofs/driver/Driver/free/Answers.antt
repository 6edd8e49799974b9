use Rattle.std.proofs.Common.{◌≡◌, ◌⊎◌, true, refl, sym, subst}
use Rattle.std.specs.Duration.{as_nanos}
use Rattle.std.specs.declared.time.Duration.{Duration}
use Rattle.p2p_directory.specs.Received.{Wire}
use Rattle.p2p_driver.specs.Drivers.{DriverView, seen, wire_with}
use Rattle.p2p_driver.specs.Grants.{kept_grant, is_cooled, is_unfit}
use Rattle.p2p_driver.specs.Timers.{FreesOne}
use Rattle.p2p_driver.proofs.Driving.{goes_on}
use Rattle.p2p_driver.proofs.DrivingGrants.{frees_one}
use Rattle.p2p_driver.proofs.DrivingLinks.{over_kept, kept_is_busy}
use Rattle.p2p_driver.proofs.Standing.{at_once}
use Rattle.p2p_driver.proofs.driver.Driver.free.Given as given
use Rattle.p2p_driver.proofs.driver.Driver.free.Goals as goal

-- how keys are, by the type of the keys
abbrev wire_in : (g : given.Over) → Wire g.row.C.Denot g.row.C-Signature.Denot
wire_in g = wire_with g.C.PublicKey.verifies g.C.FixedBytes.spelled g.C.Signature.FixedBytes.spelled g.C.FixedBytes.SIZE
    g.C.FixedBytes.value g.C.Signature.FixedBytes.SIZE g.C.Signature.FixedBytes.value

-- the grant of a peer is to be given up now
abbrev IsToFree : (g : given.Over) → Duration → g.row.C.Denot → DriverView g.row.C.Denot g.row.C-Signature.Denot → Type 0
IsToFree g t p v = (v.latest ≡ as_nanos t)
    × ((is_cooled v.cooldown (as_nanos t) (kept_grant g.C.Ord.cmp v.links v.next_dial.grants p) ≡ true)
    ⊎ (is_unfit g.C.Ord.cmp v.node.directory (as_nanos t) p (kept_grant g.C.Ord.cmp v.links v.next_dial.grants p) ≡ true))

pub release-requires : goal.release-requires
release-requires g c = let d = c.self.inside in
    let at = subst (IsToFree g c.args.now c.args.peer.now) (sym c.self.view_is) (c.requires.time, c.requires.over) in
    kept_is_busy d.node d.pace d.greeting (as_nanos d.cooldown) d.next_dial (as_nanos d.latest) d.next d.arrivals d.answers d.reads d.links d.actions.items
    g.met.C.PublicKey.exact c.self.invariant.0 c.args.peer.now
    (over_kept d.node d.pace d.greeting (as_nanos d.cooldown) d.next_dial (as_nanos d.latest) d.next d.arrivals d.answers d.reads d.links d.actions.items
    g.C.Ord.cmp c.args.peer.now c.args.now at.1)

-- it is given up
freed : (g : given.Over) (c : goal.After-self-1 g) → let d = c.self.inside in
    FreesOne {C = g.row.C.Denot} {S = g.row.C-Signature.Denot} g.C.Ord.cmp (wire_in g) c.args.now
    (seen d.node d.pace d.greeting (as_nanos d.cooldown) d.next_dial (as_nanos d.latest) d.next d.arrivals d.answers d.reads d.links d.actions.items)
    (seen c.release.new.node d.pace d.greeting (as_nanos d.cooldown) (record d.next_dial { from = (at_once d.next_dial).from; grants = c.remove.new.self })
    (as_nanos d.latest) d.next d.arrivals d.answers d.reads d.links d.actions.items)
freed g c = let d = c.self.inside in
    let at = subst (IsToFree g c.args.now c.args.peer.now) (sym c.self.view_is) (c.requires.time, c.requires.over) in
    frees_one g.C.Ord.cmp (wire_in g) d.node d.pace d.greeting (as_nanos d.cooldown) d.next_dial (as_nanos d.latest) d.next d.arrivals d.answers d.reads d.links d.actions.items
    c.args.peer.now c.args.now c.release.new.node _ (refl, refl) at.0 at.1 c.release.ensures c.remove.ensures.gone c.remove.ensures.entries

pub invariant_of-self : goal.invariant_of-self
invariant_of-self g c = (
  goes_on _ _ _ c.self.invariant.0 (freed g c).does,
  record { actions_fit = c.self.invariant.1.actions_fit; answers_fit = c.self.invariant.1.answers_fit },
)

pub returns : goal.returns
returns g c = let d = c.self.inside in
    subst (λ v. FreesOne g.C.Ord.cmp (wire_in g) c.args.now v
    (seen c.release.new.node d.pace d.greeting (as_nanos d.cooldown) (record d.next_dial { from = (at_once d.next_dial).from; grants = c.remove.new.self })
    (as_nanos d.latest) d.next d.arrivals d.answers d.reads d.links d.actions.items))
    c.self.view_is (freed g c)
