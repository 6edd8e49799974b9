use Rattle.std.proofs.Common.{◌∙◌, ◌≡◌, ◌<◌, ◌+◌, ◌&&◌, ℕ, Option, Some, None, true, Err, refl, sym, ap, subst, arith}
use Rattle.std.specs.Option.{IsSomeAnd}
use Rattle.std.specs.declared.cmp.Ordering.{Ordering}
use Rattle.p2p_driver.specs.declared.links.Held.{Held}
use Rattle.p2p_driver.specs.Timers.{NoneToAsk}
use Rattle.std.specs.Duration.{as_nanos}
use Rattle.std.specs.Result.{is_ok}
use Rattle.p2p_driver.specs.declared.pace.Pace.{Pace}
use Rattle.p2p_driver.specs.Links.{link_of, is_to_ask, to_ask}
use Rattle.p2p_directory.specs.Received.{Wire}
use Rattle.p2p_driver.specs.Drivers.{DriverView, wire_with}
use Rattle.p2p_driver.proofs.DrivingTimers.{asks_more}
use Rattle.p2p_driver.proofs.driver.Driver.ask_all_due.Given as given
use Rattle.p2p_driver.proofs.driver.Driver.ask_all_due.Goals as goal

-- how keys are, by the type of the keys
abbrev wire_in : (g : given.Over) → Wire g.row.C.Denot g.row.C-Signature.Denot
wire_in g = wire_with g.C.PublicKey.verifies g.C.FixedBytes.spelled g.C.Signature.FixedBytes.spelled g.C.FixedBytes.SIZE
    g.C.FixedBytes.value g.C.Signature.FixedBytes.SIZE g.C.Signature.FixedBytes.value

-- one that is to be asked is against none being
one_is : {C S : Type 0} (cmp : C → C → Ordering) (t : ℕ) (v : DriverView C S) (p : C) → NoneToAsk cmp t v →
    IsSomeAnd (link_of cmp v.links p) (λ held. is_to_ask (as_nanos v.pace.tick) t held ≡ true) → ⊥
one_is cmp t v p none is = go (link_of cmp v.links p) refl is
  where
    go : (o : Option Held) → link_of cmp v.links p ≡ o → IsSomeAnd o (λ held. is_to_ask (as_nanos v.pace.tick) t held ≡ true) → ⊥
    go None at is = is
    go (Some held) at is = let not = none p held at in let both = sym is ∙ not in cc

-- one fewer is to be asked
one_fewer : {C S : Type 0} (t : ℕ) (v v2 : DriverView C S) → v2.pace ≡ v.pace →
    to_ask (as_nanos v.pace.tick) t v2.links + 1 ≡ to_ask (as_nanos v.pace.tick) t v.links →
    to_ask (as_nanos v2.pace.tick) t v2.links < to_ask (as_nanos v.pace.tick) t v.links
one_fewer t v v2 same fewer = let is : to_ask (as_nanos v2.pace.tick) t v2.links ≡ to_ask (as_nanos v.pace.tick) t v2.links =
    ap (λ (p : Pace). to_ask (as_nanos p.tick) t v2.links) same in omega (arith, is, fewer)

pub due-preserved : goal.due-preserved
due-preserved g c = (
  c.ask.ensures.latest ∙ c.due.invariant.0,
  asks_more g.C.Ord.cmp (wire_in g) c.args.now c.args.self.now c.due.self c.ask.new.self c.due.all c.due.all c.ask.result c.due.invariant.1 c.ask.ensures
      (ap (λ b. b && is_ok c.due.all) c.if-not-ask.false),
  λ none. c.ask.ensures.late (c.due.invariant.2 none),
  λ none. absurd (one_is g.C.Ord.cmp (as_nanos c.args.now) c.due.self c.in-Some.peer
      (subst (NoneToAsk g.C.Ord.cmp (as_nanos c.args.now)) (sym (c.due.invariant.3 none)) none)
      (subst (λ (v : DriverView g.row.C.Denot g.row.C-Signature.Denot). IsSomeAnd (link_of g.C.Ord.cmp v.links c.in-Some.peer)
      (λ held. is_to_ask (as_nanos v.pace.tick) (as_nanos c.args.now) held ≡ true)) c.self.view_is c.in-Some.ensures.found)),
)

pub due-preserved-then-not-ask : goal.due-preserved-then-not-ask
due-preserved-then-not-ask g c = (
  c.ask.ensures.latest ∙ c.due.invariant.0,
  asks_more g.C.Ord.cmp (wire_in g) c.args.now c.args.self.now c.due.self c.ask.new.self c.due.all (Err (record {})) c.ask.result c.due.invariant.1 c.ask.ensures
      (ap (λ b. b && is_ok c.due.all) c.if-not-ask.true),
  λ none. c.ask.ensures.late (c.due.invariant.2 none),
  λ none. absurd (one_is g.C.Ord.cmp (as_nanos c.args.now) c.due.self c.in-Some.peer
      (subst (NoneToAsk g.C.Ord.cmp (as_nanos c.args.now)) (sym (c.due.invariant.3 none)) none)
      (subst (λ (v : DriverView g.row.C.Denot g.row.C-Signature.Denot). IsSomeAnd (link_of g.C.Ord.cmp v.links c.in-Some.peer)
      (λ held. is_to_ask (as_nanos v.pace.tick) (as_nanos c.args.now) held ≡ true)) c.self.view_is c.in-Some.ensures.found)),
)

pub due-smaller : goal.due-smaller
due-smaller g c = one_fewer (as_nanos c.args.now) c.due.self c.ask.new.self c.ask.ensures.pace c.ask.ensures.fewer

pub due-smaller-then-not-ask : goal.due-smaller-then-not-ask
due-smaller-then-not-ask g c = one_fewer (as_nanos c.args.now) c.due.self c.ask.new.self c.ask.ensures.pace c.ask.ensures.fewer
