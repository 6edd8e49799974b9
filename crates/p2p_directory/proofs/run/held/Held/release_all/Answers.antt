use Rattle.std.proofs.Common.{Some, refl, ap, sym, subst, ◌∙◌}
use Rattle.std.specs.Prelude.{is_some}
use Rattle.std.specs.Option.{option_flatten}
use Rattle.p2p_tracker.specs.Directory.{IsBusy}
use Rattle.p2p_tracker.specs.Seen.{record_of}
use Rattle.p2p_directory.specs.Held.{held_of, after_release}
use Rattle.p2p_directory.specs.Private.Slots.{held_in}
use Rattle.p2p_directory.proofs.Reservations.Holding.{held_by_release, given_back}
use Rattle.p2p_directory.proofs.Reservations.Removed.{held_untouched}
use Rattle.p2p_directory.proofs.Reservations.Slots.{held_is, key_is}
use Rattle.p2p_directory.proofs.run.held.Held.release_all.Goals as goal

pub loop-slot-init : goal.loop-slot-init
loop-slot-init g c =
    let cmp = g.C.Ord.cmp in
    record {
      slots = c.self.invariant.slots_are;
      agree = λ q. ap is_some (sym (held_is g.met.C.Ord.total g.met.C.PublicKey.exact
          c.self.inside.slots c.self.invariant.slots_are q)
          ∙ ap (λ ms. held_of cmp ms q) c.self.view_is) ∙ c.requires q;
      config = refl;
      sets = refl;
      blocks = refl;
      cooldowns = refl;
      records = λ q. refl;
    }

pub release-requires : goal.release-requires
release-requires g c =
    let cmp = g.C.Ord.cmp in
    let total = g.met.C.Ord.total in
    let exact = g.met.C.PublicKey.exact in
    let old = c.loop-slot.slots in
    let peer = c.in-Some.field-0-0 in
    let m = c.in-Some-slot.reservation in
    let at = c.in-Some.ensures.found ∙ ap Some c.in-Some-slot.is in
    subst (IsBusy cmp c.loop-slot.directory) (sym (key_is total exact old peer m c.loop-slot.invariant.slots at))
    (sym (c.loop-slot.invariant.agree peer) ∙ ap (λ o. is_some (option_flatten o)) at)

-- an empty slot goes
pub loop-slot-preserved : goal.loop-slot-preserved
loop-slot-preserved g c =
    let cmp = g.C.Ord.cmp in
    let total = g.met.C.Ord.total in
    let exact = g.met.C.PublicKey.exact in
    let old = c.loop-slot.slots in
    let new = c.pop_last.new.self in
    let peer = c.in-Some.field-0-0 in
    let at = c.in-Some.ensures.found ∙ ap Some c.in-None.is in
    let same = held_untouched total exact old new peer c.in-Some.ensures.left (ap option_flatten at) in
    record {
      slots = c.pop_last.ensures.ordered;
      agree = λ q. ap is_some (same q) ∙ c.loop-slot.invariant.agree q;
      config = c.loop-slot.invariant.config;
      sets = c.loop-slot.invariant.sets;
      blocks = c.loop-slot.invariant.blocks;
      cooldowns = c.loop-slot.invariant.cooldowns;
      records = λ q. ap (λ o. after_release o (record_of cmp c.loop-slot.directory q)) (same q)
          ∙ c.loop-slot.invariant.records q;
    }

pub loop-slot-preserved-in-Some-slot : goal.loop-slot-preserved-in-Some-slot
loop-slot-preserved-in-Some-slot g c =
    let cmp = g.C.Ord.cmp in
    let total = g.met.C.Ord.total in
    let exact = g.met.C.PublicKey.exact in
    let d = c.loop-slot.directory in
    let d2 = c.release.new.self in
    let old = c.loop-slot.slots in
    let new = c.pop_last.new.self in
    let peer = c.in-Some.field-0-0 in
    let m = c.in-Some-slot.reservation in
    let at = c.in-Some.ensures.found ∙ ap Some c.in-Some-slot.is in
    let change = rw (key_is total exact old peer m c.loop-slot.invariant.slots at) at c.release.ensures.released in
    let left = c.in-Some.ensures.left in
    record {
      slots = c.pop_last.ensures.ordered;
      agree = held_by_release cmp d d2 peer m (held_in cmp old) (held_in cmp new) c.loop-slot.invariant.agree change left;
      config = change.config ∙ c.loop-slot.invariant.config;
      sets = change.sets ∙ c.loop-slot.invariant.sets;
      blocks = change.blocks ∙ c.loop-slot.invariant.blocks;
      cooldowns = change.cooldowns ∙ c.loop-slot.invariant.cooldowns;
      records = λ q. given_back cmp exact d d2 peer m (held_in cmp old) (held_in cmp new) (ap option_flatten at) change
          left q
          ∙ c.loop-slot.invariant.records q;
    }

pub returns : goal.returns
returns g c =
    let cmp = g.C.Ord.cmp in
    let slots = c.self.inside.slots in
    let none = c.in_default.ensures.none in
    record {
      config = c.loop-slot.invariant.config;
      sets = c.loop-slot.invariant.sets;
      blocks = c.loop-slot.invariant.blocks;
      cooldowns = c.loop-slot.invariant.cooldowns;
      records = λ q.
          ap (λ es. after_release (held_in cmp es q) (record_of cmp c.loop-slot.directory q)) (sym none)
          ∙ c.loop-slot.invariant.records q
          ∙ ap (λ o. after_release o (record_of cmp c.args.directory.now q))
          (sym (held_is g.met.C.Ord.total g.met.C.PublicKey.exact slots c.self.invariant.slots_are q)
          ∙ ap (λ ms. held_of cmp ms q) c.self.view_is);
    }
