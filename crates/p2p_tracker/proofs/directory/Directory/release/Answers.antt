use Rattle.std.proofs.Common.{◌≡◌, map, ◌∙◌, ap, sym, subst}
use Rattle.std.specs.Int.NonZero.{non_zero_usize_get}
use Rattle.p2p_tracker.specs.Directory.{kept_after_release}
use Rattle.p2p_tracker.specs.Seen.{config_view, record_at, key_of}
use Rattle.p2p_tracker.specs.Private.Window.{with_bit_of}
use Rattle.p2p_tracker.specs.Cooldowns.{cooldown_in}
use Rattle.p2p_tracker.proofs.SetsAndRecords.Cooled.{cooled_at, release_keeps}
use Rattle.p2p_tracker.proofs.SetsAndRecords.Changes.{changed_at, kept_released, changes_view}
use Rattle.p2p_tracker.proofs.SetsAndRecords.Changes.{marked_again}
use Rattle.p2p_tracker.proofs.directory.Directory.release.Goals as goal

-- the peer whose bits are set anew is that of the reservation
of_peer : {C : Type 0} {key peer : C} {A : Type 0} {new : A} (f : C → A) → new ≡ f key → key ≡ peer → new ≡ f peer
of_peer f is same = is ∙ ap f same

pub renew-requires : goal.renew-requires
renew-requires g c =
    let cmp = g.C.Ord.cmp in
    let m = c.reservation.inside.metadata in
    let sets = c.self.inside.sets in
    let b = c.release-known.result.before in
    subst (λ key. map (with_bit_of cmp key b) sets ≡ sets) (sym c.public_key.ensures)
    (marked_again cmp g.met.C.PublicKey.exact c.self.inside.config.dial_fail_limit sets
    (record_at cmp c.self.inside.records) (key_of m) b c.self.invariant.whole.bits
    c.release-known.ensures.before)

pub invariant_of-self : goal.invariant_of-self
invariant_of-self g c =
    let cmp = g.C.Ord.cmp in
    let cfg = c.self.inside.config in
    let m = c.reservation.inside.metadata in
    let old = record_at cmp c.self.inside.records in
    let new = record_at cmp c.release-known.new.self in
    record {
      whole = changed_at cmp g.met.C.PublicKey.exact (non_zero_usize_get cfg.max_sets) cfg.dial_fail_limit
          c.self.inside.sets c.renew.new.self (record_at cmp c.self.inside.records)
          (record_at cmp c.release-known.new.self)
          (key_of m) (kept_after_release m) c.release-known.result.after c.self.invariant.whole
          c.release-known.ensures.change (kept_released m) c.release-known.ensures.after
          (of_peer (λ key. map (with_bit_of cmp key c.release-known.result.after) c.self.inside.sets)
          c.renew.ensures c.public_key.ensures);
      cooled = cooled_at cmp old new (cooldown_in cmp c.self.inside.cooldowns) (key_of m) (kept_after_release m)
          c.self.invariant.cooled c.release-known.ensures.change (release_keeps m);
    }

pub returns-clause-released : goal.returns-clause-released
returns-clause-released g c =
    let cmp = g.C.Ord.cmp in
    let m = c.reservation.inside.metadata in
    rw (← c.reservation.view_is)
    (changes_view cmp c.args.self.now (config_view c.self.inside.config) c.self.inside.sets c.renew.new.self
    c.self.inside.records c.release-known.new.self c.self.inside.blocks c.self.inside.cooldowns
    (key_of m) (kept_after_release m) c.release-known.result.after c.self.view_is
    (of_peer (λ key. map (with_bit_of cmp key c.release-known.result.after) c.self.inside.sets)
    c.renew.ensures c.public_key.ensures) c.release-known.ensures.change)
