use Rattle.std.proofs.Common.{◌≡◌, ◌+◌, length, None, IfNone, IfSome, cond, sym, ap, subst, ◌∙◌}
use Rattle.std.specs.BTreeMap.{is_at}
use Rattle.std.specs.Map.{remove_entry}
use Rattle.p2p_directory.specs.Held.{held_of, all_but}
use Rattle.p2p_directory.specs.Private.Slots.{contents}
use Rattle.p2p_directory.proofs.Reservations.Removed.{contents_without, none_taken}
use Rattle.p2p_directory.proofs.Reservations.Slots.{held_is, rest_is, one_fewer}
use Rattle.p2p_directory.proofs.run.held.Held.take.Goals as goal

pub returns-clause-taken : goal.returns-clause-taken
returns-clause-taken g c =
    rw (c.remove-taken.ensures.taken, ← c.self.view_is)
    (sym (held_is g.met.C.Ord.total g.met.C.PublicKey.exact c.self.inside.slots c.self.invariant.slots_are c.args.peer.now))

pub returns-clause-rest : goal.returns-clause-rest
returns-clause-rest g c =
    let total = g.met.C.Ord.total in
    let exact = g.met.C.PublicKey.exact in
    let slots = c.self.inside.slots in
    let p = c.args.peer.now in
    c.drop_empty_first.ensures.same
    ∙ contents_without total exact slots c.remove-taken.new.self p c.self.invariant.slots_are c.remove-taken.ensures.ordered
    c.remove-taken.ensures.held
    ∙ rest_is total exact slots p c.self.invariant.slots_are
    ∙ ap (all_but g.C.Ord.cmp p) c.self.view_is

pub returns-clause-left : goal.returns-clause-left
returns-clause-left g c = λ q.
    let cmp = g.C.Ord.cmp in
    let total = g.met.C.Ord.total in
    let exact = g.met.C.PublicKey.exact in
    let slots = c.self.inside.slots in
    ap (λ ms. held_of cmp ms q) c.drop_empty_first.ensures.same
    ∙ held_is total exact c.remove-taken.new.self c.remove-taken.ensures.ordered q
    ∙ c.remove-taken.ensures.held q
    ∙ ap (cond (is_at (cmp c.args.peer.now) q) None) (sym (held_is total exact slots c.self.invariant.slots_are q)
    ∙ ap (λ ms. held_of cmp ms q) c.self.view_is)

pub returns-clause-length : goal.returns-clause-length
returns-clause-length g c =
    let total = g.met.C.Ord.total in
    let exact = g.met.C.PublicKey.exact in
    let slots = c.self.inside.slots in
    let test = is_at (g.C.Ord.cmp c.args.peer.now) in
    let r = c.remove-taken.result in
    let left = contents c.drop_empty_first.new.slots in
    let is : left ≡ contents (remove_entry test slots) = c.drop_empty_first.ensures.same
    ∙ contents_without total exact slots c.remove-taken.new.self c.args.peer.now c.self.invariant.slots_are
    c.remove-taken.ensures.ordered c.remove-taken.ensures.held in
    subst (λ old. IfSome r (λ _. length old ≡ length left + 1)) c.self.view_is
    (subst (λ ms. IfSome r (λ _. length (contents slots) ≡ length ms + 1)) (sym is)
    (one_fewer total exact test slots r c.remove-taken.ensures.taken))

pub returns-clause-absent : goal.returns-clause-absent
returns-clause-absent g c =
    let slots = c.self.inside.slots in
    let r = c.remove-taken.result in
    let left = contents c.drop_empty_first.new.slots in
    subst (λ old. IfNone r (left ≡ old)) c.self.view_is
    (subst (λ ms. IfNone r (ms ≡ contents slots)) (sym c.drop_empty_first.ensures.same)
    (none_taken g.met.C.Ord.total g.met.C.PublicKey.exact slots c.remove-taken.new.self c.args.peer.now r
    c.self.invariant.slots_are c.remove-taken.ensures.ordered c.remove-taken.ensures.held c.remove-taken.ensures.taken))
