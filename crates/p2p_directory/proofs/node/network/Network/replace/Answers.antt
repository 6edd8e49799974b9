use Rattle.std.proofs.Common.{◌≡◌, ◌<◌, ◌≤◌, ℕ, List, ◌++◌, take, drop, length, ◌∙◌, ap, arith}
use Rattle.std.specs.Prelude.{slice_index_or, slice_set}
use Rattle.std.proofs.lemmas.List.{length-take, with_items_is}
use Rattle.p2p_directory.proofs.Nodes.Among.{replaced_at}
use Rattle.p2p_directory.proofs.node.network.Network.replace.Goals as goal

pub returns-clause-ok : goal.returns-clause-ok
returns-clause-ok g c = rw (← c.self.view_is) (
    let i = c.args.node in
    let end = c.in_ok-new.new in
    let old = c.swap_at-old.result in
    let same = c.deref_mut.ensures.value in
    let there : i < length c.self.inside.nodes.items =
    omega (arith, c.if-node-len.false, c.len.ensures, c.self.inside.nodes.ok) in
    replaced_at g.C.Ord.cmp c.args.setup c.self.inside.nodes.items _ end
    c.in_ok-new.ensures.stands i old c.finish.result there
    (with_items_is c.self.inside.nodes c.swap_at-old.new.nodes
    (omega (arith, c.swap_at-old.auto.nodes, c.deref_mut.ensures.len))
    ∙ c.swap_at-old.ensures.rest ∙ ap (λ es. slice_set es i end) same)
    (c.swap_at-old.ensures.old ∙ ap (λ es. slice_index_or es i old) same) c.finish.ensures)

-- what is written back over all of a list has no more
room_left : {A : Type 0} (len cap : ℕ) (new old : List A) → len ≡ length old → length old ≤ cap →
    length (take len (new ++ drop (length new) old)) ≤ cap
room_left len cap new old is room = omega (arith, length-take len (new ++ drop (length new) old), is, room)

pub invariant_of-self : goal.invariant_of-self
invariant_of-self g c = (
  c.self.invariant.0,
  room_left c.self.inside.nodes.len _ c.swap_at-old.new.nodes
      c.self.inside.nodes.items c.self.inside.nodes.ok.0 c.self.invariant.1,
)
