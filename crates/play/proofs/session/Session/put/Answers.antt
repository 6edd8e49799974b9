use Rattle.std.proofs.Common.{ap, arith, inl, inr, refl, subst, sym, ◌<◌, ◌≡◌, ◌∙◌, ◌++◌, ◌∷◌, [], length}
use Rattle.std.proofs.lemmas.List.{length-set}
use Rattle.std.specs.List.{All}
use Rattle.std.specs.Prelude.{slice_index_or, string_bytes}
use Rattle.p2p_directory.proofs.Nodes.Among.{was_there}
use Rattle.play.specs.declared.label.Label.{Label}
use Rattle.play.specs.Session.{SessionView}
use Rattle.play.proofs.session.Session.put.Goals as goal

pub invariant_of-self-in-Some : goal.invariant_of-self-in-Some
invariant_of-self-in-Some g c =
    let i = c.in-Some.place in
    let found = subst (λ (s : SessionView g.row.C.Denot g.row.C-Signature.Denot). i < length s.labels)
    (sym c.self.view_is) c.in-Some.ensures.found in
    let new = was_there g.C.Ord.cmp c.args.setup i c.in_ok-replace-in-Some.field-0
    c.self.inside.nodes c.replace.new.self (omega (arith, found, c.self.invariant))
    c.in_ok-replace-in-Some.ensures.ok in
    length-set c.self.inside.labels.items i c.in_ok-label.label ∙ c.self.invariant
    ∙ sym (ap length new.nodes ∙ length-set c.self.inside.nodes i new.node)

pub returns-in_ok-replace-in-Some-clause-ok : goal.returns-in_ok-replace-in-Some-clause-ok
returns-in_ok-replace-in-Some-clause-ok g c = rw (← c.self.view_is) (
    let i = c.in-Some.place in
    let found = subst (λ (s : SessionView g.row.C.Denot g.row.C-Signature.Denot). i < length s.labels)
    (sym c.self.view_is) c.in-Some.ensures.found in
    inl (record {
      i = i;
      there = found;
      called = subst (λ (s : SessionView g.row.C.Denot g.row.C-Signature.Denot). (l : Label) →
          string_bytes (slice_index_or s.labels i l).name ≡ c.args.name.now)
          (sym c.self.view_is) c.in-Some.ensures.called;
      label = c.in_ok-label.label;
      is_called = c.in_ok-label.ensures;
      labels = refl;
      nodes = was_there g.C.Ord.cmp c.args.setup i c.in_ok-replace-in-Some.field-0
          c.self.inside.nodes c.replace.new.self (omega (arith, found, c.self.invariant))
          c.in_ok-replace-in-Some.ensures.ok;
    }))

pub returns-in_ok-add-in-None-clause-ok : goal.returns-in_ok-add-in-None-clause-ok
returns-in_ok-add-in-None-clause-ok g c = rw (← c.self.view_is) (inr (record {
  none = subst (λ (s : SessionView g.row.C.Denot g.row.C-Signature.Denot).
      All (λ l. ¬ (string_bytes l.name ≡ c.args.name.now)) s.labels)
      (sym c.self.view_is) c.in-None.ensures.none;
  label = c.in_ok-label.label;
  is_called = c.in_ok-label.ensures;
  labels = c.push_reserved.ensures.items
      ∙ ap (λ ls. ls ++ c.in_ok-label.label ∷ []) c.reserve.ensures.items;
  nodes = c.in_ok-add-in-None.ensures.ok;
}))
