use Rattle.std.proofs.Common.{refl, ◌∙◌, sym, ◌+◌}
use Rattle.p2p_discovery.proofs.Names.{named_whole, named_front, one_label, first_label, no_name, rest_of}
use Rattle.p2p_discovery.proofs.types.hostname.+is_name.Goals as goal

pub is_label_of-requires : goal.is_label_of-requires
is_label_of-requires t c = named_whole c.args.text.now (sym c.label_end.ensures ∙ c.in-None.is)

pub is_label_of-requires-in-Some : goal.is_label_of-requires-in-Some
is_label_of-requires-in-Some t c = named_front c.args.text.now c.in-Some.at (sym c.label_end.ensures ∙ c.in-Some.is)

pub returns-in-None : goal.returns-in-None
returns-in-None t c = c.is_label_of.ensures ∙ sym (one_label c.args.text.now (sym c.label_end.ensures ∙ c.in-None.is))

pub returns-then-is_label_of : goal.returns-then-is_label_of
returns-then-is_label_of t c =
    let s = first_label c.args.text.now c.in-Some.at (sym c.label_end.ensures ∙ c.in-Some.is) c.if-text-at-eq46.true in
    let r = rest_of c.args.text.now (c.in-Some.at + 1) in
    rw (s, ← c.is_label_of-in-Some.ensures, c.if-is_label_of.true) (rw r at c.is_name.ensures)

pub returns-else-is_label_of : goal.returns-else-is_label_of
returns-else-is_label_of t c =
    let s = first_label c.args.text.now c.in-Some.at (sym c.label_end.ensures ∙ c.in-Some.is) c.if-text-at-eq46.true in
    rw (s, ← c.is_label_of-in-Some.ensures, c.if-is_label_of.false) refl

pub returns-in-Some-2 : goal.returns-in-Some-2
returns-in-Some-2 t c =
    sym (no_name c.args.text.now c.in-Some.at (sym c.label_end.ensures ∙ c.in-Some.is) c.if-text-at-eq46.false)
