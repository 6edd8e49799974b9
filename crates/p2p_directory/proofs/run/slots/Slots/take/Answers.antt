use Rattle.std.proofs.Common.{◌≡◌, Bool, List, Option, None, Some, IfNone, ap, sym, ◌∙◌}
use Rattle.std.specs.BTreeMap.{is_at}
use Rattle.std.specs.Map.{lookup, set_value}
use Rattle.std.proofs.lemmas.Map.Steps.{set_value_same}
use Rattle.p2p_directory.proofs.run.slots.Slots.take.Goals as goal

-- nothing is written where there was nothing
same : {K X : Type 0} (test : K → Bool) (es fs old : List (K × Option X)) (v w r : Option X) →
    fs ≡ set_value test es w → w ≡ None → r ≡ v → Some v ≡ lookup test es → es ≡ old → IfNone r (fs ≡ old)
same test es fs old v w None wrote none is found seen =
    wrote ∙ set_value_same test es w (sym found ∙ ap Some (sym is ∙ sym none)) ∙ seen
same test es fs old v w (Some x) wrote none is found seen = tt

pub returns-clause-none : goal.returns-clause-none
returns-clause-none g c =
    let w = c.take.new.self in
    same (is_at (g.C.Ord.cmp c.args.peer.now)) c.self.inside.reservations.entries
    (c.get_mut.follows.lender w).entries c.args.self.now c.in-Some.slot.now w c.take.result
    (c.get_mut.follows.holds w).0 c.take.ensures.after c.take.ensures.value c.in-Some.ensures.value c.self.view_is
