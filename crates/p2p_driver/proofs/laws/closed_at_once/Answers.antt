use Rattle.std.proofs.Common.{sym, ◌∙◌, ap, subst}
use Rattle.std.specs.Prelude.{◌&&◌, not, ◌∷◌}
use Rattle.std.proofs.lemmas.Map.Lookups.{CmpEqualImpliesEq}
use Rattle.p2p_tracker.specs.Calls.Call.{Track}
use Rattle.p2p_tracker.specs.History.{is_entitled}
use Rattle.p2p_directory.specs.Run.{world_after}
use Rattle.p2p_driver.specs.Happenings.{calls_of}
use Rattle.p2p_driver.proofs.Busy.{linked_is_busy}
use Rattle.p2p_driver.proofs.Closed.{closing, says_close, cut, cut_said}
use Rattle.p2p_driver.proofs.laws.closed_at_once.Goals as goal

pub returns-clause-torn : goal.returns-clause-torn
returns-clause-torn g c b order some h t index primary secondary torn right p =
    let s = b.made.directory in
    right.0.1.1.members p ∙ ap (λ busy. busy && is_entitled s p (world_after s (calls_of h)).sets
    && not (is_entitled s p (world_after s (Track index primary secondary ∷ calls_of h)).sets))
    (sym (linked_is_busy b some (subst CmpEqualImpliesEq (sym order) g.met.C.PublicKey.exact) h right.2 p))

pub returns-clause-closing : goal.returns-clause-closing
returns-clause-closing g c b h t index primary secondary torn p =
    closing b.made.directory t index primary secondary torn h p

pub returns-clause-said : goal.returns-clause-said
returns-clause-said g c b order h t index primary secondary torn p held has linked isnt =
    says_close b.made.directory (subst CmpEqualImpliesEq (sym order) g.met.C.PublicKey.exact) h torn p held has linked isnt

pub returns-clause-cut : goal.returns-clause-cut
returns-clause-cut g c b h e p w is = cut b.made.directory h e p w is

pub returns-clause-cut_said : goal.returns-clause-cut_said
returns-clause-cut_said g c b order h e p w held is linked isnt =
    cut_said b.made.directory b.greeting (subst CmpEqualImpliesEq (sym order) g.met.C.PublicKey.exact) h p held linked isnt e w is
