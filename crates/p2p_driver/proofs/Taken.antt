-- What the host took is a beginning of what was said.
use Rattle.std.proofs.Common.{◌≡◌, List, [], ◌∷◌, ◌++◌, refl, ◌∙◌, ap}
use Rattle.p2p_driver.specs.declared.actions.Action.{Action}
use Rattle.p2p_driver.specs.Happenings.{Happening, said, says_by, taken, taken_by}
use Rattle.p2p_driver.specs.Drivers.{Base, AreRight}
use Rattle.p2p_driver.specs.Laws.{Begins}
use Rattle.p2p_driver.proofs.LinkHistory.{said_more, took_one}

module _ {C S : Type 0} (b : Base C S) where
  -- what was said after these
  abbrev pub says : List (Happening C S) → Happening C S → List (Action C)
  says h e = says_by b.made.directory b.greeting h e

  abbrev pub all : List (Happening C S) → List (Action C)
  all h = said b.made.directory b.greeting h

  -- nothing was taken
  more : (e : Happening C S) (h : List (Happening C S)) → taken_by e ≡ [] → Begins (taken h) (all h) →
      Begins (taken (e ∷ h)) (all (e ∷ h))
  more e h none at = (
    at.0 ++ says h e,
    ap (λ xs. (taken h ++ xs) ++ (at.0 ++ says h e)) none
        ∙ said_more (taken h) at.0 (all h) (says h e) at.1,
  )

  pub begins : (h : List (Happening C S)) → AreRight b h → Begins (taken h) (all h)
  begins [] right = ([], refl)
  begins (Happening.Taken action ∷ h) right = (right.0.0, took_one (taken h) right.0.0 (all h) action right.0.1)
  begins (e ∷ h) right = more e h refl (begins h right.2)
