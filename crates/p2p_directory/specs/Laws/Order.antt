-- Infos in another order.
use Rattle.std.specs.Prelude.{◌≡◌, true, List, [], ◌∷◌, ◌⊎◌, ◌↔◌}
use Rattle.p2p_discovery.specs.declared.discovery.Info.{Info}
use Rattle.p2p_tracker.specs.Calls.{Settings}
use Rattle.p2p_tracker.specs.History.{same}

abbrev pub Member : {A : Type 0} → List A → A → Type 0
Member [] x = ⊥
Member (y ∷ ys) x = (x ≡ y) ⊎ Member ys x

-- the same infos, whatever their order and however often
abbrev pub HaveSame : {A : Type 0} → List A → List A → Type 0
HaveSame {A} xs ys = (x : A) → Member xs x ↔ Member ys x

-- no two infos of one key with one timestamp
abbrev pub IsUnambiguous : {C S : Type 0} → Settings C S → List (Info C S) → Type 0
IsUnambiguous {C} {S} s xs =
    (p : C) (i j : Info C S) → Member xs i → Member xs j → same s i.public_key p ≡ true →
    same s j.public_key p ≡ true → i.timestamp ≡ j.timestamp → i ≡ j
