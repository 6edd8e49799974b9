-- The grants of dials after one more happening.
use Rattle.std.proofs.Common.{◌≡◌, Bool, true, false, ◌||◌, List, ◌∷◌, Option, Some, None, refl, ◌∙◌, ap}
use Rattle.std.specs.Prelude.{if◌then◌else◌}
use Rattle.std.specs.List.{list_any}
use Rattle.std.specs.declared.time.Duration.{Duration}
use Rattle.p2p_discovery.specs.declared.types.ingress.Ingress.{Ingress}
use Rattle.p2p_tracker.specs.Calls.{Settings}
use Rattle.p2p_tracker.specs.History.{same, last_with, found_with}
use Rattle.p2p_driver.specs.Happenings.{Happening, granted_by, spends_by, grant_since, grant_at}

-- a grant after one more happening: by whether one is granted, and whether it is spent
abbrev pub grant_after : Option Duration → Bool → Option Duration → Option Duration
grant_after (Some t) spends grant = Some t
grant_after None spends grant = if spends then None else grant

module _ {C S : Type 0} (s : Settings C S) where
  later : (p : C) (e : Happening C S) (granted : Option Duration) (found : Option (Duration × List (Happening C S))) →
      grant_since s p (found_with granted e found) ≡ grant_after granted (spends_by s p e) (grant_since s p found)
  later p e (Some t) found = refl
  later p e None None = go (spends_by s p e)
    where
      go : (x : Bool) → None ≡ if◌then◌else◌ {A = Option Duration} x None None
      go true = refl
      go false = refl
  later p e None (Some found) = go (spends_by s p e) (list_any (spends_by s p) found.1)
    where
      go : (x y : Bool) → (if x || y then None else Some found.0) ≡ (if x then None else (if y then None else Some found.0))
      go true y = refl
      go false y = refl

  -- one more happening
  pub grant_later : (p : C) (e : Happening C S) (h : List (Happening C S)) →
      grant_at s p (e ∷ h) ≡ grant_after (granted_by s p e) (spends_by s p e) (grant_at s p h)
  grant_later p e h = later p e (granted_by s p e) (last_with (granted_by s p) h)

  -- .. that has nothing to do with it
  pub grant_stays : (p : C) (e : Happening C S) (h : List (Happening C S)) → granted_by s p e ≡ None → spends_by s p e ≡ false →
      grant_at s p (e ∷ h) ≡ grant_at s p h
  grant_stays p e h granted spends = grant_later p e h ∙ ap (λ o. grant_after o (spends_by s p e) (grant_at s p h)) granted
      ∙ ap (λ x. grant_after None x (grant_at s p h)) spends

  -- .. by which a dial of q was granted
  pub grant_begins : (p q : C) (n : _) (t draw : Duration) (word : _) (ingress : Ingress) (h : List (Happening C S)) →
      grant_at s p (Happening.Dialed n q t draw word ingress ∷ h) ≡ (if same s q p then Some t else grant_at s p h)
  grant_begins p q n t draw word ingress h = grant_later p (Happening.Dialed n q t draw word ingress) h ∙ go (same s q p)
    where
      go : (x : Bool) → grant_after (if x then Some t else None) false (grant_at s p h) ≡ (if x then Some t else grant_at s p h)
      go true = refl
      go false = refl
