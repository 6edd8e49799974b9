-- A sorted list is known by its members, and a least moment by being least: such answers are determined.
use Rattle.std.proofs.Common.{◌≡◌, ◌<◌, ℕ, Bool, List, length, Option, Some, None, refl, sym, ◌∙◌, ap, arith}
use Rattle.std.specs.List.Sorted.{IsStrictlySortedBy}
use Rattle.std.specs.Ordering.{is_eq}
use Rattle.std.specs.Cmp.{IsTotalOrder}
use Rattle.p2p_tracker.proofs.Definitions.Members
use Rattle.p2p_tracker.specs.Calls.{Settings}
use Rattle.p2p_tracker.specs.History.{is_in, IsExact}
use Rattle.p2p_tracker.specs.World.{World}
use Rattle.p2p_tracker.specs.Answers.{IsNumberTracked, is_tracked, IsNumberCooled, is_cooled_at}
use Rattle.p2p_tracker.specs.Lists.{Lists, IsLeastOf, Somebody}
use Rattle.p2p_tracker.specs.Dials.{IsBefore}
use Rattle.std.specs.declared.cmp.Ordering.{Ordering}

-- a list of the keys with a property is one of those with the same
pub lists_alike : {C : Type 0} (cmp : C → C → Ordering) (f g : C → Bool) (ps : List C) → ((q : C) → f q ≡ g q) → Lists cmp f ps → Lists cmp g ps
lists_alike cmp f g ps alike listed = record { sorted = listed.sorted; members = λ q. listed.members q ∙ alike q }

pub somebody_alike : {C : Type 0} (f g : C → Bool) → ((q : C) → f q ≡ g q) → Somebody f → Somebody g
somebody_alike f g alike some = (some.0, sym (alike some.0) ∙ some.1)

-- .. and so is the least moment
pub least_alike : {C : Type 0} (f g : C → Option ℕ) (next : Option ℕ) → ((p : C) → g p ≡ f p) → IsLeastOf f next → IsLeastOf g next
least_alike f g None alike least = λ p. alike p ∙ least p
least_alike f g (Some m) alike least = ((least.0.0, alike least.0.0 ∙ least.0.1), λ p n e. least.1 p n (sym (alike p) ∙ e))

-- what comes before the least moment comes before that of each key
pub least_later : {C : Type 0} (f : C → Option ℕ) (u : ℕ) (next : Option ℕ) → IsBefore u next → IsLeastOf f next → (p : C) (n : ℕ) → f p ≡ Some n → u < n
least_later f u None before least p n e = absurd (let f = sym (least p) ∙ e in cc)
least_later f u (Some m) before least p n e = omega (arith, before, least.1 p n e)

module _ {C S : Type 0} (s : Settings C S) where
  -- two least moments of the same keys are one
  pub one_least : (moment : C → Option ℕ) (a b : Option ℕ) → IsLeastOf moment a → IsLeastOf moment b → a ≡ b
  one_least moment None None x y = refl
  one_least moment None (Some n) x y = absurd (let e = sym (x y.0.0) ∙ y.0.1 in cc)
  one_least moment (Some m) None x y = absurd (let e = sym (y x.0.0) ∙ x.0.1 in cc)
  one_least moment (Some m) (Some n) x y = ap Some (omega (arith, x.1 y.0.0 n y.0.1, y.1 x.0.0 m x.0.1))

module _ {C S : Type 0} (s : Settings C S) (total : IsTotalOrder s.cmp) (exact : IsExact s) where
  pub same_members : (xs ys : List C) → IsStrictlySortedBy s.cmp xs → IsStrictlySortedBy s.cmp ys → ((p : C) → is_in s p xs ≡ is_in s p ys) → xs ≡ ys
  same_members xs ys sx sy members = Members.same_members total (λ x y e. exact x y (ap is_eq e)) xs ys sx sy members

  -- so an answer that lists is determined
  pub one_list : (test : C → Bool) (xs ys : List C) → Lists s.cmp test xs → Lists s.cmp test ys → xs ≡ ys
  one_list test xs ys a b = same_members xs ys a.sorted b.sorted (λ p. a.members p ∙ sym (b.members p))

  -- and so is a number of keys
  pub one_number : (w : World C S) (m n : ℕ) → IsNumberTracked s w m → IsNumberTracked s w n → m ≡ n
  one_number w m n a b = a.2 ∙ ap length (one_list (is_tracked s w) a.0 b.0 a.1 b.1) ∙ sym b.2

  pub one_number_cooled : (w : World C S) (t m n : ℕ) → IsNumberCooled s w t m → IsNumberCooled s w t n → m ≡ n
  one_number_cooled w t m n a b = a.2 ∙ ap length (one_list (is_cooled_at s w t) a.0 b.0 a.1 b.1) ∙ sym b.2
