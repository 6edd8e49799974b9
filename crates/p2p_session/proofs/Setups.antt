-- Setups, as they are read.
use Rattle.std.proofs.Common.{◌≡◌, inl, ℕ, List, true, Ok, Option, None, refl, arith, ◌<◌, ◌+◌, length}
use Rattle.std.specs.Duration.{as_nanos}
use Rattle.p2p_directory.specs.declared.node.setup.Setup.{Setup}
use Rattle.p2p_session.specs.declared.refusal.Refusal.{Refusal}
use Rattle.p2p_session.specs.declared.refusal.Refusal.TheVariants as refusal
use Rattle.p2p_session.specs.declared.setup.Numbers.{Numbers}
use Rattle.p2p_session.specs.Given.{IsSetup, are_settings, numbers_at}
use Rattle.p2p_session.specs.Sessions.{IsInitRefusal}
use Rattle.p2p_session.specs.Refusals.{number_of}
use Rattle.p2p_directory.specs.Nodes.{NodeView}
use Rattle.p2p_session.specs.Schemes.{Scheme}

pub number_not_one : (why : Refusal) → ¬ (number_of why ≡ 1)
number_not_one refusal.Memory e = omega (arith, e)
number_not_one refusal.NoNode e = omega (arith, e)
number_not_one refusal.Absent e = omega (arith, e)
number_not_one refusal.NoRoom e = omega (arith, e)
number_not_one refusal.NotReserved e = omega (arith, e)
number_not_one refusal.NotHeld e = omega (arith, e)
number_not_one refusal.BadKey e = omega (arith, e)
number_not_one refusal.BadKeys e = omega (arith, e)
number_not_one refusal.BadInfo e = omega (arith, e)
number_not_one refusal.BadBits e = omega (arith, e)
number_not_one refusal.BadMoment e = omega (arith, e)
number_not_one refusal.BadSetting e = omega (arith, e)
number_not_one refusal.BadVerdicts e = omega (arith, e)
number_not_one refusal.BadCall e = omega (arith, e)

module _ {C S : Type 0} (k : Scheme C S) where
  -- the numbers of a setup that was read are fine
  pub numbers_fine : (n : Numbers) (namespace bootstrappers myself : List ℕ) (s : Setup C S) →
      are_settings n ≡ true → IsSetup k n namespace bootstrappers myself s → numbers_at n ≡ Ok (as_nanos s.synchrony_bound)
  numbers_fine n namespace bootstrappers myself s fine is = rw (fine, is.cooldown, is.block, is.bound) refl

  -- .. and then memory may be wanted
  pub refused_memory : (n : Numbers) (namespace bootstrappers myself : List ℕ) (s : Setup C S) (o : Option (NodeView C S)) →
      o ≡ None → are_settings n ≡ true → IsSetup k n namespace bootstrappers myself s → 0 < length myself →
      IsInitRefusal k n bootstrappers myself o refusal.Memory
  refused_memory n namespace bootstrappers myself s o none fine is some =
      rw (none, numbers_fine n namespace bootstrappers myself s fine is) (inl (refl, omega (arith, some)))
