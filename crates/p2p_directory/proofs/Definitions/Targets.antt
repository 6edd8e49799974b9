-- A peer that may be dialled, part by part.
use Rattle.std.proofs.Common.{◌≡◌, ℕ, Bool, true, not, ◌&&◌, List, Option}
use Rattle.std.specs.Prelude.{nat_le}
use Rattle.std.proofs.lemmas.Bool.{and_parts, and_from}
use Rattle.p2p_tracker.specs.Calls.{Settings, SetAt, Cooldown}
use Rattle.p2p_tracker.specs.History.{is_entitled}
use Rattle.p2p_tracker.specs.Status.{is_inert}
use Rattle.p2p_tracker.specs.World.{Peer, may_dial, may_listen, is_target, is_valid_address, address_with, is_dial_target}
use Rattle.p2p_tracker.specs.Blocks.{is_blocked}
use Rattle.p2p_tracker.specs.Cooldowns.{reservable_from}

-- the parts of a target
pub record TargetParts (entitled inert valid target : Bool) : Type 0 where
  pub entitled_is : entitled ≡ true
  pub inert_is : inert ≡ true
  pub valid_is : valid ≡ true
  pub target_is : target ≡ true

pub target_parts : (e i v g : Bool) → (e && i && v && g) ≡ true → TargetParts e i v g
target_parts e i v g h =
    let h3 = and_parts (e && i && v) g h in
    let h2 = and_parts (e && i) v h3.0 in
    let h1 = and_parts e i h2.0 in
    record { entitled_is = h1.0; inert_is = h1.1; valid_is = h2.1; target_is = h3.1 }

pub all_of : (e i b d : Bool) → e ≡ true → i ≡ true → b ≡ true → d ≡ true → (e && i && b && d) ≡ true
all_of e i b d he hi hb hd = and_from (e && i && b) d (and_from (e && i) b (and_from e i he hi) hb) hd

module _ {C S : Type 0} (s : Settings C S) (p : C) (sets : List (SetAt C)) (peer : Peer C S) where
  abbrev pub IsTarget : Type 0
  IsTarget = TargetParts (is_entitled s p sets) (is_inert peer.status)
      (is_valid_address s (address_with s p peer.known.info)) (is_dial_target s p sets)

  pub parts_of_target : is_target s p sets peer ≡ true → IsTarget
  parts_of_target h =
      target_parts (is_entitled s p sets) (is_inert peer.status)
      (is_valid_address s (address_with s p peer.known.info)) (is_dial_target s p sets) h

  module _ (t : ℕ) (unblock : Option ℕ) (cooldown : Option Cooldown)
      (may : may_dial s p t sets peer unblock cooldown ≡ true) where
    reservable : (is_target s p sets peer && not (is_blocked unblock t) ≡ true)
        × (nat_le (reservable_from cooldown) t ≡ true)
    reservable = and_parts (is_target s p sets peer && not (is_blocked unblock t)) _ may

    free : (is_target s p sets peer ≡ true) × (not (is_blocked unblock t) ≡ true)
    free = and_parts (is_target s p sets peer) (not (is_blocked unblock t)) reservable.0

    -- who is granted a dial is a target
    pub dialled_is_target : IsTarget
    dialled_is_target = parts_of_target free.0

    -- .. and would be granted a listen
    pub dialled_may_listen : may_listen s p t sets peer unblock cooldown ≡ true
    dialled_may_listen = all_of (is_entitled s p sets) (is_inert peer.status)
        (not (is_blocked unblock t)) (nat_le (reservable_from cooldown) t)
        dialled_is_target.entitled_is dialled_is_target.inert_is free.1 reservable.1
