-- Each call of a directory is that of a command.
use Rattle.std.proofs.Common.{◌≡◌, ℕ, ◌<◌, ◌^◌, ◌/◌, ◌%◌, length, List, refl, ap, arith, Vec}
use Rattle.std.proofs.Common.{Global}
use Rattle.std.specs.Duration.{as_nanos}
use Rattle.std.specs.declared.time.Duration.{Duration}
use denote.RawPtr.{null_ptr}
use Rattle.p2p_tracker.specs.Calls.{Call}
use Rattle.p2p_tracker.specs.Calls.Call.{Track, Dial, Listen, Connect, Release, Update, Block}
use Rattle.p2p_tracker.specs.Calls.Call.{UnblockExpired, ForgetCooled, Ask}
use Rattle.p2p_tracker.specs.Calls.Question.{StatusOf, NumberTracked, NextUnblock, BlockedAt}
use Rattle.p2p_tracker.specs.Calls.Question.{PeerSet, LatestIndex, AllPeers, LatestUpdate, InfoOf}
use Rattle.p2p_tracker.specs.Calls.Question.{InfosFor, BitsAt, IsEligible, IsAcceptable, DialableAt}
use Rattle.p2p_tracker.specs.Calls.Question.{IngressOf, MayListen}
use Rattle.p2p_directory.specs.declared.run.commands.Command.{Command}
use Rattle.p2p_directory.specs.declared.run.commands.Command.TheVariants as command
use Rattle.p2p_directory.specs.Run.{call_of}
use Rattle.p2p_session.specs.Networks.{IsShort}

-- a moment
abbrev pub moment : ℕ → Duration
moment n = record { secs = n / 1_000_000_000; nanos = n % 1_000_000_000 }

pub is_moment : (n : ℕ) → as_nanos (moment n) ≡ n
is_moment n = omega arith

-- a list that fits memory, as a vector
vector : {X : Type 0} (items : List X) → length items < 2 ^ 63 → Vec X Global
vector items short = record {
  ptr = null_ptr;
  len = length items;
  cap = length items;
  alloc = record { memory = record { seal = tt } };
  items = items;
  ok = (refl, omega arith);
  small = short;
}

module _ {C S : Type 0} where
  abbrev Has : Call C S → Type 0
  Has call = (x : Command C S) × (call_of x ≡ call)

  pub has_command : (call : Call C S) → IsShort call → Has call
  unfolding vector
  has_command (Track index primary secondary) short =
      (command.Track index (record { primary = primary; secondary = secondary }), refl)
  has_command (Dial p t draw) short = (
    command.Dial p (moment t) (moment draw),
    (λ i. Dial p (is_moment t i) (is_moment draw i)),
  )
  has_command (Listen p t draw) short = (
    command.Listen p (moment t) (moment draw),
    (λ i. Listen p (is_moment t i) (is_moment draw i)),
  )
  has_command (Connect p dialer) short = (command.Connect p dialer, refl)
  has_command (Release p) short = (command.Release p, refl)
  has_command (Update infos) short = (command.UpdatePeers (vector infos short), refl)
  has_command (Block p t) short = (command.Block p (moment t), ap (λ n. Block p n) (is_moment t))
  has_command (UnblockExpired t) short = (
    command.UnblockExpired (moment t),
    ap (λ n. UnblockExpired n) (is_moment t),
  )
  has_command (ForgetCooled t) short = (
    command.ForgetCooled (moment t),
    ap (λ n. ForgetCooled n) (is_moment t),
  )
  has_command (Ask (StatusOf p)) short = (command.Status p, refl)
  has_command (Ask NumberTracked) short = (command.Tracked, refl)
  has_command (Ask NextUnblock) short = (command.NextUnblock, refl)
  has_command (Ask (BlockedAt t)) short = (
    command.BlockedPeers (moment t),
    ap (λ n. Ask (BlockedAt n)) (is_moment t),
  )
  has_command (Ask (PeerSet index)) short = (command.GetPeerSet index, refl)
  has_command (Ask LatestIndex) short = (command.LatestSetIndex, refl)
  has_command (Ask AllPeers) short = (command.All, refl)
  has_command (Ask LatestUpdate) short = (command.LatestUpdate, refl)
  has_command (Ask (InfoOf p)) short = (command.Info p, refl)
  has_command (Ask (IngressOf p)) short = (command.Ingress p, refl)
  has_command (Ask (InfosFor index bits t)) short = (
    command.Infos (record { index = index; bits = bits }) (moment t),
    ap (λ n. Ask (InfosFor index bits n)) (is_moment t),
  )
  has_command (Ask (BitsAt place)) short = (command.GetRandomBitVec place, refl)
  has_command (Ask (IsEligible p t)) short = (
    command.Eligible p (moment t),
    ap (λ n. Ask (IsEligible p n)) (is_moment t),
  )
  has_command (Ask (IsAcceptable p t)) short = (
    command.Acceptable p (moment t),
    ap (λ n. Ask (IsAcceptable p n)) (is_moment t),
  )
  has_command (Ask (MayListen p t)) short = (
    command.MayListen p (moment t),
    ap (λ n. Ask (MayListen p n)) (is_moment t),
  )
  has_command (Ask (DialableAt t)) short = (
    command.Dialable (moment t),
    ap (λ n. Ask (DialableAt n)) (is_moment t),
  )
