use Rattle.std.proofs.Common.{◌≡◌, ◌≤◌, ◌<◌, ◌*◌, ◌/◌, ◌-◌, take, drop, length}
use Rattle.std.specs.Prelude.{vec_len, vec_capacity}
use Rattle.p2p_session.specs.Given.{AreKeys, AreKeysOf}
use Rattle.p2p_session.specs.Schemes.{scheme_by}
use Rattle.p2p_session.proofs.given.keys.Given as goal

abbrev pub invariant-loop-at : goal.invariant-loop-at
invariant-loop-at g l =
    let k = scheme_by g.C.PartialOrd g.C.Ord g.C.PartialEq g.C.FixedBytes g.C.PublicKey g.C.Signature.PartialEq g.C.Signature.FixedBytes in record {
      are : AreKeysOf k (take l.at l.bytes) l.keys.items;
      rest : AreKeys k (drop l.at l.bytes);
      inside : l.at ≤ length l.bytes;
      counted : vec_len l.keys * g.C.FixedBytes.SIZE ≡ l.at;
      room : 0 < g.C.FixedBytes.SIZE → length l.bytes / g.C.FixedBytes.SIZE ≤ vec_capacity l.keys;
    }

abbrev pub decreases-loop-at : goal.decreases-loop-at
decreases-loop-at g l = length l.bytes - l.at
