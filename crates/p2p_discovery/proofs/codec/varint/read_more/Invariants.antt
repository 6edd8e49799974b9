use Rattle.std.proofs.Common.{◌≡◌, ◌+◌, ◌-◌, ◌*◌, ◌^◌, ◌<◌, ◌∷◌, false}
use Rattle.p2p_discovery.specs.Varint.{groups_at}
use Rattle.p2p_discovery.proofs.GroupReads.{SumsTo}
use Rattle.p2p_discovery.proofs.codec.varint.read_more.Given as goal

abbrev pub invariant-loop : goal.invariant-loop
invariant-loop l = record {
  goes : SumsTo l.most l.top (l.left - l.counter) l.sum l.unit l.reader (groups_at l.most l.top false (l.left + 1) (l.first ∷ l.initial.reader));
  unit : l.unit * 128 ^ (l.left - l.counter) ≡ 128 ^ (l.left + 1);
  less : l.sum < l.unit;
}
