use Rattle.std.proofs.Common.{◌≡◌, ◌-◌, ◌+◌, ◌*◌, ◌/◌, ◌≤◌, length, min, vec_len, vec_capacity}
use Rattle.p2p_discovery.specs.Reading.{IsBytes}
use Rattle.p2p_discovery.specs.Info.{info_at}
use Rattle.p2p_discovery.specs.Lists.{items_at}
use Rattle.p2p_discovery.proofs.ListReads.{GoesTo}
use Rattle.p2p_discovery.proofs.discovery.info_list.read_infos.Given as goal

abbrev pub invariant-loop : goal.invariant-loop
invariant-loop g l = record {
  goes : GoesTo (info_at g.C.FixedBytes.SIZE g.C.FixedBytes.value g.C.Signature.FixedBytes.SIZE g.C.Signature.FixedBytes.value) l.infos.items (l.count - l.counter) l.reader (items_at l.least (info_at g.C.FixedBytes.SIZE g.C.FixedBytes.value g.C.Signature.FixedBytes.SIZE g.C.Signature.FixedBytes.value) l.count l.initial.reader);
  bytes : IsBytes l.reader;
  len : vec_len l.infos ≡ l.counter;
  used : l.least * l.counter + length l.reader ≤ length l.initial.reader;
  capacity : vec_capacity l.infos ≡ min l.count (length l.initial.reader / l.least);
  most : vec_capacity l.infos * l.least ≤ length l.initial.reader;
}
