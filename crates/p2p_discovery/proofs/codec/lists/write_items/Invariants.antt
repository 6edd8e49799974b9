use Rattle.std.proofs.Common.{◌≡◌, ◌+◌, ◌++◌, length, drop}
use Rattle.std.specs.List.{AllByRecursion}
use Rattle.p2p_discovery.specs.Lists.{spellings}
use Rattle.p2p_discovery.proofs.codec.lists.write_items.Given as goal

abbrev pub invariant-loop-item : goal.invariant-loop-item
invariant-loop-item g l = record {
  items : l.buf.items ++ spellings g.T.EncodeSize.spelling (drop l.item-index l.items) ≡ l.initial.buf.items ++ spellings g.T.EncodeSize.spelling l.items;
  spare : l.buf.spare + length (spellings g.T.EncodeSize.spelling l.items)
      ≡ l.initial.buf.spare + length (spellings g.T.EncodeSize.spelling (drop l.item-index l.items));
  holds : AllByRecursion g.T.Write.HoldsValues (drop l.item-index l.items) → AllByRecursion g.T.Write.HoldsValues l.items;
}
