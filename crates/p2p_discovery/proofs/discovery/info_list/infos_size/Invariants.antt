use Rattle.std.proofs.Common.{◌≡◌, ◌+◌, ◌*◌, ◌^◌, ◌≤◌, length, drop}
use Rattle.std.specs.List.{AllByRecursion}
use Rattle.p2p_discovery.specs.Lists.{spellings}
use Rattle.p2p_discovery.specs.Info.{IsInfo, info_spelling}
use Rattle.p2p_discovery.proofs.discovery.info_list.infos_size.Given as goal

abbrev pub invariant-loop-info : goal.invariant-loop-info
invariant-loop-info g l = record {
  size : l.size + length
      (spellings (info_spelling g.C.FixedBytes.spelled g.C.Signature.FixedBytes.spelled)
      (drop l.info-index l.infos))
      ≡ length (spellings (info_spelling g.C.FixedBytes.spelled g.C.Signature.FixedBytes.spelled) l.infos);
  value : AllByRecursion IsInfo (drop l.info-index l.infos) → AllByRecursion IsInfo l.infos;
  bound : l.size ≤ l.info-index * 2 ^ 18;
}
