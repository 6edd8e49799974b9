use Rattle.p2p_discovery.specs.declared.discovery.Info.{Info}
use Rattle.p2p_discovery.proofs.InfoReads.{info_is}
use Rattle.p2p_discovery.proofs.discovery.info_list.push_info.Goals as goal

pub push_reserved-requires : goal.push_reserved-requires
push_reserved-requires g c =
    let i : Info g.row.C.Denot g.row.C-Signature.Denot = record {
      ingress = c.in_ok-ingress.ingress;
      timestamp = c.in_ok-timestamp.timestamp;
      public_key = c.in-Some.public_key;
      signature = c.in-Some-read_fixed.signature;
    } in
    c.requires.room i c.counted-2.new.self
    (info_is g.C.FixedBytes.SIZE g.C.FixedBytes.value g.C.Signature.FixedBytes.SIZE g.C.Signature.FixedBytes.value
    c.args.reader.now i c.read.new.reader c.read-2.new.reader c.in_ok-counted.field-0.now c.counted.new.self
    c.in_ok-counted-2.field-0.now c.counted-2.new.self c.in_ok-ingress.ensures c.in_ok-timestamp.ensures
    (rw c.SIZE.ensures at c.in_ok-counted.ensures.exact) c.in-Some.ensures
    (rw c.SIZE-2.ensures at c.in_ok-counted-2.ensures.exact) c.in-Some-read_fixed.ensures)

pub returns-clause-pushed : goal.returns-clause-pushed
returns-clause-pushed g c =
    let i : Info g.row.C.Denot g.row.C-Signature.Denot = record {
      ingress = c.in_ok-ingress.ingress;
      timestamp = c.in_ok-timestamp.timestamp;
      public_key = c.in-Some.public_key;
      signature = c.in-Some-read_fixed.signature;
    } in (
      i,
      info_is g.C.FixedBytes.SIZE g.C.FixedBytes.value g.C.Signature.FixedBytes.SIZE g.C.Signature.FixedBytes.value
          c.args.reader.now i c.read.new.reader c.read-2.new.reader c.in_ok-counted.field-0.now c.counted.new.self
          c.in_ok-counted-2.field-0.now c.counted-2.new.self c.in_ok-ingress.ensures c.in_ok-timestamp.ensures
          (rw c.SIZE.ensures at c.in_ok-counted.ensures.exact) c.in-Some.ensures
          (rw c.SIZE-2.ensures at c.in_ok-counted-2.ensures.exact) c.in-Some-read_fixed.ensures,
      c.push_reserved.ensures.items,
    )
