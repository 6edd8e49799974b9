use Rattle.std.proofs.Common.{◌+◌, ◌-◌, length, vec_capacity, ◌∙◌, arith, subst}
use Rattle.std.proofs.lemmas.Result.{err_from_is_err_and}
use Rattle.p2p_discovery.specs.Reading.{IsBytes}
use Rattle.p2p_discovery.specs.Laws.Fields.{IsBytes-after}
use Rattle.p2p_discovery.specs.Info.{info_at, info_spelling}
use Rattle.p2p_discovery.specs.Laws.Info.{lawful_info}
use Rattle.p2p_discovery.specs.Lists.{items_at}
use Rattle.p2p_discovery.proofs.ListReads.{goes_on, ends, is_done, begins, no_memory, is_room, used_more}
use Rattle.p2p_discovery.proofs.discovery.info_list.read_infos.Goals as goal

pub returns-in_err-infos : goal.returns-in_err-infos
returns-in_err-infos g c =
    let p = err_from_is_err_and c.from_residual.result c.from_residual.ensures.1 in
    rw (p.1, p.2)
    (record {
      room = tt;
      exact = no_memory c.args.least (info_at g.C.FixedBytes.SIZE g.C.FixedBytes.value g.C.Signature.FixedBytes.SIZE g.C.Signature.FixedBytes.value) c.args.count
          c.args.reader.now c.requires.some (rw c.rest.ensures.rest at c.in_err-infos.ensures.err);
    })

pub loop-init : goal.loop-init
loop-init g c = record {
  goes = rw c.in_ok-infos.ensures.empty.0 (begins c.args.least (info_at g.C.FixedBytes.SIZE g.C.FixedBytes.value g.C.Signature.FixedBytes.SIZE g.C.Signature.FixedBytes.value) c.args.count (c.args.count - 0) c.args.reader.now (omega arith));
  bytes = c.rest.ensures.bytes;
  len = c.in_ok-infos.ensures.empty.1;
  used = omega arith;
  capacity = rw c.rest.ensures.rest at c.in_ok-infos.ensures.exact;
  most = rw c.rest.ensures.rest at c.in_ok-infos.ensures.room;
}

pub returns-in_err-push_info : goal.returns-in_err-push_info
returns-in_err-push_info g c =
    let p = err_from_is_err_and c.from_residual-in_err-push_info.result c.from_residual-in_err-push_info.ensures.1 in
    rw (p.1, p.2)
    (record {
      room = tt;
      exact =
          ends c.in_err-push_info.field-0.0 (info_at g.C.FixedBytes.SIZE g.C.FixedBytes.value g.C.Signature.FixedBytes.SIZE g.C.Signature.FixedBytes.value) c.loop.infos.items (c.args.count - c.loop.counter)
          (c.args.count - (c.loop.counter + 1)) c.loop.reader
          (items_at c.args.least (info_at g.C.FixedBytes.SIZE g.C.FixedBytes.value g.C.Signature.FixedBytes.SIZE g.C.Signature.FixedBytes.value) c.args.count c.args.reader.now) (omega arith)
          c.in_err-push_info.ensures.fault c.loop.invariant.goes;
    })

pub push_info-requires : goal.push_info-requires
push_info-requires g c = record {
  room = λ info rest o.
      let t = (lawful_info g.met.C.FixedBytes.fixed g.met.C.Signature.FixedBytes.fixed).takes c.loop.reader info rest c.loop.invariant.bytes o in
      let le = c.requires.least info t.0.0 in
      let u = used_more c.args.least c.loop.counter (length c.args.reader.now) c.loop.reader
      (info_spelling g.C.FixedBytes.spelled g.C.Signature.FixedBytes.spelled info) rest t.1 le c.loop.invariant.used in
      let r = is_room c.args.least c.loop.counter c.args.count (length c.args.reader.now) (vec_capacity c.loop.infos)
      c.requires.some c.loop-test.true (omega arith) c.loop.invariant.capacity in
      omega (arith, r, c.loop.invariant.len);
}

pub loop-preserved : goal.loop-preserved
loop-preserved g c =
    let p = c.in_ok-push_info.ensures.pushed in
    let t = (lawful_info g.met.C.FixedBytes.fixed g.met.C.Signature.FixedBytes.fixed).takes c.loop.reader p.0 c.push_info.new.reader c.loop.invariant.bytes p.1 in
    let le = c.requires.least p.0 t.0.0 in
    record {
      goes = rw p.2
          (goes_on (info_at g.C.FixedBytes.SIZE g.C.FixedBytes.value g.C.Signature.FixedBytes.SIZE g.C.Signature.FixedBytes.value) c.loop.infos.items (c.args.count - c.loop.counter)
          (c.args.count - (c.loop.counter + 1)) c.loop.reader
          (items_at c.args.least (info_at g.C.FixedBytes.SIZE g.C.FixedBytes.value g.C.Signature.FixedBytes.SIZE g.C.Signature.FixedBytes.value) c.args.count c.args.reader.now) p.0
          c.push_info.new.reader (omega arith) p.1 c.loop.invariant.goes);
      bytes = IsBytes-after (info_spelling g.C.FixedBytes.spelled g.C.Signature.FixedBytes.spelled p.0) c.push_info.new.reader (subst IsBytes t.1 c.loop.invariant.bytes);
      len = omega (arith, c.in_ok-push_info.ensures.len);
      used = used_more c.args.least c.loop.counter (length c.args.reader.now) c.loop.reader
          (info_spelling g.C.FixedBytes.spelled g.C.Signature.FixedBytes.spelled p.0) c.push_info.new.reader t.1 le c.loop.invariant.used;
      capacity = c.in_ok-push_info.ensures.capacity ∙ c.loop.invariant.capacity;
      most = rw c.in_ok-push_info.ensures.capacity c.loop.invariant.most;
    }

pub returns : goal.returns
returns g c =
    record {
      room = c.loop.invariant.most;
      exact =
          is_done (info_at g.C.FixedBytes.SIZE g.C.FixedBytes.value g.C.Signature.FixedBytes.SIZE g.C.Signature.FixedBytes.value) c.loop.infos.items (c.args.count - c.loop.counter) c.loop.reader
          (items_at c.args.least (info_at g.C.FixedBytes.SIZE g.C.FixedBytes.value g.C.Signature.FixedBytes.SIZE g.C.Signature.FixedBytes.value) c.args.count c.args.reader.now) (omega arith)
          c.loop.invariant.goes;
    }
