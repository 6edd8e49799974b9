use Rattle.std.proofs.Common.{◌≤◌, length, arith, sym, ◌∙◌, ◌⊎◌, inl, inr}
use Rattle.p2p_discovery.proofs.Unions.{union, less_met, equal_met, greater_met, met_all, union_is, union_size}
use Rattle.p2p_discovery.proofs.sizing.union_size.Goals as goal
use Rattle.p2p_discovery.proofs.sizing.union_size.Goals.{then-loop-i-test+else-j-secondary, else-loop-i-test}

pub loop-i-preserved-in-Less : goal.loop-i-preserved-in-Less
loop-i-preserved-in-Less g c =
    let m = less_met g.met.P.Ord.total g.met.P.PublicKey.exact c.args.primary.now c.args.secondary.now c.loop-i.i
    c.loop-i.j c.index-primary-i.result c.index-secondary-j.result (omega arith) c.if-j-secondary.true
    c.index-primary-i.is c.index-secondary-j.is c.requires.primary c.requires.secondary
    (sym c.cmp.ensures ∙ c.in-Less.is) in
    record { within = omega arith; within_too = omega arith; fits = omega arith; met = omega (arith, m, c.loop-i.invariant.met) }

pub loop-i-preserved-in-Equal : goal.loop-i-preserved-in-Equal
loop-i-preserved-in-Equal g c =
    let m = equal_met g.met.P.Ord.total g.met.P.PublicKey.exact c.args.primary.now c.args.secondary.now c.loop-i.i
    c.loop-i.j c.index-primary-i.result c.index-secondary-j.result (omega arith) c.if-j-secondary.true
    c.index-primary-i.is c.index-secondary-j.is c.requires.primary c.requires.secondary
    (sym c.cmp.ensures ∙ c.in-Equal.is) in
    record { within = omega arith; within_too = omega arith; fits = omega arith; met = omega (arith, m, c.loop-i.invariant.met) }

pub loop-i-preserved : goal.loop-i-preserved
loop-i-preserved g c =
    let m = greater_met g.met.P.Ord.total g.met.P.PublicKey.exact c.args.primary.now c.args.secondary.now
    c.loop-i.i c.loop-i.j c.index-primary-i.result c.index-secondary-j.result (omega arith)
    c.if-j-secondary.true c.index-primary-i.is c.index-secondary-j.is c.requires.primary
    c.requires.secondary (sym c.cmp.ensures ∙ c.in-Greater.is) in
    record { within = omega arith; within_too = omega arith; fits = omega arith; met = omega (arith, m, c.loop-i.invariant.met) }

pub overflow_sub-result : goal.overflow_sub-result
overflow_sub-result g c =
    let ended : (length c.args.primary.now ≤ c.loop-i.i) ⊎ (length c.args.secondary.now ≤ c.loop-i.j) =
    elim c.loop-i-test.branch [
      | then-loop-i-test+else-j-secondary w ↦ inr w.if-j-secondary.false
      | else-loop-i-test w ↦ inl
          w.loop-i-test.false
    ] in
    (met_all g.met.P.Ord.total g.met.P.PublicKey.exact c.args.primary.now c.args.secondary.now c.loop-i.i
    c.loop-i.j c.loop-i.both ended c.loop-i.invariant.met).1

pub overflow_add-result : goal.overflow_add-result
overflow_add-result g c =
    let ended : (length c.args.primary.now ≤ c.loop-i.i) ⊎ (length c.args.secondary.now ≤ c.loop-i.j) =
    elim c.loop-i-test.branch [
      | then-loop-i-test+else-j-secondary w ↦ inr w.if-j-secondary.false
      | else-loop-i-test w ↦ inl
          w.loop-i-test.false
    ] in
    let m = (met_all g.met.P.Ord.total g.met.P.PublicKey.exact c.args.primary.now c.args.secondary.now c.loop-i.i
    c.loop-i.j c.loop-i.both ended c.loop-i.invariant.met).0 in
    let e = union_size g.met.P.Ord.total g.met.P.PublicKey.exact c.args.primary.now c.args.secondary.now
    c.loop-i.both c.requires.primary c.requires.secondary m in
    omega (
      arith,
      e,
      c.requires.fits (union g.P.Ord.cmp c.args.primary.now c.args.secondary.now)
          (union_is g.met.P.Ord.total g.met.P.PublicKey.exact c.args.primary.now c.args.secondary.now
          c.requires.primary),
    )

pub returns : goal.returns
returns g c =
    let ended : (length c.args.primary.now ≤ c.loop-i.i) ⊎ (length c.args.secondary.now ≤ c.loop-i.j) =
    elim c.loop-i-test.branch [
      | then-loop-i-test+else-j-secondary w ↦ inr w.if-j-secondary.false
      | else-loop-i-test w ↦ inl
          w.loop-i-test.false
    ] in
    let m = (met_all g.met.P.Ord.total g.met.P.PublicKey.exact c.args.primary.now c.args.secondary.now c.loop-i.i
    c.loop-i.j c.loop-i.both ended c.loop-i.invariant.met).0 in (
      union g.P.Ord.cmp c.args.primary.now c.args.secondary.now,
      union_is g.met.P.Ord.total g.met.P.PublicKey.exact c.args.primary.now c.args.secondary.now c.requires.primary,
      union_size g.met.P.Ord.total g.met.P.PublicKey.exact c.args.primary.now c.args.secondary.now c.loop-i.both c.requires.primary c.requires.secondary m,
    )
