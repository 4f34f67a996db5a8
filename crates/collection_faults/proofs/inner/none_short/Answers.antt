-- `none_short` meets its contract. Invariant: what was seen and the test of the ends that are left together are the test of all. Assumes nothing.
use native.Mathlib.Omega.{arith}
use Rattle.collection_faults.proofs.Finding.{none_short_next, none_short_end}
use Rattle.collection_faults.proofs.inner.none_short.Goals as goal

pub loop-end-preserved : goal.loop-end-preserved
loop-end-preserved c = record {
  tested =
      none_short_next c.args.k c.loop-end.before c.args.ends.now c.loop-end.end-index
      c.loop-end-test.true _ c.loop-end.good c.loop-end.invariant.tested;
  small = omega (arith, c.type_inv.ends c.loop-end.end-index);
}

pub returns : goal.returns
returns c =
    none_short_end c.args.k c.loop-end.before c.args.ends.now c.loop-end.end-index
    c.loop-end-test.false _ c.loop-end.good c.loop-end.invariant.tested
