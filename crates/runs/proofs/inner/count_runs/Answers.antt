-- `count_runs` meets its contract. Invariant: the runs counted and those that start later are all. Assumes nothing.
use mathlib.Core.Path.{refl, sym, ap}
use Prim.Native.Nat.{◌+◌}
use native.Mathlib.Omega.{arith}
use lib.ListN.{length}
use Rattle.runs.proofs.Loops.{later_same, later_new, later_end, runs_first, runs_none}
use Rattle.runs.proofs.inner.count_runs.Goals as goal
use Rattle.runs.proofs.inner.count_runs.Goals.{then-v-w, else-v-w}

pub returns-in_default : goal.returns-in_default
returns-in_default c = sym (ap length (runs_none _ c.in_default.ensures.cases))

pub loop-v-init : goal.loop-v-init
loop-v-init c = record { low = omega arith; counted = omega (arith, ap length (runs_first _ _ _ c.in-Some.ensures.cases.0)) }

pub loop-v-preserved : goal.loop-v-preserved
loop-v-preserved c =
    let rest = c.in-Some.rest.now in
    let l = c.loop-v in
    let here = l.invariant.counted in
    elim c.if-v-w.branch [
      | then-v-w w ↦ rw (w.n-is, w.w-is) (record {
        low = omega arith;
        counted = omega (arith, here, ap length (later_new (l.v-index + 1) l.w rest l.v-index c.loop-v-test.true w.if-v-w.true _ refl));
      })
      | else-v-w w ↦ rw (w.n-is, w.w-is) (record {
        low = omega arith;
        counted = omega (arith, here, ap length (later_same (l.v-index + 1) l.w rest l.v-index c.loop-v-test.true w.if-v-w.false));
      })
    ]

pub returns : goal.returns
returns c =
    let l = c.loop-v in
    omega (arith, l.invariant.counted, ap length (later_end (l.v-index + 1) l.w c.in-Some.rest.now l.v-index c.loop-v-test.false))
