-- `inner_runs` meets its contract. Invariant: the runs inside the strings so far and inside the rest are all. Assumes nothing.
use mathlib.Core.Path.{refl}
use native.Mathlib.Omega.{arith}
use Rattle.collection.proofs.Strung.{string_here, weights_inside}
use Rattle.summary_counts.proofs.Inside.{adding, runs_inside, added, added_all}
use Rattle.summary_counts.proofs.inner.inner_runs.Goals as goal

pub loop-end-init : goal.loop-end-init
loop-end-init c = adding c.requires

pub overflow_add-to-in-loop-end : goal.overflow_add-to-in-loop-end
overflow_add-to-in-loop-end c = omega (arith, string_here c.loop-end.invariant.walk c.loop-end-test.true refl, c.requires.few_letters)

pub overflow_sub-to : goal.overflow_sub-to
overflow_sub-to c = omega (arith, string_here c.loop-end.invariant.walk c.loop-end-test.true refl)

pub slice_bounds-count_runs-end : goal.slice_bounds-count_runs-end
slice_bounds-count_runs-end c = omega (arith, weights_inside c.loop-end.invariant.walk c.loop-end-test.true refl)

pub overflow_add-r : goal.overflow_add-r
overflow_add-r c = omega (arith, runs_inside c.loop-end.invariant c.loop-end-test.true refl c.count_runs-r.ensures)

pub loop-end-preserved : goal.loop-end-preserved
loop-end-preserved c = added c.loop-end.invariant c.loop-end-test.true refl c.requires.ends_long.k_low c.count_runs-r.ensures

pub returns : goal.returns
returns c = added_all c.loop-end.invariant c.loop-end-test.false
