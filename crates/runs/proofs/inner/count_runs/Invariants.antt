-- `count_runs` meets its contract. Invariant: the runs counted and those that start later are all. Assumes nothing.
use mathlib.Core.Path.{◌≡◌}
use Prim.Native.Nat.{◌+◌, ◌≤◌}
use lib.ListN.{length, drop}
use Rattle.runs.specs.Runs.{later_runs, run_count}
use Rattle.runs.proofs.inner.count_runs.Given as goal

abbrev pub invariant-loop-v : goal.invariant-loop-v
invariant-loop-v l = record {
  low : l.n ≤ l.v-index + 1;
  counted : l.n + length (later_runs (l.v-index + 1) l.w (drop l.v-index l.rest)) ≡ run_count l.weights;
}
