-- `fill_runs` meets its contract. Invariant: storing the runs that start later from `at` on completes both tables. Assumes nothing.
use mathlib.Core.List.{map}
use Prim.Native.Nat.{◌+◌, ◌≤◌}
use lib.ListN.{length, drop}
use Rattle.lists.specs.Fill.{put}
use Rattle.lists.proofs.Storing.{Storing}
use Rattle.runs.specs.Runs.{later_runs}
use Rattle.runs.proofs.inner.fill_runs.Given as goal

abbrev pub invariant-loop-i : goal.invariant-loop-i
invariant-loop-i l = record {
  low : l.at ≤ l.i + 1;
  weights : Storing (length l.initial.run_weights) l.run_weights (put 1 (map (λ r. r.0) (later_runs 1 l.initial.w l.rest)) l.initial.run_weights)
      (map (λ r. r.0) (later_runs (l.i + 1) l.w (drop l.i l.rest))) l.at;
  firsts : Storing (length l.initial.run_firsts) l.run_firsts (put 1 (map (λ r. r.1) (later_runs 1 l.initial.w l.rest)) l.initial.run_firsts)
      (map (λ r. r.1) (later_runs (l.i + 1) l.w (drop l.i l.rest))) l.at;
}
