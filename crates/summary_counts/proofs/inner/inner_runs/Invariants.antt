-- `inner_runs` meets its contract. Invariant: the runs inside the strings so far and inside the rest are all. Assumes nothing.
use Rattle.summary_counts.proofs.Inside.{Adding}
use Rattle.summary_counts.proofs.inner.inner_runs.Given as goal

abbrev pub invariant-loop-end : goal.invariant-loop-end
invariant-loop-end l = Adding l.k l.ends l.weights l.before l.passed l.r l.end-index
