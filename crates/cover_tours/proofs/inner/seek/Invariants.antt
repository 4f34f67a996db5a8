-- `seek` meets its contract. The loop's invariant: from `start` to e the halves in the rows are used.
use Rattle.cover_tours.specs.Layout.{tables}
use Rattle.cover_tours.specs.Rows.{Passed}
use Rattle.cover_tours.proofs.inner.seek.Given as goal

abbrev pub invariant-loop-e : goal.invariant-loop-e
invariant-loop-e l = Passed (tables l.m l.work).rows (tables l.m l.work).used l.start l.e
