-- `copy_first` meets its contract. Invariant: storing the entries that are left completes the table. Assumes nothing.
use lib.ListN.{length, drop}
use Rattle.lists.specs.Fill.{fill}
use Rattle.lists.proofs.Storing.{Storing}
use Rattle.lists.proofs.inner.copy_first.Given as goal

abbrev pub invariant-loop-i : goal.invariant-loop-i
invariant-loop-i g l = Storing (length l.initial.to) l.to (fill l.from l.initial.to) (drop l.i l.from) l.i
