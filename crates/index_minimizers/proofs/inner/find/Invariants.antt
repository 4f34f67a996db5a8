-- `find` meets its contract. The loop's invariant: `best` is the least of the last j + 1 pieces.
use Rattle.std.proofs.Common.{◌≡◌}
use Rattle.index_minimizers.specs.Least.{least}
use Rattle.index_minimizers.proofs.inner.find.Given as goal

abbrev pub invariant-loop-j : goal.invariant-loop-j
invariant-loop-j l = l.best ≡ least l.p l.j l.c
