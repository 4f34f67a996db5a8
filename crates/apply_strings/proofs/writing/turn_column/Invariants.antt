-- `turn_column` meets its contract. Invariant: storing the weights that are left, the last first, completes the table. Assumes nothing.
use mathlib.Core.List.{reverse}
use lib.ListN.{length}
use Rattle.std.specs.Slice.Iter.{iter_rest}
use Rattle.lists.specs.Fill.{fill}
use Rattle.lists.proofs.Storing.{Storing}
use Rattle.apply_strings.proofs.writing.turn_column.Given as goal

abbrev pub invariant-loop-i : goal.invariant-loop-i
invariant-loop-i l = Storing (length l.initial.to) l.to (fill (reverse l.from) l.initial.to) (reverse (iter_rest l.i-iterator.iter.iter)) l.i-iterator.count
