-- `least_second` meets its contract. Invariant: `least` is the least second of the places that have passed. Assumes nothing.
use Rattle.std.proofs.Common.{◌≡◌, ◌+◌, length, drop}
use Rattle.std.specs.Slice.Iter.{windows_rest, windows_size}
use Rattle.sorting.specs.Keys.{code_at}
use Rattle.repeats.specs.Order.{Least}
use Rattle.repeats.proofs.inner.least_second.Given as goal

abbrev pub invariant-loop-pair : goal.invariant-loop-pair
invariant-loop-pair l = record {
  size : windows_size l.pair-iterator ≡ 2;
  rest : windows_rest l.pair-iterator ≡ drop (length l.yielded) l.ids;
  least : Least (code_at l.hi l.lo) (length l.hi) l.ids (length l.yielded + 1) l.least;
}
