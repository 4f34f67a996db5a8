-- `cut_string` meets its contract. Invariant: c and v are the code and the minimizer of the k-mer before, and the stretches before the open one are stored.
-- Assumes nothing.
use Prim.Native.Nat.{◌+◌}
use Rattle.index_minimizers.specs.Minimizer.{minimizer_at}
use Rattle.index_cutting.proofs.Carried.{Carried}
use Rattle.index_cutting.proofs.Cutting.{Cutting}
use Rattle.index_cutting.proofs.inner.cut_string.Given as goal

abbrev pub invariant-loop-i : goal.invariant-loop-i
invariant-loop-i l =
    Carried l.k l.p l.letters (l.a + l.i) l.c l.v
    × Cutting (minimizer_at l.k l.p l.letters) l.h l.a l.n l.o l.initial.firsts l.firsts l.initial.positions l.positions l.initial.numbers l.numbers
    l.initial.keys l.keys l.v l.s l.to l.i
