-- `count_string` meets its contract. Invariant: c and v are the code and the minimizer of the k-mer before, and `count` stretches have begun. Assumes nothing.
use Prim.Native.Nat.{◌+◌}
use Rattle.index_minimizers.specs.Minimizer.{minimizer_at}
use Rattle.index_cutting.proofs.Carried.{Carried}
use Rattle.index_cutting.proofs.Counting.{Counting}
use Rattle.index_cutting.proofs.inner.count_string.Given as goal

abbrev pub invariant-loop-i : goal.invariant-loop-i
invariant-loop-i l = Carried l.k l.p l.letters (l.a + l.i) l.c l.v × Counting (minimizer_at l.k l.p l.letters) l.a l.n l.count l.v l.i
