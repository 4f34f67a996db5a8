-- `count_all` meets its contract. Invariant: the stretches of the strings that have passed are counted. Assumes nothing.
use lib.ListN.{length}
use Rattle.index_minimizers.specs.Minimizer.{minimizer_at}
use Rattle.index_cutting.proofs.Counting.{Tallied}
use Rattle.index_cutting.proofs.inner.count_all.Given as goal

abbrev pub invariant-loop-end : goal.invariant-loop-end
invariant-loop-end l = Tallied (minimizer_at l.given.k l.p l.given.letters.now) l.given.k (length l.given.letters.now) l.given.ends.now l.end-index l.at l.count
