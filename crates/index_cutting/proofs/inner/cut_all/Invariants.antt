-- `cut_all` meets its contract. Invariant: the stretches of the strings that have passed are stored, and h is the handle of the next k-mer. Assumes nothing.
use lib.ListN.{length}
use Rattle.index_minimizers.specs.Minimizer.{minimizer_at}
use Rattle.index_cutting.proofs.Cutting.{Passed}
use Rattle.index_cutting.proofs.inner.cut_all.Given as goal

abbrev pub invariant-loop-end : goal.invariant-loop-end
invariant-loop-end l =
    Passed (minimizer_at l.given.k l.p l.given.letters.now) l.given.k (length l.given.letters.now) l.given.ends.now
    l.initial.firsts l.firsts l.initial.positions l.positions l.initial.numbers l.numbers l.initial.keys l.keys l.at l.h l.o l.end-index
