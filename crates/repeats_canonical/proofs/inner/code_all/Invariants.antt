-- `code_all` meets its contract. Invariant: the codes of the k-mers of the strings that have passed are stored. Assumes nothing.
use lib.ListN.{length}
use Rattle.collection.specs.Lent.{spelling_in}
use Rattle.collection.proofs.Kmers.{StringsLeft}
use Rattle.repeats_canonical.proofs.Stringwise.{Coding}
use Rattle.repeats_canonical.proofs.inner.code_all.Given as goal

abbrev pub invariant-loop-end : goal.invariant-loop-end
invariant-loop-end l =
    let g = l.given in
    StringsLeft g.k (length g.letters.now) g.ends.now l.end-index l.at l.passed
    × Coding (spelling_in g) l.end-index l.at l.passed l.hi l.lo
