-- `walk_stretch` meets its contract. Invariant: c ends in the k - 1 bytes before the next k-mer, and the walk of the k-mers that are left gives the answer.
-- Assumes nothing.
use mathlib.Core.Path.{◌≡◌}
use Prim.Native.Nat.{◌+◌}
use Rattle.words.specs.Turned.{spelled}
use Rattle.index_stretches.specs.Stretches.{stretch, kmers_of}
use Rattle.quick_walks.specs.Walk.{is_word, seek}
use Rattle.words.proofs.Along.{Rolls}
use Rattle.quick_walks.proofs.Walks.{left}
use Rattle.quick_walks.proofs.inner.walk_stretch.Given as goal

abbrev pub invariant-loop-i : goal.invariant-loop-i
invariant-loop-i l =
    let test = is_word l.k l.letters (spelled l.k l.w) in
    record {
      rolls : Rolls l.k l.letters (l.at + l.i) l.c;
      rest : seek test l.compared (kmers_of (stretch l.first l.at l.number)) ≡ left test l.compared l.first l.at l.number l.i;
    }
