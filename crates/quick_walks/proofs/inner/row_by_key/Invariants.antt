-- `row_by_key` meets its contract. Invariant: the walk of the stretches that are left gives the answer. Assumes nothing.
use Prim.Native.Nat.{◌+◌}
use lib.ListN.{length, get_or}
use Rattle.words.specs.Turned.{spelled}
use Rattle.index_stretches.specs.Stretches.{walk}
use Rattle.index_stretches.specs.Index.{row_of}
use Rattle.index_stretches.specs.Lent.{index_in}
use Rattle.quick_walks.specs.Walk.{is_word, seek}
use Rattle.quick_walks.proofs.RowWalks.{Walking}
use Rattle.quick_walks.proofs.inner.row_by_key.Given as goal

abbrev pub invariant-loop-i : goal.invariant-loop-i
invariant-loop-i l =
    Walking (is_word l.k l.letters (spelled l.k l.w)) l.k (length l.letters) (index_in l.index)
    (seek (is_word l.k l.letters (spelled l.k l.w)) l.compared (walk (row_of (index_in l.index) l.v)))
    (get_or l.index.before.now (l.v + 1) 0) l.count l.i
