-- `row_fits` meets its contract. Invariant: the row fits exactly if `good` holds and each stretch from stretch i on fits. Assumes nothing.
use mathlib.Core.Path.{◌≡◌}
use mathlib.Core.Bool.{◌&&◌}
use Prim.Native.Nat.{◌+◌, ◌-◌}
use lib.ListN.{get_or}
use Rattle.lists.specs.Every.{every}
use Rattle.index_stretches.specs.Index.{entries, stretch_fits, row_fits}
use Rattle.index_stretches.specs.Lent.{index_in}
use Rattle.quick_walks.proofs.inner.row_fits.Given as goal

abbrev pub invariant-loop-i : goal.invariant-loop-i
invariant-loop-i l =
    let t = index_in l.index in
    row_fits l.k l.n t l.v ≡ (l.good && every (stretch_fits l.k l.n) (entries t l.i (get_or l.index.before.now (l.v + 1) 0 - l.i)))
