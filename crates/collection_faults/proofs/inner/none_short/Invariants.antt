-- `none_short` meets its contract. Invariant: what was seen and the test of the ends that are left together are the test of all. Assumes nothing.
use mathlib.Core.Path.{◌≡◌}
use mathlib.Core.Bool.{◌&&◌}
use Prim.Native.Nat.{◌<◌}
use lib.Dec.{eqb}
use Rattle.collection_faults.specs.Faults.{first_short}
use Rattle.collection_faults.proofs.Finding.{none_short}
use Rattle.collection_faults.proofs.inner.none_short.Given as goal

abbrev pub invariant-loop-end : goal.invariant-loop-end
invariant-loop-end l = record {
  tested : eqb (first_short l.k 0 0 l.ends) 0 ≡ (l.good && none_short l.k l.before l.ends l.end-index);
  small : l.before < 4294967296;
}
