-- `first_short` meets its contract. Invariant: the first short string from string i on is the first of all. Assumes nothing.
use mathlib.Core.Path.{◌≡◌}
use Prim.Native.Nat.{◌<◌}
use lib.ListN.{drop}
use Rattle.collection_faults.specs.Faults.{first_short}
use Rattle.collection_faults.proofs.inner.first_short.Given as goal

abbrev pub invariant-loop-i : goal.invariant-loop-i
invariant-loop-i l = record {
  first : first_short l.k 0 0 l.ends ≡ first_short l.k l.i l.before (drop l.i l.ends);
  small : l.before < 4294967296;
}
