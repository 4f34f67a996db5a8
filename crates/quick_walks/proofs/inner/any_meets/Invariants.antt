-- `any_meets` meets its contract. Invariant: `any` is true if the key's letters stand from one of the i positions passed. Assumes nothing.
use Rattle.quick_walks.specs.Keys.{Finds}
use Rattle.quick_walks.proofs.inner.any_meets.Given as goal

abbrev pub invariant-loop-i : goal.invariant-loop-i
invariant-loop-i l = Finds l.places l.key l.letters l.a l.i l.any
