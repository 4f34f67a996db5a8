-- `meets` meets its contract. Invariant: `good` is true if the key's letters stand there. Assumes nothing.
use mathlib.Core.Path.{◌≡◌}
use mathlib.Core.Bool.{true}
use Rattle.quick_walks.specs.Keys.{Meets}
use Rattle.quick_walks.proofs.inner.meets.Given as goal

abbrev pub invariant-loop-t : goal.invariant-loop-t
invariant-loop-t l = Meets l.places l.key l.letters l.a → l.good ≡ true
