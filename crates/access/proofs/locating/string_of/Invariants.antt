-- `string_of` meets its contract. Invariant: the string that is sought is one of low to high. Assumes nothing.
use Prim.Native.Nat.{◌-◌}
use Rattle.access.proofs.Located.{Halving}
use Rattle.access.proofs.locating.string_of.Given as goal

abbrev pub invariant-loop-low : goal.invariant-loop-low
invariant-loop-low l = Halving l.k l.ends l.handle l.low l.high

abbrev pub decreases-loop-low : goal.decreases-loop-low
decreases-loop-low l = l.high - l.low
