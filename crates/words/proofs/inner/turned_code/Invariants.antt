-- `turned_code` meets its contract. Both loops keep one state: what is turned so far, and what the rest makes of it. Assumes nothing.
use mathlib.Core.Path.{◌≡◌}
use mathlib.Core.Bool.{true}
use Prim.Native.Nat.{◌-◌, ◌*◌, ◌%◌}
use Rattle.words.specs.Turned.{turns_four}
use Rattle.words.proofs.Turning.{Turning}
use Rattle.words.proofs.inner.turned_code.Given as goal

abbrev pub invariant-loop : goal.invariant-loop
invariant-loop l = record { table : turns_four l.table ≡ true; state : Turning l.k l.c (l.k - 4 * l.counter) l.rest l.turned }

abbrev pub invariant-loop-2 : goal.invariant-loop-2
invariant-loop-2 l = Turning l.k l.c (l.k % 4 - l.counter) l.rest l.turned
