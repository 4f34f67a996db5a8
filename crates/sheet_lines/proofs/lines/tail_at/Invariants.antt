-- `tail_at` meets its contract. Invariant: the rest of the line with the weights still wanted answers for the whole. Assumes nothing.
use Prim.Native.Nat.{◌-◌}
use mathlib.Core.Path.{◌≡◌}
use Rattle.sheet_lines.specs.Cursor.{tail_at}
use Rattle.sheet_lines.proofs.lines.tail_at.Given as goal

abbrev pub invariant-loop : goal.invariant-loop
invariant-loop l = tail_at l.s l.at l.n ≡ tail_at l.s l.i (l.n - l.counter)
