-- `count_lines` meets its contract. Invariant: the count of the lines left, after what is counted, is the count of all. Assumes nothing.
use Prim.Native.Nat.{◌-◌}
use lib.ListN.{length}
use Rattle.sheet_lines.proofs.Counts.{Counting}
use Rattle.sheet_lines.proofs.inner.count_lines.Given as goal

abbrev pub invariant-loop-i : goal.invariant-loop-i
invariant-loop-i l = Counting l.k l.s l.at l.n l.m l.w l.i

abbrev pub decreases-loop-i : goal.decreases-loop-i
decreases-loop-i l = length l.s - l.i
