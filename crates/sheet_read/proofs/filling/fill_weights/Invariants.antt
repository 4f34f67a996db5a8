-- `fill_weights` meets its contract. Invariant: the weights stored and those left are all, and the rest of the line with as many weights as are left answers
-- for the whole. Assumes nothing.
use Prim.Native.Nat.{◌-◌}
use mathlib.Core.Path.{◌≡◌}
use mathlib.Core.Bool.{true}
use mathlib.Core.List.{◌++◌}
use lib.ListN.{length, take}
use Rattle.sheet_lines.specs.Cursor.{tail_at, fine, weights_at}
use Rattle.sheet_read.proofs.filling.fill_weights.Given as goal

abbrev pub invariant-loop-t : goal.invariant-loop-t
invariant-loop-t l = record {
  size : length l.initial.t-items ≡ l.n;
  fine_rest : fine (tail_at l.s l.i (l.n - l.t-index)) ≡ true;
  stores : take l.t-index l.t-items ++ weights_at l.s l.i ≡ weights_at l.s l.at;
  same_tail : tail_at l.s l.at l.n ≡ tail_at l.s l.i (l.n - l.t-index);
}
