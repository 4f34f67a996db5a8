-- `fill_lines` meets its contract. Invariant: the strings left, stored from here on, bring the three tables to their targets. In the answers `le` is
-- where the letters' end was found. Assumes nothing.
use Prim.Native.Nat.{◌-◌}
use lib.ListN.{length}
use Rattle.lists.specs.Fill.{fill}
use Rattle.collection.specs.Strings.{letters_in, weights_in, ends_in}
use Rattle.sheet_lines.specs.Cursor.{strings_at}
use Rattle.sheet_read.proofs.Filled.{State}
use Rattle.sheet_read.proofs.filling.fill_lines.Given as goal

abbrev pub invariant-loop-i : goal.invariant-loop-i
invariant-loop-i l =
    State l.k l.s (length l.initial.letters) (length l.initial.ends) (length l.initial.weights) (fill (letters_in (strings_at l.s l.at)) l.initial.letters)
    (fill (ends_in 0 (strings_at l.s l.at)) l.initial.ends)
    (fill (weights_in (strings_at l.s l.at)) l.initial.weights) l.i l.n l.m l.w l.letters l.ends l.weights

abbrev pub decreases-loop-i : goal.decreases-loop-i
decreases-loop-i l = length l.s - l.i
