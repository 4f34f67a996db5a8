-- `put_weights` meets its contract. Invariant: the weights left, stored from here on, bring the table to its target. Assumes nothing.
use Prim.Native.Nat.{◌+◌}
use lib.ListN.{length}
use Rattle.lists.specs.Fill.{put}
use Rattle.sheet.specs.Text.{weights_text}
use Rattle.sheet_write.proofs.Line.{Weighing}
use Rattle.sheet_write.proofs.numbers.put_weights.Given as goal

abbrev pub invariant-loop-x : goal.invariant-loop-x
invariant-loop-x l =
    Weighing (length l.initial.out) l.x-items (l.at + length (weights_text l.x-items)) (put l.at (weights_text l.x-items) l.initial.out) l.out l.x-index l.p
