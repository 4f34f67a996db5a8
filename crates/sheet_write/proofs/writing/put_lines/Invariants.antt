-- `put_lines` meets its contract. Invariant: the lines of the strings left, stored from here on, bring the table to its target. Assumes nothing.
use Prim.Native.Nat.{◌+◌}
use lib.ListN.{length}
use Rattle.lists.specs.Fill.{put}
use Rattle.collection.specs.Lent.{collection_in}
use Rattle.collection.specs.Strings.{strings}
use Rattle.sheet.specs.Text.{lines_text}
use Rattle.sheet_write.proofs.Lines.{Lining}
use Rattle.sheet_write.proofs.writing.put_lines.Given as goal

abbrev pub invariant-loop-end : goal.invariant-loop-end
invariant-loop-end l =
    Lining (collection_in l.given) (length l.initial.out) (l.at + length (lines_text (strings (collection_in l.given))))
    (put l.at (lines_text (strings (collection_in l.given))) l.initial.out) l.out l.before l.w l.p l.end-index
