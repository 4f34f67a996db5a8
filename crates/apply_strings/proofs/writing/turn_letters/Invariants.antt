-- `turn_letters` meets its contract. Invariant: storing the pairs of the letters that are left, the last first, completes the table. Assumes nothing.
use mathlib.Core.Path.{◌≡◌}
use mathlib.Core.Bool.{true}
use lib.ListN.{length}
use Rattle.std.specs.Slice.Iter.{iter_rest}
use Rattle.lists.specs.Every.{All}
use Rattle.lists.specs.Fill.{fill}
use Rattle.lists.proofs.Storing.{Storing}
use Rattle.alphabet.specs.Letter.{is_letter}
use Rattle.apply_strings.specs.Turned.{turn_letters}
use Rattle.apply_strings.proofs.writing.turn_letters.Given as goal

abbrev pub invariant-loop-i : goal.invariant-loop-i
invariant-loop-i l =
    let rest = iter_rest l.i-iterator.iter.iter in
    record {
      good : All (λ b. is_letter b ≡ true) rest;
      storing : Storing (length l.initial.to) l.to (fill (turn_letters l.from) l.initial.to) (turn_letters rest) l.i-iterator.count;
    }
