-- `all_letters` meets its contract. Invariant: the first bytes were tested. Assumes nothing.
use Rattle.lists.proofs.Every.{Tested}
use Rattle.alphabet.specs.Letter.{is_letter}
use Rattle.alphabet.proofs.all_letters.Given as goal

abbrev pub invariant-loop-b : goal.invariant-loop-b
invariant-loop-b l = Tested is_letter l.bytes l.good l.b-index
