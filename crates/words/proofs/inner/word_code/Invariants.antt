-- `word_code` meets its contract. Invariant: c is the code of the letters so far. Assumes nothing.
use mathlib.Core.Path.{◌≡◌}
use mathlib.Core.List.{map}
use lib.ListN.{take}
use Rattle.alphabet.specs.Letter.{two_bits}
use Rattle.words.specs.Word.{code}
use Rattle.words.proofs.inner.word_code.Given as goal

abbrev pub invariant-loop-b : goal.invariant-loop-b
invariant-loop-b l = l.c ≡ code (map two_bits (take l.b-index l.word))
