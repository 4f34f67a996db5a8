-- `letter_code` meets its contract: it computes `two_bits`, which is below 4. Assumes nothing.
use mathlib.Core.Path.{refl}
use native.Mathlib.Nat.{lt_of_lt_of_le}
use lib.Dec.{lit≤}
use Rattle.alphabet.specs.Letter.{two_bits}
use Rattle.alphabet.proofs.Letters.{bits_lt}
use Rattle.alphabet.proofs.letter_code.Goals as goal

pub overflow_cast-result : goal.overflow_cast-result
unfolding two_bits
overflow_cast-result c = record { fits = lt_of_lt_of_le (bits_lt c.args.b) (lit≤ tt) }

pub returns : goal.returns
unfolding two_bits
returns c = refl
