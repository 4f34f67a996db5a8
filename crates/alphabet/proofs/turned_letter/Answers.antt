-- `turned_letter` meets its contract: a letter's two bits are below 4. Assumes nothing.
use mathlib.Core.Path.{ap, ◌∙◌}
use Prim.Native.Nat.{ℕ, ◌-◌}
use native.Mathlib.Omega.{arith}
use Rattle.alphabet.specs.Letter.{capital}
use Rattle.alphabet.proofs.Letters.{bits_lt}
use Rattle.alphabet.proofs.turned_letter.Goals as goal

pub overflow_sub-letter_code : goal.overflow_sub-letter_code
overflow_sub-letter_code c = omega (arith, c.letter_code.ensures, bits_lt c.args.b)

pub returns : goal.returns
returns c = c.capital_of.ensures ∙ ap (λ (x : ℕ). capital (3 - x)) c.letter_code.ensures
