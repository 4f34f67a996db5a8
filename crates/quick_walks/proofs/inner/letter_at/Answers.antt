-- `letter_at` meets its contract: the shift takes the letters behind away, the mask those before. Assumes nothing.
use mathlib.Core.Path.{sym, ap, ◌∙◌}
use Prim.Native.Nat.{ℕ, ◌-◌, ◌*◌, ◌/◌, ◌%◌, ◌^◌}
use lib.Bits.{and_mask}
use Rattle.alphabet.specs.Letter.{capital}
use Rattle.words.proofs.Rolling.{four_two}
use Rattle.quick_walks.proofs.Keys.{capital_at}
use Rattle.quick_walks.proofs.inner.letter_at.Goals as goal

pub returns : goal.returns
returns c =
    let a = c.args in
    let n : ℕ = a.k - 1 - a.i in
    c.capital_of.ensures
    ∙ (ap capital (and_mask (a.w / 2 ^ (2 * n)) 2 ∙ ap (λ (m : ℕ). a.w / m % 4) (sym (four_two n)))
    ∙ sym (capital_at a.k a.w a.i c.requires.0))
