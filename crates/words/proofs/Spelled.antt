-- Bytes that are letters spell a word, which is what the machine reads off them. Assumes nothing.
use mathlib.Core.Path.{◌≡◌, refl, ap₂}
use mathlib.Core.Bool.{true}
use mathlib.Core.List.{List, [], ◌∷◌, map}
use Prim.Native.Nat.{ℕ}
use Rattle.lists.specs.Every.{All}
use Rattle.alphabet.specs.Letter.{is_letter, two_bits}
use Rattle.alphabet.proofs.Letters.{letter_lt, letter_bits}
use Rattle.words.specs.Word.{Letters, spell}

-- they spell a word
pub spell-letters : (bytes : List ℕ) → All (λ b. is_letter b ≡ true) bytes → Letters (spell bytes)
spell-letters [] h = tt
spell-letters (b ∷ bytes) h = (letter_lt b h.0, spell-letters bytes h.1)

-- and the machine reads the same word
pub spell_bits : (bytes : List ℕ) → All (λ b. is_letter b ≡ true) bytes → map two_bits bytes ≡ spell bytes
spell_bits [] h = refl
spell_bits (b ∷ bytes) h = ap₂ (λ (x : ℕ) (w : List ℕ). x ∷ w) (letter_bits b h.0) (spell_bits bytes h.1)
