-- Words: lists of the codes of letters, their own codes, and their reverse complements.
-- Specification: 2.2, 2.3.
use Rattle.std.specs.Prelude.{List, [], ◌∷◌, map, reverse, ℕ, ◌+◌, ◌*◌, ◌<◌, take, drop}
use Rattle.lists.specs.Every.{All}
use Rattle.alphabet.specs.Letter.{letter, paired}

-- each of w is the code of a letter
abbrev pub Letters : List ℕ → Type 0
Letters w = All (λ x. x < 4) w

-- the word that bytes spell
abbrev pub spell : List ℕ → List ℕ
spell bytes = map letter bytes

-- the word of the k letters from position a on (from 0)
abbrev pub word_at : ℕ → List ℕ → ℕ → List ℕ
word_at k letters a = spell (take k (drop a letters))

-- a word's code reads its first letter as the highest: `high` is the code of what stands before w
unfoldable pub code_from : ℕ → List ℕ → ℕ
code_from high [] = high
code_from high (x ∷ w) = code_from (high * 4 + x) w

abbrev pub code : List ℕ → ℕ
code w = code_from 0 w

-- the reverse complement: backwards, with A and T, C and G exchanged
unfoldable pub turn : List ℕ → List ℕ
turn w = map paired (reverse w)
