-- The reverse complement of a word that is given by its code, the table that turns four letters at once, and rolling codes.
-- Specification: 2.3, 2.4.
use Rattle.std.specs.Prelude.{Bool, ◌&&◌, List, [], ◌∷◌, ◌++◌, ℕ, zero, suc, ◌+◌, ◌-◌, ◌*◌, ◌/◌, ◌%◌, ◌^◌, eqb, length}
use Rattle.lists.specs.Every.{every_at, every_from}
use Rattle.words.specs.Word.{code, code_from, turn}

-- the word of k letters that has the code c
unfoldable pub spelled : ℕ → ℕ → List ℕ
spelled zero c = []
spelled (suc k) c = spelled k (c / 4) ++ (c % 4 ∷ [])

-- the code of the reverse complement of the word of k letters that has the code c
unfoldable pub turned_code : ℕ → ℕ → ℕ
unfolding spelled turn
turned_code k c = code (turn (spelled k c))

-- a table turns four packed letters: 256 entries, and entry b is the turned code of the four letters with code b
unfoldable pub turns_four : List ℕ → Bool
unfolding turned_code every_from code_from
turns_four table = eqb (length table) 256 && every_at (λ b x. eqb x (turned_code 4 b)) table

-- the code of a word of k letters, one letter further: x comes in behind, the first letter goes out
abbrev pub rolled : ℕ → ℕ → ℕ → ℕ
rolled k c x = (c * 4 + x) % 4 ^ k

-- the code of the turned word, one letter further: the pair of x comes in before, the last letter goes out
abbrev pub rolled_turned : ℕ → ℕ → ℕ → ℕ
rolled_turned k c x = (3 - x) * 4 ^ (k - 1) + c / 4
