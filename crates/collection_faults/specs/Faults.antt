-- What may be wrong in one table: a string that is too short, a weight out of range. (Which bytes are letters, `alphabet` says.)
-- Specification: 3.2, 8.2.
use Rattle.std.specs.Prelude.{Bool, ◌&&◌, List, [], ◌∷◌, ℕ, suc, ◌+◌, leb, ltb}
use Rattle.lists.specs.Choose.{choose}
use Rattle.lists.specs.Limits.{most_weight}

-- the number of the first string shorter than k, where i strings stand before and the last of them ends at `before`; 0 where none is.
-- A string has its end less the end before letters, so an end that falls makes a short string.
unfoldable pub first_short : ℕ → ℕ → ℕ → List ℕ → ℕ
first_short k i before [] = 0
first_short k i before (e ∷ ends) = choose (ltb e (before + k)) (suc i) (first_short k (suc i) e ends)

-- the last end, or `before` where there is none
unfoldable pub last_end : ℕ → List ℕ → ℕ
last_end before [] = before
last_end before (e ∷ ends) = last_end e ends

-- a weight is 1 to 16,777,215
abbrev pub is_weight : ℕ → Bool
is_weight w = leb 1 w && leb w most_weight
