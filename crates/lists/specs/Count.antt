-- Numbers in a row, sums, and equality as a number that can be added up.
use Rattle.std.specs.Prelude.{List, [], ◌∷◌, ℕ, zero, suc, ◌+◌, eqb}
use Rattle.lists.specs.Choose.{choose}

-- the n numbers i, i + 1, ..
unfoldable pub count_from : ℕ → ℕ → List ℕ
count_from i zero = []
count_from i (suc n) = i ∷ count_from (suc i) n

-- all numbers of a list together
unfoldable pub sum : List ℕ → ℕ
sum [] = 0
sum (x ∷ xs) = x + sum xs

-- 1 where a and b are equal, else 0
unfoldable pub agree : ℕ → ℕ → ℕ
agree a b = choose (eqb a b) 1 0
