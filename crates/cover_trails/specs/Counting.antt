-- How often a number occurs, and sums over the numbers below a bound.
-- Specification: 5.2.
use Rattle.std.specs.Prelude.{List, [], ◌∷◌, ℕ, zero, suc, ◌+◌, ◌%◌, max}
use Rattle.lists.specs.Count.{agree}

-- how often w occurs in ws
unfoldable pub occurs : ℕ → List ℕ → ℕ
occurs w [] = 0
occurs w (v ∷ ws) = agree w v + occurs w ws

-- 1 where w occurs oddly often in ws, else 0
unfoldable pub oddly : List ℕ → ℕ → ℕ
unfolding occurs
oddly ws w = occurs w ws % 2

-- f 0 + f 1 + .. + f (n - 1)
unfoldable pub sum_below : ℕ → (ℕ → ℕ) → ℕ
sum_below zero f = 0
sum_below (suc n) f = f n + sum_below n f

-- the least number that is above all of ws
unfoldable pub above : List ℕ → ℕ
above [] = 0
above (w ∷ ws) = max (suc w) (above ws)
