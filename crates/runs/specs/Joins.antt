-- The last weight of a row of weights, where the next row joins it.
use Rattle.std.specs.Prelude.{List, [], ◌∷◌, ℕ}

-- the last of w ∷ ws
unfoldable pub last_weight : ℕ → List ℕ → ℕ
last_weight w [] = w
last_weight w (v ∷ ws) = last_weight v ws
