-- Inner: numbers at equal steps.
use Rattle.std.specs.Prelude.{List, [], ◌∷◌, ℕ, zero, suc, ◌+◌}

-- the n numbers x, x + step, x + 2 step, ..
unfoldable pub ladder : ℕ → ℕ → ℕ → List ℕ
ladder x step zero = []
ladder x step (suc n) = x ∷ ladder (x + step) step n
