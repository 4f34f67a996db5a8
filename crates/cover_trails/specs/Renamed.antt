-- Inner: strings whose end weights have other names, as COVER's walks have vertices in place of weights.
use Rattle.std.specs.Prelude.{◌≡◌, List, map, ℕ, ◌≤◌}
use Rattle.cover_trails.specs.Counting.{occurs}
use Rattle.cover_trails.specs.Strings.{Ends, front, back, weights}

-- a string with its end weights renamed
abbrev pub renamed : (ℕ → ℕ) → Ends → Ends
renamed g s = (g (front s), g (back s))

-- The strings are the named ones with the weights of their names, and no two names are of one weight.
pub record Renamed (strings named : List Ends) : Type 0 where
  pub weight : ℕ → ℕ
  pub is : strings ≡ map (renamed weight) named
  pub apart : (v w : ℕ) → 1 ≤ occurs v (weights named) → 1 ≤ occurs w (weights named) → weight v ≡ weight w → v ≡ w
