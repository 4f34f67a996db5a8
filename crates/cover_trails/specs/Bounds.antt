-- What "the least number of paths" means.
-- Specification: 5.4.
use Rattle.std.specs.Prelude.{◌≡◌, List, ℕ, ◌≤◌, ℤ, length}
use Rattle.cover_trails.specs.Strings.{Ends, turned}
use Rattle.cover_trails.specs.Paths.{path_count}
use Rattle.cover_trails.specs.Places.{SignedPermutation, arranged}

-- n is the least number of paths of the strings: every order and turning has at least n paths, and one has exactly n. E + O / 2 is this number, and no other is
-- (`least-paths`, `least_only` in proofs/Bounds).
pub record LeastPaths (strings : List Ends) (n : ℕ) : Type 0 where
  pub none_fewer : (places : List ℤ) → SignedPermutation (length strings) places → n ≤ path_count (arranged turned places strings)
  pub reached : (places : List ℤ) × SignedPermutation (length strings) places × (path_count (arranged turned places strings) ≡ n)
