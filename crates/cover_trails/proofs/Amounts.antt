-- How many paths and spokes there can be.
use mathlib.Core.Path.{◌≡◌, refl}
use mathlib.Core.List.{List, [], ◌∷◌}
use Prim.Native.Nat.{ℕ, zero, suc, ◌+◌, ◌≤◌}
use native.Mathlib.Omega.{arith}
use native.Mathlib.Decide.{ℕ_discrete}
use lib.ListN.{length, length-append}
use Rattle.cover_trails.specs.Counting.{oddly, sum_below}
use Rattle.cover_trails.specs.Groups.{count_odd, odd_weights}
use Rattle.cover_trails.specs.Paths.{path_count}
use Rattle.cover_trails.specs.Strings.{Ends, weights}
use Rattle.cover_trails.specs.Hub.{spokes, spoked, limit}
use Rattle.cover_trails.proofs.Counting.{oddly_le}
use Rattle.cover_trails.proofs.Paths.{paths-none, paths_one, paths-append}

-- there are not more paths than strings
pub paths_few : (L : List Ends) → path_count L ≤ length L
paths_few [] = omega (arith, paths-none)
paths_few (s ∷ L) = omega (arith, paths-append (s ∷ []) L, paths_one s, paths_few L)

-- there are O spokes
length-spokes : (h : ℕ) (ws : List ℕ) (n : ℕ) → length (spokes h ws n) ≡ sum_below n (oddly ws)
unfolding spokes sum_below
length-spokes h ws zero = refl
length-spokes h ws (suc n) = go (ℕ_discrete (oddly ws n) 0) (length-spokes h ws n)
  where
    go : Dec (oddly ws n ≡ 0) → length (spokes h ws n) ≡ sum_below n (oddly ws) → length (spokes h ws (suc n)) ≡ oddly ws n + sum_below n (oddly ws)
    go (yes e) ih = rw e (omega (arith, ih))
    go (no q) ih = let e : oddly ws n ≡ 1 = omega (arith, oddly_le ws n) in rw e (omega (arith, ih))

-- with them there are O strings more
pub length-spoked : (h : ℕ) (L : List Ends) → length (spoked h L) ≡ odd_weights L + length L
unfolding odd_weights count_odd
length-spoked h L = omega (arith, length-append (spokes h (weights L) (limit L)) L, length-spokes h (weights L) (limit L))
