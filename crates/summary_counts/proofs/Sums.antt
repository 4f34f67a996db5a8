-- Sums and the largest, as folds over a list give them. Assumes nothing.
use mathlib.Core.Path.{◌≡◌, refl}
use mathlib.Core.List.{List, [], ◌∷◌}
use Prim.Native.Nat.{ℕ, ◌+◌, max}
use native.Mathlib.Omega.{arith}
use Rattle.std.specs.List.{fold, reduce}
use Rattle.std.specs.Option.{unwrap_or}
use Rattle.lists.specs.Count.{sum}
use Rattle.summary_counts.specs.Counts.{largest}

-- ─── the sum ─────────────────────────────────────────────────────────────────

sum_from : (t : ℕ) (ws : List ℕ) → fold (λ a x. a + x) t ws ≡ t + sum ws
unfolding sum
sum_from t [] = omega arith
sum_from t (w ∷ ws) = omega (arith, sum_from (t + w) ws)

-- added up from the first on
pub sum_folded : (ws : List ℕ) → fold (λ a x. a + x) 0 ws ≡ sum ws
sum_folded ws = omega (arith, sum_from 0 ws)

-- ─── the largest ─────────────────────────────────────────────────────────────

largest_from : (m : ℕ) (ws : List ℕ) → fold max m ws ≡ max m (largest ws)
unfolding largest
largest_from m [] = omega arith
largest_from m (w ∷ ws) = omega (arith, largest_from (max m w) ws)

-- the greatest of all, or 0 where there is none
pub largest_reduced : (ws : List ℕ) → unwrap_or (reduce max ws) 0 ≡ largest ws
unfolding largest
largest_reduced [] = refl
largest_reduced (w ∷ ws) = largest_from w ws
