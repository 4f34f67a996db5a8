-- m numbers for 1 to m: where each of these is used, or where all are of these and none is used twice, each is used once. By counting all uses together.
-- Assumes nothing.
use mathlib.Core.Path.{◌≡◌, refl, ap, ◌∙◌}
use mathlib.Core.List.{List, [], ◌∷◌, ◌++◌}
use Prim.Native.Nat.{ℕ, zero, suc, ◌+◌, ◌-◌, ◌≤◌, ◌<◌}
use native.Mathlib.Omega.{arith}
use native.Mathlib.Decide.{dec_lt}
use lib.ListN.{length, length-append, get_or}
use Rattle.lists.specs.Every.{All}
use Rattle.lists.specs.Count.{agree}
use Rattle.cover_trails.specs.Counting.{occurs, sum_below}
use Rattle.lists.proofs.Agree.{agree_same, agree-other, agree_le}
use Rattle.cover_trails.proofs.Counting.{sum-zero, sum_mono, sum_at, sum_off, occurs_at, occurs_split, occurs_between}

sum_ones : (m : ℕ) → sum_below m (λ k. 1) ≡ m
unfolding sum_below
sum_ones zero = refl
sum_ones (suc m) = omega (arith, sum_ones m)

-- all uses of 1 to m together: at most as many as there are numbers
uses-le : (m : ℕ) (ks : List ℕ) → sum_below m (λ k. occurs (suc k) ks) ≤ length ks
unfolding occurs
uses-le m [] = omega (arith, sum-zero (λ k. 0) m (λ k l. refl))
uses-le m (x ∷ ks) =
    omega (
      arith,
      uses-le m ks,
      sum_off (λ k. agree (suc k) x + occurs (suc k) ks) (λ k. occurs (suc k) ks) m (x - 1) 1
          (λ w q. omega (arith, agree-other (suc w) x (λ e. q (omega arith)))) (omega (arith, agree_le (suc (x - 1)) x)),
    )

-- and as many, where all numbers are from 1 to m
uses-ge : (m : ℕ) (ks : List ℕ) → All (λ k. (1 ≤ k) × (k ≤ m)) ks → length ks ≤ sum_below m (λ k. occurs (suc k) ks)
unfolding occurs
uses-ge m [] h = omega arith
uses-ge m (x ∷ ks) h =
    omega (
      arith,
      uses-ge m ks h.1,
      sum_at (λ k. occurs (suc k) ks) (λ k. agree (suc k) x + occurs (suc k) ks) m (x - 1) (omega (arith, h.0)) (λ w b q. omega arith),
      agree_same (suc (x - 1)) x (omega (arith, h.0)),
    )

module _ (m : ℕ) (ks : List ℕ) (size : length ks ≡ m) where
  -- if each of 1 to m is used, it is used once
  pub once_if_used : ((k : ℕ) → 1 ≤ k → k ≤ m → 1 ≤ occurs k ks) → (k : ℕ) → 1 ≤ k → k ≤ m → occurs k ks ≡ 1
  once_if_used h zero low high = omega arith
  once_if_used h (suc k) low high =
      omega (
        arith,
        h (suc k) low high,
        uses-le m ks,
        sum_ones m,
        sum_at (λ k. 1) (λ k. occurs (suc k) ks) m k (omega arith) (λ w b q. h (suc w) (omega arith) (omega arith)),
      )

  -- and no other number is there
  pub range_if_used : ((k : ℕ) → 1 ≤ k → k ≤ m → 1 ≤ occurs k ks) → (i : ℕ) → i < length ks → (1 ≤ get_or ks i 0) × (get_or ks i 0 ≤ m)
  range_if_used h i l = (go_low (dec_lt 0 (get_or ks i 0)), go_high (dec_lt m (get_or ks i 0)))
    where
      -- else the others alone would use each of 1 to m
      other : ((w : ℕ) → w < m → suc w ≡ get_or ks i 0 → ⊥) → ⊥
      other q =
          let u = occurs_split (get_or ks i 0) ks (occurs_at (get_or ks i 0) ks i l refl) in
          let n : length ks ≡ suc (length (u.0 ++ u.1)) = ap length u.2 ∙ simp length-append (omega arith) in
          omega (
            arith,
            n,
            size,
            uses-le m (u.0 ++ u.1),
            sum_ones m,
            sum_mono (λ k. 1) (λ k. occurs (suc k) (u.0 ++ u.1)) m
                (λ w b.
                omega (
                  arith,
                  h (suc w) (omega arith) (omega arith),
                  ap (occurs (suc w)) u.2,
                  occurs_between (suc w) (get_or ks i 0) u.0 u.1,
                  agree-other (suc w) (get_or ks i 0) (q w b),
                )),
          )

      go_low : Dec (0 < get_or ks i 0) → 1 ≤ get_or ks i 0
      go_low (yes b) = b
      go_low (no b) = absurd (other (λ w k e. omega arith))

      go_high : Dec (m < get_or ks i 0) → get_or ks i 0 ≤ m
      go_high (yes b) = absurd (other (λ w k e. omega arith))
      go_high (no b) = omega arith

  -- if all are from 1 to m and none is used twice, each is used once
  pub once_if_apart : All (λ k. (1 ≤ k) × (k ≤ m)) ks → ((k : ℕ) → occurs k ks ≤ 1) → (k : ℕ) → 1 ≤ k → k ≤ m → occurs k ks ≡ 1
  once_if_apart r h zero low high = omega arith
  once_if_apart r h (suc k) low high =
      omega (
        arith,
        h (suc k),
        uses-ge m ks r,
        sum_ones m,
        sum_at (λ k. occurs (suc k) ks) (λ k. 1) m k (omega arith) (λ w b q. h (suc w)),
      )
