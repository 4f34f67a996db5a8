-- Ids sorted by their weights. Assumes nothing.
use mathlib.Core.Path.{◌≡◌}
use mathlib.Core.List.{List, map}
use Prim.Native.Nat.{ℕ, ◌<◌, ◌≤◌}
use native.Mathlib.Omega.{arith}
use lib.ListN.{length}
use Rattle.lists.specs.Count.{count_from}
use Rattle.lists.specs.Every.{All}
use Rattle.lists.specs.Pick.{sort_by}
use Rattle.lists.proofs.Count.{all_count}
use Rattle.lists.proofs.Sorts.{all_sort_by}
use Rattle.runs.specs.Runs.{run_count}
use Rattle.sorting.specs.Keys.{key_at}
use Rattle.summary_counts.specs.Counts.{distinct}
use Rattle.summary_counts.proofs.Different.{ids_runs, distinct_few}

module _ (ws : List ℕ) {ids : List ℕ} {n : ℕ} (e : ids ≡ count_from 0 n) (l : n ≡ length ws) where
  -- each id has a weight
  pub ids_low : All (λ x. x < length ws) ids
  ids_low = rw e (all_count (λ x. x < length ws) 0 n (λ j u v. omega arith))

  module _ {ys : List ℕ} (s : ys ≡ sort_by (key_at ws) ids) where
    -- sorted they still have
    pub order_low : All (λ x. x < length ws) ys
    order_low = rw s (all_sort_by (key_at ws) (λ x. x < length ws) ids ids_low)

    -- and the runs of their weights are the different weights
    pub different : {r : ℕ} → r ≡ run_count (map (key_at ws) ys) → (r ≡ distinct ws) × (r ≤ length ws)
    different q =
        let t = rw (s, e, l, ids_runs ws) at q in
        (t, omega (arith, t, distinct_few ws))
