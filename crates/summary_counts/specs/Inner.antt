-- Inner: R from ends and weights alone, and what the counting functions ask.
use Rattle.std.specs.Prelude.{true, List, [], ◌∷◌, ◌≡◌, ℕ, ◌+◌, ◌≤◌, length, take, drop}
use Rattle.lists.specs.Every.{All}
use Rattle.lists.specs.Limits.{most_letters}
use Rattle.collection_faults.specs.Faults.{is_weight}
use Rattle.collection.specs.Kmers.{within}
use Rattle.runs.specs.Runs.{run_count}

-- the runs inside each string, together: the next string starts at `before`, and its weights are the first of those that are left. `inner_runs_lem` says that
-- this is R (`inner_runs`).
unfoldable pub inner_from : ℕ → ℕ → List ℕ → List ℕ → ℕ
inner_from k before [] weights = 0
inner_from k before (e ∷ ends) weights = run_count (take (within k before e) weights) + inner_from k e ends (drop (within k before e) weights)

-- weights of a judged collection
pub record Weighed (weights : List ℕ) : Type 0 where
  pub few : length weights ≤ most_letters
  pub within_range : All (λ w. is_weight w ≡ true) weights
