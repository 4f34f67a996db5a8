-- The three numbers of demand 3: the runs of the reordered weights, the fewest that any order and turning gives, and R - m + E + O/2.
-- Specification: 5.4, 12.3.
use Rattle.std.specs.Prelude.{◌≡◌, List, ℕ, ◌+◌, ◌-◌, ◌≤◌, ℤ, length}
use Rattle.collection.specs.Collection.{Collection}
use Rattle.collection.specs.Strings.{weights_in}
use Rattle.collection.specs.EndWeights.{end_weights}
use Rattle.cover_trails.specs.Groups.{least}
use Rattle.cover_trails.specs.Places.{SignedPermutation}
use Rattle.apply_strings.specs.Reordered.{reordered}
use Rattle.runs.specs.Runs.{run_count, inner_runs}

-- the runs of the weights after the strings are put to these places
abbrev pub runs_at : Collection → List ℤ → ℕ
runs_at c places = run_count (weights_in (reordered c places))

-- R - m + E + O/2
abbrev pub least_runs : Collection → ℕ
least_runs c = inner_runs c - length c.ends + least (end_weights c)

-- n is the fewest runs of any order and turning of the strings: none has fewer, and one has n
pub record FewestRuns (c : Collection) (n : ℕ) : Type 0 where
  pub none_fewer : (places : List ℤ) → SignedPermutation (length c.ends) places → n ≤ runs_at c places
  pub reached : (places : List ℤ) × SignedPermutation (length c.ends) places × (runs_at c places ≡ n)
