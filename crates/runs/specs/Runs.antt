-- Runs: maximal stretches of equal neighbours in the weights of all k-mers, across strings. No weight stands for 'none', so that a column of
-- weights may hold any number.
-- Specification: 4.1, 4.2.
use Rattle.std.specs.Prelude.{List, [], ◌∷◌, map, ℕ, suc, eqb, length}
use Rattle.lists.specs.Choose.{choose}
use Rattle.lists.specs.Count.{sum}
use Rattle.collection.specs.Collection.{Collection}
use Rattle.collection.specs.Strings.{strings}

-- a run: its weight and its first handle
abbrev pub Run : Type 0
Run = ℕ × ℕ

-- the runs that start after handle h, whose weight is w; ws are the weights after it
unfoldable pub later_runs : ℕ → ℕ → List ℕ → List Run
later_runs h w [] = []
later_runs h w (v ∷ ws) = choose (eqb v w) (later_runs (suc h) w ws) ((v, suc h) ∷ later_runs (suc h) v ws)

-- the runs of weights, the first of which has handle 1
unfoldable pub runs : List ℕ → List Run
runs [] = []
runs (w ∷ ws) = (w, 1) ∷ later_runs 1 w ws

-- the run list as two tables: each run's weight, and each run's first handle
abbrev pub weights_of_runs : List ℕ → List ℕ
weights_of_runs ws = map (λ r. r.0) (runs ws)

abbrev pub firsts_of_runs : List ℕ → List ℕ
firsts_of_runs ws = map (λ r. r.1) (runs ws)

-- how many runs
abbrev pub run_count : List ℕ → ℕ
run_count ws = length (runs ws)

-- R: the sum of the runs inside each string
unfoldable pub inner_runs : Collection → ℕ
inner_runs c = sum (map (λ s. run_count s.weights) (strings c))
