-- Reordering keeps the runs inside the strings, so the runs of the reordered weights are R - m + paths, and their fewest are R - m + E + O/2.
-- Assumes nothing.
use mathlib.Core.Path.{◌≡◌, refl, sym, ap, subst}
use mathlib.Core.List.{List, [], ◌∷◌, reverse}
use Prim.Native.Nat.{ℕ, ◌+◌, ◌-◌, ◌≤◌}
use native.Mathlib.Omega.{arith}
use lib.IntN.{ℤ}
use lib.ListN.{length, get_or, length-reverse}
use Rattle.lists.specs.Count.{sum}
use Rattle.lists.specs.Every.{All}
use Rattle.lists.proofs.Cuts.{reverse_at}
use Rattle.lists.proofs.Every.{all_map}
use Rattle.collection.specs.Collection.{Collection, collection}
use Rattle.collection.specs.Judge.{Passes}
use Rattle.collection.specs.Strings.{Str, strings, strings_from, weights_in}
use Rattle.collection.specs.EndWeights.{ends_of, end_weights}
use Rattle.collection.proofs.Judged.{Judged, collection_good}
use Rattle.collection.proofs.Strings.{Whole, strings_whole, strings_count}
use Rattle.runs.specs.Runs.{run_count, inner_runs}
use Rattle.runs.proofs.Joined.{count_none, count_reverse, runs-some}
use Rattle.cover_trails.specs.Paths.{path_count}
use Rattle.cover_trails.specs.Places.{SignedPermutation, arranged, arranged_to}
use Rattle.cover_trails.specs.Strings.{Ends, turned}
use Rattle.cover_trails.proofs.Arranged.{length-arranged, map-arranged}
use Rattle.cover_trails.proofs.Bounds.{none_fewer, one_reaches, no_strings}
use Rattle.cover_trails.proofs.Kept.{all-arranged, total_arranged}
use Rattle.cover.specs.Cover.{Fewest}
use Rattle.cover.proofs.Laws.{ends_count}
use Rattle.apply_strings.specs.Turned.{turn_str}
use Rattle.cover_fewest.specs.Fewest.{runs_at, least_runs, FewestRuns}
use Rattle.cover_fewest.proofs.RunsPaths.{inside, HasWeight, runs-paths}

-- ─── a string turned ─────────────────────────────────────────────────────────

-- the last of weights the other way round is their first
last_reversed : (ws : List ℕ) → get_or (reverse ws) (length (reverse ws) - 1) 0 ≡ get_or ws 0 0
last_reversed [] = refl
last_reversed (w ∷ ws) = reverse_at (w ∷ ws) 0 (length (reverse (w ∷ ws)) - 1) (omega (arith, length-reverse (w ∷ ws)))

-- and their first is the last
first_reversed : (ws : List ℕ) → get_or (reverse ws) 0 0 ≡ get_or ws (length ws - 1) 0
first_reversed [] = refl
first_reversed (w ∷ ws) = reverse_at (w ∷ ws) (length (w ∷ ws) - 1) 0 (omega arith)

-- a string turned has its end weights turned
ends_turned : (s : Str) → ends_of (turn_str s) ≡ turned (ends_of s)
ends_turned s = λ i. (first_reversed s.weights i, last_reversed s.weights i)

-- ─── runs of the reordered weights ───────────────────────────────────────────

-- strings with weights have as many runs inside them as there are strings
inside_enough : (ss : List Str) → All HasWeight ss → length ss ≤ inside ss
unfolding sum
inside_enough [] h = omega arith
inside_enough (s ∷ ss) h = omega (arith, runs-some s.weights h.0, inside_enough ss h.1)

module _ (c : Collection) (passes : Passes c) where
  ss : List Str
  ss = strings c

  j : Judged c
  j = collection_good c passes

  whole : All (Whole c.k) ss
  unfolding ss
  whole = strings_whole c j.shape j.counted

  some-weights : All HasWeight ss
  some-weights = all_map (λ s w. let long = w.long in let counted = w.counted in let z : 1 ≤ length s.weights = omega arith in z) ss whole

  string_count : length ss ≡ length c.ends
  unfolding ss
  string_count = strings_count c

  end_count : length (end_weights c) ≡ length c.ends
  end_count = ends_count c

  -- R is at least m, so that R - m loses nothing
  enough : length c.ends ≤ inner_runs c
  unfolding inner_runs ss
  enough = subst (λ (n : ℕ). n ≤ inside (strings c)) string_count (inside_enough (strings c) some-weights)

  -- for any order and turning: runs and strings together are R and the paths together
  pub runs_at_lem : (places : List ℤ) → SignedPermutation (length c.ends) places
      → runs_at c places + length c.ends ≡ inner_runs c + path_count (arranged turned places (end_weights c))
  unfolding inner_runs end_weights ss sum
  runs_at_lem places perm =
      let all : List Str = strings c in
      let a = runs-paths (arranged turn_str places all)
      (all-arranged turn_str HasWeight (λ s h. subst (λ (n : ℕ). 1 ≤ n) (sym (length-reverse s.weights)) h) places all some-weights) in
      let n = length-arranged turn_str (record { letters = []; weights = [] }) (length c.ends) places all perm string_count in
      let t = total_arranged turn_str (λ s. run_count s.weights) inside refl (λ s r. refl) (λ s. count_reverse s.weights)
      (length c.ends) places all perm string_count in
      let e = map-arranged turn_str turned ends_of ends_turned places all in
      omega (arith, a, n, t, ap path_count e)

  -- the fewest runs of any order and turning are R - m + E + O/2
  pub fewest_runs : FewestRuns c (least_runs c)
  fewest_runs =
      let es : List Ends = end_weights c in
      let r = one_reaches es in
      record {
        none_fewer = λ places perm. omega
            (arith, runs_at_lem places perm, enough, none_fewer es places (subst (λ (n : ℕ). SignedPermutation n places) (sym end_count) perm));
        reached = (
          r.0,
          subst (λ (n : ℕ). SignedPermutation n r.0) end_count r.1,
          omega (arith, runs_at_lem r.0 (subst (λ (n : ℕ). SignedPermutation n r.0) end_count r.1), enough, r.2),
        );
      }

  -- places with the least number of paths, as COVER gives them, have the fewest runs
  pub cover_fewest : (places : List ℤ) → Fewest (end_weights c) places → runs_at c places ≡ least_runs c
  cover_fewest places f = omega (arith, runs_at_lem places (subst (λ (n : ℕ). SignedPermutation n places) end_count f.permutation), enough, f.fewest)

-- with no strings all three numbers are 0
pub none-zero : (k : ℕ) → (least_runs (collection k [] [] []) ≡ 0) × (runs_at (collection k [] [] []) [] ≡ 0)
unfolding inner_runs strings_from sum end_weights arranged_to weights_in
none-zero k = (omega (arith, no_strings.2), count_none)
