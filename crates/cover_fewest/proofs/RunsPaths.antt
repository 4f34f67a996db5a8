-- Strings of weights one after the other: a string more is its own runs more, less one where it joins the next. So all runs and the number of
-- strings are the runs inside the strings and the paths of their end weights. Assumes nothing.
use mathlib.Core.Path.{◌≡◌, refl, sym, ap, ap₂, ◌∙◌}
use mathlib.Core.List.{List, [], ◌∷◌, ◌++◌, map, append-nil}
use Prim.Native.Nat.{ℕ, suc, ◌+◌, ◌-◌, ◌≤◌}
use native.Mathlib.Omega.{arith}
use lib.ListN.{length, get_or}
use Rattle.lists.specs.Count.{sum, agree}
use Rattle.lists.specs.Every.{All}
use Rattle.collection.specs.Strings.{Str, weights_in}
use Rattle.collection.specs.EndWeights.{ends_of}
use Rattle.runs.specs.Joins.{last_weight}
use Rattle.runs.specs.Runs.{run_count}
use Rattle.runs.proofs.Joined.{count_none, count_append}
use Rattle.cover_trails.specs.Paths.{path_count}
use Rattle.cover_trails.specs.Strings.{front, back}
use Rattle.lists.proofs.Agree.{agree_le}
use Rattle.cover_trails.proofs.Paths.{paths_next, paths-none, paths_one}

-- the last weight, by its place
last_at_lem : (w : ℕ) (ws : List ℕ) → last_weight w ws ≡ get_or (w ∷ ws) (length (w ∷ ws) - 1) 0
unfolding last_weight
last_at_lem w [] = refl
last_at_lem w (v ∷ ws) =
    let q : suc (suc (length ws)) - 1 ≡ suc (suc (length ws) - 1) = omega arith in
    last_at_lem v ws ∙ sym (ap (λ (i : ℕ). get_or (w ∷ (v ∷ ws)) i 0) q)

-- the runs inside strings, added up
abbrev pub inside : List Str → ℕ
inside ss = sum (map (λ s. run_count s.weights) ss)

-- a string has a weight
abbrev pub HasWeight : Str → Type 0
HasWeight s = 1 ≤ length s.weights

-- runs of the whole and number of strings = runs inside and paths
pub runs-paths : (ss : List Str) → All HasWeight ss → run_count (weights_in ss) + length ss ≡ inside ss + path_count (map ends_of ss)
unfolding weights_in sum
runs-paths [] h = omega (arith, count_none, paths-none)
runs-paths (s ∷ []) h = omega (arith, ap run_count (append-nil s.weights), paths_one (ends_of s))
runs-paths (s ∷ (t ∷ ss)) h = go s.weights refl t.weights refl h.0 h.1.0 (runs-paths (t ∷ ss) h.1)
  where
    go : (ws : List ℕ) → s.weights ≡ ws → (vs : List ℕ) → t.weights ≡ vs → 1 ≤ length s.weights → 1 ≤ length t.weights
        → run_count (weights_in (t ∷ ss)) + suc (length ss) ≡ inside (t ∷ ss) + path_count (map ends_of (t ∷ ss))
        → run_count (s.weights ++ weights_in (t ∷ ss)) + suc (suc (length ss))
        ≡ run_count s.weights + inside (t ∷ ss) + path_count (ends_of s ∷ map ends_of (t ∷ ss))
    go [] e vs f a b ih = absurd (omega (arith, ap length e))
    go (w ∷ ws) e [] f a b ih = absurd (omega (arith, ap length f))
    go (w ∷ ws) e (v ∷ vs) f a b ih =
        let rest : weights_in (t ∷ ss) ≡ v ∷ (vs ++ weights_in ss) = ap (λ (l : List ℕ). l ++ weights_in ss) f in
        let c = count_append w ws v (vs ++ weights_in ss) in
        let p = paths_next (ends_of s) (ends_of t) (map ends_of ss) in
        let x : back (ends_of s) ≡ last_weight w ws = ap (λ (l : List ℕ). get_or l (length l - 1) 0) e ∙ sym (last_at_lem w ws) in
        let y : front (ends_of t) ≡ v = ap (λ (l : List ℕ). get_or l 0 0) f in
        let g : agree (last_weight w ws) v ≡ agree (back (ends_of s)) (front (ends_of t)) = ap₂ agree (sym x) (sym y) in
        omega (
          arith,
          c,
          p,
          g,
          ih,
          agree_le (back (ends_of s)) (front (ends_of t)),
          ap run_count e,
          ap₂ (λ (l r : List ℕ). run_count (l ++ r)) e rest,
          ap run_count rest,
        )
