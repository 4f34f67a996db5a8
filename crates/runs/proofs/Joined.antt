-- How many runs a row of weights has: the sum over its parts, less one where the parts' weights meet equal; and the same turned. Assumes nothing.
use mathlib.Core.Path.{◌≡◌, refl, sym, ap, ◌∙◌}
use mathlib.Core.List.{List, [], ◌∷◌, ◌++◌, reverse, reverse-cons}
use Prim.Native.Nat.{ℕ, suc, ◌+◌, ◌≤◌}
use native.Mathlib.Decide.{ℕ_discrete}
use native.Mathlib.Omega.{arith}
use lib.ListN.{length}
use Rattle.lists.specs.Count.{agree}
use Rattle.lists.proofs.Agree.{agree_same, agree-other, agree-turned, agree_le}
use Rattle.runs.specs.Joins.{last_weight}
use Rattle.runs.specs.Runs.{later_runs, runs, run_count}
use Rattle.runs.proofs.Later.{later-nil, later_equal, later-other}

-- ─── one weight more ─────────────────────────────────────────────────────────

-- how many runs start later does not hang on the handle
later_count : (h i w : ℕ) (ws : List ℕ) → length (later_runs h w ws) ≡ length (later_runs i w ws)
later_count h i w [] = ap length (later-nil h w ∙ sym (later-nil i w))
later_count h i w (v ∷ ws) = go (ℕ_discrete v w) (later_count (suc h) (suc i) w ws) (later_count (suc h) (suc i) v ws)
  where
    go : Dec (v ≡ w) → length (later_runs (suc h) w ws) ≡ length (later_runs (suc i) w ws) → length (later_runs (suc h) v ws) ≡ length (later_runs (suc i) v ws)
        → length (later_runs h w (v ∷ ws)) ≡ length (later_runs i w (v ∷ ws))
    go (yes e) a b = ap length (later_equal h w v ws e) ∙ (a ∙ ap length (sym (later_equal i w v ws e)))
    go (no e) a b = ap length (later-other h w v ws e) ∙ (ap suc b ∙ ap length (sym (later-other i w v ws e)))

pub count_none : run_count [] ≡ 0
unfolding runs
count_none = refl

pub count_one : (w : ℕ) → run_count (w ∷ []) ≡ 1
unfolding runs
count_one w = ap (λ rs. suc (length rs)) (later-nil 1 w)

-- a weight before others is a run more, unless the run goes on
pub count_cons : (w v : ℕ) (ws : List ℕ) → run_count (w ∷ (v ∷ ws)) + agree w v ≡ suc (run_count (v ∷ ws))
unfolding runs
count_cons w v ws = go (ℕ_discrete v w)
  where
    go : Dec (v ≡ w) → suc (length (later_runs 1 w (v ∷ ws))) + agree w v ≡ suc (suc (length (later_runs 1 v ws)))
    go (yes e) = omega (arith, agree_same w v (sym e), ap length (later_equal 1 w v ws e), later_count 2 1 w ws, ap (λ (x : ℕ). length (later_runs 1 x ws)) e)
    go (no e) = omega (arith, agree-other w v (λ q. e (sym q)), ap length (later-other 1 w v ws e), later_count 2 1 v ws)

-- where there is a weight there is a run
pub runs-some : (ws : List ℕ) → 1 ≤ length ws → 1 ≤ run_count ws
runs-some [] h = absurd (omega arith)
runs-some (w ∷ []) h = omega (arith, count_one w)
runs-some (w ∷ (v ∷ ws)) h = omega (arith, count_cons w v ws, agree_le w v, runs-some (v ∷ ws) (omega arith))

-- ─── two rows ────────────────────────────────────────────────────────────────

-- the runs of a concatenation: the sum, less one where the neighbours' end weights are equal
pub count_append : (w : ℕ) (ws : List ℕ) (v : ℕ) (vs : List ℕ)
    → run_count ((w ∷ ws) ++ (v ∷ vs)) + agree (last_weight w ws) v ≡ run_count (w ∷ ws) + run_count (v ∷ vs)
unfolding last_weight
count_append w [] v vs = omega (arith, count_cons w v vs, count_one w)
count_append w (x ∷ ws) v vs = omega (arith, count_append x ws v vs, count_cons w x (ws ++ (v ∷ vs)), count_cons w x ws)

-- ─── turned ──────────────────────────────────────────────────────────────────

count_snoc : (w : ℕ) (ws : List ℕ) (v : ℕ) → run_count ((w ∷ ws) ++ (v ∷ [])) + agree (last_weight w ws) v ≡ suc (run_count (w ∷ ws))
count_snoc w ws v = omega (arith, count_append w ws v [], count_one v)

last_snoc : (w : ℕ) (ws : List ℕ) (v : ℕ) → last_weight w (ws ++ (v ∷ [])) ≡ v
unfolding last_weight
last_snoc w [] v = refl
last_snoc w (x ∷ ws) v = last_snoc x ws v

-- weights the other way round have as many runs
pub count_reverse : (ws : List ℕ) → run_count (reverse ws) ≡ run_count ws
count_reverse [] = refl
count_reverse (w ∷ []) = refl
count_reverse (w ∷ (v ∷ ws)) = go (reverse ws) refl (count_reverse (v ∷ ws))
  where
    go : (us : List ℕ) → reverse ws ≡ us → run_count (reverse (v ∷ ws)) ≡ run_count (v ∷ ws) → run_count (reverse (w ∷ (v ∷ ws))) ≡ run_count (w ∷ (v ∷ ws))
    go [] e ih =
        let a : reverse (v ∷ ws) ≡ v ∷ [] = reverse-cons v ws ∙ ap (λ (l : List ℕ). l ++ (v ∷ [])) e in
        let b : reverse (w ∷ (v ∷ ws)) ≡ (v ∷ []) ++ (w ∷ []) = reverse-cons w (v ∷ ws) ∙ ap (λ (l : List ℕ). l ++ (w ∷ [])) a in
        omega (arith, ap run_count b, ap run_count a, ih, count_cons v w [], count_one w, count_one v, count_cons w v ws, agree-turned w v)
    go (u ∷ us) e ih =
        let a : reverse (v ∷ ws) ≡ u ∷ (us ++ (v ∷ [])) = reverse-cons v ws ∙ ap (λ (l : List ℕ). l ++ (v ∷ [])) e in
        let b : reverse (w ∷ (v ∷ ws)) ≡ (u ∷ (us ++ (v ∷ []))) ++ (w ∷ []) = reverse-cons w (v ∷ ws) ∙ ap (λ (l : List ℕ). l ++ (w ∷ [])) a in
        omega (
          arith,
          ap run_count b,
          ap run_count a,
          ih,
          count_snoc u (us ++ (v ∷ [])) w,
          ap (λ (x : ℕ). agree x w) (last_snoc u us v),
          count_cons w v ws,
          agree-turned w v,
        )
