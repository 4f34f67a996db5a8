-- The runs that start later, one weight further. Assumes nothing.
use mathlib.Core.Path.{◌≡◌, refl, sym, subst}
use mathlib.Core.List.{List, [], ◌∷◌, map}
use Prim.Native.Nat.{ℕ, suc, ◌<◌}
use native.Mathlib.Decide.{ℕ_discrete}
use native.Mathlib.Omega.{arith}
use borrow.Author.Tests.{eq-eqb, ne_eqb}
use Rattle.lists.specs.Every.{All}
use Rattle.lists.proofs.Every.{all_map}
use Rattle.runs.specs.Runs.{Run, later_runs}

-- an equal weight goes on with the run
pub later_equal : (h w v : ℕ) (ws : List ℕ) → v ≡ w → later_runs h w (v ∷ ws) ≡ later_runs (suc h) w ws
unfolding later_runs
later_equal h w v ws e = rw (eq-eqb v w e)

-- another weight starts a run
pub later-other : (h w v : ℕ) (ws : List ℕ) → (v ≡ w → ⊥) → later_runs h w (v ∷ ws) ≡ (v, suc h) ∷ later_runs (suc h) v ws
unfolding later_runs
later-other h w v ws e = rw (ne_eqb v w e)

-- no weight is left
pub later-nil : (h w : ℕ) → later_runs h w [] ≡ []
unfolding later_runs
later-nil h w = refl

-- later runs start after the handle
pub later-above : (h w : ℕ) (ws : List ℕ) → All (λ g. h < g) (map (λ r. r.1) (later_runs h w ws))
later-above h w [] = subst (λ (rs : List Run). All (λ g. h < g) (map (λ r. r.1) rs)) (sym (later-nil h w)) tt
later-above h w (v ∷ ws) = go (ℕ_discrete v w) (later-above (suc h) w ws) (later-above (suc h) v ws)
  where
    up : (gs : List ℕ) → All (λ g. suc h < g) gs → All (λ g. h < g) gs
    up gs = all_map (λ g l. let z : h < g = omega arith in z) gs

    go : Dec (v ≡ w) → All (λ g. suc h < g) (map (λ r. r.1) (later_runs (suc h) w ws)) → All (λ g. suc h < g) (map (λ r. r.1) (later_runs (suc h) v ws))
        → All (λ g. h < g) (map (λ r. r.1) (later_runs h w (v ∷ ws)))
    go (yes e) a b =
        subst (λ (rs : List Run). All (λ g. h < g) (map (λ r. r.1) rs)) (sym (later_equal h w v ws e)) (up (map (λ r. r.1) (later_runs (suc h) w ws)) a)
    go (no e) a b =
        subst (λ (rs : List Run). All (λ g. h < g) (map (λ r. r.1) rs)) (sym (later-other h w v ws e))
        (omega arith, up (map (λ r. r.1) (later_runs (suc h) v ws)) b)
