-- Laws of paths: they are chains, together they are the order, no two neighbours among them join; and how their number grows.
use mathlib.Core.Path.{◌≡◌, refl, ap, sym, ◌∙◌}
use mathlib.Core.Bool.{Bool, true, false, true≢false}
use mathlib.Core.List.{List, [], ◌∷◌, ◌++◌}
use Prim.Native.Nat.{ℕ, suc, ◌+◌, ◌-◌, ◌≤◌}
use native.Mathlib.Omega.{arith}
use lib.ListN.{length}
use borrow.Author.Tests.{eqb-true, eq-eqb}
use Rattle.lists.specs.Choose.{choose}
use Rattle.lists.specs.Count.{agree}
use Rattle.cover_trails.specs.Strings.{Ends, front, back}
use Rattle.cover_trails.specs.Paths.{joins, before, paths_from, paths, path_count}
use Rattle.cover_trails.specs.Walks.{Chain}
use Rattle.lists.proofs.Agree.{agree_same}

-- ─── the number of paths ─────────────────────────────────────────────────────

-- the neighbours behind s that do not join
unfoldable pub breaks : Ends → List Ends → ℕ
breaks s [] = 0
breaks s (t ∷ order) = (1 - agree (back s) (front t)) + breaks t order

-- one path, and one more at each break
pub paths_breaks : (s : Ends) (order : List Ends) → path_count (s ∷ order) ≡ suc (breaks s order)
unfolding paths paths_from breaks
paths_breaks s [] = refl
paths_breaks s (t ∷ order) = go (paths_breaks t order)
  where
    step : (j : Bool) (ps : List (List Ends)) (n : ℕ) → length ps ≡ suc n → length (before j s ps) ≡ suc ((1 - choose j 1 0) + n)
    step true [] n h = absurd (omega arith)
    step true (p ∷ ps) n h = omega arith
    step false ps n h = omega arith

    go : length (paths_from t order) ≡ suc (breaks t order)
        → length (before (joins s t) s (paths_from t order)) ≡ suc ((1 - agree (back s) (front t)) + breaks t order)
    go ih = unfold agree in step (joins s t) (paths_from t order) (breaks t order) ih

-- one string more: one path more, unless it joins
pub paths_next : (s t : Ends) (order : List Ends) → path_count (s ∷ (t ∷ order)) ≡ (1 - agree (back s) (front t)) + path_count (t ∷ order)
paths_next s t order =
    let b : breaks s (t ∷ order) ≡ (1 - agree (back s) (front t)) + breaks t order = unfold breaks in refl in
    omega (arith, paths_breaks s (t ∷ order), paths_breaks t order)

-- one string is one path
pub paths_one : (s : Ends) → path_count (s ∷ []) ≡ 1
unfolding paths paths_from
paths_one s = refl

-- no strings, no paths
pub paths-none : path_count [] ≡ 0
unfolding paths
paths-none = refl

breaks_le : (s : Ends) (L : List Ends) → breaks s L ≤ path_count L
unfolding breaks
breaks_le s [] = omega arith
breaks_le s (t ∷ L) = omega (arith, paths_breaks t L)

breaks_append : (s : Ends) (A B : List Ends) → breaks s (A ++ B) ≤ breaks s A + path_count B
unfolding breaks
breaks_append s [] B = omega (arith, breaks_le s B)
breaks_append s (t ∷ A) B = omega (arith, breaks_append t A B)

-- two orders, one behind the other, have no path more than each by itself
pub paths-append : (A B : List Ends) → path_count (A ++ B) ≤ path_count A + path_count B
paths-append [] B = omega arith
paths-append (s ∷ A) B = omega (arith, breaks_append s A B, paths_breaks s A, paths_breaks s (A ++ B))

-- ─── chains ──────────────────────────────────────────────────────────────────

chain_breaks : (s : Ends) (L : List Ends) (y : ℕ) → Chain (back s) L y → breaks s L ≡ 0
unfolding breaks
chain_breaks s [] y h = refl
chain_breaks s (t ∷ L) y h = omega (arith, agree_same (back s) (front t) h.0, chain_breaks t L y h.1)

-- a chain is one path
pub chain_one_path : (x : ℕ) (L : List Ends) (y : ℕ) → Chain x L y → path_count L ≤ 1
chain_one_path x [] y h = omega (arith, paths-none)
chain_one_path x (s ∷ L) y h = omega (arith, paths_breaks s L, chain_breaks s L y h.1)

-- ─── the paths are the maximal chains ────────────────────────────────────────

-- all strings of the paths, one path behind the other
unfoldable pub together : List (List Ends) → List Ends
together [] = []
together (path ∷ others) = path ++ together others

-- the paths are the order, cut
pub together_paths : (order : List Ends) → together (paths order) ≡ order
unfolding paths together
together_paths [] = refl
together_paths (s ∷ order) = go s order
  where
    step : (j : Bool) (s : Ends) (ps : List (List Ends)) → together (before j s ps) ≡ s ∷ together ps
    step true s [] = refl
    step true s (p ∷ ps) = refl
    step false s ps = refl

    go : (s : Ends) (order : List Ends) → together (paths_from s order) ≡ s ∷ order
    go s [] = refl
    go s (t ∷ order) = step (joins s t) s (paths_from t order) ∙ ap (λ (L : List Ends). s ∷ L) (go t order)

-- a path that ends at y: it has strings, and each joins the one behind it
abbrev pub PathTo : ℕ → List Ends → Type 0
PathTo y [] = ⊥
PathTo y (s ∷ path) = Chain (back s) path y

-- the first of the paths does not start at y
abbrev pub StartElsewhere : ℕ → List (List Ends) → Type 0
StartElsewhere y [] = Unit {0}
StartElsewhere y ([] ∷ others) = ⊥
StartElsewhere y ((s ∷ path) ∷ others) = y ≡ front s → ⊥

-- each path joins throughout, and does not join the one behind it
abbrev pub Maximal : List (List Ends) → Type 0
Maximal [] = Unit {0}
Maximal (path ∷ others) = ((y : ℕ) × PathTo y path × StartElsewhere y others) × Maximal others

-- the first path starts with s
abbrev StartWith : Ends → List (List Ends) → Type 0
StartWith s [] = ⊥
StartWith s ([] ∷ others) = ⊥
StartWith s ((t ∷ path) ∷ others) = t ≡ s

maximal_before : (j : Bool) (s t : Ends) (ps : List (List Ends)) → joins s t ≡ j → StartWith t ps → Maximal ps
    → StartWith s (before j s ps) × Maximal (before j s ps)
maximal_before true s t [] e w m = absurd w
maximal_before true s t ([] ∷ ps) e w m = absurd w
maximal_before true s t ((u ∷ p) ∷ ps) e w m =
    (refl, ((m.0.0, (eqb-true (back s) (front t) e ∙ ap front (sym w), m.0.1), m.0.2), m.1))
maximal_before false s t ps e w m = (refl, ((back s, refl, elsewhere ps w), m))
  where
    elsewhere : (ps : List (List Ends)) → StartWith t ps → StartElsewhere (back s) ps
    elsewhere [] w = absurd w
    elsewhere ([] ∷ ps) w = absurd w
    elsewhere ((u ∷ p) ∷ ps) w = λ q. true≢false (sym (eq-eqb (back s) (front t) (q ∙ ap front w)) ∙ e)

maximal_from : (s : Ends) (order : List Ends) → StartWith s (paths_from s order) × Maximal (paths_from s order)
unfolding paths_from
maximal_from s [] = (refl, ((back s, refl, tt), tt))
maximal_from s (t ∷ order) =
    let ih = maximal_from t order in
    maximal_before (joins s t) s t (paths_from t order) refl ih.0 ih.1

-- the paths are maximal chains
pub paths_maximal : (order : List Ends) → Maximal (paths order)
unfolding paths
paths_maximal [] = tt
paths_maximal (s ∷ order) = (maximal_from s order).1
