-- Different weights: in their order each is one run. Assumes nothing.
use mathlib.Core.Path.{◌≡◌, refl, sym, ap, ◌∙◌}
use mathlib.Core.Bool.{Bool, true, false, ◌||◌}
use mathlib.Core.Logic.{◌⊎◌, inl, inr}
use mathlib.Core.List.{List, [], ◌∷◌, map}
use Prim.Native.Nat.{ℕ, ◌+◌, ◌<◌, ◌≤◌}
use native.Mathlib.Decide.{ℕ_discrete}
use native.Mathlib.Omega.{arith}
use borrow.Author.Tests.{eq-eqb, ne_eqb}
use lib.Dec.{eqb}
use lib.ListN.{length, get_or, length-map}
use lib.Seq.{ext_get_or}
use Rattle.lists.specs.Choose.{choose}
use Rattle.lists.specs.Count.{count_from}
use Rattle.lists.specs.Every.{All}
use Rattle.lists.specs.Pairs.{Pairs}
use Rattle.lists.specs.Pick.{insert, sort_by}
use Rattle.lists.proofs.Compare.{lt_or_le}
use Rattle.lists.proofs.Count.{length_count}
use Rattle.lists.proofs.Agree.{agree_same, agree-other}
use Rattle.lists.proofs.Every.{all_map}
use Rattle.lists.proofs.Mapped.{values_at}
use Rattle.lists.proofs.Sorts.{insert-nil, insert_le, insert_gt, sort_by_nil, sort_by_cons, sort_by_ordered}
use Rattle.sorting.specs.Keys.{key_at}
use Rattle.runs.specs.Runs.{run_count}
use Rattle.runs.proofs.Joined.{count_none, count_one, count_cons}
use Rattle.summary_counts.specs.Counts.{is_in, fresh, distinct}

-- ─── fresh, or not ───────────────────────────────────────────────────────────

fresh-none : (w : ℕ) → fresh w [] ≡ 1
unfolding fresh is_in
fresh-none w = refl

fresh_equal : (w v : ℕ) (ws : List ℕ) → w ≡ v → fresh w (v ∷ ws) ≡ 0
unfolding fresh is_in
fresh_equal w v ws e = rw (eq-eqb w v e)

fresh-other : (w v : ℕ) (ws : List ℕ) → (w ≡ v → ⊥) → fresh w (v ∷ ws) ≡ fresh w ws
unfolding fresh is_in
fresh-other w v ws e = rw (ne_eqb w v e)

-- a number below all others is fresh
fresh_below : (w : ℕ) (ws : List ℕ) → All (λ v. w < v) ws → fresh w ws ≡ 1
fresh_below w [] h = fresh-none w
fresh_below w (v ∷ ws) h = fresh-other w v ws (λ e. let l = h.0 in omega arith) ∙ fresh_below w ws h.1

-- ─── one number more among ordered ones ──────────────────────────────────────

abbrev itself : ℕ → ℕ
itself x = x

abbrev Ordered : List ℕ → Type 0
Ordered ws = Pairs (λ x y. itself x ≤ itself y) ws

-- put before higher ones it is a run more, unless the first is equal
before-runs : (w v : ℕ) (vs : List ℕ) → Ordered (v ∷ vs) → w ≤ v → run_count (w ∷ (v ∷ vs)) ≡ fresh w (v ∷ vs) + run_count (v ∷ vs)
before-runs w v vs o l = go (ℕ_discrete w v)
  where
    go : Dec (w ≡ v) → run_count (w ∷ (v ∷ vs)) ≡ fresh w (v ∷ vs) + run_count (v ∷ vs)
    go (yes e) = omega (arith, count_cons w v vs, agree_same w v e, fresh_equal w v vs e)
    go (no e) =
        let h : w < v = omega arith in
        omega (
          arith,
          count_cons w v vs,
          agree-other w v e,
          fresh-other w v vs e,
          fresh_below w vs (all_map (λ x m. let z : w < x = omega arith in z) vs o.0),
        )

-- the same behind a lower one
behind_runs : (y w : ℕ) (vs : List ℕ) → Ordered (y ∷ vs) → y < w → run_count (y ∷ insert itself w vs) ≡ fresh w vs + run_count (y ∷ vs)
behind_runs y w [] o l =
    let ne : y ≡ w → ⊥ = λ e. omega arith in
    omega (arith, ap (λ (x : List ℕ). run_count (y ∷ x)) (insert-nil itself w), count_cons y w [], agree-other y w ne, count_one w, count_one y, fresh-none w)
behind_runs y w (v ∷ vs) o l = go (lt_or_le v w) (behind_runs v w vs o.1)
  where
    go : (v < w) ⊎ (w ≤ v) → (v < w → run_count (v ∷ insert itself w vs) ≡ fresh w vs + run_count (v ∷ vs))
        → run_count (y ∷ insert itself w (v ∷ vs)) ≡ fresh w (v ∷ vs) + run_count (y ∷ (v ∷ vs))
    go (inl m) r =
        let ne : w ≡ v → ⊥ = λ e. omega arith in
        omega (
          arith,
          ap (λ (x : List ℕ). run_count (y ∷ x)) (insert_gt itself w v vs m),
          count_cons y v (insert itself w vs),
          count_cons y v vs,
          r m,
          fresh-other w v vs ne,
        )
    go (inr m) r =
        let y-w : y ≡ w → ⊥ = λ e. omega arith in
        let y-v : y ≡ v → ⊥ = λ e. omega arith in
        omega (
          arith,
          ap (λ (x : List ℕ). run_count (y ∷ x)) (insert_le itself w v vs m),
          count_cons y w (v ∷ vs),
          agree-other y w y-w,
          count_cons y v vs,
          agree-other y v y-v,
          before-runs w v vs o.1 m,
        )

insert-runs : (w : ℕ) (vs : List ℕ) → Ordered vs → run_count (insert itself w vs) ≡ fresh w vs + run_count vs
insert-runs w [] o = omega (arith, ap run_count (insert-nil itself w), count_one w, count_none, fresh-none w)
insert-runs w (v ∷ vs) o = go (lt_or_le v w)
  where
    go : (v < w) ⊎ (w ≤ v) → run_count (insert itself w (v ∷ vs)) ≡ fresh w (v ∷ vs) + run_count (v ∷ vs)
    go (inl m) =
        let ne : w ≡ v → ⊥ = λ e. omega arith in
        omega (arith, ap run_count (insert_gt itself w v vs m), behind_runs v w vs o m, fresh-other w v vs ne)
    go (inr m) = ap run_count (insert_le itself w v vs m) ∙ before-runs w v vs o m

-- ─── sorted numbers ──────────────────────────────────────────────────────────

or_swap : (a b c : Bool) → (a || (b || c)) ≡ (b || (a || c))
or_swap true true c = refl
or_swap true false c = refl
or_swap false b c = refl

is_in_cons : (w v : ℕ) (vs : List ℕ) → is_in w (v ∷ vs) ≡ (eqb w v || is_in w vs)
unfolding is_in
is_in_cons w v vs = refl

is_in_insert : (w x : ℕ) (vs : List ℕ) → is_in w (insert itself x vs) ≡ is_in w (x ∷ vs)
is_in_insert w x [] = ap (is_in w) (insert-nil itself x)
is_in_insert w x (v ∷ vs) = go (lt_or_le v x) (is_in_insert w x vs)
  where
    go : (v < x) ⊎ (x ≤ v) → is_in w (insert itself x vs) ≡ is_in w (x ∷ vs) → is_in w (insert itself x (v ∷ vs)) ≡ is_in w (x ∷ (v ∷ vs))
    go (inl m) r =
        ap (is_in w) (insert_gt itself x v vs m)
        ∙ (is_in_cons w v (insert itself x vs)
        ∙ (ap (λ (b : Bool). eqb w v || b) (r ∙ is_in_cons w x vs)
        ∙ (or_swap (eqb w v) (eqb w x) (is_in w vs) ∙ sym (is_in_cons w x (v ∷ vs) ∙ ap (λ (b : Bool). eqb w x || b) (is_in_cons w v vs)))))
    go (inr m) r = ap (is_in w) (insert_le itself x v vs m)

is_in_sorted : (w : ℕ) (vs : List ℕ) → is_in w (sort_by itself vs) ≡ is_in w vs
is_in_sorted w [] = ap (is_in w) (sort_by_nil itself)
is_in_sorted w (v ∷ vs) =
    ap (is_in w) (sort_by_cons itself v vs)
    ∙ (is_in_insert w v (sort_by itself vs)
    ∙ (is_in_cons w v (sort_by itself vs) ∙ (ap (λ (b : Bool). eqb w v || b) (is_in_sorted w vs) ∙ sym (is_in_cons w v vs))))

fresh_sorted : (w : ℕ) (vs : List ℕ) → fresh w (sort_by itself vs) ≡ fresh w vs
unfolding fresh
fresh_sorted w vs = ap (λ (b : Bool). choose b 0 1) (is_in_sorted w vs)

-- the runs of sorted numbers are the different numbers
pub sorted_runs : (ws : List ℕ) → run_count (sort_by itself ws) ≡ distinct ws
unfolding distinct
sorted_runs [] = ap run_count (sort_by_nil itself) ∙ count_none
sorted_runs (w ∷ ws) =
    omega (arith, ap run_count (sort_by_cons itself w ws), insert-runs w (sort_by itself ws) (sort_by_ordered itself ws), fresh_sorted w ws, sorted_runs ws)

-- ─── sorted by their ids ─────────────────────────────────────────────────────

map-insert : (f : ℕ → ℕ) (x : ℕ) (ys : List ℕ) → map f (insert f x ys) ≡ insert itself (f x) (map f ys)
map-insert f x [] = ap (map f) (insert-nil f x) ∙ sym (insert-nil itself (f x))
map-insert f x (y ∷ ys) = go (lt_or_le (f y) (f x)) (map-insert f x ys)
  where
    go : (f y < f x) ⊎ (f x ≤ f y) → map f (insert f x ys) ≡ insert itself (f x) (map f ys) → map f (insert f x (y ∷ ys)) ≡ insert itself (f x) (f y ∷ map f ys)
    go (inl m) r = ap (map f) (insert_gt f x y ys m) ∙ (ap (λ (l : List ℕ). f y ∷ l) r ∙ sym (insert_gt itself (f x) (f y) (map f ys) m))
    go (inr m) r = ap (map f) (insert_le f x y ys m) ∙ sym (insert_le itself (f x) (f y) (map f ys) m)

map_sorted : (f : ℕ → ℕ) (xs : List ℕ) → map f (sort_by f xs) ≡ sort_by itself (map f xs)
map_sorted f [] = ap (map f) (sort_by_nil f) ∙ sym (sort_by_nil itself)
map_sorted f (x ∷ xs) =
    ap (map f) (sort_by_cons f x xs) ∙ (map-insert f x (sort_by f xs)
    ∙ (ap (insert itself (f x)) (map_sorted f xs) ∙ sym (sort_by_cons itself (f x) (map f xs))))

-- the weights of all ids are the weights
all_weights : (ws : List ℕ) → map (key_at ws) (count_from 0 (length ws)) ≡ ws
all_weights ws =
    let n : length (map (key_at ws) (count_from 0 (length ws))) ≡ length ws = length-map (count_from 0 (length ws)) (key_at ws) ∙ length_count 0 (length ws) in
    ext_get_or 0 (map (key_at ws) (count_from 0 (length ws))) ws n (λ i l. values_at (key_at ws) 0 0 (length ws) i (omega (arith, n)) ∙ at i)
  where
    at : (i : ℕ) → key_at ws (0 + i) ≡ get_or ws i 0
    at i = let e : 0 + i ≡ i = omega arith in ap (key_at ws) e

-- the runs of the weights in the order of their sorted ids
pub ids_runs : (ws : List ℕ) → run_count (map (key_at ws) (sort_by (key_at ws) (count_from 0 (length ws)))) ≡ distinct ws
ids_runs ws = ap run_count (map_sorted (key_at ws) (count_from 0 (length ws)) ∙ ap (sort_by itself) (all_weights ws)) ∙ sorted_runs ws

fresh_le : (w : ℕ) (ws : List ℕ) → fresh w ws ≤ 1
unfolding fresh
fresh_le w ws = go (is_in w ws)
  where
    go : (b : Bool) → choose b 0 1 ≤ 1
    go true = omega arith
    go false = omega arith

-- no more are different than there are
pub distinct_few : (ws : List ℕ) → distinct ws ≤ length ws
unfolding distinct
distinct_few [] = omega arith
distinct_few (w ∷ ws) = omega (arith, fresh_le w ws, distinct_few ws)
