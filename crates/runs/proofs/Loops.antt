-- Runs as loops go over the weights. Assumes nothing.
use mathlib.Core.Path.{◌≡◌, refl, sym, ap, ◌∙◌}
use mathlib.Core.List.{List, [], ◌∷◌, map}
use Prim.Native.Nat.{ℕ, ◌+◌, ◌<◌, ◌≤◌}
use native.Mathlib.Numerals.{add-one}
use native.Mathlib.Omega.{arith}
use borrow.Author.Tests.{eq-eqb, ne_eqb}
use lib.ListN.{length, drop, get_or, set, length-set, length-map, drop_of_length-le}
use lib.Seq.{drop-cons}
use Rattle.lists.specs.Fill.{put, fill}
use Rattle.lists.proofs.Storing.{put_next, put_start}
use Rattle.runs.specs.Runs.{Run, later_runs, runs}

-- ─── runs ────────────────────────────────────────────────────────────────────

module _ (h w : ℕ) (ws : List ℕ) (i : ℕ) (l : i < length ws) where
  pub later_same : get_or ws i 0 ≡ w → later_runs h w (drop i ws) ≡ later_runs (h + 1) w (drop (i + 1) ws)
  unfolding later_runs
  later_same e = rw (drop-cons ws i 0, eq-eqb _ _ e, add-one h, add-one i)

  -- weight i is another: a run starts at the next handle
  pub later_new : (get_or ws i 0 ≡ w → ⊥) → (first : ℕ) → first ≡ h + 1
      → later_runs h w (drop i ws) ≡ (get_or ws i 0, first) ∷ later_runs (h + 1) (get_or ws i 0) (drop (i + 1) ws)
  unfolding later_runs
  later_new e first q = rw (q, drop-cons ws i 0, ne_eqb _ _ e, add-one h, add-one i)

-- no weight is left
pub later_end : (h w : ℕ) (ws : List ℕ) (i : ℕ) → length ws ≤ i → later_runs h w (drop i ws) ≡ []
unfolding later_runs
later_end h w ws i l = rw (drop_of_length-le ws l)

-- the first weight starts a run
pub runs_first : (ws rest : List ℕ) (w : ℕ) → ws ≡ w ∷ rest → runs ws ≡ (w, 1) ∷ later_runs 1 w rest
unfolding runs
runs_first ws rest w e = ap runs e

pub runs_none : (ws : List ℕ) → length ws ≡ 0 → runs ws ≡ []
unfolding runs
runs_none [] h = refl
runs_none (w ∷ ws) h = absurd (omega arith)

-- a column of the run list, stored from its second entry on after its first was stored
pub column_stored : (column : Run → ℕ) (ws rest : List ℕ) (w : ℕ) (table : List ℕ) → ws ≡ w ∷ rest → 0 < length table
    → put 1 (map column (later_runs 1 w rest)) (set table 0 (column (w, 1))) ≡ fill (map column (runs ws)) table
column_stored column ws rest w table e l =
    put_next 0 table (map column (later_runs 1 w rest)) (column (w, 1)) l
    ∙ (put_start (column (w, 1) ∷ map column (later_runs 1 w rest)) table ∙ ap (λ (rs : List Run). fill (map column rs) table) (sym (runs_first ws rest w e)))

pub column_none : (column : Run → ℕ) (ws : List ℕ) (table : List ℕ) → length ws ≡ 0 → table ≡ fill (map column (runs ws)) table
column_none column ws table h = sym (ap (λ (rs : List Run). fill (map column rs) table) (runs_none ws h))

-- ─── room for the run list ───────────────────────────────────────────────────

-- a table with room for the runs has an entry where there is a weight
pub room_some : (ws rest : List ℕ) (w room : ℕ) → ws ≡ w ∷ rest → length (runs ws) ≤ room → 0 < room
room_some ws rest w room e l = omega (arith, ap length (runs_first ws rest w e))

pub room_rest : (column : Run → ℕ) (ws rest : List ℕ) (w : ℕ) (table : List ℕ) (x : ℕ) → ws ≡ w ∷ rest → length (runs ws) ≤ length table
    → 1 + length (map column (later_runs 1 w rest)) ≤ length (set table 0 x)
room_rest column ws rest w table x e l =
    rw (length-set table 0 x) (omega (arith, ap length (runs_first ws rest w e), length-map (later_runs 1 w rest) column))
