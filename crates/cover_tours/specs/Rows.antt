-- Inner: the rows of halves by their vertices, and the search for an unused half.
use Rattle.std.specs.Prelude.{◌≡◌, ◌⊎◌, List, ℕ, ◌*◌, ◌/◌, ◌%◌, ◌≤◌, ◌<◌, get_or}
use Rattle.cover_trails.specs.Counting.{occurs}
use Rattle.cover_trails.specs.Strings.{weights}
use Rattle.cover_tours.specs.Layout.{Tables}
use Rattle.cover_tours.specs.Halves.{near, unused}

-- where half c stands in the rows: all from the start of its vertex's row up to it are of its vertex
pub record InRow (f : ℕ → ℕ) (rows : List ℕ) (size c : ℕ) : Type 0 where
  pub at : ℕ
  pub inside : at < size
  pub is : get_or rows at 0 ≡ c
  pub behind : f c ≤ at
  pub one_row : (p : ℕ) → f c ≤ p → p ≤ at → f (get_or rows p 0) ≡ f c

-- strings in a table: their vertices, and rows that have the ends of strings and the spokes as seen from the hub
pub record Graph (m : ℕ) (verts rows : List ℕ) : Type 0 where
  pub verts_low : (c : ℕ) → c < 2 * m → get_or verts c 0 < 2 * m
  pub rows_low : (q : ℕ) → q < 4 * m → get_or rows q 0 < 6 * m
  pub in_row : (c : ℕ) → c < 6 * m → (c < 2 * m) ⊎ (c % 2 ≡ 0) → InRow (near m verts) rows (4 * m) c

-- no half in the rows from entry p up to entry e is unused
pub record Passed (rows used : List ℕ) (p e : ℕ) : Type 0 where
  pub all_used : (q : ℕ) → p ≤ q → q < e → get_or used (get_or rows q 0 / 2) 0 ≡ 0 → ⊥

-- the cursor of a vertex or of the hub: what it has passed in its row is used
pub record Cursor (m : ℕ) (rows used : List ℕ) (v at : ℕ) : Type 0 where
  pub low : v ≤ at
  pub high : at ≤ 4 * m
  pub passed : Passed rows used v at

-- all cursors are so
abbrev pub Cursors : ℕ → Tables → Type 0
Cursors m t = (v : ℕ) → v ≤ 2 * m → Cursor m t.rows t.used v (get_or t.cursors v 0)

-- where a search from entry `start` for an unused half at v stops
pub record Sought (m : ℕ) (t : Tables) (v start r : ℕ) : Type 0 where
  pub low : start ≤ r
  pub high : r ≤ 4 * m
  pub passed : Passed t.rows t.used start r
  pub stop : r < 4 * m → near m t.verts (get_or t.rows r 0) ≡ v → get_or t.used (get_or t.rows r 0 / 2) 0 ≡ 0

-- r is an unused half at v, or 6m where there is none
abbrev pub Answer : ℕ → Tables → ℕ → ℕ → Type 0
Answer m t v r =
    ((r ≡ 6 * m) × (occurs v (weights (unused (near m t.verts) 0 t.used)) ≡ 0))
    ⊎ ((r < 6 * m) × (get_or t.used (r / 2) 0 ≡ 0) × (near m t.verts r ≡ v))
