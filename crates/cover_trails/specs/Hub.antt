-- Inner: the hub, its spokes, and the state between two walks. COVER's promise cites none of this; the contracts of its walks (`cover_tours`) do, and the proof
-- that some order has E + O / 2 paths.
use Rattle.std.specs.Prelude.{◌≡◌, List, [], ◌∷◌, ◌++◌, map, ℕ, zero, suc, ◌+◌, ◌*◌, ◌≤◌}
use Rattle.lists.specs.Count.{agree}
use Rattle.cover_trails.specs.Counting.{occurs, oddly, sum_below, above}
use Rattle.cover_trails.specs.Strings.{Ends, front, back, weights}
use Rattle.cover_trails.specs.Paths.{path_count}
use Rattle.cover_trails.specs.Groups.{name_of, even_group, odd_weights}
use Rattle.cover_trails.specs.Walks.{Reordered, AllEven}

-- ─── the spokes ──────────────────────────────────────────────────────────────

-- s in front of L, unless the number is 0
abbrev pub spoke_if : ℕ → Ends → List Ends → List Ends
spoke_if zero s L = L
spoke_if (suc j) s L = s ∷ L

-- a string from the hub h to each weight below n that occurs oddly often in ws
unfoldable pub spokes : ℕ → List ℕ → ℕ → List Ends
spokes h ws zero = []
spokes h ws (suc n) = spoke_if (oddly ws n) (h, n) (spokes h ws n)

-- a bound of the end weights
abbrev pub limit : List Ends → ℕ
limit strings = above (weights strings)

-- the strings with a spoke to each of their odd weights
abbrev pub spoked : ℕ → List Ends → List Ends
spoked h strings = spokes h (weights strings) (limit strings) ++ strings

-- s in front of L, if both numbers are 0
abbrev pub keep_if : ℕ → ℕ → Ends → List Ends → List Ends
keep_if zero zero s L = s ∷ L
keep_if zero (suc j) s L = L
keep_if (suc i) j s L = L

-- the strings that do not touch the hub h
unfoldable pub unspoked : ℕ → List Ends → List Ends
unspoked h [] = []
unspoked h (s ∷ L) = keep_if (agree h (front s)) (agree h (back s)) s (unspoked h L)

-- ─── the state between two walks ─────────────────────────────────────────────

-- 1 where both are positive, else 0
abbrev pub reached_if : ℕ → ℕ → ℕ
reached_if zero n = 0
reached_if (suc m) zero = 0
reached_if (suc m) (suc n) = 1

-- 1 for an all-even group l of the strings that has an end weight of Y, else 0
abbrev pub reached_by : List Ends → List Ends → ℕ → ℕ
reached_by strings Y l = reached_if (even_group (limit strings) (name_of strings) (weights strings) l) (occurs l (map (name_of strings) (weights Y)))

-- the number of all-even groups of the strings that Y reaches
abbrev pub groups_reached : List Ends → List Ends → ℕ
groups_reached strings Y = sum_below (limit strings) (reached_by strings Y)

-- The walk from the hub h and j later walks used the strings Y, spokes among them, and U are left.
pub record Toured (h : ℕ) (strings : List Ends) (j : ℕ) (U Y : List Ends) : Type 0 where
  pub all : Reordered (spoked h strings) (U ++ Y)
  pub even : AllEven U
  -- each weight has all of its strings used, or none
  pub apart : (v : ℕ) → 1 ≤ occurs v (weights Y) → occurs v (weights U) ≡ 0
  -- the spokes are used
  pub hub_spent : occurs h (weights U) ≡ 0
  -- O / 2 paths, and one for each later walk
  pub few : 2 * path_count (unspoked h Y) ≤ odd_weights strings + 2 * j
  -- each later walk reached an all-even group of its own
  pub own_groups : j ≤ groups_reached strings Y
