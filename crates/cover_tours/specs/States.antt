-- Inner: the table before and after each step of a walk, and between walks.
use Rattle.std.specs.Prelude.{◌≡◌, List, [], ◌++◌, map, ℕ, ◌+◌, ◌*◌, ◌/◌, ◌≤◌, ◌<◌, length, get_or, set, drop}
use Rattle.cover_trails.specs.Counting.{occurs}
use Rattle.cover_trails.specs.Strings.{Ends}
use Rattle.cover_trails.specs.Walks.{Reordered, AllEven, Closed}
use Rattle.cover_trails.specs.Hub.{spoked, Toured}
use Rattle.cover_tours.specs.Layout.{Tables}
use Rattle.cover_tours.specs.Halves.{near, gone, unused, numbered}
use Rattle.cover_tours.specs.Rows.{Graph, Cursors, Answer}

-- ─── single steps ────────────────────────────────────────────────────────────

-- a cursor moves
abbrev pub moved : Tables → ℕ → ℕ → Tables
moved t v e = record { verts = t.verts; used = t.used; rows = t.rows; cursors = set t.cursors v e; stack = t.stack }

-- half c is taken as number n of the walk
abbrev pub taken : Tables → ℕ → ℕ → Tables
taken t n c = record { verts = t.verts; used = set t.used (c / 2) 1; rows = t.rows; cursors = t.cursors; stack = set t.stack n c }

-- number n of the walk is given back to entry z
abbrev pub returned : Tables → ℕ → ℕ → Tables
returned t n z = record { verts = t.verts; used = t.used; rows = t.rows; cursors = t.cursors; stack = set t.stack z (get_or t.stack n 0) }

-- the vertices and rows, which no walk changes, are those of t
pub record Same (t u : Tables) : Type 0 where
  pub verts : u.verts ≡ t.verts
  pub rows : u.rows ≡ t.rows

-- What a search for an unused half at v makes of the table t: only v's cursor moves, and r is the answer.
pub record Found (m : ℕ) (t u : Tables) (v r : ℕ) : Type 0 where
  pub cursor : ℕ
  pub moves : u ≡ moved t v cursor
  pub kept : Cursors m u
  pub answer : Answer m t v r

-- ─── between two walks ───────────────────────────────────────────────────────

-- what is unused
abbrev pub left : ℕ → Tables → List Ends
left m t = unused (near m t.verts) 0 t.used

-- the halves cs by their vertices
abbrev pub along : ℕ → Tables → List ℕ → List Ends
along m t cs = map (gone (near m t.verts)) cs

-- the numbers of their strings and spokes
abbrev pub numbers : List ℕ → List ℕ
numbers cs = map (λ c. c / 2) cs

-- Walks gave back the halves from entry z on; T are halves that a walk holds.
pub record Between (m : ℕ) (t : Tables) (T : List ℕ) (z : ℕ) : Type 0 where
  pub graph : Graph m t.verts t.rows
  pub cursors : Cursors m t
  pub used_size : length t.used ≡ 3 * m
  pub stack_size : length t.stack ≡ 3 * m
  pub cursors_size : length t.cursors ≡ 3 * m
  pub high : z ≤ 3 * m
  pub flags : (e : ℕ) → get_or t.used e 0 ≤ 1
  -- each string is unused, or stands there once
  pub listed : (e : ℕ) → e < m → occurs e (numbers T) + occurs e (numbers (drop z t.stack)) ≡ get_or t.used e 0

-- A walk can start.
pub record Ready (m : ℕ) (t : Tables) (z : ℕ) : Type 0 where
  pub between : Between m t [] z
  pub room : length (left m t) ≤ z
  pub even : AllEven (left m t)

-- A closed walk from s gave back the halves Z, before those that stood from entry z on.
pub record Walked (m : ℕ) (t u : Tables) (s z r : ℕ) : Type 0 where
  pub same : Same t u
  pub ready : Ready m u r
  pub grown : (e : ℕ) → get_or u.used e 0 ≡ 0 → get_or t.used e 0 ≡ 0
  pub Z : List ℕ
  pub gave : drop r u.stack ≡ Z ++ drop z t.stack
  pub closed : Closed s (left m t) (left m u) (along m t Z)

-- ─── all walks ───────────────────────────────────────────────────────────────

-- the strings by their vertices
abbrev pub strings : ℕ → Tables → List Ends
strings m t = numbered (near m t.verts) 0 m

-- All is unused but the spokes to even vertices, and nothing is given back.
pub record Begun (m : ℕ) (t : Tables) : Type 0 where
  pub ready : Ready m t (3 * m)
  pub spokes : Reordered (spoked (2 * m) (strings m t)) (left m t)

-- The walk from the hub and `walks` later walks gave back the halves from entry z on.
pub record Touring (m : ℕ) (t : Tables) (z walks : ℕ) : Type 0 where
  pub ready : Ready m t z
  pub toured : Toured (2 * m) (strings m t) walks (left m t) (along m t (drop z t.stack))

-- String i is used after a visit, by a walk from it if it was not before.
pub record Visited (m : ℕ) (t u : Tables) (i z walks : ℕ) : Type 0 where
  pub same : Same t u
  pub touring : Touring m u z walks
  pub grown : (e : ℕ) → get_or u.used e 0 ≡ 0 → get_or t.used e 0 ≡ 0
  pub is_used : get_or u.used i 0 ≡ 0 → ⊥

-- All strings are used: the halves from entry z on are the walk from the hub and `walks` later walks.
pub record Done (m : ℕ) (t u : Tables) (z walks : ℕ) : Type 0 where
  pub same : Same t u
  pub high : z ≤ 3 * m
  pub size : length u.stack ≡ 3 * m
  pub toured : Toured (2 * m) (strings m t) walks [] (along m t (drop z u.stack))
  pub once : (e : ℕ) → e < m → occurs e (numbers (drop z u.stack)) ≡ 1
