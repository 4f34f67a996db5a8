-- Inner: the regions of the work table of 16m entries while it is walked over. The last m entries are not used then.
use Rattle.std.specs.Prelude.{◌≡◌, List, ℕ, ◌*◌, ◌≤◌, length}
use Rattle.lists.specs.Regions.{part}
use Rattle.lists.specs.Limits.{most_strings}

-- a table that has the regions, for m strings
pub record Fits (m : ℕ) (w : List ℕ) : Type 0 where
  pub some : 1 ≤ m
  pub few : m ≤ most_strings
  pub size : length w ≡ 16 * m

-- what the regions hold
pub record Tables : Type 0 where
  -- the vertex of each of the 2m ends of strings
  pub verts : List ℕ
  -- for each of m strings and 2m spokes, whether it is used
  pub used : List ℕ
  -- halves in rows: those of one vertex v from entry v on
  pub rows : List ℕ
  -- how far each vertex's row was searched
  pub cursors : List ℕ
  -- halves that walks took: the walk that goes on from the left, what walks gave back from the right
  pub stack : List ℕ

-- the regions of a table
abbrev pub tables : ℕ → List ℕ → Tables
tables m w = record {
  verts = part 0 (2 * m) w;
  used = part (2 * m) (3 * m) w;
  rows = part (5 * m) (4 * m) w;
  cursors = part (9 * m) (3 * m) w;
  stack = part (12 * m) (3 * m) w;
}
