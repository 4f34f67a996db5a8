-- Inner: what the functions ask that write all strings.
use Rattle.std.specs.Prelude.{List, map, ℕ, ◌≤◌, ℤ, nat_abs, length}
use Rattle.cover_trails.specs.Places.{SignedPermutation}
use Rattle.collection.specs.Collection.{Collection}
use Rattle.collection.specs.Judge.{Passes}
use Rattle.apply_places.specs.Marks.{Marks}

-- a judged collection, places that are a signed permutation, and work that names the string of each place
pub record Placeable (c : Collection) (places : List ℤ) (work : List ℕ) : Type 0 where
  pub passes : Passes c
  pub permutation : SignedPermutation (length c.ends) places
  pub marked : Marks (length c.ends) work (map nat_abs places)
  pub work_room : length c.ends ≤ length work
