-- Inner: what the function asks that judges the places and writes the strings.
use Rattle.std.specs.Prelude.{ℕ, ◌≤◌, length}
use Rattle.lists.specs.Limits.{most_strings}
use Rattle.collection.specs.Collection.{Collection}
use Rattle.collection.specs.Judge.{Passes}
use Rattle.collection.specs.Tables.{Rooms}

-- a collection that passes 2 to 6, and lent tables that are long enough
pub record Ready (c : Collection) (new : Rooms) (work : ℕ) : Type 0 where
  pub passes : Passes c
  pub few : length c.ends ≤ most_strings
  pub letters_room : length c.letters ≤ new.letters
  pub ends_room : length c.ends ≤ new.ends
  pub weights_room : length c.weights ≤ new.weights
  pub work_room : length c.ends ≤ work
