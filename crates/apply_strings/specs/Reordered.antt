-- Strings in a new order, some of them turned.
-- Specification: 9.5.
use Rattle.std.specs.Prelude.{List, ℤ}
use Rattle.cover_trails.specs.Places.{arranged}
use Rattle.collection.specs.Collection.{Collection}
use Rattle.collection.specs.Strings.{Str, strings}
use Rattle.apply_strings.specs.Turned.{turn_str}

-- the strings in their new order, turned where the place is negative, weights turned with them
abbrev pub reordered : Collection → List ℤ → List Str
reordered c places = arranged turn_str places (strings c)
