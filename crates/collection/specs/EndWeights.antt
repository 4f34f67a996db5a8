-- The end weights of the strings of a collection: COVER joins strings whose end weights are equal, and its promise speaks of them.
-- Specification: 5.2.
use Rattle.std.specs.Prelude.{List, map, ℕ, ◌-◌, length, get_or}
use Rattle.collection.specs.Collection.{Collection}
use Rattle.collection.specs.Strings.{Str, strings}

-- the weights of a string's first and last k-mer: a string of one k-mer has the same weight at both ends
abbrev pub ends_of : Str → ℕ × ℕ
ends_of s = (get_or s.weights 0 0, get_or s.weights (length s.weights - 1) 0)

-- those of all strings
unfoldable pub end_weights : Collection → List (ℕ × ℕ)
end_weights c = map ends_of (strings c)
