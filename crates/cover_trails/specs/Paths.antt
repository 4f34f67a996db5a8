-- The paths of an order: the maximal chains of neighbouring strings that join at equal weights (`together_paths`, `paths_maximal` in proofs/Paths).
-- Specification: 5.3.
use Rattle.std.specs.Prelude.{Bool, true, false, List, [], ◌∷◌, ℕ, eqb, length}
use Rattle.cover_trails.specs.Strings.{Ends, front, back}

-- does s join the string t behind it?
abbrev pub joins : Ends → Ends → Bool
joins s t = eqb (back s) (front t)

-- s before the paths of the strings behind it: where it joins, the first of them starts with s, else s is a path of its own
abbrev pub before : Bool → Ends → List (List Ends) → List (List Ends)
before true s [] = (s ∷ []) ∷ []
before true s (path ∷ others) = (s ∷ path) ∷ others
before false s others = (s ∷ []) ∷ others

-- the paths of the order that starts with s
unfoldable pub paths_from : Ends → List Ends → List (List Ends)
paths_from s [] = (s ∷ []) ∷ []
paths_from s (t ∷ order) = before (joins s t) s (paths_from t order)

-- the paths of an order
unfoldable pub paths : List Ends → List (List Ends)
unfolding paths_from
paths [] = []
paths (s ∷ order) = paths_from s order

-- the number of paths
abbrev pub path_count : List Ends → ℕ
path_count order = length (paths order)
