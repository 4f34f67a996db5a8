-- A run list as one list of records, each a weight and its first handle. WEIGHT over it is `weight_answer` of crate `runs`, on the list of the
-- records' weights and the list of their first handles.
-- Specification: 9.13.
use Rattle.std.specs.Prelude.{List, [], ◌∷◌, ℕ}
use Rattle.weight_records.specs.declared.Run.{Run}

-- the weight of a record
abbrev pub weight_in : Run → ℕ
weight_in r = r.weight

-- the first handle of a record
abbrev pub first_in : Run → ℕ
first_in r = r.first

-- the records of two tables, as many as the shorter has
unfoldable pub records_of : List ℕ → List ℕ → List Run
records_of [] firsts = []
records_of (w ∷ weights) [] = []
records_of (w ∷ weights) (f ∷ firsts) = record { weight = w; first = f } ∷ records_of weights firsts
