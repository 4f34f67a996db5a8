-- READ: what it answers, and what it leaves in its three tables.
-- Specification: 9.1.
use Rattle.sheet.specs.declared.Filled.{Filled}
use Rattle.collection.specs.declared.refusal.Refusal.{Refusal}
use Rattle.std.specs.Prelude.{List, ℕ, length, Err, Result, Ok}
use Rattle.collection.specs.Judge.{size_verdict}
use Rattle.collection.specs.Strings.{letters_in, weights_in}
use Rattle.collection.specs.Tables.{Tables, filled_by, Rooms, rooms_of, rooms_verdict}
use Rattle.collection.specs.Verdict.{and_then, settle, Verdict}
use Rattle.sheet.specs.Sheet.{sheet_k, sheet_strings, sheet_verdict}

-- how many letters a sheet has
abbrev pub sheet_n : List ℕ → ℕ
sheet_n bs = length (letters_in (sheet_strings bs))

-- how many strings
abbrev pub sheet_m : List ℕ → ℕ
sheet_m bs = length (sheet_strings bs)

-- how many weights
abbrev pub sheet_weights : List ℕ → ℕ
sheet_weights bs = length (weights_in (sheet_strings bs))

-- the lines (11, 2, 11), then 3, then 1
unfoldable pub read_verdict : List ℕ → Rooms → Verdict
read_verdict bs r = and_then (sheet_verdict bs)
    (and_then (size_verdict (sheet_n bs) (sheet_m bs)) (rooms_verdict r (sheet_n bs) (sheet_m bs) (sheet_weights bs)))

-- so many entries are filled, of a sheet with this k
abbrev pub filled : ℕ → ℕ → ℕ → ℕ → Result Filled Refusal
filled k letters ends weights = Ok (record { k = k; letters = letters; ends = ends; weights = weights })

-- the answer, and the tables afterwards
pub record ReadOutcome : Type 0 where
  pub answer : Result Filled Refusal
  pub after : Tables

-- an outcome from its parts, as the promise of `read` gives them
abbrev pub read_outcome : Result Filled Refusal → Tables → ReadOutcome
read_outcome answer after = record { answer = answer; after = after }

-- what READ does with a sheet and three lent tables: refused, they stay as they were; else each is filled from its start
unfoldable pub read_of : List ℕ → Tables → ReadOutcome
read_of bs t =
    settle (read_verdict bs (rooms_of t))
    (λ r. read_outcome (Err r) t)
    (read_outcome (filled (sheet_k bs) (sheet_n bs) (sheet_m bs) (sheet_weights bs)) (filled_by (sheet_strings bs) t))
