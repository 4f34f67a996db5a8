-- Inner: a sheet judged: what it holds, or its first refusal.
use Rattle.collection.specs.declared.refusal.Refusal.{Refusal}
use Rattle.sheet_read.specs.declared.Held.{Held}
use Rattle.std.specs.Prelude.{List, ℕ, ◌+◌, length, Ok, Err, Result}
use Rattle.collection.specs.Judge.{size_verdict}
use Rattle.collection.specs.Tables.{Rooms, rooms_verdict}
use Rattle.collection.specs.Verdict.{and_then, settle, Verdict}
use Rattle.text.specs.Parts.{up_to, feed}
use Rattle.sheet.specs.Read.{sheet_n, sheet_m, sheet_weights, read_verdict}
use Rattle.sheet.specs.Sheet.{sheet_k, sheet_verdict}

-- a sheet read: its k, where line 2 starts, and how many letters, strings and weights it holds
abbrev pub read_as : ℕ → ℕ → ℕ → ℕ → ℕ → Result Held Refusal
read_as k next n m w = Ok (record { k = k; next = next; letters = n; strings = m; weights = w })

-- what a sheet holds, and where line 2 starts
abbrev pub held : List ℕ → Result Held Refusal
held s = read_as (sheet_k s) (length (up_to feed s) + 1) (sheet_n s) (sheet_m s) (sheet_weights s)

-- a sheet judged by its lines
unfoldable pub judged_of : List ℕ → Result Held Refusal
judged_of s = settle (sheet_verdict s) Err (held s)

-- 3, then 1: n letters, m strings and w weights for tables of these lengths
abbrev pub counts_verdict : ℕ → ℕ → ℕ → Rooms → Verdict
counts_verdict n m w r = and_then (size_verdict n m) (rooms_verdict r n m w)

-- a sheet judged for tables of these lengths
unfoldable pub judged_in : List ℕ → Rooms → Result Held Refusal
judged_in s r = settle (read_verdict s r) Err (held s)
