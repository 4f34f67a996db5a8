-- WRITE: what it answers, and what it leaves in its table.
-- Specification: 9.2.
use Rattle.collection.specs.declared.refusal.Refusal.{Refusal}
use Rattle.std.specs.Prelude.{List, ℕ, length, Ok, Err, Result}
use Rattle.lists.specs.Fill.{fill}
use Rattle.collection.specs.Collection.{Collection}
use Rattle.collection.specs.Judge.{collection_verdict}
use Rattle.collection.specs.Verdict.{and_then, settle, room_verdict, Verdict}
use Rattle.sheet.specs.Text.{write_text}

-- 2 to 6, then 1: a table of `have` bytes for the sheet
unfoldable pub write_verdict : Collection → ℕ → Verdict
write_verdict c have = and_then (collection_verdict c) (room_verdict have (length (write_text c)))

-- the answer, and the table afterwards
pub record WriteOutcome : Type 0 where
  pub answer : Result ℕ Refusal
  pub sheet : List ℕ

-- an outcome from its parts, as the promise of `write` gives them
abbrev pub write_outcome : Result ℕ Refusal → List ℕ → WriteOutcome
write_outcome answer sheet = record { answer = answer; sheet = sheet }

-- what WRITE does with a collection and a lent table: refused, it stays as it was; else it starts with the collection's sheet
unfoldable pub write_of : Collection → List ℕ → WriteOutcome
write_of c sheet =
    settle (write_verdict c (length sheet))
    (λ r. write_outcome (Err r) sheet)
    (write_outcome (Ok (length (write_text c))) (fill (write_text c) sheet))
