-- Bytes written to a lent table.
-- Specification: 10.4.
use Rattle.collection.specs.declared.refusal.Refusal.{Refusal}
use Rattle.std.specs.Prelude.{List, ℕ, length, Ok, Err, Result}
use Rattle.lists.specs.Fill.{fill}
use Rattle.collection.specs.Verdict.{settle, room_verdict}

-- the answer, and the table afterwards
pub record Outcome : Type 0 where
  pub answer : Result ℕ Refusal
  pub text : List ℕ

-- an outcome from its parts, as the promise of a report gives them
abbrev pub outcome : Result ℕ Refusal → List ℕ → Outcome
outcome answer text = record { answer = answer; text = text }

-- 1, and the table as it was, where it is too short; else it starts with the bytes
unfoldable pub written_of : List ℕ → List ℕ → Outcome
written_of bytes text =
    settle (room_verdict (length text) (length bytes)) (λ r. outcome (Err r) text)
    (outcome (Ok (length bytes)) (fill bytes text))
