-- What `tally` writes: the bytes of its summary.
-- Specification: 10.4.
use Rattle.collection.specs.declared.refusal.Refusal.{Refusal}
use Rattle.collection.specs.declared.refusal.Told.{Told}
use Rattle.collection.specs.Verdict.{told}
use Rattle.std.specs.Prelude.{List, ℕ, Ok, Err, Result}
use Rattle.summary_text.specs.declared.Numbers.{Numbers}
use Rattle.summary_text.specs.Text.{text_for}
use Rattle.summary_text.specs.Written.{Outcome, written_of}
use Rattle.summary.specs.Summary.{summary_of}

-- a summary as it is told: the same numbers, or the number and the place of its refusal
unfoldable pub as_told : Result Numbers Refusal → Result Numbers Told
as_told (Ok numbers) = Ok numbers
as_told (Err r) = Err (told (Err r))

-- from the bytes of a sheet to the bytes that are written
unfoldable pub text_of : List ℕ → List ℕ
text_of bs = text_for (as_told (summary_of bs))

-- what a report does with a lent table: 1 where it is too short for these bytes, else it starts with them
unfoldable pub report_of : List ℕ → List ℕ → Outcome
report_of bs text = written_of (text_of bs) text
