-- What a host sees of each call that fills tables: its answer told, and the tables as the call's own definition leaves them.
-- Specification: 11.
use Rattle.collection.specs.declared.refusal.Refusal.{Refusal}
use Rattle.cover.specs.declared.Covered.{Covered}
use Rattle.std.specs.Prelude.{List, ◌≡◌, ℕ, ◌≤◌, ℤ, length, Result}
use Rattle.cover.specs.Cover.{Promise}
use Rattle.index.specs.Indexing as index
use Rattle.apply.specs.Apply as apply
use Rattle.repeats.specs.Check as check
use Rattle.runs.specs.Calls as runs
use Rattle.sheet.specs.Read.{ReadOutcome}
use Rattle.sheet.specs.Write.{WriteOutcome}
use Rattle.exports_replies.specs.Exported.{Exported, exported, exported_of}
use Rattle.exports_replies.specs.Replies.{read_reply, count_reply, cover_reply, apply_reply, index_reply}
use Rattle.collection.specs.Collection.{Collection}
use Rattle.collection.specs.Tables.{Tables}

-- letters, ends and weights
abbrev pub read_exported : List ℕ → Tables → ReadOutcome → Exported Tables
read_exported answer before o = exported_of answer before (read_reply o.answer) o.after

-- the sheet
abbrev pub write_exported : List ℕ → List ℕ → WriteOutcome → Exported (List ℕ)
write_exported answer before o = exported_of answer before (count_reply o.answer) o.sheet

-- work
abbrev pub check_exported : List ℕ → List ℕ → check.Outcome → Exported (List ℕ)
check_exported answer before o = exported_of answer before (count_reply o.answer) o.work

-- new letters, new ends, new weights and work
abbrev pub apply_exported : List ℕ → apply.Lent → apply.Outcome → Exported apply.Lent
apply_exported answer before o = exported_of answer before (apply_reply o.answer) o.after

-- the weights and the first handles of the runs
abbrev pub runs_exported : List ℕ → List ℕ × List ℕ → runs.Outcome → Exported (List ℕ × List ℕ)
runs_exported answer before o = exported_of answer before (count_reply o.answer) (o.weights_after, o.firsts_after)

-- the four tables of the index, and work
abbrev pub index_exported : List ℕ → index.Lent → index.Outcome → Exported index.Lent
index_exported answer before o = exported_of answer before (index_reply o.answer) o.after

-- COVER's promise is a relation. Where the answer table is long enough it holds of an answer, and that answer is told.
pub record CoverExported (c : Collection) (places : List ℤ) (work answer : List ℕ) (number : ℕ) (places' : List ℤ) (work' answer' : List ℕ) : Type 0 where
  pub given : Result Covered Refusal
  pub promised : 4 ≤ length answer → Promise c places work given places' work'
  pub shown : exported {Tables = List ℤ × List ℕ} number answer' (places', work') ≡ exported_of answer (places, work) (cover_reply given) (places', work')
