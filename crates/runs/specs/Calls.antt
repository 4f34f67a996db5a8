-- What RUNS answers and leaves in its two tables.
-- Specification: 9.6.
use Rattle.std.specs.Prelude.{List, ℕ, length, Result, Ok, Err}
use Rattle.lists.specs.Fill.{fill}
use Rattle.collection.specs.Collection.{Collection}
use Rattle.collection.specs.declared.refusal.Refusal.{Refusal}
use Rattle.collection.specs.Judge.{collection_verdict}
use Rattle.collection.specs.Verdict.{Verdict, and_then, settle, room_verdict}
use Rattle.runs.specs.Runs.{weights_of_runs, firsts_of_runs, run_count}

-- the answer, how many runs or why not, and what the two tables hold afterwards
pub record Outcome : Type 0 where
  pub answer : Result ℕ Refusal
  pub weights_after : List ℕ
  pub firsts_after : List ℕ

abbrev pub outcome : Result ℕ Refusal → List ℕ → List ℕ → Outcome
outcome answer weights firsts = record { answer = answer; weights_after = weights; firsts_after = firsts }

-- 2 to 6, then 1: each table needs as many entries as there are runs
unfoldable pub runs_verdict : Collection → ℕ → ℕ → Verdict
runs_verdict c room₁ room₂ =
    and_then (collection_verdict c) (and_then (room_verdict room₁ (run_count c.weights)) (room_verdict room₂ (run_count c.weights)))

-- refused, both tables as they were; else the run list in their first entries, and how many runs
unfoldable pub runs_of : Collection → List ℕ → List ℕ → Outcome
runs_of c table₁ table₂ =
    settle (runs_verdict c (length table₁) (length table₂))
    (λ refusal. outcome (Err refusal) table₁ table₂)
    (outcome (Ok (run_count c.weights)) (fill (weights_of_runs c.weights) table₁) (fill (firsts_of_runs c.weights) table₂))
