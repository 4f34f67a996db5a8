-- WEIGHT: the weight that a run list gives a handle.
-- Specification: 9.12.
use Rattle.collection.specs.declared.refusal.Refusal.{Refusal}
use Rattle.std.specs.Prelude.{List, ℕ, Ok, Err, Result}
use Rattle.collection.specs.Judge.{handle_verdict}
use Rattle.collection.specs.Verdict.{and_then, settle}
use Rattle.weight.specs.RunList.{run_list_verdict, weight_at}

-- 12, then 9; then the weight of the last run that starts at or before the handle
unfoldable pub weight_answer : List ℕ → List ℕ → ℕ → ℕ → Result ℕ Refusal
weight_answer weights firsts n handle =
    settle (and_then (run_list_verdict n weights firsts) (handle_verdict n handle)) Err (Ok (weight_at handle weights firsts))
