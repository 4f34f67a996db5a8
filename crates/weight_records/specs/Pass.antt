-- Inner: the one pass over a list of records: what is known before any, after one more, and what is answered after all.
use Rattle.collection.specs.declared.refusal.Refusal.TheVariants.{RunList}
use Rattle.collection.specs.declared.refusal.Refusal.{Refusal}
use Rattle.std.specs.Prelude.{Bool, true, false, ◌&&◌, ◌||◌, List, [], ◌∷◌, ℕ, leb, eqb, Ok, Err, Result}
use Rattle.lists.specs.Choose.{choose}
use Rattle.lists.specs.Limits.{most_letters}
use Rattle.collection.specs.Judge.{handle_verdict}
use Rattle.collection.specs.Verdict.{and_then, settle, Verdict, good}
use Rattle.weight.specs.RunList.{begins, follows}
use Rattle.weight_records.specs.declared.Run.{Run}
use Rattle.weight_records.specs.declared.State.{State}

-- the run may come next: after a run it may follow that one, else it may be the first
abbrev pub fits : State → Run → Bool
fits s r = choose s.begun (follows s.n s.weight s.first r.weight r.first) (begins s.n r.weight r.first)

-- the weight of the last run that starts at or before the handle
abbrev pub found_by : State → Run → ℕ
found_by s r = choose (leb r.first s.handle) r.weight s.found

-- before any run: n is at most 1,048,576
abbrev pub started : ℕ → ℕ → State
started n handle = record { good = leb n most_letters; begun = false; weight = 0; first = 0; found = 0; n = n; handle = handle }

-- after one more run
abbrev pub stepped : State → Run → State
stepped s r = record { good = s.good && fits s r; begun = true; weight = r.weight; first = r.first; found = found_by s r; n = s.n; handle = s.handle }

-- after a list of runs
unfoldable pub passed : State → List Run → State
passed s [] = s
passed s (r ∷ rs) = passed (stepped s r) rs

-- 12: a run that did not fit, n above 1,048,576, or no run although n is not 0
unfoldable pub list_verdict : State → Verdict
list_verdict s = choose (s.good && (s.begun || eqb s.n 0)) good (Err RunList)

-- 12, then 9; then the weight that was found
unfoldable pub finished : State → Result ℕ Refusal
finished s = settle (and_then (list_verdict s) (handle_verdict s.n s.handle)) Err (Ok s.found)
