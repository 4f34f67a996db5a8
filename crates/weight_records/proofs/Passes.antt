-- One pass over a list of records gives what `weight_answer` says of its weights and first handles. Assumes nothing.
--     passed-answers     what is answered after all records is WEIGHT's answer
--     passed_none, passed_more     what is known after no record, and after one more
use mathlib.Core.Path.{◌≡◌, refl, sym, ◌∙◌, ap, ap₂}
use mathlib.Core.Bool.{Bool, true, ◌&&◌, ◌||◌}
use mathlib.Core.List.{List, [], ◌∷◌, ◌++◌, map}
use Prim.Native.Nat.{ℕ}
use lib.Dec.{leb, eqb}
use Rattle.std.specs.Prelude.{Ok, Err}
use Rattle.collection.specs.declared.refusal.Refusal.TheVariants.{RunList}
use Rattle.lists.specs.Choose.{choose}
use Rattle.lists.specs.Limits.{most_letters}
use Rattle.lists.proofs.Every.{and_assoc, and_true}
use Rattle.collection.specs.Judge.{handle_verdict}
use Rattle.collection.specs.Verdict.{and_then, settle, Verdict, good}
use Rattle.weight.specs.Weight.{weight_answer}
use Rattle.weight.specs.RunList.{follows, all_follow, is_run_list, run_list_verdict, last_at, begins}
use Rattle.weight_records.specs.declared.Run.{Run}
use Rattle.weight_records.specs.declared.State.{State}
use Rattle.weight_records.specs.Records.{weight_in, first_in}
use Rattle.weight_records.specs.Pass.{fits, started, stepped, passed, list_verdict, finished}

abbrev weights_in : List Run → List ℕ
weights_in rs = map weight_in rs

abbrev firsts_in : List Run → List ℕ
firsts_in rs = map first_in rs

-- ─── what no run changes, and what each adds ─────────────────────────────────

n_stays : (s : State) (rs : List Run) → (passed s rs).n ≡ s.n
unfolding passed
n_stays s [] = refl
n_stays s (r ∷ rs) = n_stays (stepped s r) rs

handle_stays : (s : State) (rs : List Run) → (passed s rs).handle ≡ s.handle
unfolding passed
handle_stays s [] = refl
handle_stays s (r ∷ rs) = handle_stays (stepped s r) rs

-- what was found is the weight of the last run that starts at or before the handle
found_last : (s : State) (rs : List Run) → (passed s rs).found ≡ last_at s.handle s.found (weights_in rs) (firsts_in rs)
unfolding passed last_at
found_last s [] = refl
found_last s (r ∷ rs) = found_last (stepped s r) rs

-- after a run there was one
begun_stays : (s : State) (rs : List Run) → s.begun ≡ true → (passed s rs).begun ≡ true
unfolding passed
begun_stays s [] e = e
begun_stays s (r ∷ rs) e = begun_stays (stepped s r) rs refl

-- after a run, the others pass where each may follow the one before it
good_follow : (s : State) (rs : List Run) → s.begun ≡ true
    → (passed s rs).good ≡ (s.good && all_follow s.n s.weight s.first (weights_in rs) (firsts_in rs))
unfolding passed all_follow
good_follow s [] e = sym (and_true s.good)
good_follow s (r ∷ rs) e =
    good_follow (stepped s r) rs refl
    ∙ (sym (and_assoc s.good (fits s r) rest)
    ∙ ap (λ (b : Bool). s.good && (choose b (follows s.n s.weight s.first r.weight r.first) (begins s.n r.weight r.first) && rest)) e)
  where
    rest : Bool
    rest = all_follow s.n r.weight r.first (weights_in rs) (firsts_in rs)

-- ─── the whole list ──────────────────────────────────────────────────────────

module _ (n handle : ℕ) where
  -- the runs that were read are the run list of n k-mers
  good_list : (rs : List Run)
      → ((passed (started n handle) rs).good && ((passed (started n handle) rs).begun || eqb n 0))
      ≡ (leb n most_letters && is_run_list n (weights_in rs) (firsts_in rs))
  unfolding passed is_run_list
  good_list [] = refl
  good_list (r ∷ rs) =
      ap (λ (b : Bool). (passed s rs).good && (b || eqb n 0)) (begun_stays s rs refl)
      ∙ (and_true (passed s rs).good
      ∙ (good_follow s rs refl
      ∙ sym (and_assoc (leb n most_letters) (begins n r.weight r.first) (all_follow n r.weight r.first (weights_in rs) (firsts_in rs)))))
    where
      s : State
      s = stepped (started n handle) r

  -- 12 is judged as in `runs`
  verdict_list : (rs : List Run) → list_verdict (passed (started n handle) rs) ≡ run_list_verdict n (weights_in rs) (firsts_in rs)
  unfolding list_verdict run_list_verdict
  verdict_list rs =
      ap (λ (m : ℕ). choose ((passed (started n handle) rs).good && ((passed (started n handle) rs).begun || eqb m 0)) good (Err RunList))
      (n_stays (started n handle) rs)
      ∙ ap (λ (b : Bool). choose b good (Err RunList)) (good_list rs)

  -- one pass answers WEIGHT
  pub passed_answers : (rs : List Run) → finished (passed (started n handle) rs) ≡ weight_answer (weights_in rs) (firsts_in rs) n handle
  unfolding finished weight_answer
  passed_answers rs =
      ap (λ (v : Verdict). settle (and_then v (handle_verdict (passed (started n handle) rs).n (passed (started n handle) rs).handle)) Err
      (Ok (passed (started n handle) rs).found))
      (verdict_list rs)
      ∙ (ap₂ (λ (m h : ℕ). settle (and_then (run_list_verdict n (weights_in rs) (firsts_in rs)) (handle_verdict m h)) Err
      (Ok (passed (started n handle) rs).found)) (n_stays (started n handle) rs)
      (handle_stays (started n handle) rs)
      ∙ ap (λ (w : ℕ). settle (and_then (run_list_verdict n (weights_in rs) (firsts_in rs)) (handle_verdict n handle)) Err (Ok w))
      (found_last (started n handle) rs))

-- ─── along the list ──────────────────────────────────────────────────────────

-- after no run
pub passed_none : (s : State) → passed s [] ≡ s
unfolding passed
passed_none s = refl

-- after one more
pub passed_more : (s : State) (rs : List Run) (r : Run) → passed s (rs ++ (r ∷ [])) ≡ stepped (passed s rs) r
unfolding passed
passed_more s [] r = refl
passed_more s (q ∷ rs) r = passed_more (stepped s q) rs r
