-- Run lists as a caller lends them: when one is bad (12), and the weight that it gives a handle.
-- Specification: 4.3, 9.12.
use Rattle.collection.specs.Verdict.{Verdict, good}
use Rattle.collection.specs.declared.refusal.Refusal.TheVariants.{RunList}
use Rattle.std.specs.Prelude.{Bool, true, false, not, ◌&&◌, List, [], ◌∷◌, ◌≡◌, ℕ, ◌≤◌, leb, ltb, eqb, Err}
use Rattle.lists.specs.Choose.{choose}
use Rattle.lists.specs.Limits.{most_letters}
use Rattle.collection_faults.specs.Faults.{is_weight}

-- a run (w, f) may be the first: its weight is in range, it starts at 1, and 1 is at most n
abbrev pub begins : ℕ → ℕ → ℕ → Bool
begins n w f = is_weight w && (eqb f 1 && leb f n)

-- a run (v, g) may follow a run (w, f): its weight is in range and another, its first handle is higher and at most n
abbrev pub follows : ℕ → ℕ → ℕ → ℕ → ℕ → Bool
follows n w f v g = (is_weight v && not (eqb v w)) && (ltb f g && leb g n)

-- each run may follow the one before it, the first one the run (w, f); both tables have as many
unfoldable pub all_follow : ℕ → ℕ → ℕ → List ℕ → List ℕ → Bool
all_follow n w f [] [] = true
all_follow n w f [] (g ∷ firsts) = false
all_follow n w f (v ∷ weights) [] = false
all_follow n w f (v ∷ weights) (g ∷ firsts) = follows n w f v g && all_follow n v g weights firsts

-- the tables are the run list of n k-mers: the first run starts at 1, and each other may follow; with no k-mers there is no run
unfoldable pub is_run_list : ℕ → List ℕ → List ℕ → Bool
unfolding all_follow
is_run_list n [] [] = eqb n 0
is_run_list n [] (f ∷ firsts) = false
is_run_list n (w ∷ weights) [] = false
is_run_list n (w ∷ weights) (f ∷ firsts) = begins n w f && all_follow n w f weights firsts

-- 12: a bad run list, or n above 1,048,576
unfoldable pub run_list_verdict : ℕ → List ℕ → List ℕ → Verdict
unfolding is_run_list
run_list_verdict n weights firsts = choose (leb n most_letters && is_run_list n weights firsts) good (Err RunList)

-- the weight of the last run that starts at or before the handle; `so_far` where none does
unfoldable pub last_at : ℕ → ℕ → List ℕ → List ℕ → ℕ
last_at handle so_far [] firsts = so_far
last_at handle so_far (w ∷ weights) [] = so_far
last_at handle so_far (w ∷ weights) (f ∷ firsts) = last_at handle (choose (leb f handle) w so_far) weights firsts

abbrev pub weight_at : ℕ → List ℕ → List ℕ → ℕ
weight_at handle weights firsts = last_at handle 0 weights firsts

-- what the lookup asks: a judged run list, and a handle of it
pub record Listed (n : ℕ) (weights firsts : List ℕ) (handle : ℕ) : Type 0 where
  pub list : is_run_list n weights firsts ≡ true
  pub low : 1 ≤ handle
  pub high : handle ≤ n
