-- CHECK: the collection is judged, and no word in it may repeat, turned or not.
-- Specification: 3.4, 9.3.
use Rattle.collection.specs.declared.refusal.Refusal.TheVariants.{Repeated}
use Rattle.collection.specs.declared.refusal.Refusal.{Refusal}
use Rattle.std.specs.Prelude.{Bool, false, ◌||◌, List, [], ◌∷◌, ℕ, ◌-◌, ◌*◌, ◌≤◌, length, replicate, Ok, Err, Result}
use Rattle.lists.specs.Count.{count_from}
use Rattle.lists.specs.Every.{same}
use Rattle.lists.specs.Fill.{fill}
use Rattle.lists.specs.First.{first_that}
use Rattle.words.specs.Word.{turn}
use Rattle.collection.specs.Collection.{Spelling, Collection, spelling_of}
use Rattle.collection.specs.Judge.{collection_verdict, kmers_in, Passes}
use Rattle.collection.specs.Kmers.{kmers, word_of, Distinct}
use Rattle.collection.specs.Verdict.{and_then, at_place, settle, room_verdict, Verdict}

-- ─── 7 ───────────────────────────────────────────────────────────────────────

-- the test holds of some element
unfoldable pub any_that : {A : Type 0} → (A → Bool) → List A → Bool
any_that test [] = false
any_that test (x ∷ xs) = test x || any_that test xs

-- two words are equal, turned or not
unfoldable pub alike : List ℕ → List ℕ → Bool
alike u v = same u v || same u (turn v)

-- the word of a handle equals the word of an earlier one, turned or not
unfoldable pub repeated : Spelling → ℕ → Bool
repeated t handle =
    any_that (λ earlier. alike (word_of t handle) (word_of t earlier)) (count_from 1 (handle - 1))

-- 7's place: the lowest handle equal to an earlier one, turned or not; 0 where there is none. Handles are 1 to n.
unfoldable pub first_repeat : Spelling → ℕ
first_repeat t = first_that (repeated t) (count_from 1 (length (kmers t.k t.ends)))

-- ─── the call ────────────────────────────────────────────────────────────────

-- 2 to 6, then 1: work has 4n entries
unfoldable pub check_verdict : Collection → ℕ → Verdict
check_verdict c room =
    and_then (collection_verdict c) (room_verdict room (4 * kmers_in (spelling_of c)))

-- what the call answers, and what the work table holds afterwards; and both put together
pub record Outcome : Type 0 where
  pub answer : Result ℕ Refusal
  pub work : List ℕ

abbrev pub outcome : Result ℕ Refusal → List ℕ → Outcome
outcome r w = record { answer = r; work = w }

-- Refused by 2 to 6 or 1, work is as it was. Else the first 4n entries of work are 0, the rest is as it was, and the answer is 7 at the first repeat, or n
-- where no word repeats.
unfoldable pub check_of : Collection → List ℕ → Outcome
check_of c work =
    settle (check_verdict c (length work)) (λ r. outcome (Err r) work)
    (outcome (settle (at_place Repeated (first_repeat (spelling_of c))) Err (Ok (kmers_in (spelling_of c))))
    (fill (replicate (4 * kmers_in (spelling_of c)) 0) work))

-- What CHECK accepts: the collection passes 2 to 6, work has 4n entries, and no two handles have equal words, turned or not.
pub record Accepted (c : Collection) (room : ℕ) : Type 0 where
  pub passes : Passes c
  pub enough : 4 * kmers_in (spelling_of c) ≤ room
  pub distinct : Distinct (spelling_of c)
