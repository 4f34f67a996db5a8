-- QUICK: the handle of an asked word, by its row of the index and the row of its reverse complement.
-- Specification: 9.8.
use Rattle.collection.specs.declared.refusal.Refusal.{Refusal}
use Rattle.collection.specs.declared.refusal.Refusal.TheVariants as refusal
use Rattle.std.specs.Prelude.{◌&&◌, List, ℕ, ◌^◌, length, Err, Ok, Result}
use Rattle.lists.specs.Choose.{choose}
use Rattle.words.specs.Word.{spell, turn}
use Rattle.collection.specs.declared.Side.{Side}
use Rattle.collection.specs.declared.Side.TheVariants.{Asked, Turned}
use Rattle.collection.specs.Judge.{size_verdict, word_verdict}
use Rattle.collection.specs.Verdict.{and_then, settle, Verdict, good}
use Rattle.index_minimizers.specs.Minimizer.{sizes_verdict, minimizer}
use Rattle.index_stretches.specs.Stretches.{walk}
use Rattle.index_stretches.specs.Index.{Index, row_of, tables_fit, row_fits}
use Rattle.quick_walks.specs.declared.Met.{Met}
use Rattle.quick_walks.specs.declared.Met.TheVariants.{Hit, Miss}
use Rattle.quick_walks.specs.Walk.{is_word, seek}
use Rattle.quick.specs.declared.QuickAnswer.{QuickAnswer}
use Rattle.quick.specs.declared.QuickAnswer.TheVariants.{Found, Absent}

-- ─── the walks ───────────────────────────────────────────────────────────────

-- a walk that met its word answers; one that did not hands on how many k-mers it compared
unfoldable pub met_or : Side → Met → (ℕ → QuickAnswer) → QuickAnswer
met_or side (Hit handle compared) next = Found handle side compared
met_or side (Miss compared) next = next compared

-- The row of the word's minimizer is walked for the word, then the row of its reverse complement's for the turned word, also where the two are one. `z` gives a
-- word its minimizer.
unfoldable pub quick_found : (List ℕ → ℕ) → ℕ → List ℕ → Index → List ℕ → QuickAnswer
quick_found z k letters index w =
    met_or Asked (seek (is_word k letters w) 0 (walk (row_of index (z w))))
    (λ c. met_or Turned (seek (is_word k letters (turn w)) c (walk (row_of index (z (turn w))))) Absent)

-- ─── the refusals ────────────────────────────────────────────────────────────

-- 10: the tables fit and both rows do, each judged in full; minimizers are below d
unfoldable pub rows_verdict : ℕ → ℕ → ℕ → Index → ℕ → ℕ → Verdict
rows_verdict d k N index row other = choose (tables_fit d index && (row_fits k N index row && row_fits k N index other)) good (Err refusal.Index)

-- the rows are those of the word and of its reverse complement
abbrev pub index_verdict : (List ℕ → ℕ) → ℕ → ℕ → ℕ → Index → List ℕ → Verdict
index_verdict z d k N index w = rows_verdict d k N index (z w) (z (turn w))

-- 2, 3, 9; of 3 the letters alone
unfoldable pub ask_verdict : ℕ → ℕ → List ℕ → ℕ → Verdict
ask_verdict k p word N = and_then (sizes_verdict k p) (and_then (size_verdict N 0) (word_verdict k word))

-- 2, 3, 9, then 10
unfoldable pub quick_verdict : ℕ → ℕ → List ℕ → List ℕ → Index → Verdict
quick_verdict k p word letters index = and_then (ask_verdict k p word (length letters))
    (index_verdict (minimizer p) (4 ^ p) k (length letters) index (spell word))

-- what QUICK answers
unfoldable pub quick_of : ℕ → ℕ → List ℕ → List ℕ → Index → Result QuickAnswer Refusal
quick_of k p word letters index = settle (quick_verdict k p word letters index) Err (Ok (quick_found (minimizer p) k letters index (spell word)))
