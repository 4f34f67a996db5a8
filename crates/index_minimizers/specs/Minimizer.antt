-- Minimizers: the smallest code among the words of p letters of a k-mer.
-- Specification: 6.1.
use Rattle.collection.specs.declared.refusal.Refusal.TheVariants.{Sizes}
use Rattle.std.specs.Prelude.{◌&&◌, List, ℕ, zero, suc, ◌-◌, min, leb, length, take, drop, Err}
use Rattle.lists.specs.Choose.{choose}
use Rattle.words.specs.Word.{code, word_at}
use Rattle.collection.specs.Judge.{k_verdict}
use Rattle.collection.specs.Verdict.{and_then, Verdict, good}

-- 2: k is 3 to 31, p is 1 to 8 and at most k
unfoldable pub sizes_verdict : ℕ → ℕ → Verdict
sizes_verdict k p = and_then (k_verdict k) (choose (leb 1 p && (leb p 8 && leb p k)) good (Err Sizes))

-- the smallest code among the first n + 1 words of p letters of w
unfoldable pub smallest : ℕ → ℕ → List ℕ → ℕ
smallest p zero w = code (take p w)
smallest p (suc n) w = min (code (take p w)) (smallest p n (drop 1 w))

-- the minimizer of a word: the smallest of all its words of p letters
unfoldable pub minimizer : ℕ → List ℕ → ℕ
minimizer p w = smallest p (length w - p) w

-- the minimizer of the k-mer at a position
abbrev pub minimizer_at : ℕ → ℕ → List ℕ → ℕ → ℕ
minimizer_at k p letters a = minimizer p (word_at k letters a)
