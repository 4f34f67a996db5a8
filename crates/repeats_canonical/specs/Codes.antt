-- Inner: one code for a word and its reverse complement, and how two tables hold the codes of k-mers. CHECK's promise speaks of words alone and cites none of
-- this.
use Rattle.std.specs.Prelude.{◌≡◌, List, ℕ, ◌/◌, ◌%◌, ◌^◌, map, min}
use Rattle.words.specs.Word.{code, turn, word_at}

-- the smaller of the codes of a word and of its reverse complement
abbrev pub canonical : List ℕ → ℕ
canonical w = min (code w) (code (turn w))

-- the canonical codes of the k-mers at these positions
abbrev pub codes : ℕ → List ℕ → List ℕ → List ℕ
codes k letters positions = map (λ a. canonical (word_at k letters a)) positions

-- Two tables hold numbers of 64 bits: hi their upper halves, and lo their lower halves.
pub record Halved (numbers hi lo : List ℕ) : Type 0 where
  pub upper : hi ≡ map (λ c. c / 2 ^ 32) numbers
  pub lower : lo ≡ map (λ c. c % 2 ^ 32) numbers
