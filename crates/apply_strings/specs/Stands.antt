-- How often a word stands in a collection, read either way.
-- Specification: 12.2.
use Rattle.std.specs.Prelude.{◌||◌, List, map, ℕ}
use Rattle.lists.specs.Choose.{choose}
use Rattle.lists.specs.Count.{sum}
use Rattle.lists.specs.Every.{same}
use Rattle.words.specs.Word.{word_at, turn}
use Rattle.collection.specs.Collection.{Spelling}
use Rattle.collection.specs.Kmers.{kmers}

-- 1 for a k-mer that is the word, or turned is the word; else 0
unfoldable pub once : List ℕ → List ℕ → ℕ
once word kmer = choose (same kmer word || same (turn kmer) word) 1 0

-- how many k-mers of a collection are the word, or turned are the word
unfoldable pub times_at : Spelling → List ℕ → ℕ
times_at t word = sum (map (λ a. once word (word_at t.k t.letters a)) (kmers t.k t.ends))
