-- The walk of k-mers, one after the other.
-- Specification: 9.8.
use Rattle.std.specs.Prelude.{Bool, List, [], ◌∷◌, ℕ, suc}
use Rattle.lists.specs.Choose.{choose}
use Rattle.lists.specs.Every.{same}
use Rattle.words.specs.Word.{word_at}
use Rattle.index_stretches.specs.Stretches.{Kmer}
use Rattle.quick_walks.specs.declared.Met.{Met}
use Rattle.quick_walks.specs.declared.Met.TheVariants.{Hit, Miss}

-- the k-mer at a position is the word w
unfoldable pub is_word : ℕ → List ℕ → List ℕ → ℕ → Bool
is_word k letters w a = same (word_at k letters a) w

-- K-mers are compared one after the other until one meets the test; c have been compared before. It ends at that one or past the last, with the number
-- compared.
unfoldable pub seek : (ℕ → Bool) → ℕ → List Kmer → Met
seek test c [] = Miss c
seek test c (x ∷ xs) = choose (test x.at) (Hit x.handle (suc c)) (seek test (suc c) xs)
