-- The strings of a collection, each with its letters and weights, and the tables that strings make.
-- Specification: 3.3.
use Rattle.std.specs.Prelude.{List, [], ◌∷◌, ◌++◌, ℕ, ◌+◌, ◌-◌, length, take, drop}
use Rattle.collection.specs.Collection.{Collection, collection}
use Rattle.collection.specs.Kmers.{within}

-- a string: its letters, and the weights of its k-mers
pub record Str : Type 0 where
  pub letters : List ℕ
  pub weights : List ℕ

-- the strings with these ends, cut from the letters and weights that are left, the first starting at `before`
unfoldable pub strings_from : ℕ → ℕ → List ℕ → List ℕ → List ℕ → List Str
strings_from k before letters [] weights = []
strings_from k before letters (e ∷ ends) weights =
    record { letters = take (e - before) letters; weights = take (within k before e) weights }
    ∷ strings_from k e (drop (e - before) letters) ends (drop (within k before e) weights)

-- the strings of a collection
abbrev pub strings : Collection → List Str
strings c = strings_from c.k 0 c.letters c.ends c.weights

-- the letters of strings end to end
unfoldable pub letters_in : List Str → List ℕ
letters_in [] = []
letters_in (s ∷ ss) = s.letters ++ letters_in ss

-- their weights end to end
unfoldable pub weights_in : List Str → List ℕ
weights_in [] = []
weights_in (s ∷ ss) = s.weights ++ weights_in ss

-- their ends: how many letters there are up to the end of each
unfoldable pub ends_in : ℕ → List Str → List ℕ
ends_in before [] = []
ends_in before (s ∷ ss) = (before + length s.letters) ∷ ends_in (before + length s.letters) ss

-- the collection of strings
abbrev pub joined : ℕ → List Str → Collection
joined k ss = collection k (letters_in ss) (ends_in 0 ss) (weights_in ss)
