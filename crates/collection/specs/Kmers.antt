-- The k-mers of a collection in handle order, their words and weights.
-- Specification: 3.3, 3.4.
use Rattle.std.specs.Prelude.{List, [], ◌∷◌, ◌++◌, ◌⊎◌, ◌≡◌, ℕ, ◌+◌, ◌-◌, ◌<◌, get_or, length}
use Rattle.lists.specs.Count.{count_from}
use Rattle.words.specs.Word.{word_at, turn}
use Rattle.collection.specs.Collection.{Spelling}

-- how many k-mers the string from position `before` to its end e has
abbrev pub within : ℕ → ℕ → ℕ → ℕ
within k before e = e + 1 - (before + k)

-- the positions (from 0) of the first letters of the k-mers of the strings with these ends, the first of which starts at `before`:
-- string by string, left to right, none across two strings
unfoldable pub kmers_from : ℕ → ℕ → List ℕ → List ℕ
kmers_from k before [] = []
kmers_from k before (e ∷ ends) = count_from before (within k before e) ++ kmers_from k e ends

-- handle i is the i-th of these k-mers, counted from 1
abbrev pub kmers : ℕ → List ℕ → List ℕ
kmers k ends = kmers_from k 0 ends

-- the position of a handle's k-mer
abbrev pub position_of : ℕ → List ℕ → ℕ → ℕ
position_of k ends handle = get_or (kmers k ends) (handle - 1) 0

-- the word of a handle
abbrev pub word_of : Spelling → ℕ → List ℕ
word_of t handle = word_at t.k t.letters (position_of t.k t.ends handle)

-- the weight of a handle
abbrev pub weight_of : List ℕ → ℕ → ℕ
weight_of weights handle = get_or weights (handle - 1) 0

-- no k-mer equals another's word or reverse complement
abbrev pub Distinct : Spelling → Type 0
Distinct t =
    (i j : ℕ) → i < length (kmers t.k t.ends) → j < length (kmers t.k t.ends)
    → (word_of t (i + 1) ≡ word_of t (j + 1)) ⊎ (word_of t (i + 1) ≡ turn (word_of t (j + 1)))
    → i ≡ j
