-- The weight of a word in strings, read either way.
-- Specification: 12.2, 12.4.
use Rattle.std.specs.Prelude.{◌≡◌, List, [], ◌⊎◌, ℕ, ◌<◌, ◌≤◌, length, get_or}
use Rattle.words.specs.Word.{word_at, turn}
use Rattle.collection.specs.Collection.{Collection, spelling_of}
use Rattle.collection.specs.Kmers.{kmers, word_of, weight_of}
use Rattle.collection.specs.Strings.{Str}

-- a k-mer of the string is the word, or turned is the word, and has the weight
abbrev pub Has : ℕ → List ℕ → ℕ → Str → Type 0
Has k word weight s =
    (a : ℕ) × (a < length s.weights) × ((word_at k s.letters a ≡ word) ⊎ (turn (word_at k s.letters a) ≡ word)) × (get_or s.weights a 0 ≡ weight)

-- the empty string, where a list of strings ends
abbrev pub none : Str
none = record { letters = []; weights = [] }

-- the word has the weight in one of the strings
abbrev pub Weighs : ℕ → List Str → List ℕ → ℕ → Type 0
Weighs k ss word weight = (i : ℕ) × (i < length ss) × Has k word weight (get_or ss i none)

-- the same by handles: the word has the weight in a collection
abbrev pub WeighsAt : Collection → List ℕ → ℕ → Type 0
WeighsAt c word weight =
    (handle : ℕ) × (1 ≤ handle) × (handle ≤ length (kmers c.k c.ends))
    × ((word_of (spelling_of c) handle ≡ word) ⊎ (turn (word_of (spelling_of c) handle) ≡ word)) × (weight_of c.weights handle ≡ weight)
