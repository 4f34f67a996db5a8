-- The limits of what the library takes, in the words of the specification.
-- Specification: 3.2.
use Rattle.std.specs.Prelude.{ℕ}

-- at most so many letters in a collection, and so many k-mers, handles and stretches
abbrev pub most_letters : ℕ
most_letters = 1048576

-- at most so many strings in a collection
abbrev pub most_strings : ℕ
most_strings = 65536

-- a weight is 1 to this
abbrev pub most_weight : ℕ
most_weight = 16777215

-- k is from this
abbrev pub least_k : ℕ
least_k = 3

-- to this
abbrev pub most_k : ℕ
most_k = 31
