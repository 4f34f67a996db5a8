-- What a call leaves in a lent table.
-- Specification: 8.5.
use Rattle.std.specs.Prelude.{List, ◌++◌, ℕ, ◌+◌, length, take, drop}

module _ {A : Type 0} where
  -- the table `old` with xs in the entries from `at` on; the others as they were
  abbrev pub put : ℕ → List A → List A → List A
  put at xs old = take at old ++ (xs ++ drop (at + length xs) old)

  -- the table `old` with xs in its first entries; the rest as it was
  abbrev pub fill : List A → List A → List A
  fill xs old = xs ++ drop (length xs) old
