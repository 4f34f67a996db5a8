-- What holds of every element, as a type and as a test; and the test that two lists of numbers are equal.
use Rattle.std.specs.Prelude.{Bool, true, false, ◌&&◌, List, [], ◌∷◌, ℕ, suc, eqb}

module _ {A : Type 0} where
  -- P of each element
  abbrev pub All : (A → Type 0) → List A → Type 0
  All P [] = Unit {0}
  All P (x ∷ xs) = P x × All P xs

  -- the test holds of each element
  unfoldable pub every : (A → Bool) → List A → Bool
  every test [] = true
  every test (x ∷ xs) = test x && every test xs

-- the test holds of each entry of a table with its place, the first place being i
unfoldable pub every_from : (ℕ → ℕ → Bool) → ℕ → List ℕ → Bool
every_from test i [] = true
every_from test i (x ∷ xs) = test i x && every_from test (suc i) xs

-- the same with places counted from 0
abbrev pub every_at : (ℕ → ℕ → Bool) → List ℕ → Bool
every_at test xs = every_from test 0 xs

-- the same numbers in the same order
unfoldable pub same : List ℕ → List ℕ → Bool
same [] [] = true
same [] (y ∷ ys) = false
same (x ∷ xs) [] = false
same (x ∷ xs) (y ∷ ys) = eqb x y && same xs ys
