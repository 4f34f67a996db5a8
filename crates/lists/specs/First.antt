-- The first element that meets a test, by its place.
use Rattle.std.specs.Prelude.{Bool, List, [], ◌∷◌, ℕ, suc}
use Rattle.lists.specs.Choose.{choose}

module _ {A : Type 0} where
  -- the place of the first of xs that meets the test, where i elements stand before xs; 0 where none does
  unfoldable pub first_from : (A → Bool) → ℕ → List A → ℕ
  first_from test i [] = 0
  first_from test i (x ∷ xs) = choose (test x) (suc i) (first_from test (suc i) xs)

  -- the place, counted from 1, of the first that meets the test; 0 where none does
  abbrev pub first_that : (A → Bool) → List A → ℕ
  first_that test xs = first_from test 0 xs
