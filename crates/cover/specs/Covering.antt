-- Inner: places from the halves that walks went along, one after the other, and what is left when all strings have theirs. COVER's promise cites none of this.
use Rattle.std.specs.Prelude.{◌≡◌, List, [], ◌∷◌, ℕ, ◌+◌, ◌*◌, ◌/◌, ◌%◌, eqb, ltb, ℤ, length, set, replicate}
use Rattle.lists.specs.Choose.{choose}
use Rattle.cover_trails.specs.Groups.{least}
use Rattle.cover_trails.specs.Places.{signed}
use Rattle.cover_trails.specs.Strings.{Ends}
use Rattle.cover.specs.Cover.{Fewest}

-- n strings have their places, and half c comes next: a half of a string gives it the next place, turned if it is gone along from its back; a spoke gives none.
-- How many strings then have their places:
abbrev pub counted : ℕ → ℕ → ℕ → ℕ
counted m n c = choose (ltb c (2 * m)) (n + 1) n

-- and the places then:
abbrev pub placed_by : ℕ → ℕ → ℕ → List ℤ → List ℤ
placed_by m n c places = choose (ltb c (2 * m)) (set places (c / 2) (signed (n + 1) (eqb (c % 2) 1))) places

-- all halves, from the first on
unfoldable pub place_all : ℕ → ℕ → List ℕ → List ℤ → List ℤ
place_all m n [] places = places
place_all m n (c ∷ cs) places = place_all m (counted m n c) cs (placed_by m n c places)

-- What is left when m strings are covered: places with the fewest paths, and a table of zeros; r is the number of paths.
pub record Covering (strings : List Ends) (m : ℕ) (places : List ℤ) (work : List ℕ) (r : ℕ) : Type 0 where
  pub paths : r ≡ least strings
  pub places_fewest : Fewest strings places
  pub places_size : length places ≡ m
  pub work_zero : work ≡ replicate (16 * m) 0
