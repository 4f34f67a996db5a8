-- Bytes parted by a separator: a sheet into lines, a line into fields. The bytes are `up_to sep bs`, then a separator and a part for each of
-- `later sep bs`.
-- Specification: 7.1.
use Rattle.std.specs.Prelude.{List, [], ◌∷◌, ℕ, eqb}
use Rattle.lists.specs.Choose.{choose}

-- what stands up to the first separator
unfoldable pub up_to : ℕ → List ℕ → List ℕ
up_to sep [] = []
up_to sep (b ∷ bs) = choose (eqb b sep) [] (b ∷ up_to sep bs)

-- what stands behind each separator, up to the next
unfoldable pub later : ℕ → List ℕ → List (List ℕ)
later sep [] = []
later sep (b ∷ bs) = choose (eqb b sep) (up_to sep bs ∷ later sep bs) (later sep bs)

-- the byte between two fields
abbrev pub tab : ℕ
tab = 9

-- the byte that ends a line
abbrev pub feed : ℕ
feed = 10
