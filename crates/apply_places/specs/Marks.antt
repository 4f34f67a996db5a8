-- Inner: what the work table holds while places are judged.
use Rattle.std.specs.Prelude.{◌≡◌, List, [], map, ℕ, suc, ◌<◌, ℤ, nat_abs, length, drop, get_or}
use Rattle.apply_places.specs.Places.{holder, first_bad}

-- entry a - 1 of work names the string, from 1, that has the place a; 0 where none has
abbrev pub Marks : ℕ → List ℕ → List ℕ → Type 0
Marks m work places = (a : ℕ) → a < m → get_or work a 0 ≡ holder (suc a) places

-- what judging the places of m strings finds, r being the first bad one
pub record Scanned (m : ℕ) (places : List ℤ) (before after : List ℕ) (r : ℕ) : Type 0 where
  pub first : r ≡ first_bad m 0 [] places
  pub size : length after ≡ length before
  pub rest : drop m after ≡ drop m before
  pub marked : r ≡ 0 → Marks m after (map nat_abs places)
