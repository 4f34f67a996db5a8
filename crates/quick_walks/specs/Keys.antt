-- Inner: keys. A key is eight letters of a list, with their places in it. Where its letters do not stand, neither does the list.
use Rattle.std.specs.Prelude.{Bool, true, List, ◌≡◌, ℕ, ◌+◌, ◌<◌, length, get_or}

-- each of the eight places is below n
abbrev pub Within : ℕ → List ℕ → Type 0
Within n places = (t : ℕ) → t < 8 → get_or places t 0 < n

-- from position a on, each of them is inside the letters
abbrev pub Inside : List ℕ → List ℕ → ℕ → Type 0
Inside places letters a = (t : ℕ) → t < 8 → a + get_or places t 0 < length letters

-- the key's letters stand in the letters, each at its place from position a on
abbrev pub Meets : List ℕ → List ℕ → List ℕ → ℕ → Type 0
Meets places key letters a = (t : ℕ) → t < 8 → get_or letters (a + get_or places t 0) 0 ≡ get_or key t 0

-- r is true if they stand so from one of the n positions from `at` on; it may be true where they do not
abbrev pub Finds : List ℕ → List ℕ → List ℕ → ℕ → ℕ → Bool → Type 0
Finds places key letters at n r = (i : ℕ) → i < n → Meets places key letters (at + i) → r ≡ true

-- the key is of the list v: it holds what v has at the places
pub record KeyOf (v places key : List ℕ) : Type 0 where
  pub within : Within (length v) places
  pub holds : (t : ℕ) → t < 8 → get_or v (get_or places t 0) 0 ≡ get_or key t 0
