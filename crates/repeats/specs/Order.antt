-- Inner: the order in which CHECK looks at the k-mers, which its promise does not cite. K-mers are counted from 0 here.
use Rattle.std.specs.Prelude.{◌≡◌, ◌⊎◌, List, ℕ, ◌+◌, ◌<◌, ◌≤◌, length, get_or}
use Rattle.lists.specs.Every.{All}
use Rattle.words.specs.Word.{word_at}
use Rattle.sorting.specs.Keys.{code_at}
use Rattle.repeats_canonical.specs.Codes.{canonical}
use Rattle.repeats_sieving.specs.Kept.{Stands}

-- hi and lo hold the canonical codes of the k-mers at these positions, and the k-mers ids stand in the order of their codes, those of one code in their own
-- order. Any two k-mers of one code are among them.
pub record Ordered (k : ℕ) (letters positions hi lo ids : List ℕ) : Type 0 where
  pub held : (x : ℕ) → x < length positions → code_at hi lo x ≡ canonical (word_at k letters (get_or positions x 0))
  pub inside : All (λ x. x < length positions) ids
  pub order : (i j : ℕ) → i ≤ j → j < length ids → code_at hi lo (get_or ids i 0) ≤ code_at hi lo (get_or ids j 0)
  pub rise : (i j : ℕ) → i < j → j < length ids → code_at hi lo (get_or ids i 0) ≡ code_at hi lo (get_or ids j 0) → get_or ids i 0 < get_or ids j 0
  pub twins : (x y : ℕ) → y < x → x < length positions → code_at hi lo y ≡ code_at hi lo x → Stands x ids × Stands y ids

-- of the ids at the first i places, r is the least that stands behind a neighbour of the same key; n where there is no such
pub record Least (key : ℕ → ℕ) (n : ℕ) (ids : List ℕ) (i r : ℕ) : Type 0 where
  pub lowest : (j : ℕ) → j + 1 < i → key (get_or ids j 0) ≡ key (get_or ids (j + 1) 0) → r ≤ get_or ids (j + 1) 0
  pub found : (r ≡ n) ⊎ ((j : ℕ) × (j + 1 < length ids) × (key (get_or ids j 0) ≡ key (get_or ids (j + 1) 0)) × (get_or ids (j + 1) 0 ≡ r))
