-- Signed places: an order of strings in which some are turned.
-- Specification: 5.1.
use Rattle.std.specs.Prelude.{◌≡◌, Bool, true, false, eqb, ℤ, pos, negsuc, neg_ℤ, nat_abs, length}
use mathlib.Core.List.{List, [], ◌∷◌, ◌++◌, map}
use Prim.Native.Nat.{ℕ, zero, suc, ◌≤◌}
use Rattle.lists.specs.Choose.{choose}
use Rattle.lists.specs.Every.{All}
use Rattle.cover_trails.specs.Counting.{occurs}

-- a place is negative if the string is turned
abbrev pub is_turned : ℤ → Bool
is_turned (pos n) = false
is_turned (negsuc n) = true

-- the place n, negative if the string is turned
abbrev pub signed : ℕ → Bool → ℤ
signed n t = choose t (neg_ℤ (pos n)) (pos n)

-- A signed place for each of m strings: a number from 1 to m, sign aside; all places together use each of 1 to m once.
pub record SignedPermutation (m : ℕ) (places : List ℤ) : Type 0 where
  pub number : length places ≡ m
  pub range : All (λ p. (1 ≤ nat_abs p) × (nat_abs p ≤ m)) places
  pub once : (k : ℕ) → 1 ≤ k → k ≤ m → occurs k (map nat_abs places) ≡ 1

-- The strings may be of any kind that can be turned: their end weights here, their letters and weights elsewhere.
module _ {A : Type 0} (turn : A → A) where
  -- the string as its place wants it
  abbrev pub turned_by : ℤ → A → A
  turned_by p x = choose (is_turned p) (turn x) x

  -- the strings whose place is k, sign aside
  unfoldable pub standing : ℕ → List ℤ → List A → List A
  standing k [] xs = []
  standing k (p ∷ places) [] = []
  standing k (p ∷ places) (x ∷ xs) = choose (eqb k (nat_abs p)) (turned_by p x ∷ standing k places xs) (standing k places xs)

  -- the strings at the places 1 to n, by their places
  unfoldable pub arranged_to : ℕ → List ℤ → List A → List A
  unfolding standing
  arranged_to zero places xs = []
  arranged_to (suc n) places xs = arranged_to n places xs ++ standing (suc n) places xs

  -- the strings in their new order, turned where the place is negative
  abbrev pub arranged : List ℤ → List A → List A
  arranged places xs = arranged_to (length places) places xs
