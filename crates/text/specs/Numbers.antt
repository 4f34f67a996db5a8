-- Numbers in decimal: which bytes are one, its value, and how a value is written.
-- Specification: 7.2.
use Rattle.std.specs.Prelude.{Bool, false, not, ◌&&◌, List, [], ◌∷◌, ℕ, zero, suc, ◌+◌, ◌-◌, ◌*◌, ◌/◌, ◌%◌, leb, ltb, eqb}
use Rattle.lists.specs.Choose.{choose}
use Rattle.lists.specs.Every.{every}

-- `0` (48) to `9` (57)
abbrev pub is_digit : ℕ → Bool
is_digit b = leb 48 b && leb b 57

-- a decimal with no leading zero; a lone 0 is one
unfoldable pub is_number : List ℕ → Bool
is_number [] = false
is_number (b ∷ []) = is_digit b
is_number (b ∷ (c ∷ bs)) = (is_digit b && not (eqb b 48)) && every is_digit (c ∷ bs)

-- the value of digits behind digits of the value a
unfoldable pub value_from : ℕ → List ℕ → ℕ
value_from a [] = a
value_from a (b ∷ bs) = value_from (a * 10 + (b - 48)) bs

-- the value of a field of digits
abbrev pub value : List ℕ → ℕ
value f = value_from 0 f

-- n in decimal, in front of `rest`; n steps are enough
unfoldable pub digits_in : ℕ → ℕ → List ℕ → List ℕ
digits_in zero n rest = (48 + n) ∷ rest
digits_in (suc steps) n rest = choose (ltb n 10) ((48 + n) ∷ rest) (digits_in steps (n / 10) ((48 + n % 10) ∷ rest))

-- n in decimal
unfoldable pub digits : ℕ → List ℕ
digits n = digits_in n n []
