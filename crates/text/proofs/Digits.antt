-- The digits of a number one by one, and how many there are. Assumes nothing.
use mathlib.Core.Path.{◌≡◌, refl, ap, ◌∙◌}
use mathlib.Core.Bool.{Bool, true, false}
use mathlib.Core.Logic.{◌⊎◌, inl, inr}
use mathlib.Core.List.{List, [], ◌∷◌, ◌++◌}
use Prim.Native.Nat.{ℕ, zero, suc, ◌+◌, ◌/◌, ◌%◌, ◌^◌, ◌<◌, ◌≤◌}
use native.Mathlib.Omega.{arith}
use lib.Dec.{ltb}
use lib.ListN.{length, length-append}
use Rattle.lists.specs.Choose.{choose}
use Rattle.lists.proofs.Compare.{lt_or_le}
use Rattle.text.specs.Numbers.{digits_in, digits}
use Rattle.text.proofs.Numbers.{last_digit, more_digits, enough}

-- ─── one by one ──────────────────────────────────────────────────────────────

in_front : (s n : ℕ) (rest more : List ℕ) → digits_in s n (rest ++ more) ≡ digits_in s n rest ++ more
unfolding digits_in
in_front zero n rest more = refl
in_front (suc s) n rest more = go (ltb n 10) (in_front s (n / 10) ((48 + n % 10) ∷ rest) more) where
  go : (t : Bool) → digits_in s (n / 10) ((48 + n % 10) ∷ (rest ++ more)) ≡ digits_in s (n / 10) ((48 + n % 10) ∷ rest) ++ more
      → choose t ((48 + n) ∷ (rest ++ more)) (digits_in s (n / 10) ((48 + n % 10) ∷ (rest ++ more)))
      ≡ choose t ((48 + n) ∷ rest) (digits_in s (n / 10) ((48 + n % 10) ∷ rest)) ++ more
  go true h = refl
  go false h = h

-- a number below 10 is one digit
pub digits_one : (n : ℕ) → n < 10 → digits n ≡ (48 + n) ∷ []
unfolding digits
digits_one n h = last_digit n n [] h

-- else the digits of a tenth stand in front of the last
pub digits_more : (n : ℕ) → 10 ≤ n → digits n ≡ digits (n / 10) ++ ((48 + n % 10) ∷ [])
unfolding digits
digits_more zero h = absurd (omega arith)
digits_more (suc m) h =
    more_digits m (suc m) [] h
    ∙ (in_front m (suc m / 10) [] ((48 + suc m % 10) ∷ [])
    ∙ ap (λ (x : List ℕ). x ++ ((48 + suc m % 10) ∷ [])) (enough m (suc m / 10) (suc m / 10) [] (omega arith) (omega arith)))

-- ─── how many ────────────────────────────────────────────────────────────────

-- one below 10, else one more than a tenth has
pub count_one : (n : ℕ) → n < 10 → length (digits n) ≡ 1
count_one n h = ap length (digits_one n h)

pub count_more : (n : ℕ) → 10 ≤ n → length (digits n) ≡ length (digits (n / 10)) + 1
count_more n h = ap length (digits_more n h) ∙ length-append (digits (n / 10)) ((48 + n % 10) ∷ [])

-- four more than a ten-thousandth has
pub count_four : (n : ℕ) → 10000 ≤ n → length (digits n) ≡ length (digits (n / 10000)) + 4
count_four n h =
    let e : n / 10 / 10 / 10 / 10 ≡ n / 10000 = omega arith in
    omega (
      arith,
      count_more n (omega arith),
      count_more (n / 10) (omega arith),
      count_more (n / 10 / 10) (omega arith),
      count_more (n / 10 / 10 / 10) (omega arith),
      ap (λ (x : ℕ). length (digits x)) e,
    )

-- at least one
pub digits-some : (n : ℕ) → 1 ≤ length (digits n)
digits-some n = go (lt_or_le n 10)
  where
    go : (n < 10) ⊎ (10 ≤ n) → 1 ≤ length (digits n)
    go (inl l) = omega (arith, count_one n l)
    go (inr l) = omega (arith, count_more n l)

-- a number below 10^(c+1) has at most c + 1
pub digits_short : (c n : ℕ) → n < 10 ^ suc c → length (digits n) ≤ suc c
digits_short zero n h = omega (arith, count_one n (omega arith))
digits_short (suc c) n h = go (lt_or_le n 10) (digits_short c (n / 10))
  where
    go : (n < 10) ⊎ (10 ≤ n) → (n / 10 < 10 ^ suc c → length (digits (n / 10)) ≤ suc c) → length (digits n) ≤ suc (suc c)
    go (inl l) r = omega (arith, count_one n l)
    go (inr l) r = omega (arith, count_more n l, r (omega arith))

-- a number from 10^(c+1) up to, not including, 10^(c+2) has c + 2
pub digits_count : (c n : ℕ) → 10 ^ suc c ≤ n → n < 10 ^ suc (suc c) → length (digits n) ≡ suc (suc c)
digits_count zero n l h = omega (arith, count_more n (omega arith), count_one (n / 10) (omega arith))
digits_count (suc c) n l h =
    omega (arith, count_more n (omega arith), digits_count c (n / 10) (omega arith) (omega arith))
