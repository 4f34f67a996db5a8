-- Laws of `count_from` and `sum`. Assumes nothing.
use mathlib.Core.Path.{◌≡◌, refl, ap, ◌∙◌}
use mathlib.Core.List.{List, [], ◌∷◌, ◌++◌}
use Prim.Native.Nat.{ℕ, zero, suc, ◌+◌, ◌-◌, ◌<◌, ◌≤◌}
use native.Mathlib.Omega.{arith}
use lib.ListN.{length, get_or}
use Rattle.lists.specs.Count.{count_from, sum}
use Rattle.lists.specs.Every.{All}

pub count_at : (i n j : ℕ) → j < n → get_or (count_from i n) j 0 ≡ i + j
unfolding count_from
count_at i zero j h = omega arith
count_at i (suc n) zero h = omega arith
count_at i (suc n) (suc j) h = count_at (suc i) n j (omega arith) ∙ (omega arith)

pub length_count : (i n : ℕ) → length (count_from i n) ≡ n
unfolding count_from
length_count i zero = refl
length_count i (suc n) = ap suc (length_count (suc i) n)

pub count_append : (i n m : ℕ) → count_from i (n + m) ≡ count_from i n ++ count_from (i + n) m
unfolding count_from
count_append i zero m = let a : 0 + m ≡ m = omega arith in let b : i + 0 ≡ i = omega arith in rw (a, b)
count_append i (suc n) m =
    let a : suc n + m ≡ suc (n + m) = omega arith in
    let b : suc i + n ≡ i + suc n = omega arith in
    ap (count_from i) a ∙ ap (λ (l : List ℕ). i ∷ l) (count_append (suc i) n m ∙ ap (λ (j : ℕ). count_from (suc i) n ++ count_from j m) b)

pub sum-append : (xs ys : List ℕ) → sum (xs ++ ys) ≡ sum xs + sum ys
unfolding sum
sum-append [] ys = omega arith
sum-append (x ∷ xs) ys = omega (arith, sum-append xs ys)

-- what holds of each number in the row
pub all_count : (P : ℕ → Type 0) (i n : ℕ) → ((j : ℕ) → i ≤ j → j < i + n → P j) → All P (count_from i n)
unfolding count_from
all_count P i zero h = tt
all_count P i (suc n) h = (h i (omega arith) (omega arith), all_count P (suc i) n (λ j l r. h j (omega arith) (omega arith)))

-- one number more, as a loop's index counts
pub count_next : (i n j : ℕ) → j < n → count_from (i + j) (n - j) ≡ (i + j) ∷ count_from (i + (j + 1)) (n - (j + 1))
unfolding count_from
count_next i n j h =
    let q : n - j ≡ suc (n - (j + 1)) = omega arith in
    let r : suc (i + j) ≡ i + (j + 1) = omega arith in
    ap (count_from (i + j)) q ∙ ap (λ (a : ℕ). (i + j) ∷ count_from a (n - (j + 1))) r

pub count_end : (i n j : ℕ) → n ≤ j → count_from (i + j) (n - j) ≡ []
unfolding count_from
count_end i n j h = let q : n - j ≡ 0 = omega arith in ap (count_from (i + j)) q

pub count_start : (i n : ℕ) → count_from i n ≡ count_from (i + 0) (n - 0)
count_start i n = let a : i ≡ i + 0 = omega arith in let b : n ≡ n - 0 = omega arith in λ x. count_from (a x) (b x)
