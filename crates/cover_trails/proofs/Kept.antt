-- What a new order keeps, for strings of any kind: what holds of each string, and what the strings add up to. Assumes nothing.
use mathlib.Core.Path.{◌≡◌, refl, ap, ◌∙◌}
use mathlib.Core.Bool.{Bool, true, false}
use mathlib.Core.List.{List, [], ◌∷◌, ◌++◌}
use Prim.Native.Nat.{ℕ, zero, suc, ◌+◌, ◌≤◌, ◌<◌}
use native.Mathlib.Decide.{ℕ_discrete}
use native.Mathlib.Omega.{arith}
use lib.Dec.{eqb}
use lib.IntN.{ℤ, pos, negsuc, nat_abs}
use lib.ListN.{length}
use Rattle.lists.specs.Choose.{choose}
use Rattle.lists.specs.Every.{All}
use Rattle.lists.proofs.Every.{all_append}
use Rattle.cover_trails.specs.Places.{SignedPermutation, turned_by, standing, arranged_to, arranged}
use Rattle.cover_trails.proofs.Arranged.{standing_here, standing_other}

-- ─── what holds of each string, turned or not ────────────────────────────────

module _ {A : Type 0} (turn : A → A) (P : A → Type 0) (h : (x : A) → P x → P (turn x)) where
  all-turned : (p : ℤ) (x : A) → P x → P (turned_by turn p x)
  all-turned (pos n) x q = q
  all-turned (negsuc n) x q = h x q

  all_standing : (k : ℕ) (places : List ℤ) (xs : List A) → All P xs → All P (standing turn k places xs)
  unfolding standing
  all_standing k [] xs a = tt
  all_standing k (p ∷ places) [] a = tt
  all_standing k (p ∷ places) (x ∷ xs) a = go (eqb k (nat_abs p)) (all_standing k places xs a.1)
    where
      go : (t : Bool) → All P (standing turn k places xs) → All P (choose t (turned_by turn p x ∷ standing turn k places xs) (standing turn k places xs))
      go true b = (all-turned p x a.0, b)
      go false b = b

  all-arranged_to : (n : ℕ) (places : List ℤ) (xs : List A) → All P xs → All P (arranged_to turn n places xs)
  unfolding arranged_to
  all-arranged_to zero places xs a = tt
  all-arranged_to (suc n) places xs a =
      all_append P (arranged_to turn n places xs) (standing turn (suc n) places xs) (all-arranged_to n places xs a) (all_standing (suc n) places xs a)

  -- what holds of each string, turned or not, holds in the new order
  pub all-arranged : (places : List ℤ) (xs : List A) → All P xs → All P (arranged turn places xs)
  all-arranged places xs a = all-arranged_to (length places) places xs a

-- ─── what they add up to ─────────────────────────────────────────────────────

-- `total` adds up f over a list, and a turned string counts as much
module _ {A : Type 0} (turn : A → A) (f : A → ℕ) (total : List A → ℕ) (none : total [] ≡ 0) (more : (x : A) (xs : List A) → total (x ∷ xs) ≡ f x + total xs)
    (same : (x : A) → f (turn x) ≡ f x) where
  total_append : (xs ys : List A) → total (xs ++ ys) ≡ total xs + total ys
  total_append [] ys = omega (arith, none)
  total_append (x ∷ xs) ys = omega (arith, more x (xs ++ ys), more x xs, total_append xs ys)

  turned_same : (p : ℤ) (x : A) → f (turned_by turn p x) ≡ f x
  turned_same (pos n) x = refl
  turned_same (negsuc n) x = same x

  module _ (p : ℤ) (places : List ℤ) (x : A) (xs : List A) where
    standing_counts : (k : ℕ) → k ≡ nat_abs p → total (standing turn k (p ∷ places) (x ∷ xs)) ≡ f x + total (standing turn k places xs)
    standing_counts k e = omega (arith, ap total (standing_here turn k p places x xs e), more (turned_by turn p x) (standing turn k places xs), turned_same p x)

    standing_waits : (k : ℕ) → (k ≡ nat_abs p → ⊥) → total (standing turn k (p ∷ places) (x ∷ xs)) ≡ total (standing turn k places xs)
    standing_waits k n = ap total (standing_other turn k p places x xs n)

    waits : (n : ℕ) → n < nat_abs p → total (arranged_to turn n (p ∷ places) (x ∷ xs)) ≡ total (arranged_to turn n places xs)
    unfolding arranged_to
    waits zero l = refl
    waits (suc n) l =
        omega (
          arith,
          total_append (arranged_to turn n (p ∷ places) (x ∷ xs)) (standing turn (suc n) (p ∷ places) (x ∷ xs)),
          total_append (arranged_to turn n places xs) (standing turn (suc n) places xs),
          standing_waits (suc n) (λ e. omega arith),
          waits n (omega arith),
        )

    counts : (n : ℕ) → 1 ≤ nat_abs p → nat_abs p ≤ n → total (arranged_to turn n (p ∷ places) (x ∷ xs)) ≡ f x + total (arranged_to turn n places xs)
    unfolding arranged_to
    counts zero low high = absurd (omega arith)
    counts (suc n) low high = go (ℕ_discrete (suc n) (nat_abs p)) (counts n low)
      where
        both : total (arranged_to turn n (p ∷ places) (x ∷ xs) ++ standing turn (suc n) (p ∷ places) (x ∷ xs))
            ≡ total (arranged_to turn n (p ∷ places) (x ∷ xs)) + total (standing turn (suc n) (p ∷ places) (x ∷ xs))
        both = total_append (arranged_to turn n (p ∷ places) (x ∷ xs)) (standing turn (suc n) (p ∷ places) (x ∷ xs))

        rest : total (arranged_to turn n places xs ++ standing turn (suc n) places xs)
            ≡ total (arranged_to turn n places xs) + total (standing turn (suc n) places xs)
        rest = total_append (arranged_to turn n places xs) (standing turn (suc n) places xs)

        go : Dec (suc n ≡ nat_abs p) → (nat_abs p ≤ n → total (arranged_to turn n (p ∷ places) (x ∷ xs)) ≡ f x + total (arranged_to turn n places xs))
            → total (arranged_to turn n (p ∷ places) (x ∷ xs) ++ standing turn (suc n) (p ∷ places) (x ∷ xs))
            ≡ f x + total (arranged_to turn n places xs ++ standing turn (suc n) places xs)
        go (yes e) ih = omega (arith, both, rest, standing_counts (suc n) e, waits n (omega arith))
        go (no e) ih = omega (arith, both, rest, standing_waits (suc n) e, ih (omega arith))

  none-arranged : (n : ℕ) (xs : List A) → total (arranged_to turn n [] xs) ≡ 0
  unfolding arranged_to standing
  none-arranged zero xs = none
  none-arranged (suc n) xs = omega (arith, total_append (arranged_to turn n [] xs) [], none-arranged n xs, none)

  total_arranged_to : (n : ℕ) (places : List ℤ) (xs : List A) → length xs ≡ length places → All (λ p. (1 ≤ nat_abs p) × (nat_abs p ≤ n)) places
      → total (arranged_to turn n places xs) ≡ total xs
  total_arranged_to n [] [] l r = none-arranged n [] ∙ omega (arith, none)
  total_arranged_to n [] (x ∷ xs) l r = absurd (omega arith)
  total_arranged_to n (p ∷ places) [] l r = absurd (omega arith)
  total_arranged_to n (p ∷ places) (x ∷ xs) l r =
      omega (arith, counts p places x xs n r.0.0 r.0.1, total_arranged_to n places xs (omega arith) r.1, more x xs)

  -- the strings in their new order add up to the same
  pub total_arranged : (m : ℕ) (places : List ℤ) (xs : List A) → SignedPermutation m places → length xs ≡ m → total (arranged turn places xs) ≡ total xs
  total_arranged m places xs s l =
      total_arranged_to (length places) places xs (omega (arith, s.number)) (rw s.number s.range)
