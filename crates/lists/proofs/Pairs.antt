-- Laws of `Pairs` by places. Assumes nothing.
use mathlib.Core.List.{List, [], ◌∷◌}
use Prim.Native.Nat.{ℕ, zero, suc, ◌<◌}
use native.Mathlib.Nat.{not-suc-le-zero}
use native.Mathlib.Omega.{arith}
use lib.ListN.{length, get_or}
use Rattle.lists.specs.Count.{count_from}
use Rattle.lists.specs.Every.{All}
use Rattle.lists.specs.Pairs.{Pairs}
use Rattle.lists.proofs.Every.{all_at, all_map}

module _ {A : Type 0} where
  pub pairs_at : (R : A → A → Type 0) (xs : List A) → Pairs R xs → (i j : ℕ) (d : A) → i < j → j < length xs → R (get_or xs i d) (get_or xs j d)
  pairs_at R [] h i j d l k = absurd (not-suc-le-zero k)
  pairs_at R (x ∷ xs) h i zero d l k = absurd (not-suc-le-zero l)
  pairs_at R (x ∷ xs) h zero (suc j) d l k = all_at (R x) xs h.0 j d (omega arith)
  pairs_at R (x ∷ xs) h (suc i) (suc j) d l k = pairs_at R xs h.1 i j d (omega arith) (omega arith)

  pub pairs_map : {R S : A → A → Type 0} → ((x y : A) → R x y → S x y) → (xs : List A) → Pairs R xs → Pairs S xs
  pairs_map f [] h = tt
  pairs_map f (x ∷ xs) h = (all_map (f x) xs h.0, pairs_map f xs h.1)

-- numbers in a row rise
pub count_rises : (i n : ℕ) → Pairs (λ x y. x < y) (count_from i n)
unfolding count_from
count_rises i zero = tt
count_rises i (suc n) = (later (suc i) n (omega arith), count_rises (suc i) n)
  where
    later : (j n : ℕ) → i < j → All (λ y. i < y) (count_from j n)
    later j zero h = tt
    later j (suc n) h = (h, later (suc j) n (omega arith))
