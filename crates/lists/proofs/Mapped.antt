-- Laws of `map`. Assumes nothing.
use mathlib.Core.Path.{◌≡◌, refl, ap, ◌∙◌}
use mathlib.Core.List.{List, [], ◌∷◌, map}
use Prim.Native.Nat.{ℕ, zero, suc, ◌+◌, ◌<◌}
use native.Mathlib.Omega.{arith}
use lib.ListN.{length, get_or}
use Rattle.lists.specs.Count.{count_from}
use Rattle.lists.specs.Every.{All}

module _ {A B : Type 0} where
  pub map_at : (f : A → B) (d : A) (xs : List A) (i : ℕ) → get_or (map f xs) i (f d) ≡ f (get_or xs i d)
  map_at f d [] i = refl
  map_at f d (x ∷ xs) zero = refl
  map_at f d (x ∷ xs) (suc i) = map_at f d xs i

  pub map_at_below : (f : A → B) (b : B) (d : A) (xs : List A) (i : ℕ) → i < length xs → get_or (map f xs) i b ≡ f (get_or xs i d)
  map_at_below f b d [] i l = absurd (omega arith)
  map_at_below f b d (x ∷ xs) zero l = refl
  map_at_below f b d (x ∷ xs) (suc i) l = map_at_below f b d xs i (omega arith)

  pub map-all : (P : B → Type 0) (f : A → B) (xs : List A) → All (λ x. P (f x)) xs → All P (map f xs)
  map-all P f [] h = tt
  map-all P f (x ∷ xs) h = (h.0, map-all P f xs h.1)

-- the values of f at the n numbers from i on
module _ {B : Type 0} where
  pub values_at : (f : ℕ → B) (d : B) (i n j : ℕ) → j < n → get_or (map f (count_from i n)) j d ≡ f (i + j)
  unfolding count_from
  values_at f d i zero j l = absurd (omega arith)
  values_at f d i (suc n) zero l = ap f (omega arith)
  values_at f d i (suc n) (suc j) l = values_at f d (suc i) n j (omega arith) ∙ ap f (omega arith)
