-- Lists backwards and parts cut from them. Assumes nothing.
use mathlib.Core.Path.{◌≡◌, refl, ap, ◌∙◌}
use mathlib.Core.List.{List, [], ◌∷◌, ◌++◌, map, reverse, reverse-cons}
use Prim.Native.Nat.{ℕ, zero, suc, ◌+◌, ◌≤◌}
use native.Mathlib.Omega.{arith}
use lib.ListN.{length, take, drop, get_or, length-reverse, get_or-append}
use lib.Seq.{get_or-append-add}
use Rattle.lists.specs.Every.{All}
use Rattle.lists.proofs.Every.{all_append}

-- ─── backwards ───────────────────────────────────────────────────────────────

pub all-reverse : {A : Type 0} (P : A → Type 0) (xs : List A) → All P xs → All P (reverse xs)
all-reverse P [] h = tt
all-reverse P (x ∷ xs) h = rw (reverse-cons x xs) (all_append P (reverse xs) (x ∷ []) (all-reverse P xs h.1) (h.0, tt))

-- an entry stands as far from the start as it stood from the end
pub reverse_at : (ws : List ℕ) (a b : ℕ) → a + b + 1 ≡ length ws → get_or (reverse ws) b 0 ≡ get_or ws a 0
reverse_at [] a b e = absurd (omega arith)
reverse_at (x ∷ ws) zero b e =
    let q : b ≡ length (reverse ws) + 0 = omega (arith, length-reverse ws) in
    ap (λ (l : List ℕ). get_or l b 0) (reverse-cons x ws)
    ∙ (ap (λ (n : ℕ). get_or (reverse ws ++ (x ∷ [])) n 0) q ∙ get_or-append-add (reverse ws) (x ∷ []) 0 0)
reverse_at (x ∷ ws) (suc a) b e =
    ap (λ (l : List ℕ). get_or l b 0) (reverse-cons x ws)
    ∙ (get_or-append (reverse ws) (x ∷ []) 0 b (omega (arith, length-reverse ws)) ∙ reverse_at ws a b (omega arith))

-- ─── parts ───────────────────────────────────────────────────────────────────

-- what is done to each entry can be done before or after a part is cut
pub map_cut : (f : ℕ → ℕ) (k b : ℕ) (xs : List ℕ) → map f (take k (drop b xs)) ≡ take k (drop b (map f xs))
map_cut f k b xs = front f k (drop b xs) ∙ ap (take k) (back f b xs)
  where
    front : (f : ℕ → ℕ) (k : ℕ) (xs : List ℕ) → map f (take k xs) ≡ take k (map f xs)
    front f zero xs = refl
    front f (suc k) [] = refl
    front f (suc k) (x ∷ xs) = ap (λ (l : List ℕ). f x ∷ l) (front f k xs)

    back : (f : ℕ → ℕ) (b : ℕ) (xs : List ℕ) → map f (drop b xs) ≡ drop b (map f xs)
    back f zero xs = refl
    back f (suc b) [] = refl
    back f (suc b) (x ∷ xs) = back f b xs

-- k entries from a on, all of them among the first n
pub cut_inside : (k a n : ℕ) (xs : List ℕ) → a + k ≤ n → take k (drop a (take n xs)) ≡ take k (drop a xs)
cut_inside k zero n xs l = front k n xs (omega arith)
  where
    front : (k n : ℕ) (xs : List ℕ) → k ≤ n → take k (take n xs) ≡ take k xs
    front zero n xs l = refl
    front (suc k) zero xs l = absurd (omega arith)
    front (suc k) (suc n) [] l = refl
    front (suc k) (suc n) (x ∷ xs) l = ap (λ (r : List ℕ). x ∷ r) (front k n xs (omega arith))
cut_inside k (suc a) zero xs l = absurd (omega arith)
cut_inside k (suc a) (suc n) [] l = refl
cut_inside k (suc a) (suc n) (x ∷ xs) l = cut_inside k a n xs (omega arith)
