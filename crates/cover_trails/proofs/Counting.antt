-- Laws of counts and of sums below a bound. Assumes nothing.
use mathlib.Core.Path.{◌≡◌, refl, ap, sym}
use mathlib.Core.Logic.{inl, inr}
use mathlib.Core.List.{List, [], ◌∷◌, ◌++◌, map}
use Prim.Native.Nat.{ℕ, zero, suc, ◌+◌, ◌≤◌, ◌<◌}
use native.Mathlib.Omega.{arith}
use native.Mathlib.Decide.{ℕ_discrete, dec_lt}
use lib.ListN.{length, get_or}
use Rattle.lists.specs.Every.{All}
use Rattle.lists.proofs.Agree.{Agreeing, agree_same, agree-other, agree_cases}
use Rattle.lists.proofs.Every.{all_map}
use Rattle.lists.specs.Count.{agree}
use Rattle.cover_trails.specs.Counting.{occurs, oddly, sum_below, above}

-- ─── sums below a bound ──────────────────────────────────────────────────────

module _ (f : ℕ → ℕ) where
  -- a sum of zeros
  pub sum-zero : (n : ℕ) → ((w : ℕ) → w < n → f w ≡ 0) → sum_below n f ≡ 0
  unfolding sum_below
  sum-zero zero h = refl
  sum-zero (suc n) h = omega (arith, h n (omega arith), sum-zero n (λ w l. h w (omega arith)))

  -- one part of a sum is not above the whole
  pub sum-part : (n x : ℕ) → x < n → f x ≤ sum_below n f
  unfolding sum_below
  sum-part zero x l = omega arith
  sum-part (suc n) x l = go (ℕ_discrete x n) (sum-part n x)
    where
      go : Dec (x ≡ n) → (x < n → f x ≤ sum_below n f) → f x ≤ f n + sum_below n f
      go (yes e) ih = omega (arith, ap f e)
      go (no q) ih = omega (arith, ih (omega arith))

module _ (f g : ℕ → ℕ) where
  -- where no part is above, the sum is not
  pub sum_mono : (n : ℕ) → ((w : ℕ) → w < n → f w ≤ g w) → sum_below n f ≤ sum_below n g
  unfolding sum_below
  sum_mono zero h = omega arith
  sum_mono (suc n) h = omega (arith, h n (omega arith), sum_mono n (λ w l. h w (omega arith)))

  -- where f exceeds g at most at x, the sums differ by no more than f and g do at x
  pub sum_at : (n x : ℕ) → x < n → ((w : ℕ) → w < n → (w ≡ x → ⊥) → f w ≤ g w) → sum_below n f + g x ≤ sum_below n g + f x
  unfolding sum_below
  sum_at zero x l h = omega arith
  sum_at (suc n) x l h = go (ℕ_discrete x n) (λ k. sum_at n x k (λ w b. h w (omega arith)))
    where
      go : Dec (x ≡ n) → (x < n → sum_below n f + g x ≤ sum_below n g + f x) → f n + sum_below n f + g x ≤ g n + sum_below n g + f x
      go (yes e) ih = omega (arith, ap f e, ap g e, sum_mono n (λ w k. h w (omega arith) (λ q. omega arith)))
      go (no q) ih = omega (arith, ih (omega arith), h n (omega arith) (λ p. q (sym p)))

  -- the same where x need not be below the bound
  pub sum_off : (n x k : ℕ) → ((w : ℕ) → (w ≡ x → ⊥) → f w ≤ g w) → f x ≤ g x + k → sum_below n f ≤ sum_below n g + k
  sum_off n x k h l = go (dec_lt x n)
    where
      go : Dec (x < n) → sum_below n f ≤ sum_below n g + k
      go (yes p) = omega (arith, sum_at n x p (λ w b. h w))
      go (no q) = omega (arith, sum_mono n (λ w r. h w (λ e. q (omega arith))))

-- ─── occurrences ─────────────────────────────────────────────────────────────

-- a number that stands at a place occurs
pub occurs_at : (w : ℕ) (xs : List ℕ) (i : ℕ) → i < length xs → get_or xs i 0 ≡ w → 1 ≤ occurs w xs
unfolding occurs
occurs_at w [] i l e = omega arith
occurs_at w (x ∷ xs) zero l e = omega (arith, agree_same w x (sym e))
occurs_at w (x ∷ xs) (suc i) l e = omega (arith, occurs_at w xs i (omega arith) e)

-- and one that occurs stands at a place
pub occurs_where : (w : ℕ) (xs : List ℕ) → 1 ≤ occurs w xs → (i : ℕ) × (i < length xs) × (get_or xs i 0 ≡ w)
unfolding occurs
occurs_where w [] h = absurd (omega arith)
occurs_where w (x ∷ xs) h = go (agree_cases w x) (occurs_where w xs)
  where
    go : Agreeing w x → (1 ≤ occurs w xs → (i : ℕ) × (i < length xs) × (get_or xs i 0 ≡ w)) → (i : ℕ) × (i < suc (length xs)) × (get_or (x ∷ xs) i 0 ≡ w)
    go (inl a) ih = (0, omega arith, sym a.0)
    go (inr a) ih = let u = ih (omega (arith, a.1)) in (suc u.0, omega (arith, u.1), u.2)

-- a list at one of its numbers
pub occurs_split : (w : ℕ) (xs : List ℕ) → 1 ≤ occurs w xs → (A : List ℕ) × (B : List ℕ) × (xs ≡ A ++ (w ∷ B))
unfolding occurs
occurs_split w [] h = absurd (omega arith)
occurs_split w (x ∷ xs) h = go (agree_cases w x) (occurs_split w xs)
  where
    go : Agreeing w x → (1 ≤ occurs w xs → (A : List ℕ) × (B : List ℕ) × (xs ≡ A ++ (w ∷ B))) → (A : List ℕ) × (B : List ℕ) × (x ∷ xs ≡ A ++ (w ∷ B))
    go (inl a) ih = ([], xs, ap (λ (v : ℕ). v ∷ xs) (sym a.0))
    go (inr a) ih = let u = ih (omega (arith, a.1)) in (x ∷ u.0, u.1, ap (λ (ys : List ℕ). x ∷ ys) u.2)

-- one number more in the middle
pub occurs_between : (v w : ℕ) (A B : List ℕ) → occurs v (A ++ (w ∷ B)) ≡ agree v w + occurs v (A ++ B)
unfolding occurs
occurs_between v w [] B = refl
occurs_between v w (x ∷ A) B = omega (arith, occurs_between v w A B)

-- a name that a weight of xs has occurs among their names
pub occurs-map : (c : ℕ → ℕ) (w : ℕ) (xs : List ℕ) → 1 ≤ occurs w xs → 1 ≤ occurs (c w) (map c xs)
unfolding occurs
occurs-map c w [] h = omega arith
occurs-map c w (x ∷ xs) h = go (agree_cases w x) (occurs-map c w xs)
  where
    go : Agreeing w x → (1 ≤ occurs w xs → 1 ≤ occurs (c w) (map c xs)) → 1 ≤ agree (c w) (c x) + occurs (c w) (map c xs)
    go (inl a) ih = omega (arith, agree_same (c w) (c x) (ap c a.0))
    go (inr a) ih = omega (arith, ih (omega (arith, a.1)))

-- and a name that occurs there is that of a weight
pub occurs-map-some : (c : ℕ → ℕ) (l : ℕ) (xs : List ℕ) → 1 ≤ occurs l (map c xs) → (w : ℕ) × (1 ≤ occurs w xs) × (c w ≡ l)
unfolding occurs
occurs-map-some c l [] h = absurd (omega arith)
occurs-map-some c l (x ∷ xs) h = go (agree_cases l (c x)) (occurs-map-some c l xs)
  where
    go : Agreeing l (c x) → (1 ≤ occurs l (map c xs) → (w : ℕ) × (1 ≤ occurs w xs) × (c w ≡ l)) → (w : ℕ) × (1 ≤ agree w x + occurs w xs) × (c w ≡ l)
    go (inl a) ih = (x, omega (arith, agree_same x x refl), sym a.0)
    go (inr a) ih = let w = ih (omega (arith, a.1)) in (w.0, omega (arith, w.1), w.2)

-- a name that none of them has does not occur
pub occurs-map_not : (c : ℕ → ℕ) (l : ℕ) (xs : List ℕ) → ((v : ℕ) → 1 ≤ occurs v xs → l ≡ c v → ⊥) → occurs l (map c xs) ≡ 0
unfolding occurs
occurs-map_not c l [] h = refl
occurs-map_not c l (x ∷ xs) h =
    omega (
      arith,
      agree-other l (c x) (h x (omega (arith, agree_same x x refl))),
      occurs-map_not c l xs (λ v p. h v (omega arith)),
    )

-- ─── odd or even ─────────────────────────────────────────────────────────────

-- odd counts 1, even 0
pub oddly_le : (ws : List ℕ) (w : ℕ) → oddly ws w ≤ 1
unfolding oddly
oddly_le ws w = omega arith

-- one weight more changes the parity there, and nowhere else
pub oddly-same : (ws : List ℕ) (w : ℕ) → oddly (w ∷ ws) w + oddly ws w ≡ 1
unfolding oddly occurs
oddly-same ws w = omega (arith, agree_same w w refl)

pub oddly-other : (ws : List ℕ) (x w : ℕ) → (w ≡ x → ⊥) → oddly (x ∷ ws) w ≡ oddly ws w
unfolding oddly occurs
oddly-other ws x w h = omega (arith, agree-other w x h)

-- ─── a bound ─────────────────────────────────────────────────────────────────

-- all are below n
abbrev pub AllBelow : ℕ → List ℕ → Type 0
AllBelow n ws = All (λ w. w < n) ws

-- the bound is above all
pub above-all : (ws : List ℕ) → AllBelow (above ws) ws
unfolding above
above-all [] = tt
above-all (w ∷ ws) = (omega arith, all_map (λ x l. omega arith) ws (above-all ws))

-- a number above the bound does not occur
pub occurs_beyond : (n v : ℕ) (ws : List ℕ) → AllBelow n ws → n ≤ v → occurs v ws ≡ 0
unfolding occurs
occurs_beyond n v [] h l = refl
occurs_beyond n v (x ∷ ws) h l = omega (arith, agree-other v x (λ e. omega (arith, h.0)), occurs_beyond n v ws h.1 l)
