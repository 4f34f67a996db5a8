-- Laws of numbers at equal steps.
use mathlib.Core.Path.{◌≡◌, refl, ap, ◌∙◌}
use mathlib.Core.List.{List, [], ◌∷◌, ◌++◌, append-nil}
use Prim.Native.Nat.{ℕ, zero, suc, ◌+◌, ◌-◌, ◌*◌, ◌^◌, ◌<◌, ◌≤◌}
use native.Mathlib.Nat.{suc-mul, zero-mul}
use native.Mathlib.Omega.{arith}
use lib.ListN.{length, get_or, set, replicate, drop_of_length-le}
use Rattle.lists.specs.Fill.{fill}
use Rattle.lists.proofs.Storing.{Storing, begin, store, restated, stored}
use Rattle.cover_vertices.specs.Ladder.{ladder}

-- there are n of them
pub length-ladder : (x step n : ℕ) → length (ladder x step n) ≡ n
unfolding ladder
length-ladder x step zero = refl
length-ladder x step (suc n) = ap suc (length-ladder (x + step) step n)

-- number i is i steps up
pub ladder_at : (x step n i : ℕ) → i < n → get_or (ladder x step n) i 0 ≡ x + i * step
unfolding ladder
ladder_at x step zero i h = absurd (omega arith)
ladder_at x step (suc n) zero h = omega (arith, zero-mul step)
ladder_at x step (suc n) (suc i) h = omega (arith, ladder_at (x + step) step n i (omega arith), suc-mul i step)

-- the rest after i of n: one more
module _ (x step n i : ℕ) (h : i < n) where
  pub ladder_next : ladder x step (n - i) ≡ x ∷ ladder (x + step) step (n - (i + 1))
  unfolding ladder
  ladder_next = let e : n - i ≡ suc (n - (i + 1)) = omega arith in ap (ladder x step) e

  pub step_next : (n - i) * step ≡ step + (n - (i + 1)) * step
  step_next = let e : n - i ≡ suc (n - (i + 1)) = omega arith in rw e (omega (arith, suc-mul (n - (i + 1)) step))

-- nothing is left to store
pub ladder_end : (x step n i : ℕ) → n ≤ i → ladder x step (n - i) ≡ []
unfolding ladder
ladder_end x step n i h = let e : n - i ≡ 0 = omega arith in ap (ladder x step) e

-- as many entries as a table has are all of it
pub fill_whole : (xs p : List ℕ) → length xs ≡ length p → fill xs p ≡ xs
fill_whole xs p l = ap (λ (t : List ℕ). xs ++ t) (drop_of_length-le p (omega arith)) ∙ append-nil xs

-- ─── a loop that stores them ─────────────────────────────────────────────────

-- in a part of n entries i of n numbers are stored, the next is x
pub record Climbing (n first step : ℕ) (p : List ℕ) (x i : ℕ) : Type 0 where
  pub inside : i ≤ n
  pub bound : x + (n - i) * step < 2 ^ 32
  pub storing : Storing n p (ladder first step n) (ladder x step (n - i)) i

-- nothing is stored yet
pub climb_start : (n first step : ℕ) (p : List ℕ) → length p ≡ n → first + n * step < 2 ^ 32 → Climbing n first step p first 0
climb_start n first step p w b =
    let e : n - 0 ≡ n = omega arith in
    let xs : List ℕ = ladder first step n in
    let l : length xs ≡ n = length-ladder first step n in
    let s = begin p xs (omega arith) in
    record {
      inside = omega arith;
      bound = rw e b;
      storing = rw e (record { size_kept = w; room = s.room; ends = s.ends ∙ fill_whole xs p (omega arith) });
    }

module _ {n first step : ℕ} {p : List ℕ} {x i : ℕ} (c : Climbing n first step p x i) where
  module _ (low : i < n) where
    -- the number after the next fits
    pub climb_fits : x + step < 2 ^ 32
    climb_fits = omega (arith, c.bound, step_next x step n i low)

    -- the next is stored
    pub climb_on : Climbing n first step (set p i x) (x + step) (i + 1)
    climb_on =
        record {
          inside = omega arith;
          bound = omega (arith, c.bound, step_next x step n i low);
          storing = store (restated (ladder_next x step n i low) c.storing);
        }

  -- all numbers are stored
  pub climb_end : n ≤ i → p ≡ ladder first step n
  climb_end h = stored (restated (ladder_end x step n i h) c.storing)

-- steps of 0
pub ladder_same : (x n : ℕ) → ladder x 0 n ≡ replicate n x
unfolding ladder
ladder_same x zero = refl
ladder_same x (suc n) = let e : x + 0 ≡ x = omega arith in rw e (ap (λ (t : List ℕ). x ∷ t) (ladder_same x n))
