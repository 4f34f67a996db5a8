-- The base-2 logarithm, rounded up: the loop that finds it, and that it is the least. Assumes nothing.
use mathlib.Core.Path.{◌≡◌, refl, sym, ap, ◌∙◌}
use mathlib.Core.Logic.{◌⊎◌, inl, inr}
use Prim.Native.Nat.{ℕ, zero, suc, ◌+◌, ◌-◌, ◌*◌, ◌^◌, ◌<◌, ◌≤◌}
use native.Mathlib.Omega.{arith}
use borrow.Author.Tests.{le-leb, lt-leb}
use lib.Dec.{leb}
use Rattle.lists.specs.Choose.{choose}
use Rattle.lists.proofs.Compare.{lt_or_le}
use Rattle.summary_counts.specs.Counts.{bits_from, bits_for}

-- a power of two is above its exponent
below_power : (b : ℕ) → b < 2 ^ b
below_power zero = omega arith
below_power (suc b) = omega (arith, below_power b)

-- b is enough, or the next is tried
from_here : (steps b w : ℕ) → w ≤ 2 ^ b → bits_from steps b w ≡ b
unfolding bits_from
from_here zero b w h = refl
from_here (suc steps) b w h = rw (le-leb w (2 ^ b) h)

from_next : (steps b w : ℕ) → 2 ^ b < w → bits_from (suc steps) b w ≡ bits_from steps (suc b) w
unfolding bits_from
from_next steps b w h = rw (lt-leb w (2 ^ b) h)

-- ─── the loop ────────────────────────────────────────────────────────────────

-- p is 2^b, and the search from b on finds the logarithm
pub record Doubling (w b p : ℕ) : Type 0 where
  pub power : p ≡ 2 ^ b
  pub some : b < p
  pub rest : bits_from (w - b) b w ≡ bits_for w

-- 2^0 is 1
pub doubling : (w : ℕ) → Doubling w 0 1
unfolding bits_for
doubling w = let z : w - 0 ≡ w = omega arith in record { power = refl; some = omega arith; rest = ap (λ (x : ℕ). bits_from x 0 w) z }

module _ {w b p : ℕ} (d : Doubling w b p) where
  -- one more bit
  pub doubled : p < w → Doubling w (b + 1) (p * 2)
  doubled l =
      let s : w - b ≡ suc (w - (b + 1)) = omega (arith, d.some) in
      let e : suc b ≡ b + 1 = omega arith in
      record {
        power = omega (arith, d.power, ap (λ (x : ℕ). 2 ^ x) e);
        some = omega (arith, d.some);
        rest = sym (ap (λ (x : ℕ). bits_from (w - (b + 1)) x w) e)
            ∙ (sym (from_next (w - (b + 1)) b w (omega (arith, d.power))) ∙ (sym (ap (λ (x : ℕ). bits_from x b w) s) ∙ d.rest));
      }

  -- enough bits
  pub doubled_enough : w ≤ p → b ≡ bits_for w
  doubled_enough l = sym (from_here (w - b) b w (omega (arith, d.power))) ∙ d.rest

-- ─── the least ───────────────────────────────────────────────────────────────

-- what is found from b on is enough, and no smaller one from b on is
least_from : (steps b w : ℕ) → w ≤ steps + b → (w ≤ 2 ^ bits_from steps b w) × ((a : ℕ) → b ≤ a → w ≤ 2 ^ a → bits_from steps b w ≤ a)
unfolding bits_from
least_from zero b w h = (omega (arith, below_power b), λ a l e. l)
least_from (suc steps) b w h = go (lt_or_le (2 ^ b) w) (least_from steps (suc b) w (omega arith))
  where
    go : (2 ^ b < w) ⊎ (w ≤ 2 ^ b) → (w ≤ 2 ^ bits_from steps (suc b) w) × ((a : ℕ) → suc b ≤ a → w ≤ 2 ^ a → bits_from steps (suc b) w ≤ a)
        → (w ≤ 2 ^ choose (leb w (2 ^ b)) b (bits_from steps (suc b) w))
        × ((a : ℕ) → b ≤ a → w ≤ 2 ^ a → choose (leb w (2 ^ b)) b (bits_from steps (suc b) w) ≤ a)
    go (inr l) r = rw (le-leb w (2 ^ b) l) (l, λ a m e. m)
    go (inl l) r = rw (lt-leb w (2 ^ b) l) (r.0, λ a m e. later a m e (lt_or_le b a))
      where
        later : (a : ℕ) → b ≤ a → w ≤ 2 ^ a → (b < a) ⊎ (a ≤ b) → bits_from steps (suc b) w ≤ a
        later a m e (inl n) = r.1 a n e
        later a m e (inr n) = let q : a ≡ b = omega arith in absurd (omega (arith, ap (λ (x : ℕ). 2 ^ x) q))

-- the logarithm rounded up is the least b with w ≤ 2^b
pub bits_least : (w : ℕ) → (w ≤ 2 ^ bits_for w) × ((b : ℕ) → w ≤ 2 ^ b → bits_for w ≤ b)
unfolding bits_for
bits_least w = let r = least_from w 0 w (omega arith) in (r.0, λ b e. r.1 b (omega arith) e)
