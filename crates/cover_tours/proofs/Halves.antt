-- Laws of halves: where they start, what stays unused when one is taken, and when none is left at a vertex.
use mathlib.Core.Path.{◌≡◌, refl, ap, sym, ◌∙◌}
use mathlib.Core.List.{List, [], ◌∷◌}
use Prim.Native.Nat.{ℕ, zero, suc, ◌+◌, ◌-◌, ◌*◌, ◌/◌, ◌%◌, ◌≤◌, ◌<◌}
use native.Mathlib.Omega.{arith}
use native.Mathlib.Decide.{ℕ_discrete}
use borrow.Author.Tests.{lt-ltb, le-ltb, eq-eqb, ne_eqb}
use lib.ListN.{length, get_or, set}
use Rattle.cover_trails.specs.Counting.{occurs}
use Rattle.cover_trails.specs.Strings.{weights}
use Rattle.cover_trails.specs.Walks.{Reordered, keep, turn, exchange, both}
use Rattle.lists.proofs.Agree.{agree_same, agree-other}
use Rattle.cover_trails.proofs.Orders.{unmoved, occurs-reordered}
use Rattle.cover_tours.specs.Halves.{near, other, gone, unused, numbered}

-- ─── where a half starts ─────────────────────────────────────────────────────

module _ (m : ℕ) (verts : List ℕ) (c : ℕ) where
  -- an end of a string starts at its vertex
  pub near-string : c < 2 * m → near m verts c ≡ get_or verts c 0
  unfolding near
  near-string h = rw (lt-ltb c (2 * m) h)

  -- an even half of a spoke starts at the hub
  pub near_hub : 2 * m ≤ c → c % 2 ≡ 0 → near m verts c ≡ 2 * m
  unfolding near
  near_hub h e = rw (le-ltb c (2 * m) h, eq-eqb (c % 2) 0 e)

  -- an odd one at the spoke's vertex
  pub near_spoke : 2 * m ≤ c → (c % 2 ≡ 0 → ⊥) → near m verts c ≡ c / 2 - m
  unfolding near
  near_spoke h e = rw (le-ltb c (2 * m) h, ne_eqb (c % 2) 0 e)

-- ─── one more is used ────────────────────────────────────────────────────────

module _ (f : ℕ → ℕ) where
  use_one : (e : ℕ) (flags : List ℕ) (i : ℕ) → i < length flags → get_or flags i 0 ≡ 0
      → Reordered (unused f e flags) ((f (2 * (e + i)), f (2 * (e + i) + 1)) ∷ unused f e (set flags i 1))
  unfolding unused
  use_one e [] i l z = absurd (omega arith)
  use_one e (zero ∷ flags) zero l z = let q : e + 0 ≡ e = omega arith in rw q (unmoved _)
  use_one e (zero ∷ flags) (suc i) l z =
      let q : e + suc i ≡ suc e + i = omega arith in
      rw q (both (keep (use_one (suc e) flags i (omega arith) z)) exchange)
  use_one e (suc n ∷ flags) zero l z = absurd (omega arith)
  use_one e (suc n ∷ flags) (suc i) l z = let q : e + suc i ≡ suc e + i = omega arith in rw q (use_one (suc e) flags i (omega arith) z)

  -- number i is used, as it is gone along from its half c
  use_at : (flags : List ℕ) (i a b : ℕ) → i < length flags → get_or flags i 0 ≡ 0 → 2 * (0 + i) ≡ a → 2 * (0 + i) + 1 ≡ b
      → Reordered (unused f 0 flags) ((f a, f b) ∷ unused f 0 (set flags i 1))
  use_at flags i a b l z p q = rw (q, p) at (use_one 0 flags i l z)

  -- the half c is used, and the others stay
  pub use_half : (flags : List ℕ) (c : ℕ) → c / 2 < length flags → get_or flags (c / 2) 0 ≡ 0
      → Reordered (unused f 0 flags) (gone f c ∷ unused f 0 (set flags (c / 2) 1))
  use_half flags c l z = go (ℕ_discrete (c % 2) 0)
    where
      go : Dec (c % 2 ≡ 0) → Reordered (unused f 0 flags) (gone f c ∷ unused f 0 (set flags (c / 2) 1))
      go (yes p) = use_at flags (c / 2) c (other c) l z (omega arith) (omega arith)
      go (no p) = both (use_at flags (c / 2) (other c) c l z (omega arith) (omega arith)) (turn (unmoved (unused f 0 (set flags (c / 2) 1))))

  -- there are n of them
  pub length-numbered : (e n : ℕ) → length (numbered f e n) ≡ n
  unfolding numbered
  length-numbered e zero = refl
  length-numbered e (suc n) = ap suc (length-numbered (suc e) n)

  -- ─── none is left ──────────────────────────────────────────────────────────

  none_from : (e : ℕ) (flags : List ℕ) (w : ℕ) → ((i : ℕ) → i < length flags → get_or flags i 0 ≡ 0 → (f (2 * (e + i)) ≡ w → ⊥) × (f (2 * (e + i) + 1) ≡ w → ⊥))
      → occurs w (weights (unused f e flags)) ≡ 0
  unfolding unused occurs weights
  none_from e [] w h = refl
  none_from e (zero ∷ flags) w h =
      let p = h 0 (omega arith) refl in
      let q : e + 0 ≡ e = omega arith in
      omega (
        arith,
        agree-other w (f (2 * e)) (λ r. p.0 (ap (λ (x : ℕ). f (2 * x)) q ∙ sym r)),
        agree-other w (f (2 * e + 1)) (λ r. p.1 (ap (λ (x : ℕ). f (2 * x + 1)) q ∙ sym r)),
        none_from (suc e) flags w (λ i l z. let q : e + suc i ≡ suc e + i = omega arith in rw q at (h (suc i) (omega arith) z)),
      )
  none_from e (suc n ∷ flags) w h = none_from (suc e) flags w (λ i l z. let q : e + suc i ≡ suc e + i = omega arith in rw q at (h (suc i) (omega arith) z))

  -- no unused half starts at w
  pub none-unused : (flags : List ℕ) (w : ℕ) → ((c : ℕ) → c / 2 < length flags → get_or flags (c / 2) 0 ≡ 0 → f c ≡ w → ⊥)
      → occurs w (weights (unused f 0 flags)) ≡ 0
  none-unused flags w h =
      none_from 0 flags w
      (λ i l z.
      let a : (2 * (0 + i)) / 2 ≡ i = omega arith in
      let b : (2 * (0 + i) + 1) / 2 ≡ i = omega arith in
      (h (2 * (0 + i)) (rw a l) (rw a z), h (2 * (0 + i) + 1) (rw b l) (rw b z)))

  -- an unused one does
  pub some-unused : (flags : List ℕ) (c : ℕ) → c / 2 < length flags → get_or flags (c / 2) 0 ≡ 0 → 1 ≤ occurs (f c) (weights (unused f 0 flags))
  unfolding occurs weights
  some-unused flags c l z = omega (arith, occurs-reordered (use_half flags c l z) (f c), agree_same (f c) (f c) refl)
