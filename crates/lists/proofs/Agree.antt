-- Laws of `agree`. Assumes nothing.
use mathlib.Core.Path.{◌≡◌, sym, ◌∙◌}
use mathlib.Core.Logic.{◌⊎◌, inl, inr}
use mathlib.Core.Bool.{Bool, true, false}
use Prim.Native.Nat.{ℕ, ◌≤◌}
use native.Mathlib.Omega.{arith}
use native.Mathlib.Decide.{ℕ_discrete}
use lib.Dec.{eqb}
use borrow.Author.Tests.{eq-eqb, ne_eqb}
use Rattle.lists.specs.Choose.{choose}
use Rattle.lists.specs.Count.{agree}

-- equal numbers agree
pub agree_same : (a b : ℕ) → a ≡ b → agree a b ≡ 1
unfolding agree
agree_same a b e = rw (eq-eqb a b e)

-- different ones do not
pub agree-other : (a b : ℕ) → (a ≡ b → ⊥) → agree a b ≡ 0
unfolding agree
agree-other a b h = rw (ne_eqb a b h)

-- which of the two it is
abbrev pub Agreeing : ℕ → ℕ → Type 0
Agreeing a b = ((a ≡ b) × (agree a b ≡ 1)) ⊎ ((a ≡ b → ⊥) × (agree a b ≡ 0))

-- two numbers agree, or they do not
pub agree_cases : (a b : ℕ) → Agreeing a b
agree_cases a b = go (ℕ_discrete a b)
  where
    go : Dec (a ≡ b) → Agreeing a b
    go (yes e) = inl (e, agree_same a b e)
    go (no h) = inr (h, agree-other a b h)

-- agreeing counts at most 1
pub agree_le : (a b : ℕ) → agree a b ≤ 1
unfolding agree
agree_le a b = go (eqb a b)
  where
    go : (t : Bool) → choose t 1 0 ≤ 1
    go true = omega arith
    go false = omega arith

pub agree-turned : (a b : ℕ) → agree a b ≡ agree b a
agree-turned a b = go (ℕ_discrete a b)
  where
    go : Dec (a ≡ b) → agree a b ≡ agree b a
    go (yes e) = agree_same a b e ∙ sym (agree_same b a (sym e))
    go (no h) = agree-other a b h ∙ sym (agree-other b a (λ e. h (sym e)))
