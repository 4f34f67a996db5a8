-- Laws of the first place with a key: it has that key, all places from it on have it as their first, and where keys rise, equal keys have one first place.
use mathlib.Core.Path.{◌≡◌, refl, ap, sym, ◌∙◌}
use mathlib.Core.Bool.{Bool, true, false}
use Prim.Native.Nat.{ℕ, zero, suc, ◌+◌, ◌-◌, ◌<◌, ◌≤◌}
use native.Mathlib.Omega.{arith}
use native.Mathlib.Decide.{ℕ_discrete, dec_lt}
use borrow.Author.Tests.{eqb-true, eq-eqb}
use lib.Dec.{eqb}
use Rattle.lists.specs.Choose.{choose}
use Rattle.cover_vertices.specs.Firsts.{first_of}

module _ (ks : ℕ → ℕ) where
  -- it is not behind the place
  pub first_le : (q : ℕ) → first_of ks q ≤ q
  unfolding first_of
  first_le zero = omega arith
  first_le (suc q) = go (eqb (ks (suc q)) (ks q)) (first_le q)
    where
      go : (t : Bool) → first_of ks q ≤ q → choose t (first_of ks q) (suc q) ≤ suc q
      go true h = omega arith
      go false h = omega arith

  -- it has the key
  pub first_key : (q : ℕ) → ks (first_of ks q) ≡ ks q
  unfolding first_of
  first_key zero = refl
  first_key (suc q) = go (eqb (ks (suc q)) (ks q)) refl (first_key q)
    where
      go : (t : Bool) → eqb (ks (suc q)) (ks q) ≡ t → ks (first_of ks q) ≡ ks q → ks (choose t (first_of ks q) (suc q)) ≡ ks (suc q)
      go true e h = h ∙ sym (eqb-true (ks (suc q)) (ks q) e)
      go false e h = refl

  -- it is the first of all places from it up to the place
  pub first_between : (q p : ℕ) → first_of ks q ≤ p → p ≤ q → first_of ks p ≡ first_of ks q
  unfolding first_of
  first_between zero p a b = let e : p ≡ 0 = omega arith in ap (first_of ks) e
  first_between (suc q) p a b = go (eqb (ks (suc q)) (ks q)) refl a (ℕ_discrete p (suc q)) (first_between q p)
    where
      go : (t : Bool) → eqb (ks (suc q)) (ks q) ≡ t → choose t (first_of ks q) (suc q) ≤ p → Dec (p ≡ suc q)
          → (first_of ks q ≤ p → p ≤ q → first_of ks p ≡ first_of ks q)
          → first_of ks p ≡ choose t (first_of ks q) (suc q)
      go t e a (yes i) ih = ap (first_of ks) i ∙ ap (λ (u : Bool). choose u (first_of ks q) (suc q)) e
      go true e a (no i) ih = ih a (omega arith)
      go false e a (no i) ih = absurd (omega arith)

  -- equal keys up to a place below n, where keys rise
  module _ (n : ℕ) (rises : (p q : ℕ) → p ≤ q → q < n → ks p ≤ ks q) where
    first_up : (p d : ℕ) → p + d < n → ks p ≡ ks (p + d) → first_of ks p ≡ first_of ks (p + d)
    unfolding first_of
    first_up p zero l e = let z : p ≡ p + 0 = omega arith in ap (first_of ks) z
    first_up p (suc d) l e =
        let z : p + suc d ≡ suc (p + d) = omega arith in
        let h : ks p ≡ ks (suc (p + d)) = e ∙ ap ks z in
        let k : ks (p + d) ≡ ks p = omega (arith, rises p (p + d) (omega arith) (omega arith), rises (p + d) (suc (p + d)) (omega arith) (omega arith)) in
        first_up p d (omega arith) (sym k)
        ∙ (sym (ap (λ (u : Bool). choose u (first_of ks (p + d)) (suc (p + d))) (eq-eqb (ks (suc (p + d))) (ks (p + d)) (sym h ∙ sym k)))
        ∙ ap (first_of ks) (sym z))

    -- equal keys have one first place
    pub first_same : (p q : ℕ) → p < n → q < n → ks p ≡ ks q → first_of ks p ≡ first_of ks q
    first_same p q a b e = go (dec_lt q p)
      where
        up : (p q : ℕ) → p ≤ q → q < n → ks p ≡ ks q → first_of ks p ≡ first_of ks q
        up p q a b e = let z : q ≡ p + (q - p) = omega arith in rw z (first_up p (q - p) (omega arith) (rw z at e))

        go : Dec (q < p) → first_of ks p ≡ first_of ks q
        go (yes l) = sym (up q p (omega arith) a (sym e))
        go (no l) = up p q (omega arith) b e
