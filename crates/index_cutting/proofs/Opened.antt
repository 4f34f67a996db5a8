-- Laws of the stretches of a string as a loop over its k-mers meets them, and of the strings one after the other. Assumes nothing.
use mathlib.Core.Path.{◌≡◌, sym, ap, ap₂, ◌∙◌}
use mathlib.Core.List.{List, [], ◌∷◌, ◌++◌}
use Prim.Native.Nat.{ℕ, suc, ◌+◌, ◌-◌, ◌≤◌, ◌<◌}
use native.Mathlib.Nat.{add-zero}
use native.Mathlib.Omega.{arith}
use borrow.Author.Tests.{eq-eqb, ne_eqb}
use lib.ListN.{length, get_or, drop, drop_of_length-le}
use Rattle.lists.proofs.Storing.{drop_next}
use Rattle.collection.specs.Kmers.{within}
use Rattle.index_stretches.specs.Stretches.{Stretch, stretch, open_from, of_string, stretches_from}

-- ─── one k-mer after the other ───────────────────────────────────────────────

module _ (q : ℕ → ℕ) (h a n left : ℕ) where
  open_same : q (a + n) ≡ q a → open_from q h a n (suc left) ≡ open_from q h a (suc n) left
  unfolding open_from
  open_same e = rw (eq-eqb (q (a + n)) (q a) e)

  open_other : (q (a + n) ≡ q a → ⊥) → open_from q h a n (suc left) ≡ stretch h a n ∷ open_from q (h + n) (a + n) 1 left
  unfolding open_from
  open_other e = rw (ne_eqb (q (a + n)) (q a) e)

module _ (q : ℕ → ℕ) (h a n : ℕ) where
  -- the stretches to come of a string of n k-mers, the open one first: it began with k-mer s (from 0), and i k-mers have been looked at
  abbrev pub Open : ℕ → ℕ → List Stretch
  Open s i = open_from q (h + s) (a + s) (i - s) (n - i)

  -- the string's first k-mer has been looked at
  pub open_start : 1 ≤ n → of_string q h a n ≡ Open 0 1
  unfolding of_string
  open_start l =
      let e : n ≡ suc (n - 1) = omega arith in
      ap (of_string q h a) e ∙ ap₂ (λ (x y : ℕ). open_from q x y 1 (n - 1)) (sym (add-zero h)) (sym (add-zero a))

  module _ (s i : ℕ) (l : s < i) where
    here : a + s + (i - s) ≡ a + i
    here = omega arith

    -- the next k-mer has the minimizer of the open stretch
    pub open_on : i < n → q (a + i) ≡ q (a + s) → Open s i ≡ Open s (i + 1)
    open_on g e =
        let x : n - i ≡ suc (n - (i + 1)) = omega arith in
        let y : suc (i - s) ≡ i + 1 - s = omega arith in
        ap (open_from q (h + s) (a + s) (i - s)) x
        ∙ (open_same q (h + s) (a + s) (i - s) (n - (i + 1)) (ap q here ∙ e) ∙ ap (λ (j : ℕ). open_from q (h + s) (a + s) j (n - (i + 1))) y)

    -- it has another, and begins a stretch
    pub open_cut : i < n → (q (a + i) ≡ q (a + s) → ⊥) → Open s i ≡ stretch (h + s) (a + s) (i - s) ∷ Open i (i + 1)
    open_cut g e =
        let x : n - i ≡ suc (n - (i + 1)) = omega arith in
        let y : h + s + (i - s) ≡ h + i = omega arith in
        let z : 1 ≡ i + 1 - i = omega arith in
        ap (open_from q (h + s) (a + s) (i - s)) x
        ∙ (open_other q (h + s) (a + s) (i - s) (n - (i + 1)) (λ r. e (sym (ap q here) ∙ r))
        ∙ ap (λ (ss : List Stretch). stretch (h + s) (a + s) (i - s) ∷ ss)
        (ap₂ (λ (u v : ℕ). open_from q u v 1 (n - (i + 1))) y here ∙ ap (λ (j : ℕ). open_from q (h + i) (a + i) j (n - (i + 1))) z))

  -- no k-mer is left: the open stretch is the last
  pub open_last : (s i : ℕ) → i ≡ n → Open s i ≡ stretch (h + s) (a + s) (n - s) ∷ []
  unfolding open_from
  open_last s i e =
      let z : n - i ≡ 0 = omega arith in
      ap₂ (open_from q (h + s) (a + s)) (ap (λ (j : ℕ). j - s) e) z

-- ─── one string after the other ──────────────────────────────────────────────

module _ (q : ℕ → ℕ) (k h before : ℕ) (ends : List ℕ) (i : ℕ) where
  -- the stretches from string i (from 0) on: those of this string, then the rest
  pub stretches_next : i < length ends
      → stretches_from q k h before (drop i ends)
      ≡ of_string q h before (within k before (get_or ends i 0)) ++ stretches_from q k (h + within k before (get_or ends i 0)) (get_or ends i 0)
      (drop (i + 1) ends)
  unfolding stretches_from
  stretches_next l = ap (stretches_from q k h before) (drop_next ends i 0 l)

  -- no string is left
  pub stretches_end : length ends ≤ i → stretches_from q k h before (drop i ends) ≡ []
  unfolding stretches_from
  stretches_end l = ap (stretches_from q k h before) (drop_of_length-le ends l)
