-- Laws of `first_that`: one element more, and what it tells. Assumes nothing.
use mathlib.Core.Path.{◌≡◌, refl, sym, ap, ap₂, ◌∙◌}
use mathlib.Core.Bool.{Bool, true, false}
use mathlib.Core.List.{List, [], ◌∷◌, ◌++◌}
use Prim.Native.Nat.{ℕ, zero, suc, ◌+◌, ◌-◌, ◌<◌, ◌≤◌}
use native.Mathlib.Omega.{arith}
use borrow.Author.Tests.{eq-eqb, ne_eqb}
use lib.Dec.{eqb}
use lib.ListN.{length, get_or}
use Rattle.lists.specs.Choose.{choose}
use Rattle.lists.specs.First.{first_from, first_that}
use Rattle.lists.specs.Every.{All}

module _ {A : Type 0} (test : A → Bool) where
  -- ─── one element more behind ───────────────────────────────────────────────

  first_snoc_from : (i : ℕ) (xs : List A) (x : A)
      → first_from test i (xs ++ (x ∷ [])) ≡ choose (eqb (first_from test i xs) 0) (choose (test x) (suc (i + length xs)) 0) (first_from test i xs)
  unfolding first_from
  first_snoc_from i [] x = let q : suc i ≡ suc (i + 0) = omega arith in ap (λ (n : ℕ). choose (test x) n 0) q
  first_snoc_from i (y ∷ xs) x = go (test y) (first_snoc_from (suc i) xs x)
    where
      go : (t : Bool)
          → first_from test (suc i) (xs ++ (x ∷ []))
          ≡ choose (eqb (first_from test (suc i) xs) 0) (choose (test x) (suc (suc i + length xs)) 0) (first_from test (suc i) xs)
          → choose t (suc i) (first_from test (suc i) (xs ++ (x ∷ [])))
          ≡ choose (eqb (choose t (suc i) (first_from test (suc i) xs)) 0) (choose (test x) (suc (i + suc (length xs))) 0)
          (choose t (suc i) (first_from test (suc i) xs))
      go true ih = sym (ap (λ (b : Bool). choose b (choose (test x) (suc (i + suc (length xs))) 0) (suc i)) (ne_eqb (suc i) 0 (λ q. omega arith)))
      go false ih =
          let q : suc (suc i + length xs) ≡ suc (i + suc (length xs)) = omega arith in
          ih ∙ ap (λ (n : ℕ). choose (eqb (first_from test (suc i) xs) 0) (choose (test x) n 0) (first_from test (suc i) xs)) q

  -- where none of xs meets the test, x is the first if it does
  pub first_snoc-none : (xs : List A) (x : A) → first_that test xs ≡ 0 → first_that test (xs ++ (x ∷ [])) ≡ choose (test x) (length xs + 1) 0
  first_snoc-none xs x e =
      let q : suc (0 + length xs) ≡ length xs + 1 = omega arith in
      first_snoc_from 0 xs x
      ∙ (ap (λ (b : Bool). choose b (choose (test x) (suc (0 + length xs)) 0) (first_that test xs)) (eq-eqb (first_that test xs) 0 e)
      ∙ ap (λ (n : ℕ). choose (test x) n 0) q)

  -- an element that does not meet the test changes nothing
  pub first_snoc-other : (xs : List A) (x : A) → test x ≡ false → first_that test (xs ++ (x ∷ [])) ≡ first_that test xs
  first_snoc-other xs x e = first_snoc_from 0 xs x ∙ go (first_that test xs)
    where
      go : (n : ℕ) → choose (eqb n 0) (choose (test x) (suc (0 + length xs)) 0) n ≡ n
      go zero = ap (λ (b : Bool). choose b (suc (0 + length xs)) 0) e
      go (suc n) = ap (λ (b : Bool). choose b (choose (test x) (suc (0 + length xs)) 0) (suc n)) (ne_eqb (suc n) 0 (λ q. omega arith))

  -- ─── what it tells ─────────────────────────────────────────────────────────

  first_none_from : (i : ℕ) (xs : List A) → first_from test i xs ≡ 0 → All (λ x. test x ≡ false) xs
  unfolding first_from
  first_none_from i [] e = tt
  first_none_from i (x ∷ xs) e = go (test x) refl e (first_none_from (suc i) xs)
    where
      go : (t : Bool) → test x ≡ t → choose t (suc i) (first_from test (suc i) xs) ≡ 0 → (first_from test (suc i) xs ≡ 0 → All (λ x. test x ≡ false) xs)
          → All (λ x. test x ≡ false) (x ∷ xs)
      go true q r ih = absurd (omega arith)
      go false q r ih = (q, ih r)

  -- 0 says that no element meets the test
  pub first_none : (xs : List A) → first_that test xs ≡ 0 → All (λ x. test x ≡ false) xs
  first_none = first_none_from 0

  none_first_from : (i : ℕ) (xs : List A) → All (λ x. test x ≡ false) xs → first_from test i xs ≡ 0
  unfolding first_from
  none_first_from i [] a = refl
  none_first_from i (x ∷ xs) a = rw a.0 (none_first_from (suc i) xs a.1)

  pub none_first : (xs : List A) → All (λ x. test x ≡ false) xs → first_that test xs ≡ 0
  none_first = none_first_from 0

  -- what is found at place p, where i elements stood before: it is in range, meets the test, and none before it does
  pub record FoundFrom (i : ℕ) (xs : List A) (p : ℕ) : Type 0 where
    pub low : i < p
    pub high : p ≤ i + length xs
    pub meets : (d : A) → test (get_or xs (p - suc i) d) ≡ true
    pub none_before : (d : A) (j : ℕ) → i + j + 1 < p → test (get_or xs j d) ≡ false

  pub first_found_from : (i : ℕ) (xs : List A) (p : ℕ) → first_from test i xs ≡ suc p → FoundFrom i xs (suc p)
  unfolding first_from
  first_found_from i [] p e = absurd (omega arith)
  first_found_from i (x ∷ xs) p e = go (test x) refl e (first_found_from (suc i) xs p)
    where
      go : (t : Bool) → test x ≡ t → choose t (suc i) (first_from test (suc i) xs) ≡ suc p → (first_from test (suc i) xs ≡ suc p → FoundFrom (suc i) xs (suc p))
          → FoundFrom i (x ∷ xs) (suc p)
      go true q r ih =
          record {
            low = omega arith;
            high = omega arith;
            meets = λ d. let z : suc p - suc i ≡ 0 = omega arith in rw z q;
            none_before = λ d j l. absurd (omega arith);
          }
      go false q r ih =
          let f = ih r in
          record {
            low = omega (arith, f.low);
            high = omega (arith, f.high);
            meets = λ d. let z : suc p - suc i ≡ suc (suc p - suc (suc i)) = omega (arith, f.low) in rw z (f.meets d);
            none_before = λ d j. before d j (f.none_before d);
          }
        where
          before : (d : A) (j : ℕ) → ((j : ℕ) → suc i + j + 1 < suc p → test (get_or xs j d) ≡ false) → i + j + 1 < suc p → test (get_or (x ∷ xs) j d) ≡ false
          before d zero g l = q
          before d (suc j) g l = g j (omega arith)

-- two tests that agree on each element find the same first
pub first_agrees : {A : Type 0} (s t : A → Bool) (i : ℕ) (xs : List A) → All (λ x. s x ≡ t x) xs → first_from s i xs ≡ first_from t i xs
unfolding first_from
first_agrees s t i [] h = refl
first_agrees s t i (x ∷ xs) h = ap₂ (λ (b : Bool) (n : ℕ). choose b (suc i) n) h.0 (first_agrees s t (suc i) xs h.1)
