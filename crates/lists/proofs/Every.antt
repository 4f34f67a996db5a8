-- Laws of `All`, `every` and `same`. Assumes nothing.
use mathlib.Core.Path.{◌≡◌, refl, sym, ap, ap₂, ◌∙◌, subst}
use mathlib.Core.Bool.{Bool, true, false, ◌&&◌}
use mathlib.Core.List.{List, [], ◌∷◌, ◌++◌}
use Prim.Native.Nat.{ℕ, zero, suc, ◌+◌, ◌<◌, ◌≤◌}
use native.Mathlib.Nat.{not-suc-le-zero, le_of_suc-le-suc}
use native.Mathlib.Omega.{arith}
use lib.ListN.{length, get_or, take, drop, drop_of_length-le}
use lib.Dec.{eqb}
use borrow.Author.Tests.{eqb-true, eq-eqb}
use Rattle.lists.specs.Every.{All, every, same}
use Rattle.lists.proofs.Storing.{drop_next}
use Rattle.lists.proofs.Refuted.{never}

-- ─── tests joined by `&&` ────────────────────────────────────────────────────

pub and_left : (s t : Bool) → (s && t) ≡ true → s ≡ true
and_left true t e = refl
and_left false t e = e

pub and_right : (s t : Bool) → (s && t) ≡ true → t ≡ true
and_right true t e = e
and_right false t e = never e

pub and_both : {s t : Bool} → s ≡ true → t ≡ true → (s && t) ≡ true
and_both e f = ap₂ (λ (a b : Bool). a && b) e f

pub and_assoc : (s t u : Bool) → (s && (t && u)) ≡ ((s && t) && u)
and_assoc true t u = refl
and_assoc false t u = refl

pub and_true : (s : Bool) → (s && true) ≡ s
and_true true = refl
and_true false = refl

pub and_no : (s : Bool) {t : Bool} → t ≡ false → (s && t) ≡ false
and_no true e = e
and_no false e = refl

-- ─── of every element ────────────────────────────────────────────────────────

module _ {A : Type 0} (P : A → Type 0) where
  pub all_append : (xs ys : List A) → All P xs → All P ys → All P (xs ++ ys)
  all_append [] ys h k = k
  all_append (x ∷ xs) ys h k = (h.0, all_append xs ys h.1 k)

  pub all_left : (xs ys : List A) → All P (xs ++ ys) → All P xs
  all_left [] ys h = tt
  all_left (x ∷ xs) ys h = (h.0, all_left xs ys h.1)

  pub all_right : (xs ys : List A) → All P (xs ++ ys) → All P ys
  all_right [] ys h = h
  all_right (x ∷ xs) ys h = all_right xs ys h.1

  -- what holds of all holds at each place
  pub all_at : (xs : List A) → All P xs → (i : ℕ) (d : A) → i < length xs → P (get_or xs i d)
  all_at [] h i d l = absurd (not-suc-le-zero l)
  all_at (x ∷ xs) h zero d l = h.0
  all_at (x ∷ xs) h (suc i) d l = all_at xs h.1 i d (le_of_suc-le-suc l)

  -- what holds at each place holds of all
  pub at_all : (d : A) (xs : List A) → ((i : ℕ) → i < length xs → P (get_or xs i d)) → All P xs
  at_all d [] h = tt
  at_all d (x ∷ xs) h = (h 0 (omega arith), at_all d xs (λ i l. h (suc i) (omega arith)))

  pub all_take : (n : ℕ) (xs : List A) → All P xs → All P (take n xs)
  all_take zero xs h = tt
  all_take (suc n) [] h = tt
  all_take (suc n) (x ∷ xs) h = (h.0, all_take n xs h.1)

  pub all_drop : (n : ℕ) (xs : List A) → All P xs → All P (drop n xs)
  all_drop zero xs h = h
  all_drop (suc n) [] h = tt
  all_drop (suc n) (x ∷ xs) h = all_drop n xs h.1

module _ {A : Type 0} where
  pub all_map : {P Q : A → Type 0} → ((x : A) → P x → Q x) → (xs : List A) → All P xs → All Q xs
  all_map f [] h = tt
  all_map f (x ∷ xs) h = (f x h.0, all_map f xs h.1)

  -- the test is the type, for a test that says so of each element
  pub every-all : (test : A → Bool) (xs : List A) → every test xs ≡ true → All (λ x. test x ≡ true) xs
  unfolding every
  every-all test [] e = tt
  every-all test (x ∷ xs) e = (and_left (test x) (every test xs) e, every-all test xs (and_right (test x) (every test xs) e))

  -- the type and the test say the same
  pub all-every : (test : A → Bool) (xs : List A) → All (λ x. test x ≡ true) xs → every test xs ≡ true
  unfolding every
  all-every test [] h = refl
  all-every test (x ∷ xs) h = and_both h.0 (all-every test xs h.1)

-- A loop tests one element after the other: `good` is the test of the first i.
pub record Tested {A : Type 0} (test : A → Bool) (xs : List A) (good : Bool) (i : ℕ) : Type 0 where
  pub inside : i ≤ length xs
  pub whole : every test xs ≡ (good && every test (drop i xs))

module _ {A : Type 0} {test : A → Bool} {xs : List A} {good : Bool} {i : ℕ} (s : Tested test xs good i) where
  -- one more is
  pub tested_next : (d : A) → i < length xs → {t : Bool} → t ≡ test (get_or xs i d) → Tested test xs (good && t) (i + 1)
  unfolding every
  tested_next d l e =
      record {
        inside = omega arith;
        whole =
            s.whole
            ∙ (ap (λ (ys : List A). good && every test ys) (drop_next xs i d l)
            ∙ (and_assoc good (test (get_or xs i d)) (every test (drop (i + 1) xs)) ∙ ap (λ (b : Bool). (good && b) && every test (drop (i + 1) xs)) (sym e)));
      }

  -- all are
  pub tested_all : length xs ≤ i → good ≡ every test xs
  unfolding every
  tested_all l = sym (s.whole ∙ (ap (λ (ys : List A). good && every test ys) (drop_of_length-le xs l) ∙ and_true good))

-- ─── equal lists of numbers ──────────────────────────────────────────────────

-- lists that test equal are equal
pub same_is : (xs ys : List ℕ) → same xs ys ≡ true → xs ≡ ys
unfolding same
same_is [] [] e = refl
same_is [] (y ∷ ys) e = never e
same_is (x ∷ xs) [] e = never e
same_is (x ∷ xs) (y ∷ ys) e =
    ap₂ (λ (n : ℕ) (l : List ℕ). n ∷ l) (eqb-true x y (and_left (eqb x y) (same xs ys) e)) (same_is xs ys (and_right (eqb x y) (same xs ys) e))

pub same_self : (xs : List ℕ) → same xs xs ≡ true
unfolding same
same_self [] = refl
same_self (x ∷ xs) = and_both (eq-eqb x x refl) (same_self xs)

pub is_same : {xs ys : List ℕ} → xs ≡ ys → same xs ys ≡ true
is_same {xs} e = subst (λ (l : List ℕ). same xs l ≡ true) e (same_self xs)

pub not_same : (xs ys : List ℕ) → (xs ≡ ys → ⊥) → same xs ys ≡ false
not_same xs ys h = go (same xs ys) refl
  where
    go : (t : Bool) → same xs ys ≡ t → same xs ys ≡ false
    go true e = absurd (h (same_is xs ys e))
    go false e = e
