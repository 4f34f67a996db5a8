-- What tests tell: of two, negated, of a length, of every element, of digits. Assumes nothing.
use mathlib.Core.Path.{◌≡◌, refl, sym, ap, ◌∙◌}
use mathlib.Core.Bool.{Bool, true, false, not, ◌&&◌}
use mathlib.Core.List.{List, [], ◌∷◌, ◌++◌}
use Prim.Native.Nat.{ℕ, ◌≤◌}
use native.Mathlib.Omega.{arith}
use borrow.Author.Tests.{le-leb, leb-true, ne_eqb, not-true, not-false}
use lib.Dec.{leb, eqb}
use lib.ListN.{length}
use Rattle.lists.specs.Every.{every}
use Rattle.lists.proofs.Every.{and_left, and_right, and_both, all_map, all_append, every-all, all-every}
use Rattle.text.specs.Numbers.{is_digit}

-- two tests that passed together passed each
pub both : (t u : Bool) → (t && u) ≡ true → (t ≡ true) × (u ≡ true)
both t u e = (and_left t u e, and_right t u e)

-- what a test tells that negates the answer r of a call which promises r ≡ t
pub told_no : {r t : Bool} → r ≡ t → not r ≡ true → t ≡ false
told_no {r} e h = sym e ∙ not-true r h

pub told_yes : {r t : Bool} → r ≡ t → not r ≡ false → t ≡ true
told_yes {r} e h = sym e ∙ not-false r h

pub unequal : (a b : ℕ) → (a ≡ b → ⊥) → not (eqb a b) ≡ true
unequal a b h = ap not (ne_eqb a b h)

-- a list of length 0 has nothing in it
pub empty : {A : Type 0} (xs : List A) → length xs ≡ 0 → xs ≡ []
empty [] h = refl
empty (x ∷ xs) h = absurd (omega arith)

-- what passes one test passes a weaker one
pub every_more : {A : Type 0} (p q : A → Bool) → ((x : A) → p x ≡ true → q x ≡ true) → (xs : List A) → every p xs ≡ true → every q xs ≡ true
every_more p q w xs h = all-every q xs (all_map w xs (every-all p xs h))

pub every_append : {A : Type 0} (p : A → Bool) (xs ys : List A) → every p xs ≡ true → every p ys ≡ true → every p (xs ++ ys) ≡ true
every_append p xs ys h g = all-every p (xs ++ ys) (all_append (λ x. p x ≡ true) xs ys (every-all p xs h) (every-all p ys g))

-- a digit is a byte from 48 to 57
pub digit_range : (b : ℕ) → is_digit b ≡ true → (48 ≤ b) × (b ≤ 57)
digit_range b h =
    let t = both (leb 48 b) _ h in
    (leb-true 48 b t.0, leb-true b 57 t.1)

pub range_digit : (b : ℕ) → 48 ≤ b → b ≤ 57 → is_digit b ≡ true
range_digit b l h = and_both (le-leb 48 b l) (le-leb b 57 h)
