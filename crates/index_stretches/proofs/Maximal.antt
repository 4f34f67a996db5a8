-- The stretches of a string are maximal: each goes on where the one before ends, with another minimizer. By induction on the k-mers still to come.
-- Assumes nothing.
use mathlib.Core.Path.{◌≡◌, refl}
use mathlib.Core.Bool.{Bool, true, false}
use mathlib.Core.List.{List, [], ◌∷◌}
use Prim.Native.Nat.{ℕ, zero, suc, ◌+◌}
use borrow.Author.Tests.{eqb-false}
use lib.Dec.{eqb}
use Rattle.lists.specs.Choose.{choose}
use Rattle.index_stretches.specs.Stretches.{Stretch, stretch, open_from, of_string}

module _ (q : ℕ → ℕ) where
  -- the stretch s cannot go on: the next one starts right behind it, and there the minimizer is another
  abbrev pub Ends : Stretch → List Stretch → Type 0
  Ends s [] = Unit {0}
  Ends s (t ∷ ss) = (t.at ≡ s.at + s.number) × (q t.at ≡ q s.at → ⊥)

  -- so of each stretch of a row
  abbrev pub Maximal : List Stretch → Type 0
  Maximal [] = Unit {0}
  Maximal (s ∷ ss) = Ends s ss × Maximal ss

  open_ends : (s : Stretch) (h a n left : ℕ) → a ≡ s.at + s.number → (q a ≡ q s.at → ⊥) → Ends s (open_from q h a n left)
  unfolding open_from
  open_ends s h a n zero e d = (e, d)
  open_ends s h a n (suc left) e d = go (eqb (q (a + n)) (q a)) (open_ends s h a (suc n) left e d)
    where
      go : (t : Bool) → Ends s (open_from q h a (suc n) left)
          → Ends s (choose t (open_from q h a (suc n) left) (stretch h a n ∷ open_from q (h + n) (a + n) 1 left))
      go true more = more
      go false more = (e, d)

  open_maximal : (h a n left : ℕ) → Maximal (open_from q h a n left)
  unfolding open_from
  open_maximal h a n zero = (tt, tt)
  open_maximal h a n (suc left) = go (eqb (q (a + n)) (q a)) refl (open_maximal h a (suc n) left) (open_maximal (h + n) (a + n) 1 left)
    where
      go : (t : Bool) → eqb (q (a + n)) (q a) ≡ t → Maximal (open_from q h a (suc n) left) → Maximal (open_from q (h + n) (a + n) 1 left)
          → Maximal (choose t (open_from q h a (suc n) left) (stretch h a n ∷ open_from q (h + n) (a + n) 1 left))
      go true e more next = more
      go false e more next = (open_ends (stretch h a n) (h + n) (a + n) 1 left refl (eqb-false (q (a + n)) (q a) e), next)

  -- the stretches of a string cannot go on
  pub string_maximal : (h a n : ℕ) → Maximal (of_string q h a n)
  unfolding of_string
  string_maximal h a zero = tt
  string_maximal h a (suc n) = open_maximal h a 1 n
