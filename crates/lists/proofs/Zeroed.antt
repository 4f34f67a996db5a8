-- What filling the first entries of a table leaves of earlier writes to them: nothing. Assumes nothing.
use mathlib.Core.Path.{◌≡◌, refl, sym, ap, ◌∙◌}
use mathlib.Core.Logic.{inr}
use mathlib.Core.List.{List, ◌++◌}
use Prim.Native.Nat.{ℕ, ◌-◌, ◌≤◌}
use native.Mathlib.Omega.{arith}
use lib.ListN.{length, drop, length-drop}
use lib.Seq.{take_all}
use Rattle.lists.specs.Fill.{fill}
use Rattle.lists.specs.Regions.{part, Only}
use Rattle.lists.proofs.Regions.{part_is, only_part}

module _ {A : Type 0} where
  -- the table v is w but for its first n entries, and these are filled
  pub only_fill : (n : ℕ) (xs w v : List A) → length xs ≡ n → n ≤ length w → Only 0 n w v → fill xs v ≡ fill xs w
  only_fill n xs w v e h p = ap (λ (m : ℕ). xs ++ drop m v) e ∙ (ap (λ (l : List A). xs ++ l) behind ∙ ap (λ (m : ℕ). xs ++ drop m w) (sym e))
    where
      whole : (l : List A) → length l ≡ length w → drop n l ≡ part n (length w - n) l
      whole l q = sym (part_is n (length w - n) l ∙ take_all (length w - n) (drop n l) (rw (length-drop n l) (omega arith)))

      behind : drop n v ≡ drop n w
      behind = whole v p.size ∙ (only_part 0 n w v p n (length w - n) (inr (omega arith)) (omega arith) ∙ sym (whole w refl))
