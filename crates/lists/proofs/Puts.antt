-- What entries that are put into a table make of its regions. From the laws of a part that was lent.
use mathlib.Core.Path.{◌≡◌, ap, subst, refl}
use mathlib.Core.List.{List, ◌++◌}
use Prim.Native.Nat.{ℕ, ◌+◌, ◌-◌, ◌≤◌}
use native.Mathlib.Omega.{arith}
use lib.ListN.{length, take}
use lib.Seq.{drop-drop}
use borrow.Rule.Slice.PartMut.{put_mid}
use Rattle.lists.specs.Fill.{put}
use Rattle.lists.specs.Regions.{Only}
use Rattle.lists.proofs.Regions.{lent_only}

module _ {A : Type 0} (at : ℕ) (xs w : List A) (h : at + length xs ≤ length w) where
  put_is : put_mid at (at + length xs - at) w xs ≡ put at xs w
  put_is = let e : at + length xs - at ≡ length xs = omega arith in rw e (ap (λ (l : List A). take at w ++ (xs ++ l)) (drop-drop (length xs) at w))

  -- no other entry differs
  pub put_only : Only at (length xs) w (put at xs w)
  put_only = subst (Only at (length xs) w) put_is (lent_only at (length xs) w xs refl h)
