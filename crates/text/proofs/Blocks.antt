-- A step that stores a block of entries at once: what `Storing` says before and after it. Assumes nothing.
use mathlib.Core.Path.{◌≡◌, sym, subst}
use mathlib.Core.List.{List, ◌++◌}
use Prim.Native.Nat.{ℕ, ◌+◌, ◌≤◌}
use native.Mathlib.Omega.{arith}
use lib.ListN.{length, length-append}
use Rattle.lists.specs.Fill.{put}
use Rattle.lists.proofs.Storing.{Storing, store_many}

module _ {A : Type 0} {size at : ℕ} {table target : List A} (xs rest : List A) (s : Storing size table target (xs ++ rest) at) where
  -- the block fits
  pub block_room : at + length xs ≤ length table
  block_room = omega (arith, s.room, length-append xs rest)

  -- what is left to store after the block
  pub store_block : {at' : ℕ} {table' : List A} → table' ≡ put at xs table → at' ≡ at + length xs → Storing size table' target rest at'
  store_block {at'} {table'} e g =
      subst (λ (t : List A). Storing size t target rest at') (sym e) (subst (λ (p : ℕ). Storing size (put at xs table) target rest p) (sym g) (store_many xs s))
