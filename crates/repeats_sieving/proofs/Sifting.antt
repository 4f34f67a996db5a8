-- The sieves one after the other: ids of one code have one slot, so that each sieve leaves both of any two, or neither was left before. Assumes nothing.
use mathlib.Core.Path.{◌≡◌, sym, ap, ap₂, ◌∙◌}
use mathlib.Core.List.{List}
use Prim.Native.Nat.{ℕ, ◌/◌, ◌%◌, ◌^◌, ◌<◌, ◌≤◌}
use native.Mathlib.Omega.{arith}
use lib.ListN.{length, take, length-take}
use lib.Pow.{high, low}
use Rattle.sorting.specs.Keys.{key_at, code_at}
use Rattle.repeats_sieving.specs.Kept.{Sieved}
use Rattle.repeats_sieving.specs.Slots.{slot_of, slot_at, Kept}
use Rattle.repeats_sieving.proofs.Kept.{sieved_kept}

-- no more are kept than there were
pub kept_few : {f : ℕ → ℕ} {xs ys : List ℕ} {r : ℕ} → Kept f xs ys r → r ≤ length ys
kept_few {ys = ys} {r = r} k = omega (arith, k.count, ap length k.left, length-take r ys)

module _ (hi lo : List ℕ) (slots a c : ℕ) (fits : (i : ℕ) → key_at lo i < 2 ^ 32) where
  -- ids of one code have one slot, since the lower halves are numbers of 32 bits
  one_slot : (x y : ℕ) → code_at hi lo x ≡ code_at hi lo y → slot_at hi lo slots a c x ≡ slot_at hi lo slots a c y
  one_slot x y e =
      ap₂ (slot_of slots a c) (sym (high (key_at hi x) 32 (fits x)) ∙ (ap (λ (z : ℕ). z / 2 ^ 32) e ∙ high (key_at hi y) 32 (fits y)))
      (sym (low (key_at hi x) 32 (fits x)) ∙ (ap (λ (z : ℕ). z % 2 ^ 32) e ∙ low (key_at hi y) 32 (fits y)))

  -- one sieve more
  pub sieved_next : {n r : ℕ} {xs ys : List ℕ} → Sieved (code_at hi lo) n xs → Kept (slot_at hi lo slots a c) xs ys r → Sieved (code_at hi lo) n (take r ys)
  sieved_next s k = rw k.left (sieved_kept (slot_at hi lo slots a c) one_slot s)
