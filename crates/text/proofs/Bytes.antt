-- What a test of one byte tells. Assumes nothing.
use mathlib.Core.Path.{◌≡◌, refl}
use mathlib.Core.Bool.{Bool, true, false}
use mathlib.Core.List.{List}
use Prim.Native.Nat.{ℕ, ◌<◌}
use borrow.Author.Tests.{lt-ltb, ltb-true, eq-eqb, eqb-true, eqb-false}
use lib.Dec.{ltb, eqb}
use lib.ListN.{length, get_or}
use Rattle.lists.specs.Choose.{choose}
use Rattle.lists.proofs.Refuted.{never}
use Rattle.text.specs.Fields.{byte_is}

-- the byte stands there
pub byte_here : (s : List ℕ) (i b : ℕ) → byte_is s i b ≡ true → (i < length s) × (get_or s i 0 ≡ b)
byte_here s i b h = go (ltb i (length s)) refl h where
  go : (t : Bool) → ltb i (length s) ≡ t → choose t (eqb (get_or s i 0) b) false ≡ true → (i < length s) × (get_or s i 0 ≡ b)
  go true e r = (ltb-true _ _ e, eqb-true _ _ r)
  go false e r = never r

pub byte_is_lem : (s : List ℕ) (i b : ℕ) → i < length s → get_or s i 0 ≡ b → byte_is s i b ≡ true
byte_is_lem s i b l e = rw (lt-ltb i (length s) l, eq-eqb (get_or s i 0) b e)

-- another one stands there
pub byte_other : (s : List ℕ) (i b : ℕ) → byte_is s i b ≡ false → i < length s → get_or s i 0 ≡ b → ⊥
byte_other s i b h l = go (ltb i (length s)) (lt-ltb _ _ l) h where
  go : (t : Bool) → t ≡ true → choose t (eqb (get_or s i 0) b) false ≡ false → get_or s i 0 ≡ b → ⊥
  go true e r = eqb-false _ _ r
  go false e r = never e
