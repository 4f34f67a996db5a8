-- Signed places as numbers of 32 bits. Assumes nothing.
use mathlib.Core.Path.{◌≡◌}
use Prim.Native.Nat.{◌<◌}
use lib.IntN.{ℤ}
use lib.Signed.{mag}
use mir.Syntax.{w32}
use mir.Val.{to_z, of_z}
use mir.ValLaws.{to_z-of_z}

-- a number that went through memory or a call is the number
pub kept : (z : ℤ) → mag z < 2147483648 → to_z w32 (of_z w32 z) ≡ z
kept z h = to_z-of_z w32 z (record { sfits = h })
