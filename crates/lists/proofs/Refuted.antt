-- What follows from an equation that cannot hold: anything. Assumes nothing.
use mathlib.Core.Path.{◌≡◌}
use mathlib.Core.Bool.{true, false, false≢true}
use Prim.Native.Nat.{ℕ}
use native.Mathlib.Omega.{arith}

-- `refuted (cc)` closes a case whose equations clash: `cc` proves 0 ≡ 1 from them
pub refuted : {X : Type 0} → ◌≡◌ {A = ℕ} 0 1 → X
refuted e = absurd (omega arith)

-- the same where a test would have to be both
pub never : {X : Type 0} → false ≡ true → X
never e = absurd (false≢true e)
