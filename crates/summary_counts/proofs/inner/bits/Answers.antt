-- `bits` meets its contract: the logarithm of a number of 32 bits is at most 32. Assumes nothing.
use native.Mathlib.Omega.{arith}
use mathlib.Core.Path.{ap, ap₂, ◌∙◌}
use Prim.Native.Nat.{ℕ, ◌*◌}
use native.Mathlib.Nat.{mul-le-mul}
use Rattle.summary_counts.specs.Counts.{bits_for, bits_of}
use Rattle.summary_counts.proofs.Logarithm.{bits_least}
use Rattle.summary_counts.proofs.inner.bits.Goals as goal

pub overflow_mul-result : goal.overflow_mul-result
overflow_mul-result c =
    let b = (bits_least c.largest.result).1 32 (omega arith) in
    omega (arith, mul-le-mul c.requires.1 b, ap (λ (x : ℕ). c.args.distinct * x) c.bits_for.ensures)

pub returns : goal.returns
unfolding bits_of
returns c = ap₂ (λ (x y : ℕ). x * y) c.requires.0 (c.bits_for.ensures ∙ ap bits_for c.largest.ensures)
