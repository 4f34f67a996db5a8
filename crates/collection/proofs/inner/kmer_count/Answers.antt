-- `kmer_count` meets its contract: k - 1 letters a string are at most k. Assumes nothing.
use Prim.Native.Nat.{ℕ, ◌-◌, ◌≤◌}
use native.Mathlib.Nat.{mul-le-mul_left}
use native.Mathlib.Omega.{arith}
use Rattle.collection.proofs.inner.kmer_count.Goals as goal

less : (k : ℕ) → k - 1 ≤ k
less k = omega arith

pub overflow_mul-result : goal.overflow_mul-result
overflow_mul-result c = omega (arith, mul-le-mul_left c.args.strings (less c.args.k))

pub overflow_sub-result-2 : goal.overflow_sub-result-2
overflow_sub-result-2 c = omega (arith, mul-le-mul_left c.args.strings (less c.args.k))
