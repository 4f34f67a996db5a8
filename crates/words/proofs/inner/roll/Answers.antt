-- `roll` meets its contract: the mask keeps the last k letters. Assumes nothing.
use Prim.Native.Nat.{◌*◌}
use native.Mathlib.Omega.{arith}
use lib.Pow.{pow_pos}
use Rattle.words.proofs.Rolling.{one_shifted, masked}
use Rattle.words.proofs.inner.roll.Goals as goal

pub overflow_sub-result : goal.overflow_sub-result
overflow_sub-result c = omega (arith, one_shifted (2 * c.args.k) (omega arith), pow_pos (2 * c.args.k))

pub returns : goal.returns
returns c = masked c.args.k _ (omega arith)
