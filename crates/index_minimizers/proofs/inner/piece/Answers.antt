-- `piece` meets its contract: the shift takes the last j letters away, the mask keeps p of the rest. Assumes nothing.
use mathlib.Core.Path.{sym, ap, ◌∙◌}
use Prim.Native.Nat.{ℕ, ◌*◌, ◌/◌, ◌%◌, ◌^◌}
use native.Mathlib.Omega.{arith}
use lib.Pow.{pow_pos}
use Rattle.words.proofs.Rolling.{one_shifted, four_two, masked}
use Rattle.index_minimizers.proofs.inner.piece.Goals as goal

pub overflow_sub-result : goal.overflow_sub-result
overflow_sub-result c = omega (arith, one_shifted (2 * c.args.p) (omega arith), pow_pos (2 * c.args.p))

pub returns : goal.returns
returns c = masked c.args.p _ (omega arith) ∙ ap (λ (n : ℕ). c.args.c / n % 4 ^ c.args.p) (sym (four_two c.args.j))
