-- `word_count` meets its contract: 2 to the 2p. Assumes nothing.
use mathlib.Core.Path.{sym, ◌∙◌}
use Prim.Native.Nat.{◌*◌}
use native.Mathlib.Omega.{arith}
use Rattle.words.proofs.Rolling.{one_shifted, four_two}
use Rattle.words.proofs.inner.word_count.Goals as goal

pub returns : goal.returns
returns c = one_shifted (2 * c.args.p) (omega arith) ∙ sym (four_two c.args.p)
