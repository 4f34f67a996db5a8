-- `weights_length` meets its contract. Invariant: what is counted and the length of the weights left are the length of all. Assumes nothing.
use mathlib.Core.Path.{ap}
use native.Mathlib.Omega.{arith}
use lib.ListN.{length}
use Rattle.sheet_write.proofs.Texts.{weights_count, weights_end}
use Rattle.sheet_write.proofs.writing.weights_length.Goals as goal

pub loop-w-preserved : goal.loop-w-preserved
loop-w-preserved c =
    let r = c.digit_count.ensures in
    let w = weights_count c.args.weights.now c.loop-w.w-index c.loop-w-test.true in
    (omega (arith, r.1), omega (arith, r.0, w))

pub returns : goal.returns
returns c = (omega (arith, ap length (weights_end c.args.weights.now c.loop-w.w-index c.loop-w-test.false)), omega arith)
