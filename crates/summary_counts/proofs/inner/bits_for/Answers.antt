-- `bits_for` meets its contract. Invariant: p is 2^b, and the search from b on gives the logarithm. Assumes nothing.
use Rattle.summary_counts.proofs.Logarithm.{doubling, doubled, doubled_enough}
use Rattle.summary_counts.proofs.inner.bits_for.Goals as goal

pub loop-p-init : goal.loop-p-init
loop-p-init c = doubling _

pub loop-p-preserved : goal.loop-p-preserved
loop-p-preserved c = doubled c.loop-p.invariant c.loop-p-test.true

pub returns : goal.returns
returns c = doubled_enough c.loop-p.invariant c.loop-p-test.false
