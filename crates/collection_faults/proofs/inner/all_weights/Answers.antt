-- `all_weights` meets its contract. Invariant: the first weights were tested. Assumes nothing.
use Rattle.lists.proofs.Every.{tested_next, tested_all}
use Rattle.collection_faults.proofs.inner.all_weights.Goals as goal

pub loop-w-preserved : goal.loop-w-preserved
loop-w-preserved c = tested_next c.loop-w.invariant 0 c.loop-w-test.true c.is_weight-good.ensures

pub returns : goal.returns
returns c = tested_all c.loop-w.invariant c.loop-w-test.false
