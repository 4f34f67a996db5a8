-- `all_letters` meets its contract. Invariant: the first bytes were tested. Assumes nothing.
use Rattle.lists.proofs.Every.{tested_next, tested_all}
use Rattle.alphabet.proofs.all_letters.Goals as goal

pub loop-b-preserved : goal.loop-b-preserved
loop-b-preserved c = tested_next c.loop-b.invariant 0 c.loop-b-test.true c.is_letter-good.ensures

pub returns : goal.returns
returns c = tested_all c.loop-b.invariant c.loop-b-test.false
