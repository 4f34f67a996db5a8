-- `may_stand` meets its contract: the 16 positions of one block more may be the last. Assumes nothing.
use native.Mathlib.Omega.{arith}
use Rattle.quick_walks.proofs.Keys.{nowhere_more}
use Rattle.quick_walks.proofs.inner.may_stand.Goals as goal

pub loop-block-preserved : goal.loop-block-preserved
loop-block-preserved c j l m =
    let a = c.args in
    let none = nowhere_more a.places.now a.key.now a.letters.now a.at _ 16 _ c.loop-block.invariant c.any_meets.ensures c.if-any_meets.false in
    none j (omega (arith, l)) m
