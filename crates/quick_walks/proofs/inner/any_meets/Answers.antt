-- `any_meets` meets its contract: one position more is passed. Assumes nothing.
use Rattle.quick_walks.proofs.Keys.{finds_more}
use Rattle.quick_walks.proofs.inner.any_meets.Goals as goal

pub loop-i-preserved : goal.loop-i-preserved
loop-i-preserved c = let a = c.args in finds_more a.places.now a.key.now a.letters.now a.a _ _ _ c.loop-i.invariant c.meets-any.ensures
