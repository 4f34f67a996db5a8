-- `row_fits` meets its contract: past the row, `good` is the answer. Assumes nothing.
use Rattle.quick_walks.proofs.Rows.{fit_end}
use Rattle.quick_walks.proofs.inner.row_fits.Goals as goal

pub returns : goal.returns
returns c = fit_end _ _ _ _ _ c.loop-i-test.false _ _ c.loop-i.invariant
