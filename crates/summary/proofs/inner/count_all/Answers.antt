-- `count_all` meets its contract: each number is what its function counts. Assumes nothing.
use Rattle.summary.proofs.Checked.{counted_from}
use Rattle.summary.proofs.inner.count_all.Goals as goal

pub returns : goal.returns
returns c =
    let n = c.before in
    let d = n in
    let i = d in
    counted_from _ _ _ _ n.total.ensures i.inner_runs-inner.ensures.0 c.count_runs.ensures d.distinct-distinct.ensures.0 c.bits.ensures
