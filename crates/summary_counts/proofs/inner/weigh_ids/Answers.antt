-- `weigh_ids` meets its contract: each write replaces one id more. Assumes nothing.
use native.Mathlib.Omega.{arith}
use Rattle.std.proofs.lemmas.List.{get_or_default}
use Rattle.std.proofs.lemmas.List.Edits.{map_over_more}
use Rattle.sorting.specs.Keys.{key_at}
use Rattle.summary_counts.proofs.inner.weigh_ids.Goals as goal

pub loop-id-preserved : goal.loop-id-preserved
loop-id-preserved c =
    let l = c.loop-id in
    map_over_more (key_at c.args.weights.now) c.args.ids.now l.ids l.id-index _ (omega arith) l.invariant (get_or_default l.ids l.id-index 0 _ (omega arith))
