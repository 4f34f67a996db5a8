-- `distinct` meets its contract: ids are numbered, sorted, and the runs of their weights counted. Assumes nothing.
use native.Mathlib.Omega.{arith}
use Rattle.collection_faults.proofs.Finding.{weights_low}
use Rattle.summary_counts.proofs.Ids.{ids_low, order_low, different}
use Rattle.summary_counts.proofs.inner.distinct.Goals as goal

pub sort_by_weight-requires-clause-all : goal.sort_by_weight-requires-clause-all
sort_by_weight-requires-clause-all c = ids_low c.args.weights.now c.number_ids.ensures (omega (arith, c.split_at_mut-ids.ensures.front_len))

pub sort_by_weight-requires-clause-narrow : goal.sort_by_weight-requires-clause-narrow
sort_by_weight-requires-clause-narrow c = weights_low c.args.weights.now c.requires.0.within_range

pub runs_by-requires : goal.runs_by-requires
runs_by-requires c =
    order_low c.args.weights.now c.number_ids.ensures (omega (arith, c.split_at_mut-ids.ensures.front_len)) c.sort_by_weight.ensures.0

pub returns : goal.returns
returns c =
    different c.args.weights.now c.number_ids.ensures (omega (arith, c.split_at_mut-ids.ensures.front_len)) c.sort_by_weight.ensures.0 c.runs_by.ensures
