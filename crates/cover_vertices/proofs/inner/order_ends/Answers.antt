-- `order_ends` meets its contract: the weights, their numbers, and the sort of these.
use Prim.Native.Nat.{◌<◌}
use native.Mathlib.Omega.{arith}
use lib.ListN.{length}
use Rattle.lists.proofs.Count.{all_count}
use Rattle.cover_vertices.proofs.Ordering.{keys_low}
use Rattle.cover_vertices.proofs.inner.order_ends.Goals as goal

pub sort_by_weight-requires-clause-all : goal.sort_by_weight-requires-clause-all
sort_by_weight-requires-clause-all c =
    rw c.number_ids.ensures (all_count (λ x. x < length c.write_weights.new.keys) 0 (length c.args.order.now) (λ j u v. omega arith))

pub sort_by_weight-requires-clause-narrow : goal.sort_by_weight-requires-clause-narrow
sort_by_weight-requires-clause-narrow c = rw c.write_weights.ensures (keys_low c.args.k c.args.ends.now c.args.weights.now c.requires.strung.0)
