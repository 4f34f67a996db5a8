-- `weight_at` meets its contract. Assumes nothing.
use Rattle.std.proofs.Common.{rules}
use Rattle.weight.proofs.RunLists.{found_at}
use Rattle.weight.proofs.inner.weight_at.Goals as goal

pub overflow_sub-result : goal.overflow_sub-result
overflow_sub-result c = let p = c.partition_point-after.ensures in (found_at c.requires _ p.bound p.partitioned (λ a r q k. search rules)).0

pub bounds-list-after : goal.bounds-list-after
bounds-list-after c = let p = c.partition_point-after.ensures in (found_at c.requires _ p.bound p.partitioned (λ a r q k. search rules)).1

pub returns : goal.returns
returns c = let p = c.partition_point-after.ensures in (found_at c.requires _ p.bound p.partitioned (λ a r q k. search rules)).2
