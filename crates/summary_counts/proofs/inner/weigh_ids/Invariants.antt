-- `weigh_ids` meets its contract. Invariant: the ids so far are replaced, the others are as they were. Assumes nothing.
use mathlib.Core.Path.{◌≡◌}
use mathlib.Core.List.{map, ◌++◌}
use lib.ListN.{take, drop}
use Rattle.sorting.specs.Keys.{key_at}
use Rattle.summary_counts.proofs.inner.weigh_ids.Given as goal

abbrev pub invariant-loop-id : goal.invariant-loop-id
invariant-loop-id l = l.ids ≡ map (key_at l.weights) (take l.id-index l.initial.ids) ++ drop l.id-index l.initial.ids
