-- `all_weights` meets its contract. Invariant: the first weights were tested. Assumes nothing.
use Rattle.lists.proofs.Every.{Tested}
use Rattle.collection_faults.specs.Faults.{is_weight}
use Rattle.collection_faults.proofs.inner.all_weights.Given as goal

abbrev pub invariant-loop-w : goal.invariant-loop-w
invariant-loop-w l = Tested is_weight l.weights l.good l.w-index
