-- `mark_places` meets its contract. Invariant: the places that passed are not bad, and work names the string of each. Assumes nothing.
use lib.ListN.{length}
use Rattle.apply_places.proofs.Marking.{Marking}
use Rattle.apply_places.proofs.inner.mark_places.Given as goal

abbrev pub invariant-loop-i : goal.invariant-loop-i
invariant-loop-i l = Marking (length l.signed) l.signed l.initial.work l.work l.i
