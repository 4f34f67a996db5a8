-- `put_number` meets its contract. Invariant: the digits of what is left of the number, stored before the ones stored, bring the table to its
-- target. Assumes nothing.
use lib.ListN.{length}
use Rattle.lists.specs.Fill.{put}
use Rattle.text.specs.Numbers.{digits}
use Rattle.text.proofs.Decimals.{Backing}
use Rattle.text.proofs.inner.put_number.Given as goal

abbrev pub invariant-loop-v : goal.invariant-loop-v
invariant-loop-v l = Backing (length l.initial.out) l.out (put l.at (digits l.n) l.initial.out) l.at l.v l.j

abbrev pub decreases-loop-v : goal.decreases-loop-v
decreases-loop-v l = l.v
