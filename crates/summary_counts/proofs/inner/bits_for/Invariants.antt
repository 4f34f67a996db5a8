-- `bits_for` meets its contract. Invariant: p is 2^b, and the search from b on gives the logarithm. Assumes nothing.
use Prim.Native.Nat.{◌-◌}
use Rattle.summary_counts.proofs.Logarithm.{Doubling}
use Rattle.summary_counts.proofs.inner.bits_for.Given as goal

abbrev pub invariant-loop-p : goal.invariant-loop-p
invariant-loop-p l = Doubling l.most l.b l.p

abbrev pub decreases-loop-p : goal.decreases-loop-p
decreases-loop-p l = l.most - l.p
