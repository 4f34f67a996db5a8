-- `digit_count` meets its contract: each test leaves the numbers of one length. Invariant: the digits counted and those of what is left of the number are all,
-- and one is counted twice. Assumes nothing.
use mathlib.Core.Path.{◌≡◌}
use Prim.Native.Nat.{◌+◌, ◌≤◌}
use lib.ListN.{length}
use Rattle.text.specs.Numbers.{digits}
use Rattle.text.proofs.inner.digit_count.Given as goal

abbrev pub invariant-loop-v : goal.invariant-loop-v
invariant-loop-v l = (l.c + length (digits l.v) ≡ length (digits l.n) + 1) × (length (digits l.n) ≤ 20)

abbrev pub decreases-loop-v : goal.decreases-loop-v
decreases-loop-v l = l.v
