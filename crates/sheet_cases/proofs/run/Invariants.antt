-- `run` is safe and ends: each case leaves fewer bytes. Assumes nothing.
use lib.ListN.{length}
use Rattle.sheet_cases.proofs.run.Given as goal

abbrev pub decreases-loop-mark : goal.decreases-loop-mark
decreases-loop-mark g l = length l.rest
