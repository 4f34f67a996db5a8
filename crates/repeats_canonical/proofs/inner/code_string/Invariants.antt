-- `code_string` meets its contract. Invariant: c ends in the k - 1 letters before the next k-mer, t begins with their reverse complement, and the
-- codes of the k-mers that have passed are stored. Assumes nothing.
use Prim.Native.Nat.{◌+◌}
use lib.ListN.{take}
use Rattle.lists.specs.Count.{count_from}
use Rattle.repeats_canonical.specs.Codes.{codes, Halved}
use Rattle.repeats_canonical.proofs.Turns.{Turns}
use Rattle.repeats_canonical.proofs.inner.code_string.Given as goal

abbrev pub invariant-loop-i : goal.invariant-loop-i
invariant-loop-i l =
    Turns l.k l.letters (l.at + l.i) l.c l.t × Halved (codes l.k l.letters (count_from l.at l.i)) (take l.i l.hi) (take l.i l.lo)
