-- `scan_string` meets its contract. Invariant: c ends in the k - 1 letters before the next k-mer, and the pass over the k-mers that are left
-- gives the answer. Assumes nothing.
use mathlib.Core.Path.{◌≡◌}
use Prim.Native.Nat.{◌+◌, ◌-◌}
use lib.Dec.{eqb}
use Rattle.lists.specs.Count.{count_from}
use Rattle.words.specs.Word.{code, word_at}
use Rattle.plain.specs.Scan.{scan_from}
use Rattle.words.proofs.Along.{Rolls}
use Rattle.plain.proofs.scanning.scan_string.Given as goal

abbrev pub invariant-loop-i : goal.invariant-loop-i
invariant-loop-i l =
    Rolls l.k l.letters (l.at + l.i) l.c
    × (scan_from (λ a. eqb (code (word_at l.k l.letters a)) l.asked) (λ a. eqb (code (word_at l.k l.letters a)) l.turned) l.passed l.seen
    (count_from l.at l.number)
    ≡ scan_from (λ a. eqb (code (word_at l.k l.letters a)) l.asked) (λ a. eqb (code (word_at l.k l.letters a)) l.turned) (l.passed + l.i) l.first
    (count_from (l.at + l.i) (l.number - l.i)))
