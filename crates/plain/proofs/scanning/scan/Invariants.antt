-- `scan` meets its contract. Invariant: the pass over the strings that are left gives the answer. Assumes nothing.
use mathlib.Core.Path.{◌≡◌}
use Prim.Native.Nat.{ℕ}
use lib.Dec.{eqb}
use lib.ListN.{length, drop}
use Rattle.words.specs.Word.{code, word_at}
use Rattle.collection.specs.Kmers.{kmers, kmers_from}
use Rattle.plain.specs.Scan.{scan_from}
use Rattle.collection.proofs.Kmers.{StringsLeft}
use Rattle.plain.proofs.scanning.scan.Given as goal

abbrev pub invariant-loop-end : goal.invariant-loop-end
invariant-loop-end l =
    let g = l.given in
    let has = λ (word a : ℕ). eqb (code (word_at g.k g.letters.now a)) word in
    StringsLeft g.k (length g.letters.now) g.ends.now l.end-index l.at l.passed
    × (scan_from (has l.asked) (has l.turned) 0 0 (kmers g.k g.ends.now)
    ≡ scan_from (has l.asked) (has l.turned) l.passed l.first (kmers_from g.k l.at (drop l.end-index g.ends.now)))
