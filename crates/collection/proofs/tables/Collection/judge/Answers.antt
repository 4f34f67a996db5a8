-- `judge` meets its contract: strings that have their places have k-mers to count. Assumes nothing.
use mathlib.Core.Path.{sym, ap, ◌∙◌}
use native.Mathlib.Omega.{arith}
use Rattle.collection.specs.Judge.{shape_verdict}
use Rattle.collection.proofs.Judged.{shape_good}
use Rattle.collection.proofs.tables.Collection.judge.Goals as goal

pub kmer_count-n-requires : goal.kmer_count-n-requires
kmer_count-n-requires c =
    let s = shape_good _ (ap shape_verdict (sym c.spelling.ensures) ∙ (sym c.judge.ensures ∙ c.in_ok-judge.was)) in
    record { k_bound = s.room; le_k = omega (arith, s.k_low) }
