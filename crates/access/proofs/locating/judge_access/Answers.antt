-- `judge_access` meets its contract: strings that have their places have k-mers to count. Assumes nothing.
use mathlib.Core.Path.{sym, ◌∙◌}
use native.Mathlib.Omega.{arith}
use Rattle.collection.proofs.Judged.{shape_good}
use Rattle.access.proofs.locating.judge_access.Goals as goal

pub kmer_count-n-requires : goal.kmer_count-n-requires
kmer_count-n-requires c =
    let s = shape_good _ (sym c.judge.ensures ∙ c.in_ok-judge.was) in
    record { k_bound = s.room; le_k = omega (arith, s.k_low) }
