-- `judge_check` meets its contract: a judged collection has k-mers to count. Assumes nothing.
use mathlib.Core.Path.{sym, ◌∙◌}
use native.Mathlib.Omega.{arith}
use Rattle.collection.proofs.Judged.{collection_good}
use Rattle.repeats.proofs.judge_check.Goals as goal

pub kmer_count-n-requires : goal.kmer_count-n-requires
kmer_count-n-requires c =
    let s = (collection_good _ (sym c.judge.ensures ∙ c.in_ok-judge.was)).shape in
    record { k_bound = s.room; le_k = omega (arith, s.k_low) }

pub overflow_mul-n : goal.overflow_mul-n
overflow_mul-n c =
    let s = (collection_good _ (sym c.judge.ensures ∙ c.in_ok-judge.was)).shape in
    omega (arith, c.kmer_count-n.ensures, s.letters_high)
