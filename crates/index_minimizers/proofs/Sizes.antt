-- What good sizes tell a caller, and how many minimizers there can be. Assumes nothing.
use mathlib.Core.Path.{◌≡◌}
use mathlib.Core.Bool.{◌&&◌}
use Prim.Native.Nat.{ℕ, ◌^◌, ◌≤◌}
use native.Mathlib.Nat.{pow-le-pow_right}
use borrow.Author.Tests.{leb-true}
use lib.Dec.{leb, lit<}
use Rattle.collection.specs.Verdict.{good}
use Rattle.collection.specs.declared.refusal.Refusal.TheVariants as refusal
use Rattle.lists.specs.Limits.{least_k, most_k}
use Rattle.lists.proofs.Every.{and_left, and_right}
use Rattle.collection.specs.Judge.{k_verdict}
use Rattle.collection.proofs.Judged.{k_good}
use Rattle.collection.proofs.Verdicts.{both_good, test_good}
use Rattle.index_minimizers.specs.Minimizer.{sizes_verdict}

-- k and p are in their ranges
pub record Sizes (k p : ℕ) : Type 0 where
  pub k_low : least_k ≤ k
  pub k_high : k ≤ most_k
  pub p_low : 1 ≤ p
  pub p_high : p ≤ 8
  pub p_fits : p ≤ k

-- 2 is not given: they are
pub sizes_good : (k p : ℕ) → sizes_verdict k p ≡ good → Sizes k p
unfolding sizes_verdict
sizes_good k p h =
    let a = both_good (k_verdict k) _ h in
    let t = (test_good (leb 1 p && (leb p 8 && leb p k)) refusal.Sizes good a.1).0 in
    let r = and_right (leb 1 p) (leb p 8 && leb p k) t in
    record {
      k_low = (k_good k a.0).0;
      k_high = (k_good k a.0).1;
      p_low = leb-true 1 p (and_left (leb 1 p) (leb p 8 && leb p k) t);
      p_high = leb-true p 8 (and_left (leb p 8) (leb p k) r);
      p_fits = leb-true p k (and_right (leb p 8) (leb p k) r);
    }

-- the words of p letters
pub words_few : (p : ℕ) → p ≤ 8 → 4 ^ p ≤ 65536
words_few p l = pow-le-pow_right (lit< tt) l
