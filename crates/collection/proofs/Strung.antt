-- Judged ends and weights, one string after the other as a loop meets them. Assumes nothing.
use mathlib.Core.Path.{◌≡◌, refl, sym, ap, ◌∙◌}
use mathlib.Core.List.{List}
use Prim.Native.Nat.{ℕ, ◌+◌, ◌<◌, ◌≤◌}
use native.Mathlib.Omega.{arith}
use lib.ListN.{length, drop, get_or, length-append}
use Rattle.lists.specs.Count.{count_from}
use Rattle.lists.proofs.Count.{length_count}
use Rattle.collection_faults.specs.Faults.{last_end}
use Rattle.collection.specs.Collection.{Collection}
use Rattle.collection.specs.Kmers.{within, kmers_from, kmers}
use Rattle.collection.specs.Ready.{Strung}
use Rattle.collection.proofs.Judged.{Judged, shape_long}
use Rattle.collection.proofs.Kmers.{kmers-counted, kmers_next, StringsLeft, strings_begin, Next, next_string, strings_on}

-- a judged collection has a weight for each k-mer
pub each_weighed : {c : Collection} → Judged c → length c.weights ≡ length (kmers c.k c.ends)
each_weighed j = j.counted ∙ sym (kmers-counted j.shape)

-- and its ends and weights are judged
pub judged_strung : {c : Collection} → Judged c → Strung c.k c.ends c.weights
judged_strung {c} j =
    record {
      ends_long = shape_long j.shape;
      few_letters = omega (arith, j.shape.last, j.shape.letters_high);
      counted = each_weighed j;
      within_range = j.all_weights;
    }

-- ─── a loop over strings and their weights ───────────────────────────────────

-- i strings with `passed` weights have passed, the last of which ends at `before`; the weights that are left are those of the strings that are left
pub record WeightsLeft (k : ℕ) (ends ws : List ℕ) (i before passed : ℕ) : Type 0 where
  pub strings : StringsLeft k (last_end 0 ends) ends i before passed
  pub left : passed + length (kmers_from k before (drop i ends)) ≡ length ws

-- before the first string
pub weights_begin : {k : ℕ} {ends ws : List ℕ} → Strung k ends ws → WeightsLeft k ends ws 0 0 0
weights_begin s = record { strings = strings_begin s.ends_long refl; left = omega (arith, s.counted) }

module _ {k : ℕ} {ends ws : List ℕ} {i before passed : ℕ} (s : WeightsLeft k ends ws i before passed) (l : i < length ends) {e : ℕ}
    (is : e ≡ get_or ends i 0) where
  -- the next string is there
  pub string_here : Next k (last_end 0 ends) before e
  string_here = rw is (next_string s.strings l)

  left_on : passed + within k before e + length (kmers_from k e (drop (i + 1) ends)) ≡ length ws
  left_on =
      rw is
      (omega (
        arith,
        s.left,
        ap length (kmers_next k before ends i l),
        length-append (count_from before (within k before (get_or ends i 0))) (kmers_from k (get_or ends i 0) (drop (i + 1) ends)),
        length_count before (within k before (get_or ends i 0)),
      ))

  -- and so are its weights
  pub weights_inside : passed + within k before e ≤ length ws
  weights_inside = omega (arith, left_on)

  -- it has passed
  pub weights_on : 1 ≤ k → WeightsLeft k ends ws (i + 1) e (passed + within k before e)
  weights_on k1 = record { strings = rw is (strings_on s.strings l k1 (passed + within k before (get_or ends i 0)) refl); left = left_on }
