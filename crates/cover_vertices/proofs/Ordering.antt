-- The end weights and their numbers in order.
use mathlib.Core.Path.{◌≡◌, ◌∙◌}
use mathlib.Core.Bool.{true}
use mathlib.Core.List.{List, [], ◌∷◌}
use Prim.Native.Nat.{ℕ, ◌+◌, ◌-◌, ◌*◌, ◌<◌, ◌^◌}
use native.Mathlib.Omega.{arith}
use lib.ListN.{length, get_or, drop}
use lib.Seq.{get_or-drop}
use Rattle.lists.specs.Count.{count_from}
use Rattle.lists.specs.Every.{All}
use Rattle.lists.specs.Pick.{sort_by}
use Rattle.lists.proofs.Count.{length_count, count_at, all_count}
use Rattle.lists.proofs.Every.{all_at}
use Rattle.lists.proofs.Sorts.{sort_by_at, sort_by_place, all_sort_by, length_sort_by}
use Rattle.collection_faults.specs.Faults.{is_weight}
use Rattle.collection_faults.proofs.Finding.{weights_low}
use Rattle.collection.specs.Kmers.{within}
use Rattle.collection.specs.Ready.{Strung}
use Rattle.sorting.specs.Keys.{key_at}
use Rattle.sorting.proofs.Digits.{all_low}
use Rattle.cover_trails.specs.Strings.{weights}
use Rattle.cover_vertices.specs.Promises.{ends_from, Rising}

-- ─── the end weights fit 24 bits ─────────────────────────────────────────────

weight_low : (ws : List ℕ) → All (λ w. is_weight w ≡ true) ws → (i : ℕ) → get_or ws i 0 < 2 ^ 24
weight_low ws h = all_low (2 ^ 24) ws (omega arith) (weights_low ws h)

ends_low : (k before : ℕ) (ends ws : List ℕ) → ((i : ℕ) → get_or ws i 0 < 2 ^ 24) → All (λ w. w < 2 ^ 24) (weights (ends_from k before ends ws))
unfolding ends_from weights
ends_low k before [] ws h = tt
ends_low k before (e ∷ ends) ws h =
    (h 0, (h (within k before e - 1), ends_low k e ends (drop (within k before e) ws) (λ i. rw get_or-drop (h (within k before e + i)))))

-- so do the end weights of all strings
pub keys_low : (k : ℕ) (ends ws : List ℕ) → Strung k ends ws → All (λ w. w < 2 ^ 24) (weights (ends_from k 0 ends ws))
keys_low k ends ws s = ends_low k 0 ends ws (weight_low ws s.within_range)

-- ─── what the order is good for ──────────────────────────────────────────────

module _ (m : ℕ) (keys : List ℕ) where
  -- the numbers of the ends in the order of their weights
  abbrev pub in_order : List ℕ
  in_order = sort_by (key_at keys) (count_from 0 (2 * m))

  -- there are 2m of them
  pub order_length : length in_order ≡ 2 * m
  order_length = length_sort_by (key_at keys) (count_from 0 (2 * m)) ∙ length_count 0 (2 * m)

  -- the weights rise in it
  pub order_rising : Rising (2 * m) keys in_order
  order_rising = record {
    low = λ q l. all_at (λ x. x < 2 * m) in_order
        (all_sort_by (key_at keys) (λ x. x < 2 * m) (count_from 0 (2 * m)) (all_count (λ x. x < 2 * m) 0 (2 * m) (λ j u v. omega arith))) q 0
        (omega (arith, order_length));
    rises = λ p q h l. sort_by_at (key_at keys) (count_from 0 (2 * m)) p q 0 h (omega (arith, length_count 0 (2 * m)));
  }

  -- each end has a place
  pub order_place : (c : ℕ) → c < 2 * m → (q : ℕ) × (q < 2 * m) × (get_or in_order q 0 ≡ c)
  order_place c l =
      let p = sort_by_place (key_at keys) (count_from 0 (2 * m)) c 0 (omega (arith, length_count 0 (2 * m))) in
      (p.0, omega (arith, p.1, length_count 0 (2 * m)), p.2 ∙ count_at 0 (2 * m) c l ∙ omega arith)
