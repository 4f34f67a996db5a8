-- The end weights of strings, one string after the other as a loop meets them.
use mathlib.Core.Path.{◌≡◌, refl, sym, ap, ap₂, ◌∙◌}
use mathlib.Core.List.{List, [], ◌∷◌, map}
use Prim.Native.Nat.{ℕ, suc, ◌+◌, ◌-◌, ◌*◌, ◌<◌, ◌≤◌}
use native.Mathlib.Omega.{arith}
use lib.ListN.{length, get_or, set, take, drop, length-append, length-drop, drop_of_length-le}
use lib.Seq.{length-take-le, get_or-take, get_or-drop, drop-drop}
use Rattle.lists.specs.Count.{count_from}
use Rattle.lists.proofs.Count.{length_count}
use Rattle.cover_vertices.proofs.Ladder.{fill_whole}
use Rattle.lists.proofs.Storing.{drop_next, Storing, begin, store, restated, stored}
use Rattle.collection_faults.specs.Faults.{first_short}
use Rattle.collection.specs.Collection.{Spelling, collection}
use Rattle.collection.specs.Kmers.{within, kmers_from, kmers}
use Rattle.collection.specs.Strings.{strings_from}
use Rattle.collection.proofs.Judged.{long_cons}
use Rattle.cover_trails.proofs.Orders.{length-weights}
use Rattle.cover_vertices.specs.Promises.{ends_from}
use Rattle.cover_trails.specs.Strings.{Ends, weights}
use Rattle.collection.specs.Ready.{Strung}
use Rattle.collection.specs.EndWeights.{ends_of, end_weights}
use Rattle.collection.proofs.Strung.{WeightsLeft, weights_begin, string_here, weights_on}

-- ─── from ends and weights alone ─────────────────────────────────────────────

module _ (n : ℕ) (ws : List ℕ) (some : 1 ≤ n) (room : n ≤ length ws) where
  first_weight : get_or (take n ws) 0 0 ≡ get_or ws 0 0
  first_weight = get_or-take n ws 0 0 (omega arith)

  last_weight_lem : get_or (take n ws) (length (take n ws) - 1) 0 ≡ get_or ws (n - 1) 0
  last_weight_lem = rw (length-take-le n ws room) (get_or-take n ws (n - 1) 0 (omega arith))

kmers-cons : (k before e : ℕ) (ends : List ℕ) → length (kmers_from k before (e ∷ ends)) ≡ within k before e + length (kmers_from k e ends)
unfolding kmers_from
kmers-cons k before e ends = omega (arith, length-append (count_from before (within k before e)) (kmers_from k e ends), length_count before (within k before e))

ends_from_lem : (k i before : ℕ) (letters ends ws : List ℕ) → first_short k i before ends ≡ 0 → length ws ≡ length (kmers_from k before ends)
    → map ends_of (strings_from k before letters ends ws) ≡ ends_from k before ends ws
unfolding ends_from strings_from
ends_from_lem k i before letters [] ws h l = refl
ends_from_lem k i before letters (e ∷ ends) ws h l =
    let a = long_cons k i before e ends h in
    let n = within k before e in
    let c = kmers-cons k before e ends in
    ap₂ (λ (s : Ends) (L : List Ends). s ∷ L)
    (λ j. (first_weight n ws (omega (arith, a.0)) (omega (arith, c, l)) j, last_weight_lem n ws (omega (arith, a.0)) (omega (arith, c, l)) j))
    (ends_from_lem k (suc i) e (drop (e - before) letters) ends (drop n ws) a.1 (simp length-drop (omega (arith, c, l))))

-- they are the end weights of the strings
pub end_weights_lem : (t : Spelling) (ws : List ℕ) → first_short t.k 0 0 t.ends ≡ 0 → length ws ≡ length (kmers t.k t.ends)
    → end_weights (collection t.k t.letters t.ends ws) ≡ ends_from t.k 0 t.ends ws
unfolding end_weights
end_weights_lem t ws h l = ends_from_lem t.k 0 0 t.letters t.ends ws h l

-- a pair for each string
pub length-ends : (k before : ℕ) (ends ws : List ℕ) → length (ends_from k before ends ws) ≡ length ends
unfolding ends_from
length-ends k before [] ws = refl
length-ends k before (e ∷ ends) ws = ap suc (length-ends k e ends (drop (within k before e) ws))

-- that is, two weights for each string
pub length_keys : (k : ℕ) (ends ws : List ℕ) → length (weights (ends_from k 0 ends ws)) ≡ 2 * length ends
length_keys k ends ws = omega (arith, length-weights (ends_from k 0 ends ws), length-ends k 0 ends ws)

-- ─── one string more ─────────────────────────────────────────────────────────

module _ (k before : ℕ) (ends ws : List ℕ) (i passed : ℕ) (l : i < length ends) where
  -- the end weights of the next string, then those of the others
  pub ends_next : weights (ends_from k before (drop i ends) (drop passed ws))
      ≡ get_or ws passed 0 ∷ (get_or ws (passed + (within k before (get_or ends i 0) - 1)) 0
      ∷ weights (ends_from k (get_or ends i 0) (drop (i + 1) ends) (drop (passed + within k before (get_or ends i 0)) ws)))
  unfolding ends_from weights
  ends_next =
      let z : passed + 0 ≡ passed = omega arith in
      ap (λ (L : List ℕ). weights (ends_from k before L (drop passed ws))) (drop_next ends i 0 l)
      ∙ (ap₂ (λ (x y : ℕ). x ∷ (y ∷ weights (ends_from k (get_or ends i 0) (drop (i + 1) ends) (drop (within k before (get_or ends i 0)) (drop passed ws)))))
      (get_or-drop passed ws 0 0 ∙ ap (λ (j : ℕ). get_or ws j 0) z) (get_or-drop passed ws (within k before (get_or ends i 0) - 1) 0)
      ∙ ap (λ (L : List ℕ). get_or ws passed 0
      ∷ (get_or ws (passed + (within k before (get_or ends i 0) - 1)) 0 ∷ weights (ends_from k (get_or ends i 0) (drop (i + 1) ends) L)))
      (drop-drop (within k before (get_or ends i 0)) passed ws))

-- behind the last string there are none
pub ends_end : (k before : ℕ) (ends ws : List ℕ) (i : ℕ) → length ends ≤ i → weights (ends_from k before (drop i ends) ws) ≡ []
unfolding ends_from weights
ends_end k before ends ws i l = ap (λ (L : List ℕ). weights (ends_from k before L ws)) (drop_of_length-le ends l)

-- ─── a loop that stores them ─────────────────────────────────────────────────

-- the end weights of i strings are stored; the last of these strings ends at `before`, and they have `passed` weights
pub record Writing (k : ℕ) (ends ws keys : List ℕ) (before passed i : ℕ) : Type 0 where
  pub walk : WeightsLeft k ends ws i before passed
  pub storing :
      Storing (2 * length ends) keys (weights (ends_from k 0 ends ws)) (weights (ends_from k before (drop i ends) (drop passed ws))) (2 * i)

-- nothing is stored yet
pub writing_start : (k : ℕ) (ends ws keys : List ℕ) → Strung k ends ws → length keys ≡ 2 * length ends → Writing k ends ws keys 0 0 0
writing_start k ends ws keys s h =
    let xs : List ℕ = weights (ends_from k 0 ends ws) in
    let l : length xs ≡ length keys = length_keys k ends ws ∙ sym h in
    let b = begin keys xs (omega arith) in
    record {
      walk = weights_begin s;
      storing = record { size_kept = h; room = b.room; ends = b.ends ∙ fill_whole xs keys l };
    }

module _ {k : ℕ} {ends ws keys : List ℕ} {before passed i : ℕ} (g : Writing k ends ws keys before passed i) where
  module _ (l : i < length ends) {e : ℕ} (is : e ≡ get_or ends i 0) where
    next_two : Storing (2 * length ends) keys (weights (ends_from k 0 ends ws))
        (get_or ws passed 0 ∷ (get_or ws (passed + within k before e - 1) 0 ∷ weights
        (ends_from k e (drop (i + 1) ends) (drop (passed + within k before e) ws))))
        (2 * i)
    next_two =
        let q : passed + within k before e - 1 ≡ passed + (within k before e - 1) = omega (arith, (string_here g.walk l is).long) in
        rw (q, is) (restated (ends_next k before ends ws i passed l) g.storing)

    -- its end weights are stored
    pub writing_on : 1 ≤ k
        → Writing k ends ws (set (set keys (2 * i) (get_or ws passed 0)) (2 * i + 1) (get_or ws (passed + within k before e - 1) 0)) e
        (passed + within k before e) (i + 1)
    writing_on k1 =
        let q : 2 * (i + 1) ≡ 2 * i + 1 + 1 = omega arith in
        record {
          walk = weights_on g.walk l is k1;
          storing = rw q (store (store next_two));
        }

  -- behind the last string all end weights are stored
  pub writing_end : length ends ≤ i → keys ≡ weights (ends_from k 0 ends ws)
  writing_end h = stored (restated (ends_end k before ends (drop passed ws) i h) g.storing)
