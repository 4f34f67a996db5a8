-- K-mers by handle and k-mers by string are the same: each handle's word and weight stand in one string, and each of a string's in one handle. Assumes nothing.
use mathlib.Core.Path.{◌≡◌, sym, ap, ◌∙◌, subst}
use mathlib.Core.List.{List, [], ◌∷◌, ◌++◌}
use mathlib.Core.Logic.{◌⊎◌}
use Prim.Native.Nat.{ℕ, suc, ◌+◌, ◌-◌, ◌<◌}
use native.Mathlib.Decide.{dec_lt}
use native.Mathlib.Omega.{arith}
use lib.IntN.{ℤ}
use lib.ListN.{length, take, drop, get_or, length-append, length-drop, take-append-drop, get_or-append}
use lib.Seq.{get_or-append-add, get_or-take, get_or-drop, drop-drop, length-take-le}
use Rattle.lists.specs.Count.{count_from}
use Rattle.lists.proofs.Cuts.{cut_inside}
use Rattle.lists.proofs.Count.{count_at, length_count}
use Rattle.words.specs.Word.{spell, word_at, turn}
use Rattle.collection.specs.Collection.{Collection, collection}
use Rattle.collection.specs.Judge.{Passes}
use Rattle.collection_faults.specs.Faults.{last_end}
use Rattle.collection.specs.Kmers.{within, kmers_from, kmers}
use Rattle.collection.specs.Ready.{Long}
use Rattle.collection.specs.Strings.{Str, strings, joined}
use Rattle.collection.proofs.Judged.{Judged, collection_good, shape_long}
use Rattle.collection.proofs.Strings.{strings_count}
use Rattle.collection.proofs.Kmers.{kmers_split, kmers_next, start_count}
use Rattle.cover_trails.specs.Places.{SignedPermutation}
use Rattle.apply_strings.specs.Reordered.{reordered}
use Rattle.apply_strings.specs.Parts.{start_of, first_of}
use Rattle.apply_strings.specs.Weighs.{none, Weighs, WeighsAt}
use Rattle.apply_strings.proofs.Parts.{string_at, string_long, last_inside}
use Rattle.apply_strings.proofs.Reordered.{reordered_passes, reordered-strings, weighs_after, weighs-before}

-- ─── from a string to a handle ───────────────────────────────────────────────

module _ {k : ℕ} {ends : List ℕ} (g : Long k ends) (i a : ℕ) (l : i < length ends) (b : a < within k (start_of ends i) (get_or ends i 0)) where
  -- the k-mers of the strings before, then those of string i, then the others
  split : kmers k ends
      ≡ kmers k (take i ends) ++ (count_from (start_of ends i) (within k (start_of ends i) (get_or ends i 0)) ++ kmers_from k (get_or ends i 0)
      (drop (i + 1) ends))
  split =
      ap (kmers k) (sym (take-append-drop i ends))
      ∙ (kmers_split k 0 (take i ends) (drop i ends) ∙ ap (λ (r : List ℕ). kmers k (take i ends) ++ r) (kmers_next k (start_of ends i) ends i l))

  before_is : length (kmers k (take i ends)) ≡ first_of k ends i
  before_is = omega (arith, start_count g i (omega arith))

  numbers : length (count_from (start_of ends i) (within k (start_of ends i) (get_or ends i 0))) ≡ within k (start_of ends i) (get_or ends i 0)
  numbers = length_count (start_of ends i) (within k (start_of ends i) (get_or ends i 0))

  kmer_inside : first_of k ends i + a < length (kmers k ends)
  kmer_inside =
      omega (
        arith,
        ap length split,
        length-append (kmers k (take i ends))
            (count_from (start_of ends i) (within k (start_of ends i) (get_or ends i 0)) ++ kmers_from k (get_or ends i 0) (drop (i + 1) ends)),
        length-append (count_from (start_of ends i) (within k (start_of ends i) (get_or ends i 0))) (kmers_from k (get_or ends i 0) (drop (i + 1) ends)),
        before_is,
        numbers,
      )

  kmer_position : get_or (kmers k ends) (first_of k ends i + a) 0 ≡ start_of ends i + a
  kmer_position =
      ap (λ (n : ℕ). get_or (kmers k ends) (n + a) 0) (sym before_is)
      ∙ (ap (λ (r : List ℕ). get_or r (length (kmers k (take i ends)) + a) 0) split
      ∙ (get_or-append-add (kmers k (take i ends))
      (count_from (start_of ends i) (within k (start_of ends i) (get_or ends i 0)) ++ kmers_from k (get_or ends i 0) (drop (i + 1) ends)) a 0
      ∙ (get_or-append (count_from (start_of ends i) (within k (start_of ends i) (get_or ends i 0))) (kmers_from k (get_or ends i 0) (drop (i + 1) ends)) 0 a
      (omega (arith, numbers))
      ∙ count_at (start_of ends i) (within k (start_of ends i) (get_or ends i 0)) a b)))

  -- its word and its weight are those of the string
  module _ (letters weights : List ℕ) where
    kmer_word : word_at k letters (get_or (kmers k ends) (first_of k ends i + a) 0)
        ≡ word_at k (get_or (strings (collection k letters ends weights)) i none).letters a
    kmer_word =
        ap (word_at k letters) kmer_position
        ∙ (ap (λ (r : List ℕ). spell (take k r)) (sym (drop-drop a (start_of ends i) letters))
        ∙ (ap spell (sym (cut_inside k a (get_or ends i 0 - start_of ends i) (drop (start_of ends i) letters) (omega (arith, string_long g i l))))
        ∙ ap (λ (s : Str). word_at k s.letters a) (sym (string_at (collection k letters ends weights) none g i l))))

    kmer_weight : get_or weights (first_of k ends i + a) 0 ≡ get_or (get_or (strings (collection k letters ends weights)) i none).weights a 0
    kmer_weight =
        sym (get_or-drop (first_of k ends i) weights a 0)
        ∙ (sym (get_or-take (within k (start_of ends i) (get_or ends i 0)) (drop (first_of k ends i) weights) a 0 b)
        ∙ ap (λ (s : Str). get_or s.weights a 0) (sym (string_at (collection k letters ends weights) none g i l)))

-- ─── from a handle to a string ───────────────────────────────────────────────

located : (k before : ℕ) (ends : List ℕ) (t : ℕ) → t < length (kmers_from k before ends)
    → (i : ℕ) × (a : ℕ) × (i < length ends) × (a < within k (last_end before (take i ends)) (get_or ends i 0))
    × (t ≡ length (kmers_from k before (take i ends)) + a)
unfolding kmers_from last_end
located k before [] t l = absurd (omega arith)
located k before (e ∷ ends) t l = go (dec_lt t (within k before e)) (located k e ends (t - within k before e))
  where
    n : length (count_from before (within k before e)) ≡ within k before e
    n = length_count before (within k before e)

    go : Dec (t < within k before e)
        → (t - within k before e < length (kmers_from k e ends)
        → (i : ℕ) × (a : ℕ) × (i < length ends) × (a < within k (last_end e (take i ends)) (get_or ends i 0))
        × (t - within k before e ≡ length (kmers_from k e (take i ends)) + a))
        → (i : ℕ) × (a : ℕ) × (i < suc (length ends)) × (a < within k (last_end before (take i (e ∷ ends))) (get_or (e ∷ ends) i 0))
        × (t ≡ length (kmers_from k before (take i (e ∷ ends))) + a)
    go (yes q) ih = (0, t, omega arith, q, omega arith)
    go (no q) ih =
        let u = ih (omega (arith, length-append (count_from before (within k before e)) (kmers_from k e ends), n)) in
        let h = u.4 in
        (suc u.0, u.1, omega (arith, u.2), u.3, omega (arith, length-append (count_from before (within k before e)) (kmers_from k e (take u.0 ends)), n))

-- ─── both ways ───────────────────────────────────────────────────────────────

module _ (c : Collection) (passes : Passes c) (word : List ℕ) (weight : ℕ) where
  judged : Judged c
  judged = collection_good c passes

  long : Long c.k c.ends
  long = shape_long judged.shape

  number : length (strings c) ≡ length c.ends
  number = strings_count c

  weights-within : (i : ℕ) → i < length c.ends → length (get_or (strings c) i none).weights ≡ within c.k (start_of c.ends i) (get_or c.ends i 0)
  weights-within i l =
      ap (λ (s : Str). length s.weights) (string_at c none long i l)
      ∙ length-take-le (within c.k (start_of c.ends i) (get_or c.ends i 0)) (drop (first_of c.k c.ends i) c.weights)
      (rw length-drop (omega (arith, last_inside long i l, judged.counted, judged.shape.last)))

  -- from strings to handles
  pub handle_weighs : Weighs c.k (strings c) word weight → WeighsAt c word weight
  handle_weighs u =
      let i : ℕ = u.0 in
      let l : i < length c.ends = omega (arith, u.1, number) in
      let a : ℕ = u.2.0 in
      let b : a < within c.k (start_of c.ends i) (get_or c.ends i 0) = omega (arith, u.2.1, weights-within i l) in
      let t : ℕ = first_of c.k c.ends i + a in
      let q : t ≡ t + 1 - 1 = omega arith in (
        t + 1,
        omega arith,
        omega (arith, kmer_inside long i a l b),
        subst (λ (v : List ℕ). (v ≡ word) ⊎ (turn v ≡ word))
            (sym (kmer_word long i a l b c.letters c.weights) ∙ ap (λ (n : ℕ). word_at c.k c.letters (get_or (kmers c.k c.ends) n 0)) q) u.2.2,
        ap (λ (n : ℕ). get_or c.weights n 0) (sym q) ∙ (kmer_weight long i a l b c.letters c.weights ∙ u.2.3),
      )

  -- and back
  pub weighs_handle : WeighsAt c word weight → Weighs c.k (strings c) word weight
  weighs_handle u =
      let f = located c.k 0 c.ends (u.0 - 1) (omega (arith, u.1, u.2)) in
      let i : ℕ = f.0 in
      let a : ℕ = f.1 in
      let l : i < length c.ends = f.2 in
      let b : a < within c.k (start_of c.ends i) (get_or c.ends i 0) = f.3 in
      let q : u.0 - 1 ≡ first_of c.k c.ends i + a = omega (arith, f.4, before_is long i a l b) in (
        i,
        omega (arith, number),
        (
          a,
          omega (arith, weights-within i l),
          subst (λ (v : List ℕ). (v ≡ word) ⊎ (turn v ≡ word))
              (ap (λ (n : ℕ). word_at c.k c.letters (get_or (kmers c.k c.ends) n 0)) q ∙ kmer_word long i a l b c.letters c.weights) u.3,
          sym (kmer_weight long i a l b c.letters c.weights) ∙ (ap (λ (n : ℕ). get_or c.weights n 0) (sym q) ∙ u.4),
        ),
      )

-- ─── the weight of every word is the same before and after ───────────────────

module _ (c : Collection) (places : List ℤ) (passes : Passes c) (permutation : SignedPermutation (length c.ends) places) (word : List ℕ) (weight : ℕ) where
  pub weight_kept : WeighsAt c word weight
      → WeighsAt (joined c.k (reordered c places)) word weight
  weight_kept u =
      handle_weighs _ (reordered_passes c places passes permutation) word weight
      (subst (λ (ss : List Str). Weighs c.k ss word weight) (sym (reordered-strings c places passes permutation))
      (weighs_after c places passes permutation word weight (weighs_handle c passes word weight u)))

  -- and no word gains a weight
  pub weight_from : WeighsAt (joined c.k (reordered c places)) word weight
      → WeighsAt c word weight
  weight_from u =
      handle_weighs c passes word weight
      (weighs-before c places passes permutation word weight
      (subst (λ (ss : List Str). Weighs c.k ss word weight) (reordered-strings c places passes permutation)
      (weighs_handle _ (reordered_passes c places passes permutation) word weight u)))
