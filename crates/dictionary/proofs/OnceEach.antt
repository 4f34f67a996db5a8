-- No word repeats exactly if every word stands at most once, read either way. So reordering keeps words apart. Assumes nothing.
use mathlib.Core.Path.{◌≡◌, refl, sym, ap, ◌∙◌, subst}
use mathlib.Core.Bool.{Bool, true, false, ◌||◌}
use mathlib.Core.Logic.{◌⊎◌, inl, inr}
use mathlib.Core.List.{List, [], ◌∷◌, map}
use Prim.Native.Nat.{ℕ, zero, suc, ◌+◌, ◌-◌, ◌<◌, ◌≤◌}
use native.Mathlib.Omega.{arith}
use lib.IntN.{ℤ}
use lib.ListN.{length, get_or, length-map}
use Rattle.lists.specs.Choose.{choose}
use Rattle.lists.specs.Count.{sum}
use Rattle.lists.specs.Every.{same}
use Rattle.lists.proofs.Compare.{lt_or_le}
use Rattle.lists.proofs.Every.{same_is, is_same}
use Rattle.lists.proofs.Mapped.{map_at_below}
use Rattle.words.specs.Word.{Letters, word_at, turn}
use Rattle.words.proofs.Turning.{turn-turn}
use Rattle.collection.specs.Collection.{Collection, spelling_of}
use Rattle.collection.specs.Judge.{Passes}
use Rattle.collection.specs.Kmers.{kmers, word_of, Distinct}
use Rattle.collection.specs.Strings.{joined}
use Rattle.collection.proofs.Judged.{collection_good}
use Rattle.collection.proofs.Ready.{judged_ready, word_letters}
use Rattle.cover_trails.specs.Places.{SignedPermutation}
use Rattle.apply_strings.specs.Reordered.{reordered}
use Rattle.apply_strings.specs.Stands.{once, times_at}
use Rattle.apply_strings.proofs.Reordered.{reordered_passes}
use Rattle.apply_strings.proofs.Stands.{times_kept}

-- ─── sums of tests ───────────────────────────────────────────────────────────

-- one entry is no more than the sum
at_most_sum : (xs : List ℕ) (i : ℕ) → get_or xs i 0 ≤ sum xs
unfolding sum
at_most_sum [] i = omega arith
at_most_sum (x ∷ xs) zero = omega arith
at_most_sum (x ∷ xs) (suc i) = omega (arith, at_most_sum xs i)

-- nor are two
two_at_most : (xs : List ℕ) (i j : ℕ) → i < j → j < length xs → get_or xs i 0 + get_or xs j 0 ≤ sum xs
unfolding sum
two_at_most [] i j l m = absurd (omega arith)
two_at_most (x ∷ xs) i zero l m = absurd (omega arith)
two_at_most (x ∷ xs) zero (suc j) l m = omega (arith, at_most_sum xs j)
two_at_most (x ∷ xs) (suc i) (suc j) l m = omega (arith, two_at_most xs i j (omega arith) (omega arith))

-- a sum of zeros and ones is 0, or one of them is 1
some_one : (xs : List ℕ) → ((i : ℕ) → i < length xs → get_or xs i 0 ≤ 1) → (sum xs ≡ 0) ⊎ ((j : ℕ) × (j < length xs) × (get_or xs j 0 ≡ 1))
unfolding sum
some_one [] a = inl refl
some_one (x ∷ xs) a = go (lt_or_le 0 x) (some_one xs (λ i l. a (suc i) (omega arith)))
  where
    go : (0 < x) ⊎ (x ≤ 0) → (sum xs ≡ 0) ⊎ ((j : ℕ) × (j < length xs) × (get_or xs j 0 ≡ 1))
        → (x + sum xs ≡ 0) ⊎ ((j : ℕ) × (j < suc (length xs)) × (get_or (x ∷ xs) j 0 ≡ 1))
    go (inl l) r = inr (0, omega arith, omega (arith, a 0 (omega arith)))
    go (inr l) (inl e) = inl (omega arith)
    go (inr l) (inr r) = inr (suc r.0, omega (arith, r.1), r.2)

-- it is at most 1 where no two of them are 1
one_at_most : (xs : List ℕ) → ((i : ℕ) → i < length xs → get_or xs i 0 ≤ 1) → ((i j : ℕ) → i < j → j < length xs → get_or xs i 0 ≡ 1 → get_or xs j 0 ≡ 1 → ⊥)
    → sum xs ≤ 1
unfolding sum
one_at_most [] a b = omega arith
one_at_most (x ∷ xs) a b =
    go (one_at_most xs (λ i l. a (suc i) (omega arith)) (λ i j l m. b (suc i) (suc j) (omega arith) (omega arith))) (lt_or_le 0 x)
    (some_one xs (λ i l. a (suc i) (omega arith)))
  where
    go : sum xs ≤ 1 → (0 < x) ⊎ (x ≤ 0) → (sum xs ≡ 0) ⊎ ((j : ℕ) × (j < length xs) × (get_or xs j 0 ≡ 1)) → x + sum xs ≤ 1
    go ih (inl l) (inl e) = omega (arith, a 0 (omega arith))
    go ih (inl l) (inr r) = absurd (b 0 (suc r.0) (omega arith) (omega (arith, r.1)) (omega (arith, a 0 (omega arith))) r.2)
    go ih (inr l) r = omega (arith, ih)

-- ─── words that stand once ───────────────────────────────────────────────────

-- a k-mer counts as the word at most once, and it does if it is the word or turned is the word
once_few : (word kmer : List ℕ) → once word kmer ≤ 1
unfolding once
once_few word kmer = go (same kmer word || same (turn kmer) word)
  where
    go : (t : Bool) → choose t 1 0 ≤ 1
    go true = omega arith
    go false = omega arith

once_is : (word kmer : List ℕ) → (kmer ≡ word) ⊎ (turn kmer ≡ word) → once word kmer ≡ 1
unfolding once
once_is word kmer (inl e) = ap (λ (t : Bool). choose (t || same (turn kmer) word) 1 0) (is_same e)
once_is word kmer (inr e) = go (same kmer word)
  where
    go : (t : Bool) → ◌≡◌ {A = ℕ} (choose (t || same (turn kmer) word) 1 0) 1
    go true = refl
    go false = ap (λ (t : Bool). choose t 1 0) (is_same e)

once_either : (word kmer : List ℕ) → once word kmer ≡ 1 → (kmer ≡ word) ⊎ (turn kmer ≡ word)
unfolding once
once_either word kmer e = go (same kmer word) refl (same (turn kmer) word) refl e
  where
    go : (s : Bool) → same kmer word ≡ s → (t : Bool) → same (turn kmer) word ≡ t → ◌≡◌ {A = ℕ} (choose (s || t) 1 0) 1 → (kmer ≡ word) ⊎ (turn kmer ≡ word)
    go true p t q r = inl (same_is kmer word p)
    go false p true q r = inr (same_is (turn kmer) word q)
    go false p false q r = absurd (let z : ⊥ = omega (arith, r) in z)

module _ (c : Collection) (passes : Passes c) where
  -- the k-mers, each as it counts for a word
  abbrev counts : List ℕ → List ℕ
  counts word = map (λ a. once word (word_at c.k c.letters a)) (kmers c.k c.ends)

  abbrev n : ℕ
  n = length (kmers c.k c.ends)

  size : (word : List ℕ) → length (counts word) ≡ n
  size word = length-map (kmers c.k c.ends) (λ a. once word (word_at c.k c.letters a))

  count_at : (word : List ℕ) (i : ℕ) → i < n → get_or (counts word) i 0 ≡ once word (word_at c.k c.letters (get_or (kmers c.k c.ends) i 0))
  count_at word i l = map_at_below (λ a. once word (word_at c.k c.letters a)) 0 0 (kmers c.k c.ends) i l

  -- the word of the handle i + 1
  word_at_lem : (i : ℕ) → word_of (spelling_of c) (i + 1) ≡ word_at c.k c.letters (get_or (kmers c.k c.ends) i 0)
  word_at_lem i = let e : i + 1 - 1 ≡ i = omega arith in ap (λ (j : ℕ). word_at c.k c.letters (get_or (kmers c.k c.ends) j 0)) e

  spelt : (i : ℕ) → Letters (word_at c.k c.letters (get_or (kmers c.k c.ends) i 0))
  spelt i = word_letters (judged_ready (collection_good c passes)) (get_or (kmers c.k c.ends) i 0)

  -- two k-mers that are one word, read either way, are alike
  alike : (word : List ℕ) (i j : ℕ) → once word (word_at c.k c.letters (get_or (kmers c.k c.ends) i 0)) ≡ 1
      → once word (word_at c.k c.letters (get_or (kmers c.k c.ends) j 0)) ≡ 1
      → (word_of (spelling_of c) (i + 1) ≡ word_of (spelling_of c) (j + 1)) ⊎ (word_of (spelling_of c) (i + 1) ≡ turn (word_of (spelling_of c) (j + 1)))
  alike word i j p q = go (once_either word _ p) (once_either word _ q)
    where
      u : List ℕ
      u = word_at c.k c.letters (get_or (kmers c.k c.ends) i 0)

      v : List ℕ
      v = word_at c.k c.letters (get_or (kmers c.k c.ends) j 0)

      go : (u ≡ word) ⊎ (turn u ≡ word) → (v ≡ word) ⊎ (turn v ≡ word)
          → (word_of (spelling_of c) (i + 1) ≡ word_of (spelling_of c) (j + 1)) ⊎ (word_of (spelling_of c) (i + 1) ≡ turn (word_of (spelling_of c) (j + 1)))
      go (inl a) (inl b) = inl (word_at_lem i ∙ (a ∙ (sym b ∙ sym (word_at_lem j))))
      go (inl a) (inr b) = inr (word_at_lem i ∙ (a ∙ (sym b ∙ ap turn (sym (word_at_lem j)))))
      go (inr a) (inl b) = inr (word_at_lem i ∙ (sym (turn-turn u (spelt i)) ∙ (ap turn (a ∙ sym b) ∙ ap turn (sym (word_at_lem j)))))
      go (inr a) (inr b) = inl (word_at_lem i ∙ (sym (turn-turn u (spelt i)) ∙ (ap turn (a ∙ sym b) ∙ (turn-turn v (spelt j) ∙ sym (word_at_lem j)))))

  -- with no repeated word, every word stands at most once
  pub distinct-once : Distinct (spelling_of c) → (word : List ℕ) → times_at (spelling_of c) word ≤ 1
  unfolding times_at
  distinct-once d word =
      one_at_most (counts word)
      (λ i l. omega (arith, count_at word i (omega (arith, size word)), once_few word (word_at c.k c.letters (get_or (kmers c.k c.ends) i 0))))
      (λ i j l m p q.
      let jn : j < n = omega (arith, size word) in
      let z = d i j (omega arith) jn (alike word i j (sym (count_at word i (omega arith)) ∙ p) (sym (count_at word j jn) ∙ q)) in
      omega (arith, z))

  -- and if every word does, none is repeated
  pub once-distinct : ((word : List ℕ) → times_at (spelling_of c) word ≤ 1) → Distinct (spelling_of c)
  unfolding times_at
  once-distinct few i j l m e = go (lt_or_le i j) (lt_or_le j i)
    where
      word : List ℕ
      word = word_of (spelling_of c) (j + 1)

      here : once word (word_at c.k c.letters (get_or (kmers c.k c.ends) j 0)) ≡ 1
      here = once_is word _ (inl (sym (word_at_lem j)))

      turned : (word_of (spelling_of c) (i + 1) ≡ word) ⊎ (word_of (spelling_of c) (i + 1) ≡ turn word)
          → (word_at c.k c.letters (get_or (kmers c.k c.ends) i 0) ≡ word) ⊎ (turn (word_at c.k c.letters (get_or (kmers c.k c.ends) i 0)) ≡ word)
      turned (inl q) = inl (sym (word_at_lem i) ∙ q)
      turned (inr q) = inr (ap turn (sym (word_at_lem i) ∙ q) ∙ turn-turn word (subst Letters (sym (word_at_lem j)) (spelt j)))

      there : once word (word_at c.k c.letters (get_or (kmers c.k c.ends) i 0)) ≡ 1
      there = once_is word _ (turned e)

      go : (i < j) ⊎ (j ≤ i) → (j < i) ⊎ (i ≤ j) → i ≡ j
      go (inl a) b =
          absurd (omega (arith, two_at_most (counts word) i j a (omega (arith, size word)), few word, count_at word i l, count_at word j m, here, there))
      go (inr a) (inl b) =
          absurd (omega (arith, two_at_most (counts word) j i b (omega (arith, size word)), few word, count_at word i l, count_at word j m, here, there))
      go (inr a) (inr b) = omega arith

-- reordering keeps words apart
pub reordered-distinct : (c : Collection) (places : List ℤ) → Passes c → SignedPermutation (length c.ends) places → Distinct (spelling_of c)
    → Distinct (spelling_of (joined c.k (reordered c places)))
reordered-distinct c places passes perm d =
    once-distinct _ (reordered_passes c places passes perm)
    (λ word. omega (arith, times_kept word c places passes perm, distinct-once c passes d word))
