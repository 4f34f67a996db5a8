-- Walks: k-mer by k-mer along a stretch, and stretch by stretch along a row. Assumes nothing.
use mathlib.Core.Path.{◌≡◌, refl, sym, ap, ap₂, ◌∙◌}
use mathlib.Core.Bool.{Bool, true, false, true≢false}
use mathlib.Core.List.{List, [], ◌∷◌, ◌++◌}
use Prim.Native.Nat.{ℕ, zero, suc, ◌+◌, ◌-◌, ◌<◌, ◌≤◌}
use native.Mathlib.Omega.{arith}
use native.Mathlib.Nat.{add-zero}
use lib.ListN.{length}
use Rattle.lists.specs.Choose.{choose}
use Rattle.lists.specs.Count.{count_from}
use Rattle.lists.proofs.Count.{count_start, count_next, count_end}
use Rattle.lists.proofs.Refuted.{never}
use Rattle.index_stretches.specs.Stretches.{Kmer, numbered, stretch, kmers_of}
use Rattle.quick_walks.specs.declared.Met.{Met}
use Rattle.quick_walks.specs.declared.Met.TheVariants.{Hit, Miss}
use Rattle.quick_walks.specs.Walk.{seek}

-- ─── along one stretch ───────────────────────────────────────────────────────

module _ (test : ℕ → Bool) (c first at number : ℕ) where
  -- the walk of a stretch from its i-th k-mer on, the i before having been compared
  unfoldable pub left : ℕ → Met
  left i = seek test (c + i) (numbered (first + i) (count_from (at + i) (number - i)))

  -- at its first k-mer
  pub left-start : seek test c (kmers_of (stretch first at number)) ≡ left 0
  unfolding left
  left-start =
      ap₂ (λ (x y : ℕ). seek test x (numbered y (count_from at number))) (sym (add-zero c)) (sym (add-zero first))
      ∙ ap (λ (l : List ℕ). seek test (c + 0) (numbered (first + 0) l)) (count_start at number)

  left_step : (i : ℕ) → i < number → left i ≡ choose (test (at + i)) (Hit (first + i) (c + i + 1)) (left (i + 1))
  unfolding left seek numbered
  left_step i l =
      let e : suc (c + i) ≡ c + i + 1 = omega arith in
      let f : suc (c + i) ≡ c + (i + 1) = omega arith in
      let g : suc (first + i) ≡ first + (i + 1) = omega arith in
      let rest : List ℕ = count_from (at + (i + 1)) (number - (i + 1)) in
      ap (λ (l : List ℕ). seek test (c + i) (numbered (first + i) l)) (count_next at number i l)
      ∙ (ap (λ (n : ℕ). choose (test (at + i)) (Hit (first + i) n) (seek test (suc (c + i)) (numbered (suc (first + i)) rest))) e
      ∙ ap₂ (λ (x y : ℕ). choose (test (at + i)) (Hit (first + i) (c + i + 1)) (seek test x (numbered y rest))) f g)

  -- the i-th k-mer meets the test
  pub left_hit : (i : ℕ) → i < number → test (at + i) ≡ true → left i ≡ Hit (first + i) (c + i + 1)
  left_hit i l e = left_step i l ∙ ap (λ (t : Bool). choose t (Hit (first + i) (c + i + 1)) (left (i + 1))) e

  -- or it does not
  pub left_on : (i : ℕ) → i < number → test (at + i) ≡ false → left i ≡ left (i + 1)
  left_on i l e = left_step i l ∙ ap (λ (t : Bool). choose t (Hit (first + i) (c + i + 1)) (left (i + 1))) e

  -- no k-mer is left
  pub left_end : (i : ℕ) → i ≡ number → left i ≡ Miss (c + number)
  unfolding left seek numbered
  left_end i e =
      let l : number ≤ i = omega arith in
      ap (λ (l : List ℕ). seek test (c + i) (numbered (first + i) l)) (count_end at number i l) ∙ ap (λ (n : ℕ). Miss (c + n)) e

  left_to : (i : ℕ) → i ≤ number → ((j : ℕ) → j < number → test (at + j) ≡ false) → left 0 ≡ left i
  left_to zero l h = refl
  left_to (suc i) l h = left_to i (omega arith) h ∙ (left_on i (omega arith) (h i (omega arith)) ∙ ap left (let e : i + 1 ≡ suc i = omega arith in e))

  -- none of its k-mers meets the test
  pub left-none : ((j : ℕ) → j < number → test (at + j) ≡ false) → seek test c (kmers_of (stretch first at number)) ≡ Miss (c + number)
  left-none h = left-start ∙ (left_to number (omega arith) h ∙ left_end number refl)

-- ─── one after the other ─────────────────────────────────────────────────────

count_of : Met → ℕ
count_of (Hit h c) = c
count_of (Miss c) = c

is_miss : Met → Bool
is_miss (Hit h c) = false
is_miss (Miss c) = true

-- a walk that did not meet its word goes on behind
pub seek_on : (test : ℕ → Bool) (c n : ℕ) (xs ys : List Kmer) → seek test c xs ≡ Miss n → seek test c (xs ++ ys) ≡ seek test n ys
unfolding seek count_of is_miss
seek_on test c n [] ys e = ap (λ (m : Met). seek test (count_of m) ys) e
seek_on test c n (x ∷ xs) ys e = go (test x.at) e (seek_on test (suc c) n xs ys)
  where
    go : (b : Bool) → choose b (Hit x.handle (suc c)) (seek test (suc c) xs) ≡ Miss n
        → (seek test (suc c) xs ≡ Miss n → seek test (suc c) (xs ++ ys) ≡ seek test n ys)
        → choose b (Hit x.handle (suc c)) (seek test (suc c) (xs ++ ys)) ≡ seek test n ys
    go true q ih = never (ap is_miss q)
    go false q ih = ih q

-- one that met it is over
pub seek_met : (test : ℕ → Bool) (c h n : ℕ) (xs ys : List Kmer) → seek test c xs ≡ Hit h n → seek test c (xs ++ ys) ≡ Hit h n
unfolding seek is_miss
seek_met test c h n [] ys e = absurd (true≢false (ap is_miss e))
seek_met test c h n (x ∷ xs) ys e = go (test x.at) e (seek_met test (suc c) h n xs ys)
  where
    go : (b : Bool) → choose b (Hit x.handle (suc c)) (seek test (suc c) xs) ≡ Hit h n
        → (seek test (suc c) xs ≡ Hit h n → seek test (suc c) (xs ++ ys) ≡ Hit h n)
        → choose b (Hit x.handle (suc c)) (seek test (suc c) (xs ++ ys)) ≡ Hit h n
    go true q ih = q
    go false q ih = ih q

-- a walk that did not meet its word has compared all
pub miss_counts : (test : ℕ → Bool) (c n : ℕ) (xs : List Kmer) → seek test c xs ≡ Miss n → n ≡ c + length xs
unfolding seek count_of is_miss
miss_counts test c n [] e = sym (ap count_of e) ∙ sym (add-zero c)
miss_counts test c n (x ∷ xs) e = go (test x.at) e (miss_counts test (suc c) n xs)
  where
    go : (b : Bool) → choose b (Hit x.handle (suc c)) (seek test (suc c) xs) ≡ Miss n → (seek test (suc c) xs ≡ Miss n → n ≡ suc c + length xs)
        → n ≡ c + suc (length xs)
    go true q ih = never (ap is_miss q)
    go false q ih = omega (arith, ih q)

-- no k-mers
pub seek-none : (test : ℕ → Bool) (c : ℕ) → seek test c [] ≡ Miss c
unfolding seek
seek-none test c = refl
