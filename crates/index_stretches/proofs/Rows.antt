-- The rows of a built index: the row of a minimizer holds its stretches, and walks its k-mers in the order of the handles. Assumes nothing.
use mathlib.Core.Path.{◌≡◌, refl, sym, ap, ap₂, ◌∙◌}
use mathlib.Core.Logic.{⊎_elim}
use mathlib.Core.List.{List, [], ◌∷◌}
use Prim.Native.Nat.{ℕ, zero, suc, ◌+◌, ◌-◌, ◌<◌, ◌≤◌}
use native.Mathlib.Omega.{arith}
use lib.ListN.{length, get_or, take, drop}
use lib.Seq.{drop-cons}
use Rattle.lists.specs.Count.{count_from}
use Rattle.lists.specs.Every.{All}
use Rattle.lists.specs.Pick.{pick}
use Rattle.lists.proofs.Compare.{eq_or_ne}
use Rattle.lists.proofs.Count.{all_count}
use Rattle.lists.proofs.Every.{all_map}
use Rattle.lists.proofs.Mapped.{map_at, values_at}
use Rattle.lists.proofs.Picks.{pick_nil, pick_here, pick_other, pick_append, length-up_to-suc, length-up_to_mono, group_at}
use Rattle.collection.specs.Kmers.{kmers}
use Rattle.index_stretches.specs.Index.{arranged, built, indexed, entry, entries, start, row_of}
use Rattle.index_stretches.specs.Stretches.{Kmer, numbered, Stretch, stretch, kmers_of, walk, stretches}
use Rattle.index_stretches.proofs.Even.{Even, stretches_even}
use Rattle.index_stretches.proofs.Walks.{walk-stretches}

-- ─── the stretches of a minimizer walk its k-mers ────────────────────────────

module _ {A : Type 0} (f : A → ℕ) (v : ℕ) where
  pick_all : (xs : List A) → All (λ x. f x ≡ v) xs → pick f v xs ≡ xs
  pick_all [] h = pick_nil f v
  pick_all (x ∷ xs) h = pick_here f v x xs h.0 ∙ ap (λ (l : List A). x ∷ l) (pick_all xs h.1)

  pick_none : (xs : List A) → All (λ x. f x ≡ v → ⊥) xs → pick f v xs ≡ []
  pick_none [] h = pick_nil f v
  pick_none (x ∷ xs) h = pick_other f v x xs h.0 ∙ pick_none xs h.1

numbered-all : (P : ℕ → Type 0) (h : ℕ) (xs : List ℕ) → All P xs → All (λ x. P x.at) (numbered h xs)
unfolding numbered
numbered-all P h [] p = tt
numbered-all P h (a ∷ xs) p = (p.0, numbered-all P (suc h) xs p.1)

module _ (q : ℕ → ℕ) (v : ℕ) where
  abbrev of_stretch : Stretch → ℕ
  of_stretch s = q s.at

  abbrev of_kmer : Kmer → ℕ
  of_kmer x = q x.at

  even_kmers : (s : Stretch) → Even q s → All (λ x. of_kmer x ≡ q s.at) (kmers_of s)
  even_kmers s u =
      numbered-all (λ a. q a ≡ q s.at) s.first (count_from s.at s.number)
      (all_count (λ a. q a ≡ q s.at) s.at s.number
      (λ j l h. let e : j ≡ s.at + (j - s.at) = omega arith in ap q e ∙ u (j - s.at) (omega arith)))

  -- the stretches of a minimizer walk its k-mers
  pub walk_pick : (ss : List Stretch) → All (Even q) ss → walk (pick (λ s. q s.at) v ss) ≡ pick (λ x. q x.at) v (walk ss)
  unfolding walk
  walk_pick [] u = ap walk (pick_nil of_stretch v) ∙ sym (pick_nil of_kmer v)
  walk_pick (s ∷ ss) u =
      ⊎_elim
      (λ (e : q s.at ≡ v).
      rw (
        pick_here of_stretch v s ss e,
        pick_append of_kmer v (kmers_of s) (walk ss),
        pick_all of_kmer v (kmers_of s) (all_map (λ x p. p ∙ e) (kmers_of s) (even_kmers s u.0)),
        walk_pick ss u.1,
      ))
      (λ (n : q s.at ≡ v → ⊥).
      rw (
        pick_other of_stretch v s ss n,
        pick_append of_kmer v (kmers_of s) (walk ss),
        pick_none of_kmer v (kmers_of s) (all_map (λ x p e. n (sym p ∙ e)) (kmers_of s) (even_kmers s u.0)),
      )
      (walk_pick ss u.1))
      (eq_or_ne (q s.at) v)

-- ─── the rows of a built index ───────────────────────────────────────────────

module _ (q : ℕ → ℕ) (d : ℕ) (ss : List Stretch) where
  entry_of_built : (i : ℕ) → entry (built q d ss) i ≡ get_or (arranged q d ss) i (stretch 0 0 0)
  unfolding built
  entry_of_built i =
      let none : Stretch = stretch 0 0 0 in
      let a = map_at (λ s. s.first) none (arranged q d ss) i in
      let b = map_at (λ s. s.at) none (arranged q d ss) i in
      let c = map_at (λ s. s.number) none (arranged q d ss) i in
      λ x. stretch (a x) (b x) (c x)

  entries_of_built : (i n : ℕ) → i + n ≤ length (arranged q d ss) → entries (built q d ss) i n ≡ take n (drop i (arranged q d ss))
  unfolding entries
  entries_of_built i zero h = refl
  entries_of_built i (suc n) h =
      rw (drop-cons (arranged q d ss) i (stretch 0 0 0) (omega arith))
      (ap₂ (λ (s : Stretch) (l : List Stretch). s ∷ l) (entry_of_built i) (entries_of_built (suc i) n (omega arith)))

  -- the stretches of lower minimizers stand before a row
  pub start_of_built : (v : ℕ) → v ≤ d → start (built q d ss) v ≡ length (arranged q v ss)
  unfolding built
  start_of_built v h =
      let e : 0 + v ≡ v = omega arith in
      values_at (λ i. length (arranged q i ss)) 0 0 (d + 1) v (omega arith) ∙ ap (λ (i : ℕ). length (arranged q i ss)) e

  -- the row of a minimizer holds its stretches, in the order of their handles
  pub row_of_built : (v : ℕ) → v < d → row_of (built q d ss) v ≡ pick (λ s. q s.at) v ss
  unfolding row_of
  row_of_built v h =
      let f : Stretch → ℕ = λ s. q s.at in
      let a = start_of_built v (omega arith) in
      let b = start_of_built (suc v) h in
      let n : start (built q d ss) (suc v) - start (built q d ss) v ≡ length (pick f v ss) = omega (arith, a, b, length-up_to-suc f v ss) in
      ap₂ (entries (built q d ss)) a n
      ∙ (entries_of_built (length (arranged q v ss)) (length (pick f v ss)) (length-up_to_mono f v d ss h) ∙ group_at f v d ss h)

-- the row of a minimizer walks exactly the k-mers of that minimizer, in the order of the handles
pub row_walks : (q : ℕ → ℕ) (d k : ℕ) (ends : List ℕ) (v : ℕ) → v < d
    → walk (row_of (indexed q d k ends) v) ≡ pick (λ x. q x.at) v (numbered 1 (kmers k ends))
row_walks q d k ends v h =
    ap walk (row_of_built q d (stretches q k ends) v h)
    ∙ (walk_pick q v (stretches q k ends) (stretches_even q k ends) ∙ ap (pick (λ x. q x.at) v) (walk-stretches q k ends))
