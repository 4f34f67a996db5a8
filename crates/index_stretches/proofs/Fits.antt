-- Where the stretches of a collection lie; so the index of a collection whose shape passes fits, and no QUICK refuses it. Assumes nothing.
use mathlib.Core.Path.{◌≡◌, sym, ap, ◌∙◌}
use mathlib.Core.Bool.{Bool, true, false}
use mathlib.Core.List.{List, [], ◌∷◌, map}
use Prim.Native.Nat.{ℕ, zero, suc, ◌+◌, ◌<◌, ◌≤◌}
use native.Mathlib.Omega.{arith}
use borrow.Author.Tests.{eq-eqb, le-leb}
use lib.Dec.{eqb}
use lib.ListN.{length, length-map}
use Rattle.lists.specs.Choose.{choose}
use Rattle.lists.specs.Count.{count_from}
use Rattle.lists.specs.Every.{All, every}
use Rattle.lists.specs.Pick.{pick}
use Rattle.lists.specs.Limits.{most_letters}
use Rattle.lists.proofs.Count.{length_count}
use Rattle.lists.proofs.Every.{and_both, all_append, all_map, all-every}
use Rattle.lists.proofs.Picks.{all_pick, length-up_to-suc, length-up_to_le, length-up_to_mono}
use Rattle.collection_faults.specs.Faults.{first_short, last_end}
use Rattle.collection.specs.Collection.{Spelling}
use Rattle.collection.specs.Kmers.{within}
use Rattle.collection.proofs.Judged.{Shape, long_cons, ends_room}
use Rattle.collection.proofs.Kmers.{kmers-counted}
use Rattle.index_stretches.specs.Index.{Index, arranged, built, indexed, start, stretch_fits, row_fits, tables_fit}
use Rattle.index_stretches.specs.Stretches.{Stretch, stretch, open_from, of_string, stretches_from, stretches}
use Rattle.index_stretches.proofs.Even.{stretches_few}
use Rattle.index_stretches.proofs.Rows.{start_of_built, row_of_built}

-- ─── where stretches lie ─────────────────────────────────────────────────────

-- A stretch lies among N letters; as no string has more k-mers than letters, a handle does not pass its position by more than 1.
record Lies (k N : ℕ) (s : Stretch) : Type 0 where
  some : 1 ≤ s.number
  first_low : 1 ≤ s.first
  first_high : s.first ≤ s.at + 1
  inside : s.at + s.number + k ≤ N + 1

module _ (q : ℕ → ℕ) (k N : ℕ) where
  open_lies : (h a n left : ℕ) → 1 ≤ n → 1 ≤ h → h ≤ a + 1 → a + (n + left) + k ≤ N + 1 → All (Lies k N) (open_from q h a n left)
  unfolding open_from
  open_lies h a n zero n1 h1 ha r = (record { some = n1; first_low = h1; first_high = ha; inside = omega arith }, tt)
  open_lies h a n (suc left) n1 h1 ha r =
      go (open_lies h a (suc n) left (omega arith) h1 ha (omega arith))
      (open_lies (h + n) (a + n) 1 left (omega arith) (omega arith) (omega arith) (omega arith))
      (eqb (q (a + n)) (q a))
    where
      go : All (Lies k N) (open_from q h a (suc n) left) → All (Lies k N) (open_from q (h + n) (a + n) 1 left)
          → (t : Bool) → All (Lies k N) (choose t (open_from q h a (suc n) left) (stretch h a n ∷ open_from q (h + n) (a + n) 1 left))
      go more next true = more
      go more next false = (record { some = n1; first_low = h1; first_high = ha; inside = omega arith }, next)

  string_lies : (h a n : ℕ) → 1 ≤ h → h ≤ a + 1 → a + n + k ≤ N + 1 → All (Lies k N) (of_string q h a n)
  unfolding of_string
  string_lies h a zero h1 ha r = tt
  string_lies h a (suc n) h1 ha r = open_lies h a 1 n (omega arith) h1 ha (omega arith)

  lie_from : (i h before : ℕ) (ends : List ℕ) → 1 ≤ k → 1 ≤ h → h ≤ before + 1 → first_short k i before ends ≡ 0 → last_end before ends ≡ N
      → All (Lies k N) (stretches_from q k h before ends)
  unfolding stretches_from last_end
  lie_from i h before [] k1 h1 hb s l = tt
  lie_from i h before (e ∷ ends) k1 h1 hb s l =
      let n : ℕ = within k before e in
      let a = long_cons k i before e ends s in
      let r = ends_room k (suc i) e ends a.1 in
      all_append (Lies k N) (of_string q h before n) (stretches_from q k (h + n) e ends) (string_lies h before n h1 hb (omega arith))
      (lie_from (suc i) (h + n) e ends k1 (omega arith) (omega arith) a.1 l)

-- the first k-mer of each stretch lies among the letters
pub stretches_inside : (q : ℕ → ℕ) (k N : ℕ) (ends : List ℕ) → 1 ≤ k → first_short k 0 0 ends ≡ 0 → last_end 0 ends ≡ N
    → All (λ s. s.at + k ≤ N) (stretches q k ends)
stretches_inside q k N ends k1 long last =
    all_map (λ (s : Stretch) (l : Lies k N s). omega (arith, l.some, l.inside)) (stretches q k ends)
    (lie_from q k N 0 1 0 ends k1 (omega arith) (omega arith) long last)

lies_fits : (k N : ℕ) → 1 ≤ k → N ≤ most_letters → (s : Stretch) → Lies k N s → stretch_fits k N s ≡ true
unfolding stretch_fits
lies_fits k N k1 few s l =
    and_both (le-leb 1 s.first l.first_low)
    (and_both (le-leb 1 s.number l.some)
    (and_both (le-leb (s.first + s.number) (most_letters + 1) (omega (arith, l.first_high, l.inside))) (le-leb (s.at + s.number + k) (N + 1) l.inside)))

-- ─── the index fits ──────────────────────────────────────────────────────────

module _ (q : ℕ → ℕ) {t : Spelling} (s : Shape t) where
  -- each stretch fits
  pub stretches_fit : All (λ x. stretch_fits t.k (length t.letters) x ≡ true) (stretches q t.k t.ends)
  stretches_fit =
      all_map (lies_fits t.k (length t.letters) (omega (arith, s.k_low)) s.letters_high) (stretches q t.k t.ends)
      (lie_from q t.k (length t.letters) 0 1 0 t.ends (omega (arith, s.k_low)) (omega arith) (omega arith) s.long s.last)

module _ (q : ℕ → ℕ) (d : ℕ) {t : Spelling} (s : Shape t) where
  abbrev ss : List Stretch
  ss = stretches q t.k t.ends

  abbrev key : Stretch → ℕ
  key x = q x.at

  -- the tables fit one another
  pub tables_fit_lem : tables_fit d (indexed q d t.k t.ends) ≡ true
  unfolding tables_fit built
  tables_fit_lem =
      let all : List Stretch = arranged q d ss in
      let n = length-map all (λ x. x.first) in
      and_both (eq-eqb (length (map (λ i. length (arranged q i ss)) (count_from 0 (d + 1)))) (d + 1)
      (length-map (count_from 0 (d + 1)) (λ i. length (arranged q i ss)) ∙ length_count 0 (d + 1)))
      (and_both (eq-eqb (length (map (λ x. x.at) all)) (length (map (λ x. x.first) all)) (length-map all (λ x. x.at) ∙ sym n))
      (and_both (eq-eqb (length (map (λ x. x.number) all)) (length (map (λ x. x.first) all)) (length-map all (λ x. x.number) ∙ sym n))
      (le-leb (length (map (λ x. x.first) all)) most_letters
      (omega (arith, n, length-up_to_le key d ss, stretches_few q t.k t.ends, kmers-counted s, s.letters_high)))))

  length_firsts : length (indexed q d t.k t.ends).firsts ≡ length (arranged q d ss)
  unfolding built
  length_firsts = length-map (arranged q d ss) (λ x. x.first)

  -- and the row of each minimizer fits
  pub row_fits_lem : (v : ℕ) → v < d → row_fits t.k (length t.letters) (indexed q d t.k t.ends) v ≡ true
  unfolding row_fits
  row_fits_lem v h =
      let index : Index = indexed q d t.k t.ends in
      let a = start_of_built q d ss v (omega arith) in
      let b = start_of_built q d ss (suc v) h in
      let n = length-up_to-suc key v ss in
      let m = length-up_to_mono key v d ss h in
      and_both (le-leb (start index v) (start index (suc v)) (omega (arith, a, b, n)))
      (and_both (le-leb (start index (suc v)) (length index.firsts) (omega (arith, b, n, m, length_firsts)))
      (ap (every (stretch_fits t.k (length t.letters))) (row_of_built q d ss v h)
      ∙ all-every (stretch_fits t.k (length t.letters)) (pick key v ss)
      (all_pick key (λ x. stretch_fits t.k (length t.letters) x ≡ true) v ss (stretches_fit q s))))
