-- The stretches of a collection hold its k-mers: each stands in exactly one stretch, in the order of the handles. By induction on the k-mers still to come,
-- then on the strings. Assumes nothing.
use mathlib.Core.Path.{◌≡◌, refl, sym, ap, ap₂, ◌∙◌}
use mathlib.Core.Bool.{Bool, true, false}
use mathlib.Core.List.{List, [], ◌∷◌, ◌++◌, append_assoc, append-nil}
use Prim.Native.Nat.{ℕ, zero, suc, ◌+◌}
use native.Mathlib.Omega.{arith}
use lib.Dec.{eqb}
use lib.ListN.{length}
use Rattle.lists.specs.Choose.{choose}
use Rattle.lists.specs.Count.{count_from}
use Rattle.lists.proofs.Count.{count_append, length_count}
use Rattle.collection.specs.Kmers.{within, kmers_from, kmers}
use Rattle.index_stretches.specs.Stretches.{Kmer, numbered, Stretch, stretch, kmers_of, walk, open_from, of_string, stretches_from, stretches}

-- ─── numbered k-mers ─────────────────────────────────────────────────────────

numbered-append : (h : ℕ) (xs ys : List ℕ) → numbered h (xs ++ ys) ≡ numbered h xs ++ numbered (h + length xs) ys
unfolding numbered
numbered-append h [] ys = let e : h ≡ h + 0 = omega arith in ap (λ (n : ℕ). numbered n ys) e
numbered-append h (a ∷ xs) ys =
    let e : suc h + length xs ≡ h + suc (length xs) = omega arith in
    ap (λ (l : List Kmer). record { handle = h; at = a } ∷ l) (numbered-append (suc h) xs ys ∙ ap (λ (n : ℕ). numbered (suc h) xs ++ numbered n ys) e)

-- a k-mer for each position
pub length-numbered : (h : ℕ) (xs : List ℕ) → length (numbered h xs) ≡ length xs
unfolding numbered
length-numbered h [] = refl
length-numbered h (a ∷ xs) = ap suc (length-numbered (suc h) xs)

-- a stretch has as many k-mers as it says
pub length-stretch : (s : Stretch) → length (kmers_of s) ≡ s.number
length-stretch s = length-numbered s.first (count_from s.at s.number) ∙ length_count s.at s.number

-- a stretch cut in two
kmers_cut : (h a n m : ℕ) → kmers_of (stretch h a (n + m)) ≡ kmers_of (stretch h a n) ++ kmers_of (stretch (h + n) (a + n) m)
kmers_cut h a n m =
    ap (numbered h) (count_append a n m)
    ∙ (numbered-append h (count_from a n) (count_from (a + n) m)
    ∙ ap (λ (i : ℕ). numbered h (count_from a n) ++ numbered (h + i) (count_from (a + n) m)) (length_count a n))

-- ─── walks ───────────────────────────────────────────────────────────────────

-- a walk goes through the first stretches, then through the others
pub walk-append : (r s : List Stretch) → walk (r ++ s) ≡ walk r ++ walk s
unfolding walk
walk-append [] s = refl
walk-append (x ∷ r) s = ap (λ (l : List Kmer). kmers_of x ++ l) (walk-append r s) ∙ sym (append_assoc (kmers_of x) (walk r) (walk s))

walk_open : (q : ℕ → ℕ) (h a n left : ℕ) → walk (open_from q h a n left) ≡ kmers_of (stretch h a (n + left))
unfolding walk open_from
walk_open q h a n zero = let e : n ≡ n + 0 = omega arith in append-nil (kmers_of (stretch h a n)) ∙ ap (λ (m : ℕ). kmers_of (stretch h a m)) e
walk_open q h a n (suc left) = go (walk_open q h a (suc n) left) (walk_open q (h + n) (a + n) 1 left) (eqb (q (a + n)) (q a))
  where
    go : walk (open_from q h a (suc n) left) ≡ kmers_of (stretch h a (suc n + left))
        → walk (open_from q (h + n) (a + n) 1 left) ≡ kmers_of (stretch (h + n) (a + n) (1 + left))
        → (t : Bool) → walk (choose t (open_from q h a (suc n) left) (stretch h a n ∷ open_from q (h + n) (a + n) 1 left)) ≡ kmers_of
        (stretch h a (n + suc left))
    go more next true = let e : suc n + left ≡ n + suc left = omega arith in more ∙ ap (λ (m : ℕ). kmers_of (stretch h a m)) e
    go more next false =
        let e : n + (1 + left) ≡ n + suc left = omega arith in
        ap (λ (l : List Kmer). kmers_of (stretch h a n) ++ l) next ∙ (sym (kmers_cut h a n (1 + left)) ∙ ap (λ (m : ℕ). kmers_of (stretch h a m)) e)

-- the stretches of a string hold its k-mers
pub walk-string : (q : ℕ → ℕ) (h a n : ℕ) → walk (of_string q h a n) ≡ numbered h (count_from a n)
unfolding walk of_string numbered count_from
walk-string q h a zero = refl
walk-string q h a (suc n) = let e : 1 + n ≡ suc n = omega arith in walk_open q h a 1 n ∙ ap (λ (m : ℕ). numbered h (count_from a m)) e

walk_from : (q : ℕ → ℕ) (k h before : ℕ) (ends : List ℕ) → walk (stretches_from q k h before ends) ≡ numbered h (kmers_from k before ends)
unfolding walk stretches_from kmers_from numbered
walk_from q k h before [] = refl
walk_from q k h before (e ∷ ends) =
    let n : ℕ = within k before e in
    walk-append (of_string q h before n) (stretches_from q k (h + n) e ends)
    ∙ (ap₂ (λ (l m : List Kmer). l ++ m) (walk-string q h before n) (walk_from q k (h + n) e ends)
    ∙ (ap (λ (i : ℕ). numbered h (count_from before n) ++ numbered (h + i) (kmers_from k e ends)) (sym (length_count before n))
    ∙ sym (numbered-append h (count_from before n) (kmers_from k e ends))))

-- the stretches of a collection hold each of its k-mers once, in the order of the handles
pub walk-stretches : (q : ℕ → ℕ) (k : ℕ) (ends : List ℕ) → walk (stretches q k ends) ≡ numbered 1 (kmers k ends)
walk-stretches q k ends = walk_from q k 1 0 ends
