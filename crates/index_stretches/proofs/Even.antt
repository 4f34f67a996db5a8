-- The k-mers of a stretch have one minimizer, and each stretch has a k-mer; so there are no more stretches than k-mers. By induction on the k-mers still to
-- come, then on the strings. Assumes nothing.
use mathlib.Core.Path.{◌≡◌, refl, ap, ◌∙◌}
use mathlib.Core.Bool.{Bool, true, false}
use mathlib.Core.List.{List, [], ◌∷◌}
use Prim.Native.Nat.{ℕ, zero, suc, ◌+◌, ◌<◌, ◌≤◌}
use native.Mathlib.Decide.{ℕ_discrete}
use native.Mathlib.Omega.{arith}
use borrow.Author.Tests.{eqb-true}
use lib.Dec.{eqb}
use lib.ListN.{length, length-append}
use Rattle.lists.specs.Choose.{choose}
use Rattle.lists.specs.Every.{All}
use Rattle.lists.proofs.Every.{all_append, all_map}
use Rattle.collection.specs.Kmers.{within, kmers}
use Rattle.index_stretches.specs.Stretches.{Stretch, stretch, kmers_of, walk, open_from, of_string, stretches_from, stretches}
use Rattle.index_stretches.proofs.Walks.{length-numbered, length-stretch, walk-string, walk-stretches}

-- each k-mer of a stretch has the minimizer of its first
abbrev pub Even : (ℕ → ℕ) → Stretch → Type 0
Even q s = (i : ℕ) → i < s.number → q (s.at + i) ≡ q s.at

-- at least one k-mer, and all of them of one minimizer
record Row (q : ℕ → ℕ) (s : Stretch) : Type 0 where
  some : 1 ≤ s.number
  even : Even q s

one_row : (q : ℕ → ℕ) (h a : ℕ) → Row q (stretch h a 1)
one_row q h a = record { some = omega arith; even = λ i l. ap q (omega arith) }

more_row : (q : ℕ → ℕ) (h a n : ℕ) → Row q (stretch h a n) → q (a + n) ≡ q a → Row q (stretch h a (suc n))
more_row q h a n r e = record { some = omega arith; even = λ i l. go i l (ℕ_discrete i n) }
  where
    go : (i : ℕ) → i < suc n → Dec (i ≡ n) → q (a + i) ≡ q a
    go i l (yes d) = ap (λ (j : ℕ). q (a + j)) d ∙ e
    go i l (no d) = r.even i (omega arith)

open_rows : (q : ℕ → ℕ) (h a n left : ℕ) → Row q (stretch h a n) → All (Row q) (open_from q h a n left)
unfolding open_from
open_rows q h a n zero r = (r, tt)
open_rows q h a n (suc left) r =
    go (λ e. open_rows q h a (suc n) left (more_row q h a n r e)) (open_rows q (h + n) (a + n) 1 left (one_row q (h + n) (a + n))) (eqb (q (a + n)) (q a)) refl
  where
    go : (q (a + n) ≡ q a → All (Row q) (open_from q h a (suc n) left)) → All (Row q) (open_from q (h + n) (a + n) 1 left)
        → (t : Bool) → eqb (q (a + n)) (q a) ≡ t → All (Row q) (choose t (open_from q h a (suc n) left) (stretch h a n ∷ open_from q (h + n) (a + n) 1 left))
    go more next true e = more (eqb-true (q (a + n)) (q a) e)
    go more next false e = (r, next)

string_rows : (q : ℕ → ℕ) (h a n : ℕ) → All (Row q) (of_string q h a n)
unfolding of_string
string_rows q h a zero = tt
string_rows q h a (suc n) = open_rows q h a 1 n (one_row q h a)

rows_from : (q : ℕ → ℕ) (k h before : ℕ) (ends : List ℕ) → All (Row q) (stretches_from q k h before ends)
unfolding stretches_from
rows_from q k h before [] = tt
rows_from q k h before (e ∷ ends) =
    let n : ℕ = within k before e in
    all_append (Row q) (of_string q h before n) (stretches_from q k (h + n) e ends) (string_rows q h before n) (rows_from q k (h + n) e ends)

-- the k-mers of each stretch of a collection have one minimizer
pub stretches_even : (q : ℕ → ℕ) (k : ℕ) (ends : List ℕ) → All (Even q) (stretches q k ends)
stretches_even q k ends = all_map (λ s r. r.even) (stretches q k ends) (rows_from q k 1 0 ends)

-- ─── no more stretches than k-mers ───────────────────────────────────────────

rows_few : (q : ℕ → ℕ) (ss : List Stretch) → All (Row q) ss → length ss ≤ length (walk ss)
unfolding walk
rows_few q [] h = omega arith
rows_few q (s ∷ ss) h = omega (arith, length-append (kmers_of s) (walk ss), length-stretch s, h.0.some, rows_few q ss h.1)

-- of a string
pub string_few : (q : ℕ → ℕ) (h a n : ℕ) → length (of_string q h a n) ≤ n
string_few q h a n = omega (arith, rows_few q (of_string q h a n) (string_rows q h a n), ap length (walk-string q h a n), length-stretch (stretch h a n))

-- of a collection
pub stretches_few : (q : ℕ → ℕ) (k : ℕ) (ends : List ℕ) → length (stretches q k ends) ≤ length (kmers k ends)
stretches_few q k ends =
    omega (arith, rows_few q (stretches q k ends) (rows_from q k 1 0 ends), ap length (walk-stretches q k ends), length-numbered 1 (kmers k ends))
