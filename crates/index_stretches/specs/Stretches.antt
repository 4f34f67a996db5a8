-- Stretches: maximal rows of k-mers in one string with equal minimizers. `q a` is the minimizer of the k-mer at position a; nothing here asks how it is chosen.
-- Specification: 6.2.
use Rattle.std.specs.Prelude.{List, [], ◌∷◌, ◌++◌, ℕ, zero, suc, ◌+◌, eqb}
use Rattle.lists.specs.Choose.{choose}
use Rattle.lists.specs.Count.{count_from}
use Rattle.collection.specs.Kmers.{within}

-- ─── k-mers and stretches ────────────────────────────────────────────────────

-- a k-mer: its handle, and the position (from 0) of its first letter
pub record Kmer : Type 0 where
  pub handle : ℕ
  pub at : ℕ

-- the k-mers at these positions, the first of which has the handle h
unfoldable pub numbered : ℕ → List ℕ → List Kmer
numbered h [] = []
numbered h (a ∷ positions) = record { handle = h; at = a } ∷ numbered (suc h) positions

-- a stretch: its first handle, the position of its first letter, and its number of k-mers
pub record Stretch : Type 0 where
  pub first : ℕ
  pub at : ℕ
  pub number : ℕ

abbrev pub stretch : ℕ → ℕ → ℕ → Stretch
stretch h a n = record { first = h; at = a; number = n }

-- the k-mers of a stretch
abbrev pub kmers_of : Stretch → List Kmer
kmers_of s = numbered s.first (count_from s.at s.number)

-- the k-mers of stretches, one stretch after the other: what a walk meets
unfoldable pub walk : List Stretch → List Kmer
walk [] = []
walk (s ∷ ss) = kmers_of s ++ walk ss

-- ─── the stretches of a collection ───────────────────────────────────────────

-- The stretch that starts with handle h at position a has n k-mers so far, and `left` k-mers of the string are still to come: the next one belongs to it, or
-- starts a stretch of its own.
unfoldable pub open_from : (ℕ → ℕ) → ℕ → ℕ → ℕ → ℕ → List Stretch
open_from q h a n zero = stretch h a n ∷ []
open_from q h a n (suc left) = choose (eqb (q (a + n)) (q a)) (open_from q h a (suc n) left) (stretch h a n ∷ open_from q (h + n) (a + n) 1 left)

-- The stretches of a string of n k-mers, the first of which has handle h and stands at position a. Each is of one minimizer (`stretches_even`), and none can go
-- on (`string_maximal`).
unfoldable pub of_string : (ℕ → ℕ) → ℕ → ℕ → ℕ → List Stretch
of_string q h a zero = []
of_string q h a (suc n) = open_from q h a 1 n

-- the stretches of the strings with these ends, the first of which starts at `before` with handle h
unfoldable pub stretches_from : (ℕ → ℕ) → ℕ → ℕ → ℕ → List ℕ → List Stretch
stretches_from q k h before [] = []
stretches_from q k h before (e ∷ ends) = of_string q h before (within k before e) ++ stretches_from q k (h + within k before e) e ends

-- the stretches of a collection, in the order of their handles
abbrev pub stretches : (ℕ → ℕ) → ℕ → List ℕ → List Stretch
stretches q k ends = stretches_from q k 1 0 ends
