-- The refusals 2 to 6 of a collection and 9 of a question, in the words and the order of the table of refusals.
-- Specification: 8.1, 8.2, 8.3.
use Rattle.std.specs.Prelude.{Err, not, ◌&&◌, List, ◌≡◌, ℕ, ◌+◌, ◌-◌, ◌*◌, leb, eqb, length}
use Rattle.lists.specs.Choose.{choose}
use Rattle.lists.specs.Every.{every}
use Rattle.lists.specs.First.{first_that}
use Rattle.lists.specs.Limits.{most_letters, most_strings, least_k, most_k}
use Rattle.alphabet.specs.Letter.{is_letter}
use Rattle.collection_faults.specs.Faults.{first_short, last_end, is_weight}
use Rattle.collection.specs.Collection.{Spelling, Collection, spelling_of}
use Rattle.collection.specs.declared.refusal.Refusal.TheVariants.{Sizes, Limits, Ends, Letters, Weights, Question}
use Rattle.collection.specs.Verdict.{Verdict, good, and_then, at_place}

-- ─── 2 and 3 ─────────────────────────────────────────────────────────────────

-- 2: k is 3 to 31
unfoldable pub k_verdict : ℕ → Verdict
k_verdict k = choose (leb least_k k && leb k most_k) good (Err Sizes)

-- 3: N is at most 1,048,576, m at most 65,536
unfoldable pub size_verdict : ℕ → ℕ → Verdict
size_verdict N m = choose (leb N most_letters && leb m most_strings) good (Err Limits)

-- ─── 4 ───────────────────────────────────────────────────────────────────────

-- 4: a string shorter than k, at its number; else a last end that is not N, at m + 1
unfoldable pub ends_verdict : ℕ → ℕ → List ℕ → Verdict
ends_verdict k N ends = and_then (at_place Ends (first_short k 0 0 ends)) (choose (eqb (last_end 0 ends) N) good (Err (Ends (length ends + 1))))

-- 2, 3, 4: the strings have their places
unfoldable pub shape_verdict : Spelling → Verdict
shape_verdict t = and_then (k_verdict t.k) (and_then (size_verdict (length t.letters) (length t.ends)) (ends_verdict t.k (length t.letters) t.ends))

-- n = N - m(k-1): how many k-mers there are
abbrev pub kmer_count : ℕ → ℕ → ℕ → ℕ
kmer_count k N m = N - m * (k - 1)

abbrev pub kmers_in : Spelling → ℕ
kmers_in t = kmer_count t.k (length t.letters) (length t.ends)

-- ─── 5 and 6 ─────────────────────────────────────────────────────────────────

-- 5: the first byte that is no letter, from 1
unfoldable pub letters_verdict : List ℕ → Verdict
letters_verdict letters = at_place Letters (first_that (λ b. not (is_letter b)) letters)

-- 6: the number of weights is not n, at 0; else the first weight out of range, from 1
unfoldable pub weights_verdict : ℕ → List ℕ → Verdict
weights_verdict n weights = choose (eqb (length weights) n) (at_place Weights (first_that (λ w. not (is_weight w)) weights)) (Err (Weights 0))

-- 2 to 6
unfoldable pub collection_verdict : Collection → Verdict
collection_verdict c = and_then (shape_verdict (spelling_of c)) (and_then (letters_verdict c.letters) (weights_verdict (kmers_in (spelling_of c)) c.weights))

-- a collection passes 2 to 6
abbrev pub Passes : Collection → Type 0
Passes c = collection_verdict c ≡ good

-- ─── 9 ───────────────────────────────────────────────────────────────────────

-- 9: a handle is 1 to n
unfoldable pub handle_verdict : ℕ → ℕ → Verdict
handle_verdict n handle = choose (leb 1 handle && leb handle n) good (Err Question)

-- 9: an asked word is k letters
unfoldable pub word_verdict : ℕ → List ℕ → Verdict
word_verdict k word = choose (eqb (length word) k && every is_letter word) good (Err Question)
