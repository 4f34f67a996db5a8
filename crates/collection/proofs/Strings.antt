-- Tables and strings are two forms of one collection, each made of the other: laws by induction over the strings. Assumes nothing.
use mathlib.Core.Path.{◌≡◌, refl, sym, ap, ◌∙◌}
use mathlib.Core.Bool.{true}
use mathlib.Core.List.{List, [], ◌∷◌, ◌++◌}
use Prim.Native.Nat.{ℕ, zero, suc, ◌+◌, ◌-◌, ◌*◌, ◌≤◌}
use native.Mathlib.Nat.{zero-mul, suc-mul}
use native.Mathlib.Omega.{arith}
use borrow.Author.Tests.{le-ltb, eq-eqb}
use lib.ListN.{length, take, drop, length-append, length-drop, take-append-drop}
use lib.Seq.{take_at, drop_at, length-take-le}
use Rattle.lists.specs.Choose.{choose}
use Rattle.lists.specs.Every.{All}
use Rattle.lists.proofs.Every.{all_append, all_take, all_drop}
use Rattle.alphabet.specs.Letter.{is_letter}
use Rattle.collection.specs.Collection.{Collection, spelling_of}
use Rattle.std.specs.Prelude.{Err}
use Rattle.collection.specs.declared.refusal.Refusal.TheVariants.{Ends, Letters, Weights}
use Rattle.collection.specs.Verdict.{good}
use Rattle.collection.specs.Judge.{k_verdict, size_verdict, ends_verdict, shape_verdict, kmers_in, letters_verdict, weights_verdict, collection_verdict, Passes}
use Rattle.collection_faults.specs.Faults.{first_short, last_end, is_weight}
use Rattle.collection.specs.Kmers.{within}
use Rattle.collection.specs.Strings.{Str, strings_from, strings, letters_in, weights_in, ends_in, joined}
use Rattle.collection.proofs.Judged.{k_good, long_cons, ends_room, Shape}
use Rattle.collection_faults.proofs.Finding.{every_first}
use Rattle.collection.proofs.Verdicts.{then_good, place_none}

-- a string of at least k letters, with a weight for each of its k-mers
pub record Whole (k : ℕ) (s : Str) : Type 0 where
  pub long : k ≤ length s.letters
  pub counted : length s.weights ≡ length s.letters + 1 - k

-- ─── the tables of strings, cut, are the strings ─────────────────────────────

cut_first : (k before : ℕ) (s : Str) (letters ends weights : List ℕ) → Whole k s
    → strings_from k before (s.letters ++ letters) ((before + length s.letters) ∷ ends) (s.weights ++ weights) ≡ s
    ∷ strings_from k (before + length s.letters) letters ends weights
unfolding strings_from
cut_first k before s letters ends weights h =
    let n : length s.letters ≡ before + length s.letters - before = omega arith in
    let w : length s.weights ≡ within k before (before + length s.letters) = omega (arith, h.counted) in
    let a = take_at s.letters letters _ n in
    let b = drop_at s.letters letters _ n in
    let c = take_at s.weights weights _ w in
    let d = drop_at s.weights weights _ w in
    λ i. record { letters = a i; weights = c i } ∷ strings_from k (before + length s.letters) (b i) ends (d i)

strings-back_from : (k before : ℕ) (ss : List Str) → All (Whole k) ss → strings_from k before (letters_in ss) (ends_in before ss) (weights_in ss) ≡ ss
unfolding strings_from letters_in ends_in weights_in
strings-back_from k before [] h = refl
strings-back_from k before (s ∷ ss) h =
    cut_first k before s (letters_in ss) (ends_in (before + length s.letters) ss) (weights_in ss) h.0
    ∙ ap (λ (r : List Str). s ∷ r) (strings-back_from k (before + length s.letters) ss h.1)

-- the strings of the tables of strings are those strings
pub strings-back : (k : ℕ) (ss : List Str) → All (Whole k) ss → strings (joined k ss) ≡ ss
strings-back k ss h = strings-back_from k 0 ss h

-- ─── the shape of the tables of strings ──────────────────────────────────────

-- no string is short
pub ends_long : (k i before : ℕ) (ss : List Str) → All (Whole k) ss → first_short k i before (ends_in before ss) ≡ 0
unfolding first_short ends_in
ends_long k i before [] h = refl
ends_long k i before (s ∷ ss) h =
    let l = h.0.long in
    rw (le-ltb (before + length s.letters) (before + k) (omega arith)) (ends_long k (suc i) (before + length s.letters) ss h.1)

-- the last end is the number of letters
pub ends_last : (before : ℕ) (ss : List Str) → last_end before (ends_in before ss) ≡ before + length (letters_in ss)
unfolding last_end ends_in letters_in
ends_last before [] = omega arith
ends_last before (s ∷ ss) = ends_last (before + length s.letters) ss ∙ omega (arith, length-append s.letters (letters_in ss))

-- as many ends as strings
pub ends-length : (before : ℕ) (ss : List Str) → length (ends_in before ss) ≡ length ss
unfolding ends_in
ends-length before [] = refl
ends-length before (s ∷ ss) = ap suc (ends-length (before + length s.letters) ss)

-- each string has k - 1 letters more than weights
weights-length : (k : ℕ) (ss : List Str) → 1 ≤ k → All (Whole k) ss → length (weights_in ss) + length ss * (k - 1) ≡ length (letters_in ss)
unfolding weights_in letters_in
weights-length k [] l h = omega (arith, zero-mul (k - 1))
weights-length k (s ∷ ss) l h =
    omega (
      arith,
      weights-length k ss l h.1,
      h.0.long,
      h.0.counted,
      suc-mul (length ss) (k - 1),
      length-append s.weights (weights_in ss),
      length-append s.letters (letters_in ss),
    )

-- as many weights as k-mers
pub weights-counted : (k : ℕ) (ss : List Str) → 1 ≤ k → All (Whole k) ss → length (weights_in ss) ≡ kmers_in (spelling_of (joined k ss))
weights-counted k ss l h = omega (arith, weights-length k ss l h, ap (λ (m : ℕ). m * (k - 1)) (ends-length 0 ss))

count_from_lem : (k before : ℕ) (letters ends weights : List ℕ) → length (strings_from k before letters ends weights) ≡ length ends
unfolding strings_from
count_from_lem k before letters [] weights = refl
count_from_lem k before letters (e ∷ ends) weights = ap suc (count_from_lem k e (drop (e - before) letters) ends (drop (within k before e) weights))

-- as many strings as ends
pub strings_count : (c : Collection) → length (strings c) ≡ length c.ends
strings_count c = count_from_lem c.k 0 c.letters c.ends c.weights

-- ─── what holds of each letter and weight ────────────────────────────────────

pub all-letters_in : (P : ℕ → Type 0) (ss : List Str) → All (λ s. All P s.letters) ss → All P (letters_in ss)
unfolding letters_in
all-letters_in P [] h = tt
all-letters_in P (s ∷ ss) h = all_append P s.letters (letters_in ss) h.0 (all-letters_in P ss h.1)

pub all-weights_in : (P : ℕ → Type 0) (ss : List Str) → All (λ s. All P s.weights) ss → All P (weights_in ss)
unfolding weights_in
all-weights_in P [] h = tt
all-weights_in P (s ∷ ss) h = all_append P s.weights (weights_in ss) h.0 (all-weights_in P ss h.1)

pub each_letters : (P : ℕ → Type 0) (k before : ℕ) (letters ends weights : List ℕ) → All P letters
    → All (λ s. All P s.letters) (strings_from k before letters ends weights)
unfolding strings_from
each_letters P k before letters [] weights h = tt
each_letters P k before letters (e ∷ ends) weights h = (
  all_take P (e - before) letters h,
  each_letters P k e (drop (e - before) letters) ends (drop (within k before e) weights) (all_drop P (e - before) letters h),
)

pub each_weights : (P : ℕ → Type 0) (k before : ℕ) (letters ends weights : List ℕ) → All P weights
    → All (λ s. All P s.weights) (strings_from k before letters ends weights)
unfolding strings_from
each_weights P k before letters [] weights h = tt
each_weights P k before letters (e ∷ ends) weights h = (
  all_take P (within k before e) weights h,
  each_weights P k e (drop (e - before) letters) ends (drop (within k before e) weights) (all_drop P (within k before e) weights h),
)

-- the tables of strings pass 2 to 6
pub tables_pass : (k : ℕ) (ss : List Str) → k_verdict k ≡ good → size_verdict (length (letters_in ss)) (length ss) ≡ good
    → All (Whole k) ss → All (λ s. All (λ b. is_letter b ≡ true) s.letters) ss → All (λ s. All (λ w. is_weight w ≡ true) s.weights) ss
    → Passes (joined k ss)
unfolding collection_verdict shape_verdict ends_verdict letters_verdict weights_verdict
tables_pass k ss range size whole letters weights =
    let last : last_end 0 (ends_in 0 ss) ≡ length (letters_in ss) = ends_last 0 ss ∙ omega arith in
    let low = k_good k range in
    then_good _
    (then_good _ range
    (then_good _ (ap (size_verdict (length (letters_in ss))) (ends-length 0 ss) ∙ size)
    (then_good _ (sym (place_none Ends (ends_long k 0 0 ss whole)))
    (ap (λ t. choose t good (Err (Ends (length (ends_in 0 ss) + 1)))) (eq-eqb _ _ last)))))
    (then_good _ (sym (place_none Letters (every_first is_letter (letters_in ss) (all-letters_in _ ss letters))))
    (rw (eq-eqb _ _ (weights-counted k ss (omega arith) whole))
    (sym (place_none Weights (every_first is_weight (weights_in ss) (all-weights_in _ ss weights))))))

-- ─── tables, cut, are the tables of their strings ────────────────────────────

-- what is left of tables in good shape, where the last string before them is string i and ends at `before`
record Left (k i before : ℕ) (letters ends weights : List ℕ) : Type 0 where
  k_low : 1 ≤ k
  long : first_short k i before ends ≡ 0
  last : last_end before ends ≡ before + length letters
  counted : length weights + length ends * (k - 1) ≡ length letters

-- the first string cut from them, and the rest
record First (k i before e : ℕ) (letters ends weights : List ℕ) : Type 0 where
  above : before + k ≤ e
  fits : e - before ≤ length letters
  enough : within k before e ≤ length weights
  left : Left k (suc i) e (drop (e - before) letters) ends (drop (within k before e) weights)

mul_up : (m k : ℕ) → 1 ≤ k → m * k ≡ m * (k - 1) + m
mul_up zero k h = omega (arith, zero-mul k, zero-mul (k - 1))
mul_up (suc m) k h = omega (arith, suc-mul m k, suc-mul m (k - 1), mul_up m k h)

first_cut : (k i before e : ℕ) (letters ends weights : List ℕ) → Left k i before letters (e ∷ ends) weights → First k i before e letters ends weights
unfolding last_end
first_cut k i before e letters ends weights h =
    let a = long_cons k i before e ends h.long in
    let b = ends_room k (suc i) e ends a.1 in
    let m = mul_up (length ends) k h.k_low in
    let s : suc (length ends) * (k - 1) ≡ length ends * (k - 1) + (k - 1) = suc-mul (length ends) (k - 1) in
    let t : last_end e ends ≡ before + length letters = h.last in
    let w : length weights + suc (length ends) * (k - 1) ≡ length letters = h.counted in
    let low = h.k_low in
    let above = a.0 in
    record {
      above = above;
      fits = omega arith;
      enough = omega arith;
      left = record { k_low = low; long = a.1; last = simp length-drop (omega arith); counted = simp length-drop (omega arith) };
    }

-- the tables of the strings that were cut
record Same (k before : ℕ) (letters ends weights : List ℕ) (ss : List Str) : Type 0 where
  same_letters : letters_in ss ≡ letters
  same_ends : ends_in before ss ≡ ends
  same_weights : weights_in ss ≡ weights
  whole : All (Whole k) ss

none : (xs : List ℕ) → length xs ≡ 0 → [] ≡ xs
none [] h = refl
none (x ∷ xs) h = absurd (omega arith)

same_next : (k i before e : ℕ) (letters ends weights : List ℕ) (ss : List Str) → First k i before e letters ends weights
    → Same k e (drop (e - before) letters) ends (drop (within k before e) weights) ss
    → Same k before letters (e ∷ ends) weights (record { letters = take (e - before) letters; weights = take (within k before e) weights } ∷ ss)
unfolding letters_in ends_in weights_in
same_next k i before e letters ends weights ss f s =
    let above = f.above in
    let n : length (take (e - before) letters) ≡ e - before = length-take-le (e - before) letters f.fits in
    let m : length (take (within k before e) weights) ≡ within k before e = length-take-le (within k before e) weights f.enough in
    let x : before + length (take (e - before) letters) ≡ e = omega arith in
    record {
      same_letters = ap (λ (r : List ℕ). take (e - before) letters ++ r) s.same_letters ∙ take-append-drop (e - before) letters;
      same_ends = (λ i. x i ∷ ends_in (x i) ss) ∙ ap (λ (r : List ℕ). e ∷ r) s.same_ends;
      same_weights = ap (λ (r : List ℕ). take (within k before e) weights ++ r) s.same_weights ∙ take-append-drop (within k before e) weights;
      whole = (record { long = omega arith; counted = omega arith }, s.whole);
    }

cut_same : (k i before : ℕ) (letters ends weights : List ℕ) → Left k i before letters ends weights
    → Same k before letters ends weights (strings_from k before letters ends weights)
unfolding strings_from letters_in ends_in weights_in last_end
cut_same k i before letters [] weights h =
    let a : before ≡ before + length letters = h.last in
    let b : length weights + 0 * (k - 1) ≡ length letters = h.counted in
    let z = zero-mul (k - 1) in
    record { same_letters = none letters (omega arith); same_ends = refl; same_weights = none weights (omega arith); whole = tt }
cut_same k i before letters (e ∷ ends) weights h =
    let f = first_cut k i before e letters ends weights h in
    same_next k i before e letters ends weights _ f (cut_same k (suc i) e (drop (e - before) letters) ends (drop (within k before e) weights) f.left)

module _ (c : Collection) (s : Shape (spelling_of c)) (n : length c.weights ≡ kmers_in (spelling_of c)) where
  cut : Same c.k 0 c.letters c.ends c.weights (strings c)
  cut =
      let low = s.k_low in
      let last = s.last in
      cut_same c.k 0 0 c.letters c.ends c.weights
      (record {
        k_low = omega arith;
        long = s.long;
        last = omega arith;
        counted = omega (arith, ends_room c.k 0 0 c.ends s.long, mul_up (length c.ends) c.k (omega arith));
      })

  -- the collection of the strings of a collection is that collection
  pub strings-joined : joined c.k (strings c) ≡ c
  strings-joined = λ i. record { k = c.k; letters = cut.same_letters i; ends = cut.same_ends i; weights = cut.same_weights i }

  -- each string has its letters and its weights
  pub strings_whole : All (Whole c.k) (strings c)
  strings_whole = cut.whole
