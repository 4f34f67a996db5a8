-- The order of the k-mers, from what its steps leave: the halves of the codes, then the sieve, then the sort by code. Assumes nothing.
use mathlib.Core.Path.{◌≡◌, sym, ap, ◌∙◌}
use mathlib.Core.Logic.{⊎_elim}
use mathlib.Core.List.{List, ◌++◌}
use Prim.Native.Nat.{ℕ, ◌+◌, ◌/◌, ◌%◌, ◌^◌, ◌<◌, ◌≤◌}
use native.Mathlib.Omega.{arith}
use lib.ListN.{length, get_or, length-append, length-map}
use Rattle.std.proofs.lemmas.List.{get_or-append_right}
use Rattle.lists.specs.Limits.{most_letters}
use Rattle.lists.specs.Pick.{sort_by}
use Rattle.lists.specs.Regions.{Only}
use Rattle.lists.proofs.Mapped.{map_at_below}
use Rattle.words.specs.Word.{word_at}
use Rattle.collection.specs.Collection.{Spelling}
use Rattle.collection.specs.Kmers.{kmers}
use Rattle.collection.proofs.Kmers.{kmers-length}
use Rattle.collection.specs.Ready.{Ready}
use Rattle.sorting.specs.Keys.{key_at, code_at}
use Rattle.sorting.proofs.Laws.{sorted_all, sorted_at, sorted_rise, sorted_place, sorted_length}
use Rattle.repeats_canonical.specs.Codes.{canonical, codes, Halved}
use Rattle.repeats_sieving.specs.Kept.{Stands, Sieved}
use Rattle.repeats.specs.Order.{Ordered}

-- few k-mers: no more than letters
pub few_kmers : {t : Spelling} → Ready t → length (kmers t.k t.ends) ≤ most_letters
few_kmers {t} r =
    omega (arith, kmers-length t.k 0 0 t.ends r.ends_long.k_low r.ends_long.long, r.ends_last, r.few_letters)

-- two tables of halves hold the code of each number
code_held : {numbers hi lo : List ℕ} → Halved numbers hi lo → (x : ℕ) → x < length numbers → code_at hi lo x ≡ get_or numbers x 0
code_held {numbers} {hi} {lo} h x l =
    let u : key_at hi x ≡ get_or numbers x 0 / 2 ^ 32 = ap (λ (t : List ℕ). get_or t x 0) h.upper ∙ map_at_below (λ c. c / 2 ^ 32) 0 0 numbers x l in
    let v : key_at lo x ≡ get_or numbers x 0 % 2 ^ 32 = ap (λ (t : List ℕ). get_or t x 0) h.lower ∙ map_at_below (λ c. c % 2 ^ 32) 0 0 numbers x l in
    omega arith

-- the k-mers xs that a sieve leaves, and the same k-mers ys after the sort
module _ (k : ℕ) (letters positions hi lo xs ys : List ℕ) (c : Halved (codes k letters positions) hi lo)
    (l : Sieved (code_at hi lo) (length hi) xs)
    (o : ys ≡ sort_by (code_at hi lo) xs)
  where
    all : length hi ≡ length positions
    all = ap length c.upper ∙ simp length-map

    held : (x : ℕ) → x < length positions → code_at hi lo x ≡ canonical (word_at k letters (get_or positions x 0))
    held x h =
        code_held c x (simp length-map h) ∙ map_at_below (λ a. canonical (word_at k letters a)) 0 0 positions x h

    -- what the sieve left has a place in the order
    place : (x : ℕ) → Stands x xs → Stands x ys
    place x p =
        let q = sorted_place (code_at hi lo) xs o p.0 p.1 in
        (q.0, omega (arith, q.1, sorted_length (code_at hi lo) xs o), q.2 ∙ p.2)

    pub arranged : Ordered k letters positions hi lo ys
    arranged =
        record {
          held = held;
          inside = sorted_all (code_at hi lo) xs o (λ x. x < length positions) (rw all at l.inside);
          order = λ i j h g. sorted_at (code_at hi lo) xs o i j h (omega (arith, sorted_length (code_at hi lo) xs o));
          rise = λ i j h g. sorted_rise (code_at hi lo) xs o l.rises i j h (omega (arith, sorted_length (code_at hi lo) xs o));
          twins = λ x y a h e. let t = l.twins x y a (omega (arith, all)) e in (place x t.0, place y t.1);
        }

-- ─── a table in two parts ────────────────────────────────────────────────────

-- the first n entries xs of the table w become ys
pub only_front : {n : ℕ} {w : List ℕ} (xs ys zs : List ℕ) → w ≡ xs ++ zs → length xs ≡ n → length ys ≡ n → Only 0 n w (ys ++ zs)
only_front {n} {w} xs ys zs e f g =
    record {
      size = omega (arith, ap length e, length-append xs zs, length-append ys zs);
      rest =
          λ i d o.
          let l : n ≤ i = ⊎_elim (λ (z : i < 0). omega arith) (λ (z : 0 + n ≤ i). omega arith) o.0 in
          get_or-append_right ys zs n i d g l ∙ sym (ap (λ (t : List ℕ). get_or t i d) e ∙ get_or-append_right xs zs n i d f l);
    }
