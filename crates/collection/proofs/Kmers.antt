-- Laws of the k-mers of judged ends: how many there are, that they fit, and how a loop over the strings meets them. Assumes nothing.
use mathlib.Core.Path.{◌≡◌, refl, sym, ap, ◌∙◌}
use mathlib.Core.List.{List, [], ◌∷◌, ◌++◌, append_assoc}
use Prim.Native.Nat.{ℕ, zero, suc, ◌+◌, ◌-◌, ◌*◌, ◌<◌, ◌≤◌}
use native.Mathlib.Nat.{suc-mul, zero-mul, not-suc-le-zero}
use native.Mathlib.Numerals.{add-one}
use native.Mathlib.Omega.{arith}
use borrow.Author.Tests.{le-ltb}
use lib.ListN.{length, take, drop, get_or, length-append, drop_of_length-le}
use lib.Seq.{length-take-le}
use Rattle.lists.specs.Count.{count_from}
use Rattle.lists.specs.Every.{All}
use Rattle.lists.proofs.Count.{length_count, all_count}
use Rattle.lists.proofs.Every.{all_append, all_at}
use Rattle.lists.proofs.Storing.{drop_next}
use Rattle.collection_faults.specs.Faults.{first_short, last_end}
use Rattle.collection.specs.Collection.{Spelling}
use Rattle.collection.specs.Judge.{kmers_in}
use Rattle.collection.specs.Kmers.{within, kmers_from, kmers, position_of}
use Rattle.collection.specs.Ready.{Long}
use Rattle.collection.proofs.Judged.{long_cons, Shape, ends_room}

-- ─── how many ────────────────────────────────────────────────────────────────

-- each string has k - 1 letters more than k-mers
pub kmers-length : (k i before : ℕ) (ends : List ℕ) → 1 ≤ k → first_short k i before ends ≡ 0
    → length (kmers_from k before ends) + length ends * (k - 1) + before ≡ last_end before ends
unfolding kmers_from last_end
kmers-length k i before [] k1 h = omega (arith, zero-mul (k - 1))
kmers-length k i before (e ∷ ends) k1 h =
    let a = long_cons k i before e ends h in
    let b = kmers-length k (suc i) e ends k1 a.1 in
    let l = length-append (count_from before (within k before e)) (kmers_from k e ends) in
    let c = length_count before (within k before e) in
    omega (arith, suc-mul (length ends) (k - 1), a.0)

-- n = N - m(k-1) is the number of k-mers of a collection whose strings have their places
pub kmers-counted : {t : Spelling} → Shape t → length (kmers t.k t.ends) ≡ kmers_in t
kmers-counted {t} s = omega (arith, kmers-length t.k 0 0 t.ends (omega (arith, s.k_low)) s.long, s.last)

-- ─── strings up to the i-th ──────────────────────────────────────────────────

-- the k-mers of the first strings, then those of the rest
pub kmers_split : (k before : ℕ) (xs ys : List ℕ) → kmers_from k before (xs ++ ys) ≡ kmers_from k before xs ++ kmers_from k (last_end before xs) ys
unfolding kmers_from last_end
kmers_split k before [] ys = refl
kmers_split k before (x ∷ xs) ys =
    ap (λ (l : List ℕ). count_from before (within k before x) ++ l) (kmers_split k x xs ys)
    ∙ sym (append_assoc (count_from before (within k before x)) (kmers_from k x xs) (kmers_from k (last_end x xs) ys))

long_take : (k i before j : ℕ) (ends : List ℕ) → first_short k i before ends ≡ 0 → first_short k i before (take j ends) ≡ 0
unfolding first_short
long_take k i before zero ends h = refl
long_take k i before (suc j) [] h = refl
long_take k i before (suc j) (e ∷ ends) h =
    let a = long_cons k i before e ends h in
    rw (le-ltb e (before + k) a.0) (long_take k (suc i) e j ends a.1)

-- the last of the first ends is the end before
pub last_take : (before j : ℕ) (ends : List ℕ) → j < length ends → last_end before (take (suc j) ends) ≡ get_or ends j 0
unfolding last_end
last_take before j [] h = absurd (not-suc-le-zero h)
last_take before zero (e ∷ ends) h = refl
last_take before (suc j) (e ∷ ends) h = last_take e j ends (omega arith)

module _ {k : ℕ} {ends : List ℕ} (g : Long k ends) where
  -- the k-mers of the strings up to string i: its end less k - 1 for each string
  pub up_to_count : (i : ℕ) → i < length ends → length (kmers k (take (i + 1) ends)) + (i + 1) * (k - 1) ≡ get_or ends i 0
  up_to_count i h =
      let a = kmers-length k 0 0 (take (suc i) ends) g.k_low (long_take k 0 0 (suc i) ends g.long) in
      let b = length-take-le (suc i) ends h in
      let c = last_take 0 i ends h in
      let d : length (kmers k (take (suc i) ends)) + suc i * (k - 1) ≡ get_or ends i 0 = omega (arith, ap (λ (n : ℕ). n * (k - 1)) b) in
      rw add-one d

  -- the k-mers before string i
  pub start_count : (i : ℕ) → i ≤ length ends → length (kmers k (take i ends)) + i * (k - 1) ≡ last_end 0 (take i ends)
  start_count i h =
      let a = kmers-length k 0 0 (take i ends) g.k_low (long_take k 0 0 i ends g.long) in
      omega (arith, ap (λ (n : ℕ). n * (k - 1)) (length-take-le i ends h))

-- every k-mer ends within the letters
pub kmers_fit : (k i before : ℕ) (ends : List ℕ) → first_short k i before ends ≡ 0 → All (λ a. a + k ≤ last_end before ends) (kmers_from k before ends)
unfolding kmers_from last_end
kmers_fit k i before [] h = tt
kmers_fit k i before (e ∷ ends) h =
    let a = long_cons k i before e ends h in
    let r = ends_room k (suc i) e ends a.1 in
    all_append (λ a. a + k ≤ last_end e ends) (count_from before (within k before e)) (kmers_from k e ends)
    (all_count (λ a. a + k ≤ last_end e ends) before (within k before e) (λ j l u. omega arith))
    (kmers_fit k (suc i) e ends a.1)

-- the k letters of a handle lie within the letters
pub position_fits : {t : Spelling} → Shape t → (handle : ℕ) → 1 ≤ handle → handle ≤ length (kmers t.k t.ends)
    → position_of t.k t.ends handle + t.k ≤ length t.letters
position_fits {t} s handle h l =
    omega (arith, all_at (λ a. a + t.k ≤ last_end 0 t.ends) (kmers t.k t.ends) (kmers_fit t.k 0 0 t.ends s.long) (handle - 1) 0 (omega arith), s.last)

-- ─── one string after the other ──────────────────────────────────────────────

-- a loop over the strings: i strings with `passed` k-mers have passed, the last of which ends at `before`; the rest ends where the letters end
pub record StringsLeft (k N : ℕ) (ends : List ℕ) (i before passed : ℕ) : Type 0 where
  pub inside : i ≤ length ends
  pub long : first_short k i before (drop i ends) ≡ 0
  pub last : last_end before (drop i ends) ≡ N
  pub few : passed ≤ before

-- before the first string
pub strings_begin : {k N : ℕ} {ends : List ℕ} → Long k ends → last_end 0 ends ≡ N → StringsLeft k N ends 0 0 0
strings_begin g e = record { inside = omega arith; long = g.long; last = e; few = omega arith }

-- the k-mers of one string more
pub kmers_next : (k before : ℕ) (ends : List ℕ) (i : ℕ) → i < length ends
    → kmers_from k before (drop i ends) ≡ count_from before (within k before (get_or ends i 0)) ++ kmers_from k (get_or ends i 0) (drop (i + 1) ends)
unfolding kmers_from
kmers_next k before ends i l = ap (kmers_from k before) (drop_next ends i 0 l)

-- no string is left
pub kmers_end : (k before : ℕ) (ends : List ℕ) (i : ℕ) → length ends ≤ i → kmers_from k before (drop i ends) ≡ []
unfolding kmers_from
kmers_end k before ends i l = ap (kmers_from k before) (drop_of_length-le ends l)

-- the next string: at least k letters, and all of them there
pub record Next (k N before e : ℕ) : Type 0 where
  pub long : before + k ≤ e
  pub inside : e ≤ N

module _ {k N : ℕ} {ends : List ℕ} {i before passed : ℕ} (s : StringsLeft k N ends i before passed) (l : i < length ends) where
  split_long : (before + k ≤ get_or ends i 0) × (first_short k (suc i) (get_or ends i 0) (drop (i + 1) ends) ≡ 0)
  split_long = long_cons k i before (get_or ends i 0) (drop (i + 1) ends) (sym (ap (first_short k i before) (drop_next ends i 0 l)) ∙ s.long)

  split_last : last_end (get_or ends i 0) (drop (i + 1) ends) ≡ N
  unfolding last_end
  split_last = sym (ap (last_end before) (drop_next ends i 0 l)) ∙ s.last

  pub next_string : Next k N before (get_or ends i 0)
  next_string = record { long = split_long.0; inside = omega (arith, ends_room k (suc i) (get_or ends i 0) (drop (i + 1) ends) split_long.1, split_last) }

  pub strings_on : 1 ≤ k → (passed' : ℕ) → passed' ≡ passed + within k before (get_or ends i 0) → StringsLeft k N ends (i + 1) (get_or ends i 0) passed'
  strings_on k1 passed' e =
      record {
        inside = omega arith;
        long = ap (λ (n : ℕ). first_short k n (get_or ends i 0) (drop (i + 1) ends)) (add-one i) ∙ split_long.1;
        last = split_last;
        few = omega (arith, s.few, split_long.0);
      }
