-- What good verdicts tell a caller, and how loops over the ends find the first short string. Assumes nothing.
use mathlib.Core.Path.{◌≡◌, refl, ap}
use mathlib.Core.Bool.{Bool, true, false, not, ◌&&◌}
use mathlib.Core.List.{List, [], ◌∷◌}
use Prim.Native.Nat.{ℕ, suc, ◌+◌, ◌*◌, ◌≤◌}
use native.Mathlib.Nat.{zero-mul, suc-mul, add-zero, le_refl}
use native.Mathlib.Omega.{arith}
use borrow.Author.Tests.{le-leb, ltb-false, leb-true, eqb-true, not-false}
use lib.Dec.{leb, ltb, eqb}
use lib.ListN.{length}
use Rattle.lists.specs.Choose.{choose}
use Rattle.lists.specs.Every.{All, every}
use Rattle.lists.specs.Limits.{most_letters, most_strings, least_k, most_k}
use Rattle.lists.proofs.Every.{and_left, and_right, and_both, all_map}
use Rattle.lists.proofs.First.{first_none}
use Rattle.alphabet.specs.Letter.{is_letter}
use Rattle.collection.specs.Collection.{Spelling, Collection, spelling_of}
use Rattle.std.specs.Prelude.{Err}
use Rattle.collection.specs.declared.refusal.Refusal.TheVariants.{Sizes, Limits, Ends, Letters, Weights, Question}
use Rattle.collection.specs.Verdict.{good, at_place}
use Rattle.collection.specs.Judge.{
  k_verdict,
  size_verdict,
  ends_verdict,
  shape_verdict,
  kmers_in,
  letters_verdict,
  weights_verdict,
  collection_verdict,
  Passes,
  handle_verdict,
  word_verdict,
}
use Rattle.collection_faults.specs.Faults.{first_short, last_end, is_weight}
use Rattle.collection.specs.Ready.{Long}
use Rattle.collection.proofs.Verdicts.{both_good, test_good, place_good}

-- ─── 2 and 3 ─────────────────────────────────────────────────────────────────

-- what passes 2
pub k_good : (k : ℕ) → k_verdict k ≡ good → (least_k ≤ k) × (k ≤ most_k)
unfolding k_verdict
k_good k h =
    let t = (test_good (leb least_k k && leb k most_k) Sizes good h).0 in
    (leb-true least_k k (and_left (leb least_k k) (leb k most_k) t), leb-true k most_k (and_right (leb least_k k) (leb k most_k) t))

-- what passes 3
pub size_good : (N m : ℕ) → size_verdict N m ≡ good → (N ≤ most_letters) × (m ≤ most_strings)
unfolding size_verdict
size_good N m h =
    let t = (test_good (leb N most_letters && leb m most_strings) Limits good h).0 in (
      leb-true N most_letters (and_left (leb N most_letters) (leb m most_strings) t),
      leb-true m most_strings (and_right (leb N most_letters) (leb m most_strings) t),
    )

-- within the limits nothing is refused by 3
pub good_size : {N m : ℕ} → N ≤ most_letters → m ≤ most_strings → size_verdict N m ≡ good
unfolding size_verdict
good_size {N} {m} a b = ap (λ t. choose t good (Err Limits)) (and_both (le-leb N most_letters a) (le-leb m most_strings b))

-- ─── 4 ───────────────────────────────────────────────────────────────────────

-- a string of at least k letters, and the strings after it
pub long_cons : (k i before e : ℕ) (ends : List ℕ) → first_short k i before (e ∷ ends) ≡ 0 → (before + k ≤ e) × (first_short k (suc i) e ends ≡ 0)
unfolding first_short
long_cons k i before e ends h = go (ltb e (before + k)) refl h
  where
    go : (t : Bool) → ltb e (before + k) ≡ t → choose t (suc i) (first_short k (suc i) e ends) ≡ 0 → (before + k ≤ e) × (first_short k (suc i) e ends ≡ 0)
    go true q r = absurd (omega arith)
    go false q r = (ltb-false e (before + k) q, r)

-- strings of at least k letters take k letters each
pub ends_room : (k i before : ℕ) (ends : List ℕ) → first_short k i before ends ≡ 0 → before + length ends * k ≤ last_end before ends
unfolding last_end
ends_room k i before [] h = rw (zero-mul, add-zero) (le_refl before)
ends_room k i before (e ∷ ends) h =
    let a = long_cons k i before e ends h in
    let b = ends_room k (suc i) e ends a.1 in
    rw suc-mul (omega arith)

-- what passes 4
pub ends_good : (k N : ℕ) (ends : List ℕ) → ends_verdict k N ends ≡ good → (first_short k 0 0 ends ≡ 0) × (last_end 0 ends ≡ N)
unfolding ends_verdict
ends_good k N ends h =
    let a = both_good (at_place Ends (first_short k 0 0 ends)) _ h in
    (place_good Ends _ a.0, eqb-true _ _ (test_good (eqb (last_end 0 ends) N) (Ends (length ends + 1)) good a.1).0)

-- ─── 2, 3, 4 together ────────────────────────────────────────────────────────

-- the strings have their places
pub record Shape (t : Spelling) : Type 0 where
  pub k_low : least_k ≤ t.k
  pub k_high : t.k ≤ most_k
  pub letters_high : length t.letters ≤ most_letters
  pub m_high : length t.ends ≤ most_strings
  pub long : first_short t.k 0 0 t.ends ≡ 0
  pub last : last_end 0 t.ends ≡ length t.letters
  pub room : length t.ends * t.k ≤ length t.letters

-- what passes 2, 3 and 4
pub shape_good : (t : Spelling) → shape_verdict t ≡ good → Shape t
unfolding shape_verdict
shape_good t h =
    let a = both_good (k_verdict t.k) _ h in
    let b = both_good (size_verdict (length t.letters) (length t.ends)) _ a.1 in
    let s = size_good _ _ b.0 in
    let e = ends_good _ _ _ b.1 in
    let r = ends_room t.k 0 0 t.ends e.0 in
    record {
      k_low = (k_good t.k a.0).0;
      k_high = (k_good t.k a.0).1;
      letters_high = s.0;
      m_high = s.1;
      long = e.0;
      last = e.1;
      room = omega arith;
    }

pub shape_long : {t : Spelling} → Shape t → Long t.k t.ends
shape_long s = record { k_low = omega (arith, s.k_low); k_high = s.k_high; few = s.m_high; long = s.long }

-- ─── 5 and 6 ─────────────────────────────────────────────────────────────────

-- what passes 5
pub letters_good : (letters : List ℕ) → letters_verdict letters ≡ good → All (λ b. is_letter b ≡ true) letters
unfolding letters_verdict
letters_good letters h =
    all_map (λ b e. not-false (is_letter b) e) letters (first_none (λ b. not (is_letter b)) letters (place_good Letters _ h))

-- what passes 6
pub weights_good : (n : ℕ) (weights : List ℕ) → weights_verdict n weights ≡ good → (length weights ≡ n) × All (λ w. is_weight w ≡ true) weights
unfolding weights_verdict
weights_good n weights h =
    let a = test_good (eqb (length weights) n) (Weights 0) _ h in
    (eqb-true _ _ a.0, all_map (λ w e. not-false (is_weight w) e) weights (first_none (λ w. not (is_weight w)) weights (place_good Weights _ a.1)))

-- what a collection that passes 2 to 6 keeps to
pub record Judged (c : Collection) : Type 0 where
  pub shape : Shape (spelling_of c)
  pub all_letters : All (λ b. is_letter b ≡ true) c.letters
  pub counted : length c.weights ≡ kmers_in (spelling_of c)
  pub all_weights : All (λ w. is_weight w ≡ true) c.weights

-- what passes 2 to 6
pub collection_good : (c : Collection) → Passes c → Judged c
unfolding collection_verdict
collection_good c h =
    let a = both_good (shape_verdict (spelling_of c)) _ h in
    let b = both_good (letters_verdict c.letters) _ a.1 in
    let w = weights_good _ c.weights b.1 in
    record { shape = shape_good (spelling_of c) a.0; all_letters = letters_good c.letters b.0; counted = w.0; all_weights = w.1 }

-- ─── 9 ───────────────────────────────────────────────────────────────────────

-- a handle that passes 9
pub handle_good : (n handle : ℕ) → handle_verdict n handle ≡ good → (1 ≤ handle) × (handle ≤ n)
unfolding handle_verdict
handle_good n handle h =
    let t = (test_good (leb 1 handle && leb handle n) Question good h).0 in
    (leb-true 1 handle (and_left (leb 1 handle) (leb handle n) t), leb-true handle n (and_right (leb 1 handle) (leb handle n) t))

-- a word that passes 9
pub word_good : (k : ℕ) (word : List ℕ) → word_verdict k word ≡ good → (length word ≡ k) × (every is_letter word ≡ true)
unfolding word_verdict
word_good k word h =
    let t = (test_good (eqb (length word) k && every is_letter word) Question good h).0 in
    (eqb-true (length word) k (and_left (eqb (length word) k) (every is_letter word) t), and_right (eqb (length word) k) (every is_letter word) t)
