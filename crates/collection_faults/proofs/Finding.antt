-- How loops over one table find its first fault, or that there is none. Assumes nothing.
use mathlib.Core.Path.{◌≡◌, refl, sym, ap, ◌∙◌}
use mathlib.Core.Bool.{Bool, true, false, not, ◌&&◌}
use mathlib.Core.List.{List, [], ◌∷◌}
use Prim.Native.Nat.{ℕ, ◌+◌, ◌-◌, ◌<◌, ◌≤◌, ◌^◌}
use native.Mathlib.Numerals.{add-one, sub-one}
use native.Mathlib.Omega.{arith}
use native.Mathlib.Decide.{dec_le}
use borrow.Author.Tests.{le-leb, lt-leb, ne_eqb, lt-ltb, le-ltb, leb-true}
use lib.Dec.{leb, eqb}
use lib.ListN.{length, drop, get_or, drop_of_length-le}
use lib.Seq.{drop-cons}
use Rattle.std.specs.List.{HoldsAt, AllWithin}
use Rattle.lists.specs.Every.{All}
use Rattle.lists.specs.First.{first_that}
use Rattle.lists.specs.Limits.{most_weight}
use Rattle.lists.proofs.Every.{and_assoc, and_true, all_map, at_all, and_right}
use Rattle.lists.proofs.First.{none_first}
use Rattle.lists.proofs.FirstAt.{first_at}
use Rattle.collection_faults.specs.Faults.{first_short, last_end, is_weight}

-- ─── short strings ───────────────────────────────────────────────────────────

module _ (k before : ℕ) (ends : List ℕ) (i : ℕ) (h : i < length ends) where
  pub short_here : get_or ends i 0 < before + k → first_short k i before (drop i ends) ≡ i + 1
  unfolding first_short
  short_here e = rw (drop-cons ends i 0, lt-ltb _ _ e, add-one)

  -- it is long: the first short one comes later
  pub short_next : before + k ≤ get_or ends i 0 → first_short k i before (drop i ends) ≡ first_short k (i + 1) (get_or ends i 0) (drop (i + 1) ends)
  unfolding first_short
  short_next e = rw (drop-cons ends i 0, le-ltb _ _ e, add-one)

-- no string is left
pub short_end : (k before : ℕ) (ends : List ℕ) (i : ℕ) → length ends ≤ i → first_short k i before (drop i ends) ≡ 0
unfolding first_short
short_end k before ends i h = rw (drop_of_length-le ends h)

-- the same as a test: no string is short from string i on exactly if string i is long and none after it is short
module _ (k before : ℕ) (ends : List ℕ) (i : ℕ) where
  abbrev pub none_short : Bool
  none_short = eqb (first_short k i before (drop i ends)) 0

  none_short_step : i < length ends → none_short ≡ (leb (before + k) (get_or ends i 0) && eqb (first_short k (i + 1) (get_or ends i 0) (drop (i + 1) ends)) 0)
  none_short_step h = go (dec_le (before + k) (get_or ends i 0))
    where
      go : Dec (before + k ≤ get_or ends i 0) → none_short ≡ (leb (before + k) (get_or ends i 0) && eqb
          (first_short k (i + 1) (get_or ends i 0) (drop (i + 1) ends)) 0)
      go (yes l) = rw (short_next k before ends i h l, le-leb (before + k) (get_or ends i 0) l)
      go (no l) = let s : get_or ends i 0 < before + k = omega arith in
          rw (short_here k before ends i h s, lt-leb (before + k) (get_or ends i 0) s) (ne_eqb (i + 1) 0 (λ q. omega arith))

  -- one string more was tested
  pub none_short_next : i < length ends → (all good : Bool) → all ≡ (good && none_short)
      → all ≡ ((good && leb (before + k) (get_or ends i 0)) && eqb (first_short k (i + 1) (get_or ends i 0) (drop (i + 1) ends)) 0)
  none_short_next h all good q =
      q ∙ (ap (λ (t : Bool). good && t) (none_short_step h)
      ∙ and_assoc good (leb (before + k) (get_or ends i 0)) (eqb (first_short k (i + 1) (get_or ends i 0) (drop (i + 1) ends)) 0))

  -- all were tested
  pub none_short_end : length ends ≤ i → (all good : Bool) → all ≡ (good && none_short) → good ≡ all
  none_short_end h all good q = sym (q ∙ (ap (λ (n : ℕ). good && eqb n 0) (short_end k before ends i h) ∙ and_true good))

-- ─── the last end ────────────────────────────────────────────────────────────

last_pred : (before : ℕ) (ends : List ℕ) → (length ends ≡ 0 → ⊥) → get_or ends (length ends - 1) 0 ≡ last_end before ends
unfolding last_end
last_pred before [] h = absurd (h refl)
last_pred before (e ∷ []) h = refl
last_pred before (e ∷ (f ∷ ends)) h = rw sub-one (rw sub-one at (last_pred e (f ∷ ends) (λ q. omega arith)))

-- the last end by its place
pub last_is : (ends : List ℕ) → (length ends ≡ 0 → ⊥) → get_or ends (length ends - 1) 0 ≡ last_end 0 ends
last_is ends h = last_pred 0 ends h

-- with no string it is 0
pub last_none : (ends : List ℕ) → length ends ≡ 0 → 0 ≡ last_end 0 ends
unfolding last_end
last_none [] h = refl
last_none (e ∷ ends) h = absurd (omega arith)

-- ─── a test that holds of all ────────────────────────────────────────────────

-- a test of a whole table that all pass finds no first that fails
pub every_first : (test : ℕ → Bool) (xs : List ℕ) → All (λ x. test x ≡ true) xs → first_that (λ x. not (test x)) xs ≡ 0
every_first test xs h = none_first (λ x. not (test x)) xs (all_map (λ x e. ap not e) xs h)

-- what `position` finds is the first
module _ (test : ℕ → Bool) (xs : List ℕ) where
  pub first_found : (i : ℕ) → (i < length xs) × HoldsAt (λ x. test x ≡ true) xs i × AllWithin (λ x. test x ≡ false) xs 0 i → i + 1 ≡ first_that test xs
  first_found i h = sym (first_at test 0 xs i h.0 (h.1 0) (λ j l. h.2 j 0 (omega arith) l) ∙ sym (add-one i))

  pub first_missing : AllWithin (λ x. test x ≡ false) xs 0 (length xs) → 0 ≡ first_that test xs
  first_missing h = sym (none_first test xs (at_all (λ x. test x ≡ false) 0 xs (λ j l. h j 0 (omega arith) l)))

-- ─── weights ─────────────────────────────────────────────────────────────────

-- a weight fits 24 bits
pub weights_low : (ws : List ℕ) → All (λ w. is_weight w ≡ true) ws → All (λ w. w < 2 ^ 24) ws
weights_low ws h = all_map (λ w e. let l = leb-true w most_weight (and_right (leb 1 w) (leb w most_weight) e) in let z : w < 2 ^ 24 = omega arith in z) ws h
