-- Places that pass 8 are a signed permutation, and a signed permutation passes: none is bad exactly if all are from 1 to m and none is used twice. Assumes
-- nothing.
use mathlib.Core.Path.{◌≡◌, refl, sym, ap, ◌∙◌}
use mathlib.Core.Bool.{Bool, true, false, not, ◌||◌}
use mathlib.Core.Logic.{inl, inr}
use mathlib.Core.List.{List, [], ◌∷◌, ◌++◌, map, append-nil}
use Prim.Native.Nat.{ℕ, zero, suc, ◌+◌, ◌<◌, ◌≤◌}
use native.Mathlib.Decide.{dec_lt}
use native.Mathlib.Omega.{arith}
use borrow.Author.Tests.{eq-eqb, ne_eqb, eqb-true, eqb-false, ltb-false}
use lib.Dec.{eqb, ltb}
use lib.IntN.{ℤ, pos, nat_abs}
use lib.ListN.{length, get_or, length-map}
use Rattle.std.specs.Prelude.{Err}
use Rattle.collection.specs.declared.refusal.Refusal.TheVariants.{Places}
use Rattle.lists.specs.Choose.{choose}
use Rattle.lists.specs.Every.{All}
use Rattle.lists.proofs.Every.{all_at}
use Rattle.lists.proofs.Mapped.{map_at}
use Rattle.lists.proofs.First.{first_none, none_first}
use Rattle.collection.specs.Verdict.{at_place, good}
use Rattle.collection.proofs.Verdicts.{test_good, place_good, place_none}
use Rattle.lists.specs.Count.{agree}
use Rattle.cover_trails.specs.Counting.{occurs}
use Rattle.cover_trails.specs.Places.{SignedPermutation}
use Rattle.cover_trails.proofs.Arranged.{permutation_if_apart}
use Rattle.lists.proofs.Agree.{Agreeing, agree_same, agree-other, agree_cases}
use Rattle.lists.proofs.Refuted.{refuted}
use Rattle.cover_trails.proofs.Counting.{occurs_at, occurs_between}
use Rattle.apply_places.specs.Places.{holder, bad_place, first_bad, places_verdict}
use Rattle.apply_places.proofs.Marking.{good_place}

-- ─── no holder, no use ───────────────────────────────────────────────────────

unused : (a : ℕ) (places : List ℕ) → All (λ b. eqb a b ≡ false) places → occurs a places ≡ 0
unfolding occurs
unused a [] h = refl
unused a (b ∷ places) h = omega (arith, agree-other a b (eqb-false a b h.0), unused a places h.1)

none_used : (a : ℕ) (places : List ℕ) → occurs a places ≡ 0 → All (λ b. eqb a b ≡ false) places
unfolding occurs
none_used a [] h = tt
none_used a (b ∷ places) h = (ne_eqb a b (λ e. omega (arith, agree_same a b e)), none_used a places (omega arith))

-- ─── one place ───────────────────────────────────────────────────────────────

record Fine (m : ℕ) (earlier : List ℕ) (a : ℕ) : Type 0 where
  low : 1 ≤ a
  high : a ≤ m
  new : occurs a earlier ≡ 0

fine : (m : ℕ) (earlier : List ℕ) (a : ℕ) → bad_place m earlier a ≡ false → Fine m earlier a
unfolding bad_place
fine m earlier a h = go (eqb a 0) (ltb m a) (eqb (holder a earlier) 0) refl refl refl h
  where
    go : (t u v : Bool) → eqb a 0 ≡ t → ltb m a ≡ u → eqb (holder a earlier) 0 ≡ v → ((t || u) || not v) ≡ false → Fine m earlier a
    go true u v x y z q = refuted (cc)
    go false true v x y z q = refuted (cc)
    go false false false x y z q = refuted (cc)
    go false false true x y z q =
        let n = eqb-false a 0 x in
        record {
          low = omega arith;
          high = ltb-false m a y;
          new = unused a earlier (first_none (eqb a) earlier (eqb-true (holder a earlier) 0 z));
        }

-- ─── all places ──────────────────────────────────────────────────────────────

used-more : (a b : ℕ) (earlier : List ℕ) → occurs a (earlier ++ (b ∷ [])) ≡ agree a b + occurs a earlier
used-more a b earlier = occurs_between a b earlier [] ∙ ap (λ (l : List ℕ). agree a b + occurs a l) (append-nil earlier)

-- the places that are left are from 1 to m, and none is used twice, the earlier ones counted
record Apart (m : ℕ) (earlier : List ℕ) (places : List ℤ) : Type 0 where
  range : All (λ p. (1 ≤ nat_abs p) × (nat_abs p ≤ m)) places
  once : (a : ℕ) → occurs a earlier + occurs a (map nat_abs places) ≤ 1

apart : (m i : ℕ) (earlier : List ℕ) (places : List ℤ) → ((a : ℕ) → occurs a earlier ≤ 1) → first_bad m i earlier places ≡ 0 → Apart m earlier places
unfolding first_bad occurs
apart m i earlier [] o h = record { range = tt; once = λ a. omega (arith, o a) }
apart m i earlier (p ∷ places) o h = go (bad_place m earlier (nat_abs p)) refl h (apart m (suc i) (earlier ++ (nat_abs p ∷ [])) places)
  where
    go : (t : Bool) → bad_place m earlier (nat_abs p) ≡ t → choose t (suc i) (first_bad m (suc i) (earlier ++ (nat_abs p ∷ [])) places) ≡ 0
        → (((a : ℕ) → occurs a (earlier ++ (nat_abs p ∷ [])) ≤ 1) → first_bad m (suc i) (earlier ++ (nat_abs p ∷ [])) places ≡ 0
        → Apart m (earlier ++ (nat_abs p ∷ [])) places)
        → Apart m earlier (p ∷ places)
    go true e q ih = absurd (omega arith)
    go false e q ih =
        let f = fine m earlier (nat_abs p) e in
        let r = ih (λ a. still a (agree_cases a (nat_abs p)) f) q in
        record { range = ((f.low, f.high), r.range); once = λ a. omega (arith, r.once a, used-more a (nat_abs p) earlier) }
      where
        still : (a : ℕ) → Agreeing a (nat_abs p) → Fine m earlier (nat_abs p) → occurs a (earlier ++ (nat_abs p ∷ [])) ≤ 1
        still a (inl w) f = omega (arith, w.1, f.new, ap (λ (x : ℕ). occurs x earlier) w.0, used-more a (nat_abs p) earlier)
        still a (inr w) f = omega (arith, w.1, o a, used-more a (nat_abs p) earlier)

-- 8 is not given: the places are a signed permutation
pub places_good : (m : ℕ) (places : List ℤ) → places_verdict m places ≡ good → SignedPermutation m places
unfolding places_verdict occurs
places_good m places h =
    let t = test_good (eqb (length places) m) (Places 0) (at_place Places (first_bad m 0 [] places)) h in
    let r = apart m 0 [] places (λ a. omega arith) (place_good Places (first_bad m 0 [] places) t.1) in
    permutation_if_apart m places (eqb-true (length places) m t.0) r.range (λ a. omega (arith, r.once a))

-- ─── and the other way round ─────────────────────────────────────────────────

none_bad : (m i : ℕ) (earlier : List ℕ) (places : List ℤ) → All (λ p. (1 ≤ nat_abs p) × (nat_abs p ≤ m)) places
    → ((a : ℕ) → 1 ≤ a → a ≤ m → occurs a earlier + occurs a (map nat_abs places) ≤ 1) → first_bad m i earlier places ≡ 0
unfolding first_bad occurs
none_bad m i earlier [] r o = refl
none_bad m i earlier (p ∷ places) r o =
    let low = r.0.0 in
    let high = r.0.1 in
    let new : occurs (nat_abs p) earlier ≡ 0 = omega (arith, o (nat_abs p) low high, agree_same (nat_abs p) (nat_abs p) refl) in
    let free : holder (nat_abs p) earlier ≡ 0 = none_first (eqb (nat_abs p)) earlier (none_used (nat_abs p) earlier new) in
    rw (good_place m earlier (nat_abs p) (λ e. omega arith) high free)
    (none_bad m (suc i) (earlier ++ (nat_abs p ∷ [])) places r.1 (λ a l u. omega (arith, o a l u, used-more a (nat_abs p) earlier)))

-- a signed permutation is not refused
pub permutation_passes : (m : ℕ) (places : List ℤ) → SignedPermutation m places → places_verdict m places ≡ good
unfolding places_verdict occurs
permutation_passes m places s =
    let z = none_bad m 0 [] places s.range (λ a l u. omega (arith, s.once a l u)) in
    ap (λ (t : Bool). choose t (at_place Places (first_bad m 0 [] places)) (Err (Places 0))) (eq-eqb (length places) m s.number) ∙ sym (place_none Places z)

-- ─── no two strings have one place ───────────────────────────────────────────

twice : (w : ℕ) (xs : List ℕ) (i j : ℕ) → i < j → j < length xs → get_or xs i 0 ≡ w → get_or xs j 0 ≡ w → 2 ≤ occurs w xs
unfolding occurs
twice w [] i j l b e f = absurd (omega arith)
twice w (x ∷ xs) i zero l b e f = absurd (omega arith)
twice w (x ∷ xs) zero (suc j) l b e f = omega (arith, agree_same w x (sym e), occurs_at w xs j (omega arith) f)
twice w (x ∷ xs) (suc i) (suc j) l b e f = omega (arith, twice w xs i j (omega arith) (omega arith) e f)

-- no two strings have one place
pub one_string : {m : ℕ} {places : List ℤ} → SignedPermutation m places → (i j : ℕ) → i < m → j < m
    → nat_abs (get_or places i (pos 0)) ≡ nat_abs (get_or places j (pos 0)) → i ≡ j
one_string {m} {places} s i j l b e = go (dec_lt i j) (dec_lt j i)
  where
    not_twice : (i j : ℕ) → i < j → j < m → nat_abs (get_or places i (pos 0)) ≡ nat_abs (get_or places j (pos 0)) → ⊥
    not_twice i j l b e =
        let w : ℕ = nat_abs (get_or places j (pos 0)) in
        let r = all_at (λ p. (1 ≤ nat_abs p) × (nat_abs p ≤ m)) places s.range j (pos 0) (omega (arith, s.number)) in
        omega (
          arith,
          s.once w r.0 r.1,
          twice w (map nat_abs places) i j l (omega (arith, length-map places nat_abs, s.number)) (map_at nat_abs (pos 0) places i ∙ e)
              (map_at nat_abs (pos 0) places j),
        )

    go : Dec (i < j) → Dec (j < i) → i ≡ j
    go (yes q) r = absurd (not_twice i j q b e)
    go (no q) (yes r) = absurd (not_twice j i r l (sym e))
    go (no q) (no r) = omega arith
