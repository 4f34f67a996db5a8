-- A closed walk over strings of which each weight has an even number of ends.
-- From the start s the walk takes unused strings while there is one where it stands (`taken`); the strings taken are T, which leads from s to where it stands,
-- at w. Where there is none (`stuck`), the last string of T is given back to Z, which leads from z to s (`popped`). The unused degree of a weight is odd
-- exactly if one of w and z is that weight; so where the walk is stuck, w is z, and Z stays a chain. When T is empty, Z is a closed chain from s (`closed`).
-- A loop over tables is proved by one of these lemmas for each of its branches.
use mathlib.Core.Path.{◌≡◌, refl, ap, sym, ◌∙◌, subst}
use mathlib.Core.Logic.{⊎_elim}
use mathlib.Core.List.{List, [], ◌∷◌, ◌++◌, append-nil}
use Prim.Native.Nat.{ℕ, zero, suc, ◌+◌, ◌*◌, ◌%◌, ◌≤◌, ◌<◌}
use native.Mathlib.Omega.{arith}
use native.Mathlib.Decide.{ℕ_discrete}
use lib.ListN.{length}
use Rattle.lists.specs.Count.{agree}
use Rattle.cover_trails.specs.Counting.{occurs}
use Rattle.cover_trails.specs.Strings.{Ends, front, back, weights}
use Rattle.cover_trails.specs.Walks.{AllEven, Closed, Reordered, keep, turn, exchange, both, Chain}
use Rattle.lists.proofs.Agree.{agree_same, agree-other, agree_cases}
use Rattle.cover_trails.proofs.Orders.{unmoved, move_in, reordered-left, reordered_right, length-reordered, occurs-reordered}

-- ─── a string at a weight ────────────────────────────────────────────────────

-- no string of U has an end at w; or one has, and the others are R
pub data Found (w : ℕ) (U : List Ends) : Type 0 where
  absent : occurs w (weights U) ≡ 0 → Found w U
  found : (b : ℕ) (R : List Ends) → Reordered U ((w, b) ∷ R) → Found w U

-- there is none, or one is found
pub find : (w : ℕ) (U : List Ends) → Found w U
unfolding occurs weights
find w [] = absent refl
find w (s ∷ U) = go (ℕ_discrete w (front s)) (ℕ_discrete w (back s)) (find w U)
  where
    go : Dec (w ≡ front s) → Dec (w ≡ back s) → Found w U → Found w (s ∷ U)
    go (yes p) d r = found (back s) U (subst (λ (v : ℕ). Reordered (s ∷ U) ((v, back s) ∷ U)) (sym p) (unmoved (s ∷ U)))
    go (no q) (yes p) r = found (front s) U (subst (λ (v : ℕ). Reordered (s ∷ U) ((v, front s) ∷ U)) (sym p) (turn (unmoved U)))
    go (no q) (no p) (absent z) = absent (omega (arith, z, agree-other w (front s) q, agree-other w (back s) p))
    go (no q) (no p) (found b R r) = found b (s ∷ R) (both (keep r) exchange)

-- ─── the state of a walk ─────────────────────────────────────────────────────

-- T, its last string first, leads from x to y
abbrev pub Trail : ℕ → List Ends → ℕ → Type 0
Trail x [] y = x ≡ y
Trail x (s ∷ T) y = (back s ≡ y) × Trail x T (front s)

-- The walk began at s with the strings U₀ unused. Now U is unused, T leads from s to the weight w where the walk stands, and Z, given back, from z to s.
pub record Walk (s : ℕ) (U₀ U T : List Ends) (w : ℕ) (Z : List Ends) (z : ℕ) : Type 0 where
  pub trail : Trail s T w
  pub chain : Chain z Z s
  -- what is unused is even, but for w and z where they differ
  pub even : (v : ℕ) → (agree v w + agree v z + occurs v (weights U)) % 2 ≡ 0
  -- no unused string touches Z, but at z
  pub spent : (v : ℕ) → (v ≡ z → ⊥) → 1 ≤ occurs v (weights Z) → occurs v (weights U) ≡ 0
  -- each string is unused, in T or in Z, perhaps turned
  pub all : Reordered U₀ (U ++ (T ++ Z))

-- ─── one lemma for each kind of step ─────────────────────────────────────────

-- the walk starts, with nothing taken
pub started : (s : ℕ) (U : List Ends) → AllEven U → Walk s U U [] s [] s
unfolding occurs weights
started s U h = record {
  trail = refl;
  chain = refl;
  even = λ v. omega (arith, h v);
  spent = λ v q l. omega arith;
  all = rw append-nil (unmoved U);
}

module _ {s : ℕ} {U₀ U : List Ends} {w : ℕ} {Z : List Ends} {z : ℕ} where
  -- an unused string from w to b is taken
  pub taken : {T : List Ends} → Walk s U₀ U T w Z z → (b : ℕ) (R : List Ends) → Reordered U ((w, b) ∷ R) → Walk s U₀ R ((w, b) ∷ T) b Z z
  unfolding occurs weights
  taken {T} k b R r = record {
    trail = (refl, k.trail);
    chain = k.chain;
    even = λ v. omega (arith, k.even v, occurs-reordered r v);
    spent = λ v q l. omega (arith, k.spent v q l, occurs-reordered r v);
    all = both k.all (both (reordered-left (T ++ Z) r) (move_in (w, b) R (T ++ Z)));
  }

  -- where no unused string is at w, the walk stands where Z starts
  pub stuck : {T : List Ends} → Walk s U₀ U T w Z z → occurs w (weights U) ≡ 0 → w ≡ z
  stuck k h = ⊎_elim (λ d. d.0) (λ d. absurd (omega (arith, k.even w, d.1, agree_same w w refl))) (agree_cases w z)

  -- there the last string of T is given back to Z, and the walk stands at its front
  pub popped : {T : List Ends} {e : Ends} → Walk s U₀ U (e ∷ T) w Z z → occurs w (weights U) ≡ 0 → Walk s U₀ U T (front e) (e ∷ Z) (front e)
  unfolding occurs weights
  popped {T} {e} k h =
      let here = stuck k h in
      record {
        trail = k.trail.1;
        chain = (refl, subst (λ (x : ℕ). Chain x Z s) (sym (k.trail.0 ∙ here)) k.chain);
        even = λ v. omega (arith, k.even v, ap (agree v) here);
        spent = λ v q l. gone v here q l (ℕ_discrete v z);
        all = both k.all (reordered_right U (move_in e T Z));
      }
    where
      gone : (v : ℕ) → w ≡ z → (v ≡ front e → ⊥) → 1 ≤ agree v (front e) + (agree v (back e) + occurs v (weights Z)) → Dec (v ≡ z) → occurs v (weights U) ≡ 0
      gone v here q l (yes p) = ap (λ (x : ℕ). occurs x (weights U)) (p ∙ sym here) ∙ h
      gone v here q l (no p) =
          k.spent v p (omega (arith, l, agree-other v (front e) q, agree-other v (back e) (λ r. p (r ∙ k.trail.0 ∙ here))))

  -- with nothing left in T, the walk is closed
  pub closed : Walk s U₀ U [] w Z z → occurs w (weights U) ≡ 0 → Closed s U₀ U Z
  closed k h =
      let here = stuck k h in
      record {
        chain = subst (λ (x : ℕ). Chain x Z s) (sym (k.trail ∙ here)) k.chain;
        even = λ v. omega (arith, k.even v, ap (agree v) here);
        spent = λ v l. gone v here l (ℕ_discrete v z);
        home = ap (λ (x : ℕ). occurs x (weights U)) k.trail ∙ h;
        all = k.all;
      }
    where
      gone : (v : ℕ) → w ≡ z → 1 ≤ occurs v (weights Z) → Dec (v ≡ z) → occurs v (weights U) ≡ 0
      gone v here l (yes p) = ap (λ (x : ℕ). occurs x (weights U)) (p ∙ sym here) ∙ h
      gone v here l (no p) = k.spent v p l

-- a closed walk over the same strings in another order
pub closed_before : {s : ℕ} {U₀ U₁ U Z : List Ends} → Reordered U₀ U₁ → Closed s U₁ U Z → Closed s U₀ U Z
closed_before r k = record { chain = k.chain; even = k.even; spent = k.spent; home = k.home; all = both r k.all }

-- ─── the walk ends ───────────────────────────────────────────────────────────

-- each step takes an unused string, or gives one back
walk_on : (n s : ℕ) (U₀ U T : List Ends) (w : ℕ) (Z : List Ends) (z : ℕ) → 2 * length U + length T < n → Walk s U₀ U T w Z z
    → (U : List Ends) × (Z : List Ends) × Closed s U₀ U Z
walk_on zero s U₀ U T w Z z l k = absurd (omega arith)
walk_on (suc n) s U₀ U T w Z z l k = go T (find w U) l k (λ U' T' w' Z' z' l' k'. walk_on n s U₀ U' T' w' Z' z' l' k')
  where
    go : (T : List Ends) → Found w U → 2 * length U + length T < suc n → Walk s U₀ U T w Z z
        → ((U T : List Ends) (w : ℕ) (Z : List Ends) (z : ℕ) → 2 * length U + length T < n → Walk s U₀ U T w Z z
        → (U : List Ends) × (Z : List Ends) × Closed s U₀ U Z)
        → (U : List Ends) × (Z : List Ends) × Closed s U₀ U Z
    go T (found b R r) l k more = more R ((w, b) ∷ T) b Z z (omega (arith, length-reordered r)) (taken k b R r)
    go [] (absent h) l k more = (U, Z, closed k h)
    go (e ∷ T) (absent h) l k more =
        more U T (front e) (e ∷ Z) (front e) (omega arith) (popped k h)

-- from every weight there is a closed walk
pub walked : (s : ℕ) (U : List Ends) → AllEven U → (R : List Ends) × (Z : List Ends) × Closed s U R Z
walked s U h = walk_on (suc (2 * length U + 0)) s U U [] s [] s (omega arith) (started s U h)
