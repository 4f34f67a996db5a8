-- What E counts: the groups in which no weight occurs oddly often. Assumes nothing.
use mathlib.Core.Path.{◌≡◌, refl, sym, ◌∙◌}
use mathlib.Core.Logic.{inl, inr}
use mathlib.Core.List.{List, map}
use Prim.Native.Nat.{ℕ, zero, suc, ◌*◌, ◌≤◌, ◌<◌}
use native.Mathlib.Omega.{arith}
use native.Mathlib.Decide.{dec_lt}
use Rattle.lists.specs.Count.{agree}
use Rattle.cover_trails.specs.Counting.{occurs, oddly, above}
use Rattle.cover_trails.specs.Strings.{Ends, weights}
use Rattle.cover_trails.specs.Groups.{Joined, name_of, all_even, odd_members, even_group}
use Rattle.lists.proofs.Agree.{Agreeing, agree_same, agree_cases}
use Rattle.cover_trails.proofs.Counting.{sum-zero, sum-part, occurs-map, occurs-map-some, above-all, occurs_beyond}
use Rattle.cover_trails.proofs.Groups.{joined-same_name, same_name_joined}

-- ─── is a group even? ────────────────────────────────────────────────────────

-- a group counts at most 1
pub even_le : (m o : ℕ) → all_even m o ≤ 1
even_le zero o = omega arith
even_le (suc m) zero = omega arith
even_le (suc m) (suc o) = omega arith

-- one with an odd member counts 0
pub even_not : (m o : ℕ) → 1 ≤ o → all_even m o ≡ 0
even_not zero o h = refl
even_not (suc m) zero h = omega arith
even_not (suc m) (suc o) h = refl

-- it counts at least as much as one that has members only where it has
pub even_mono : (m n o : ℕ) → (1 ≤ m → 1 ≤ n) → all_even m o ≤ all_even n o
even_mono zero n o h = omega arith
even_mono (suc m) zero o h = omega (arith, h (omega arith))
even_mono (suc m) (suc n) zero h = omega arith
even_mono (suc m) (suc n) (suc o) h = omega arith

-- one with members, none of them odd, counts 1
pub even_is : (m o : ℕ) → 1 ≤ m → o ≡ 0 → all_even m o ≡ 1
even_is zero o h k = absurd (omega arith)
even_is (suc m) zero h k = refl
even_is (suc m) (suc o) h k = absurd (omega arith)

-- ─── a group that is counted ─────────────────────────────────────────────────

-- and only such a one does
even_members : (m o : ℕ) → all_even m o ≡ 1 → (1 ≤ m) × (o ≡ 0)
even_members zero o e = absurd (omega arith)
even_members (suc m) zero e = (omega arith, refl)
even_members (suc m) (suc o) e = absurd (omega arith)

module _ (n : ℕ) (name : ℕ → ℕ) (ws : List ℕ) (l : ℕ) where
  -- no weight of the group is odd: there are no odd members
  pub no_odd_members : ((w : ℕ) → w < n → l ≡ name w → oddly ws w ≡ 0) → odd_members n name ws l ≡ 0
  unfolding odd_members
  no_odd_members h = sum-zero (λ w. agree l (name w) * oddly ws w) n (λ w b. go w b (agree_cases l (name w)))
    where
      go : (w : ℕ) → w < n → Agreeing l (name w) → agree l (name w) * oddly ws w ≡ 0
      go w b (inl a) = rw (h w b a.0) (omega arith)
      go w b (inr a) = rw a.1 (omega arith)

  -- and the other way round
  no_odd_member : odd_members n name ws l ≡ 0 → (w : ℕ) → w < n → l ≡ name w → oddly ws w ≡ 0
  unfolding odd_members
  no_odd_member e w b q =
      let one : agree l (name w) ≡ 1 = agree_same l (name w) q in
      let part : agree l (name w) * oddly ws w ≡ oddly ws w = rw one (omega arith) in
      omega (arith, e, sum-part (λ w. agree l (name w) * oddly ws w) n w b, part)

-- Of the groups of strings: l is counted exactly if it is the name of a group with an end weight, in which all weights occur evenly often.
module _ (strings : List Ends) where
  -- a group that is counted has such a weight
  pub counted_group : (l : ℕ) → even_group (above (weights strings)) (name_of strings) (weights strings) l ≡ 1
      → (w : ℕ) × (1 ≤ occurs w (weights strings)) × (name_of strings w ≡ l) × ((v : ℕ) → Joined strings w v → oddly (weights strings) v ≡ 0)
  unfolding even_group
  counted_group l e =
      let m = even_members (occurs l (map (name_of strings) (weights strings))) (odd_members (above (weights strings)) (name_of strings) (weights strings) l)
      e in
      let w = occurs-map-some (name_of strings) l (weights strings) m.0 in
      (w.0, w.1, w.2, λ v j. go v m.1 (sym w.2 ∙ joined-same_name strings j) (dec_lt v (above (weights strings))))
    where
      beyond : (v : ℕ) → occurs v (weights strings) ≡ 0 → oddly (weights strings) v ≡ 0
      beyond v z = unfold oddly in (omega (arith, z))

      go : (v : ℕ) → odd_members (above (weights strings)) (name_of strings) (weights strings) l ≡ 0 → l ≡ name_of strings v → Dec (v < above (weights strings))
          → oddly (weights strings) v ≡ 0
      go v z q (yes b) = no_odd_member (above (weights strings)) (name_of strings) (weights strings) l z v b q
      go v z q (no b) = beyond v (occurs_beyond (above (weights strings)) v (weights strings) (above-all (weights strings)) (omega arith))

  -- and the group of such a weight is counted
  pub group_counted : (w : ℕ) → 1 ≤ occurs w (weights strings) → ((v : ℕ) → Joined strings w v → oddly (weights strings) v ≡ 0)
      → even_group (above (weights strings)) (name_of strings) (weights strings) (name_of strings w) ≡ 1
  unfolding even_group
  group_counted w m h =
      even_is (occurs (name_of strings w) (map (name_of strings) (weights strings)))
      (odd_members (above (weights strings)) (name_of strings) (weights strings) (name_of strings w))
      (occurs-map (name_of strings) w (weights strings) m)
      (no_odd_members (above (weights strings)) (name_of strings) (weights strings) (name_of strings w) (λ v b q. h v (same_name_joined strings w v q)))
