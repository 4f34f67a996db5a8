-- No order has fewer than E + O / 2 paths.
-- Take the list of all ends of its paths, two a path. A weight occurs in it oddly often exactly if it does among all end weights, for two ends that join go
-- together; and every group has a weight in it. Each end pays one half: for a weight that is odd there, or for a group that is even. By induction on that list,
-- 2 E + O is at most its length.
use mathlib.Core.Path.{◌≡◌, refl, ap, ap₂, sym, ◌∙◌, fun_ext}
use mathlib.Core.Logic.{inl, inr}
use mathlib.Core.List.{List, [], ◌∷◌, map}
use Prim.Native.Nat.{ℕ, zero, suc, ◌+◌, ◌-◌, ◌*◌, ◌%◌, ◌≤◌, ◌<◌}
use native.Mathlib.Omega.{arith}
use native.Mathlib.Decide.{ℕ_discrete, dec_lt}
use lib.ListN.{length}
use Rattle.lists.specs.Count.{agree}
use Rattle.cover_trails.specs.Counting.{occurs, oddly, sum_below, above}
use Rattle.cover_trails.specs.Strings.{Ends, front, back, weights}
use Rattle.cover_trails.specs.Paths.{path_count}
use Rattle.cover_trails.specs.Groups.{name_of, all_even, odd_members, even_group, count_even_groups, count_odd, even_groups, odd_weights, least}
use Rattle.cover_trails.specs.Walks.{Reordered}
use Rattle.lists.proofs.Agree.{agree_same, agree-other, Agreeing, agree_cases}
use Rattle.cover_trails.proofs.Counting.{sum-zero, sum-part, sum_mono, sum_at, sum_off, oddly_le, oddly-same, oddly-other, AllBelow, above-all}
use Rattle.cover_trails.proofs.Orders.{names_reordered, oddly-reordered, EndsBelow, below_reordered}
use Rattle.cover_trails.proofs.EvenGroups.{even_le, even_not, even_mono}
use Rattle.cover_trails.proofs.Paths.{breaks, paths_breaks, paths-none}
use Rattle.cover_trails.proofs.Groups.{Level, name_level, level_reordered}

-- ─── what one weight more pays for ───────────────────────────────────────────

-- One weight x more in ws changes only its own parity and only its own group. So 2 E + O grows by at most 1.
module _ (n : ℕ) (name : ℕ → ℕ) (ws : List ℕ) (x : ℕ) (x<n : x < n) where
  odd_members_other : (l : ℕ) → (l ≡ name x → ⊥) → odd_members n name (x ∷ ws) l ≡ odd_members n name ws l
  unfolding odd_members
  odd_members_other l h = ap (sum_below n) (fun_ext λ w. go w (ℕ_discrete w x))
    where
      go : (w : ℕ) → Dec (w ≡ x) → agree l (name w) * oddly (x ∷ ws) w ≡ agree l (name w) * oddly ws w
      go w (yes e) =
          let z : agree l (name w) ≡ 0 = agree-other l (name w) (λ q. h (q ∙ ap name e)) in
          rw z (omega arith)
      go w (no q) = ap (λ (d : ℕ). agree l (name w) * d) (oddly-other ws x w q)

  even_group_other : (l : ℕ) → (l ≡ name x → ⊥) → even_group n name (x ∷ ws) l ≡ even_group n name ws l
  unfolding even_group occurs
  even_group_other l h =
      let m : occurs l (map name (x ∷ ws)) ≡ occurs l (map name ws) = omega (arith, agree-other l (name x) h) in
      ap₂ all_even m (odd_members_other l h)

  odd_member : oddly (x ∷ ws) x ≡ 1 → 1 ≤ odd_members n name (x ∷ ws) (name x)
  unfolding odd_members
  odd_member h =
      omega (
        arith,
        sum-part (λ w. agree (name x) (name w) * oddly (x ∷ ws) w) n x x<n,
        ap₂ (λ (a b : ℕ). a * b) (agree_same (name x) (name x) refl) h,
      )

  own_odd : oddly (x ∷ ws) x ≡ 1 → even_group n name (x ∷ ws) (name x) ≤ 0
  unfolding even_group
  own_odd h = omega (arith, even_not (occurs (name x) (map name (x ∷ ws))) (odd_members n name (x ∷ ws) (name x)) (odd_member h))

  own_even : even_group n name (x ∷ ws) (name x) ≤ 1
  unfolding even_group
  own_even = even_le (occurs (name x) (map name (x ∷ ws))) (odd_members n name (x ∷ ws) (name x))

  one_more : 2 * count_even_groups n name (x ∷ ws) + count_odd n (x ∷ ws) ≤ 2 * count_even_groups n name ws + count_odd n ws + 1
  unfolding count_even_groups count_odd
  one_more = go (ℕ_discrete (oddly (x ∷ ws) x) 1)
    where
      odd : sum_below n (oddly (x ∷ ws)) + oddly ws x ≤ sum_below n (oddly ws) + oddly (x ∷ ws) x
      odd = sum_at (oddly (x ∷ ws)) (oddly ws) n x x<n (λ w b h. omega (arith, oddly-other ws x w h))

      even : (k : ℕ) → even_group n name (x ∷ ws) (name x) ≤ k → sum_below n (even_group n name (x ∷ ws)) ≤ sum_below n (even_group n name ws) + k
      even k h = sum_off (even_group n name (x ∷ ws)) (even_group n name ws) n (name x) k (λ w q. omega (arith, even_group_other w q)) (omega arith)

      go : Dec (oddly (x ∷ ws) x ≡ 1)
          → 2 * sum_below n (even_group n name (x ∷ ws)) + sum_below n (oddly (x ∷ ws)) ≤ 2 * sum_below n (even_group n name ws) + sum_below n (oddly ws) + 1
      go (yes h) = omega (arith, odd, even 0 (own_odd h), oddly-same ws x)
      go (no h) = omega (arith, odd, even 1 own_even, oddly-same ws x, oddly_le (x ∷ ws) x)

-- without weights there is nothing to pay for
pub no_even_groups : (n : ℕ) (name : ℕ → ℕ) → count_even_groups n name [] ≡ 0
unfolding count_even_groups even_group occurs
no_even_groups n name = sum-zero (even_group n name []) n (λ l k. refl)

pub no_odd : (n : ℕ) → count_odd n [] ≡ 0
unfolding count_odd oddly occurs
no_odd n = sum-zero (oddly []) n (λ w k. refl)

-- each weight pays one half
pub each_pays : (n : ℕ) (name : ℕ → ℕ) (ws : List ℕ) → AllBelow n ws → 2 * count_even_groups n name ws + count_odd n ws ≤ length ws
each_pays n name [] h = omega (arith, no_even_groups n name, no_odd n)
each_pays n name (x ∷ ws) h = omega (arith, one_more n name ws x h.0, each_pays n name ws h.1)

-- ─── the ends of the paths ───────────────────────────────────────────────────

-- two neighbouring ends, unless they join
unfoldable cut_ends : ℕ → ℕ → ℕ → List ℕ → List ℕ
cut_ends zero a b ws = a ∷ (b ∷ ws)
cut_ends (suc j) a b ws = ws

-- the ends behind the front of s
unfoldable path_ends_from : Ends → List Ends → List ℕ
unfolding cut_ends
path_ends_from s [] = back s ∷ []
path_ends_from s (t ∷ order) = cut_ends (agree (back s) (front t)) (back s) (front t) (path_ends_from t order)

-- both ends of each path
unfoldable path_ends : List Ends → List ℕ
unfolding path_ends_from
path_ends [] = []
path_ends (s ∷ order) = front s ∷ path_ends_from s order

length-ends_from : (s : Ends) (order : List Ends) → length (path_ends_from s order) ≡ 2 * breaks s order + 1
unfolding breaks path_ends_from cut_ends
length-ends_from s [] = refl
length-ends_from s (t ∷ order) = go (length-ends_from t order) (agree_cases (back s) (front t))
  where
    go : length (path_ends_from t order) ≡ 2 * breaks t order + 1 → Agreeing (back s) (front t)
        → length (cut_ends (agree (back s) (front t)) (back s) (front t) (path_ends_from t order)) ≡ 2 * ((1 - agree (back s) (front t)) + breaks t order) + 1
    go ih (inl h) = rw h.1 (omega arith)
    go ih (inr h) = rw h.1 (omega arith)

length_path_ends : (order : List Ends) → length (path_ends order) ≡ 2 * path_count order
unfolding path_ends
length_path_ends [] = omega (arith, paths-none)
length_path_ends (s ∷ order) = omega (arith, length-ends_from s order, paths_breaks s order)

-- they have the parity of all end weights
parity_from : (w : ℕ) (s : Ends) (order : List Ends) → (agree w (front s) + occurs w (path_ends_from s order)) % 2 ≡ occurs w (weights (s ∷ order)) % 2
unfolding weights occurs path_ends_from cut_ends
parity_from w s [] = omega arith
parity_from w s (t ∷ order) = go (parity_from w t order) (agree_cases (back s) (front t))
  where
    go : (agree w (front t) + occurs w (path_ends_from t order)) % 2 ≡ occurs w (weights (t ∷ order)) % 2 → Agreeing (back s) (front t)
        → (agree w (front s) + occurs w (cut_ends (agree (back s) (front t)) (back s) (front t) (path_ends_from t order))) % 2
        ≡ (agree w (front s) + (agree w (back s) + occurs w (weights (t ∷ order)))) % 2
    go ih (inl h) = rw h.1 (omega (arith, ap (agree w) h.0))
    go ih (inr h) = rw h.1 (omega arith)

parity : (order : List Ends) (w : ℕ) → oddly (weights order) w ≡ oddly (path_ends order) w
unfolding oddly weights occurs path_ends
parity [] w = refl
parity (s ∷ order) w = sym (parity_from w s order)

-- and no weight that the end weights do not have
below_from : (n : ℕ) (s : Ends) (order : List Ends) → EndsBelow n (s ∷ order) → AllBelow n (path_ends_from s order)
unfolding weights path_ends_from cut_ends
below_from n s [] h = (h.1.0, tt)
below_from n s (t ∷ order) h = go (below_from n t order h.1.1) (agree (back s) (front t))
  where
    go : AllBelow n (path_ends_from t order) → (d : ℕ) → AllBelow n (cut_ends d (back s) (front t) (path_ends_from t order))
    go ih zero = (h.1.0, (h.1.1.0, ih))
    go ih (suc d) = ih

below_path_ends : (n : ℕ) (order : List Ends) → EndsBelow n order → AllBelow n (path_ends order)
unfolding weights path_ends
below_path_ends n [] h = tt
below_path_ends n (s ∷ order) h = (h.0, below_from n s order h)

-- Every group has one of them, where all strings are level.
module _ (name : ℕ → ℕ) (l : ℕ) where
  present_from : (s : Ends) (order : List Ends) → Level name (s ∷ order) → 1 ≤ occurs l (map name (weights (s ∷ order)))
      → 1 ≤ occurs l (map name (path_ends_from s order))
  unfolding weights occurs path_ends_from cut_ends
  present_from s [] h p = omega (arith, ap (agree l) h.0)
  present_from s (t ∷ order) h p = go (present_from t order h.1) (agree_cases (back s) (front t))
    where
      go : (1 ≤ occurs l (map name (weights (t ∷ order))) → 1 ≤ occurs l (map name (path_ends_from t order))) → Agreeing (back s) (front t)
          → 1 ≤ occurs l (map name (cut_ends (agree (back s) (front t)) (back s) (front t) (path_ends_from t order)))
      go ih (inl q) = rw q.1 (ih (omega (arith, ap (agree l) h.0, ap (λ (v : ℕ). agree l (name v)) q.0)))
      go ih (inr q) = rw q.1 (more (dec_lt 0 (occurs l (map name (weights (t ∷ order))))))
        where
          more : Dec (0 < occurs l (map name (weights (t ∷ order))))
              → 1 ≤ agree l (name (back s)) + (agree l (name (front t)) + occurs l (map name (path_ends_from t order)))
          more (yes a) = omega (arith, ih a)
          more (no a) = omega (arith, ap (agree l) h.0)

  present : (order : List Ends) → Level name order → 1 ≤ occurs l (map name (weights order)) → 1 ≤ occurs l (map name (path_ends order))
  unfolding weights occurs path_ends
  present [] h p = omega arith
  present (s ∷ order) h p = omega (arith, present_from s order h p)

-- ─── the bound ───────────────────────────────────────────────────────────────

module _ (n : ℕ) (name : ℕ → ℕ) where
  odd_members_at_ends : (order : List Ends) (l : ℕ) → odd_members n name (weights order) l ≡ odd_members n name (path_ends order) l
  unfolding odd_members
  odd_members_at_ends order l = ap (sum_below n) (fun_ext λ w. ap (λ (d : ℕ). agree l (name w) * d) (parity order w))

  even_at_ends : (order : List Ends) → Level name order → (l : ℕ) → even_group n name (weights order) l ≤ even_group n name (path_ends order) l
  unfolding even_group
  even_at_ends order h l =
      rw (odd_members_at_ends order l)
      (even_mono (occurs l (map name (weights order))) (occurs l (map name (path_ends order))) (odd_members n name (path_ends order) l)
      (present name l order h))

  -- of any names that are the same at both ends of each string
  pub lower_level : (order : List Ends) → Level name order → EndsBelow n order
      → 2 * count_even_groups n name (weights order) + count_odd n (weights order) ≤ 2 * path_count order
  unfolding count_even_groups count_odd
  lower_level order h b =
      omega (
        arith,
        sum_mono (even_group n name (weights order)) (even_group n name (path_ends order)) n (λ l k. even_at_ends order h l),
        ap (sum_below n) (fun_ext (parity order)),
        each_pays n name (path_ends order) (below_path_ends n order b),
        length_path_ends order,
      )

  -- a group counts the same in another order
  pub even_group_reordered : {L M : List Ends} → Reordered L M → (l : ℕ) → even_group n name (weights L) l ≡ even_group n name (weights M) l
  unfolding even_group odd_members
  even_group_reordered r l =
      ap₂ all_even (names_reordered name l r) (ap (sum_below n) (fun_ext λ w. ap (λ (d : ℕ). agree l (name w) * d) (oddly-reordered r w)))

-- every order and turning of the strings has at least E + O / 2 paths
pub lower : (strings order : List Ends) → Reordered strings order → least strings ≤ path_count order
unfolding least even_groups odd_weights count_even_groups count_odd
lower strings order r =
    let n = above (weights strings) in
    omega (
      arith,
      lower_level n (name_of strings) order (level_reordered (name_of strings) r (name_level strings)) (below_reordered n r (above-all (weights strings))),
      ap (sum_below n) (fun_ext (even_group_reordered n (name_of strings) r)),
      ap (sum_below n) (fun_ext (oddly-reordered r)),
    )
