-- Some order and turning has E + O / 2 paths.
-- With the spokes all weights are even. One walk from the hub, then a walk from each weight of a string that is still unused, use all strings.
-- Without the spokes the first walk is O / 2 paths. Each later walk is one path, and starts in an all-even group of its own: when a walk starts, each weight
-- has all of its strings used or none, so each group has; and a group with an odd weight hangs on the hub, whose strings are used.
use mathlib.Core.Path.{◌≡◌, refl, ap, sym, subst}
use mathlib.Core.List.{List, [], ◌∷◌, ◌++◌, map, append_assoc}
use Prim.Native.Nat.{ℕ, zero, suc, ◌+◌, ◌/◌, ◌%◌, ◌≤◌, ◌<◌}
use native.Mathlib.Omega.{arith}
use native.Mathlib.Decide.{ℕ_discrete, dec_lt}
use lib.ListN.{length, length-append}
use Rattle.lists.proofs.Every.{all_append, all_left, all_right}
use Rattle.cover_trails.specs.Counting.{occurs, oddly}
use Rattle.cover_trails.specs.Strings.{Ends, front, weights}
use Rattle.cover_trails.specs.Paths.{path_count}
use Rattle.cover_trails.specs.Hub.{reached_if, reached_by, groups_reached, Toured, spokes, limit, spoked, unspoked}
use Rattle.cover_trails.specs.Groups.{name_of, odd_members, even_group, count_even_groups, even_groups, odd_weights, least}
use Rattle.cover_trails.specs.Walks.{Reordered, both, Closed}
use Rattle.lists.proofs.Agree.{agree_same}
use Rattle.cover_trails.proofs.Counting.{sum_mono, sum_at, occurs-map, occurs-map_not, oddly_le, above-all}
use Rattle.cover_trails.proofs.Orders.{reordered-left, length-reordered, occurs-reordered, occurs-both, names_both}
use Rattle.cover_trails.proofs.Paths.{paths-append, chain_one_path}
use Rattle.cover_trails.proofs.Groups.{name_below, Carries, Carried, carried_group, carried_back, carried_all, carried_none}
use Rattle.cover_trails.proofs.EvenGroups.{even_is, no_odd_members}
use Rattle.cover_trails.proofs.Lower.{lower}
use Rattle.cover_trails.proofs.Walk.{walked}
use Rattle.cover_trails.proofs.Hub.{limit-fresh, odd_weights_even, spoked_hub, spoked_below, spoked_beyond, spoked_even, carried_spokes}
use Rattle.cover_trails.proofs.Unspoked.{unspoked-append, unspoked-reordered, unspoked_own, unspoked-spoked, cut_chain}

-- ─── the even groups that are reached ────────────────────────────────────────

reached_le : (m n : ℕ) → reached_if m n ≤ m
reached_le zero n = omega arith
reached_le (suc m) zero = omega arith
reached_le (suc m) (suc n) = omega arith

reached_mono : (m n k : ℕ) → n ≤ k → reached_if m n ≤ reached_if m k
reached_mono zero n k h = omega arith
reached_mono (suc m) zero k h = omega arith
reached_mono (suc m) (suc n) zero h = absurd (omega arith)
reached_mono (suc m) (suc n) (suc k) h = omega arith

reached_is : (m n : ℕ) → 1 ≤ m → 1 ≤ n → reached_if m n ≡ 1
reached_is zero n h k = absurd (omega arith)
reached_is (suc m) zero h k = absurd (omega arith)
reached_is (suc m) (suc n) h k = refl

reached_not : (m : ℕ) → reached_if m 0 ≡ 0
reached_not zero = refl
reached_not (suc m) = refl

-- ─── the walks ───────────────────────────────────────────────────────────────

-- the first walk, from the hub
pub first_walk : {h : ℕ} {strings U Z : List Ends} → occurs h (weights strings) ≡ 0 → Closed h (spoked h strings) U Z → Toured h strings 0 U Z
first_walk {h} {strings} {U} {Z} fresh k = record {
  all = k.all;
  even = k.even;
  apart = k.spent;
  hub_spent = k.home;
  few =
      omega (
        arith,
        cut_chain h h Z k.chain,
        agree_same h h refl,
        spoked_hub h strings fresh,
        occurs-reordered k.all h,
        occurs-both h U Z,
      );
  own_groups = omega arith;
}

-- A later walk, from a weight s of a string that is left.
module _ {h : ℕ} {strings : List Ends} {j : ℕ} {U Y : List Ends} (fresh : occurs h (weights strings) ≡ 0) (k : Toured h strings j U Y) (s : ℕ)
    (left : 1 ≤ occurs s (weights U)) where
  Spent : ℕ → Type 0
  Spent v = occurs v (weights U) ≡ 0

  spent_carried : Carried Spent (spoked h strings)
  unfolding Spent
  spent_carried = carried_back Spent k.all (all_append (Carries Spent) U Y (carried_none Spent U (λ v l z. omega arith)) (carried_all Spent Y k.apart))

  -- no weight in the group of s is spent
  unspent : (v : ℕ) → name_of strings s ≡ name_of strings v → occurs v (weights U) ≡ 0 → ⊥
  unfolding Spent
  unspent v e z =
      omega (arith, carried_group Spent strings (all_right (Carries Spent) (spokes h (weights strings) (limit strings)) strings spent_carried) v s (sym e) z)

  -- every odd weight is
  odd_spent : (w : ℕ) → w < limit strings → oddly (weights strings) w ≡ 1 → occurs w (weights U) ≡ 0
  unfolding Spent
  odd_spent w l o =
      carried_spokes Spent h (weights strings) (limit strings) (all_left (Carries Spent) (spokes h (weights strings) (limit strings)) strings spent_carried)
      k.hub_spent w l o

  within : occurs s (weights U) ≤ occurs s (weights (spoked h strings))
  within = omega (arith, occurs-reordered k.all s, occurs-both s U Y)

  off_hub : s ≡ h → ⊥
  off_hub e = omega (arith, ap (λ (x : ℕ). occurs x (weights U)) e, k.hub_spent)

  below_limit : s < limit strings
  below_limit = go (dec_lt s (limit strings))
    where
      go : Dec (s < limit strings) → s < limit strings
      go (yes l) = l
      go (no l) = absurd (omega (arith, spoked_beyond h strings fresh s off_hub (omega arith), within))

  own_weight : 1 ≤ occurs s (weights strings)
  own_weight = omega (arith, spoked_below h strings fresh s off_hub below_limit, within, own)
    where
      own : oddly (weights strings) s ≡ occurs s (weights strings) % 2
      own = unfold oddly in refl

  no_odd_member : odd_members (limit strings) (name_of strings) (weights strings) (name_of strings s) ≡ 0
  no_odd_member =
      no_odd_members (limit strings) (name_of strings) (weights strings) (name_of strings s) (λ w l e. go w l e (ℕ_discrete (oddly (weights strings) w) 1))
    where
      go : (w : ℕ) → w < limit strings → name_of strings s ≡ name_of strings w → Dec (oddly (weights strings) w ≡ 1) → oddly (weights strings) w ≡ 0
      go w l e (yes o) = absurd (unspent w e (odd_spent w l o))
      go w l e (no o) = omega (arith, oddly_le (weights strings) w)

  -- the group of s is all even
  pub starts_even : even_group (limit strings) (name_of strings) (weights strings) (name_of strings s) ≡ 1
  unfolding even_group
  starts_even =
      even_is (occurs (name_of strings s) (map (name_of strings) (weights strings)))
      (odd_members (limit strings) (name_of strings) (weights strings) (name_of strings s))
      (occurs-map (name_of strings) s (weights strings) own_weight) no_odd_member

  -- and no earlier walk was in it
  pub starts_new : occurs (name_of strings s) (map (name_of strings) (weights Y)) ≡ 0
  starts_new = occurs-map_not (name_of strings) (name_of strings s) (weights Y) (λ v l e. unspent v e (k.apart v l))

  module _ {R Z : List Ends} (t : Closed s U R Z) where
    -- the walk has a string at its start
    pub walk_at_start : 1 ≤ occurs s (weights Z)
    walk_at_start = omega (arith, occurs-reordered t.all s, occurs-both s R Z, t.home)

    hub_off : occurs h (weights Z) ≡ 0
    hub_off = omega (arith, occurs-reordered t.all h, occurs-both h R Z, k.hub_spent)

    grows : (l : ℕ) → reached_by strings Y l ≤ reached_by strings (Z ++ Y) l
    grows l =
        reached_mono (even_group (limit strings) (name_of strings) (weights strings) l) (occurs l (map (name_of strings) (weights Y)))
        (occurs l (map (name_of strings) (weights (Z ++ Y)))) (omega (arith, names_both (name_of strings) l Z Y))

    not_before : reached_by strings Y (name_of strings s) ≡ 0
    not_before = rw starts_new (reached_not (even_group (limit strings) (name_of strings) (weights strings) (name_of strings s)))

    now_reached : reached_by strings (Z ++ Y) (name_of strings s) ≡ 1
    now_reached =
        reached_is (even_group (limit strings) (name_of strings) (weights strings) (name_of strings s))
        (occurs (name_of strings s) (map (name_of strings) (weights (Z ++ Y))))
        (omega (arith, starts_even))
        (omega (arith, names_both (name_of strings) (name_of strings s) Z Y, occurs-map (name_of strings) s (weights Z) walk_at_start))

    -- so one more all-even group is reached
    pub one_more_reached : suc (groups_reached strings Y) ≤ groups_reached strings (Z ++ Y)
    one_more_reached =
        omega (
          arith,
          sum_at (reached_by strings Y) (reached_by strings (Z ++ Y)) (limit strings) (name_of strings s)
              (name_below (limit strings) strings (above-all (weights strings)) s below_limit) (λ l b q. grows l),
          now_reached,
          not_before,
        )

    gone : (v : ℕ) → 1 ≤ occurs v (weights (Z ++ Y)) → Dec (0 < occurs v (weights Z)) → occurs v (weights R) ≡ 0
    gone v l (yes p) = t.spent v p
    gone v l (no p) =
        omega (arith, occurs-reordered t.all v, occurs-both v R Z, k.apart v (omega (arith, occurs-both v Z Y)))

    -- the state after the walk
    pub later-walk : Toured h strings (suc j) R (Z ++ Y)
    later-walk = record {
      all = both k.all (subst (λ (L : List Ends). Reordered (U ++ Y) L) (append_assoc R Z Y) (reordered-left Y t.all));
      even = t.even;
      apart = λ v l. gone v l (dec_lt 0 (occurs v (weights Z)));
      hub_spent = omega (arith, occurs-reordered t.all h, occurs-both h R Z, k.hub_spent);
      few =
          omega (
            arith,
            k.few,
            ap path_count (unspoked-append h Z Y),
            paths-append (unspoked h Z) (unspoked h Y),
            ap path_count (unspoked_own h Z hub_off),
            chain_one_path s Z s t.chain,
          );
      own_groups = omega (arith, k.own_groups, one_more_reached);
    }

-- ─── when no string is left ──────────────────────────────────────────────────

module _ {h : ℕ} {strings : List Ends} {j : ℕ} {Y : List Ends} (fresh : occurs h (weights strings) ≡ 0) (k : Toured h strings j [] Y) where
  -- without the spokes, Y is an order and turning of the strings
  pub toured_reordered : Reordered strings (unspoked h Y)
  toured_reordered = subst (λ (L : List Ends). Reordered L (unspoked h Y)) (unspoked-spoked h strings fresh) (unspoked-reordered h k.all)

  reached_all : groups_reached strings Y ≤ even_groups strings
  unfolding even_groups count_even_groups
  reached_all =
      sum_mono (reached_by strings Y) (even_group (limit strings) (name_of strings) (weights strings)) (limit strings)
      (λ l q. reached_le (even_group (limit strings) (name_of strings) (weights strings) l) (occurs l (map (name_of strings) (weights Y))))

  -- there are as many later walks as all-even groups
  pub toured_walks : j ≡ even_groups strings
  unfolding least
  toured_walks = omega (arith, k.few, k.own_groups, reached_all, odd_weights_even strings, lower strings (unspoked h Y) toured_reordered)

  -- so that O / 2 and the later walks are the least number of paths
  pub toured_answer : odd_weights strings / 2 + j ≡ least strings
  unfolding least
  toured_answer = omega (arith, toured_walks)

  -- which the order has
  pub toured_least : path_count (unspoked h Y) ≡ least strings
  unfolding least
  toured_least = omega (arith, k.few, toured_walks, lower strings (unspoked h Y) toured_reordered)

-- ─── the bound ───────────────────────────────────────────────────────────────

-- each walk leaves fewer strings
walks : (h : ℕ) (strings : List Ends) → occurs h (weights strings) ≡ 0 → (n j : ℕ) (U Y : List Ends) → length U < n → Toured h strings j U Y
    → (order : List Ends) × Reordered strings order × (path_count order ≡ least strings)
walks h strings fresh zero j U Y l k = absurd (omega arith)
walks h strings fresh (suc n) j [] Y l k = (unspoked h Y, toured_reordered fresh k, toured_least fresh k)
walks h strings fresh (suc n) j (e ∷ U) Y l k =
    let here : 1 ≤ occurs (front e) (weights (e ∷ U)) = unfold occurs weights in (omega (arith, agree_same (front e) (front e) refl)) in
    let t = walked (front e) (e ∷ U) k.even in
    walks h strings fresh n (suc j) t.0 (t.1 ++ Y) (shorter t.0 t.1 t.2 (walk_at_start fresh k (front e) here t.2))
    (later-walk fresh k (front e) here t.2)
  where
    nonempty : (w : ℕ) (Z : List Ends) → 1 ≤ occurs w (weights Z) → 1 ≤ length Z
    nonempty w [] p = absurd (unfold occurs weights in (omega arith))
    nonempty w (f ∷ Z) p = omega arith

    shorter : (R Z : List Ends) → Closed (front e) (e ∷ U) R Z → 1 ≤ occurs (front e) (weights Z) → length R < n
    shorter R Z t p = omega (arith, length-reordered t.all, length-append R Z, nonempty (front e) Z p)

-- some order and turning of the strings has E + O / 2 paths
pub upper : (strings : List Ends) → (order : List Ends) × Reordered strings order × (path_count order ≡ least strings)
upper strings =
    let h = limit strings in
    let fresh = limit-fresh strings in
    let t = walked h (spoked h strings) (spoked_even h strings fresh) in
    walks h strings fresh (suc (length t.0)) 0 t.0 t.1 (omega arith) (first_walk fresh t.2)
