-- Laws of a sieve on lists: a slot with two ids is told twice, so both are kept; what is kept stands in its order; so of ids of one key none is lost, and the
-- lowest that has the key of a smaller one is the same before and after. By induction on the list. Assumes nothing.
use mathlib.Core.Path.{◌≡◌, refl, sym, ap, subst, ◌∙◌}
use mathlib.Core.Logic.{⊎_elim}
use mathlib.Core.List.{List, [], ◌∷◌}
use Prim.Native.Nat.{ℕ, zero, suc, ◌+◌, ◌<◌, ◌≤◌}
use native.Mathlib.Nat.{not-suc-le-zero, zero-add}
use native.Mathlib.Omega.{arith}
use lib.ListN.{length, get_or}
use Rattle.lists.specs.Count.{count_from}
use Rattle.lists.specs.Every.{All}
use Rattle.lists.specs.Pairs.{Pairs}
use Rattle.lists.specs.Pick.{pick}
use Rattle.lists.proofs.Compare.{lt_or_le, eq_or_ne}
use Rattle.lists.proofs.Count.{count_at, length_count, all_count}
use Rattle.lists.proofs.Pairs.{count_rises}
use Rattle.lists.proofs.Picks.{pick_nil, pick_here, pick_other, all_pick}
use Rattle.repeats_sieving.specs.Kept.{to_two, told_of, kept, Stands, Sieved}

-- ─── up to 2 ─────────────────────────────────────────────────────────────────

pub to_two_none : to_two 0 ≡ 0
unfolding to_two
to_two_none = refl

pub to_two_le : (n : ℕ) → to_two n ≤ 2
unfolding to_two
to_two_le zero = omega arith
to_two_le (suc zero) = omega arith
to_two_le (suc (suc n)) = omega arith

pub to_two_many : (n : ℕ) → 2 ≤ n → to_two n ≡ 2
unfolding to_two
to_two_many zero h = absurd (let z : ⊥ = omega arith in z)
to_two_many (suc zero) h = absurd (let z : ⊥ = omega arith in z)
to_two_many (suc (suc n)) h = refl

-- one more can be told from what was told
pub to_two_more : (n : ℕ) → to_two (to_two n + 1) ≡ to_two (n + 1)
unfolding to_two
to_two_more zero = refl
to_two_more (suc zero) = refl
to_two_more (suc (suc n)) = let q : suc (suc n) + 1 ≡ suc (suc (n + 1)) = omega arith in sym (ap to_two q)

-- the definitions, for what must not unfold them
pub told_is : (f : ℕ → ℕ) (xs : List ℕ) (s : ℕ) → told_of f xs s ≡ to_two (length (pick f s xs))
unfolding told_of
told_is f xs s = refl

pub kept_is : (f : ℕ → ℕ) (xs : List ℕ) → kept f xs ≡ pick (λ x. told_of f xs (f x)) 2 xs
unfolding kept
kept_is f xs = refl

-- ─── picks ───────────────────────────────────────────────────────────────────

module _ (f : ℕ → ℕ) (d : ℕ) where
  -- one element more, of any key
  pick_longer : (x : ℕ) (xs : List ℕ) → length (pick f d xs) ≤ length (pick f d (x ∷ xs))
  pick_longer x xs =
      ⊎_elim (λ (e : f x ≡ d). rw (pick_here f d x xs e) (omega arith)) (λ (n : f x ≡ d → ⊥). rw (pick_other f d x xs n) (omega arith)) (eq_or_ne (f x) d)

  one_place : (xs : List ℕ) (i : ℕ) → i < length xs → f (get_or xs i 0) ≡ d → 1 ≤ length (pick f d xs)
  one_place [] i l e = absurd (not-suc-le-zero l)
  one_place (x ∷ xs) zero l e = rw (pick_here f d x xs e) (omega arith)
  one_place (x ∷ xs) (suc i) l e = omega (arith, one_place xs i (omega arith) e, pick_longer x xs)

  -- two places of one key are two elements of its group
  pub two_places : (xs : List ℕ) (i j : ℕ) → i < j → j < length xs → f (get_or xs i 0) ≡ d → f (get_or xs j 0) ≡ d → 2 ≤ length (pick f d xs)
  two_places [] i j h l e q = absurd (not-suc-le-zero l)
  two_places (x ∷ xs) i zero h l e q = absurd (not-suc-le-zero h)
  two_places (x ∷ xs) zero (suc j) h l e q = rw (pick_here f d x xs e) (omega (arith, one_place xs j (omega arith) q))
  two_places (x ∷ xs) (suc i) (suc j) h l e q = omega (arith, two_places xs i j (omega arith) (omega arith) e q, pick_longer x xs)

  stands_longer : (y x : ℕ) (xs : List ℕ) → Stands y (pick f d xs) → Stands y (pick f d (x ∷ xs))
  stands_longer y x xs s =
      ⊎_elim (λ (e : f x ≡ d). rw (pick_here f d x xs e) (suc s.0, omega (arith, s.1), s.2))
      (λ (n : f x ≡ d → ⊥). rw (pick_other f d x xs n) s)
      (eq_or_ne (f x) d)

  -- an element of the key is picked
  pub stands_pick : (xs : List ℕ) (i : ℕ) → i < length xs → f (get_or xs i 0) ≡ d → Stands (get_or xs i 0) (pick f d xs)
  stands_pick [] i l e = absurd (not-suc-le-zero l)
  stands_pick (x ∷ xs) zero l e = rw (pick_here f d x xs e) (0, omega arith, refl)
  stands_pick (x ∷ xs) (suc i) l e = stands_longer (get_or xs i 0) x xs (stands_pick xs i (omega arith) e)

  -- what is picked stands in its order
  pub pairs_pick : (R : ℕ → ℕ → Type 0) (xs : List ℕ) → Pairs R xs → Pairs R (pick f d xs)
  pairs_pick R [] p = rw (pick_nil f d) tt
  pairs_pick R (x ∷ xs) p =
      ⊎_elim (λ (e : f x ≡ d). rw (pick_here f d x xs e) (all_pick f (R x) d xs p.0, pairs_pick R xs p.1))
      (λ (n : f x ≡ d → ⊥). rw (pick_other f d x xs n) (pairs_pick R xs p.1))
      (eq_or_ne (f x) d)

-- ─── what is kept ────────────────────────────────────────────────────────────

module _ (f : ℕ → ℕ) (xs : List ℕ) where
  -- ids at two places, of one slot, are kept: the first and the second
  pub kept-both : (i j : ℕ) → i < j → j < length xs → f (get_or xs i 0) ≡ f (get_or xs j 0) → Stands (get_or xs i 0) (kept f xs)
      × Stands (get_or xs j 0) (kept f xs)
  kept-both i j h l e =
      let t : told_of f xs (f (get_or xs j 0)) ≡ 2 = told_is f xs (f (get_or xs j 0)) ∙ to_two_many _ (two_places f (f (get_or xs j 0)) xs i j h l e refl) in
      rw (kept_is f xs) (
        stands_pick (λ x. told_of f xs (f x)) 2 xs i (omega arith) (ap (told_of f xs) e ∙ t),
        stands_pick (λ x. told_of f xs (f x)) 2 xs j l t,
      )

  -- a sublist in the same order: what holds of each id, and from each to each later one, goes on to hold
  pub kept-all : (P : ℕ → Type 0) → All P xs → All P (kept f xs)
  kept-all P h = rw (kept_is f xs) (all_pick (λ x. told_of f xs (f x)) P 2 xs h)

  pub kept_pairs : (R : ℕ → ℕ → Type 0) → Pairs R xs → Pairs R (kept f xs)
  kept_pairs R h = rw (kept_is f xs) (pairs_pick (λ x. told_of f xs (f x)) 2 R xs h)

-- ─── sieves one after the other ──────────────────────────────────────────────

-- all ids, before the first
pub sieved_all : (key : ℕ → ℕ) (n : ℕ) → Sieved key n (count_from 0 n)
sieved_all key n =
    record {
      inside = all_count (λ x. x < n) 0 n (λ j l h. omega arith);
      rises = count_rises 0 n;
      twins = λ x y l h e. (stands x h, stands y (omega arith));
    }
  where
    stands : (x : ℕ) → x < n → Stands x (count_from 0 n)
    stands x l = (x, omega (arith, length_count 0 n), count_at 0 n x l ∙ zero-add x)

-- one sieve more, by a slot that is the same for ids of one key
pub sieved_kept : {key : ℕ → ℕ} {n : ℕ} {xs : List ℕ} (f : ℕ → ℕ) → ((x y : ℕ) → key x ≡ key y → f x ≡ f y) → Sieved key n xs → Sieved key n (kept f xs)
sieved_kept {key} {n} {xs} f same s =
    record {
      inside = kept-all f xs (λ x. x < n) s.inside;
      rises = kept_pairs f xs (λ x y. x < y) s.rises;
      twins = λ x y l h e. both x y l e (s.twins x y l h e).0 (s.twins x y l h e).1;
    }
  where
    both : (x y : ℕ) → y < x → key y ≡ key x → Stands x xs → Stands y xs → Stands x (kept f xs) × Stands y (kept f xs)
    both x y l e p q =
        let slots : f (get_or xs q.0 0) ≡ f (get_or xs p.0 0) = ap f q.2 ∙ (same y x e ∙ ap f (sym p.2)) in
        ⊎_elim
        (λ (a : q.0 < p.0).
        let k = kept-both f xs q.0 p.0 a p.1 slots in
        (subst (λ (z : ℕ). Stands z (kept f xs)) p.2 k.1, subst (λ (z : ℕ). Stands z (kept f xs)) q.2 k.0))
        (λ (a : p.0 ≤ q.0).
        ⊎_elim (λ (b : p.0 ≡ q.0). absurd (let z : ⊥ = omega (arith, ap (λ (i : ℕ). get_or xs i 0) b, p.2, q.2) in z))
        (λ (b : p.0 ≡ q.0 → ⊥).
        let k = kept-both f xs p.0 q.0 (omega arith) q.1 (sym slots) in
        (subst (λ (z : ℕ). Stands z (kept f xs)) p.2 k.0, subst (λ (z : ℕ). Stands z (kept f xs)) q.2 k.1))
        (eq_or_ne p.0 q.0))
        (lt_or_le q.0 p.0)
