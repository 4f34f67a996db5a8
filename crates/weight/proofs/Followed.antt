-- Judging a run list as a loop goes over its two tables. Assumes nothing.
use mathlib.Core.Path.{◌≡◌, refl, sym, ap, ap₂, ◌∙◌}
use mathlib.Core.Bool.{Bool, false, ◌&&◌}
use mathlib.Core.List.{List, [], ◌∷◌}
use Prim.Native.Nat.{ℕ, suc, ◌-◌}
use native.Mathlib.Omega.{arith}
use lib.Dec.{eqb}
use lib.ListN.{length, take, drop, get_or}
use lib.Seq.{take_all}
use Rattle.lists.proofs.Every.{and_assoc, and_true, and_no}
use Rattle.weight.specs.RunList.{begins, follows, all_follow, is_run_list}

module _ (n : ℕ) where
  follow_uneven : (w f : ℕ) (ws fs : List ℕ) → (length ws ≡ length fs → ⊥) → all_follow n w f ws fs ≡ false
  unfolding all_follow
  follow_uneven w f [] [] h = absurd (h refl)
  follow_uneven w f [] (g ∷ fs) h = refl
  follow_uneven w f (v ∷ ws) [] h = refl
  follow_uneven w f (v ∷ ws) (g ∷ fs) h = and_no (follows n w f v g) (follow_uneven v g ws fs (λ e. h (ap suc e)))

  -- tables of unequal length are no run list
  pub list_uneven : (ws fs : List ℕ) → (length ws ≡ length fs → ⊥) → is_run_list n ws fs ≡ false
  unfolding is_run_list
  list_uneven [] [] h = absurd (h refl)
  list_uneven [] (f ∷ fs) h = refl
  list_uneven (w ∷ ws) [] h = refl
  list_uneven (w ∷ ws) (f ∷ fs) h = and_no (begins n w f) (follow_uneven w f ws fs (λ e. h (ap suc e)))

  -- empty tables are the run list of no k-mers
  pub list_none : (ws fs : List ℕ) → length ws ≡ length fs → length ws ≡ 0 → is_run_list n ws fs ≡ eqb n 0
  unfolding is_run_list
  list_none [] [] e h = refl
  list_none [] (f ∷ fs) e h = absurd (omega arith)
  list_none (w ∷ ws) fs e h = absurd (omega arith)

-- A loop tests one run after the other: `good` is the test of those before, the last of them (w, f), and `all` that of the whole list. ws and fs are left.
pub record Judging (n : ℕ) (all good : Bool) (w f : ℕ) (ws fs : List ℕ) : Type 0 where
  pub even : length ws ≡ length fs
  pub whole : all ≡ (good && all_follow n w f ws fs)

-- the first run is tested
pub judge_first : (n : ℕ) (ws fs vs gs : List ℕ) → length ws ≡ length fs → (length ws ≡ 0 → ⊥) → (t : Bool) → t ≡ begins n (get_or ws 0 0) (get_or fs 0 0)
    → vs ≡ take (length ws - 1) (drop 1 ws) → gs ≡ take (length fs - 1) (drop 1 fs)
    → Judging n (is_run_list n ws fs) t (get_or ws 0 0) (get_or fs 0 0) vs gs
unfolding is_run_list
judge_first n [] fs vs gs e h t b p q = absurd (h refl)
judge_first n (w ∷ ws) [] vs gs e h t b p q = absurd (omega arith)
judge_first n (w ∷ ws) (f ∷ fs) vs gs e h t b p q =
    let v : vs ≡ ws = p ∙ take_all (suc (length ws) - 1) ws (omega arith) in
    let g : gs ≡ fs = q ∙ take_all (suc (length fs) - 1) fs (omega arith) in
    record {
      even = ap length v ∙ (omega (arith, ap length g));
      whole = ap (λ (x : Bool). x && all_follow n w f ws fs) (sym b) ∙ ap₂ (λ (xs ys : List ℕ). t && all_follow n w f xs ys) (sym v) (sym g);
    }

module _ {n : ℕ} {all good : Bool} {w f : ℕ} {ws fs : List ℕ} (s : Judging n all good w f ws fs) where
  -- the next run is
  pub judge_next : {v g : ℕ} {vs gs : List ℕ} → ws ≡ v ∷ vs → fs ≡ g ∷ gs → {t : Bool} → t ≡ follows n w f v g → Judging n all (good && t) v g vs gs
  unfolding all_follow
  judge_next {v} {g} {vs} {gs} p q e =
      record {
        even = omega (arith, s.even, ap length p, ap length q);
        whole =
            s.whole
            ∙ (ap₂ (λ (xs ys : List ℕ). good && all_follow n w f xs ys) p q
            ∙ (and_assoc good (follows n w f v g) (all_follow n v g vs gs) ∙ ap (λ (b : Bool). (good && b) && all_follow n v g vs gs) (sym e)));
      }

  -- no run is left
  pub judge_end : ws ≡ [] → fs ≡ [] → good ≡ all
  unfolding all_follow
  judge_end p q = sym (s.whole ∙ (ap₂ (λ (xs ys : List ℕ). good && all_follow n w f xs ys) p q ∙ and_true good))
