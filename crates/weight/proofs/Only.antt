-- The run list of weights is the only one: a good list that gives each handle its weight is it. Assumes nothing.
use mathlib.Core.Path.{◌≡◌, refl, sym, ap, ap₂, ◌∙◌, subst}
use mathlib.Core.Bool.{Bool, true, not, ◌&&◌}
use mathlib.Core.List.{List, [], ◌∷◌, map}
use Prim.Native.Nat.{ℕ, suc, ◌+◌, ◌-◌, ◌<◌, ◌≤◌}
use native.Mathlib.Decide.{ℕ_discrete}
use native.Mathlib.Omega.{arith}
use borrow.Author.Tests.{le-leb, leb-true, eqb-true, eqb-false, not-true}
use lib.Dec.{leb, ltb, eqb}
use lib.ListN.{length, get_or}
use Rattle.lists.specs.Choose.{choose}
use Rattle.lists.specs.Every.{All}
use Rattle.lists.proofs.Every.{and_left, and_right, all_map}
use Rattle.lists.proofs.Refuted.{never}
use Rattle.collection_faults.specs.Faults.{is_weight}
use Rattle.collection.specs.Kmers.{weight_of}
use Rattle.runs.specs.Runs.{Run, later_runs, runs, weights_of_runs, firsts_of_runs}
use Rattle.weight.specs.RunList.{follows, all_follow, is_run_list, last_at, weight_at}
use Rattle.weight.proofs.RunLists.{Later, follow_good, last_none}
use Rattle.runs.proofs.Later.{later-nil, later_equal, later-other}

-- two tables are the columns of runs
abbrev Columns : List ℕ → List ℕ → List Run → Type 0
Columns vs gs rs = (vs ≡ map (λ r. r.0) rs) × (gs ≡ map (λ r. r.1) rs)

-- the tables vs, gs follow a run (w, f) and start after handle h; they give the handles h to n the weights w ∷ us
module _ (n : ℕ) where
  later_only : (us : List ℕ) (h w f : ℕ) (vs gs : List ℕ) → h + length us ≡ n → all_follow n w f vs gs ≡ true → All (λ g. h < g) gs
      → ((handle : ℕ) → h ≤ handle → handle ≤ n → last_at handle w vs gs ≡ get_or (w ∷ us) (handle - h) 0) → Columns vs gs (later_runs h w us)
  unfolding all_follow last_at
  later_only [] h w f [] [] e a b k = (ap (map (λ r. r.0)) (sym (later-nil h w)), ap (map (λ r. r.1)) (sym (later-nil h w)))
  later_only [] h w f [] (g ∷ gs) e a b k = never a
  later_only [] h w f (v ∷ vs) [] e a b k = never a
  later_only [] h w f (v ∷ vs) (g ∷ gs) e a b k =
      absurd (let z = (follow_good n w f (v ∷ vs) (g ∷ gs) a).within.0 in let y = b.0 in let x : ⊥ = omega arith in x)
  later_only (u ∷ us) h w f [] [] e a b k =
      let d : u ≡ w = sym (k (suc h) (omega arith) (omega arith) ∙ at_next) in
      let r = later_only us (suc h) w f [] [] (omega arith) a tt (λ handle l m. later handle l m d) in
      (r.0 ∙ ap (map (λ r. r.0)) (sym (later_equal h w u us d)), r.1 ∙ ap (map (λ r. r.1)) (sym (later_equal h w u us d)))
    where
      at_next : get_or (w ∷ (u ∷ us)) (suc h - h) 0 ≡ u
      at_next = let z : suc h - h ≡ 1 = omega arith in ap (λ (i : ℕ). get_or (w ∷ (u ∷ us)) i 0) z

      later : (handle : ℕ) → suc h ≤ handle → handle ≤ n → u ≡ w → w ≡ get_or (w ∷ us) (handle - suc h) 0
      later handle l m d =
          let z : handle - h ≡ suc (handle - suc h) = omega arith in
          k handle (omega arith) m ∙ (ap (λ (i : ℕ). get_or (w ∷ (u ∷ us)) i 0) z ∙ ap (λ (x : ℕ). get_or (x ∷ us) (handle - suc h) 0) d)
  later_only (u ∷ us) h w f [] (g ∷ gs) e a b k = never a
  later_only (u ∷ us) h w f (v ∷ vs) [] e a b k = never a
  later_only (u ∷ us) h w f (v ∷ vs) (g ∷ gs) e a b k =
      go (ℕ_discrete g (suc h)) (later_only us (suc h) w f (v ∷ vs) (g ∷ gs) (omega arith) a)
      (later_only us (suc h) v g vs gs (omega arith) (and_right (follows n w f v g) (all_follow n v g vs gs) a))
    where
      at_next : get_or (w ∷ (u ∷ us)) (suc h - h) 0 ≡ u
      at_next = let z : suc h - h ≡ 1 = omega arith in ap (λ (i : ℕ). get_or (w ∷ (u ∷ us)) i 0) z

      shift : (handle : ℕ) → suc h ≤ handle → (x : ℕ) → x ≡ u → get_or (w ∷ (u ∷ us)) (handle - h) 0 ≡ get_or (x ∷ us) (handle - suc h) 0
      shift handle l x d =
          let z : handle - h ≡ suc (handle - suc h) = omega arith in
          ap (λ (i : ℕ). get_or (w ∷ (u ∷ us)) i 0) z ∙ ap (λ (y : ℕ). get_or (y ∷ us) (handle - suc h) 0) (sym d)

      differ : v ≡ w → ⊥
      differ = eqb-false v w
          (not-true (eqb v w)
          (and_right (is_weight v) (not (eqb v w))
          (and_left (is_weight v && not (eqb v w)) (ltb f g && leb g n) (and_left (follows n w f v g) (all_follow n v g vs gs) a))))

      r : Later n v g vs gs
      r = follow_good n v g vs gs (and_right (follows n w f v g) (all_follow n v g vs gs) a)

      go : Dec (g ≡ suc h)
          → (All (λ x. suc h < x) (g ∷ gs) → ((handle : ℕ) → suc h ≤ handle → handle ≤ n
          → last_at handle w (v ∷ vs) (g ∷ gs) ≡ get_or (w ∷ us) (handle - suc h) 0)
          → Columns (v ∷ vs) (g ∷ gs) (later_runs (suc h) w us))
          → (All (λ x. suc h < x) gs → ((handle : ℕ) → suc h ≤ handle → handle ≤ n → last_at handle v vs gs ≡ get_or (v ∷ us) (handle - suc h) 0)
          → Columns vs gs (later_runs (suc h) v us))
          → Columns (v ∷ vs) (g ∷ gs) (later_runs h w (u ∷ us))
      go (yes p) same other =
          let q : All (λ x. suc h < x) gs = subst (λ (y : ℕ). All (λ x. y < x) gs) p r.above in
          let here : (handle : ℕ) → suc h ≤ handle
          → last_at handle w (v ∷ vs) (g ∷ gs) ≡ last_at handle v vs gs =
          λ handle l. ap (λ (t : Bool). last_at handle (choose t v w) vs gs) (le-leb g handle (omega arith)) in
          let d : v ≡ u = sym (last_none (suc h) v vs gs q) ∙ (sym (here (suc h) (omega arith)) ∙ (k (suc h) (omega arith) (omega arith) ∙ at_next)) in
          let c = other q (λ handle l m. sym (here handle l) ∙ (k handle (omega arith) m ∙ shift handle l v d)) in
          let s : later_runs h w (u ∷ us) ≡ (v, g) ∷ later_runs (suc h) v us =
          later-other h w u us (λ x. differ (d ∙ x)) ∙ ap₂ (λ (x y : ℕ). (x, y) ∷ later_runs (suc h) x us) (sym d) (sym p) in (
            ap (λ (l : List ℕ). v ∷ l) c.0 ∙ ap (map (λ r. r.0)) (sym s),
            ap (λ (l : List ℕ). g ∷ l) c.1 ∙ ap (map (λ r. r.1)) (sym s),
          )
      go (no p) same other =
          let y = b.0 in
          let q : All (λ x. suc h < x) (g ∷ gs) = (omega arith, all_map (λ x l. let z : suc h < x = omega arith in z) gs r.above) in
          let d : w ≡ u = sym (last_none (suc h) w (v ∷ vs) (g ∷ gs) q) ∙ (k (suc h) (omega arith) (omega arith) ∙ at_next) in
          let c = same q (λ handle l m. k handle (omega arith) m ∙ shift handle l w d) in
          (c.0 ∙ ap (map (λ r. r.0)) (sym (later_equal h w u us (sym d))), c.1 ∙ ap (map (λ r. r.1)) (sym (later_equal h w u us (sym d))))

-- a good list of n k-mers that gives each handle its weight is the run list of the weights
pub runs_only : (ws vs gs : List ℕ) → is_run_list (length ws) vs gs ≡ true
    → ((handle : ℕ) → 1 ≤ handle → handle ≤ length ws → weight_at handle vs gs ≡ weight_of ws handle)
    → (vs ≡ weights_of_runs ws) × (gs ≡ firsts_of_runs ws)
unfolding is_run_list runs last_at
runs_only [] [] [] a k = (refl, refl)
runs_only [] [] (g ∷ gs) a k = never a
runs_only [] (v ∷ vs) [] a k = never a
runs_only [] (v ∷ vs) (g ∷ gs) a k =
    let b = and_right (is_weight v) (eqb g 1 && leb g 0) (and_left (is_weight v && (eqb g 1 && leb g 0)) (all_follow 0 v g vs gs) a) in
    absurd (let y = eqb-true g 1 (and_left (eqb g 1) (leb g 0) b) in let z = leb-true g 0 (and_right (eqb g 1) (leb g 0) b) in let x : ⊥ = omega arith in x)
runs_only (w ∷ ws) [] [] a k = absurd (let y = eqb-true (suc (length ws)) 0 a in let x : ⊥ = omega arith in x)
runs_only (w ∷ ws) [] (g ∷ gs) a k = never a
runs_only (w ∷ ws) (v ∷ vs) [] a k = never a
runs_only (w ∷ ws) (v ∷ vs) (g ∷ gs) a k =
    let n : ℕ = suc (length ws) in
    let b = and_right (is_weight v) (eqb g 1 && leb g n) (and_left (is_weight v && (eqb g 1 && leb g n)) (all_follow n v g vs gs) a) in
    let p : g ≡ 1 = eqb-true g 1 (and_left (eqb g 1) (leb g n) b) in
    let f = and_right (is_weight v && (eqb g 1 && leb g n)) (all_follow n v g vs gs) a in
    let q : All (λ x. 1 < x) gs = subst (λ (y : ℕ). All (λ x. y < x) gs) p (follow_good n v g vs gs f).above in
    let here : (handle : ℕ) → 1 ≤ handle
    → last_at handle 0 (v ∷ vs) (g ∷ gs) ≡ last_at handle v vs gs =
    λ handle l. ap (λ (t : Bool). last_at handle (choose t v 0) vs gs) (le-leb g handle (omega arith)) in
    let d : v ≡ w = sym (last_none 1 v vs gs q) ∙ (sym (here 1 (omega arith)) ∙ k 1 (omega arith) (omega arith)) in
    let c = later_only n ws 1 v g vs gs (omega arith) f q
    (λ handle l m. sym (here handle l) ∙ (k handle l m ∙ ap (λ (x : ℕ). get_or (x ∷ ws) (handle - 1) 0) (sym d))) in (
      ap₂ (λ (x : ℕ) (l : List ℕ). x ∷ l) d (c.0 ∙ ap (λ (x : ℕ). map (λ r. r.0) (later_runs 1 x ws)) d),
      ap₂ (λ (x : ℕ) (l : List ℕ). x ∷ l) p (c.1 ∙ ap (λ (x : ℕ). map (λ r. r.1) (later_runs 1 x ws)) d),
    )
