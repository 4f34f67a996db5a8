-- The run list of weights is a good list, and it gives each handle its weight back. Assumes nothing.
use mathlib.Core.Path.{◌≡◌, refl, sym, ap, ◌∙◌, subst}
use mathlib.Core.Bool.{Bool, true, not}
use mathlib.Core.List.{List, [], ◌∷◌, map}
use Prim.Native.Nat.{ℕ, suc, ◌+◌, ◌-◌, ◌<◌, ◌≤◌}
use native.Mathlib.Decide.{ℕ_discrete}
use native.Mathlib.Omega.{arith}
use borrow.Author.Tests.{le-leb, lt-ltb, ne_eqb}
use lib.ListN.{length, get_or}
use Rattle.std.specs.Prelude.{Ok, Err}
use Rattle.collection.specs.Verdict.{good}
use Rattle.lists.specs.Choose.{choose}
use Rattle.lists.specs.Every.{All}
use Rattle.lists.specs.Limits.{most_letters}
use Rattle.lists.proofs.Every.{and_both}
use Rattle.collection.specs.Collection.{Collection}
use Rattle.collection_faults.specs.Faults.{is_weight}
use Rattle.collection.specs.Judge.{handle_verdict, Passes}
use Rattle.collection.specs.Kmers.{weight_of}
use Rattle.collection.proofs.Judged.{collection_good}
use Rattle.collection.proofs.Verdicts.{then_good, settled}
use Rattle.weight.specs.Weight.{weight_answer}
use Rattle.runs.proofs.Later.{later-nil, later_equal, later-other, later-above}
use Rattle.runs.specs.Runs.{Run, later_runs, runs, weights_of_runs, firsts_of_runs}
use Rattle.weight.specs.RunList.{all_follow, is_run_list, run_list_verdict, last_at, weight_at}
use Rattle.weight.proofs.RunLists.{last_none}

-- ─── a good list ─────────────────────────────────────────────────────────────

later_follow : (n h w f : ℕ) (ws : List ℕ) → f ≤ h → h + length ws ≤ n → All (λ v. is_weight v ≡ true) ws
    → all_follow n w f (map (λ r. r.0) (later_runs h w ws)) (map (λ r. r.1) (later_runs h w ws)) ≡ true
unfolding all_follow
later_follow n h w f [] l m a = ap (λ (rs : List Run). all_follow n w f (map (λ r. r.0) rs) (map (λ r. r.1) rs)) (later-nil h w)
later_follow n h w f (v ∷ ws) l m a = go (ℕ_discrete v w)
    (later_follow n (suc h) w f ws (omega arith) (omega arith) a.1)
    (later_follow n (suc h) v (suc h) ws (omega arith) (omega arith) a.1)
  where
    col : List Run → Bool
    col rs = all_follow n w f (map (λ r. r.0) rs) (map (λ r. r.1) rs)

    go : Dec (v ≡ w) → col (later_runs (suc h) w ws) ≡ true
        → all_follow n v (suc h) (map (λ r. r.0) (later_runs (suc h) v ws)) (map (λ r. r.1) (later_runs (suc h) v ws)) ≡ true
        → col (later_runs h w (v ∷ ws)) ≡ true
    go (yes e) p q = ap col (later_equal h w v ws e) ∙ p
    go (no e) p q =
        ap col (later-other h w v ws e)
        ∙ and_both (and_both (and_both a.0 (ap not (ne_eqb v w e))) (and_both (lt-ltb f (suc h) (omega arith)) (le-leb (suc h) n (omega arith)))) q

-- the run list of weights in range passes 12
pub runs_listed : (ws : List ℕ) → All (λ v. is_weight v ≡ true) ws → is_run_list (length ws) (weights_of_runs ws) (firsts_of_runs ws) ≡ true
unfolding is_run_list runs
runs_listed [] a = refl
runs_listed (w ∷ ws) a =
    and_both (and_both a.0 (and_both refl (le-leb 1 (suc (length ws)) (omega arith))))
    (later_follow (suc (length ws)) 1 w 1 ws (omega arith) (omega arith) a.1)

-- ─── each handle's weight ────────────────────────────────────────────────────

later_weight : (h w : ℕ) (ws : List ℕ) (handle : ℕ) → h ≤ handle → handle ≤ h + length ws
    → last_at handle w (map (λ r. r.0) (later_runs h w ws)) (map (λ r. r.1) (later_runs h w ws)) ≡ get_or (w ∷ ws) (handle - h) 0
unfolding last_at
later_weight h w [] handle l m =
    let z : handle - h ≡ 0 = omega arith in
    ap (λ (rs : List Run). last_at handle w (map (λ r. r.0) rs) (map (λ r. r.1) rs)) (later-nil h w) ∙ sym (ap (λ (i : ℕ). get_or (w ∷ []) i 0) z)
later_weight h w (v ∷ ws) handle l m = go (ℕ_discrete handle h) (ℕ_discrete v w)
    (λ p q. later_weight (suc h) w ws handle p q) (λ p q. later_weight (suc h) v ws handle p q)
  where
    col : ℕ → List Run → ℕ
    col s rs = last_at handle s (map (λ r. r.0) rs) (map (λ r. r.1) rs)

    go : Dec (handle ≡ h) → Dec (v ≡ w)
        → (suc h ≤ handle → handle ≤ suc h + length ws → col w (later_runs (suc h) w ws) ≡ get_or (w ∷ ws) (handle - suc h) 0)
        → (suc h ≤ handle → handle ≤ suc h + length ws → col v (later_runs (suc h) v ws) ≡ get_or (v ∷ ws) (handle - suc h) 0)
        → col w (later_runs h w (v ∷ ws)) ≡ get_or (w ∷ (v ∷ ws)) (handle - h) 0
    go (yes e) d p q =
        let z : handle - h ≡ 0 = omega arith in
        last_none handle w (map (λ r. r.0) (later_runs h w (v ∷ ws))) (map (λ r. r.1) (later_runs h w (v ∷ ws)))
        (subst (λ (x : ℕ). All (λ g. x < g) (map (λ r. r.1) (later_runs h w (v ∷ ws)))) (sym e) (later-above h w (v ∷ ws)))
        ∙ sym (ap (λ (i : ℕ). get_or (w ∷ (v ∷ ws)) i 0) z)
    go (no e) (yes d) p q =
        let z : handle - h ≡ suc (handle - suc h) = omega arith in
        ap (col w) (later_equal h w v ws d)
        ∙ (p (omega arith) (omega arith) ∙ (ap (λ (x : ℕ). get_or (x ∷ ws) (handle - suc h) 0) (sym d) ∙ sym (ap (λ (i : ℕ). get_or (w ∷ (v ∷ ws)) i 0) z)))
    go (no e) (no d) p q =
        let z : handle - h ≡ suc (handle - suc h) = omega arith in
        ap (col w) (later-other h w v ws d)
        ∙ (ap (λ (b : Bool). last_at handle (choose b v w) (map (λ r. r.0) (later_runs (suc h) v ws)) (map (λ r. r.1) (later_runs (suc h) v ws)))
        (le-leb (suc h) handle (omega arith))
        ∙ (q (omega arith) (omega arith) ∙ sym (ap (λ (i : ℕ). get_or (w ∷ (v ∷ ws)) i 0) z)))

-- the run list gives each handle its weight
pub runs_weight : (ws : List ℕ) (handle : ℕ) → 1 ≤ handle → handle ≤ length ws → weight_at handle (weights_of_runs ws) (firsts_of_runs ws) ≡ weight_of ws handle
unfolding runs last_at
runs_weight [] handle l m = absurd (let z : ⊥ = omega arith in z)
runs_weight (w ∷ ws) handle l m =
    ap (λ (b : Bool). last_at handle (choose b w 0) (map (λ r. r.0) (later_runs 1 w ws)) (map (λ r. r.1) (later_runs 1 w ws))) (le-leb 1 handle l)
    ∙ later_weight 1 w ws handle l (omega arith)

list_verdict_lem : (n : ℕ) (weights firsts : List ℕ) → n ≤ most_letters → is_run_list n weights firsts ≡ true → run_list_verdict n weights firsts ≡ good
unfolding run_list_verdict
list_verdict_lem n weights firsts l e = rw (le-leb n most_letters l, e)

handle_verdict_lem : (n handle : ℕ) → 1 ≤ handle → handle ≤ n → handle_verdict n handle ≡ good
unfolding handle_verdict
handle_verdict_lem n handle l m = rw (le-leb 1 handle l, le-leb handle n m)

-- RUNS, then WEIGHT of any handle 1 to n, is that k-mer's weight
pub runs_then_weight : (c : Collection) → Passes c → (handle : ℕ) → 1 ≤ handle → handle ≤ length c.weights
    → weight_answer (weights_of_runs c.weights) (firsts_of_runs c.weights) (length c.weights) handle ≡ Ok (weight_of c.weights handle)
unfolding weight_answer
runs_then_weight c p handle l m =
    let j = collection_good c p in
    sym
    (settled Err (ap Ok (sym (runs_weight c.weights handle l m)))
    (then_good _ (list_verdict_lem (length c.weights) (weights_of_runs c.weights) (firsts_of_runs c.weights) (omega (arith, j.counted, j.shape.letters_high))
    (runs_listed c.weights j.all_weights))
    (handle_verdict_lem (length c.weights) handle l m)))
