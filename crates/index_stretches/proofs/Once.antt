-- The k-mer of each handle stands once in the index, under its own minimizer. Assumes nothing.
use mathlib.Core.Path.{◌≡◌, sym, ap, ap₂, ◌∙◌, subst}
use mathlib.Core.Logic.{⊎_elim}
use mathlib.Core.List.{List, [], ◌∷◌, ◌++◌}
use Prim.Native.Nat.{ℕ, zero, suc, ◌+◌, ◌-◌, ◌<◌, ◌≤◌}
use native.Mathlib.Omega.{arith}
use lib.ListN.{length, get_or}
use Rattle.lists.specs.Every.{All}
use Rattle.lists.specs.Pick.{pick, up_to}
use Rattle.lists.proofs.Compare.{eq_or_ne}
use Rattle.lists.proofs.Picks.{pick_nil, pick_here, pick_other, up_to-zero, up_to-suc, up_to-nil, up_to_high, pick_up_to}
use Rattle.collection.specs.Kmers.{kmers, position_of}
use Rattle.index_stretches.specs.Index.{arranged}
use Rattle.index_stretches.specs.Stretches.{Kmer, numbered, Stretch, walk, stretches}
use Rattle.index_stretches.proofs.Even.{Even, stretches_even}
use Rattle.index_stretches.proofs.Rows.{walk_pick}
use Rattle.index_stretches.proofs.Walks.{walk-append, walk-stretches}

-- the arranged stretches walk the k-mers arranged alike
walk-arranged : (q : ℕ → ℕ) (d : ℕ) (ss : List Stretch) → All (Even q) ss → walk (arranged q d ss) ≡ up_to (λ x. q x.at) d (walk ss)
unfolding walk
walk-arranged q zero ss u = ap walk (up_to-zero (λ (s : Stretch). q s.at) ss) ∙ sym (up_to-zero (λ (x : Kmer). q x.at) (walk ss))
walk-arranged q (suc d) ss u =
    let f : Stretch → ℕ = λ s. q s.at in
    ap walk (up_to-suc f d ss)
    ∙ (walk-append (up_to f d ss) (pick f d ss)
    ∙ (ap₂ (λ (l m : List Kmer). l ++ m) (walk-arranged q d ss u) (walk_pick q d ss u) ∙ sym (up_to-suc (λ (x : Kmer). q x.at) d (walk ss))))

-- all k-mers of the tables, from the first stretch to the last
arranged_walks : (q : ℕ → ℕ) (d k : ℕ) (ends : List ℕ) → walk (arranged q d (stretches q k ends)) ≡ up_to (λ x. q x.at) d (numbered 1 (kmers k ends))
arranged_walks q d k ends = walk-arranged q d (stretches q k ends) (stretches_even q k ends) ∙ ap (up_to (λ x. q x.at) d) (walk-stretches q k ends)

-- ─── each handle once ────────────────────────────────────────────────────────

numbered-above : (h v : ℕ) (xs : List ℕ) → v < h → pick (λ x. x.handle) v (numbered h xs) ≡ []
unfolding numbered
numbered-above h v [] l = pick_nil (λ (x : Kmer). x.handle) v
numbered-above h v (a ∷ xs) l =
    pick_other (λ (x : Kmer). x.handle) v (record { handle = h; at = a }) (numbered (suc h) xs) (λ e. omega arith) ∙ numbered-above (suc h) v xs (omega arith)

numbered-once : (h i : ℕ) (xs : List ℕ) → i < length xs → pick (λ x. x.handle) (h + i) (numbered h xs) ≡ record { handle = h + i; at = get_or xs i 0 } ∷ []
unfolding numbered
numbered-once h i [] l = absurd (omega arith)
numbered-once h zero (a ∷ xs) l =
    let e : h ≡ h + 0 = omega arith in
    pick_here (λ (x : Kmer). x.handle) (h + 0) (record { handle = h; at = a }) (numbered (suc h) xs) e
    ∙ ap₂ (λ (n : ℕ) (l : List Kmer). record { handle = n; at = a } ∷ l) e (numbered-above (suc h) (h + 0) xs (omega arith))
numbered-once h (suc i) (a ∷ xs) l =
    let e : h + suc i ≡ suc h + i = omega arith in
    pick_other (λ (x : Kmer). x.handle) (h + suc i) (record { handle = h; at = a }) (numbered (suc h) xs) (λ e. omega arith)
    ∙ (ap (λ (n : ℕ). pick (λ x. x.handle) n (numbered (suc h) xs)) e
    ∙ (numbered-once (suc h) i xs (omega arith) ∙ ap (λ (n : ℕ). record { handle = n; at = get_or xs i 0 } ∷ []) (sym e)))

up_to_one : (f : Kmer → ℕ) (d : ℕ) (x : Kmer) → f x < d → up_to f d (x ∷ []) ≡ x ∷ []
up_to_one f zero x l = absurd (omega arith)
up_to_one f (suc d) x l =
    ⊎_elim (λ (e : f x ≡ d). rw (up_to-suc f d (x ∷ []), up_to_high f d x [] (omega arith), up_to-nil f d, pick_here f d x [] e, pick_nil f d))
    (λ (n : f x ≡ d → ⊥). rw (up_to-suc f d (x ∷ []), up_to_one f d x (omega arith), pick_other f d x [] n, pick_nil f d))
    (eq_or_ne (f x) d)

-- of all k-mers of the tables, exactly one has the handle: the handle's own
pub stands_once : (q : ℕ → ℕ) (d k : ℕ) (ends : List ℕ) (handle : ℕ) → 1 ≤ handle → handle ≤ length (kmers k ends) → q (position_of k ends handle) < d
    → pick (λ x. x.handle) handle (walk (arranged q d (stretches q k ends))) ≡ record { handle = handle; at = position_of k ends handle } ∷ []
stands_once q d k ends handle l h v =
    let e : 1 + (handle - 1) ≡ handle = omega arith in
    let one = numbered-once 1 (handle - 1) (kmers k ends) (omega arith) in
    ap (pick (λ x. x.handle) handle) (arranged_walks q d k ends)
    ∙ (pick_up_to (λ (x : Kmer). x.handle) (λ (x : Kmer). q x.at) handle d (numbered 1 (kmers k ends))
    ∙ (ap (up_to (λ x. q x.at) d)
    (subst (λ (n : ℕ). pick (λ x. x.handle) n (numbered 1 (kmers k ends)) ≡ record { handle = n; at = position_of k ends handle } ∷ []) e one)
    ∙ up_to_one (λ x. q x.at) d (record { handle = handle; at = position_of k ends handle }) v))
