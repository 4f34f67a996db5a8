-- Rows: from stretch i up to stretch e of the tables. What one that fits gives, how a loop goes over it, and what a stretch that fits gives. Assumes nothing.
use mathlib.Core.Path.{◌≡◌, refl, sym, ap, ◌∙◌, subst}
use mathlib.Core.Bool.{Bool, true, false, ◌&&◌}
use mathlib.Core.List.{List, [], ◌∷◌, ◌++◌}
use Prim.Native.Nat.{ℕ, suc, ◌+◌, ◌-◌, ◌<◌, ◌≤◌}
use native.Mathlib.Omega.{arith}
use native.Mathlib.Numerals.{add-one}
use borrow.Author.Tests.{leb-true, le-leb}
use lib.Dec.{leb}
use lib.ListN.{length}
use Rattle.lists.specs.Every.{every}
use Rattle.lists.specs.Limits.{most_letters}
use Rattle.lists.proofs.Every.{and_left, and_right, and_assoc, and_true}
use Rattle.index_stretches.specs.Stretches.{Stretch, kmers_of, walk}
use Rattle.index_stretches.specs.Index.{Index, entry, entries, start, row_of, stretch_fits, row_fits}

module _ (t : Index) where
  row_next : (i e : ℕ) → i < e → entries t i (e - i) ≡ entry t i ∷ entries t (i + 1) (e - (i + 1))
  unfolding entries
  row_next i e l =
      let q : e - i ≡ suc (e - (i + 1)) = omega arith in
      ap (entries t i) q ∙ ap (λ (n : ℕ). entry t i ∷ entries t n (e - (i + 1))) (sym (add-one i))

  row_end : (i e : ℕ) → e ≤ i → entries t i (e - i) ≡ []
  unfolding entries
  row_end i e l = let q : e - i ≡ 0 = omega arith in ap (entries t i) q

  -- ─── a row that fits ───────────────────────────────────────────────────────

  -- what is known of a row that fits, from stretch b up to stretch e
  pub record Fits (k N b e : ℕ) : Type 0 where
    pub order : b ≤ e
    pub inside : e ≤ length t.firsts
    pub each : every (stretch_fits k N) (entries t b (e - b)) ≡ true

  -- the row of a minimizer that fits
  pub row_good : (k N v : ℕ) → row_fits k N t v ≡ true → Fits k N (start t v) (start t (v + 1))
  unfolding row_fits row_of
  row_good k N v e =
      let rest = and_right (leb (start t v) (start t (suc v))) _ e in
      subst (λ (n : ℕ). Fits k N (start t v) (start t n)) (sym (add-one v)) (record {
        order = leb-true (start t v) (start t (suc v)) (and_left (leb (start t v) (start t (suc v))) _ e);
        inside = leb-true (start t (suc v)) (length t.firsts) (and_left (leb (start t (suc v)) (length t.firsts)) _ rest);
        each = and_right (leb (start t (suc v)) (length t.firsts)) _ rest;
      })

  -- a row that starts behind its end or ends behind the tables does not fit
  pub row_wrong : (k N v : ℕ) → ((start t v ≤ start t (v + 1)) → (start t (v + 1) ≤ length t.firsts) → ⊥) → false ≡ row_fits k N t v
  row_wrong k N v h = go (row_fits k N t v) refl
    where
      go : (b : Bool) → row_fits k N t v ≡ b → false ≡ b
      go true p = let f = row_good k N v p in absurd (h f.order f.inside)
      go false p = refl

  -- one in its place fits exactly if each of its stretches does
  pub row_each : (k N v : ℕ) → start t v ≤ start t (v + 1) → start t (v + 1) ≤ length t.firsts
      → row_fits k N t v ≡ every (stretch_fits k N) (entries t (start t v) (start t (v + 1) - start t v))
  unfolding row_fits row_of
  row_each k N v p q =
      let n : suc v ≡ v + 1 = omega arith in
      let each : ℕ → Bool = λ m. every (stretch_fits k N) (entries t (start t v) (start t m - start t v)) in
      ap (λ (m : ℕ). leb (start t v) (start t m) && (leb (start t m) (length t.firsts) && each m)) n
      ∙ (ap (λ (b : Bool). b && (leb (start t (v + 1)) (length t.firsts) && each (v + 1))) (le-leb (start t v) (start t (v + 1)) p)
      ∙ ap (λ (b : Bool). b && each (v + 1)) (le-leb (start t (v + 1)) (length t.firsts) q))

  -- the walk of a row
  pub row_walk : (v : ℕ) → walk (row_of t v) ≡ walk (entries t (start t v) (start t (v + 1) - start t v))
  unfolding row_of
  row_walk v = let n : suc v ≡ v + 1 = omega arith in ap (λ (m : ℕ). walk (entries t (start t v) (start t m - start t v))) n

  module _ (k N i e : ℕ) (l : i < e) where
    -- the pass that tests each stretch of a row
    pub fit_next : (all good here : Bool) → here ≡ stretch_fits k N (entry t i) → all ≡ (good && every (stretch_fits k N) (entries t i (e - i)))
        → all ≡ ((good && here) && every (stretch_fits k N) (entries t (i + 1) (e - (i + 1))))
    unfolding every
    fit_next all good here h a =
        let tail : Bool = every (stretch_fits k N) (entries t (i + 1) (e - (i + 1))) in
        a
        ∙ (ap (λ (ss : List Stretch). good && every (stretch_fits k N) ss) (row_next i e l)
        ∙ (ap (λ (b : Bool). good && (b && tail)) (sym h) ∙ and_assoc good here tail))

    -- in a row that fits, the next stretch does
    pub fit_here : every (stretch_fits k N) (entries t i (e - i)) ≡ true → stretch_fits k N (entry t i) ≡ true
    unfolding every
    fit_here h = and_left (stretch_fits k N (entry t i)) _ (sym (ap (every (stretch_fits k N)) (row_next i e l)) ∙ h)

    -- and so do those behind it
    pub fit_rest : every (stretch_fits k N) (entries t i (e - i)) ≡ true → every (stretch_fits k N) (entries t (i + 1) (e - (i + 1))) ≡ true
    unfolding every
    fit_rest h = and_right (stretch_fits k N (entry t i)) _ (sym (ap (every (stretch_fits k N)) (row_next i e l)) ∙ h)

    -- a row is walked stretch by stretch
    pub walk_next : walk (entries t i (e - i)) ≡ kmers_of (entry t i) ++ walk (entries t (i + 1) (e - (i + 1)))
    unfolding walk
    walk_next = ap walk (row_next i e l)

  -- the pass is over
  pub fit_end : (k N i e : ℕ) → e ≤ i → (all good : Bool) → all ≡ (good && every (stretch_fits k N) (entries t i (e - i))) → good ≡ all
  unfolding every
  fit_end k N i e l all good h = sym (h ∙ (ap (λ (ss : List Stretch). good && every (stretch_fits k N) ss) (row_end i e l) ∙ and_true good))

  -- and so is the walk
  pub walk_end : (i e : ℕ) → e ≤ i → walk (entries t i (e - i)) ≡ []
  unfolding walk
  walk_end i e l = ap walk (row_end i e l)

-- what a stretch that fits has
pub record Room (k N : ℕ) (s : Stretch) : Type 0 where
  pub low : 1 ≤ s.first
  pub some : 1 ≤ s.number
  pub handles : s.first + s.number ≤ most_letters + 1
  pub letters : s.at + s.number + k ≤ N + 1

pub room : (k N : ℕ) (s : Stretch) → stretch_fits k N s ≡ true → Room k N s
unfolding stretch_fits
room k N s e =
    let b = and_right (leb 1 s.first) _ e in
    let c = and_right (leb 1 s.number) _ b in
    record {
      low = leb-true 1 s.first (and_left (leb 1 s.first) _ e);
      some = leb-true 1 s.number (and_left (leb 1 s.number) _ b);
      handles = leb-true (s.first + s.number) (most_letters + 1) (and_left (leb (s.first + s.number) (most_letters + 1)) _ c);
      letters = leb-true (s.at + s.number + k) (N + 1) (and_right (leb (s.first + s.number) (most_letters + 1)) _ c);
    }

-- a stretch that fits has no more than 1,048,576 k-mers
pub room_few : {k N : ℕ} {s : Stretch} → Room k N s → s.number ≤ most_letters
room_few r = omega (arith, r.low, r.handles)
