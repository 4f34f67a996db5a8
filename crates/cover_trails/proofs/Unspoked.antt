-- Strings without the spokes: what is left out, and that a chain that comes back to the hub is cut into one path for two spokes.
use mathlib.Core.Path.{◌≡◌, refl, ap, sym, ◌∙◌}
use mathlib.Core.Logic.{inl, inr}
use mathlib.Core.List.{List, [], ◌∷◌, ◌++◌}
use Prim.Native.Nat.{ℕ, zero, suc, ◌+◌, ◌*◌, ◌≤◌}
use native.Mathlib.Omega.{arith}
use Rattle.lists.specs.Count.{agree}
use Rattle.cover_trails.specs.Counting.{occurs, oddly}
use Rattle.cover_trails.specs.Strings.{Ends, front, back, weights}
use Rattle.cover_trails.specs.Paths.{path_count}
use Rattle.cover_trails.specs.Walks.{Reordered, empty, keep, turn, exchange, both, Chain}
use Rattle.cover_trails.specs.Hub.{spoke_if, spokes, limit, spoked, keep_if, unspoked}
use Rattle.lists.proofs.Agree.{agree_same, agree-other, Agreeing, agree_cases, agree_le}
use Rattle.cover_trails.proofs.Orders.{unmoved}
use Rattle.cover_trails.proofs.Paths.{breaks, paths_breaks, paths-none}

-- ─── what is left out ────────────────────────────────────────────────────────

-- of each part by itself
pub unspoked-append : (h : ℕ) (A B : List Ends) → unspoked h (A ++ B) ≡ unspoked h A ++ unspoked h B
unfolding unspoked
unspoked-append h [] B = refl
unspoked-append h (s ∷ A) B = go (agree h (front s)) (agree h (back s)) (unspoked-append h A B)
  where
    go : (i j : ℕ) → unspoked h (A ++ B) ≡ unspoked h A ++ unspoked h B → keep_if i j s (unspoked h (A ++ B)) ≡ keep_if i j s (unspoked h A) ++ unspoked h B
    go zero zero ih = ap (λ (L : List Ends). s ∷ L) ih
    go zero (suc j) ih = ih
    go (suc i) j ih = ih

-- another order stays one without the spokes
pub unspoked-reordered : (h : ℕ) {L M : List Ends} → Reordered L M → Reordered (unspoked h L) (unspoked h M)
unfolding unspoked
unspoked-reordered h empty = empty
unspoked-reordered h (keep {s = s} r) = go (agree h (front s)) (agree h (back s)) (unspoked-reordered h r)
  where
    go : (i j : ℕ) {A B : List Ends} → Reordered A B → Reordered (keep_if i j s A) (keep_if i j s B)
    go zero zero q = keep q
    go zero (suc j) q = q
    go (suc i) j q = q
unspoked-reordered h (turn {a = x} {b = y} r) = go (agree h x) (agree h y) (unspoked-reordered h r)
  where
    go : (i j : ℕ) {A B : List Ends} → Reordered A B → Reordered (keep_if i j (x, y) A) (keep_if j i (y, x) B)
    go zero zero q = turn q
    go zero (suc j) q = q
    go (suc i) zero q = q
    go (suc i) (suc j) q = q
unspoked-reordered h (exchange {s = s} {t = t} {L = L}) = go (agree h (front s)) (agree h (back s)) (agree h (front t)) (agree h (back t)) (unspoked h L)
  where
    go : (i j k l : ℕ) (A : List Ends) → Reordered (keep_if i j s (keep_if k l t A)) (keep_if k l t (keep_if i j s A))
    go zero zero zero zero A = exchange
    go zero zero zero (suc l) A = unmoved (s ∷ A)
    go zero zero (suc k) l A = unmoved (s ∷ A)
    go zero (suc j) k l A = unmoved (keep_if k l t A)
    go (suc i) j k l A = unmoved (keep_if k l t A)
unspoked-reordered h (both r q) = both (unspoked-reordered h r) (unspoked-reordered h q)

-- strings that do not touch the hub all stay
pub unspoked_own : (h : ℕ) (L : List Ends) → occurs h (weights L) ≡ 0 → unspoked h L ≡ L
unfolding unspoked occurs weights
unspoked_own h [] e = refl
unspoked_own h (s ∷ L) e = go (agree h (front s)) (agree h (back s)) (omega arith) (omega arith) (unspoked_own h L (omega arith))
  where
    go : (i j : ℕ) → i ≡ 0 → j ≡ 0 → unspoked h L ≡ L → keep_if i j s (unspoked h L) ≡ s ∷ L
    go zero zero p q ih = ap (λ (M : List Ends). s ∷ M) ih
    go zero (suc j) p q ih = absurd (omega arith)
    go (suc i) j p q ih = absurd (omega arith)

unspoked-spokes : (h : ℕ) (ws : List ℕ) (n : ℕ) → unspoked h (spokes h ws n) ≡ []
unfolding unspoked spokes
unspoked-spokes h ws zero = refl
unspoked-spokes h ws (suc n) = go (oddly ws n) (unspoked-spokes h ws n)
  where
    go : (o : ℕ) → unspoked h (spokes h ws n) ≡ [] → unspoked h (spoke_if o (h, n) (spokes h ws n)) ≡ []
    go zero ih = ih
    go (suc o) ih = rw (agree_same h h refl) ih

-- the strings come back
pub unspoked-spoked : (h : ℕ) (strings : List Ends) → occurs h (weights strings) ≡ 0 → unspoked h (spoked h strings) ≡ strings
unspoked-spoked h strings fresh =
    unspoked-append h (spokes h (weights strings) (limit strings)) strings
    ∙ ap (λ (L : List Ends). L ++ unspoked h strings) (unspoked-spokes h (weights strings) (limit strings))
    ∙ unspoked_own h strings fresh

-- ─── a chain cut at the hub ──────────────────────────────────────────────────

-- behind a string s that does not end at the hub
cut_behind : (h : ℕ) (s : Ends) → (back s ≡ h → ⊥) → (x : ℕ) (Z : List Ends) → Chain x Z h
    → 2 * breaks s (unspoked h Z) + 2 * agree (back s) x + agree h x ≤ occurs h (weights Z) + 1
unfolding unspoked breaks occurs weights
cut_behind h s q x [] c = omega (arith, agree_same h x (sym c), agree-other (back s) x (λ p. q (p ∙ c)))
cut_behind h s q x (t ∷ Z) c = go (agree_cases h (front t)) (agree_cases h (back t)) (λ g r. cut_behind h g r (back t) Z c.1)
  where
    go : Agreeing h (front t) → Agreeing h (back t)
        → ((g : Ends) → (back g ≡ h → ⊥) → 2 * breaks g (unspoked h Z) + 2 * agree (back g) (back t) + agree h (back t) ≤ occurs h (weights Z) + 1)
        → 2 * breaks s (keep_if (agree h (front t)) (agree h (back t)) t (unspoked h Z)) + 2 * agree (back s) x + agree h x
        ≤ agree h (front t) + (agree h (back t) + occurs h (weights Z)) + 1
    go (inl a) b ih =
        rw a.1 (omega (arith, ih s q, ap (agree h) c.0, a.1, agree-other (back s) x (λ p. q (p ∙ c.0 ∙ sym a.0))))
    go (inr a) (inl b) ih = rw (a.1, b.1) (omega (arith, ih s q, ap (agree h) c.0, a.1, agree_le (back s) x, b.1))
    go (inr a) (inr b) ih =
        rw (a.1, b.1)
        (omega (
          arith,
          ih t (λ p. b.0 (sym p)),
          ap (agree h) c.0,
          ap (agree (back s)) c.0,
          a.1,
          agree_same (back t) (back t) refl,
          agree_le (back s) (front t),
        ))

-- A chain to the hub, without its spokes: two spokes for each path, but for a part at the start that the hub does not open.
pub cut_chain : (h x : ℕ) (Z : List Ends) → Chain x Z h → 2 * path_count (unspoked h Z) + agree h x ≤ occurs h (weights Z) + 1
unfolding unspoked occurs weights
cut_chain h x [] c = omega (arith, agree_le h x, paths-none)
cut_chain h x (t ∷ Z) c = go (agree_cases h (front t)) (agree_cases h (back t)) (cut_chain h (back t) Z c.1) (λ r. cut_behind h t r (back t) Z c.1)
  where
    go : Agreeing h (front t) → Agreeing h (back t) → 2 * path_count (unspoked h Z) + agree h (back t) ≤ occurs h (weights Z) + 1
        → ((back t ≡ h → ⊥) → 2 * breaks t (unspoked h Z) + 2 * agree (back t) (back t) + agree h (back t) ≤ occurs h (weights Z) + 1)
        → 2 * path_count (keep_if (agree h (front t)) (agree h (back t)) t (unspoked h Z)) + agree h x
        ≤ agree h (front t) + (agree h (back t) + occurs h (weights Z)) + 1
    go (inl a) b ih k = rw a.1 (omega (arith, ap (agree h) c.0, a.1))
    go (inr a) (inl b) ih k = rw (a.1, b.1) (omega (arith, ap (agree h) c.0, a.1))
    go (inr a) (inr b) ih k =
        rw (a.1, b.1)
        (omega (arith, k (λ p. b.0 (sym p)), ap (agree h) c.0, a.1, agree_same (back t) (back t) refl, paths_breaks t (unspoked h Z)))
