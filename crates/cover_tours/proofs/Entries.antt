-- The flags and the stack, entry by entry: what one store makes of them. Assumes nothing.
use mathlib.Core.Path.{◌≡◌, refl, ap, sym, ◌∙◌}
use mathlib.Core.List.{List, [], ◌∷◌}
use Prim.Native.Nat.{ℕ, zero, suc, ◌+◌, ◌-◌, ◌≤◌, ◌<◌}
use native.Mathlib.Omega.{arith}
use native.Mathlib.Numerals.{add-one}
use native.Mathlib.Decide.{ℕ_discrete}
use lib.ListN.{length, get_or, set, drop, length-set}
use lib.Seq.{drop-cons, drop-set-lt, get_or-set_same, get_or-set_other}

-- ─── flags ───────────────────────────────────────────────────────────────────

-- what is used stays used
pub still_used : (used : List ℕ) (i k : ℕ) → i < length used → get_or (set used i 1) k 0 ≡ 0 → get_or used k 0 ≡ 0
still_used used i k l z = go (ℕ_discrete k i)
  where
    go : Dec (k ≡ i) → get_or used k 0 ≡ 0
    go (yes e) = absurd (omega (arith, get_or-set_same used i 1 0 l, ap (λ (x : ℕ). get_or (set used i 1) x 0) e))
    go (no e) = sym (get_or-set_other used i k 1 0 e) ∙ z

-- flags stay 0 or 1
pub flags_set : (used : List ℕ) (i : ℕ) → i < length used → ((e : ℕ) → get_or used e 0 ≤ 1) → (e : ℕ) → get_or (set used i 1) e 0 ≤ 1
flags_set used i l h e = go (ℕ_discrete e i)
  where
    go : Dec (e ≡ i) → get_or (set used i 1) e 0 ≤ 1
    go (yes p) = rw (p, get_or-set_same used i 1 0 l) (omega arith)
    go (no p) = rw (get_or-set_other used i e 1 0 p) (h e)

-- ─── the stack ───────────────────────────────────────────────────────────────

-- the first n halves of the stack, the last first
unfoldable pub held : List ℕ → ℕ → List ℕ
held stack zero = []
held stack (suc n) = get_or stack n 0 ∷ held stack n

-- a store behind them leaves them
pub held-other : (stack : List ℕ) (n k x : ℕ) → n ≤ k → held (set stack k x) n ≡ held stack n
unfolding held
held-other stack zero k x l = refl
held-other stack (suc n) k x l = rw (get_or-set_other stack k n x 0 (λ e. omega arith), held-other stack n k x (omega arith))

-- one more is put on
pub held_more : (stack : List ℕ) (n x : ℕ) → n < length stack → held (set stack n x) (n + 1) ≡ x ∷ held stack n
unfolding held
held_more stack n x l = rw (add-one, get_or-set_same stack n x 0 l, held-other stack n n x (omega arith))

-- the last is taken off
pub held_less : (stack : List ℕ) (n : ℕ) → (n ≡ 0 → ⊥) → held stack n ≡ get_or stack (n - 1) 0 ∷ held stack (n - 1)
unfolding held
held_less stack n h = let e : n ≡ suc (n - 1) = omega arith in ap (held stack) e

-- one more is given back in front of the others
pub drop_stored : (stack : List ℕ) (z x : ℕ) → (z ≡ 0 → ⊥) → z ≤ length stack → drop (z - 1) (set stack (z - 1) x) ≡ x ∷ drop z stack
drop_stored stack z x h l =
    let e : suc (z - 1) ≡ z = omega arith in
    let b : z - 1 < length stack = omega arith in
    drop-cons (set stack (z - 1) x) (z - 1) 0 (simp length-set b)
    ∙ (ap (λ (y : ℕ). y ∷ drop (suc (z - 1)) (set stack (z - 1) x)) (get_or-set_same stack (z - 1) x 0 b)
    ∙ (ap (λ (L : List ℕ). x ∷ L) (drop-set-lt (suc (z - 1)) stack (z - 1) x (omega arith)) ∙ ap (λ (k : ℕ). x ∷ drop k stack) e))
