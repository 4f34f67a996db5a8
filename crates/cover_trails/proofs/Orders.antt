-- Orders and turnings as a relation: how strings are moved, and what is kept.
use mathlib.Core.Path.{◌≡◌, refl, ap, sym, ◌∙◌, subst}
use mathlib.Core.List.{List, [], ◌∷◌, ◌++◌, map, append-nil}
use Prim.Native.Nat.{ℕ, suc, ◌+◌, ◌*◌, ◌≤◌}
use native.Mathlib.Omega.{arith}
use lib.ListN.{length}
use Rattle.lists.specs.Every.{All}
use Rattle.cover_trails.specs.Counting.{occurs, oddly}
use Rattle.cover_trails.specs.Strings.{Ends, front, back, turned, weights}
use Rattle.cover_trails.specs.Walks.{Reordered, empty, keep, turn, exchange, both}
use Rattle.cover_trails.proofs.Counting.{AllBelow}
use Rattle.lists.proofs.Agree.{agree_same}

-- ─── moving strings ──────────────────────────────────────────────────────────

-- all stay where they are
pub unmoved : (L : List Ends) → Reordered L L
unmoved [] = empty
unmoved (s ∷ L) = keep (unmoved L)

-- the first string moves behind A
pub move_in : (s : Ends) (A B : List Ends) → Reordered (s ∷ (A ++ B)) (A ++ (s ∷ B))
move_in s [] B = unmoved (s ∷ B)
move_in s (a ∷ A) B = both exchange (keep (move_in s A B))

-- the strings behind stay
pub reordered-left : {A B : List Ends} (C : List Ends) → Reordered A B → Reordered (A ++ C) (B ++ C)
reordered-left C empty = unmoved C
reordered-left C (keep r) = keep (reordered-left C r)
reordered-left C (turn r) = turn (reordered-left C r)
reordered-left C exchange = exchange
reordered-left C (both r q) = both (reordered-left C r) (reordered-left C q)

-- the strings in front stay
pub reordered_right : (C : List Ends) {A B : List Ends} → Reordered A B → Reordered (C ++ A) (C ++ B)
reordered_right [] r = r
reordered_right (c ∷ C) r = keep (reordered_right C r)

-- strings behind others may come before them
pub swapped : (A B : List Ends) → Reordered (A ++ B) (B ++ A)
swapped [] B = subst (Reordered B) (sym (append-nil B)) (unmoved B)
swapped (s ∷ A) B = both (keep (swapped A B)) (move_in s B A)

-- ─── what is kept ────────────────────────────────────────────────────────────

-- there are as many strings
pub length-reordered : {L M : List Ends} → Reordered L M → length L ≡ length M
length-reordered empty = refl
length-reordered (keep r) = ap suc (length-reordered r)
length-reordered (turn r) = ap suc (length-reordered r)
length-reordered exchange = refl
length-reordered (both r q) = length-reordered r ∙ length-reordered q

-- a name is at as many end weights as before
pub names_reordered : (c : ℕ → ℕ) (l : ℕ) {L M : List Ends} → Reordered L M → occurs l (map c (weights L)) ≡ occurs l (map c (weights M))
unfolding weights occurs
names_reordered c l empty = refl
names_reordered c l (keep r) = omega (arith, names_reordered c l r)
names_reordered c l (turn r) = omega (arith, names_reordered c l r)
names_reordered c l exchange = omega arith
names_reordered c l (both r q) = names_reordered c l r ∙ names_reordered c l q

-- a weight occurs as often as before
pub occurs-reordered : {L M : List Ends} → Reordered L M → (w : ℕ) → occurs w (weights L) ≡ occurs w (weights M)
unfolding weights occurs
occurs-reordered empty w = refl
occurs-reordered (keep r) w = omega (arith, occurs-reordered r w)
occurs-reordered (turn r) w = omega (arith, occurs-reordered r w)
occurs-reordered exchange w = omega arith
occurs-reordered (both r q) w = occurs-reordered r w ∙ occurs-reordered q w

-- so it is odd or even as before
pub oddly-reordered : {L M : List Ends} → Reordered L M → (w : ℕ) → oddly (weights L) w ≡ oddly (weights M) w
unfolding oddly
oddly-reordered r w = rw (occurs-reordered r w)

-- a fact of each string that does not mind turning
pub all-reordered : (P : Ends → Type 0) → ((s : Ends) → P s → P (turned s)) → {L M : List Ends} → Reordered L M → All P L → All P M
all-reordered P t empty h = tt
all-reordered P t (keep r) h = (h.0, all-reordered P t r h.1)
all-reordered P t (turn {a = a} {b = b} r) h = (t (a, b) h.0, all-reordered P t r h.1)
all-reordered P t exchange h = (h.1.0, (h.0, h.1.1))
all-reordered P t (both r q) h = all-reordered P t q (all-reordered P t r h)

-- the first list has the strings of the second, too
pub reordered-back : {L M : List Ends} → Reordered L M → Reordered M L
reordered-back empty = empty
reordered-back (keep r) = keep (reordered-back r)
reordered-back (turn r) = turn (reordered-back r)
reordered-back exchange = exchange
reordered-back (both r q) = both (reordered-back q) (reordered-back r)

-- ─── end weights of two lists, and of a string ───────────────────────────────

-- a weight occurs in A ++ B as often as in A and in B together
pub occurs-both : (w : ℕ) (A B : List Ends) → occurs w (weights (A ++ B)) ≡ occurs w (weights A) + occurs w (weights B)
unfolding weights occurs
occurs-both w [] B = omega arith
occurs-both w (s ∷ A) B = omega (arith, occurs-both w A B)

-- so does a name
pub names_both : (c : ℕ → ℕ) (l : ℕ) (A B : List Ends) → occurs l (map c (weights (A ++ B))) ≡ occurs l (map c (weights A)) + occurs l (map c (weights B))
unfolding weights occurs
names_both c l [] B = omega arith
names_both c l (s ∷ A) B = omega (arith, names_both c l A B)

-- each string has two end weights
pub length-weights : (L : List Ends) → length (weights L) ≡ 2 * length L
unfolding weights
length-weights [] = refl
length-weights (s ∷ L) = omega (arith, length-weights L)

-- all end weights are below n
abbrev pub EndsBelow : ℕ → List Ends → Type 0
EndsBelow n L = AllBelow n (weights L)

-- and stay so in another order
pub below_reordered : (n : ℕ) {L M : List Ends} → Reordered L M → EndsBelow n L → EndsBelow n M
unfolding weights
below_reordered n empty h = tt
below_reordered n (keep r) h = (h.0, (h.1.0, below_reordered n r h.1.1))
below_reordered n (turn r) h = (h.1.0, (h.0, below_reordered n r h.1.1))
below_reordered n exchange h = (h.1.1.0, (h.1.1.1.0, (h.0, (h.1.0, h.1.1.1.1))))
below_reordered n (both r q) h = below_reordered n q (below_reordered n r h)

-- P of each end weight, string by string
pub all_weights : (P : ℕ → Type 0) (L : List Ends) → ((w : ℕ) → 1 ≤ occurs w (weights L) → P w) → All (λ s. P (front s) × P (back s)) L
unfolding weights occurs
all_weights P [] h = tt
all_weights P (s ∷ L) h = (
  (h (front s) (omega (arith, agree_same (front s) (front s) refl)), h (back s) (omega (arith, agree_same (back s) (back s) refl))),
  all_weights P L (λ w l. h w (omega arith)),
)
