-- A rule of a table, proved at all of its entries by one test that is computed over the whole table. Assumes nothing.
use mathlib.Core.Path.{◌≡◌, ◌∙◌, subst, sym}
use mathlib.Core.Bool.{Bool, true}
use mathlib.Core.List.{List, [], ◌∷◌}
use Prim.Native.Nat.{ℕ, zero, suc, ◌+◌, ◌<◌}
use native.Mathlib.Nat.{add-zero, zero-add, add-suc, suc-add, le_of_suc-le-suc, not-suc-le-zero}
use lib.ListN.{length, get_or}
use Rattle.lists.specs.Every.{every_from, every_at}
use Rattle.lists.proofs.Every.{and_left, and_right}

rule_from : (test : ℕ → ℕ → Bool) (xs : List ℕ) (i : ℕ) → every_from test i xs ≡ true → (j : ℕ) → j < length xs → test (i + j) (get_or xs j 0) ≡ true
unfolding every_from
rule_from test [] i t j h = absurd (not-suc-le-zero h)
rule_from test (x ∷ xs) i t zero h = subst (λ (m : ℕ). test m x ≡ true) (sym (add-zero i)) (and_left (test i x) (every_from test (suc i) xs) t)
rule_from test (x ∷ xs) i t (suc j) h =
    subst (λ (m : ℕ). test m (get_or xs j 0) ≡ true) (suc-add i j ∙ sym (add-suc i j))
    (rule_from test xs (suc i) (and_right (test i x) (every_from test (suc i) xs) t) j (le_of_suc-le-suc h))

-- the test, passed by the whole table, is the rule at each entry
pub table_rule : (test : ℕ → ℕ → Bool) (xs : List ℕ) → every_at test xs ≡ true → (j : ℕ) → j < length xs → test j (get_or xs j 0) ≡ true
table_rule test xs t j h = subst (λ (m : ℕ). test m (get_or xs j 0) ≡ true) (zero-add j) (rule_from test xs 0 t j h)
