-- Where the first element that meets a test stands: it meets the test, and none before it does. By induction along the list. Assumes nothing.
use mathlib.Core.Path.{◌≡◌, ◌∙◌}
use mathlib.Core.Bool.{Bool, true, false}
use mathlib.Core.List.{List, [], ◌∷◌}
use Prim.Native.Nat.{ℕ, zero, suc, ◌+◌, ◌<◌}
use native.Mathlib.Nat.{not-suc-le-zero}
use native.Mathlib.Omega.{arith}
use lib.ListN.{length, get_or}
use Rattle.lists.specs.First.{first_from, first_that}

module _ {A : Type 0} (test : A → Bool) (d : A) where
  first_at_from : (b : ℕ) (xs : List A) (i : ℕ) → i < length xs → test (get_or xs i d) ≡ true → ((j : ℕ) → j < i → test (get_or xs j d) ≡ false)
      → first_from test b xs ≡ suc (b + i)
  unfolding first_from
  first_at_from b [] i l e h = absurd (not-suc-le-zero l)
  first_at_from b (x ∷ xs) zero l e h = rw e (omega arith)
  first_at_from b (x ∷ xs) (suc i) l e h =
      rw (h 0 (omega arith)) (first_at_from (suc b) xs i (omega arith) e (λ j g. h (suc j) (omega arith)) ∙ (omega arith))

  -- the first is known by its place: it meets the test, and none before it does
  pub first_at : (xs : List A) (i : ℕ) → i < length xs → test (get_or xs i d) ≡ true → ((j : ℕ) → j < i → test (get_or xs j d) ≡ false)
      → first_that test xs ≡ suc i
  first_at xs i l e h = first_at_from 0 xs i l e h ∙ (omega arith)
