-- Numbers of a collection's weights: how many are different, and the bits for these.
-- Specification: 10.2, 10.3.
use Rattle.std.specs.Prelude.{Bool, false, ◌||◌, List, [], ◌∷◌, ℕ, zero, suc, ◌+◌, ◌*◌, ◌^◌, max, eqb, leb}
use Rattle.lists.specs.Choose.{choose}

-- ─── different weights ───────────────────────────────────────────────────────

-- w is one of ws
unfoldable pub is_in : ℕ → List ℕ → Bool
is_in w [] = false
is_in w (v ∷ ws) = eqb w v || is_in w ws

-- 1 where w is none of ws, else 0
unfoldable pub fresh : ℕ → List ℕ → ℕ
fresh w ws = choose (is_in w ws) 0 1

-- how many different numbers there are: each counts where it stands last
unfoldable pub distinct : List ℕ → ℕ
distinct [] = 0
distinct (w ∷ ws) = fresh w ws + distinct ws

-- ─── bits ────────────────────────────────────────────────────────────────────

-- the largest; 0 where there is none
unfoldable pub largest : List ℕ → ℕ
largest [] = 0
largest (w ∷ ws) = max w (largest ws)

-- the first b, from a given one on, with w ≤ 2^b, where the steps are enough
unfoldable pub bits_from : ℕ → ℕ → ℕ → ℕ
bits_from zero b w = b
bits_from (suc steps) b w = choose (leb w (2 ^ b)) b (bits_from steps (suc b) w)

-- the base-2 logarithm of w, rounded up: the least b with w ≤ 2^b; 0 for 0. w steps are enough.
unfoldable pub bits_for : ℕ → ℕ
bits_for w = bits_from w 0 w

-- bits: the distinct weights times the logarithm of the largest
unfoldable pub bits_of : List ℕ → ℕ
bits_of ws = distinct ws * bits_for (largest ws)
