-- Inner: vertices. Ends of one weight stand side by side in the order of weights, and the place of the first of them is their vertex.
use Rattle.std.specs.Prelude.{List, ℕ, zero, suc, eqb, get_or}
use Rattle.lists.specs.Choose.{choose}

-- the place of the first in a row with the key of place q, where ks are the keys by their places
unfoldable pub first_of : (ℕ → ℕ) → ℕ → ℕ
first_of ks zero = 0
first_of ks (suc q) = choose (eqb (ks (suc q)) (ks q)) (first_of ks q) (suc q)

-- the key at each place, where `order` has the numbers of the keys in their order
abbrev pub keyed : List ℕ → List ℕ → ℕ → ℕ
keyed keys order q = get_or keys (get_or order q 0) 0
