-- Inner: strings and spokes by their halves. Number e of m strings and 2m spokes has the halves 2e and 2e + 1: a half is the string or spoke as it is gone
-- along from there. Vertices are numbers below 2m, and the hub, which is 2m. Spoke m + v leads from the hub to vertex v.
use Rattle.std.specs.Prelude.{List, [], ◌∷◌, ℕ, zero, suc, ◌+◌, ◌-◌, ◌*◌, ◌/◌, ◌%◌, eqb, ltb, get_or}
use Rattle.lists.specs.Choose.{choose}
use Rattle.cover_trails.specs.Strings.{Ends}

-- the vertex where half c starts
unfoldable pub near : ℕ → List ℕ → ℕ → ℕ
near m verts c = choose (ltb c (2 * m)) (get_or verts c 0) (choose (eqb (c % 2) 0) (2 * m) (c / 2 - m))

-- the other half of the same string or spoke
abbrev pub other : ℕ → ℕ
other c = c + 1 - 2 * (c % 2)

-- half c by its two vertices, where halves start by f
abbrev pub gone : (ℕ → ℕ) → ℕ → Ends
gone f c = (f c, f (other c))

-- the strings and spokes from number e on whose flag is 0
unfoldable pub unused : (ℕ → ℕ) → ℕ → List ℕ → List Ends
unused f e [] = []
unused f e (zero ∷ flags) = (f (2 * e), f (2 * e + 1)) ∷ unused f (suc e) flags
unused f e (suc n ∷ flags) = unused f (suc e) flags

-- the strings and spokes from number e to e + n
unfoldable pub numbered : (ℕ → ℕ) → ℕ → ℕ → List Ends
numbered f e zero = []
numbered f e (suc n) = (f (2 * e), f (2 * e + 1)) ∷ numbered f (suc e) n
