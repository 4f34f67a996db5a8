-- Inner: orders and turnings as a relation, in which strings move one at a time, and closed walks. COVER's promise cites none of this; the contracts of its
-- walks (`cover_tours`) do, and the proofs of the bounds. Signed places and this relation say the same (proofs/Places).
use Rattle.std.specs.Prelude.{◌≡◌, List, [], ◌∷◌, ◌++◌, ℕ, ◌%◌, ◌≤◌}
use Rattle.cover_trails.specs.Counting.{occurs}
use Rattle.cover_trails.specs.Strings.{Ends, front, back, weights}

-- the second list has the strings of the first in another order, some turned
pub data Reordered : List Ends → List Ends → Type 0 where
  empty : Reordered [] []
  keep : {s : Ends} {L M : List Ends} → Reordered L M → Reordered (s ∷ L) (s ∷ M)
  turn : {a b : ℕ} {L M : List Ends} → Reordered L M → Reordered ((a, b) ∷ L) ((b, a) ∷ M)
  exchange : {s t : Ends} {L : List Ends} → Reordered (s ∷ (t ∷ L)) (t ∷ (s ∷ L))
  both : {L M N : List Ends} → Reordered L M → Reordered M N → Reordered L N

-- each string of L joins the one behind it; the first starts at x, and the last ends at y
abbrev pub Chain : ℕ → List Ends → ℕ → Type 0
Chain x [] y = x ≡ y
Chain x (s ∷ L) y = (x ≡ front s) × Chain (back s) L y

-- all weights have an even number of ends
abbrev pub AllEven : List Ends → Type 0
AllEven U = (v : ℕ) → occurs v (weights U) % 2 ≡ 0

-- A closed walk from s over the strings U₀: the chain Z came back to s; U is left, is even again, and touches Z nowhere.
pub record Closed (s : ℕ) (U₀ U Z : List Ends) : Type 0 where
  pub chain : Chain s Z s
  pub even : AllEven U
  pub spent : (v : ℕ) → 1 ≤ occurs v (weights Z) → occurs v (weights U) ≡ 0
  pub home : occurs s (weights U) ≡ 0
  pub all : Reordered U₀ (U ++ Z)
