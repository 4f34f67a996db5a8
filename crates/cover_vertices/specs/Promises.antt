-- Inner: what the stages ask and leave: the end weights in order, the vertices, the spokes to odd vertices. COVER's promise cites none of this.
use Rattle.std.specs.Prelude.{◌≡◌, List, [], ◌∷◌, ℕ, ◌+◌, ◌-◌, ◌%◌, ◌≤◌, ◌<◌, length, get_or, drop}
use Rattle.collection.specs.Kmers.{within}
use Rattle.cover_trails.specs.Counting.{occurs}
use Rattle.cover_trails.specs.Renamed.{Renamed}
use Rattle.cover_trails.specs.Strings.{Ends}
use Rattle.cover_tours.specs.Layout.{tables}
use Rattle.cover_tours.specs.States.{strings, Begun}
use Rattle.cover_vertices.specs.Firsts.{first_of, keyed}

-- ─── the end weights ─────────────────────────────────────────────────────────

-- The end weights of strings from the ends and weights alone (they are `end_weights`: `end_weights_lem` in proofs/EndWeights): the next string starts at
-- `before`,
-- and its weights are the first of those that are left.
unfoldable pub ends_from : ℕ → ℕ → List ℕ → List ℕ → List Ends
ends_from k before [] weights = []
ends_from k before (e ∷ ends) weights = (get_or weights 0 0, get_or weights (within k before e - 1) 0) ∷ ends_from k e ends (drop (within k before e) weights)

-- ─── the stages ──────────────────────────────────────────────────────────────

-- the order has numbers of n ends only, and the weights rise in it
pub record Rising (n : ℕ) (keys order : List ℕ) : Type 0 where
  pub low : (q : ℕ) → q < n → get_or order q 0 < n
  pub rises : (p q : ℕ) → p ≤ q → q < n → keyed keys order p ≤ keyed keys order q

-- each end has its vertex
abbrev pub Named : List ℕ → List ℕ → List ℕ → Type 0
Named keys order verts = (q : ℕ) → q < length order → get_or verts (get_or order q 0) 0 ≡ first_of (keyed keys order) q

-- for each vertex, whether its spoke is used: the spokes to vertices that are met oddly often are unused
pub record Marked (verts spokes : List ℕ) : Type 0 where
  pub odd : (x : ℕ) → x < length spokes → (get_or spokes x 0 + occurs x verts) % 2 ≡ 1
  pub flags : (x : ℕ) → x < length spokes → get_or spokes x 0 ≤ 1

-- The table is ready for the walks, over the strings with vertices in place of weights.
pub record LaidOut (k m : ℕ) (ends ws w : List ℕ) : Type 0 where
  pub begun : Begun m (tables m w)
  pub renamed : Renamed (ends_from k 0 ends ws) (strings m (tables m w))
