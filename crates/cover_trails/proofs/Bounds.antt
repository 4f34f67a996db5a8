-- E + O / 2 is the least number of paths that an order and turning of the strings can have.
use mathlib.Core.Path.{◌≡◌, refl, ap, ◌∙◌}
use mathlib.Core.List.{List, []}
use Prim.Native.Nat.{ℕ, ◌*◌, ◌/◌, ◌≤◌}
use native.Mathlib.Omega.{arith}
use lib.IntN.{ℤ}
use lib.ListN.{length}
use Rattle.cover_trails.specs.Strings.{Ends, turned, weights}
use Rattle.cover_trails.specs.Paths.{path_count}
use Rattle.cover_trails.specs.Places.{SignedPermutation, arranged}
use Rattle.cover_trails.specs.Groups.{even_groups, odd_weights, least}
use Rattle.cover_trails.specs.Bounds.{LeastPaths}
use Rattle.cover_trails.proofs.Places.{places-reordered, reordered-places}
use Rattle.cover_trails.proofs.Lower.{lower, no_even_groups, no_odd}
use Rattle.cover_trails.proofs.Hub.{odd_weights_even}
use Rattle.cover_trails.proofs.Upper.{upper}

-- ─── the two bounds ──────────────────────────────────────────────────────────

-- every order and turning has at least E + O / 2 paths
pub none_fewer : (strings : List Ends) (places : List ℤ) → SignedPermutation (length strings) places
    → least strings ≤ path_count (arranged turned places strings)
none_fewer strings places s = lower strings (arranged turned places strings) (places-reordered places strings s)

-- one has exactly as many
pub one_reaches : (strings : List Ends)
    → (places : List ℤ) × SignedPermutation (length strings) places × (path_count (arranged turned places strings) ≡ least strings)
one_reaches strings =
    let b = upper strings in
    let p = reordered-places strings b.0 b.1 in
    (p.0, p.1, ap path_count p.2 ∙ b.2)

-- so E + O / 2 is the least number of paths
pub least-paths : (strings : List Ends) → LeastPaths strings (least strings)
least-paths strings = record { none_fewer = none_fewer strings; reached = one_reaches strings }

-- no other number is
pub least_only : (strings : List Ends) (n : ℕ) → LeastPaths strings n → n ≡ least strings
least_only strings n l =
    let r = one_reaches strings in
    let q = l.reached in
    omega (arith, l.none_fewer r.0 r.1, r.2, none_fewer strings q.0 q.1, q.2)

-- ─── O, and no strings ───────────────────────────────────────────────────────

-- O is even, so that O / 2 loses nothing
pub odd_weights_halves : (strings : List Ends) → 2 * (odd_weights strings / 2) ≡ odd_weights strings
odd_weights_halves strings = omega (arith, odd_weights_even strings)

-- with no strings all are 0
pub no_strings : (even_groups [] ≡ 0) × (odd_weights [] ≡ 0) × (least [] ≡ 0)
unfolding even_groups odd_weights least weights
no_strings = (no_even_groups 0 (λ w. w), no_odd 0, refl)
