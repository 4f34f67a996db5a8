-- Names that tell weights apart keep which strings join, so each order has as many paths under them, and the least number of paths is the same.
use mathlib.Core.Path.{◌≡◌, refl, ap, sym, ◌∙◌, subst}
use mathlib.Core.List.{List, [], ◌∷◌, map}
use Prim.Native.Nat.{ℕ, ◌+◌, ◌-◌, ◌≤◌}
use native.Mathlib.Decide.{ℕ_discrete}
use lib.IntN.{ℤ}
use lib.ListN.{length, length-map}
use Rattle.lists.specs.Every.{All}
use Rattle.lists.specs.Count.{agree}
use Rattle.cover_trails.specs.Counting.{occurs}
use Rattle.cover_trails.specs.Strings.{Ends, front, back, turned, weights}
use Rattle.cover_trails.specs.Paths.{paths, path_count}
use Rattle.cover_trails.specs.Places.{SignedPermutation, arranged}
use Rattle.cover_trails.specs.Groups.{least}
use Rattle.cover_trails.specs.Renamed.{renamed, Renamed}
use Rattle.cover_trails.proofs.Arranged.{map-arranged}
use Rattle.cover_trails.proofs.Bounds.{none_fewer, one_reaches, least_only}
use Rattle.lists.proofs.Agree.{agree_same, agree-other}
use Rattle.cover_trails.proofs.Orders.{all-reordered, all_weights}
use Rattle.cover_trails.proofs.Paths.{paths_next}
use Rattle.cover_trails.proofs.Places.{places-reordered}

-- ─── the paths of an order ───────────────────────────────────────────────────

module _ (g : ℕ → ℕ) (P : ℕ → Type 0) (apart : (v w : ℕ) → P v → P w → g v ≡ g w → v ≡ w) where
  agree_named : (v w : ℕ) → P v → P w → agree (g v) (g w) ≡ agree v w
  agree_named v w p q = go (ℕ_discrete v w)
    where
      go : Dec (v ≡ w) → agree (g v) (g w) ≡ agree v w
      go (yes e) = agree_same (g v) (g w) (ap g e) ∙ sym (agree_same v w e)
      go (no n) = agree-other (g v) (g w) (λ e. n (apart v w p q e)) ∙ sym (agree-other v w n)

  -- an order has as many paths under the names
  pub paths_named : (L : List Ends) → All (λ s. P (front s) × P (back s)) L → path_count (map (renamed g) L) ≡ path_count L
  unfolding paths
  paths_named [] h = refl
  paths_named (s ∷ []) h = refl
  paths_named (s ∷ (t ∷ L)) h =
      paths_next (renamed g s) (renamed g t) (map (renamed g) L)
      ∙ (ap (λ (n : ℕ). (1 - n) + path_count (map (renamed g) (t ∷ L))) (agree_named (back s) (front t) h.0.1 h.1.0.0)
      ∙ (ap (λ (n : ℕ). (1 - agree (back s) (front t)) + n) (paths_named (t ∷ L) h.1) ∙ sym (paths_next s t L)))

-- ─── the least number ────────────────────────────────────────────────────────

module _ {strings named : List Ends} (r : Renamed strings named) where
  -- as many strings
  pub renamed-length : length strings ≡ length named
  renamed-length = ap length r.is ∙ length-map named (renamed r.weight)

  -- places make as many paths of the one as of the other
  pub renamed-paths : (places : List ℤ) → SignedPermutation (length named) places
      → path_count (arranged turned places strings) ≡ path_count (arranged turned places named)
  renamed-paths places s =
      ap (λ (L : List Ends). path_count (arranged turned places L)) r.is
      ∙ (ap path_count (sym (map-arranged turned turned (renamed r.weight) (λ x. refl) places named))
      ∙ paths_named r.weight (λ v. 1 ≤ occurs v (weights named)) r.apart (arranged turned places named)
      (all-reordered (λ t. (1 ≤ occurs (front t) (weights named)) × (1 ≤ occurs (back t) (weights named))) (λ t p. (p.1, p.0))
      (places-reordered places named s)
      (all_weights (λ v. 1 ≤ occurs v (weights named)) named (λ w h. h))))

  -- so the least number of paths is the same
  pub renamed-least : least named ≡ least strings
  renamed-least = least_only strings (least named) (record { none_fewer = fewer; reached = reaches (one_reaches named) })
    where
      there : (places : List ℤ) → SignedPermutation (length strings) places → SignedPermutation (length named) places
      there places s = subst (λ (m : ℕ). SignedPermutation m places) renamed-length s

      fewer : (places : List ℤ) → SignedPermutation (length strings) places → least named ≤ path_count (arranged turned places strings)
      fewer places s = rw (renamed-paths places (there places s)) (none_fewer named places (there places s))

      reaches : (places : List ℤ) × SignedPermutation (length named) places × (path_count (arranged turned places named) ≡ least named)
          → (places : List ℤ) × SignedPermutation (length strings) places × (path_count (arranged turned places strings) ≡ least named)
      reaches u = (u.0, subst (λ (m : ℕ). SignedPermutation m u.0) (sym renamed-length) u.1, renamed-paths u.0 u.1 ∙ u.2)
