-- The halves of all walks give places with the fewest paths: without the spokes they are an order that has the least number of paths,
-- and the places put the strings into that order.
use mathlib.Core.Path.{◌≡◌, ap, sym, ◌∙◌, subst}
use mathlib.Core.Bool.{false}
use mathlib.Core.List.{List, ◌++◌, map, append-nil}
use Prim.Native.Nat.{ℕ, suc, ◌+◌, ◌-◌, ◌*◌, ◌/◌, ◌<◌, ◌≤◌}
use native.Mathlib.Omega.{arith}
use lib.IntN.{ℤ, pos}
use lib.ListN.{length, get_or, drop, replicate, length-map, length-drop, length-replicate, drop_of_length-le}
use Rattle.lists.specs.Fill.{fill}
use Rattle.cover_trails.specs.Groups.{odd_weights, least}
use Rattle.cover_trails.specs.Paths.{path_count}
use Rattle.cover_trails.specs.Places.{signed, SignedPermutation, arranged}
use Rattle.cover_trails.specs.Renamed.{Renamed}
use Rattle.cover_trails.specs.Strings.{Ends, turned}
use Rattle.cover_trails.specs.Hub.{unspoked}
use Rattle.cover_trails.proofs.Arranged.{marked, marked_permutation, marked-arranged}
use Rattle.cover_trails.proofs.Amounts.{paths_few, length-spoked}
use Rattle.cover_trails.proofs.Orders.{length-reordered}
use Rattle.cover_trails.proofs.Renamed.{renamed-length, renamed-paths, renamed-least}
use Rattle.cover_trails.proofs.Upper.{toured_reordered, toured_answer, toured_least}
use Rattle.cover_tours.specs.Layout.{Tables}
use Rattle.cover_tours.specs.Halves.{near, gone}
use Rattle.cover_tours.specs.Rows.{Graph}
use Rattle.cover_tours.specs.States.{along, strings, Done}
use Rattle.cover_tours.proofs.Halves.{length-numbered}
use Rattle.cover_tours.proofs.Tours.{hub_fresh}
use Rattle.cover.specs.Cover.{Fewest}
use Rattle.cover.specs.Covering.{place_all, Covering}
use Rattle.cover.proofs.PlacedHalves.{marks, marks_placed, length-all, unspoked_marks}

-- a table that is written over as a whole
fill_all : {A : Type 0} (xs w : List A) → length xs ≡ length w → fill xs w ≡ xs
fill_all xs w e =
    let l : length w ≤ length xs = omega arith in
    ap (λ (L : List _). xs ++ L) (drop_of_length-le w l) ∙ append-nil xs

-- ─── the places ──────────────────────────────────────────────────────────────

module _ {m : ℕ} {t u : Tables} {z walks : ℕ} (g : Graph m t.verts t.rows) (d : Done m t u z walks) where
  abbrev halves : List ℕ
  halves = drop z u.stack

  -- spokes left out, the halves are the strings that their marks name
  in_order_at : unspoked (2 * m) (along m t halves) ≡ map (marked turned (0, 0) (strings m t)) (marks m halves)
  in_order_at = unspoked_marks m t.verts g.verts_low halves

  count_strings : length (strings m t) ≡ m
  count_strings = length-numbered (near m t.verts) 0 m

  count_marks : length (marks m halves) ≡ m
  count_marks =
      omega (
        arith,
        length-map (marks m halves) (marked turned (0, 0) (strings m t)),
        ap length in_order_at,
        length-reordered (toured_reordered (hub_fresh m t g) d.toured),
        count_strings,
      )

  -- O is what the stack has beyond the strings
  odd_count : odd_weights (strings m t) + m + z ≡ 3 * m
  odd_count =
      omega (
        arith,
        length-reordered d.toured.all,
        length-spoked (2 * m) (strings m t),
        count_strings,
        length-map halves (gone (near m t.verts)),
        length-drop z u.stack,
        d.size,
        d.high,
      )

  -- so the stack starts within the first 2m entries
  pub start_low : z ≤ 2 * m
  start_low = omega (arith, odd_count)

  -- the number of paths
  paths-counted : (2 * m - z) / 2 + walks ≡ least (strings m t)
  paths-counted = omega (arith, odd_count, toured_answer (hub_fresh m t g) d.toured)

  -- and there are at most m paths
  pub paths_low : (2 * m - z) / 2 + walks ≤ m
  paths_low =
      omega (
        arith,
        paths-counted,
        toured_least (hub_fresh m t g) d.toured,
        paths_few (unspoked (2 * m) (along m t halves)),
        length-reordered (toured_reordered (hub_fresh m t g) d.toured),
        count_strings,
      )

  module _ (ps : List ℤ) (l : length ps ≡ m) where
    each_placed : (n : ℕ) → n < m
        → ((get_or (marks m halves) n (0, false)).0 < m)
        × (get_or (place_all m 0 halves ps) (get_or (marks m halves) n (0, false)).0 (pos 0) ≡ signed (suc n) (get_or (marks m halves) n (0, false)).1)
    each_placed n b =
        let r = marks_placed m 0 halves ps l (λ e h. omega (arith, d.once e h)) n (omega (arith, count_marks)) in
        let q : 0 + suc n ≡ suc n = omega arith in
        (r.0, r.1 ∙ ap (λ (i : ℕ). signed i (get_or (marks m halves) n (0, false)).1) q)

    places_size : length (place_all m 0 halves ps) ≡ m
    places_size = length-all m 0 halves ps ∙ l

    places_permute : SignedPermutation m (place_all m 0 halves ps)
    places_permute =
        marked_permutation turned (0, 0) m (place_all m 0 halves ps) (strings m t) (marks m halves) places_size count_strings count_marks each_placed

    places-least : path_count (arranged turned (place_all m 0 halves ps) (strings m t)) ≡ least (strings m t)
    places-least =
        ap path_count
        (marked-arranged turned (0, 0) m (place_all m 0 halves ps) (strings m t) (marks m halves) places_size count_strings count_marks each_placed
        ∙ sym in_order_at)
        ∙ toured_least (hub_fresh m t g) d.toured

    -- ─── the same for the strings by their weights ───────────────────────────

    module _ {L : List Ends} (r : Renamed L (strings m t)) where
      permute_named : SignedPermutation (length (strings m t)) (place_all m 0 halves ps)
      permute_named = subst (λ (n : ℕ). SignedPermutation n (place_all m 0 halves ps)) (sym count_strings) places_permute

      covered_fewest : Fewest L (place_all m 0 halves ps)
      covered_fewest = record {
        permutation = subst (λ (n : ℕ). SignedPermutation n (place_all m 0 halves ps)) (sym (renamed-length r)) permute_named;
        fewest = renamed-paths r (place_all m 0 halves ps) permute_named ∙ (places-least ∙ renamed-least r);
      }

      covered_paths : (2 * m - z) / 2 + walks ≡ least L
      covered_paths = paths-counted ∙ renamed-least r

      -- what the call leaves: qs are the places, v the table of zeros
      pub covering : {qs : List ℤ} (w : List ℕ) {v : List ℕ} → qs ≡ place_all m 0 halves ps → v ≡ fill (replicate (16 * m) 0) w → length w ≡ 16 * m
          → Covering L m qs v ((2 * m - z) / 2 + walks)
      covering {qs} w {v} e f s = record {
        paths = covered_paths;
        places_fewest = subst (Fewest L) (sym e) covered_fewest;
        places_size = ap length e ∙ places_size;
        work_zero = f ∙ fill_all (replicate (16 * m) 0) w (length-replicate (16 * m) 0 ∙ sym s);
      }
