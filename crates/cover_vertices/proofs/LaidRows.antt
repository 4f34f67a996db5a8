-- The rows of ends by their vertices, and the hub's row behind them: the strings in a table, as walks want them.
use mathlib.Core.Path.{◌≡◌, refl, ap, sym, ◌∙◌}
use mathlib.Core.Logic.{◌⊎◌, inl, inr}
use mathlib.Core.List.{List, ◌++◌}
use Prim.Native.Nat.{ℕ, ◌+◌, ◌-◌, ◌*◌, ◌/◌, ◌%◌, ◌<◌, ◌≤◌}
use native.Mathlib.Omega.{arith}
use native.Mathlib.Decide.{dec_lt}
use lib.ListN.{length, get_or, get_or-append}
use lib.Seq.{get_or-append-add}
use Rattle.cover_tours.specs.Halves.{near}
use Rattle.cover_tours.specs.Rows.{InRow, Graph}
use Rattle.cover_tours.proofs.Halves.{near-string, near_hub}
use Rattle.cover_vertices.specs.Firsts.{first_of, keyed}
use Rattle.cover_vertices.specs.Ladder.{ladder}
use Rattle.cover_vertices.proofs.Firsts.{first_le, first_between}
use Rattle.cover_vertices.proofs.Ladder.{ladder_at}
use Rattle.cover_vertices.proofs.Ordering.{in_order, order_length, order_rising, order_place}

-- Each end in the order has the first place with its weight as its vertex, and behind the order stands the hub's row.
module _ (m : ℕ) (keys verts : List ℕ) (named : (q : ℕ) → q < 2 * m
    → get_or verts (get_or (in_order m keys) q 0) 0 ≡ first_of (keyed keys (in_order m keys)) q) where
  -- the weight at each place
  abbrev at_place_lem : ℕ → ℕ
  at_place_lem = keyed keys (in_order m keys)

  abbrev in_rows : List ℕ
  in_rows = in_order m keys ++ ladder (2 * m) 2 (2 * m)

  row_end : (q : ℕ) → q < 2 * m → get_or in_rows q 0 ≡ get_or (in_order m keys) q 0
  row_end q l = get_or-append (in_order m keys) (ladder (2 * m) 2 (2 * m)) 0 q (omega (arith, order_length m keys))

  row_hub : (j : ℕ) → j < 2 * m → get_or in_rows (2 * m + j) 0 ≡ 2 * m + j * 2
  row_hub j l =
      let q : 2 * m + j ≡ length (in_order m keys) + j = omega (arith, order_length m keys) in
      ap (λ (i : ℕ). get_or (in_order m keys ++ ladder (2 * m) 2 (2 * m)) i 0) q
      ∙ (get_or-append-add (in_order m keys) (ladder (2 * m) 2 (2 * m)) j 0 ∙ ladder_at (2 * m) 2 (2 * m) j l)

  -- the vertex of an end, by its place
  pub vert_is : (c q : ℕ) → q < 2 * m → get_or (in_order m keys) q 0 ≡ c → get_or verts c 0 ≡ first_of at_place_lem q
  vert_is c q l e = ap (λ (x : ℕ). get_or verts x 0) (sym e) ∙ named q l

  -- vertices are below 2m
  pub vert_low : (c : ℕ) → c < 2 * m → get_or verts c 0 < 2 * m
  vert_low c l = let p = order_place m keys c l in omega (arith, p.1, vert_is c p.0 p.1 p.2, first_le at_place_lem p.0)

  -- an end in its row
  end_row : (c : ℕ) → c < 2 * m → InRow (near m verts) in_rows (4 * m) c
  end_row c l =
      let p = order_place m keys c l in
      let v : near m verts c ≡ first_of at_place_lem p.0 = near-string m verts c l ∙ vert_is c p.0 p.1 p.2 in
      record {
        at = p.0;
        inside = omega (arith, p.1);
        is = row_end p.0 p.1 ∙ p.2;
        behind = omega (arith, first_le at_place_lem p.0);
        one_row = λ i a b.
            let il : i < 2 * m = omega (arith, p.1) in
            ap (near m verts) (row_end i il)
            ∙ (near-string m verts (get_or (in_order m keys) i 0) ((order_rising m keys).low i il)
            ∙ (vert_is (get_or (in_order m keys) i 0) i il refl ∙ (first_between at_place_lem p.0 i (omega (arith, a)) b ∙ sym v)));
      }

  -- a spoke in the hub's row
  hub_row : (c : ℕ) → 2 * m ≤ c → c < 6 * m → c % 2 ≡ 0 → InRow (near m verts) in_rows (4 * m) c
  hub_row c a b e =
      let h = near_hub m verts c a e in
      let q : 2 * m + (c / 2 - m) * 2 ≡ c = omega arith in
      record {
        at = 2 * m + (c / 2 - m);
        inside = omega arith;
        is = row_hub (c / 2 - m) (omega arith) ∙ q;
        behind = omega (arith, h);
        one_row = λ i u v. in_hub (i - 2 * m) (omega arith) i (omega (arith, u, h)) ∙ sym h;
      }
    where
      in_hub : (j : ℕ) → j < 2 * m → (i : ℕ) → i ≡ 2 * m + j → near m verts (get_or in_rows i 0) ≡ 2 * m
      in_hub j l i e =
          ap (λ (x : ℕ). near m verts (get_or in_rows x 0)) e ∙ (ap (near m verts) (row_hub j l) ∙ near_hub m verts (2 * m + j * 2) (omega arith) (omega arith))

  -- so the table has the strings as walks want them
  pub laid_graph : Graph m verts (in_order m keys ++ ladder (2 * m) 2 (2 * m))
  laid_graph = record {
    verts_low = vert_low;
    rows_low = λ q l. low q l (dec_lt q (2 * m));
    in_row = λ c l d. row c l d (dec_lt c (2 * m));
  }
    where
      low : (q : ℕ) → q < 4 * m → Dec (q < 2 * m) → get_or in_rows q 0 < 6 * m
      low q l (yes p) = rw (row_end q p) (omega (arith, (order_rising m keys).low q p))
      low q l (no p) = let e : q ≡ 2 * m + (q - 2 * m) = omega arith in omega (arith, ap (λ (x : ℕ). get_or in_rows x 0) e, row_hub (q - 2 * m) (omega arith))

      row : (c : ℕ) → c < 6 * m → (c < 2 * m) ⊎ (c % 2 ≡ 0) → Dec (c < 2 * m) → InRow (near m verts) in_rows (4 * m) c
      row c l d (yes p) = end_row c p
      row c l (inl d) (no p) = absurd (p d)
      row c l (inr d) (no p) = hub_row c (omega arith) l d
