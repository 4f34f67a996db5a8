-- Laws of rows and cursors: every half starts at a vertex; where a search along a row stops without an unused half, none is left; and cursors stay right.
use mathlib.Core.Path.{◌≡◌, refl, sym, ◌∙◌}
use mathlib.Core.Logic.{inl, inr}
use mathlib.Core.List.{List}
use Prim.Native.Nat.{ℕ, ◌+◌, ◌-◌, ◌*◌, ◌/◌, ◌%◌, ◌≤◌, ◌<◌}
use native.Mathlib.Omega.{arith}
use native.Mathlib.Decide.{ℕ_discrete, dec_lt}
use lib.ListN.{length, get_or, set}
use lib.Seq.{get_or-set_same, get_or-set_other}
use Rattle.cover_tours.specs.Layout.{Tables}
use Rattle.cover_tours.specs.Halves.{near}
use Rattle.cover_tours.specs.Rows.{InRow, Graph, Passed, Cursor, Cursors, Sought, Answer}
use Rattle.cover_tours.specs.States.{moved, taken}
use Rattle.cover_tours.proofs.Entries.{still_used}
use Rattle.cover_tours.proofs.Halves.{near-string, near_hub, near_spoke, none-unused}

-- every half starts at a vertex or at the hub
pub near_low : {m : ℕ} {verts rows : List ℕ} → Graph m verts rows → (c : ℕ) → c < 6 * m → near m verts c ≤ 2 * m
near_low {m} {verts} g c l = go (dec_lt c (2 * m)) (ℕ_discrete (c % 2) 0)
  where
    go : Dec (c < 2 * m) → Dec (c % 2 ≡ 0) → near m verts c ≤ 2 * m
    go (yes p) d = rw (near-string m verts c p) (omega (arith, g.verts_low c p))
    go (no p) (yes d) = rw (near_hub m verts c (omega arith) d) (omega arith)
    go (no p) (no d) = rw (near_spoke m verts c (omega arith) d) (omega arith)

-- a search goes on past a half that is used
pub passed_more : {rows used : List ℕ} {p e : ℕ} → Passed rows used p e → (get_or used (get_or rows e 0 / 2) 0 ≡ 0 → ⊥) → Passed rows used p (e + 1)
passed_more {rows} {used} {p} {e} h n = record { all_used = λ q k l z. go q k l z (ℕ_discrete q e) }
  where
    go : (q : ℕ) → p ≤ q → q < e + 1 → get_or used (get_or rows q 0 / 2) 0 ≡ 0 → Dec (q ≡ e) → ⊥
    go q k l z (yes i) = n (rw i at z)
    go q k l z (no i) = h.all_used q k (omega arith) z

module _ {m : ℕ} {t : Tables} {v e : ℕ} (c : Cursor m t.rows t.used v (get_or t.cursors v 0)) (s : Sought m t v (get_or t.cursors v 0) e) where
  -- the search goes on where the cursor stood
  pub passed-all : Passed t.rows t.used v e
  passed-all = record { all_used = λ q k l z. go q k l z (dec_lt q (get_or t.cursors v 0)) }
    where
      go : (q : ℕ) → v ≤ q → q < e → get_or t.used (get_or t.rows q 0 / 2) 0 ≡ 0 → Dec (q < get_or t.cursors v 0) → ⊥
      go q k l z (yes i) = c.passed.all_used q k i z
      go q k l z (no i) = s.passed.all_used q (omega arith) l z

  -- the cursor moves to where it stopped
  pub cursors_moved : Cursors m t → v < length t.cursors → Cursors m (moved t v e)
  cursors_moved all b x l = go (ℕ_discrete x v)
    where
      go : Dec (x ≡ v) → Cursor m t.rows t.used x (get_or (set t.cursors v e) x 0)
      go (yes p) = rw (p, get_or-set_same t.cursors v e 0 b) (record { low = omega (arith, c.low, s.low); high = s.high; passed = passed-all })
      go (no p) = rw (get_or-set_other t.cursors v x e 0 p) (all x l)

  -- no unused half at v is left, where the search stopped at none and v's own spoke is used
  pub absent : Graph m t.verts t.rows → length t.used ≡ 3 * m
      → (e < 4 * m → near m t.verts (get_or t.rows e 0) ≡ v → ⊥) → (v < 2 * m → get_or t.used (m + v) 0 ≡ 0 → ⊥) → Answer m t v (6 * m)
  absent g u stop own = inl (refl, none-unused (near m t.verts) t.used v (λ h l z q. go h (omega arith) z q (dec_lt h (2 * m)) (ℕ_discrete (h % 2) 0)))
    where
      in_row : (h : ℕ) → get_or t.used (h / 2) 0 ≡ 0 → near m t.verts h ≡ v → InRow (near m t.verts) t.rows (4 * m) h → ⊥
      in_row h z q r = go (dec_lt r.at e)
        where
          low : v ≤ r.at
          low = omega (arith, r.behind)

          go : Dec (r.at < e) → ⊥
          go (yes l) = passed-all.all_used r.at low l (rw r.is z)
          go (no l) = stop (omega (arith, r.inside)) (r.one_row e (omega (arith, c.low, s.low)) (omega arith) ∙ q)

      go : (h : ℕ) → h < 6 * m → get_or t.used (h / 2) 0 ≡ 0 → near m t.verts h ≡ v → Dec (h < 2 * m) → Dec (h % 2 ≡ 0) → ⊥
      go h b z q (yes l) d = in_row h z q (g.in_row h b (inl l))
      go h b z q (no l) (yes d) = in_row h z q (g.in_row h b (inr d))
      go h b z q (no l) (no d) =
          let w : h / 2 - m ≡ v = sym (near_spoke m t.verts h (omega arith) d) ∙ q in
          let k : h / 2 ≡ m + v = omega arith in
          own (omega arith) (rw k at z)

  -- where it stopped at v's row, the half there is unused
  pub present : Graph m t.verts t.rows → e < 4 * m → near m t.verts (get_or t.rows e 0) ≡ v → Answer m t v (get_or t.rows e 0)
  present g l q = inr (g.rows_low e l, s.stop l q, q)

-- v's own spoke is unused
pub own_spoke : (m : ℕ) (t : Tables) (v : ℕ) → v < 2 * m → get_or t.used (m + v) 0 ≡ 0 → Answer m t v (2 * (m + v) + 1)
own_spoke m t v l z =
    let a : (2 * (m + v) + 1) / 2 ≡ m + v = omega arith in
    inr (omega arith, rw a z, near_spoke m t.verts (2 * (m + v) + 1) (omega arith) (λ e. omega arith) ∙ omega arith)

-- cursors stay right when a half is taken
pub cursors_used : (m : ℕ) (t : Tables) (n c : ℕ) → c / 2 < length t.used → Cursors m t → Cursors m (taken t n c)
cursors_used m t n c l k v b =
    record {
      low =
          (k v b).low;
      high = (k v b).high;
      passed = record { all_used = λ q h e z. (k v b).passed.all_used q h e (still_used t.used (c / 2) (get_or t.rows q 0 / 2) l z) };
    }
