-- Reads and stores of the table, region by region: a store in one region leaves the others. From the laws of regions.
use mathlib.Core.Path.{◌≡◌, sym, ap, ◌∙◌}
use mathlib.Core.Logic.{inl, inr}
use mathlib.Core.List.{List}
use Prim.Native.Nat.{ℕ, ◌+◌, ◌*◌, ◌/◌, ◌<◌}
use native.Mathlib.Omega.{arith}
use lib.ListN.{length, get_or, set}
use Rattle.lists.proofs.Regions.{part_at, part_length, part-set, part-set-other}
use Rattle.cover_tours.specs.Layout.{Fits, Tables, tables}
use Rattle.cover_tours.specs.States.{moved, taken, returned}

-- ─── reads ───────────────────────────────────────────────────────────────────

-- an entry of the table is one of its region

pub vert_at : (m : ℕ) (w : List ℕ) (c : ℕ) → c < 2 * m → get_or w c 0 ≡ get_or (tables m w).verts c 0
vert_at m w c h = let e : 0 + c ≡ c = omega arith in sym (rw e at (part_at 0 (2 * m) w c 0 h))

pub used_at : (m : ℕ) (w : List ℕ) (e : ℕ) → e < 3 * m → get_or w (2 * m + e) 0 ≡ get_or (tables m w).used e 0
used_at m w e h = sym (part_at (2 * m) (3 * m) w e 0 h)

pub row_at : (m : ℕ) (w : List ℕ) (q : ℕ) → q < 4 * m → get_or w (5 * m + q) 0 ≡ get_or (tables m w).rows q 0
row_at m w q h = sym (part_at (5 * m) (4 * m) w q 0 h)

pub cursor_at : (m : ℕ) (w : List ℕ) (v : ℕ) → v < 3 * m → get_or w (9 * m + v) 0 ≡ get_or (tables m w).cursors v 0
cursor_at m w v h = sym (part_at (9 * m) (3 * m) w v 0 h)

pub stack_at : (m : ℕ) (w : List ℕ) (n : ℕ) → n < 3 * m → get_or w (12 * m + n) 0 ≡ get_or (tables m w).stack n 0
stack_at m w n h = sym (part_at (12 * m) (3 * m) w n 0 h)

-- ─── sizes ───────────────────────────────────────────────────────────────────

module _ {m : ℕ} {w : List ℕ} (f : Fits m w) where
  pub used_size : length (tables m w).used ≡ 3 * m
  used_size = part_length (2 * m) (3 * m) w (omega (arith, f.size))

  pub cursors_size : length (tables m w).cursors ≡ 3 * m
  cursors_size = part_length (9 * m) (3 * m) w (omega (arith, f.size))

  pub stack_size : length (tables m w).stack ≡ 3 * m
  stack_size = part_length (12 * m) (3 * m) w (omega (arith, f.size))

  -- the regions stay while the size does
  pub fits-same : {v : List ℕ} → length v ≡ length w → Fits m v
  fits-same e = record { some = f.some; few = f.few; size = e ∙ f.size }

-- ─── stores ──────────────────────────────────────────────────────────────────

module _ (m : ℕ) (w : List ℕ) where
  -- a store among the cursors
  pub tables_cursor : (v x : ℕ) → v < 3 * m → tables m (set w (9 * m + v) x) ≡ moved (tables m w) v x
  tables_cursor v x h = λ j. record {
    verts = part-set-other 0 (2 * m) (9 * m) (3 * m) w v x (inl (omega arith)) h j;
    used = part-set-other (2 * m) (3 * m) (9 * m) (3 * m) w v x (inl (omega arith)) h j;
    rows = part-set-other (5 * m) (4 * m) (9 * m) (3 * m) w v x (inl (omega arith)) h j;
    cursors = part-set (9 * m) (3 * m) w v x h j;
    stack = part-set-other (12 * m) (3 * m) (9 * m) (3 * m) w v x (inr (omega arith)) h j;
  }

  tables_used : (e x : ℕ) → e < 3 * m → tables m (set w (2 * m + e) x)
      ≡ record {
        verts =
            (tables m w).verts;
        used = set (tables m w).used e x;
        rows = (tables m w).rows;
        cursors = (tables m w).cursors;
        stack = (tables m w).stack;
      }
  tables_used e x h = λ j. record {
    verts = part-set-other 0 (2 * m) (2 * m) (3 * m) w e x (inl (omega arith)) h j;
    used = part-set (2 * m) (3 * m) w e x h j;
    rows = part-set-other (5 * m) (4 * m) (2 * m) (3 * m) w e x (inr (omega arith)) h j;
    cursors = part-set-other (9 * m) (3 * m) (2 * m) (3 * m) w e x (inr (omega arith)) h j;
    stack = part-set-other (12 * m) (3 * m) (2 * m) (3 * m) w e x (inr (omega arith)) h j;
  }

  tables_stack : (n x : ℕ) → n < 3 * m → tables m (set w (12 * m + n) x)
      ≡ record {
        verts =
            (tables m w).verts;
        used = (tables m w).used;
        rows = (tables m w).rows;
        cursors = (tables m w).cursors;
        stack = set (tables m w).stack n x;
      }
  tables_stack n x h = λ j. record {
    verts = part-set-other 0 (2 * m) (12 * m) (3 * m) w n x (inl (omega arith)) h j;
    used = part-set-other (2 * m) (3 * m) (12 * m) (3 * m) w n x (inl (omega arith)) h j;
    rows = part-set-other (5 * m) (4 * m) (12 * m) (3 * m) w n x (inl (omega arith)) h j;
    cursors = part-set-other (9 * m) (3 * m) (12 * m) (3 * m) w n x (inl (omega arith)) h j;
    stack = part-set (12 * m) (3 * m) w n x h j;
  }

  -- a half copied within the stack
  pub tables-returned : (n z : ℕ) → n < 3 * m → z < 3 * m → tables m (set w (12 * m + z) (get_or w (12 * m + n) 0)) ≡ returned (tables m w) n z
  tables-returned n z h g = rw (stack_at m w n h) (tables_stack z (get_or (tables m w).stack n 0) g)

-- a flag set and a half put on the stack
pub tables-taken : (m : ℕ) (w : List ℕ) (n c : ℕ) → n < 3 * m → c / 2 < 3 * m → tables m (set (set w (2 * m + c / 2) 1) (12 * m + n) c) ≡ taken (tables m w) n c
tables-taken m w n c h g =
    tables_stack m (set w (2 * m + c / 2) 1) n c h
    ∙ ap (λ (t : Tables). record { verts = t.verts; used = t.used; rows = t.rows; cursors = t.cursors; stack = set t.stack n c })
    (tables_used m w (c / 2) 1 g)
