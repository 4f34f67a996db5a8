-- A walk over the table: its state, its start, and the search for an unused half. Each step of the code is one of the steps of a walk over lists (the laws of
-- `cover_trails`).
use mathlib.Core.Path.{◌≡◌, refl, ap, sym, ◌∙◌, subst}
use mathlib.Core.List.{List, [], ◌++◌}
use Prim.Native.Nat.{ℕ, ◌+◌, ◌*◌, ◌≤◌, ◌<◌}
use native.Mathlib.Omega.{arith}
use lib.ListN.{length, get_or, drop, length-set}
use Rattle.cover_trails.proofs.Walk.{Walk, started}
use Rattle.cover_tours.specs.Layout.{Tables}
use Rattle.cover_tours.specs.Halves.{near, unused}
use Rattle.cover_tours.specs.Rows.{Cursors, Answer}
use Rattle.cover_tours.specs.States.{moved, Same, Found, left, along, Between, Ready}
use Rattle.cover_tours.proofs.Entries.{held}

-- A walk began at s over t₀, where halves stood from entry z₀ on. Now it holds the first n halves of the stack, gave back Z from entry z on, and stands at
-- `here`.
pub record Going (m : ℕ) (t₀ : Tables) (s z₀ : ℕ) (t : Tables) (n z here : ℕ) : Type 0 where
  pub same : Same t₀ t
  pub between : Between m t (held t.stack n) z
  -- there is room to give back all that it holds or may take
  pub room : n + length (left m t) ≤ z
  -- what it holds are halves
  pub codes : (k : ℕ) → k < n → get_or t.stack k 0 < 6 * m
  pub here_low : here ≤ 2 * m
  -- what was used stays used
  pub grown : (e : ℕ) → get_or t.used e 0 ≡ 0 → get_or t₀.used e 0 ≡ 0
  -- what it gave back, and the vertex where that starts
  pub Z : List ℕ
  pub gave : drop z t.stack ≡ Z ++ drop z₀ t₀.stack
  pub z_at : ℕ
  -- the same over lists
  pub state : Walk s (unused (near m t.verts) 0 t₀.used) (left m t) (along m t (held t.stack n)) here (along m t Z) z_at

-- a walk starts, with nothing taken
pub going_start : {m : ℕ} {t : Tables} {z : ℕ} (s : ℕ) → s ≤ 2 * m → Ready m t z → Going m t s z t 0 z s
unfolding held
going_start {m} {t} {z} s l r = record {
  same = record { verts = refl; rows = refl };
  between = r.between;
  room = omega (arith, r.room);
  codes = λ k h. absurd (omega arith);
  here_low = l;
  grown = λ e h. h;
  Z = [];
  gave = refl;
  z_at = s;
  state = started s (left m t) r.even;
}

module _ {m : ℕ} {t₀ : Tables} {s z₀ : ℕ} {t : Tables} {n z here : ℕ} (g : Going m t₀ s z₀ t n z here) where
  -- a cursor moves
  going_moved : (v e : ℕ) → Cursors m (moved t v e) → Going m t₀ s z₀ (moved t v e) n z here
  going_moved v e k = record {
    same = record { verts = g.same.verts; rows = g.same.rows };
    between = record {
      graph = g.between.graph;
      cursors = k;
      used_size = g.between.used_size;
      stack_size = g.between.stack_size;
      cursors_size = length-set t.cursors v e ∙ g.between.cursors_size;
      high = g.between.high;
      flags = g.between.flags;
      listed = g.between.listed;
    };
    room = g.room;
    codes = g.codes;
    here_low = g.here_low;
    grown = g.grown;
    Z = g.Z;
    gave = g.gave;
    z_at = g.z_at;
    state = g.state;
  }

  -- a search for an unused half moves one cursor
  pub going_found : {u : Tables} {v r : ℕ} → Found m t u v r → Going m t₀ s z₀ u n z here × Answer m u v r
  going_found {u} {v} {r} f = (
    subst (λ (x : Tables). Going m t₀ s z₀ x n z here) (sym f.moves) (going_moved v f.cursor (subst (Cursors m) f.moves f.kept)),
    subst (λ (x : Tables). Answer m x v r) (sym f.moves) f.answer,
  )

-- a search leaves the same unused
pub found_left : {m : ℕ} {t u : Tables} {v r : ℕ} → Found m t u v r → left m u ≡ left m t
found_left {m} f = ap (left m) f.moves
