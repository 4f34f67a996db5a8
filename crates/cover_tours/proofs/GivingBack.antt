-- No unused half is left where a walk stands: it gives back the last half that it took, or it is closed.
use mathlib.Core.Path.{◌≡◌, ap, sym, ◌∙◌, subst}
use mathlib.Core.Logic.{inl, inr}
use mathlib.Core.List.{List, ◌∷◌}
use Prim.Native.Nat.{ℕ, ◌+◌, ◌-◌, ◌*◌, ◌≤◌, ◌<◌}
use native.Mathlib.Omega.{arith}
use lib.ListN.{get_or, set, drop, length-set}
use lib.Seq.{get_or-set_other}
use Rattle.cover_trails.specs.Counting.{occurs}
use Rattle.cover_trails.specs.Strings.{weights}
use Rattle.cover_trails.specs.Walks.{Closed}
use Rattle.cover_trails.proofs.Walk.{Walk, popped, closed as walk-closed}
use Rattle.cover_tours.specs.Layout.{Tables}
use Rattle.cover_tours.specs.Halves.{near, gone, unused}
use Rattle.cover_tours.specs.Rows.{Answer}
use Rattle.cover_tours.specs.States.{returned, left, along, numbers, Between, Walked}
use Rattle.cover_tours.proofs.Entries.{held, held-other, held_less, drop_stored}
use Rattle.cover_tours.proofs.Rows.{near_low}
use Rattle.cover_tours.proofs.Going.{Going}

module _ {m : ℕ} {t₀ : Tables} {s z₀ : ℕ} {t : Tables} {n z here : ℕ} (g : Going m t₀ s z₀ t n z here) where
  module _ (c : ℕ) (a : Answer m t here c) (l : 6 * m ≤ c) where
    none_here : occurs here (weights (left m t)) ≡ 0
    none_here = go a
      where
        go : Answer m t here c → occurs here (weights (left m t)) ≡ 0
        go (inl p) = p.1
        go (inr p) = absurd (omega arith)

    -- the last half is given back
    module _ (some : n ≡ 0 → ⊥) where
      back : ℕ
      back = get_or t.stack (n - 1) 0

      held_was : held t.stack n ≡ back ∷ held t.stack (n - 1)
      unfolding back
      held_was = held_less t.stack n some

      held-left : held (set t.stack (z - 1) back) (n - 1) ≡ held t.stack (n - 1)
      held-left = held-other t.stack (n - 1) (z - 1) back (omega (arith, g.room))

      given_more : drop (z - 1) (set t.stack (z - 1) back) ≡ back ∷ drop z t.stack
      given_more = drop_stored t.stack z back (λ e. omega (arith, g.room)) (omega (arith, g.between.high, g.between.stack_size))

      listed_back : (e : ℕ) → e < m
          → occurs e (numbers (held (set t.stack (z - 1) back) (n - 1))) + occurs e (numbers (drop (z - 1) (set t.stack (z - 1) back)))
          ≡ get_or t.used e 0
      unfolding occurs
      listed_back e b = rw (held-left, given_more) (omega (arith, rw held_was at (g.between.listed e b)))

      -- and the walk stands where that half started
      pub going_back : Going m t₀ s z₀ (returned t (n - 1) (z - 1)) (n - 1) (z - 1) (near m t.verts (get_or t.stack (n - 1) 0))
      unfolding back
      going_back = record {
        same = record { verts = g.same.verts; rows = g.same.rows };
        between = record {
          graph = g.between.graph;
          cursors = g.between.cursors;
          used_size = g.between.used_size;
          stack_size = length-set t.stack (z - 1) back ∙ g.between.stack_size;
          cursors_size = g.between.cursors_size;
          high = omega (arith, g.between.high);
          flags = g.between.flags;
          listed = listed_back;
        };
        room = omega (arith, g.room);
        codes = λ k b. rw (get_or-set_other t.stack (z - 1) k back 0 (λ e. omega (arith, g.room))) (g.codes k (omega arith));
        here_low = near_low g.between.graph back (g.codes (n - 1) (omega arith));
        grown = g.grown;
        Z = back ∷ g.Z;
        gave = given_more ∙ ap (λ (L : List ℕ). back ∷ L) g.gave;
        z_at = near m t.verts back;
        state =
            subst (λ (T : List ℕ). Walk s (unused (near m t.verts) 0 t₀.used) (left m t) (along m t T) (near m t.verts back) (along m t (back ∷ g.Z))
            (near m t.verts back)) (sym held-left)
            (popped {e = gone (near m t.verts) back}
            (subst (λ (T : List ℕ). Walk s (unused (near m t.verts) 0 t₀.used) (left m t) (along m t T) here (along m t g.Z) g.z_at) held_was
            g.state) none_here);
      }

    -- or the walk is closed
    pub going_closed : n ≡ 0 → Walked m t₀ t s z₀ z
    unfolding held
    going_closed e =
        let k = walk-closed
        (subst (λ (j : ℕ). Walk s (unused (near m t.verts) 0 t₀.used) (left m t) (along m t (held t.stack j)) here (along m t g.Z) g.z_at) e
        g.state) none_here in
        record {
          same = g.same;
          ready = record {
            between = subst (λ (j : ℕ). Between m t (held t.stack j) z) e g.between;
            room = omega (arith, g.room);
            even = k.even;
          };
          grown = g.grown;
          Z = g.Z;
          gave = g.gave;
          closed = subst
              (λ (vs : List ℕ). Closed s (unused (near m vs) 0 t₀.used) (left m t)
              (along m (record { verts = vs; used = t.used; rows = t.rows; cursors = t.cursors; stack = t.stack }) g.Z)) g.same.verts k;
        }

-- The same for the table u that the code leaves.
module _ {m : ℕ} {t₀ : Tables} {s z₀ : ℕ} {t : Tables} {n z here c : ℕ} (g : Going m t₀ s z₀ t n z here) (a : Answer m t here c) where
  -- a half was given back
  pub going_gave : {u : Tables} {h : ℕ} → 6 * m ≤ c → (n ≡ 0 → ⊥) → u ≡ returned t (n - 1) (z - 1) → h ≡ near m t.verts (get_or t.stack (n - 1) 0)
      → Going m t₀ s z₀ u (n - 1) (z - 1) h
  going_gave {u} {h} l some e q =
      subst (λ (x : Tables). Going m t₀ s z₀ x (n - 1) (z - 1) h) (sym e)
      (subst (λ (y : ℕ). Going m t₀ s z₀ (returned t (n - 1) (z - 1)) (n - 1) (z - 1) y) (sym q) (going_back g c a l some))

  -- and the same is unused
  pub gave_left : {u : Tables} → u ≡ returned t (n - 1) (z - 1) → left m u ≡ left m t
  gave_left e = ap (left m) e
