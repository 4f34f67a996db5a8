-- A walk takes an unused half where it stands.
use mathlib.Core.Path.{◌≡◌, ap, sym, ◌∙◌, subst}
use mathlib.Core.Logic.{inl, inr}
use mathlib.Core.List.{List, ◌∷◌}
use Prim.Native.Nat.{ℕ, suc, ◌+◌, ◌*◌, ◌/◌, ◌<◌}
use native.Mathlib.Omega.{arith}
use native.Mathlib.Decide.{ℕ_discrete}
use lib.ListN.{length, get_or, set, drop, length-set}
use lib.Seq.{drop-set-lt, get_or-set_same, get_or-set_other}
use Rattle.cover_trails.specs.Counting.{occurs}
use Rattle.cover_trails.specs.Strings.{Ends}
use Rattle.cover_trails.specs.Walks.{Reordered}
use Rattle.lists.proofs.Agree.{agree_same, agree-other}
use Rattle.cover_trails.proofs.Orders.{length-reordered}
use Rattle.cover_trails.proofs.Walk.{Walk, taken as walk-taken}
use Rattle.cover_tours.specs.Layout.{Tables}
use Rattle.cover_tours.specs.Halves.{near, other, unused}
use Rattle.cover_tours.specs.Rows.{Answer}
use Rattle.cover_tours.specs.States.{taken, left, along, numbers}
use Rattle.cover_tours.proofs.Entries.{still_used, flags_set, held, held_more}
use Rattle.cover_tours.proofs.Halves.{use_half}
use Rattle.cover_tours.proofs.Rows.{near_low, cursors_used}
use Rattle.cover_tours.proofs.Going.{Going}

module _ {m : ℕ} {t₀ : Tables} {s z₀ : ℕ} {t : Tables} {n z here : ℕ} (g : Going m t₀ s z₀ t n z here) where
  module _ (c : ℕ) (a : Answer m t here c) (l : c < 6 * m) where
    is_fresh : (get_or t.used (c / 2) 0 ≡ 0) × (near m t.verts c ≡ here)
    is_fresh = go a
      where
        go : Answer m t here c → (get_or t.used (c / 2) 0 ≡ 0) × (near m t.verts c ≡ here)
        go (inl p) = absurd (omega arith)
        go (inr p) = (p.1, p.2)

    in_used : c / 2 < length t.used
    in_used = omega (arith, g.between.used_size)

    take_left : Reordered (left m t) ((here, near m t.verts (other c)) ∷ left m (taken t n c))
    take_left =
        subst (λ (x : ℕ). Reordered (left m t) ((x, near m t.verts (other c)) ∷ left m (taken t n c))) is_fresh.1
        (use_half (near m t.verts) t.used c in_used is_fresh.0)

    -- one less is unused then
    pub take_fewer : length (left m t) ≡ suc (length (left m (taken t n c)))
    take_fewer = length-reordered take_left

    -- the stack has room for it
    pub take_inside : n < 3 * m
    take_inside = omega (arith, g.room, take_fewer, g.between.high)

    on_stack : n < length t.stack
    on_stack = omega (arith, take_inside, g.between.stack_size)

    held_now : held (set t.stack n c) (n + 1) ≡ c ∷ held t.stack n
    held_now = held_more t.stack n c on_stack

    given_now : drop z (set t.stack n c) ≡ drop z t.stack
    given_now = drop-set-lt z t.stack n c (omega (arith, g.room, take_fewer))

    listed_now : (e : ℕ) → e < m
        → occurs e (numbers (held (set t.stack n c) (n + 1))) + occurs e (numbers (drop z (set t.stack n c))) ≡ get_or (set t.used (c / 2) 1) e 0
    listed_now e b = rw (held_now, given_now) (go (ℕ_discrete e (c / 2)))
      where
        go : Dec (e ≡ c / 2) → occurs e (c / 2 ∷ numbers (held t.stack n)) + occurs e (numbers (drop z t.stack)) ≡ get_or (set t.used (c / 2) 1) e 0
        go (yes p) =
            unfold occurs in
            (omega (
              arith,
              g.between.listed e b,
              agree_same e (c / 2) p,
              get_or-set_same t.used (c / 2) 1 0 in_used,
              ap (λ (x : ℕ). get_or (set t.used (c / 2) 1) x 0) p,
              ap (λ (x : ℕ). get_or t.used x 0) p,
              is_fresh.0,
            ))
        go (no p) = unfold occurs in (omega (arith, g.between.listed e b, agree-other e (c / 2) p, get_or-set_other t.used (c / 2) e 1 0 p))

    codes_now : (k : ℕ) → k < n + 1 → get_or (set t.stack n c) k 0 < 6 * m
    codes_now k b = go (ℕ_discrete k n)
      where
        go : Dec (k ≡ n) → get_or (set t.stack n c) k 0 < 6 * m
        go (yes p) = rw (p, get_or-set_same t.stack n c 0 on_stack) l
        go (no p) = rw (get_or-set_other t.stack n k c 0 p) (g.codes k (omega arith))

    trail_now : along m t (held (set t.stack n c) (n + 1)) ≡ (here, near m t.verts (other c)) ∷ along m t (held t.stack n)
    trail_now =
        ap (along m t) held_now
        ∙ ap (λ (e : Ends). e ∷ along m t (held t.stack n)) (λ j. (is_fresh.1 j, near m t.verts (other c)))

    -- the walk goes on over it
    pub going_take : Going m t₀ s z₀ (taken t n c) (n + 1) z (near m t.verts (other c))
    going_take = record {
      same = record { verts = g.same.verts; rows = g.same.rows };
      between = record {
        graph = g.between.graph;
        cursors = cursors_used m t n c in_used g.between.cursors;
        used_size = length-set t.used (c / 2) 1 ∙ g.between.used_size;
        stack_size = length-set t.stack n c ∙ g.between.stack_size;
        cursors_size = g.between.cursors_size;
        high = g.between.high;
        flags = flags_set t.used (c / 2) in_used g.between.flags;
        listed = listed_now;
      };
      room = omega (arith, g.room, take_fewer);
      codes = codes_now;
      here_low = near_low g.between.graph (other c) (omega arith);
      grown = λ e h. g.grown e (still_used t.used (c / 2) e in_used h);
      Z = g.Z;
      gave = given_now ∙ g.gave;
      z_at = g.z_at;
      state =
          subst (λ (T : List Ends). Walk s (unused (near m t.verts) 0 t₀.used) (left m (taken t n c)) T (near m t.verts (other c)) (along m t g.Z)
          g.z_at) (sym trail_now)
          (walk-taken g.state (near m t.verts (other c)) (left m (taken t n c)) take_left);
    }

-- The same for the table u that the code leaves.
module _ {m : ℕ} {t₀ : Tables} {s z₀ : ℕ} {t : Tables} {n z here c : ℕ} (g : Going m t₀ s z₀ t n z here) (a : Answer m t here c) where
  -- a half was taken
  pub going_took : {u : Tables} {h : ℕ} → c < 6 * m → u ≡ taken t n c → h ≡ near m t.verts (other c) → Going m t₀ s z₀ u (n + 1) z h
  going_took {u} {h} l e q =
      subst (λ (x : Tables). Going m t₀ s z₀ x (n + 1) z h) (sym e)
      (subst (λ (y : ℕ). Going m t₀ s z₀ (taken t n c) (n + 1) z y) (sym q) (going_take g c a l))

  -- and one less is unused
  pub took_fewer : {u : Tables} → c < 6 * m → u ≡ taken t n c → length (left m t) ≡ suc (length (left m u))
  took_fewer {u} l e = take_fewer g c a l ∙ ap (λ (x : Tables). suc (length (left m x))) (sym e)
