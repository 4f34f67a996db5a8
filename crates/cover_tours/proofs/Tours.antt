-- All walks: the walk from the hub is the first of a tour, each later one is a later walk of it, and when all strings are used the spokes are, too.
use mathlib.Core.Path.{◌≡◌, refl, ap, sym, ◌∙◌, subst}
use mathlib.Core.List.{List, [], ◌∷◌, ◌++◌, map, map-append, append-nil}
use Prim.Native.Nat.{ℕ, zero, suc, ◌+◌, ◌*◌, ◌/◌, ◌≤◌, ◌<◌}
use native.Mathlib.Omega.{arith}
use native.Mathlib.Decide.{ℕ_discrete, dec_lt}
use lib.ListN.{length, get_or, drop, drop_of_length-le}
use Rattle.cover_trails.specs.Counting.{occurs}
use Rattle.cover_trails.specs.Strings.{Ends, weights}
use Rattle.cover_trails.specs.Hub.{Toured}
use Rattle.lists.proofs.Agree.{agree-other}
use Rattle.cover_trails.proofs.Upper.{first_walk, later-walk}
use Rattle.cover_trails.proofs.Walk.{closed_before}
use Rattle.cover_tours.specs.Layout.{Tables}
use Rattle.cover_tours.specs.Halves.{near, gone, unused, numbered}
use Rattle.cover_tours.specs.Rows.{Graph}
use Rattle.cover_tours.specs.States.{Same, left, along, Walked, strings, Begun, Touring, Visited, Done}
use Rattle.cover_tours.proofs.Halves.{near-string, near_hub, some-unused}

-- no string touches the hub
hub_off : (f : ℕ → ℕ) (h e n : ℕ) → ((c : ℕ) → c < 2 * (e + n) → f c ≡ h → ⊥) → occurs h (weights (numbered f e n)) ≡ 0
unfolding numbered occurs weights
hub_off f h e zero k = refl
hub_off f h e (suc n) k =
    omega (
      arith,
      agree-other h (f (2 * e)) (λ q. k (2 * e) (omega arith) (sym q)),
      agree-other h (f (2 * e + 1)) (λ q. k (2 * e + 1) (omega arith) (sym q)),
      hub_off f h (suc e) n (λ c l. k c (omega arith)),
    )

-- the hub is a weight that no string has
pub hub_fresh : (m : ℕ) (t : Tables) → Graph m t.verts t.rows → occurs (2 * m) (weights (strings m t)) ≡ 0
hub_fresh m t g =
    hub_off (near m t.verts) (2 * m) 0 m (λ c l q. omega (arith, g.verts_low c (omega arith), near-string m t.verts c (omega arith)))

-- the strings and the halves in tables with the same vertices
same-strings : {t u : Tables} (m : ℕ) → Same t u → strings m u ≡ strings m t
same-strings m s = ap (λ (vs : List ℕ). numbered (near m vs) 0 m) s.verts

same-along : {t u : Tables} (m : ℕ) (cs : List ℕ) → Same t u → along m u cs ≡ along m t cs
same-along m cs s = ap (λ (vs : List ℕ). map (gone (near m vs)) cs) s.verts

-- what all walks gave back
gave_along : {m : ℕ} {t u : Tables} {s z r : ℕ} (w : Walked m t u s z r) → along m u (drop r u.stack) ≡ along m t w.Z ++ along m t (drop z t.stack)
gave_along {m} {t} {u} {s} {z} {r} w =
    same-along m (drop r u.stack) w.same
    ∙ (ap (along m t) w.gave ∙ map-append (gone (near m t.verts)) w.Z (drop z t.stack))

-- ─── the first walk ──────────────────────────────────────────────────────────

-- the walk from the hub makes a tour with no later walks
pub touring_first : {m : ℕ} {t u : Tables} {r : ℕ} → Begun m t → Walked m t u (2 * m) (3 * m) r → Touring m u r 0
touring_first {m} {t} {u} {r} b w = record {
  ready = w.ready;
  toured =
      subst (λ (ss : List Ends). Toured (2 * m) ss 0 (left m u) (along m u (drop r u.stack))) (sym (same-strings m w.same))
      (subst (λ (Y : List Ends). Toured (2 * m) (strings m t) 0 (left m u) Y) (sym all)
      (first_walk (hub_fresh m t b.ready.between.graph) (closed_before b.spokes w.closed)));
}
  where
    none : drop (3 * m) t.stack ≡ []
    none = let l : length t.stack ≤ 3 * m = omega (arith, b.ready.between.stack_size) in drop_of_length-le t.stack l

    all : along m u (drop r u.stack) ≡ along m t w.Z
    all = gave_along w ∙ (ap (λ (L : List ℕ). along m t w.Z ++ along m t L) none ∙ append-nil (along m t w.Z))

-- ─── a visit ─────────────────────────────────────────────────────────────────

module _ {m : ℕ} {t : Tables} {z walks : ℕ} (k : Touring m t z walks) (i : ℕ) (l : i < m) where
  in_flags : (2 * i) / 2 < length t.used
  in_flags = omega (arith, k.ready.between.used_size)

  -- to a string that is used
  pub visited_used : (get_or t.used i 0 ≡ 0 → ⊥) → Visited m t t i z walks
  visited_used h = record { same = record { verts = refl; rows = refl }; touring = k; grown = λ e q. q; is_used = h }

  -- to one that is not: a later walk
  module _ (h : get_or t.used i 0 ≡ 0) where
    -- the walk starts at a vertex
    pub at_vertex : near m t.verts (2 * i) ≤ 2 * m
    at_vertex = rw (near-string m t.verts (2 * i) (omega arith)) (omega (arith, k.ready.between.graph.verts_low (2 * i) (omega arith)))

    is_left : 1 ≤ occurs (near m t.verts (2 * i)) (weights (left m t))
    is_left = let e : (2 * i) / 2 ≡ i = omega arith in some-unused (near m t.verts) t.used (2 * i) in_flags (rw e h)

    module _ {u : Tables} {r : ℕ} (w : Walked m t u (near m t.verts (2 * i)) z r) where
      now_used : get_or u.used i 0 ≡ 0 → ⊥
      now_used q =
          let e : (2 * i) / 2 ≡ i = omega arith in
          omega (
            arith,
            some-unused (near m u.verts) u.used (2 * i) (omega (arith, w.ready.between.used_size)) (rw e q),
            w.closed.home,
            ap (λ (vs : List ℕ). occurs (near m vs (2 * i)) (weights (left m u))) w.same.verts,
          )

      visited_walk : Visited m t u i r (walks + 1)
      visited_walk = record {
        same = w.same;
        touring = record {
          ready = w.ready;
          toured =
              let e : walks + 1 ≡ suc walks = omega arith in
              subst (λ (j : ℕ). Toured (2 * m) (strings m u) j (left m u) (along m u (drop r u.stack))) (sym e)
              (subst (λ (ss : List Ends). Toured (2 * m) ss (suc walks) (left m u) (along m u (drop r u.stack))) (sym (same-strings m w.same))
              (subst (λ (Y : List Ends). Toured (2 * m) (strings m t) (suc walks) (left m u) Y) (sym (gave_along w))
              (later-walk (hub_fresh m t k.ready.between.graph) k.toured (near m t.verts (2 * i)) is_left w.closed)));
        };
        grown = w.grown;
        is_used = now_used;
      }

    -- and makes one walk more
    pub visited_from : {u : Tables} {s r : ℕ} → s ≡ near m t.verts (2 * i) → Walked m t u s z r → Visited m t u i r (walks + 1)
    visited_from {u} {s} {r} q w = visited_walk (subst (λ (x : ℕ). Walked m t u x z r) q w)

-- one more string is used
pub visits_more : {m : ℕ} {t u : Tables} {i z walks : ℕ} → Visited m t u i z walks → ((e : ℕ) → e < i → get_or t.used e 0 ≡ 0 → ⊥) → (e : ℕ) → e < i + 1
    → get_or u.used e 0 ≡ 0 → ⊥
visits_more {u = u} {i = i} v h e l q = go (ℕ_discrete e i)
  where
    go : Dec (e ≡ i) → ⊥
    go (yes p) = v.is_used (rw p at q)
    go (no p) = h e (omega arith) (v.grown e q)

-- over two steps they are the same
pub same_trans : {t u v : Tables} → Same t u → Same u v → Same t v
same_trans p q = record { verts = q.verts ∙ p.verts; rows = q.rows ∙ p.rows }

-- ─── the end ─────────────────────────────────────────────────────────────────

none_left : (f : ℕ → ℕ) (e : ℕ) (flags : List ℕ) → ((i : ℕ) → i < length flags → get_or flags i 0 ≡ 0 → ⊥) → unused f e flags ≡ []
unfolding unused
none_left f e [] h = refl
none_left f e (zero ∷ flags) h = absurd (h 0 (omega arith) refl)
none_left f e (suc n ∷ flags) h = none_left f (suc e) flags (λ i l q. h (suc i) (omega arith) q)

-- All strings are visited.
pub tour_done : {m : ℕ} {t u : Tables} {z walks : ℕ} → Same t u → Touring m u z walks → ((e : ℕ) → e < m → get_or u.used e 0 ≡ 0 → ⊥) → Done m t u z walks
tour_done {m} {t} {u} {z} {walks} s k h = record {
  same = s;
  high = k.ready.between.high;
  size = k.ready.between.stack_size;
  toured =
      subst (λ (ss : List Ends). Toured (2 * m) ss walks [] (along m t (drop z u.stack))) (same-strings m s)
      (subst (λ (Y : List Ends). Toured (2 * m) (strings m u) walks [] Y) (same-along m (drop z u.stack) s)
      (subst (λ (U : List Ends). Toured (2 * m) (strings m u) walks U (along m u (drop z u.stack))) empty k.toured));
  once = λ e l. unfold occurs in (omega (arith, k.ready.between.listed e l, k.ready.between.flags e, one e l));
}
  where
    spoke_used : (e : ℕ) → m ≤ e → e < 3 * m → get_or u.used e 0 ≡ 0 → ⊥
    spoke_used e a b q =
        let d : (2 * e) / 2 ≡ e = omega arith in
        omega (
          arith,
          some-unused (near m u.verts) u.used (2 * e) (omega (arith, k.ready.between.used_size)) (rw d q),
          k.toured.hub_spent,
          ap (λ (v : ℕ). occurs v (weights (left m u))) (near_hub m u.verts (2 * e) (omega arith) (omega arith)),
        )

    all_used : (e : ℕ) → e < length u.used → Dec (e < m) → get_or u.used e 0 ≡ 0 → ⊥
    all_used e l (yes p) = h e p
    all_used e l (no p) = spoke_used e (omega arith) (omega (arith, k.ready.between.used_size))

    empty : left m u ≡ []
    empty = none_left (near m u.verts) 0 u.used (λ e l. all_used e l (dec_lt e m))

    one : (e : ℕ) → e < m → 1 ≤ get_or u.used e 0
    one e l = go (ℕ_discrete (get_or u.used e 0) 0)
      where
        go : Dec (get_or u.used e 0 ≡ 0) → 1 ≤ get_or u.used e 0
        go (yes q) = absurd (h e l q)
        go (no q) = omega arith
