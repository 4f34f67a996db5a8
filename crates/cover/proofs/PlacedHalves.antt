-- The halves that walks went along give a signed permutation: each string stands among them once.
use mathlib.Core.Path.{◌≡◌, refl, ap, ap₂, sym, ◌∙◌, subst}
use mathlib.Core.Logic.{inl, inr}
use mathlib.Core.Bool.{Bool, false}
use mathlib.Core.List.{List, [], ◌∷◌, map}
use Prim.Native.Nat.{ℕ, zero, suc, ◌+◌, ◌-◌, ◌*◌, ◌/◌, ◌%◌, ◌<◌, ◌≤◌}
use native.Mathlib.Omega.{arith}
use native.Mathlib.Decide.{ℕ_discrete, dec_lt}
use borrow.Author.Tests.{lt-ltb, le-ltb, eq-eqb, ne_eqb}
use lib.Dec.{eqb, ltb}
use lib.IntN.{ℤ, pos}
use lib.ListN.{length, get_or, set, take, drop, length-set, drop_of_length-le}
use Rattle.lists.proofs.Storing.{drop_next}
use lib.Seq.{get_or-set_same, get_or-set_other, drop-drop}
use Rattle.std.proofs.lemmas.Slice.{between_is}
use Rattle.lists.specs.Choose.{choose}
use Rattle.lists.specs.Count.{agree}
use Rattle.lists.specs.Regions.{part}
use Rattle.cover_trails.specs.Counting.{occurs}
use Rattle.cover_trails.specs.Places.{signed}
use Rattle.cover_trails.specs.Strings.{Ends, front, back, turned}
use Rattle.cover_trails.specs.Hub.{unspoked}
use Rattle.cover_trails.proofs.Arranged.{marked}
use Rattle.lists.proofs.Agree.{agree_same, agree-other, Agreeing, agree_cases}
use Rattle.cover_tours.specs.Halves.{near, other, gone, numbered}
use Rattle.cover_tours.specs.Layout.{tables}
use Rattle.cover_tours.specs.States.{numbers}
use Rattle.cover_tours.proofs.Halves.{near-string, near_hub}
use Rattle.cover.specs.Covering.{counted, placed_by, place_all}

-- ─── one half ────────────────────────────────────────────────────────────────

module _ (m n c : ℕ) (ps : List ℤ) where
  -- a half of a string gives it its place
  pub string_placed : c < 2 * m → placed_by m n c ps ≡ set ps (c / 2) (signed (n + 1) (eqb (c % 2) 1))
  string_placed l = rw (lt-ltb c (2 * m) l)

  -- a spoke gives none
  pub spoke_placed : 2 * m ≤ c → placed_by m n c ps ≡ ps
  spoke_placed l = rw (le-ltb c (2 * m) l)

  -- there are as many places as before
  pub length_placed : length (placed_by m n c ps) ≡ length ps
  length_placed = go (dec_lt c (2 * m))
    where
      go : Dec (c < 2 * m) → length (placed_by m n c ps) ≡ length ps
      go (yes l) = ap length (string_placed l) ∙ simp length-set
      go (no l) = ap length (spoke_placed (omega arith))

-- one string more has its place
pub string-counted : (m n c : ℕ) → c < 2 * m → counted m n c ≡ n + 1
string-counted m n c l = rw (lt-ltb c (2 * m) l)

-- a spoke gives no place
pub spoke_counted : (m n c : ℕ) → 2 * m ≤ c → counted m n c ≡ n
spoke_counted m n c l = rw (le-ltb c (2 * m) l)

-- at most one more
pub counted_le : (m n c : ℕ) → counted m n c ≤ n + 1
counted_le m n c = go (dec_lt c (2 * m))
  where
    go : Dec (c < 2 * m) → counted m n c ≤ n + 1
    go (yes l) = rw (string-counted m n c l) (omega arith)
    go (no l) = rw (spoke_counted m n c (omega arith)) (omega arith)

-- ─── all halves ──────────────────────────────────────────────────────────────

-- there are as many places as before
pub length-all : (m n : ℕ) (cs : List ℕ) (ps : List ℤ) → length (place_all m n cs ps) ≡ length ps
unfolding place_all
length-all m n [] ps = refl
length-all m n (c ∷ cs) ps = length-all m (counted m n c) cs (placed_by m n c ps) ∙ length_placed m n c ps

-- a mark for each half of a string: which string it is, and whether it is turned
unfoldable pub marks : ℕ → List ℕ → List (ℕ × Bool)
marks m [] = []
marks m (c ∷ cs) = choose (ltb c (2 * m)) ((c / 2, eqb (c % 2) 1) ∷ marks m cs) (marks m cs)

module _ (m c : ℕ) (cs : List ℕ) where
  string-marked : c < 2 * m → marks m (c ∷ cs) ≡ (c / 2, eqb (c % 2) 1) ∷ marks m cs
  unfolding marks
  string-marked l = rw (lt-ltb c (2 * m) l)

  spoke_marked : 2 * m ≤ c → marks m (c ∷ cs) ≡ marks m cs
  unfolding marks
  spoke_marked l = rw (le-ltb c (2 * m) l)

-- a string that none of the halves names keeps its place
others_kept : (m n : ℕ) (cs : List ℕ) (ps : List ℤ) (i : ℕ) → occurs i (numbers cs) ≡ 0 → get_or (place_all m n cs ps) i (pos 0) ≡ get_or ps i (pos 0)
unfolding place_all occurs
others_kept m n [] ps i h = refl
others_kept m n (c ∷ cs) ps i h =
    others_kept m (counted m n c) cs (placed_by m n c ps) i (omega arith) ∙ go (dec_lt c (2 * m))
  where
    off : i ≡ c / 2 → ⊥
    off e = omega (arith, agree_same i (c / 2) e)

    go : Dec (c < 2 * m) → get_or (placed_by m n c ps) i (pos 0) ≡ get_or ps i (pos 0)
    go (yes l) = ap (λ (x : List ℤ). get_or x i (pos 0)) (string_placed m n c ps l) ∙ get_or-set_other ps (c / 2) i (signed (n + 1) (eqb (c % 2) 1)) (pos 0) off
    go (no l) = ap (λ (x : List ℤ). get_or x i (pos 0)) (spoke_placed m n c ps (omega arith))

-- the string of a mark has the place i, turned where the mark says so
abbrev pub MarkedAt : ℕ → List ℤ → ℕ → ℕ × Bool → Type 0
MarkedAt m ps i k = (k.0 < m) × (get_or ps k.0 (pos 0) ≡ signed i k.1)

once-later : (m c : ℕ) (cs : List ℕ) → ((e : ℕ) → e < m → occurs e (numbers (c ∷ cs)) ≤ 1) → (e : ℕ) → e < m → occurs e (numbers cs) ≤ 1
unfolding occurs
once-later m c cs once e h = omega (arith, once e h)

-- One half, where the later ones name each string at most once and place those that they name.
module _ (m n c : ℕ) (cs : List ℕ) (ps : List ℤ) (l : length ps ≡ m) (once : (e : ℕ) → e < m → occurs e (numbers (c ∷ cs)) ≤ 1)
    (more : (i : ℕ) (qs : List ℤ) → length qs ≡ m → (j : ℕ) → j < length (marks m cs)
    → MarkedAt m (place_all m i cs qs) (i + suc j) (get_or (marks m cs) j (0, false))) where
  first_at : c < 2 * m → MarkedAt m (place_all m n (c ∷ cs) ps) (n + 1) (c / 2, eqb (c % 2) 1)
  unfolding place_all occurs
  first_at h = (
    omega arith,
    others_kept m (counted m n c) cs (placed_by m n c ps) (c / 2) (omega (arith, once (c / 2) (omega arith), agree_same (c / 2) (c / 2) refl))
        ∙ (ap (λ (x : List ℤ). get_or x (c / 2) (pos 0)) (string_placed m n c ps h)
        ∙ get_or-set_same ps (c / 2) (signed (n + 1) (eqb (c % 2) 1)) (pos 0) (omega arith)),
  )

  all-string : (h : c < 2 * m) → place_all m n (c ∷ cs) ps ≡ place_all m (n + 1) cs (placed_by m n c ps)
  unfolding place_all
  all-string h = ap (λ (i : ℕ). place_all m i cs (placed_by m n c ps)) (string-counted m n c h)

  all_spoke : 2 * m ≤ c → place_all m n (c ∷ cs) ps ≡ place_all m n cs ps
  unfolding place_all
  all_spoke h = ap₂ (λ (i : ℕ) (qs : List ℤ). place_all m i cs qs) (spoke_counted m n c h) (spoke_placed m n c ps h)

  string_at : c < 2 * m → (j : ℕ) → j < suc (length (marks m cs))
      → MarkedAt m (place_all m n (c ∷ cs) ps) (n + suc j) (get_or ((c / 2, eqb (c % 2) 1) ∷ marks m cs) j (0, false))
  string_at h zero b = let e : n + 1 ≡ n + suc 0 = omega arith in
      subst (λ (i : ℕ). MarkedAt m (place_all m n (c ∷ cs) ps) i (c / 2, eqb (c % 2) 1)) e (first_at h)
  string_at h (suc j) b =
      let e : n + 1 + suc j ≡ n + suc (suc j) = omega arith in
      subst (λ (i : ℕ). MarkedAt m (place_all m n (c ∷ cs) ps) i (get_or (marks m cs) j (0, false))) e
      (subst (λ (qs : List ℤ). MarkedAt m qs (n + 1 + suc j) (get_or (marks m cs) j (0, false))) (sym (all-string h))
      (more (n + 1) (placed_by m n c ps) (length_placed m n c ps ∙ l) j (omega arith)))

  next_at : Dec (c < 2 * m) → (j : ℕ) → j < length (marks m (c ∷ cs))
      → MarkedAt m (place_all m n (c ∷ cs) ps) (n + suc j) (get_or (marks m (c ∷ cs)) j (0, false))
  next_at (yes h) j b =
      subst (λ (ks : List (ℕ × Bool)). MarkedAt m (place_all m n (c ∷ cs) ps) (n + suc j) (get_or ks j (0, false))) (sym (string-marked m c cs h))
      (string_at h j (rw (string-marked m c cs h) at b))
  next_at (no h) j b =
      let k : 2 * m ≤ c = omega arith in
      subst (λ (ks : List (ℕ × Bool)). MarkedAt m (place_all m n (c ∷ cs) ps) (n + suc j) (get_or ks j (0, false))) (sym (spoke_marked m c cs k))
      (subst (λ (qs : List ℤ). MarkedAt m qs (n + suc j) (get_or (marks m cs) j (0, false))) (sym (all_spoke k))
      (more n ps l j (rw (spoke_marked m c cs k) at b)))

-- each marked string has the place of its mark
pub marks_placed : (m n : ℕ) (cs : List ℕ) (ps : List ℤ) → length ps ≡ m → ((e : ℕ) → e < m → occurs e (numbers cs) ≤ 1)
    → (j : ℕ) → j < length (marks m cs) → MarkedAt m (place_all m n cs ps) (n + suc j) (get_or (marks m cs) j (0, false))
marks_placed m n [] ps l once j b = absurd (unfold marks in (omega arith))
marks_placed m n (c ∷ cs) ps l once j b = next_at m n c cs ps l once (λ i qs e k h. marks_placed m i cs qs e (once-later m c cs once) k h)
    (dec_lt c (2 * m)) j b

-- ─── the order that they make ────────────────────────────────────────────────

-- string or spoke number e by its two vertices
abbrev ends_at : (ℕ → ℕ) → ℕ → Ends
ends_at f e = (f (2 * e), f (2 * e + 1))

numbered_at : (f : ℕ → ℕ) (e n i : ℕ) → i < n → get_or (numbered f e n) i (0, 0) ≡ ends_at f (e + i)
unfolding numbered
numbered_at f e zero i l = absurd (omega arith)
numbered_at f e (suc n) zero l = let q : e ≡ e + 0 = omega arith in ap (ends_at f) q
numbered_at f e (suc n) (suc i) l = let q : suc e + i ≡ e + suc i = omega arith in numbered_at f (suc e) n i (omega arith) ∙ ap (ends_at f) q

-- A half of a string is the string that its mark names, as the mark wants it.
mark_gone : (f : ℕ → ℕ) (m c : ℕ) → c < 2 * m → marked turned (0, 0) (numbered f 0 m) (c / 2, eqb (c % 2) 1) ≡ gone f c
mark_gone f m c l = go (ℕ_discrete (c % 2) 1)
  where
    at : get_or (numbered f 0 m) (c / 2) (0, 0) ≡ ends_at f (0 + c / 2)
    at = numbered_at f 0 m (c / 2) (omega arith)

    go : Dec (c % 2 ≡ 1) → choose (eqb (c % 2) 1) (turned (get_or (numbered f 0 m) (c / 2) (0, 0))) (get_or (numbered f 0 m) (c / 2) (0, 0)) ≡ gone f c
    go (yes e) =
        let a : 2 * (0 + c / 2) + 1 ≡ c = omega arith in
        let b : 2 * (0 + c / 2) ≡ other c = omega arith in
        rw (eq-eqb (c % 2) 1 e) (ap turned at ∙ λ j. (f (a j), f (b j)))
    go (no e) =
        let a : 2 * (0 + c / 2) ≡ c = omega arith in
        let b : 2 * (0 + c / 2) + 1 ≡ other c = omega arith in
        rw (ne_eqb (c % 2) 1 e) (at ∙ λ j. (f (a j), f (b j)))

-- a string that touches the hub is left out, another stays
module _ (h : ℕ) (s : Ends) (L : List Ends) where
  unspoked_from : agree h (front s) ≡ 1 → unspoked h (s ∷ L) ≡ unspoked h L
  unfolding unspoked
  unspoked_from e = rw e refl

  unspoked_into : agree h (back s) ≡ 1 → unspoked h (s ∷ L) ≡ unspoked h L
  unfolding unspoked
  unspoked_into e = go (agree_cases h (front s))
    where
      go : Agreeing h (front s) → unspoked h (s ∷ L) ≡ unspoked h L
      go (inl a) = unspoked_from a.1
      go (inr a) = rw (a.1, e) refl

  unspoked_off : agree h (front s) ≡ 0 → agree h (back s) ≡ 0 → unspoked h (s ∷ L) ≡ s ∷ unspoked h L
  unfolding unspoked
  unspoked_off a b = rw (a, b) refl

-- Strings do not touch the hub, and spokes do.
module _ (m : ℕ) (verts : List ℕ) (low : (c : ℕ) → c < 2 * m → get_or verts c 0 < 2 * m) where
  string_off : (c : ℕ) → c < 2 * m → agree (2 * m) (near m verts c) ≡ 0
  string_off c l = agree-other (2 * m) (near m verts c) (λ e. omega (arith, near-string m verts c l, low c l))

  hub_on : (c : ℕ) → 2 * m ≤ c → c % 2 ≡ 0 → agree (2 * m) (near m verts c) ≡ 1
  hub_on c l e = agree_same (2 * m) (near m verts c) (sym (near_hub m verts c l e))

  -- spokes left out, the halves by their vertices are the strings that the marks name
  pub unspoked_marks : (cs : List ℕ) → unspoked (2 * m) (map (gone (near m verts)) cs) ≡ map (marked turned (0, 0) (numbered (near m verts) 0 m)) (marks m cs)
  unspoked_marks [] = unfold unspoked marks in refl
  unspoked_marks (c ∷ cs) = go (dec_lt c (2 * m)) (ℕ_discrete (c % 2) 0) (unspoked_marks cs)
    where
      go : Dec (c < 2 * m) → Dec (c % 2 ≡ 0)
          → unspoked (2 * m) (map (gone (near m verts)) cs) ≡ map (marked turned (0, 0) (numbered (near m verts) 0 m)) (marks m cs)
          → unspoked (2 * m) (gone (near m verts) c ∷ map (gone (near m verts)) cs)
          ≡ map (marked turned (0, 0) (numbered (near m verts) 0 m)) (marks m (c ∷ cs))
      go (yes l) d ih =
          unspoked_off (2 * m) (gone (near m verts) c) (map (gone (near m verts)) cs) (string_off c l) (string_off (other c) (omega arith))
          ∙ (ap₂ (λ (s : Ends) (L : List Ends). s ∷ L) (sym (mark_gone (near m verts) m c l)) ih
          ∙ ap (map (marked turned (0, 0) (numbered (near m verts) 0 m))) (sym (string-marked m c cs l)))
      go (no l) (yes d) ih =
          let k : 2 * m ≤ c = omega arith in
          unspoked_from (2 * m) (gone (near m verts) c) (map (gone (near m verts)) cs) (hub_on c k d)
          ∙ (ih ∙ ap (map (marked turned (0, 0) (numbered (near m verts) 0 m))) (sym (spoke_marked m c cs k)))
      go (no l) (no d) ih =
          let k : 2 * m ≤ c = omega arith in
          unspoked_into (2 * m) (gone (near m verts) c) (map (gone (near m verts)) cs) (hub_on (other c) (omega arith) (omega arith))
          ∙ (ih ∙ ap (map (marked turned (0, 0) (numbered (near m verts) 0 m))) (sym (spoke_marked m c cs k)))

-- ─── a loop that gives the places ────────────────────────────────────────────

-- the first i halves have given n places: the rest of them gives all
pub record Giving (m : ℕ) (halves : List ℕ) (ps₀ ps : List ℤ) (n i : ℕ) : Type 0 where
  pub few : n ≤ i
  pub size : length ps ≡ m
  pub rest : place_all m n (drop i halves) ps ≡ place_all m 0 halves ps₀

module _ {m : ℕ} {halves : List ℕ} {ps₀ ps : List ℤ} {n i : ℕ} (g : Giving m halves ps₀ ps n i) where
  -- the next half gives its place
  pub giving_on : i < length halves → {qs : List ℤ} {j : ℕ} → qs ≡ placed_by m n (get_or halves i 0) ps → j ≡ counted m n (get_or halves i 0)
      → Giving m halves ps₀ qs j (i + 1)
  unfolding place_all
  giving_on l {qs} {j} a b =
      let c : ℕ = get_or halves i 0 in
      record {
        few = rw b (omega (arith, counted_le m n c, g.few));
        size = ap length a ∙ (length_placed m n c ps ∙ g.size);
        rest =
            ap₂ (λ (x : ℕ) (y : List ℤ). place_all m x (drop (i + 1) halves) y) b a
            ∙ (sym (ap (λ (cs : List ℕ). place_all m n cs ps) (drop_next halves i 0 l)) ∙ g.rest);
      }

  -- all halves have given theirs
  pub giving_end : length halves ≤ i → ps ≡ place_all m 0 halves ps₀
  unfolding place_all
  giving_end h = sym (ap (λ (cs : List ℕ). place_all m n cs ps) (drop_of_length-le halves h)) ∙ g.rest

-- the halves from entry `start` of the stack on, as they stand in the table
pub halves_from : (m start : ℕ) (w : List ℕ) → take (15 * m - (12 * m + start)) (drop (12 * m + start) w) ≡ drop start (tables m w).stack
unfolding part
halves_from m start w =
    let e : 15 * m - (12 * m + start) ≡ 3 * m - start = omega arith in
    ap₂ take e (sym (drop-drop start (12 * m) w)) ∙ between_is (drop (12 * m) w) start (3 * m)
