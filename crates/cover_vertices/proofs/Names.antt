-- Vertices as names of weights: the strings by their vertices are the strings with other names for their end weights.
use mathlib.Core.Path.{◌≡◌, refl, ap, ap₂, sym, ◌∙◌}
use mathlib.Core.List.{List, [], ◌∷◌, map}
use Prim.Native.Nat.{ℕ, zero, suc, ◌+◌, ◌*◌, ◌<◌, ◌≤◌}
use native.Mathlib.Omega.{arith}
use lib.ListN.{length, get_or, length-map}
use lib.Seq.{ext_get_or}
use Rattle.lists.proofs.Mapped.{map_at_below}
use Rattle.cover_trails.specs.Counting.{occurs}
use Rattle.cover_trails.specs.Strings.{Ends, front, back, weights}
use Rattle.cover_trails.specs.Renamed.{renamed, Renamed}
use Rattle.cover_trails.proofs.Counting.{occurs_where}
use Rattle.cover_trails.proofs.Orders.{length-weights}
use Rattle.cover_tours.specs.Halves.{near, numbered}
use Rattle.cover_tours.proofs.Halves.{near-string, length-numbered}
use Rattle.cover_vertices.specs.Firsts.{first_of, keyed}
use Rattle.cover_vertices.proofs.Firsts.{first_key, first_same}
use Rattle.cover_vertices.proofs.Ordering.{in_order, order_rising, order_place}
use Rattle.cover_vertices.proofs.LaidRows.{vert_is}

-- ─── strings by their ends ───────────────────────────────────────────────────

module _ (f : ℕ → ℕ) where
  weights_at_lem : (e n i : ℕ) → i < 2 * n → get_or (weights (numbered f e n)) i 0 ≡ f (2 * e + i)
  unfolding numbered weights
  weights_at_lem e zero i l = absurd (omega arith)
  weights_at_lem e (suc n) zero l = let q : 2 * e ≡ 2 * e + 0 = omega arith in ap f q
  weights_at_lem e (suc n) (suc zero) l = refl
  weights_at_lem e (suc n) (suc (suc i)) l = let q : 2 * suc e + i ≡ 2 * e + suc (suc i) = omega arith in weights_at_lem (suc e) n i (omega arith) ∙ ap f q

  -- the ends of all strings by their vertices
  pub weights-numbered : (n : ℕ) (vs : List ℕ) → length vs ≡ 2 * n → ((c : ℕ) → c < 2 * n → f c ≡ get_or vs c 0) → weights (numbered f 0 n) ≡ vs
  weights-numbered n vs l h =
      ext_get_or 0 (weights (numbered f 0 n)) vs (size ∙ sym l)
      (λ i b. let q : 2 * 0 + i ≡ i = omega arith in weights_at_lem 0 n i (omega (arith, size)) ∙ (ap f q ∙ h i (omega (arith, size))))
    where
      size : length (weights (numbered f 0 n)) ≡ 2 * n
      size = omega (arith, length-weights (numbered f 0 n), length-numbered f 0 n)

-- strings are known by all their ends
pub weights-same : (L M : List Ends) → weights L ≡ weights M → L ≡ M
unfolding weights
weights-same [] [] e = refl
weights-same [] (s ∷ M) e = absurd (omega (arith, ap length e))
weights-same (s ∷ L) [] e = absurd (omega (arith, ap length e))
weights-same (s ∷ L) (t ∷ M) e =
    let a : front s ≡ front t = cc in
    let b : back s ≡ back t = cc in
    let r : weights L ≡ weights M = cc in
    ap₂ (λ (x : Ends) (X : List Ends). x ∷ X) (λ j. (a j, b j)) (weights-same L M r)

-- the end weights of renamed strings
pub weights-renamed : (g : ℕ → ℕ) (L : List Ends) → weights (map (renamed g) L) ≡ map g (weights L)
unfolding weights
weights-renamed g [] = refl
weights-renamed g (s ∷ L) = ap (λ (X : List ℕ). g (front s) ∷ (g (back s) ∷ X)) (weights-renamed g L)

-- ─── the names ───────────────────────────────────────────────────────────────

-- Each end in the order has the first place with its weight as its vertex.
module _ (m : ℕ) (keys verts : List ℕ) (named : (q : ℕ) → q < 2 * m → get_or verts (get_or (in_order m keys) q 0) 0 ≡ first_of (keyed keys (in_order m keys)) q)
    (lk : length keys ≡ 2 * m) (lv : length verts ≡ 2 * m) where
  -- the weight at each place
  abbrev at_place_lem : ℕ → ℕ
  at_place_lem = keyed keys (in_order m keys)

  keys_by_vertex : keys ≡ map at_place_lem verts
  keys_by_vertex =
      ext_get_or 0 keys (map at_place_lem verts) (lk ∙ sym (length-map verts at_place_lem ∙ lv)) (λ c b. each c (omega arith))
    where
      each : (c : ℕ) → c < 2 * m → get_or keys c 0 ≡ get_or (map at_place_lem verts) c 0
      each c l =
          let p = order_place m keys c l in
          ap (λ (x : ℕ). get_or keys x 0) (sym p.2)
          ∙ (sym (first_key at_place_lem p.0)
          ∙ (sym (ap at_place_lem (vert_is m keys verts named c p.0 p.1 p.2)) ∙ sym (map_at_below at_place_lem 0 0 verts c (omega (arith, lv)))))

  -- no two vertices are of one weight
  pub vertices_apart : (v w : ℕ) → 1 ≤ occurs v verts → 1 ≤ occurs w verts → at_place_lem v ≡ at_place_lem w → v ≡ w
  vertices_apart v w a b e =
      let c = occurs_where v verts a in
      let d = occurs_where w verts b in
      let p = order_place m keys c.0 (omega (arith, c.1, lv)) in
      let q = order_place m keys d.0 (omega (arith, d.1, lv)) in
      let vp : v ≡ first_of at_place_lem p.0 = sym c.2 ∙ vert_is m keys verts named c.0 p.0 p.1 p.2 in
      let wq : w ≡ first_of at_place_lem q.0 = sym d.2 ∙ vert_is m keys verts named d.0 q.0 q.1 q.2 in
      vp
      ∙ (first_same at_place_lem (2 * m) rises p.0 q.0 p.1 q.1
      (sym (first_key at_place_lem p.0) ∙ (sym (ap at_place_lem vp) ∙ (e ∙ (ap at_place_lem wq ∙ first_key at_place_lem q.0)))) ∙ sym wq)
    where
      rises : (p q : ℕ) → p ≤ q → q < 2 * m → at_place_lem p ≤ at_place_lem q
      rises = (order_rising m keys).rises

  -- the strings by their vertices are the strings with other names
  pub laid_renamed : (L : List Ends) → weights L ≡ keys → Renamed L (numbered (near m verts) 0 m)
  laid_renamed L e = record {
    weight = at_place_lem;
    is = weights-same L (map (renamed at_place_lem) (numbered (near m verts) 0 m))
        (e ∙ (keys_by_vertex ∙ sym (weights-renamed at_place_lem (numbered (near m verts) 0 m) ∙ ap (map at_place_lem) ws)));
    apart = λ v w a b q. vertices_apart v w (rw ws at a) (rw ws at b) q;
  }
    where
      ws : weights (numbered (near m verts) 0 m) ≡ verts
      ws = weights-numbered (near m verts) m verts lv (λ c l. near-string m verts c l)
