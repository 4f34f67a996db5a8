-- The least that stands behind a neighbour of its own key: how a loop over the places finds it, and that in an order by keys it is the least that has the key
-- of a smaller one. Between two of one key all have that key, so the later one has such a neighbour before it. Assumes nothing.
use mathlib.Core.Path.{◌≡◌, refl, sym, ap, subst, ◌∙◌}
use mathlib.Core.Bool.{Bool, true, false, ◌&&◌}
use mathlib.Core.Logic.{◌⊎◌, inl, inr, ⊎_elim}
use mathlib.Core.List.{List}
use Prim.Native.Nat.{ℕ, ◌+◌, ◌-◌, ◌<◌, ◌≤◌}
use native.Mathlib.Omega.{arith}
use borrow.Author.Tests.{ltb-true, ltb-false, eqb-true, eqb-false}
use lib.Dec.{eqb, ltb}
use lib.ListN.{length, get_or}
use Rattle.lists.proofs.Compare.{lt_or_le, eq_or_ne}
use Rattle.lists.proofs.Every.{and_left, and_right}
use Rattle.repeats_sieving.specs.Kept.{Stands, Twin}
use Rattle.repeats.specs.Order.{Least}

module _ (key : ℕ → ℕ) (n : ℕ) (ids : List ℕ) where
  -- the one at a place
  abbrev order : ℕ → ℕ
  order j = get_or ids j 0

  -- ─── as a loop goes over the places ──────────────────────────────────────────

  module _ (i r : ℕ) (g : i + 1 < length ids) (s : Least key n ids (i + 1) r) where
    -- the test: the next one is smaller, and has the key of the one before it
    abbrev pub better : Bool
    better = ltb (order (i + 1)) r && eqb (key (order i)) (key (order (i + 1)))

    -- where the test holds, that one is the least so far
    pub least-take : better ≡ true → Least key n ids (i + 1 + 1) (order (i + 1))
    least-take e =
        let a : order (i + 1) < r = ltb-true (order (i + 1)) r (and_left (ltb (order (i + 1)) r) _ e) in
        record {
          lowest = λ j h e'. ⊎_elim (λ (x : j < i). omega (arith, s.lowest j (omega arith) e'))
              (λ (x : i ≤ j). let z : j ≡ i = omega arith in rw z (omega arith)) (lt_or_le j i);
          found = inr (i, g, eqb-true _ _ (and_right (ltb (order (i + 1)) r) _ e), refl);
        }

    -- where it does not, the least stays
    pub least_keep : better ≡ false → Least key n ids (i + 1 + 1) r
    least_keep e =
        record {
          lowest = λ j h e'. ⊎_elim (λ (x : j < i). s.lowest j (omega arith) e') (λ (x : i ≤ j). last j (omega arith) e') (lt_or_le j i);
          found = s.found;
        }
      where
        test : (a b : Bool) → (a && b) ≡ false → (a ≡ false) ⊎ (b ≡ false)
        test true b h = inr h
        test false b h = inl h

        last : (j : ℕ) → j ≡ i → key (order j) ≡ key (order (j + 1)) → r ≤ order (j + 1)
        last j z h =
            let q : key (order i) ≡ key (order (i + 1)) = subst (λ (t : ℕ). key (order t) ≡ key (order (t + 1))) z h in
            rw z
            (⊎_elim (λ (x : ltb (order (i + 1)) r ≡ false). ltb-false (order (i + 1)) r x)
            (λ (x : eqb (key (order i)) (key (order (i + 1))) ≡ false). absurd (eqb-false (key (order i)) (key (order (i + 1))) x q))
            (test (ltb (order (i + 1)) r) (eqb (key (order i)) (key (order (i + 1)))) e))

  -- ─── in an order by keys, in which those of one key rise ─────────────────────

  module _ (r : ℕ)
      (sorted : (i j : ℕ) → i ≤ j → j < length ids → key (get_or ids i 0) ≤ key (get_or ids j 0))
      (rise : (i j : ℕ) → i < j → j < length ids → key (get_or ids i 0) ≡ key (get_or ids j 0) → get_or ids i 0 < get_or ids j 0)
      (twins : (x y : ℕ) → y < x → x < n → key y ≡ key x → Stands x ids × Stands y ids)
      (s : Least key n ids (length ids) r)
    where
      -- what is found has the key of a smaller one
      pub least_twin : (r ≡ n → ⊥) → Twin key r
      least_twin h =
          ⊎_elim (λ (e : r ≡ n). absurd (h e))
          (λ (f : (j : ℕ) × (j + 1 < length ids) × (key (order j) ≡ key (order (j + 1))) × (order (j + 1) ≡ r)).
          subst (Twin key) f.3 (order f.0, rise f.0 (f.0 + 1) (omega arith) f.1 f.2, f.2))
          s.found

      -- and nothing smaller does
      pub twin_least : (x : ℕ) → x < n → Twin key x → r ≤ x
      twin_least x l t = go (twins x t.0 t.1 l t.2).1 (twins x t.0 t.1 l t.2).0
        where
          go : Stands t.0 ids → Stands x ids → r ≤ x
          go p q =
              let e : key (order p.0) ≡ key (order q.0) = ap key p.2 ∙ (t.2 ∙ ap key (sym q.2)) in
              ⊎_elim
              (λ (a : p.0 < q.0).
              let z : q.0 - 1 + 1 ≡ q.0 = omega arith in
              let f : key (order (q.0 - 1)) ≡ key (order q.0) =
              omega (arith, sorted p.0 (q.0 - 1) (omega arith) (omega (arith, q.1)), sorted (q.0 - 1) q.0 (omega arith) q.1) in
              let g : r ≤ order (q.0 - 1 + 1) = s.lowest (q.0 - 1) (omega (arith, q.1)) (f ∙ ap (λ (t : ℕ). key (order t)) (sym z)) in
              omega (arith, ap order z, q.2))
              (λ (a : q.0 ≤ p.0).
              ⊎_elim (λ (b : p.0 ≡ q.0). absurd (let w : ⊥ = omega (arith, ap order b, p.2, q.2, t.1) in w))
              (λ (b : p.0 ≡ q.0 → ⊥). absurd
              (let v : q.0 < p.0 = omega arith in let w : ⊥ = omega (arith, rise q.0 p.0 v p.1 (sym e), p.2, q.2, t.1) in w))
              (eq_or_ne p.0 q.0))
              (lt_or_le p.0 q.0)
