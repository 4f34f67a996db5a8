-- The hub: one weight that no string has, with a string from it to each weight that occurs oddly often. With these spokes each weight has an even number of
-- ends.
use mathlib.Core.Path.{◌≡◌, refl, ap, sym, ◌∙◌, subst}
use mathlib.Core.List.{List, [], ◌∷◌, ◌++◌, map, map-append}
use Prim.Native.Nat.{ℕ, zero, suc, ◌+◌, ◌%◌, ◌≤◌, ◌<◌}
use native.Mathlib.Omega.{arith}
use native.Mathlib.Decide.{ℕ_discrete, dec_lt}
use lib.ListN.{length}
use Rattle.lists.specs.Count.{agree}
use Rattle.cover_trails.specs.Counting.{occurs, oddly, sum_below}
use Rattle.cover_trails.specs.Strings.{Ends, weights}
use Rattle.cover_trails.specs.Groups.{count_odd, odd_weights}
use Rattle.cover_trails.specs.Hub.{spoke_if, spokes, limit, spoked}
use Rattle.cover_trails.specs.Walks.{Reordered, empty, keep, both, AllEven}
use Rattle.lists.proofs.Agree.{agree_same, agree-other}
use Rattle.cover_trails.proofs.Counting.{sum_at, oddly_le, oddly-same, oddly-other, AllBelow, above-all, occurs_beyond, occurs_split, occurs_between}
use Rattle.cover_trails.proofs.Orders.{move_in, reordered-left, occurs-both, length-weights}
use Rattle.cover_trails.proofs.Groups.{Carried}
use Rattle.cover_trails.proofs.Lower.{no_odd}

-- ─── with the spokes, all weights are even ───────────────────────────────────

spoke_off : (v h n o : ℕ) (L : List Ends) → agree v h + agree v n ≡ 0 → occurs v (weights (spoke_if o (h, n) L)) ≡ occurs v (weights L)
unfolding occurs weights
spoke_off v h n zero L e = refl
spoke_off v h n (suc o) L e = omega arith

spoke_on : (v h n o : ℕ) (L : List Ends) → agree v h + agree v n ≡ 1 → o ≤ 1 → occurs v (weights (spoke_if o (h, n) L)) ≡ o + occurs v (weights L)
unfolding occurs weights
spoke_on v h n zero L e l = omega arith
spoke_on v h n (suc o) L e l = omega arith

module _ (h : ℕ) (ws : List ℕ) where
  spokes_beyond : (v n : ℕ) → (v ≡ h → ⊥) → n ≤ v → occurs v (weights (spokes h ws n)) ≡ 0
  unfolding spokes occurs weights
  spokes_beyond v zero q l = refl
  spokes_beyond v (suc n) q l =
      spoke_off v h n (oddly ws n) (spokes h ws n) (omega (arith, agree-other v h q, agree-other v n (λ e. omega arith))) ∙ spokes_beyond v n q (omega arith)

  spokes_at : (v n : ℕ) → (v ≡ h → ⊥) → v < n → occurs v (weights (spokes h ws n)) ≡ oddly ws v
  unfolding spokes
  spokes_at v zero q l = absurd (omega arith)
  spokes_at v (suc n) q l = go (ℕ_discrete v n) (spokes_at v n q)
    where
      go : Dec (v ≡ n) → (v < n → occurs v (weights (spokes h ws n)) ≡ oddly ws v)
          → occurs v (weights (spoke_if (oddly ws n) (h, n) (spokes h ws n))) ≡ oddly ws v
      go (yes e) ih =
          omega (
            arith,
            spoke_on v h n (oddly ws n) (spokes h ws n) (omega (arith, agree-other v h q, agree_same v n e)) (oddly_le ws n),
            spokes_beyond v n q (omega arith),
            ap (oddly ws) e,
          )
      go (no d) ih = spoke_off v h n (oddly ws n) (spokes h ws n) (omega (arith, agree-other v h q, agree-other v n d)) ∙ ih (omega arith)

  spokes_hub : (n : ℕ) → oddly ws h ≡ 0 → occurs h (weights (spokes h ws n)) ≡ sum_below n (oddly ws)
  unfolding spokes sum_below occurs weights
  spokes_hub zero e = refl
  spokes_hub (suc n) e = go (ℕ_discrete h n) (spokes_hub n e)
    where
      go : Dec (h ≡ n) → occurs h (weights (spokes h ws n)) ≡ sum_below n (oddly ws)
          → occurs h (weights (spoke_if (oddly ws n) (h, n) (spokes h ws n))) ≡ oddly ws n + sum_below n (oddly ws)
      go (yes q) ih = let z : oddly ws n ≡ 0 = ap (oddly ws) (sym q) ∙ e in rw z (omega arith)
      go (no q) ih = omega (arith, ih, spoke_on h h n (oddly ws n) (spokes h ws n) (omega (arith, agree_same h h refl, agree-other h n q)) (oddly_le ws n))

-- as many weights occur oddly often as there are occurrences, but for an even number
odd_parity : (n : ℕ) (ws : List ℕ) → AllBelow n ws → (count_odd n ws + length ws) % 2 ≡ 0
unfolding count_odd
odd_parity n [] h = omega (arith, no_odd n)
odd_parity n (x ∷ ws) h =
    omega (
      arith,
      odd_parity n ws h.1,
      sum_at (oddly (x ∷ ws)) (oddly ws) n x h.0 (λ w b q. omega (arith, oddly-other ws x w q)),
      sum_at (oddly ws) (oddly (x ∷ ws)) n x h.0 (λ w b q. omega (arith, oddly-other ws x w q)),
      oddly-same ws x,
    )

-- O is even: each string gives two end weights
pub odd_weights_even : (strings : List Ends) → odd_weights strings % 2 ≡ 0
unfolding odd_weights
odd_weights_even strings = omega (arith, odd_parity (limit strings) (weights strings) (above-all (weights strings)), length-weights strings)

-- The hub h is a weight that no string has.
module _ (h : ℕ) (strings : List Ends) (fresh : occurs h (weights strings) ≡ 0) where
  -- the hub has O ends
  pub spoked_hub : occurs h (weights (spoked h strings)) ≡ odd_weights strings
  unfolding odd_weights count_odd
  spoked_hub =
      omega (arith, fresh, occurs-both h (spokes h (weights strings) (limit strings)) strings, spokes_hub h (weights strings) (limit strings) own)
    where
      own : oddly (weights strings) h ≡ 0
      own = unfold oddly in (omega (arith, fresh))

  -- another weight has one more where it was odd
  pub spoked_below : (v : ℕ) → (v ≡ h → ⊥) → v < limit strings → occurs v (weights (spoked h strings)) ≡ oddly (weights strings) v + occurs v (weights strings)
  spoked_below v q l =
      omega (arith, occurs-both v (spokes h (weights strings) (limit strings)) strings, spokes_at h (weights strings) v (limit strings) q l)

  -- a weight that no string has, but the hub, has no ends
  pub spoked_beyond : (v : ℕ) → (v ≡ h → ⊥) → limit strings ≤ v → occurs v (weights (spoked h strings)) ≡ 0
  spoked_beyond v q l =
      omega (
        arith,
        occurs-both v (spokes h (weights strings) (limit strings)) strings,
        spokes_beyond h (weights strings) v (limit strings) q l,
        occurs_beyond (limit strings) v (weights strings) (above-all (weights strings)) l,
      )

  -- so every weight has an even number of ends
  pub spoked_even : AllEven (spoked h strings)
  spoked_even v = go (ℕ_discrete v h) (dec_lt v (limit strings))
    where
      own : oddly (weights strings) v ≡ occurs v (weights strings) % 2
      own = unfold oddly in refl

      go : Dec (v ≡ h) → Dec (v < limit strings) → occurs v (weights (spoked h strings)) % 2 ≡ 0
      go (yes e) d = omega (arith, ap (λ (x : ℕ). occurs x (weights (spoked h strings))) e, spoked_hub, odd_weights_even strings)
      go (no q) (yes l) = omega (arith, spoked_below v q l, own)
      go (no q) (no l) = omega (arith, spoked_beyond v q (omega arith))

-- there is such a weight
pub limit-fresh : (strings : List Ends) → occurs (limit strings) (weights strings) ≡ 0
limit-fresh strings = occurs_beyond (limit strings) (limit strings) (weights strings) (above-all (weights strings)) (omega arith)

-- what each string carries reaches from the hub to each odd weight
pub carried_spokes : (P : ℕ → Type 0) (h : ℕ) (ws : List ℕ) (n : ℕ) → Carried P (spokes h ws n) → P h → (w : ℕ) → w < n → oddly ws w ≡ 1 → P w
unfolding spokes
carried_spokes P h ws zero k p w l o = absurd (omega arith)
carried_spokes P h ws (suc n) k p w l o = go (oddly ws n) refl k (ℕ_discrete w n) (λ k. carried_spokes P h ws n k p w)
  where
    go : (j : ℕ) → oddly ws n ≡ j → Carried P (spoke_if j (h, n) (spokes h ws n)) → Dec (w ≡ n) → (Carried P (spokes h ws n) → w < n → oddly ws w ≡ 1 → P w)
        → P w
    go zero e k (yes q) ih = absurd (omega (arith, ap (oddly ws) q))
    go zero e k (no q) ih = ih k (omega arith) o
    go (suc j) e k (yes q) ih = subst P (sym q) (k.0.0 p)
    go (suc j) e k (no q) ih = ih k.1 (omega arith) o

-- ─── the spokes from a list of the odd weights ───────────────────────────────

-- strings from the hub h to the weights os
abbrev pub spokes_to : ℕ → List ℕ → List Ends
spokes_to h os = map (λ w. (h, w)) os

module _ (h n : ℕ) (os A B : List ℕ) (e : os ≡ A ++ (n ∷ B)) where
  without_one : (w : ℕ) → occurs w os ≡ agree w n + occurs w (A ++ B)
  without_one w = ap (occurs w) e ∙ occurs_between w n A B

  with_one : (L : List Ends) → Reordered L (spokes_to h (A ++ B)) → Reordered ((h, n) ∷ L) (spokes_to h os)
  with_one L r =
      let both-parts : Reordered L (spokes_to h A ++ spokes_to h B) = subst (Reordered L) (map-append (λ w. (h, w)) A B) r in
      subst (Reordered ((h, n) ∷ L)) (sym (ap (spokes_to h) e ∙ map-append (λ w. (h, w)) A (n ∷ B)))
      (both (keep both-parts) (move_in (h, n) (spokes_to h A) (spokes_to h B)))

spokes_below : (h : ℕ) (ws : List ℕ) (n : ℕ) (os : List ℕ) → ((w : ℕ) → w < n → occurs w os ≡ oddly ws w) → ((w : ℕ) → n ≤ w → occurs w os ≡ 0)
    → Reordered (spokes h ws n) (spokes_to h os)
unfolding spokes
spokes_below h ws zero [] odd none = empty
spokes_below h ws zero (x ∷ os) odd none = absurd (more x os (none x (omega arith)))
  where
    more : (x : ℕ) (os : List ℕ) → occurs x (x ∷ os) ≡ 0 → ⊥
    more x os e = unfold occurs in (omega (arith, e, agree_same x x refl))
spokes_below h ws (suc n) os odd none = go (oddly ws n) refl (oddly_le ws n) (spokes_below h ws n)
  where
    not_odd : oddly ws n ≡ 0 → (w : ℕ) → n ≤ w → Dec (w ≡ n) → occurs w os ≡ 0
    not_odd z w l (yes e) = omega (arith, ap (λ (v : ℕ). occurs v os) e, odd n (omega arith))
    not_odd z w l (no q) = none w (omega arith)

    rest : (A B : List ℕ) → os ≡ A ++ (n ∷ B) → oddly ws n ≡ 1 → (w : ℕ) → n ≤ w → Dec (w ≡ n) → occurs w (A ++ B) ≡ 0
    rest A B e o w l (yes q) = omega (arith, without_one h n os A B e w, agree_same w n q, ap (λ (v : ℕ). occurs v os) q, odd n (omega arith))
    rest A B e o w l (no q) = omega (arith, without_one h n os A B e w, none w (omega arith))

    go : (o : ℕ) → oddly ws n ≡ o → o ≤ 1
        → ((xs : List ℕ) → ((w : ℕ) → w < n → occurs w xs ≡ oddly ws w) → ((w : ℕ) → n ≤ w → occurs w xs ≡ 0) → Reordered (spokes h ws n) (spokes_to h xs))
        → Reordered (spoke_if o (h, n) (spokes h ws n)) (spokes_to h os)
    go zero e l ih = ih os (λ w b. odd w (omega arith)) (λ w b. not_odd e w b (ℕ_discrete w n))
    go (suc o) e l ih =
        let u = occurs_split n os (omega (arith, odd n (omega arith))) in
        with_one h n os u.0 u.1 u.2 (spokes h ws n)
        (ih (u.0 ++ u.1)
        (λ w b. omega (arith, without_one h n os u.0 u.1 u.2 w, agree-other w n (λ q. omega arith), odd w (omega arith)))
        (λ w b. rest u.0 u.1 u.2 (omega arith) w b (ℕ_discrete w n)))

-- Where os has each odd weight once and no other weight, the strings from the hub to os are the spokes.
module _ (h : ℕ) (strings : List Ends) (os : List ℕ) (odd : (w : ℕ) → occurs w os ≡ oddly (weights strings) w) where
  -- the spokes, in another order
  pub spokes_listed : Reordered (spokes h (weights strings) (limit strings)) (spokes_to h os)
  spokes_listed = spokes_below h (weights strings) (limit strings) os (λ w l. odd w) (λ w l. odd w ∙ beyond w l)
    where
      beyond : (w : ℕ) → limit strings ≤ w → oddly (weights strings) w ≡ 0
      beyond w l = unfold oddly in (omega (arith, occurs_beyond (limit strings) w (weights strings) (above-all (weights strings)) l))

  -- the strings with the spokes
  pub spoked_listed : Reordered (spoked h strings) (spokes_to h os ++ strings)
  spoked_listed = reordered-left strings spokes_listed
