-- Laws of bytes parted by a separator: the parts put together are the bytes, parts of what is left of the bytes, and how a loop meets them. Assumes
-- nothing.
use mathlib.Core.Path.{◌≡◌, refl, sym, ap, ◌∙◌}
use mathlib.Core.Bool.{Bool, true, false, not}
use mathlib.Core.List.{List, [], ◌∷◌, ◌++◌}
use Prim.Native.Nat.{ℕ, zero, suc, ◌+◌, ◌<◌, ◌≤◌}
use native.Mathlib.Numerals.{add-one}
use native.Mathlib.Omega.{arith}
use borrow.Author.Tests.{eq-eqb, ne_eqb, eqb-true, not-true}
use lib.Dec.{eqb}
use lib.ListN.{length, take, drop, get_or, length-append}
use lib.Seq.{drop-cons, take_at, take-append-le}
use Rattle.lists.specs.Choose.{choose}
use Rattle.lists.specs.Every.{every}
use Rattle.text.specs.Parts.{up_to, later}
use Rattle.text.proofs.Tests.{both}

-- all parts
abbrev pub parts : ℕ → List ℕ → List (List ℕ)
parts sep bs = up_to sep bs ∷ later sep bs

-- the later parts put together again, each behind its separator
unfoldable pub joined : ℕ → List (List ℕ) → List ℕ
joined sep [] = []
joined sep (p ∷ ps) = sep ∷ (p ++ joined sep ps)

-- no separator among these bytes
abbrev pub Free : ℕ → List ℕ → Type 0
Free sep bs = every (λ b. not (eqb b sep)) bs ≡ true

-- the parts put together are the bytes
pub join_parts : (sep : ℕ) (bs : List ℕ) → up_to sep bs ++ joined sep (later sep bs) ≡ bs
unfolding up_to later joined
join_parts sep [] = refl
join_parts sep (b ∷ bs) = go (eqb b sep) refl (join_parts sep bs) where
  go : (t : Bool) → eqb b sep ≡ t → up_to sep bs ++ joined sep (later sep bs) ≡ bs → up_to sep (b ∷ bs) ++ joined sep (later sep (b ∷ bs)) ≡ b ∷ bs
  go true e h = rw (e, h, eqb-true b sep e)
  go false e h = rw (e, h)

-- ─── bytes up to a known separator ───────────────────────────────────────────

module _ (sep : ℕ) where
  -- bytes without a separator are one part
  pub up_last : (p : List ℕ) → Free sep p → up_to sep p ≡ p
  unfolding up_to every
  up_last [] h = refl
  up_last (b ∷ p) h =
      let t = both (not (eqb b sep)) _ h in
      rw (not-true (eqb b sep) t.0, up_last p t.1)

  pub later_last : (p : List ℕ) → Free sep p → later sep p ≡ []
  unfolding later every
  later_last [] h = refl
  later_last (b ∷ p) h =
      let t = both (not (eqb b sep)) _ h in
      rw (not-true (eqb b sep) t.0, later_last p t.1)

  -- and in front of a separator they are the first part
  pub up_first : (p r : List ℕ) → Free sep p → up_to sep (p ++ (sep ∷ r)) ≡ p
  unfolding up_to every
  up_first [] r h = rw (eq-eqb sep sep refl)
  up_first (b ∷ p) r h =
      let t = both (not (eqb b sep)) _ h in
      rw (not-true (eqb b sep) t.0, up_first p r t.1)

  pub later_first : (p r : List ℕ) → Free sep p → later sep (p ++ (sep ∷ r)) ≡ parts sep r
  unfolding later every
  later_first [] r h = rw (eq-eqb sep sep refl)
  later_first (b ∷ p) r h =
      let t = both (not (eqb b sep)) _ h in
      rw (not-true (eqb b sep) t.0, later_first p r t.1)

  -- ─── one byte on, as a loop's index counts ─────────────────────────────────

  module _ (s : List ℕ) (i : ℕ) (h : i < length s) where
    -- a byte that is no separator is in the first part
    pub up_next : (get_or s i 0 ≡ sep → ⊥) → up_to sep (drop i s) ≡ get_or s i 0 ∷ up_to sep (drop (i + 1) s)
    unfolding up_to
    up_next e = rw (drop-cons s i 0, ne_eqb _ _ e, add-one)

    pub later_next : (get_or s i 0 ≡ sep → ⊥) → later sep (drop i s) ≡ later sep (drop (i + 1) s)
    unfolding later
    later_next e = rw (drop-cons s i 0, ne_eqb _ _ e, add-one)

    -- a separator ends it
    pub up_stop : get_or s i 0 ≡ sep → up_to sep (drop i s) ≡ []
    unfolding up_to
    up_stop e = rw (drop-cons s i 0, eq-eqb _ _ e)

    pub later_stop : get_or s i 0 ≡ sep → later sep (drop i s) ≡ parts sep (drop (i + 1) s)
    unfolding later
    later_stop e = rw (drop-cons s i 0, eq-eqb _ _ e, add-one)

-- ─── what is left of the bytes ───────────────────────────────────────────────

module _ (sep : ℕ) where
  -- inside the first part, what is left of it is the first part of what is left
  pub inside_part : (n : ℕ) (r : List ℕ) → n ≤ length (up_to sep r) → (up_to sep (drop n r) ≡ drop n (up_to sep r)) × (later sep (drop n r) ≡ later sep r)
  unfolding up_to later
  inside_part zero r h = (refl, refl)
  inside_part (suc n) [] h = absurd (omega arith)
  inside_part (suc n) (b ∷ r) h = go (eqb b sep) h (inside_part n r) where
    go : (t : Bool) → suc n ≤ length (choose t [] (b ∷ up_to sep r))
        → (n ≤ length (up_to sep r) → (up_to sep (drop n r) ≡ drop n (up_to sep r)) × (later sep (drop n r) ≡ later sep r))
        → (up_to sep (drop n r) ≡ drop (suc n) (choose t [] (b ∷ up_to sep r))) × (later sep (drop n r) ≡ choose t (parts sep r) (later sep r))
    go true g w = absurd (omega arith)
    go false g w = w (omega arith)

  -- the later parts are the parts of what stands behind the first separator
  pub past_sep : (r m : List ℕ) (ms : List (List ℕ)) → later sep r ≡ m ∷ ms
      → (parts sep (drop (suc (length (up_to sep r))) r) ≡ later sep r) × (suc (length (up_to sep r)) ≤ length r)
  unfolding up_to later
  past_sep [] m ms h = absurd (omega (arith, ap length h))
  past_sep (b ∷ r) m ms h = go (eqb b sep) h (past_sep r m ms) where
    go : (t : Bool) → choose t (parts sep r) (later sep r) ≡ m ∷ ms
        → (later sep r ≡ m ∷ ms → (parts sep (drop (suc (length (up_to sep r))) r) ≡ later sep r) × (suc (length (up_to sep r)) ≤ length r))
        → (parts sep (drop (length (choose t [] (b ∷ up_to sep r))) r) ≡ choose t (parts sep r) (later sep r))
        × (suc (length (choose t [] (b ∷ up_to sep r))) ≤ suc (length r))
    go true g w = (refl, omega arith)
    go false g w = let v = w g in (v.0, omega (arith, v.1))

  -- ─── how long parts are ────────────────────────────────────────────────────

  joined_long : (ps : List (List ℕ)) → length ps ≤ length (joined sep ps)
  unfolding joined
  joined_long [] = omega arith
  joined_long (p ∷ ps) = omega (arith, length-append p (joined sep ps), joined_long ps)

  module _ (r : List ℕ) where
    parts_size : length (up_to sep r) + length (joined sep (later sep r)) ≡ length r
    parts_size = omega (arith, length-append (up_to sep r) (joined sep (later sep r)), ap length (join_parts sep r))

    -- a part is no longer than the bytes
    pub up_short : length (up_to sep r) ≤ length r
    up_short = omega (arith, parts_size)

    -- each later part has a separator of its own
    pub later_short : length (up_to sep r) + length (later sep r) ≤ length r
    later_short = omega (arith, parts_size, joined_long (later sep r))

    -- where there are bytes, the first part has some, or there is a later part
    pub some-part : 1 ≤ length r → 1 ≤ length (up_to sep r) + length (later sep r)
    unfolding joined
    some-part h = go (later sep r) parts_size where
      go : (ps : List (List ℕ)) → length (up_to sep r) + length (joined sep ps) ≡ length r → 1 ≤ length (up_to sep r) + length ps
      go [] e = omega arith
      go (p ∷ ps) e = omega arith

    -- the first part is the front of the bytes
    pub take_up : (n : ℕ) → n ≤ length (up_to sep r) → take n (up_to sep r) ≡ take n r
    take_up n h = sym (take-append-le n (up_to sep r) (joined sep (later sep r)) h) ∙ ap (take n) (join_parts sep r)

    pub up_take : up_to sep r ≡ take (length (up_to sep r)) r
    up_take =
        let n : ℕ = length (up_to sep r) in
        sym (take_at (up_to sep r) (joined sep (later sep r)) n refl) ∙ ap (take n) (join_parts sep r)
