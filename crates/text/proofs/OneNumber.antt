-- Reading a number: the walk that the code makes, digit by digit, finds what the field says. Assumes nothing.
use mathlib.Core.Path.{◌≡◌, refl, sym, ap, ◌∙◌}
use mathlib.Core.Bool.{Bool, true, false, ◌&&◌, and-false}
use mathlib.Core.Logic.{◌⊎◌, inl, inr}
use mathlib.Core.List.{List, [], ◌∷◌}
use Rattle.std.specs.Prelude.{Option, None, Some}
use Prim.Native.Nat.{ℕ, suc, ◌+◌, ◌-◌, ◌*◌, ◌<◌, ◌≤◌}
use native.Mathlib.Nat.{add-zero}
use native.Mathlib.Omega.{arith}
use native.Mathlib.Decide.{dec_le}
use borrow.Author.Tests.{le-leb, lt-leb, leb-true, eq-eqb, ne_eqb, eqb-true, eqb-false}
use lib.Dec.{leb, eqb}
use lib.ListN.{length, drop, get_or, drop_of_length-le}
use Rattle.lists.specs.Choose.{choose}
use Rattle.lists.specs.Every.{every}
use Rattle.lists.proofs.Compare.{lt_or_le}
use Rattle.lists.proofs.Every.{and_both}
use Rattle.text.specs.Numbers.{is_digit, is_number, value_from}
use Rattle.text.specs.Parts.{up_to, feed}
use Rattle.text.specs.Fields.{is_end, field, in_range, number, ended_at, number_end, number_of}
use Rattle.text.specs.declared.Number.{Number}
use Rattle.lists.proofs.Refuted.{never}
use Rattle.text.proofs.Tests.{both, digit_range}
use Rattle.text.proofs.Parts.{up_next, up_stop}

-- ─── ranges ──────────────────────────────────────────────────────────────────

above_range : (most w : ℕ) → 1 ≤ w → most < w → in_range most w ≡ false
above_range most w l h = rw (le-leb 1 w l, lt-leb w most h)

pub range_is : (most w : ℕ) → 1 ≤ w → w ≤ most → in_range most w ≡ true
range_is most w l h = and_both (le-leb 1 w l) (le-leb w most h)

-- what a range says
pub range_bounds : (most w : ℕ) → in_range most w ≡ true → (1 ≤ w) × (w ≤ most)
range_bounds most w h =
    let t = both (leb 1 w) _ h in
    (leb-true 1 w t.0, leb-true w most t.1)

out_of_range : (most w : ℕ) → 1 ≤ w → in_range most w ≡ false → most < w
out_of_range most w l h = go (dec_le w most)
  where
    go : Dec (w ≤ most) → most < w
    go (yes u) = never (sym h ∙ range_is most w l u)
    go (no u) = omega arith

-- more digits make no number smaller
value_up : (a : ℕ) (f : List ℕ) → a ≤ value_from a f
unfolding value_from
value_up a [] = omega arith
value_up a (b ∷ f) = omega (arith, value_up (a * 10 + (b - 48)) f)

module _ (most : ℕ) where
  -- ─── the walk ──────────────────────────────────────────────────────────────

  -- the number of a field, digit by digit: v is the value of the digits before i
  unfoldable pub number_from : ℕ → ℕ → List ℕ → Option Number
  number_from v i [] = ended_at most v i
  number_from v i (b ∷ f) = choose (is_digit b) (choose (in_range most (v * 10 + (b - 48))) (number_from (v * 10 + (b - 48)) (i + 1) f) None) None

  -- what is left of a field after a value of at least 1
  abbrev rest_of : ℕ → ℕ → List ℕ → Option Number
  rest_of v i f = choose (every is_digit f && in_range most (value_from v f)) (Some (number (value_from v f) (i + length f))) None

  rest_end : (v i : ℕ) → number_from v i [] ≡ rest_of v i []
  unfolding number_from every value_from
  rest_end v i = ap (λ (x : ℕ). choose (in_range most v) (Some (number v x)) None) (sym (add-zero i))

  rest_heavy : (v i : ℕ) (f : List ℕ) → 1 ≤ v → in_range most v ≡ false → None ≡ rest_of v i f
  rest_heavy v i f l h =
      let u = value_up v f in
      let b = out_of_range most v l h in
      rw (above_range most (value_from v f) (omega arith) (omega arith), and-false)

  rest_next : (v i b : ℕ) (f : List ℕ) → is_digit b ≡ true → rest_of (v * 10 + (b - 48)) (i + 1) f ≡ rest_of v i (b ∷ f)
  unfolding every value_from
  rest_next v i b f h =
      let n : i + 1 + length f ≡ i + suc (length f) = omega arith in
      rw (h, n)

  rest_stop : (v i b : ℕ) (f : List ℕ) → is_digit b ≡ false → None ≡ rest_of v i (b ∷ f)
  unfolding every
  rest_stop v i b f h = rw h

  module _ (v i b : ℕ) (f : List ℕ) where
    step_go : is_digit b ≡ true → in_range most (v * 10 + (b - 48)) ≡ true → number_from v i (b ∷ f) ≡ number_from (v * 10 + (b - 48)) (i + 1) f
    unfolding number_from
    step_go h g = rw (h, g)

    step_bad : is_digit b ≡ true → in_range most (v * 10 + (b - 48)) ≡ false → number_from v i (b ∷ f) ≡ None
    unfolding number_from
    step_bad h g = rw (h, g)

    step_stop : is_digit b ≡ false → number_from v i (b ∷ f) ≡ None
    unfolding number_from
    step_stop h = rw h

  -- the walk finds what is left of the field
  walk_rest : (v i : ℕ) (f : List ℕ) → 1 ≤ v → number_from v i f ≡ rest_of v i f
  walk_rest v i [] h = rest_end v i
  walk_rest v i (b ∷ f) h = go (is_digit b) refl (in_range most (v * 10 + (b - 48))) refl (walk_rest (v * 10 + (b - 48)) (i + 1) f) where
    go : (t : Bool) → is_digit b ≡ t → (u : Bool) → in_range most (v * 10 + (b - 48)) ≡ u
        → (1 ≤ v * 10 + (b - 48) → number_from (v * 10 + (b - 48)) (i + 1) f ≡ rest_of (v * 10 + (b - 48)) (i + 1) f)
        → number_from v i (b ∷ f) ≡ rest_of v i (b ∷ f)
    go true e true g r = step_go v i b f e g ∙ (r (omega arith) ∙ rest_next v i b f e)
    go true e false g r = step_bad v i b f e g ∙ (rest_heavy (v * 10 + (b - 48)) (i + 1) f (omega arith) g ∙ rest_next v i b f e)
    go false e u g r = step_stop v i b f e ∙ rest_stop v i b f e

  -- ─── a whole field ─────────────────────────────────────────────────────────

  -- behind a digit other than 0 any digits make a number
  led_by : (b : ℕ) (f : List ℕ) → is_digit b ≡ true → (b ≡ 48 → ⊥) → is_number (b ∷ f) ≡ every is_digit f
  unfolding is_number every
  led_by b [] h z = h
  led_by b (c ∷ f) h z = rw (h, ne_eqb b 48 z)

  -- a field that begins with 0 is no number from 1 on
  zero_led : (i : ℕ) (f : List ℕ) → None ≡ number_of most i (48 ∷ f)
  unfolding number_of is_number value_from
  zero_led i [] = refl
  zero_led i (c ∷ f) = refl

  -- nor one that begins with no digit
  stopped : (i b : ℕ) (f : List ℕ) → is_digit b ≡ false → None ≡ number_of most i (b ∷ f)
  unfolding number_of is_number
  stopped i b [] h = rw h
  stopped i b (c ∷ f) h = rw h

  first_digit : (i b : ℕ) (f : List ℕ) → is_digit b ≡ true → (b ≡ 48 → ⊥) → rest_of (0 * 10 + (b - 48)) (i + 1) f ≡ number_of most i (b ∷ f)
  unfolding number_of value_from
  first_digit i b f h z =
      let n : i + 1 + length f ≡ i + suc (length f) = omega arith in
      rw (led_by b f h z, n)

  nothing : (i : ℕ) → number_from 0 i [] ≡ number_of most i []
  unfolding number_from number_of is_number
  nothing i = refl

  -- the walk over a field finds its number, where one digit alone is in range
  pub walk_field : 9 ≤ most → (i : ℕ) (f : List ℕ) → number_from 0 i f ≡ number_of most i f
  walk_field m i [] = nothing i
  walk_field m i (b ∷ f) = go (is_digit b) refl (eqb b 48) refl where
    go : (t : Bool) → is_digit b ≡ t → (u : Bool) → eqb b 48 ≡ u → number_from 0 i (b ∷ f) ≡ number_of most i (b ∷ f)
    go false e u g = step_stop 0 i b f e ∙ stopped i b f e
    go true e true g =
        let q = eqb-true b 48 g in
        let w : in_range most (0 * 10 + (b - 48)) ≡ false = ap (λ (x : ℕ). in_range most (0 * 10 + (x - 48))) q in
        step_bad 0 i b f e w ∙ (zero_led i f ∙ ap (λ (x : ℕ). number_of most i (x ∷ f)) (sym q))
    go true e false g =
        let z = eqb-false b 48 g in
        let d = digit_range b e in
        let l : 1 ≤ 0 * 10 + (b - 48) = omega arith in
        step_go 0 i b f e (range_is most _ l (omega arith)) ∙ (walk_rest (0 * 10 + (b - 48)) (i + 1) f l ∙ first_digit i b f e z)

-- ─── the field at a place ────────────────────────────────────────────────────

module _ (sep : ℕ) where
  field-none : (s : List ℕ) (i : ℕ) → length s ≤ i → field sep (drop i s) ≡ []
  unfolding field up_to
  field-none s i h = rw (drop_of_length-le s h)

  -- a byte that ends no field is neither the separator nor a line feed
  ends : (b : ℕ) → is_end sep b ≡ false → (b ≡ sep → ⊥) × (b ≡ feed → ⊥)
  ends b h = go (eqb b sep) refl h where
    go : (t : Bool) → eqb b sep ≡ t → choose t true (eqb b feed) ≡ false → (b ≡ sep → ⊥) × (b ≡ feed → ⊥)
    go true e r = never (sym r)
    go false e r = (eqb-false b sep e, eqb-false b feed r)

  sep_next : (b : ℕ) (l : List ℕ) → (b ≡ sep → ⊥) → up_to sep (b ∷ l) ≡ b ∷ up_to sep l
  unfolding up_to
  sep_next b l h = rw (ne_eqb b sep h)

  sep_stop : (b : ℕ) (l : List ℕ) → b ≡ sep → up_to sep (b ∷ l) ≡ []
  unfolding up_to
  sep_stop b l h = rw (eq-eqb b sep h)

  none_up : up_to sep [] ≡ []
  unfolding up_to
  none_up = refl

  module _ (s : List ℕ) (i : ℕ) (h : i < length s) where
    field_next : (get_or s i 0 ≡ sep → ⊥) → (get_or s i 0 ≡ feed → ⊥) → field sep (drop i s) ≡ get_or s i 0 ∷ field sep (drop (i + 1) s)
    unfolding field
    field_next p q = ap (up_to sep) (up_next feed s i h q) ∙ sep_next (get_or s i 0) _ p

    field-feed : get_or s i 0 ≡ feed → field sep (drop i s) ≡ []
    unfolding field
    field-feed p = ap (up_to sep) (up_stop feed s i h p) ∙ none_up

    field_sep : get_or s i 0 ≡ sep → (t : Bool) → eqb (get_or s i 0) feed ≡ t → field sep (drop i s) ≡ []
    unfolding field
    field_sep p true e = field-feed (eqb-true _ _ e)
    field_sep p false e = ap (up_to sep) (up_next feed s i h (eqb-false _ _ e)) ∙ sep_stop (get_or s i 0) _ p

    field_end : is_end sep (get_or s i 0) ≡ true → field sep (drop i s) ≡ []
    field_end e = go (eqb (get_or s i 0) sep) refl e where
      go : (t : Bool) → eqb (get_or s i 0) sep ≡ t → choose t true (eqb (get_or s i 0) feed) ≡ true → field sep (drop i s) ≡ []
      go true e r = field_sep (eqb-true _ _ e) _ refl
      go false e r = field-feed (eqb-true _ _ r)

    module _ (most : ℕ) where
      end_walk : (v : ℕ) (t : Bool) → is_end sep (get_or s i 0) ≡ t → is_digit (get_or s i 0) ≡ false
          → choose t (ended_at most v i) None ≡ number_from most v i (field sep (drop i s))
      unfolding number_from
      end_walk v true e d = sym (ap (number_from most v i) (field_end e))
      end_walk v false e d =
          let n = ends (get_or s i 0) e in
          sym (ap (number_from most v i) (field_next n.0 n.1) ∙ step_stop most v i (get_or s i 0) (field sep (drop (i + 1) s)) d)

      -- a byte that is no digit ends the walk
      pub walk_end : (v : ℕ) → is_digit (get_or s i 0) ≡ false → number_end sep most (get_or s i 0) v i ≡ number_from most v i (field sep (drop i s))
      walk_end v d = end_walk v (is_end sep (get_or s i 0)) refl d

      -- a digit is neither the separator nor a line feed
      module _ (apart : is_digit sep ≡ false) (d : is_digit (get_or s i 0) ≡ true) where
        digit_field : field sep (drop i s) ≡ get_or s i 0 ∷ field sep (drop (i + 1) s)
        digit_field =
            let r = digit_range (get_or s i 0) d in
            field_next (λ e. never (sym apart ∙ (ap is_digit (sym e) ∙ d))) (λ e. omega arith)

        -- w is the value with the digit here
        module _ (v w : ℕ) (e : w ≡ v * 10 + (get_or s i 0 - 48)) where
          -- out of range, the walk ends
          pub walk_bad : in_range most w ≡ false → number_from most v i (field sep (drop i s)) ≡ None
          walk_bad g = ap (number_from most v i) digit_field ∙ step_bad most v i (get_or s i 0) (field sep (drop (i + 1) s)) d (ap (in_range most) (sym e) ∙ g)

          -- else it goes on
          pub walk_next : in_range most w ≡ true → number_from most v i (field sep (drop i s)) ≡ number_from most w (i + 1) (field sep (drop (i + 1) s))
          walk_next g =
              ap (number_from most v i) digit_field
              ∙ (step_go most v i (get_or s i 0) (field sep (drop (i + 1) s)) d (ap (in_range most) (sym e) ∙ g)
              ∙ ap (λ (x : ℕ). number_from most x (i + 1) (field sep (drop (i + 1) s))) (sym e))

  -- at the end of the text, or beyond it
  pub walk_none : (s : List ℕ) (most v i : ℕ) → length s ≤ i → number_from most v i (field sep (drop i s)) ≡ ended_at most v i
  unfolding number_from
  walk_none s most v i h = ap (number_from most v i) (field-none s i h)

  -- the same by the text's length, where no digit is read beyond it
  pub walk_over : (s : List ℕ) (most v i : ℕ) → length s ≤ i → (length s < i → v ≡ 0)
      → number_from most v i (field sep (drop i s)) ≡ ended_at most v (length s)
  walk_over s most v i h z = walk_none s most v i h ∙ go (lt_or_le (length s) i)
    where
      go : (length s < i) ⊎ (i ≤ length s) → ended_at most v i ≡ ended_at most v (length s)
      go (inl l) = rw (z l)
      go (inr l) =
          let e : i ≡ length s = omega arith in
          ap (ended_at most v) e
