-- The weights from a place to the line's end, one by one: what each step of the code finds is what the line's parts say. Assumes nothing.
use mathlib.Core.Path.{◌≡◌, refl, sym, ap, ◌∙◌}
use mathlib.Core.Bool.{Bool, true, false, and-false}
use mathlib.Core.List.{List, [], ◌∷◌}
use Rattle.std.specs.Prelude.{None, Some}
use Prim.Native.Nat.{ℕ, suc, ◌+◌, ◌-◌, ◌<◌, ◌≤◌}
use native.Mathlib.Nat.{add-zero}
use native.Mathlib.Omega.{arith}
use borrow.Author.Tests.{ltb-true, ltb-false, ne_eqb, eqb-true, eqb-false}
use lib.Dec.{ltb, eqb, eqb-suc-suc, eqb-zero-suc, eqb-suc-zero}
use lib.ListN.{length, drop, get_or, drop_of_length-le, length-drop}
use lib.Seq.{drop-length, drop-drop}
use Rattle.lists.specs.Choose.{choose}
use Rattle.lists.specs.Limits.{most_weight}
use Rattle.lists.specs.Every.{every}
use Rattle.lists.proofs.Refuted.{refuted}
use Rattle.text.specs.Numbers.{value}
use Rattle.text.specs.Parts.{up_to, later, tab, feed}
use Rattle.sheet.specs.Sheet.{is_weight_field}
use Rattle.text.specs.Fields.{field, number, number_of, byte_is}
use Rattle.text.specs.declared.Number.{Number}
use Rattle.sheet_lines.specs.Cursor.{weight_at, tail_of, tail_at}
use Rattle.text.proofs.Parts.{up_next, up_stop, later_next, later_stop, inside_part, up_short}
use Rattle.text.proofs.Bytes.{byte_here, byte_other}

-- ─── one weight ──────────────────────────────────────────────────────────────

-- a good weight: its field is good, and this is where it ends and what its value is
pub weight_good : (i : ℕ) (f : List ℕ) (v next : ℕ) → number_of most_weight i f ≡ Some (number v next)
    → (is_weight_field f ≡ true) × (next ≡ i + length f) × (v ≡ value f)
unfolding number_of is_weight_field
weight_good i f v next h = go (is_weight_field f) refl h where
  go : (t : Bool) → is_weight_field f ≡ t → choose t (Some (number (value f) (i + length f))) None ≡ Some (number v next)
      → (is_weight_field f ≡ true) × (next ≡ i + length f) × (v ≡ value f)
  go true e r =
      let q : number (value f) (i + length f) ≡ number v next = cc in
      (e, sym (ap (λ (x : Number). x.next) q), sym (ap (λ (x : Number). x.value) q))
  go false e r = refuted (cc)

weight_wrong : (i : ℕ) (f : List ℕ) → number_of most_weight i f ≡ None → is_weight_field f ≡ false
unfolding number_of is_weight_field
weight_wrong i f h = go (is_weight_field f) refl h where
  go : (t : Bool) → is_weight_field f ≡ t → choose t (Some (number (value f) (i + length f))) None ≡ None → is_weight_field f ≡ false
  go true e r = refuted (cc)
  go false e r = e

-- behind a weight stand the rest of its line, and the same lines after it
pub after_weight : (s : List ℕ) (i v next : ℕ) → weight_at s i ≡ Some (number v next)
    → (up_to feed (drop next s) ≡ drop (length (field tab (drop i s))) (up_to feed (drop i s))) × (later feed (drop next s) ≡ later feed (drop i s))
unfolding field
after_weight s i v next w =
    let l : List ℕ = up_to feed (drop i s) in
    let n : ℕ = length (up_to tab l) in
    let m = inside_part feed n (drop i s) (up_short tab l) in
    let d : drop next s ≡ drop n (drop i s) = ap (λ (x : ℕ). drop x s) (weight_good _ _ v next w).1 ∙ sym (drop-drop n i s) in
    (ap (up_to feed) d ∙ m.0, ap (later feed) d ∙ m.1)

-- ─── the rest of a line, byte by byte ────────────────────────────────────────

-- one weight more
tail_list : (j i next : ℕ) (l : List ℕ) (ms : List (List ℕ)) → is_weight_field (up_to tab l) ≡ true → next ≡ i + 1 + length (up_to tab l)
    → tail_of (suc j) i (tab ∷ l) ms ≡ tail_of j next (drop (length (up_to tab l)) l) ms
unfolding tail_of up_to later every
tail_list j i next l [] g e = refl
tail_list j i next l (m ∷ ms) g e =
    let w = inside_part tab (length (up_to tab l)) l (omega arith) in
    let u : up_to tab (drop (length (up_to tab l)) l) ≡ [] = w.0 ∙ drop-length (up_to tab l) in
    let s = up_short tab l in
    let d = length-drop (length (up_to tab l)) l in
    let n : next + length (drop (length (up_to tab l)) l) + 1 ≡ i + suc (length l) + 1 = omega arith in
    rw (u, w.1, n, g, eqb-suc-suc)

-- a wrong weight
tail_wrong : (j i : ℕ) (l : List ℕ) (ms : List (List ℕ)) → is_weight_field (up_to tab l) ≡ false → tail_of (suc j) i (tab ∷ l) ms ≡ None
unfolding tail_of up_to later every
tail_wrong j i l [] g = refl
tail_wrong j i l (m ∷ ms) g = rw (g, and-false)

-- a line that goes on with neither a tab nor its end
tail_other : (j i b : ℕ) (l : List ℕ) (ms : List (List ℕ)) → (b ≡ tab → ⊥) → tail_of j i (b ∷ l) ms ≡ None
unfolding tail_of up_to
tail_other j i b l [] h = refl
tail_other j i b l (m ∷ ms) h = rw (ne_eqb b tab h)

-- a line that ends before the last weight, or goes on after it
tail_none : (j i : ℕ) (ms : List (List ℕ)) → tail_of (suc j) i [] ms ≡ None
unfolding tail_of up_to later
tail_none j i [] = refl
tail_none j i (m ∷ ms) = rw (eqb-zero-suc)

tail_more : (i : ℕ) (l : List ℕ) (ms : List (List ℕ)) → tail_of 0 i (tab ∷ l) ms ≡ None
unfolding tail_of up_to later
tail_more i l [] = refl
tail_more i l (m ∷ ms) = rw (eqb-suc-zero)

-- no line feed
tail_past : (s : List ℕ) (i n : ℕ) → length s ≤ i → tail_at s i n ≡ None
unfolding tail_of up_to later
tail_past s i n h = rw (drop_of_length-le s h)

tail_feed : (i : ℕ) (m : List ℕ) (ms : List (List ℕ)) → tail_of 0 i [] (m ∷ ms) ≡ Some (i + 1)
unfolding tail_of up_to later every
tail_feed i m ms = rw add-zero

-- ─── the rest of the line at a place ─────────────────────────────────────────

module _ (s : List ℕ) (i : ℕ) where
  tail_here : (n : ℕ) {l : List ℕ} {ms : List (List ℕ)} → up_to feed (drop i s) ≡ l → later feed (drop i s) ≡ ms → tail_at s i n ≡ tail_of n i l ms
  tail_here n p q = λ x. tail_of n i (p x) (q x)

  on_line : (n : ℕ) → i < length s → (get_or s i 0 ≡ feed → ⊥) → tail_at s i n ≡ tail_of n i (get_or s i 0 ∷ up_to feed (drop (i + 1) s))
      (later feed (drop (i + 1) s))
  on_line n h q = tail_here n (up_next feed s i h q) (later_next feed s i h q)

  at_feed : (n : ℕ) → i < length s → get_or s i 0 ≡ feed → tail_at s i n ≡ tail_of n i [] (up_to feed (drop (i + 1) s) ∷ later feed (drop (i + 1) s))
  at_feed n h q = tail_here n (up_stop feed s i h q) (later_stop feed s i h q)

  -- at the line feed
  pub tail_ended : byte_is s i feed ≡ true → tail_at s i 0 ≡ Some (i + 1)
  tail_ended h =
      let b = byte_here s i feed h in
      at_feed 0 b.0 b.1 ∙ tail_feed i _ _

  with_tab : (n : ℕ) → i < length s → get_or s i 0 ≡ tab → tail_at s i n ≡ tail_of n i (tab ∷ up_to feed (drop (i + 1) s)) (later feed (drop (i + 1) s))
  with_tab n h q = on_line n h (λ e. omega arith) ∙ ap (λ (x : ℕ). tail_of n i (x ∷ up_to feed (drop (i + 1) s)) (later feed (drop (i + 1) s))) q

  -- no line feed where the line has to end
  pub tail_unended : byte_is s i feed ≡ false → tail_at s i 0 ≡ None
  tail_unended h = go (ltb i (length s)) refl (eqb (get_or s i 0) tab) refl where
    go : (t : Bool) → ltb i (length s) ≡ t → (u : Bool) → eqb (get_or s i 0) tab ≡ u → tail_at s i 0 ≡ None
    go false e u g = tail_past s i 0 (ltb-false _ _ e)
    go true e true g = with_tab 0 (ltb-true _ _ e) (eqb-true _ _ g) ∙ tail_more i _ _
    go true e false g =
        let l = ltb-true _ _ e in
        on_line 0 l (byte_other s i feed h l) ∙ tail_other 0 i _ _ _ (eqb-false _ _ g)

  module _ (j : ℕ) (more : 0 < j) where
    up_one : suc (j - 1) ≡ j
    up_one = omega arith

    -- no tab where a weight has to come
    pub tail_no_tab : byte_is s i tab ≡ false → tail_at s i j ≡ None
    tail_no_tab h = go (ltb i (length s)) refl (eqb (get_or s i 0) feed) refl where
      go : (t : Bool) → ltb i (length s) ≡ t → (u : Bool) → eqb (get_or s i 0) feed ≡ u → tail_at s i j ≡ None
      go false e u g = tail_past s i j (ltb-false _ _ e)
      go true e true g =
          at_feed j (ltb-true _ _ e) (eqb-true _ _ g)
          ∙ (ap (λ (x : ℕ). tail_of x i [] (up_to feed (drop (i + 1) s) ∷ later feed (drop (i + 1) s))) (sym up_one) ∙ tail_none (j - 1) i _)
      go true e false g =
          let l = ltb-true _ _ e in
          on_line j l (eqb-false _ _ g) ∙ tail_other j i _ _ _ (byte_other s i tab h l)

    at_tab : i < length s → get_or s i 0 ≡ tab → tail_at s i j ≡ tail_of (suc (j - 1)) i (tab ∷ up_to feed (drop (i + 1) s)) (later feed (drop (i + 1) s))
    at_tab h q = with_tab j h q ∙ ap (λ (x : ℕ). tail_of x i (tab ∷ up_to feed (drop (i + 1) s)) (later feed (drop (i + 1) s))) (sym up_one)

    -- a tab and a wrong weight
    pub tail_bad : byte_is s i tab ≡ true → weight_at s (i + 1) ≡ None → tail_at s i j ≡ None
    unfolding field
    tail_bad h w =
        let b = byte_here s i tab h in
        at_tab b.0 b.1 ∙ tail_wrong (j - 1) i _ _ (weight_wrong _ _ w)

    -- a tab and a good weight
    pub tail_next : (v next : ℕ) → byte_is s i tab ≡ true → weight_at s (i + 1) ≡ Some (number v next) → tail_at s i j ≡ tail_at s next (j - 1)
    unfolding field
    tail_next v next h w =
        let b = byte_here s i tab h in
        let g = weight_good _ _ v next w in
        let a = after_weight s (i + 1) v next w in
        at_tab b.0 b.1 ∙ (tail_list (j - 1) i next _ _ g.0 g.1 ∙ sym (λ x. tail_of (j - 1) next (a.0 x) (a.1 x)))
