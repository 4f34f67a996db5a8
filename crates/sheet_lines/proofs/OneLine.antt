-- Reading a string's line: its mark, its letters and its weights, found one after the other, are the line. Assumes nothing.
use mathlib.Core.Path.{◌≡◌, refl, sym, ap, ◌∙◌}
use mathlib.Core.Bool.{Bool, true, false, ◌&&◌, and-false}
use mathlib.Core.List.{List, [], ◌∷◌, map}
use Rattle.std.specs.Prelude.{Option, None, Some}
use Prim.Native.Nat.{ℕ, suc, ◌+◌, ◌-◌, ◌<◌, ◌≤◌}
use native.Mathlib.Omega.{arith}
use borrow.Author.Tests.{lt-ltb, le-ltb, le-leb, lt-leb, ltb-true, ltb-false, eqb-true}
use lib.Dec.{leb, ltb, eqb}
use lib.ListN.{length, drop, get_or, length-drop, length-map}
use lib.Seq.{drop-cons, drop-drop}
use Rattle.lists.specs.Choose.{choose}
use Rattle.lists.specs.Every.{every}
use Rattle.lists.proofs.Refuted.{never}
use Rattle.alphabet.specs.Letter.{is_letter}
use Rattle.text.specs.Numbers.{value}
use Rattle.text.specs.Parts.{up_to, later, tab, feed}
use Rattle.sheet.specs.Sheet.{is_mark, is_weight_field, is_string, is_string_line}
use Rattle.sheet_lines.specs.Cursor.{span, is_empty, tail_of, tail_at, line, line_of, line_at, marked}
use Rattle.sheet_lines.specs.declared.Line.{Line}
use Rattle.text.proofs.Tests.{both}
use Rattle.text.proofs.Parts.{inside_part, up_short}
use Rattle.sheet_lines.proofs.Letters.{tab-other, feed-other, span_up, letters-all, letters-length}

-- ─── the line as a list ──────────────────────────────────────────────────────

-- the line of n letters and w weights, by what stands behind the letters
abbrev line_with : ℕ → ℕ → Option ℕ → Option Line
line_with n w (Some next) = Some (line next n w)
line_with n w None = None

both_same : (x : Option Line) (t : Bool) → x ≡ choose t x x
both_same x true = refl
both_same x false = refl

-- the two ways to the answer, where the letters are good
same_answer : (k n w p p' q : ℕ) (x : Bool) → p ≡ p' → (x ≡ true → q ≡ w)
    → choose ((leb k n && true) && x) (Some (line p n q)) None ≡ choose (ltb n k) None (line_with n w (choose x (Some p') None))
same_answer k n w p p' q x e f = go (ltb n k) refl x refl where
  go : (t : Bool) → ltb n k ≡ t → (u : Bool) → x ≡ u
      → choose ((leb k n && true) && x) (Some (line p n q)) None ≡ choose (ltb n k) None (line_with n w (choose x (Some p') None))
  go true g u h = rw (lt-leb k n (ltb-true _ _ g), g)
  go false g true h = rw (le-leb k n (ltb-false _ _ g), g, h) (λ i. Some (line (e i) n (f h i)))
  go false g false h = rw (le-leb k n (ltb-false _ _ g), g, h)

-- a marked line is found by its letters and what stands behind them
line_list : (k i : ℕ) (l : List ℕ) (ms : List (List ℕ))
    → line_of k i (83 ∷ (tab ∷ l)) ms
    ≡ choose (ltb (span l) k) None (line_with (span l) (span l + 1 - k) (tail_of (span l + 1 - k) (i + 2 + span l) (drop (span l) l) ms))
unfolding line_of tail_of is_string_line is_string up_to later
line_list k i l [] = both_same None (ltb (span l) k)
line_list k i l (m ∷ ms) = go (is_empty (up_to tab (drop (span l) l))) refl where
  go : (t : Bool) → is_empty (up_to tab (drop (span l) l)) ≡ t → line_of k i (83 ∷ (tab ∷ l)) (m ∷ ms)
      ≡ choose (ltb (span l) k) None (line_with (span l) (span l + 1 - k) (tail_of (span l + 1 - k) (i + 2 + span l) (drop (span l) l) (m ∷ ms)))
  go true e =
      let a : every is_letter (up_to tab l) ≡ true = letters-all l ∙ e in
      let n : length (up_to tab l) ≡ span l = letters-length l e in
      let u = (span_up tab tab-other l).1 in
      let s = up_short tab l in
      let w : later tab (drop (span l) l) ≡ later tab l = (inside_part tab (span l) l u).1 in
      let d = length-drop (span l) l in
      rw (e, w, a, n)
      (same_answer k (span l) (span l + 1 - k) (i + suc (suc (length l)) + 1) (i + 2 + span l + length (drop (span l) l) + 1) (length (map value (later tab l)))
      (eqb (length (later tab l)) (span l + 1 - k) && every is_weight_field (later tab l))
      (omega arith)
      (λ h. length-map (later tab l) value ∙ eqb-true _ _ (both (eqb (length (later tab l)) (span l + 1 - k)) _ h).0))
  go false e =
      let a : every is_letter (up_to tab l) ≡ false = letters-all l ∙ e in
      rw (e, a, and-false) (both_same None (ltb (span l) k))

-- ─── the mark ────────────────────────────────────────────────────────────────

pick_same : (t : Bool) → choose t false false ≡ false
pick_same true = refl
pick_same false = refl

-- `S` and a tab in front of a line are in front of what the line is cut from
marked_up : (r : List ℕ) → marked (up_to feed r) ≡ marked r
unfolding up_to
marked_up [] = refl
marked_up (b ∷ []) = go (eqb b feed) where
  go : (t : Bool) → marked (choose t [] (b ∷ [])) ≡ false
  go true = refl
  go false = refl
marked_up (b ∷ (c ∷ r)) = go (eqb b feed) refl (eqb c feed) refl where
  go : (t : Bool) → eqb b feed ≡ t → (u : Bool) → eqb c feed ≡ u
      → marked (choose t [] (b ∷ choose u [] (c ∷ up_to feed r))) ≡ choose (eqb b 83) (eqb c tab) false
  go true e u g = sym (ap (λ (x : ℕ). choose (eqb x 83) (eqb c tab) false) (eqb-true b feed e))
  go false e true g = sym (ap (λ (x : ℕ). choose (eqb b 83) (eqb x tab) false) (eqb-true c feed g) ∙ pick_same (eqb b 83))
  go false e false g = refl

-- a good line begins with them
marked-line : (k : ℕ) (l : List ℕ) → is_string_line k l ≡ true → marked l ≡ true
unfolding is_string_line up_to later is_string
marked-line k [] h = never h
marked-line k (b ∷ []) h = go (eqb b tab) h where
  go : (t : Bool) → (is_mark 83 (choose t [] (b ∷ [])) && is_string k (choose t ([] ∷ []) [])) ≡ true → false ≡ true
  go true g = g
  go false g = (both (eqb b 83) _ g).1
marked-line k (b ∷ (c ∷ l)) h = go (eqb b tab) (eqb c tab) refl _ h where
  go : (t : Bool) (u : Bool) → eqb c tab ≡ u → (x : Bool) → (is_mark 83 (choose t [] (b ∷ choose u [] (c ∷ up_to tab l))) && x) ≡ true
      → choose (eqb b 83) (eqb c tab) false ≡ true
  go true u e x g = never g
  go false true e x g = rw ((both (eqb b 83) x g).0, e)
  go false false e x g = never g

-- a line that does not begin with `S` and a tab is wrong
unmarked_list : (k i : ℕ) (l : List ℕ) (ms : List (List ℕ)) → marked l ≡ false → line_of k i l ms ≡ None
unfolding line_of
unmarked_list k i l [] h = refl
unmarked_list k i l (m ∷ ms) h = go (is_string_line k l) refl where
  go : (t : Bool) → is_string_line k l ≡ t → line_of k i l (m ∷ ms) ≡ None
  go true e = never (sym h ∙ marked-line k l e)
  go false e = rw e

-- ─── the line at a place ─────────────────────────────────────────────────────

module _ (s : List ℕ) (at : ℕ) where
  two : at + 1 < length s → drop at s ≡ get_or s at 0 ∷ (get_or s (at + 1) 0 ∷ drop (at + 2) s)
  two h =
      let a : drop at s ≡ get_or s at 0 ∷ drop (suc at) s = drop-cons s at 0 (omega arith) in
      let b : drop (suc at) s ≡ get_or s (suc at) 0 ∷ drop (suc (suc at)) s = drop-cons s (suc at) 0 (omega arith) in
      let p : suc at ≡ at + 1 = omega arith in
      let q : suc (suc at) ≡ at + 2 = omega arith in
      a ∙ (ap (λ (x : List ℕ). get_or s at 0 ∷ x) b ∙ (λ i. get_or s at 0 ∷ (get_or s (p i) 0 ∷ drop (q i) s)))

  marked_is : at + 1 < length s → marked (drop at s) ≡ choose (eqb (get_or s at 0) 83) (eqb (get_or s (at + 1) 0) tab) false
  marked_is h = ap marked (two h)

  marked_true : (r : List ℕ) → marked r ≡ true → 2 ≤ length r
  marked_true [] h = never h
  marked_true (b ∷ []) h = never h
  marked_true (b ∷ (c ∷ r)) h = omega arith

  -- a mark has two bytes
  pub marked_room : marked (drop at s) ≡ true → at + 2 ≤ length s
  marked_room h = omega (arith, length-drop at s, marked_true (drop at s) h)

  -- what a mark stands in front of
  pub front : marked (drop at s) ≡ true → drop at s ≡ 83 ∷ (tab ∷ drop (at + 2) s)
  front h =
      let l : at + 1 < length s = omega (arith, marked_room h) in
      go (eqb (get_or s at 0) 83) refl (sym (marked_is l) ∙ h) l where
        go : (t : Bool) → eqb (get_or s at 0) 83 ≡ t → choose t (eqb (get_or s (at + 1) 0) tab) false ≡ true → at + 1 < length s
            → drop at s ≡ 83 ∷ (tab ∷ drop (at + 2) s)
        go true e g l = two l ∙ (λ i. eqb-true (get_or s at 0) 83 e i ∷ (eqb-true (get_or s (at + 1) 0) tab g i ∷ drop (at + 2) s))
        go false e g l = never g

  -- and none of them ends the line
  pub front_up : (r : List ℕ) → up_to feed (83 ∷ (tab ∷ r)) ≡ 83 ∷ (tab ∷ up_to feed r)
  unfolding up_to
  front_up r = refl

  front-later : (r : List ℕ) → later feed (83 ∷ (tab ∷ r)) ≡ later feed r
  unfolding later
  front-later r = refl

  -- the answer by the letters and what follows them; n is how many letters there are, e where they end, w how many weights are wanted
  module _ (k n e w : ℕ) (h : marked (drop at s) ≡ true) (p : e ≡ at + 2 + span (drop (at + 2) s)) (q : n ≡ e - (at + 2)) (r : w ≡ n + 1 - k) where
    line_answer : line_at k s at ≡ choose (ltb n k) None (line_with n w (tail_at s e w))
    line_answer =
        let x : List ℕ = drop (at + 2) s in
        let l : List ℕ = up_to feed x in
        let f = front h in
        let su = span_up feed feed-other x in
        let m : span l ≡ n = omega (arith, su.0) in
        let d : drop e s ≡ drop (span x) x = ap (λ (y : ℕ). drop y s) p ∙ sym (drop-drop (span x) (at + 2) s) in
        let v = inside_part feed (span x) x su.1 in
        let a : up_to feed (drop e s) ≡ drop (span l) l = ap (up_to feed) d ∙ (v.0 ∙ ap (λ (y : ℕ). drop y l) (sym su.0)) in
        let b : later feed (drop e s) ≡ later feed x = ap (later feed) d ∙ v.1 in
        let g : at + 2 + span l ≡ e = omega arith in
        let o : span l + 1 - k ≡ w = ap (λ (y : ℕ). y + 1 - k) m ∙ sym r in
        (λ i. line_of k at ((ap (up_to feed) f ∙ front_up x) i) ((ap (later feed) f ∙ front-later x) i))
        ∙ (line_list k at l (later feed x) ∙ (λ i. choose (ltb (m i) k) None (line_with (m i) (o i) (tail_of (o i) (g i) (sym a i) (sym b i)))))

    -- too few letters
    pub line_few : n < k → line_at k s at ≡ None
    line_few l = line_answer ∙ rw (lt-ltb n k l)

    -- wrong weights
    pub line_bad : k ≤ n → tail_at s e w ≡ None → line_at k s at ≡ None
    line_bad l t = line_answer ∙ (ap (λ (x : Bool). choose x None (line_with n w (tail_at s e w))) (le-ltb n k l) ∙ ap (line_with n w) t)

    -- a good line
    pub line_good : (next : ℕ) → k ≤ n → tail_at s e w ≡ Some next → line_at k s at ≡ Some (line next n w)
    line_good next l t = line_answer ∙ (ap (λ (x : Bool). choose x None (line_with n w (tail_at s e w))) (le-ltb n k l) ∙ ap (line_with n w) t)

  -- no `S`
  pub line_unmarked : (k : ℕ) → marked (drop at s) ≡ false → line_at k s at ≡ None
  line_unmarked k h = unmarked_list k at (up_to feed (drop at s)) (later feed (drop at s)) (marked_up (drop at s) ∙ h)
