-- A judged line, taken apart: letters, weights and line feed. Assumes nothing.
use mathlib.Core.Path.{◌≡◌, refl, sym, ap, ◌∙◌}
use mathlib.Core.Bool.{Bool, true, false}
use mathlib.Core.List.{List, [], ◌∷◌, map}
use Rattle.std.specs.Prelude.{Option, None, Some}
use Prim.Native.Nat.{ℕ, suc, ◌+◌, ◌-◌, ◌<◌, ◌≤◌}
use native.Mathlib.Omega.{arith}
use borrow.Author.Tests.{eqb-true, ltb-true, ltb-false}
use lib.Dec.{ltb, eqb}
use lib.ListN.{length, drop, take, length-drop}
use lib.Seq.{drop-drop}
use Rattle.lists.specs.Choose.{choose}
use Rattle.lists.proofs.Refuted.{refuted, never}
use Rattle.text.specs.Numbers.{value}
use Rattle.text.specs.Parts.{up_to, later, tab, feed}
use Rattle.collection.specs.Strings.{Str}
use Rattle.sheet.specs.Sheet.{is_string_line, string, string_of, strings_of, first_wrong}
use Rattle.sheet_lines.specs.Cursor.{span, tail_at, line, line_of, line_at, lines_at, strings_at, marked, weights_at}
use Rattle.sheet_lines.specs.declared.Line.{Line}
use Rattle.sheet.proofs.Accepted.{choose-zero}
use Rattle.text.proofs.Parts.{parts, inside_part, past_sep, up_short, up_take, take_up, some-part}
use Rattle.sheet_lines.proofs.Letters.{tab-other, feed-other, span_up}
use Rattle.sheet_lines.proofs.OneLine.{line_unmarked, line_few, line_bad, line_good, front, front_up}
use Rattle.sheet_lines.proofs.Counts.{found}

-- ─── lines of which none is wrong ────────────────────────────────────────────

wrong_bad : (k q i : ℕ) (l : List ℕ) (ms : List (List ℕ)) → first_wrong k (suc q) (l ∷ ms) ≡ 0 → 1 ≤ length l + length ms → line_of k i l ms ≡ None → ⊥
unfolding first_wrong line_of
wrong_bad k q i l [] h o e = omega (arith, eqb-true (length l) 0 (choose-zero (eqb (length l) 0) 0 q h).0)
wrong_bad k q i l (m ∷ ms) h o e =
    let t = choose-zero (is_string_line k l) _ q h in
    let g : Some (line (i + length l + 1) (length (string_of (later tab l)).letters) (length (string_of (later tab l)).weights)) ≡ None =
    clash (is_string_line k l) _ t.0 e in
    refuted (cc) where
      clash : (t : Bool) (x : Option Line) → t ≡ true → choose t x None ≡ None → x ≡ None
      clash true x e r = r
      clash false x e r = never e

wrong_next : (k q : ℕ) (l m : List ℕ) (ms : List (List ℕ)) → first_wrong k (suc q) (l ∷ (m ∷ ms)) ≡ 0 → first_wrong k (suc (suc q)) (m ∷ ms) ≡ 0
unfolding first_wrong
wrong_next k q l m ms h = (choose-zero (is_string_line k l) _ q h).1

-- ─── one of them ─────────────────────────────────────────────────────────────

-- what stands in a judged line at i, of which the number is q + 1: its letters from i + 2 to e, then its weights, then its feed
pub record Row (k q : ℕ) (s : List ℕ) (i e : ℕ) : Type 0 where
  pub start : i + 2 ≤ e
  pub long : k ≤ e - (i + 2)
  pub feed_at : ℕ
  pub tail_is : tail_at s e (e - (i + 2) + 1 - k) ≡ Some (feed_at + 1)
  pub count : length (weights_at s e) ≡ e - (i + 2) + 1 - k
  pub inside : feed_at + 1 ≤ length s
  pub after : i < feed_at
  pub lines : first_wrong k (suc (suc q)) (lines_at s (feed_at + 1)) ≡ 0
  pub strings_are : strings_at s i ≡ string (take (e - (i + 2)) (drop (i + 2) s)) (weights_at s e) ∷ strings_at s (feed_at + 1)

front_fields : (l : List ℕ) → string_of (later tab (83 ∷ (tab ∷ l))) ≡ string (up_to tab l) (map value (later tab l))
unfolding later
front_fields l = refl

strings_next : (l m : List ℕ) (ms : List (List ℕ)) → strings_of (l ∷ (m ∷ ms)) ≡ string_of (later tab l) ∷ strings_of (m ∷ ms)
unfolding strings_of
strings_next l m ms = refl

module _ (k q : ℕ) (s : List ℕ) (i e : ℕ) (h : first_wrong k (suc q) (lines_at s i) ≡ 0) (l : i < length s) (p : e ≡ i + 2 + span (drop (i + 2) s)) where
  not_wrong : line_at k s i ≡ None → ⊥
  not_wrong r = wrong_bad k q i (up_to feed (drop i s)) (later feed (drop i s)) h (some-part feed (drop i s) (omega (arith, length-drop i s))) r

  -- its mark stands there
  pub row_marked : marked (drop i s) ≡ true
  row_marked = go (marked (drop i s)) refl where
    go : (t : Bool) → marked (drop i s) ≡ t → t ≡ true
    go true r = refl
    go false r = absurd (not_wrong (line_unmarked s i k r))

  row_long : k ≤ e - (i + 2)
  row_long = go (ltb (e - (i + 2)) k) refl where
    go : (t : Bool) → ltb (e - (i + 2)) k ≡ t → k ≤ e - (i + 2)
    go true r = absurd (not_wrong (line_few s i k (e - (i + 2)) e (e - (i + 2) + 1 - k) row_marked p refl refl (ltb-true _ _ r)))
    go false r = ltb-false _ _ r

  row_made : (next : ℕ) → tail_at s e (e - (i + 2) + 1 - k) ≡ Some next → Row k q s i e
  unfolding weights_at
  row_made next t =
      let n : ℕ = e - (i + 2) in
      let w : ℕ = n + 1 - k in
      let r : List ℕ = drop i s in
      let x : List ℕ = drop (i + 2) s in
      let l2 : List ℕ = up_to feed x in
      let g = line_good s i k n e w row_marked p refl refl next row_long t in
      let f = found k i (up_to feed r) (later feed r) next n w g in
      let o = past_sep feed r f.m f.rest f.more in
      let z : i + length (up_to feed r) + 1 ≡ i + suc (length (up_to feed r)) = omega arith in
      let d : drop (i + length (up_to feed r) + 1) s ≡ drop (suc (length (up_to feed r))) r =
      ap (λ (y : ℕ). drop y s) z ∙ sym (drop-drop (suc (length (up_to feed r))) i s) in
      let ln : lines_at s (i + length (up_to feed r) + 1) ≡ f.m ∷ f.rest = ap (parts feed) d ∙ (o.0 ∙ f.more) in
      let fr : up_to feed r ≡ 83 ∷ (tab ∷ l2) = ap (up_to feed) (front s i row_marked) ∙ front_up s i x in
      let fe : string_of (later tab (up_to feed r)) ≡ string (up_to tab l2) (map value (later tab l2)) =
      ap (λ (y : List ℕ). string_of (later tab y)) fr ∙ front_fields l2 in
      let a : length (up_to tab l2) ≡ n = sym (f.letters ∙ ap (λ (y : Str). length y.letters) fe) in
      let b : up_to tab l2 ≡ take n x = up_take tab l2 ∙ (ap (λ (y : ℕ). take y l2) a ∙ take_up feed x n (omega (arith, up_short tab l2, a))) in
      let su = span_up feed feed-other x in
      let de : drop e s ≡ drop (span x) x = ap (λ (y : ℕ). drop y s) p ∙ sym (drop-drop (span x) (i + 2) s) in
      let ue : up_to feed (drop e s) ≡ drop (span x) l2 = ap (up_to feed) de ∙ (inside_part feed (span x) x su.1).0 in
      let st = span_up tab tab-other l2 in
      let le : later tab (up_to feed (drop e s)) ≡ later tab l2 = ap (later tab) ue ∙ (inside_part tab (span x) l2 (omega (arith, su.0, st.1))).1 in
      let hm : first_wrong k (suc q) (up_to feed r ∷ (f.m ∷ f.rest)) ≡ 0 =
      ap (λ (y : List (List ℕ)). first_wrong k (suc q) (up_to feed r ∷ y)) (sym f.more) ∙ h in
      record {
        start = omega arith;
        long = row_long;
        feed_at = i + length (up_to feed r);
        tail_is = t ∙ ap Some f.next_is;
        count = ap (λ (y : List (List ℕ)). length (map value y)) le ∙ sym (f.weights ∙ ap (λ (y : Str). length y.weights) fe);
        inside = omega (arith, o.1, length-drop i s);
        after = omega (arith, ap length fr);
        lines = ap (first_wrong k (suc (suc q))) ln ∙ wrong_next k q (up_to feed r) f.m f.rest hm;
        strings_are =
            ap (λ (y : List (List ℕ)). strings_of (up_to feed r ∷ y)) f.more
            ∙ (strings_next (up_to feed r) f.m f.rest ∙ (λ y. (fe ∙ (λ v. string (b v) (map value (sym le v)))) y ∷ strings_of (sym ln y)));
      }

  -- it is such a line
  pub row : Row k q s i e
  row = go (tail_at s e (e - (i + 2) + 1 - k)) refl where
    go : (t : Option ℕ) → tail_at s e (e - (i + 2) + 1 - k) ≡ t → Row k q s i e
    go (Some next) r = row_made next r
    go None r = absurd (not_wrong (line_bad s i k (e - (i + 2)) e (e - (i + 2) + 1 - k) row_marked p refl refl row_long r))
