-- Counting lines: one line more, the end, and a wrong line. Assumes nothing.
use mathlib.Core.Path.{◌≡◌, refl, sym, ap, ◌∙◌}
use mathlib.Core.Bool.{Bool, true, false}
use mathlib.Core.List.{List, [], ◌∷◌, ◌++◌}
use Rattle.std.specs.Prelude.{None, Some, Ok, Err}
use Prim.Native.Nat.{ℕ, suc, ◌+◌, ◌<◌, ◌≤◌}
use native.Mathlib.Nat.{add-zero}
use native.Mathlib.Omega.{arith}
use borrow.Author.Tests.{ne_eqb, eqb-true, eqb-false}
use lib.Dec.{eqb}
use lib.ListN.{length, drop, drop_of_length-le, length-drop, length-map, length-append}
use lib.Seq.{drop-drop}
use Rattle.lists.specs.Choose.{choose}
use Rattle.lists.proofs.Refuted.{refuted}
use Rattle.text.specs.Numbers.{value}
use Rattle.text.specs.Parts.{up_to, later, tab, feed}
use Rattle.collection.specs.Strings.{Str, letters_in, weights_in}
use Rattle.sheet.specs.Sheet.{is_string_line, string_of, strings_of, first_wrong}
use Rattle.sheet_lines.specs.Cursor.{line, line_of, line_at, lines_at, totals, count_of}
use Rattle.sheet_lines.specs.declared.Line.{Line}
use Rattle.sheet_lines.specs.declared.Totals.{Totals}
use Rattle.text.proofs.Parts.{parts, past_sep, up_short, later_short, some-part}

-- ─── a string is no longer than its line ─────────────────────────────────────

first_short_lem : (sep : ℕ) (r : List ℕ) → length (string_of (later sep r)).letters ≤ length r
unfolding later
first_short_lem sep [] = omega arith
first_short_lem sep (b ∷ r) = go (eqb b sep) (first_short_lem sep r) where
  go : (t : Bool) → length (string_of (later sep r)).letters ≤ length r → length (string_of (choose t (parts sep r) (later sep r))).letters ≤ suc (length r)
  go true h = omega (arith, up_short sep r)
  go false h = omega (arith, h)

weights_short : (fs : List (List ℕ)) → length (string_of fs).weights ≤ length fs
weights_short [] = omega arith
weights_short (f ∷ fs) = omega (arith, length-map fs value)

-- ─── one line ────────────────────────────────────────────────────────────────

-- what a good line is: l the line, ms the lines after it
pub record Found (k i : ℕ) (l : List ℕ) (ms : List (List ℕ)) (next a b : ℕ) : Type 0 where
  pub good : is_string_line k l ≡ true
  pub m : List ℕ
  pub rest : List (List ℕ)
  pub more : ms ≡ m ∷ rest
  pub next_is : next ≡ i + length l + 1
  pub letters : a ≡ length (string_of (later tab l)).letters
  pub weights : b ≡ length (string_of (later tab l)).weights

-- where the code finds a good line, there is one
pub found : (k i : ℕ) (l : List ℕ) (ms : List (List ℕ)) (next a b : ℕ) → line_of k i l ms ≡ Some (line next a b) → Found k i l ms next a b
unfolding line_of
found k i l [] next a b h = refuted (cc)
found k i l (m ∷ ms) next a b h = go (is_string_line k l) refl h where
  go : (t : Bool) → is_string_line k l ≡ t
      → choose t (Some (line (i + length l + 1) (length (string_of (later tab l)).letters) (length (string_of (later tab l)).weights))) None
      ≡ Some (line next a b)
      → Found k i l (m ∷ ms) next a b
  go true e r =
      let q : line next a b ≡ line (i + length l + 1) (length (string_of (later tab l)).letters) (length (string_of (later tab l)).weights) = cc in
      record {
        good = e;
        m = m;
        rest = ms;
        more = refl;
        next_is = ap (λ (x : Line). x.next) q;
        letters = ap (λ (x : Line). x.letters) q;
        weights = ap (λ (x : Line). x.weights) q;
      }
  go false e r = refuted (cc)

-- one good line more
count_list : (k n m w : ℕ) (l x : List ℕ) (ms : List (List ℕ)) (a b : ℕ) → is_string_line k l ≡ true → a ≡ length (string_of (later tab l)).letters
    → b ≡ length (string_of (later tab l)).weights
    → count_of k n m w (l ∷ (x ∷ ms)) ≡ count_of k (n + a) (m + 1) (w + b) (x ∷ ms)
unfolding count_of first_wrong strings_of letters_in weights_in
count_list k n m w l x ms a b g p q =
    let r : List Str = strings_of (x ∷ ms) in
    let e = string_of (later tab l) in
    let s : suc (m + 2) ≡ m + 1 + 2 = omega arith in
    let u : n + length (e.letters ++ letters_in r) ≡ n + a + length (letters_in r) = omega (arith, length-append e.letters (letters_in r)) in
    let v : m + suc (length r) ≡ m + 1 + length r = omega arith in
    let y : w + length (e.weights ++ weights_in r) ≡ w + b + length (weights_in r) = omega (arith, length-append e.weights (weights_in r)) in
    ap (λ (t : Bool). choose (eqb (choose t (first_wrong k (suc (m + 2)) (x ∷ ms)) (m + 2)) 0)
    (Ok (totals (n + length (e.letters ++ letters_in r)) (m + suc (length r)) (w + length (e.weights ++ weights_in r))))
    (Err (choose t (first_wrong k (suc (m + 2)) (x ∷ ms)) (m + 2)))) g
    ∙ (λ i. choose (eqb (first_wrong k (s i) (x ∷ ms)) 0) (Ok (totals (u i) (v i) (y i))) (Err (first_wrong k (s i) (x ∷ ms))))

-- a wrong line, of at least one byte or with a line feed
wrong_line : (k n m w i : ℕ) (l : List ℕ) (ms : List (List ℕ)) → line_of k i l ms ≡ None → 1 ≤ length l + length ms
    → count_of k n m w (l ∷ ms) ≡ Err (m + 2)
unfolding count_of first_wrong line_of
wrong_line k n m w i l [] h o =
    let z : eqb (length l) 0 ≡ false = ne_eqb (length l) 0 (λ e. omega arith) in
    let y : eqb (m + 2) 0 ≡ false = ne_eqb (m + 2) 0 (λ e. omega arith) in
    rw (z, y)
wrong_line k n m w i l (x ∷ ms) h o = go (is_string_line k l) refl h where
  go : (t : Bool) → is_string_line k l ≡ t
      → choose t (Some (line (i + length l + 1) (length (string_of (later tab l)).letters) (length (string_of (later tab l)).weights))) None
      ≡ None
      → count_of k n m w (l ∷ (x ∷ ms)) ≡ Err (m + 2)
  go true e r = refuted (cc)
  go false e r =
      let y : eqb (m + 2) 0 ≡ false = ne_eqb (m + 2) 0 (λ e. omega arith) in
      rw (e, y)

-- ─── what a count says ───────────────────────────────────────────────────────

module _ (k : ℕ) (ls : List (List ℕ)) where
  -- no line is wrong, and this is what they hold
  pub counts_good : {x : Totals} → count_of k 0 0 0 ls ≡ Ok x
      → (first_wrong k 2 ls ≡ 0)
      × (x.letters ≡ length (letters_in (strings_of ls))) × (x.strings ≡ length (strings_of ls)) × (x.weights ≡ length (weights_in (strings_of ls)))
  unfolding count_of
  counts_good {x} h = go (eqb (first_wrong k 2 ls) 0) refl h where
    go : (t : Bool) → eqb (first_wrong k 2 ls) 0 ≡ t
        → choose t (Ok (totals (0 + length (letters_in (strings_of ls))) (0 + length (strings_of ls)) (0 + length (weights_in (strings_of ls)))))
        (Err (first_wrong k 2 ls)) ≡ Ok x
        → (first_wrong k 2 ls ≡ 0)
        × (x.letters ≡ length (letters_in (strings_of ls))) × (x.strings ≡ length (strings_of ls)) × (x.weights ≡ length (weights_in (strings_of ls)))
    go true q r =
        let e : x ≡ totals (0 + length (letters_in (strings_of ls))) (0 + length (strings_of ls)) (0 + length (weights_in (strings_of ls))) = cc in
        let a = ap (λ (y : Totals). y.letters) e in
        let b = ap (λ (y : Totals). y.strings) e in
        let c = ap (λ (y : Totals). y.weights) e in
        (eqb-true _ _ q, omega arith, omega arith, omega arith)
    go false q r = refuted (cc)

  -- line x is the first wrong one
  pub counts_wrong : {x : ℕ} → count_of k 0 0 0 ls ≡ Err x → (first_wrong k 2 ls ≡ x) × (x ≡ 0 → ⊥)
  unfolding count_of
  counts_wrong {x} h = go (eqb (first_wrong k 2 ls) 0) refl h where
    go : (t : Bool) → eqb (first_wrong k 2 ls) 0 ≡ t
        → choose t (Ok (totals (0 + length (letters_in (strings_of ls))) (0 + length (strings_of ls)) (0 + length (weights_in (strings_of ls)))))
        (Err (first_wrong k 2 ls)) ≡ Err x
        → (first_wrong k 2 ls ≡ x) × (x ≡ 0 → ⊥)
    go true q r = refuted (cc)
    go false q r = let e : first_wrong k 2 ls ≡ x = cc in (e, λ o. eqb-false _ _ q (e ∙ o))

-- ─── the loop ────────────────────────────────────────────────────────────────

-- n letters, m strings and w weights are counted in the lines from `at` up to i. Each line is longer than what it holds, so that none of the numbers
-- passes i.
pub record Counting (k : ℕ) (s : List ℕ) (at n m w i : ℕ) : Type 0 where
  pub inside : i ≤ length s
  pub letters : n ≤ i
  pub strings : m + 2 ≤ i
  pub weights : w ≤ i
  pub counts : count_of k 0 0 0 (lines_at s at) ≡ count_of k n m w (lines_at s i)

module _ {k : ℕ} {s : List ℕ} {at n m w i : ℕ} (g : Counting k s at n m w i) where
  -- a good line
  pub count_next : {x : Line} → line_at k s i ≡ Some x → Counting k s at (n + x.letters) (m + 1) (w + x.weights) x.next × (i < x.next)
  count_next {x} h =
      let next : ℕ = x.next in
      let a : ℕ = x.letters in
      let b : ℕ = x.weights in
      let r : List ℕ = drop i s in
      let l : List ℕ = up_to feed r in
      let f = found k i l (later feed r) next a b h in
      let p = past_sep feed r f.m f.rest f.more in
      let o : next ≡ i + suc (length l) = omega (arith, f.next_is) in
      let d : drop next s ≡ drop (suc (length l)) r = ap (λ (x : ℕ). drop x s) o ∙ sym (drop-drop (suc (length l)) i s) in
      let q : lines_at s next ≡ f.m ∷ f.rest = ap (parts feed) d ∙ (p.0 ∙ f.more) in (
        record {
          inside = omega (arith, p.1, length-drop i s, g.inside);
          letters = omega (arith, first_short_lem tab l, f.letters, g.letters);
          strings = omega (arith, g.strings);
          weights = omega (arith, weights_short (later tab l), later_short tab l, f.weights, g.weights);
          counts =
              g.counts
              ∙ (ap (λ (y : List (List ℕ)). count_of k n m w (l ∷ y)) f.more
              ∙ (count_list k n m w l f.m f.rest a b f.good f.letters f.weights ∙ ap (count_of k (n + a) (m + 1) (w + b)) (sym q)));
        },
        omega arith,
      )

  -- a wrong line
  pub count_wrong : i < length s → line_at k s i ≡ None → Err (m + 2) ≡ count_of k 0 0 0 (lines_at s at)
  count_wrong l h =
      sym (g.counts ∙ wrong_line k n m w i (up_to feed (drop i s)) (later feed (drop i s)) h (some-part feed (drop i s) (omega (arith, length-drop i s))))

  -- no line is left
  pub count_end : length s ≤ i → Ok (totals n m w) ≡ count_of k 0 0 0 (lines_at s at)
  unfolding count_of up_to later first_wrong strings_of letters_in weights_in
  count_end h = sym (g.counts ∙ rw (drop_of_length-le s h, add-zero n, add-zero m, add-zero w))
