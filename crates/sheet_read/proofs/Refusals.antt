-- Judging a sheet: the refusals in their order. Assumes nothing.
use mathlib.Core.Path.{◌≡◌, refl, sym, ap, ◌∙◌}
use mathlib.Core.Bool.{Bool, true, false}
use mathlib.Core.List.{List, [], ◌∷◌}
use Rattle.collection.specs.declared.refusal.Refusal.{Refusal}
use Rattle.collection.specs.declared.refusal.Refusal.TheVariants.{Line}
use Rattle.std.specs.Prelude.{None, Some, Ok, Err}
use Prim.Native.Nat.{ℕ, suc, ◌+◌, ◌≤◌}
use native.Mathlib.Omega.{arith}
use lib.ListN.{length, drop}
use Rattle.lists.specs.Choose.{choose}
use Rattle.lists.proofs.Refuted.{refuted, never}
use Rattle.collection.specs.Judge.{k_verdict}
use Rattle.collection.specs.Verdict.{and_then, at_place, settle, Verdict, good}
use Rattle.collection.proofs.Verdicts.{place_none, place_some}
use Rattle.text.specs.Parts.{up_to, later, feed}
use Rattle.sheet.specs.Sheet.{is_k_line, first_wrong, sheet_k, is_head, sheet_verdict}
use Rattle.sheet_lines.specs.Cursor.{head, head_of, head_in, lines_at, totals, count_of}
use Rattle.sheet_lines.specs.declared.Head.{Head}
use Rattle.sheet_read.specs.Judged.{judged_of, held, read_as}
use Rattle.text.proofs.Parts.{parts, past_sep}
use Rattle.sheet_lines.proofs.Counts.{counts_good, counts_wrong}

-- line 1 is wrong
pub head_wrong : (s : List ℕ) → head_in s ≡ None → Err (Line 1) ≡ judged_of s
unfolding judged_of sheet_verdict settle and_then head_of
head_wrong s h = go (is_head (up_to feed s) (later feed s)) refl h where
  go : (t : Bool) → is_head (up_to feed s) (later feed s) ≡ t → choose t (Some (head (sheet_k s) (length (up_to feed s) + 1))) None ≡ None
      → Err (Line 1) ≡ judged_of s
  go true e r = refuted (cc)
  go false e r = rw e

-- line 1 is good: its k, where line 2 starts, and the lines from there
pub record Headed (s : List ℕ) (k next : ℕ) : Type 0 where
  pub good : is_head (up_to feed s) (later feed s) ≡ true
  pub k_is : k ≡ sheet_k s
  pub next_is : next ≡ length (up_to feed s) + 1
  pub inside : next ≤ length s
  pub later_one : 2 ≤ next
  pub lines : lines_at s next ≡ later feed s

some-line : (s : List ℕ) (ls : List (List ℕ)) → later feed s ≡ ls → is_head (up_to feed s) ls ≡ true
    → (parts feed (drop (suc (length (up_to feed s))) s) ≡ later feed s) × (suc (length (up_to feed s)) ≤ length s)
some-line s [] e h = never h
some-line s (m ∷ ms) e h = past_sep feed s m ms e

line-some : (l : List ℕ) (ls : List (List ℕ)) → is_head l ls ≡ true → 1 ≤ length l
unfolding is_k_line up_to
line-some l [] h = never h
line-some [] (m ∷ ms) h = never h
line-some (b ∷ l) (m ∷ ms) h = omega arith

-- what the code finds at a good line 1
pub headed : (s : List ℕ) (k next : ℕ) → head_in s ≡ Some (head k next) → Headed s k next
unfolding head_of
headed s k next h = go (is_head (up_to feed s) (later feed s)) refl h where
  go : (t : Bool) → is_head (up_to feed s) (later feed s) ≡ t → choose t (Some (head (sheet_k s) (length (up_to feed s) + 1))) None ≡ Some (head k next)
      → Headed s k next
  go true e r =
      let q : head (sheet_k s) (length (up_to feed s) + 1) ≡ head k next = cc in
      let n = sym (ap (λ (x : Head). x.next) q) in
      let l = some-line s (later feed s) refl e in
      let o = line-some (up_to feed s) (later feed s) e in
      let z : length (up_to feed s) + 1 ≡ suc (length (up_to feed s)) = omega arith in
      record {
        good = e;
        k_is = sym (ap (λ (x : Head). x.k) q);
        next_is = n;
        inside = omega (arith, l.1);
        later_one = omega arith;
        lines = ap (λ (x : ℕ). parts feed (drop x s)) (n ∙ z) ∙ l.0;
      }
  go false e r = refuted (cc)

module _ (s : List ℕ) (k next : ℕ) (h : Headed s k next) where
  sheet_is : sheet_verdict s ≡ and_then (k_verdict k) (at_place Line (first_wrong k 2 (later feed s)))
  unfolding sheet_verdict and_then
  sheet_is =
      ap (λ (t : Bool). and_then (choose t good (Err (Line 1)))
      (and_then (k_verdict (sheet_k s)) (at_place Line (first_wrong (sheet_k s) 2 (later feed s))))) h.good
      ∙ ap (λ (x : ℕ). and_then (k_verdict x) (at_place Line (first_wrong x 2 (later feed s)))) (sym h.k_is)

  judged_is : (v : Verdict) → sheet_verdict s ≡ v → judged_of s ≡ settle v Err (held s)
  unfolding judged_of
  judged_is v e = ap (λ (x : Verdict). settle x Err (held s)) e

  -- k is out of range
  pub k_bad : (r : Refusal) → k_verdict k ≡ Err r → Err r ≡ judged_of s
  unfolding settle and_then
  k_bad r e = sym (judged_is (Err r) (sheet_is ∙ ap (λ (x : Verdict). and_then x (at_place Line (first_wrong k 2 (later feed s)))) e))

  module _ (e : k_verdict k ≡ good) where
    lines_is : sheet_verdict s ≡ at_place Line (first_wrong k 2 (later feed s))
    unfolding and_then
    lines_is = sheet_is ∙ ap (λ (x : Verdict). and_then x (at_place Line (first_wrong k 2 (later feed s)))) e

    -- a later line is wrong
    pub line_bad : (x : ℕ) → count_of k 0 0 0 (lines_at s next) ≡ Err x → Err (Line x) ≡ judged_of s
    unfolding settle
    line_bad x c =
        let w = counts_wrong k (later feed s) (ap (count_of k 0 0 0) (sym h.lines) ∙ c) in
        sym (judged_is (Err (Line x)) (lines_is ∙ (ap (at_place Line) w.0 ∙ sym (place_some Line x w.1))))

    -- none is
    pub all_lines : (a b c : ℕ) → count_of k 0 0 0 (lines_at s next) ≡ Ok (totals a b c) → read_as k next a b c ≡ judged_of s
    unfolding settle
    all_lines a b c g =
        let w = counts_good k (later feed s) (ap (count_of k 0 0 0) (sym h.lines) ∙ g) in
        (λ i. read_as (h.k_is i) (h.next_is i) (w.1 i) (w.2 i) (w.3 i)) ∙ sym (judged_is good (lines_is ∙ sym (place_none Line w.0)))
