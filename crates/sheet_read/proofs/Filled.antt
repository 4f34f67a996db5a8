-- The loop that fills the tables line by line: what is still to be stored. Assumes nothing.
use mathlib.Core.Path.{◌≡◌, refl, sym, ap, ◌∙◌, subst}
use mathlib.Core.List.{List, [], ◌∷◌, ◌++◌}
use Rattle.std.specs.Prelude.{Some}
use Prim.Native.Nat.{ℕ, suc, ◌+◌, ◌-◌, ◌<◌, ◌≤◌}
use native.Mathlib.Omega.{arith}
use lib.ListN.{length, drop, take, length-append, length-drop, set, drop_of_length-le}
use lib.Seq.{length-take-le}
use Rattle.lists.specs.Fill.{put, fill}
use Rattle.lists.specs.Limits.{most_letters}
use Rattle.lists.proofs.Storing.{Storing, begin, store, restated, stored}
use Rattle.collection.specs.Tables.{tables}
use Rattle.collection.specs.Strings.{Str, letters_in, weights_in, ends_in}
use Rattle.collection.proofs.Strings.{ends-length}
use Rattle.text.specs.Parts.{up_to, later}
use Rattle.sheet.specs.Sheet.{string, strings_of, first_wrong}
use Rattle.text.proofs.Blocks.{block_room, store_block}
use Rattle.sheet_lines.specs.Cursor.{span, tail_at, lines_at, strings_at, weights_at}
use Rattle.sheet_lines.proofs.OneLine.{marked_room}
use Rattle.sheet_read.specs.Fits.{Fits}
use Rattle.sheet_read.proofs.Rows.{Row, row, row_marked}

-- ─── what strings add to the tables ──────────────────────────────────────────

letters-cons : (s : Str) (ss : List Str) → letters_in (s ∷ ss) ≡ s.letters ++ letters_in ss
unfolding letters_in
letters-cons s ss = refl

weights-cons : (s : Str) (ss : List Str) → weights_in (s ∷ ss) ≡ s.weights ++ weights_in ss
unfolding weights_in
weights-cons s ss = refl

ends-cons : (n : ℕ) (s : Str) (ss : List Str) → ends_in n (s ∷ ss) ≡ (n + length s.letters) ∷ ends_in (n + length s.letters) ss
unfolding ends_in
ends-cons n s ss = refl

no_letters : letters_in [] ≡ []
unfolding letters_in
no_letters = refl

no_weights : weights_in [] ≡ []
unfolding weights_in
no_weights = refl

no_ends : (n : ℕ) → ends_in n [] ≡ []
unfolding ends_in
no_ends n = refl

none_left : (s : List ℕ) (i : ℕ) → length s ≤ i → strings_at s i ≡ []
unfolding up_to later strings_of
none_left s i h = rw (drop_of_length-le s h)

-- ─── the loop ────────────────────────────────────────────────────────────────

-- at line i, with n letters, m ends and w weights stored, of tables of sizes a b c that are to become A B C
pub record State (k : ℕ) (s : List ℕ) (a b c : ℕ) (A B C : List ℕ) (i n m w : ℕ) (ls es ws : List ℕ) : Type 0 where
  pub inside : i ≤ length s
  pub lines : first_wrong k (suc (m + 1)) (lines_at s i) ≡ 0
  pub small : n + length (letters_in (strings_at s i)) ≤ most_letters
  pub letters : Storing a ls A (letters_in (strings_at s i)) n
  pub ends : Storing b es B (ends_in n (strings_at s i)) m
  pub weights : Storing c ws C (weights_in (strings_at s i)) w

-- at the start nothing is stored
pub begin_state : {k at : ℕ} {s : List ℕ} (ls es ws : List ℕ) → Fits k s at (length ls) (length es) (length ws)
    → State k s (length ls) (length es) (length ws) (fill (letters_in (strings_at s at)) ls) (fill (ends_in 0 (strings_at s at)) es)
    (fill (weights_in (strings_at s at)) ws) at 0 0 0 ls es ws
begin_state {k} {at} {s} ls es ws f =
    record {
      inside = f.inside;
      lines = f.lines;
      small = omega (arith, f.small);
      letters = begin ls _ f.letters_room;
      ends = begin es _ (omega (arith, f.ends_room, ends-length 0 (strings_at s at)));
      weights = begin ws _ f.weights_room;
    }

-- what is still to be stored, with the line at i split off, whose letters end at e
pub record Split (k : ℕ) (s : List ℕ) (a b c : ℕ) (A B C : List ℕ) (i e n m w : ℕ) (ls es ws : List ℕ) : Type 0 where
  pub row : Row k (m + 1) s i e
  pub size : length (take (e - (i + 2)) (drop (i + 2) s)) ≡ e - (i + 2)
  pub letters_room : n + (e - (i + 2)) ≤ length ls
  pub weights_room : w + length (weights_at s e) ≤ length ws
  pub small : n + (e - (i + 2)) + length (letters_in (strings_at s (row.feed_at + 1))) ≤ most_letters
  pub letters : Storing a ls A (take (e - (i + 2)) (drop (i + 2) s) ++ letters_in (strings_at s (row.feed_at + 1))) n
  pub ends : Storing b es B ((n + (e - (i + 2))) ∷ ends_in (n + (e - (i + 2))) (strings_at s (row.feed_at + 1))) m
  pub weights : Storing c ws C (weights_at s e ++ weights_in (strings_at s (row.feed_at + 1))) w

module _ {k : ℕ} {s : List ℕ} {a b c : ℕ} {A B C : List ℕ} {i n m w : ℕ} {ls es ws : List ℕ} (st : State k s a b c A B C i n m w ls es ws) where
  -- a line is left: its mark is there
  pub mark_room : i < length s → i + 2 ≤ length s
  mark_room l = marked_room s i (row_marked k (m + 1) s i _ st.lines l refl)

  -- and it can be split off
  pub split : {e : ℕ} → i < length s → (e ≡ i + 2 + span (drop (i + 2) s)) × (e ≤ length s) → Split k s a b c A B C i e n m w ls es ws
  split {e} l p =
      let r : Row k (m + 1) s i e = row k (m + 1) s i e st.lines l p.0 in
      let x : List ℕ = take (e - (i + 2)) (drop (i + 2) s) in
      let rest : List Str = strings_at s (r.feed_at + 1) in
      let u : Str = string x (weights_at s e) in
      let z : length x ≡ e - (i + 2) = length-take-le _ _ (omega (arith, length-drop (i + 2) s, p.1)) in
      let f : letters_in (strings_at s i) ≡ x ++ letters_in rest = ap letters_in r.strings_are ∙ letters-cons u _ in
      let g : ends_in n (strings_at s i) ≡ (n + (e - (i + 2))) ∷ ends_in (n + (e - (i + 2))) rest =
      ap (ends_in n) r.strings_are ∙ (ends-cons n u _ ∙ ap (λ (y : ℕ). (n + y) ∷ ends_in (n + y) rest) z) in
      let h : weights_in (strings_at s i) ≡ weights_at s e ++ weights_in rest = ap weights_in r.strings_are ∙ weights-cons u _ in
      record {
        row = r;
        size = z;
        letters_room = omega (arith, block_room x (letters_in rest) (restated f st.letters), z);
        weights_room = block_room (weights_at s e) (weights_in rest) (restated h st.weights);
        small = omega (arith, st.small, ap length f, length-append x (letters_in rest));
        letters = restated f st.letters;
        ends = restated g st.ends;
        weights = restated h st.weights;
      }

  -- no line is left: the tables are what they were to become
  pub end_state : length s ≤ i → tables ls es ws ≡ tables A B C
  end_state h =
      let z = none_left s i h in
      let letters = stored (restated (ap letters_in z ∙ no_letters) st.letters) in
      let ends = stored (restated (ap (ends_in n) z ∙ no_ends n) st.ends) in
      let weights = stored (restated (ap weights_in z ∙ no_weights) st.weights) in
      λ x. tables (letters x) (ends x) (weights x)

-- f is where the line's feed was found
module _ {k : ℕ} {s : List ℕ} {a b c : ℕ} {A B C : List ℕ} {i e n m w : ℕ} {ls es ws : List ℕ} (sp : Split k s a b c A B C i e n m w ls es ws)
    (f : ℕ) (t : tail_at s e (e - (i + 2) + 1 - k) ≡ Some (f + 1)) where
  same-feed : sp.row.feed_at + 1 ≡ f + 1
  same-feed = same_next (sym sp.row.tail_is ∙ t) where
    same_next : {x y : ℕ} → Some x ≡ Some y → x ≡ y
    same_next h = cc

  -- the line ends inside the sheet
  pub feed_place : (f + 1 ≤ length s) × (i < f)
  feed_place = let z = same-feed in (omega (arith, sp.row.inside), omega (arith, sp.row.after))

  -- the line's letters, end and weights are stored
  pub next_state : {ls' ws' : List ℕ} → ls' ≡ put n (take (e - (i + 2)) (drop (i + 2) s)) ls → ws' ≡ put w (weights_at s e) ws
      → State k s a b c A B C (f + 1) (n + (e - (i + 2))) (m + 1) (w + (e - (i + 2) + 1 - k)) ls' (set es m (n + (e - (i + 2)))) ws'
  next_state {ls'} {ws'} p o =
      let z : suc (suc (m + 1)) ≡ suc (m + 1 + 1) = omega arith in
      subst (λ (y : ℕ). State k s a b c A B C y (n + (e - (i + 2))) (m + 1) (w + (e - (i + 2) + 1 - k)) ls' (set es m (n + (e - (i + 2)))) ws') same-feed
      (record {
        inside = sp.row.inside;
        lines = ap (λ (y : ℕ). first_wrong k y (lines_at s (sp.row.feed_at + 1))) (sym z) ∙ sp.row.lines;
        small = sp.small;
        letters = store_block (take (e - (i + 2)) (drop (i + 2) s)) _ sp.letters p (ap (λ (y : ℕ). n + y) (sym sp.size));
        ends = store sp.ends;
        weights = store_block (weights_at s e) _ sp.weights o (ap (λ (y : ℕ). w + y) (sym sp.row.count));
      })
