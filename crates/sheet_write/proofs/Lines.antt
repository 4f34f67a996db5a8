-- All lines of a sheet: those of the strings one after the other, behind line 1. What is still to be stored, and where it ends. Assumes nothing.
use mathlib.Core.Path.{◌≡◌, refl, ap, ◌∙◌}
use mathlib.Core.List.{List, [], ◌∷◌, ◌++◌}
use Prim.Native.Nat.{ℕ, ◌+◌, ◌-◌, ◌<◌, ◌≤◌}
use native.Mathlib.Omega.{arith}
use lib.ListN.{length, drop, get_or, length-append, drop_of_length-le}
use lib.Seq.{drop-drop}
use Rattle.lists.specs.Fill.{put, fill}
use Rattle.lists.specs.Count.{count_from}
use Rattle.lists.proofs.Count.{length_count}
use Rattle.lists.proofs.Storing.{Storing, begin, begin_at, restated, stored, drop_next}
use Rattle.collection.specs.Collection.{Collection, collection}
use Rattle.collection.specs.Kmers.{within, kmers_from}
use Rattle.collection.specs.Strings.{Str, strings_from, strings}
use Rattle.collection.proofs.Judged.{Judged, shape_long}
use Rattle.collection.proofs.Kmers.{kmers-counted, StringsLeft, strings_begin, kmers_next, Next, next_string, strings_on}
use Rattle.sheet.specs.Text.{lines_text, write_text}
use Rattle.text.proofs.Blocks.{block_room, store_block}
use Rattle.sheet_write.specs.Written.{head_line, cut_string, string_line}
use Rattle.sheet_write.proofs.Texts.{lines_cons, sheet-lines}

-- ─── all lines ───────────────────────────────────────────────────────────────

-- the text of the strings from string i on, the first of which starts at letter `before` and weight w
abbrev lines_left : Collection → ℕ → ℕ → ℕ → List ℕ
lines_left c i before w = lines_text (strings_from c.k before (drop before c.letters) (drop i c.ends) (drop w c.weights))

-- the lines from string i on are still to be stored, from p on; the last ends at `total`
pub record Lining (c : Collection) (size total : ℕ) (target out : List ℕ) (before w p i : ℕ) : Type 0 where
  pub left : StringsLeft c.k (length c.letters) c.ends i before w
  pub counted : length c.weights ≡ w + length (kmers_from c.k before (drop i c.ends))
  pub storing : Storing size out target (lines_left c i before w) p
  pub place : p + length (lines_left c i before w) ≡ total

-- at the start none is stored
pub lining : {c : Collection} → Judged c → (at : ℕ) (out : List ℕ) → at + length (lines_text (strings c)) ≤ length out
    → Lining c (length out) (at + length (lines_text (strings c))) (put at (lines_text (strings c)) out) out 0 0 at 0
lining {c} r at out h =
    record {
      left = strings_begin (shape_long r.shape) r.shape.last;
      counted = omega (arith, kmers-counted r.shape, r.counted);
      storing = begin_at at out _ h;
      place = refl;
    }

-- the strings left are the next one, and those after it
strings_next : (k before w i : ℕ) (letters ends weights : List ℕ) → i < length ends → before ≤ get_or ends i 0
    → strings_from k before (drop before letters) (drop i ends) (drop w weights)
    ≡ cut_string letters before (get_or ends i 0) weights w (within k before (get_or ends i 0))
    ∷ strings_from k (get_or ends i 0) (drop (get_or ends i 0) letters) (drop (i + 1) ends) (drop (w + within k before (get_or ends i 0)) weights)
unfolding strings_from
strings_next k before w i letters ends weights l b =
    let e : ℕ = get_or ends i 0 in
    let n : ℕ = within k before e in
    let u : before + (e - before) ≡ e = omega arith in
    let x : drop (e - before) (drop before letters) ≡ drop e letters = drop-drop (e - before) before letters ∙ ap (λ (y : ℕ). drop y letters) u in
    let z : drop n (drop w weights) ≡ drop (w + n) weights = drop-drop n w weights in
    ap (λ (y : List ℕ). strings_from k before (drop before letters) y (drop w weights)) (drop_next ends i 0 l)
    ∙ (λ y. cut_string letters before e weights w n ∷ strings_from k e (x y) (drop (i + 1) ends) (z y))

none_left : (k before w i : ℕ) (letters ends weights : List ℕ) → length ends ≤ i → lines_left (collection k letters ends weights) i before w ≡ []
unfolding strings_from lines_text
none_left k before w i letters ends weights l =
    ap (λ (y : List ℕ). lines_text (strings_from k before (drop before letters) y (drop w weights))) (drop_of_length-le ends l)

module _ {c : Collection} {size total : ℕ} {target out : List ℕ} {before w p i : ℕ} (s : Lining c size total target out before w p i) where
  module _ (l : i < length c.ends) where
    abbrev here_string : Str
    here_string = cut_string c.letters before (get_or c.ends i 0) c.weights w (within c.k before (get_or c.ends i 0))

    -- the next string is there
    pub next_line : Next c.k (length c.letters) before (get_or c.ends i 0)
    next_line = next_string s.left l

    split : lines_left c i before w ≡ string_line here_string ++ lines_left c (i + 1) (get_or c.ends i 0) (w + within c.k before (get_or c.ends i 0))
    split =
        let n = next_line in
        ap lines_text (strings_next c.k before w i c.letters c.ends c.weights l (omega (arith, n.long))) ∙ lines_cons here_string _

    rest_counted : length c.weights ≡ w + within c.k before (get_or c.ends i 0) + length (kmers_from c.k (get_or c.ends i 0) (drop (i + 1) c.ends))
    rest_counted =
        let n : ℕ = within c.k before (get_or c.ends i 0) in
        omega (
          arith,
          s.counted,
          ap length (kmers_next c.k before c.ends i l),
          length-append (count_from before n) (kmers_from c.k (get_or c.ends i 0) (drop (i + 1) c.ends)),
          length_count before n,
        )

    -- its weights are there, and its line fits
    pub weights_there : w + within c.k before (get_or c.ends i 0) ≤ length c.weights
    weights_there = omega (arith, rest_counted)

    pub line_room : p + length (string_line (cut_string c.letters before (get_or c.ends i 0) c.weights w (within c.k before (get_or c.ends i 0)))) ≤ length out
    line_room = block_room (string_line here_string) _ (restated split s.storing)

    -- its line is stored too
    pub lined : 1 ≤ c.k → {out' : List ℕ} {p' : ℕ}
        → p' ≡ p + length (string_line (cut_string c.letters before (get_or c.ends i 0) c.weights w (within c.k before (get_or c.ends i 0))))
        → out' ≡ put p (string_line (cut_string c.letters before (get_or c.ends i 0) c.weights w (within c.k before (get_or c.ends i 0)))) out
        → Lining c size total target out' (get_or c.ends i 0) (w + within c.k before (get_or c.ends i 0)) p' (i + 1)
    lined k1 {out'} {p'} q f =
        let r : List ℕ = lines_left c (i + 1) (get_or c.ends i 0) (w + within c.k before (get_or c.ends i 0)) in
        record {
          left = strings_on s.left l k1 _ refl;
          counted = rest_counted;
          storing = store_block (string_line here_string) r (restated split s.storing) f q;
          place = omega (arith, s.place, ap length split, length-append (string_line here_string) r);
        }

  -- at the end all are
  pub lined_all : length c.ends ≤ i → (p ≡ total) × (out ≡ target)
  lined_all l =
      let z = none_left c.k before w i c.letters c.ends c.weights l in
      (omega (arith, s.place, ap length z), stored (restated z s.storing))

-- ─── the sheet ───────────────────────────────────────────────────────────────

-- line 1, then all lines
module _ (c : Collection) (out : List ℕ) (room : length (write_text c) ≤ length out) where
  lines : write_text c ≡ head_line c.k ++ lines_text (strings c)
  unfolding write_text
  lines = sheet-lines c.k (strings c)

  sheet_begun : Storing (length out) out (fill (write_text c) out) (head_line c.k ++ lines_text (strings c)) 0
  sheet_begun = restated lines (begin out (write_text c) room)

  -- line 1 fits
  pub head_room : length (head_line c.k) ≤ length out
  head_room = omega (arith, block_room (head_line c.k) _ sheet_begun)

  module _ {p : ℕ} {headed : List ℕ} (e : p ≡ length (head_line c.k)) (f : headed ≡ put 0 (head_line c.k) out) where
    sheet_headed : Storing (length out) headed (fill (write_text c) out) (lines_text (strings c)) p
    sheet_headed = store_block (head_line c.k) _ sheet_begun f (omega arith)

    -- it is stored: the strings' lines fit
    pub lines_room : p + length (lines_text (strings c)) ≤ length headed
    lines_room = sheet_headed.room

    -- they are stored: that is the sheet
    pub sheet_done : {r : ℕ} {out' : List ℕ} → r ≡ p + length (lines_text (strings c)) → out' ≡ put p (lines_text (strings c)) headed
        → (r ≡ length (write_text c)) × (out' ≡ fill (write_text c) out)
    sheet_done q g =
        (omega (arith, ap length lines, length-append (head_line c.k) (lines_text (strings c))), g ∙ sheet_headed.ends)
