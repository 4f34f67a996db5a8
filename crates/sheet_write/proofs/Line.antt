-- One line stored piece by piece: weights, line 1, a string's line. What is still to be stored, and where it ends. Assumes nothing.
use mathlib.Core.Path.{◌≡◌, sym, ap, subst}
use mathlib.Core.List.{List, [], ◌∷◌, ◌++◌}
use Prim.Native.Nat.{ℕ, ◌+◌, ◌-◌, ◌<◌, ◌≤◌}
use native.Mathlib.Omega.{arith}
use lib.ListN.{length, take, drop, get_or, set, length-append, length-drop}
use lib.Seq.{length-take-le}
use Rattle.lists.specs.Fill.{put}
use Rattle.lists.proofs.Storing.{Storing, begin_at, inside, store, restated, stored}
use Rattle.collection.specs.Strings.{Str}
use Rattle.text.specs.Numbers.{digits}
use Rattle.text.specs.Parts.{tab, feed}
use Rattle.sheet.specs.Text.{weights_text}
use Rattle.text.proofs.Blocks.{block_room, store_block}
use Rattle.sheet_write.specs.Written.{head_line, cut_string, string_line}
use Rattle.sheet_write.proofs.Texts.{weights_next, weights_end, line-length}

moved : {size o o' : ℕ} {out target rest : List ℕ} → o ≡ o' → Storing size out target rest o → Storing size out target rest o'
moved {size} {out = out} {target} {rest} e s = subst (λ (o : ℕ). Storing size out target rest o) e s

-- ─── weights ─────────────────────────────────────────────────────────────────

-- the weights from entry i on are still to be stored, from p on; the last ends at `total`
pub record Weighing (size : ℕ) (ws : List ℕ) (total : ℕ) (target out : List ℕ) (i p : ℕ) : Type 0 where
  pub storing : Storing size out target (weights_text (drop i ws)) p
  pub place : p + length (weights_text (drop i ws)) ≡ total

module _ {size : ℕ} {ws : List ℕ} {total : ℕ} {target out : List ℕ} {i p : ℕ} (s : Weighing size ws total target out i p) where
  module _ (l : i < length ws) where
    here : Storing size out target (tab ∷ (digits (get_or ws i 0) ++ weights_text (drop (i + 1) ws))) p
    here = restated (weights_next ws i l) s.storing

    -- its tab fits, then its digits
    pub tab_room : p < length out
    tab_room = inside here

    pub digits_room : p + 1 + length (digits (get_or ws i 0)) ≤ length (set out p tab)
    digits_room = block_room (digits (get_or ws i 0)) _ (store here)

    -- one weight more is stored
    pub weighed : {out' : List ℕ} {p' : ℕ} → p' ≡ p + 1 + length (digits (get_or ws i 0)) → out' ≡ put (p + 1) (digits (get_or ws i 0)) (set out p tab)
        → Weighing size ws total target out' (i + 1) p'
    weighed {out' = out'} {p' = p'} q f =
        let d : List ℕ = digits (get_or ws i 0) in
        let r : List ℕ = weights_text (drop (i + 1) ws) in
        record {
          storing = store_block d r (store here) f q;
          place = omega (arith, s.place, ap length (weights_next ws i l), length-append d r);
        }

  -- at the end all are
  pub weighed-all : length ws ≤ i → (p ≡ total) × (out ≡ target)
  weighed-all l =
      let z = weights_end ws i l in
      (omega (arith, s.place, ap length z), stored (restated z s.storing))

-- ─── line 1 ──────────────────────────────────────────────────────────────────

module _ (k : ℕ) (out : List ℕ) (h : length (head_line k) ≤ length out) where
  head_begun : Storing (length out) out (put 0 (head_line k) out) (75 ∷ (tab ∷ (digits k ++ (feed ∷ [])))) 0
  unfolding head_line
  head_begun = begin_at 0 out (head_line k) (omega arith)

  -- its first two bytes are stored
  pub head_marked : Storing (length out) (set (set out 0 75) 1 tab) (put 0 (head_line k) out) (digits k ++ (feed ∷ [])) 2
  head_marked = store (store head_begun)

  -- and its k: the feed is left
  pub head_ended : {out' : List ℕ} {p : ℕ} → p ≡ 2 + length (digits k) → out' ≡ put 2 (digits k) (set (set out 0 75) 1 tab)
      → Storing (length out) out' (put 0 (head_line k) out) (feed ∷ []) p
  head_ended e f = store_block (digits k) (feed ∷ []) head_marked f e

-- ─── a string's line ─────────────────────────────────────────────────────────

-- its letters from b to e, its n weights from entry w on, stored from `at` on
module _ (letters weights out : List ℕ) (b e w n at : ℕ) (fits : (b ≤ e) × (e ≤ length letters) × (w + n ≤ length weights))
    (room : at + length (string_line (cut_string letters b e weights w n)) ≤ length out) where
  abbrev str : Str
  str = cut_string letters b e weights w n

  abbrev target : List ℕ
  target = put at (string_line str) out

  abbrev marked : List ℕ
  marked = set (set out at 83) (at + 1) tab

  letters_size : length (take (e - b) (drop b letters)) ≡ e - b
  letters_size = length-take-le (e - b) (drop b letters) (omega (arith, length-drop b letters))

  line_begun : Storing (length out) out target (83 ∷ (tab ∷ (str.letters ++ (weights_text str.weights ++ (feed ∷ []))))) at
  unfolding string_line
  line_begun = begin_at at out (string_line str) room

  line_marked : Storing (length out) marked target (str.letters ++ (weights_text str.weights ++ (feed ∷ []))) (at + 2)
  line_marked = moved two (store (store line_begun))
    where
      two : at + 1 + 1 ≡ at + 2
      two = omega arith

  -- the mark fits, and the letters
  pub marks_room : at + 2 + (e - b) < length out
  marks_room = omega (arith, room, line-length str, letters_size)

  pub letters_room : at + 2 + (e - b) ≤ length (set (set out at 83) (at + 1) tab)
  letters_room = omega (arith, block_room str.letters _ line_marked, letters_size)

  module _ {lettered : List ℕ} (f : lettered ≡ put (at + 2) (take (e - b) (drop b letters)) (set (set out at 83) (at + 1) tab)) where
    line_lettered : Storing (length out) lettered target (weights_text str.weights ++ (feed ∷ [])) (at + 2 + (e - b))
    line_lettered = store_block str.letters _ line_marked f (ap (λ (x : ℕ). at + 2 + x) (sym letters_size))

    -- the letters are stored: the weights fit
    pub weights_room : at + 2 + (e - b) + length (weights_text (take n (drop w weights))) ≤ length lettered
    weights_room = block_room (weights_text str.weights) (feed ∷ []) line_lettered

    module _ {p : ℕ} (q : p ≡ at + 2 + (e - b) + length (weights_text (take n (drop w weights)))) where
      -- the weights are: the feed is left, and the line ends behind it
      pub line-weighed : {weighed : List ℕ} → weighed ≡ put (at + 2 + (e - b)) (weights_text (take n (drop w weights))) lettered
          → Storing (length out) weighed (put at (string_line (cut_string letters b e weights w n)) out) (feed ∷ []) p
      line-weighed g = store_block (weights_text str.weights) (feed ∷ []) line_lettered g q

      pub line_end : p + 1 ≡ at + length (string_line (cut_string letters b e weights w n))
      line_end = omega (arith, line-length str, letters_size)

      pub line-fits : p + 1 ≤ length out
      line-fits = omega (arith, line_end, room)
