-- The text of weights and of strings, piece by piece, and its length. Assumes nothing.
use mathlib.Core.Path.{◌≡◌, refl, sym, ap, ◌∙◌}
use mathlib.Core.List.{List, [], ◌∷◌, ◌++◌, append_assoc}
use Prim.Native.Nat.{ℕ, ◌+◌, ◌*◌, ◌<◌, ◌≤◌}
use native.Mathlib.Omega.{arith}
use lib.ListN.{length, drop, get_or, length-append, drop_of_length-le}
use Rattle.lists.specs.Limits.{most_letters}
use Rattle.lists.proofs.Storing.{drop_next}
use Rattle.collection.specs.Collection.{Collection}
use Rattle.collection.specs.Strings.{Str, strings, letters_in, weights_in}
use Rattle.collection.proofs.Judged.{Judged}
use Rattle.collection.proofs.Strings.{strings-joined, ends-length}
use Rattle.text.specs.Numbers.{digits}
use Rattle.text.specs.Parts.{tab, feed}
use Rattle.sheet.specs.Text.{weights_text, lines_text, sheet_text, write_text}
use Rattle.sheet_write.specs.Written.{head_line, string_line}

-- ─── weights ─────────────────────────────────────────────────────────────────

no_weights : weights_text [] ≡ []
unfolding weights_text
no_weights = refl

weights-cons : (w : ℕ) (ws : List ℕ) → weights_text (w ∷ ws) ≡ tab ∷ (digits w ++ weights_text ws)
unfolding weights_text
weights-cons w ws = refl

-- one weight more, as a loop's index counts
pub weights_next : (ws : List ℕ) (i : ℕ) → i < length ws → weights_text (drop i ws) ≡ tab ∷ (digits (get_or ws i 0) ++ weights_text (drop (i + 1) ws))
weights_next ws i l = ap weights_text (drop_next ws i 0 l) ∙ weights-cons (get_or ws i 0) _

-- none is left
pub weights_end : (ws : List ℕ) (i : ℕ) → length ws ≤ i → weights_text (drop i ws) ≡ []
weights_end ws i l = ap weights_text (drop_of_length-le ws l) ∙ no_weights

-- the length of the weights left, with one weight less
pub weights_count : (ws : List ℕ) (i : ℕ) → i < length ws
    → length (weights_text (drop i ws)) ≡ 1 + length (digits (get_or ws i 0)) + length (weights_text (drop (i + 1) ws))
weights_count ws i l =
    ap length (weights_next ws i l) ∙ omega (arith, length-append (digits (get_or ws i 0)) (weights_text (drop (i + 1) ws)))

weights-append : (xs ys : List ℕ) → weights_text (xs ++ ys) ≡ weights_text xs ++ weights_text ys
unfolding weights_text
weights-append [] ys = refl
weights-append (x ∷ xs) ys =
    ap (λ (r : List ℕ). tab ∷ (digits x ++ r)) (weights-append xs ys)
    ∙ ap (λ (r : List ℕ). tab ∷ r) (sym (append_assoc (digits x) (weights_text xs) (weights_text ys)))

-- ─── lines ───────────────────────────────────────────────────────────────────

-- a string's line, then the lines after it
pub lines_cons : (s : Str) (ss : List Str) → lines_text (s ∷ ss) ≡ string_line s ++ lines_text ss
unfolding lines_text string_line
lines_cons s ss =
    let ls : List ℕ = s.letters in
    let ws : List ℕ = weights_text s.weights in
    let r : List ℕ = lines_text ss in
    ap (λ (x : List ℕ). 83 ∷ (tab ∷ x))
    (append_assoc ls ws (feed ∷ r) ∙ (ap (λ (x : List ℕ). ls ++ x) (sym (append_assoc ws (feed ∷ []) r)) ∙ sym (append_assoc ls (ws ++ (feed ∷ [])) r)))

-- line 1, then the strings
pub sheet-lines : (k : ℕ) (ss : List Str) → sheet_text k ss ≡ head_line k ++ lines_text ss
unfolding sheet_text head_line
sheet-lines k ss = ap (λ (x : List ℕ). 75 ∷ (tab ∷ x)) (sym (append_assoc (digits k) (feed ∷ []) (lines_text ss)))

-- ─── how long ────────────────────────────────────────────────────────────────

-- a string's line has three bytes beside its letters and weights
pub line-length : (s : Str) → length (string_line s) ≡ 3 + length s.letters + length (weights_text s.weights)
unfolding string_line
line-length s =
    omega (arith, length-append s.letters (weights_text s.weights ++ (feed ∷ [])), length-append (weights_text s.weights) (feed ∷ []))

-- line 1 has three beside k
pub head_length : (k : ℕ) → length (head_line k) ≡ 3 + length (digits k)
unfolding head_line
head_length k = omega (arith, length-append (digits k) (feed ∷ []))

lines-length : (ss : List Str) → length (lines_text ss) ≡ 3 * length ss + length (letters_in ss) + length (weights_text (weights_in ss))
unfolding letters_in weights_in lines_text weights_text
lines-length [] = refl
lines-length (s ∷ ss) =
    let a = ap length (weights-append s.weights (weights_in ss)) in
    omega (
      arith,
      ap length (lines_cons s ss),
      length-append (string_line s) (lines_text ss),
      line-length s,
      lines-length ss,
      length-append s.letters (letters_in ss),
      a,
      length-append (weights_text s.weights) (weights_text (weights_in ss)),
    )

-- the length of a collection's sheet, from its tables
pub sheet-length : {c : Collection} → Judged c
    → length (write_text c) ≡ 3 + length (digits c.k) + 3 * length c.ends + length c.letters + length (weights_text c.weights)
unfolding write_text
sheet-length {c} j =
    let s = j.shape in
    let n = j.counted in
    let ss : List Str = strings c in
    let letters : length (letters_in ss) ≡ length c.letters = ap length (ap (λ (x : Collection). x.letters) (strings-joined c s n)) in
    let number : length ss ≡ length c.ends = sym (ends-length 0 ss) ∙ ap length (ap (λ (x : Collection). x.ends) (strings-joined c s n)) in
    let weights : length (weights_text (weights_in ss)) ≡ length (weights_text c.weights) =
    ap (λ (x : List ℕ). length (weights_text x)) (ap (λ (x : Collection). x.weights) (strings-joined c s n)) in
    omega (arith, ap length (sheet-lines c.k ss), length-append (head_line c.k) (lines_text ss), head_length c.k, lines-length ss)

-- a judged collection has at most as many weights as it may have letters
pub few_weights : {c : Collection} → Judged c → length c.weights ≤ most_letters
few_weights j = omega (arith, j.counted, j.shape.letters_high)
