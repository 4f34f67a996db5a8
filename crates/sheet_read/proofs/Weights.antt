-- The weights from a place to the end of a judged line, one by one. Assumes nothing.
use mathlib.Core.Path.{◌≡◌, refl, sym, ap, ◌∙◌}
use mathlib.Core.Bool.{Bool, true, false, ◌&&◌}
use mathlib.Core.List.{List, [], ◌∷◌, ◌++◌, append_assoc, append-nil, map}
use Rattle.std.specs.Prelude.{Option, None, Some}
use Prim.Native.Nat.{ℕ, ◌+◌, ◌-◌, ◌<◌, ◌≤◌}
use native.Mathlib.Omega.{arith}
use borrow.Author.Tests.{eqb-true}
use lib.Dec.{eqb}
use lib.ListN.{length, drop, take, set, get_or, length-map}
use lib.Seq.{take_all, take-suc-set, drop-drop}
use borrow.Rule.Slice.PartMut.{put_mid}
use native.Mathlib.Numerals.{add-one}
use Rattle.lists.specs.Fill.{put}
use Rattle.lists.specs.Choose.{choose}
use Rattle.lists.specs.Every.{every}
use Rattle.lists.proofs.Refuted.{never}
use Rattle.text.specs.Numbers.{value}
use Rattle.text.specs.Parts.{up_to, later, tab, feed}
use Rattle.sheet.specs.Sheet.{is_weight_field}
use Rattle.text.specs.Fields.{field, number, byte_is}
use Rattle.sheet_lines.specs.Cursor.{weight_at, tail_of, tail_at, fine, weights_at, is_empty, ends_at}
use Rattle.text.proofs.Tests.{both, empty}
use Rattle.text.proofs.Parts.{up_next, inside_part}
use Rattle.text.proofs.Bytes.{byte_here}
use Rattle.sheet_lines.proofs.Tails.{weight_good, after_weight, tail_ended, tail_unended}

tab-later : (b : ℕ) (l : List ℕ) → b ≡ tab → later tab (b ∷ l) ≡ up_to tab l ∷ later tab l
unfolding later
tab-later b l h = rw h

-- the weight read at a tab is the first of those to the line's end
pub weights_next : (s : List ℕ) (i v next : ℕ) → byte_is s i tab ≡ true → weight_at s (i + 1) ≡ Some (number v next) → weights_at s i ≡ v ∷ weights_at s next
unfolding weights_at field
weights_next s i v next h w =
    let b = byte_here s i tab h in
    let g = weight_good _ _ v next w in
    let l : List ℕ = up_to feed (drop (i + 1) s) in
    let n : ℕ = length (up_to tab l) in
    let p : up_to feed (drop next s) ≡ drop n l = (after_weight s (i + 1) v next w).0 in
    let q : later tab (drop n l) ≡ later tab l = (inside_part tab n l (omega arith)).1 in
    let y = b.1 in
    let a : up_to feed (drop i s) ≡ get_or s i 0 ∷ l = up_next feed s i b.0 (λ e. omega arith) in
    let c : later tab (up_to feed (drop i s)) ≡ up_to tab l ∷ later tab l = ap (later tab) a ∙ tab-later _ l b.1 in
    ap (map value) c ∙ (λ x. sym g.2 x ∷ map value ((sym q ∙ ap (later tab) (sym p)) x))

-- a fine line has as many fields more as weights are wanted
fine_fields : (n i : ℕ) (l : List ℕ) (ms : List (List ℕ)) → fine (tail_of n i l ms) ≡ true → length (later tab l) ≡ n
unfolding tail_of
fine_fields n i l [] h = never h
fine_fields n i l (m ∷ ms) h = go (is_empty (up_to tab l) && (eqb (length (later tab l)) n && every is_weight_field (later tab l))) refl h where
  go : (t : Bool) → (is_empty (up_to tab l) && (eqb (length (later tab l)) n && every is_weight_field (later tab l))) ≡ t
      → fine (choose t (Some (i + length l + 1)) None) ≡ true → length (later tab l) ≡ n
  go true e r = eqb-true _ _ (both (eqb (length (later tab l)) n) _ (both (is_empty (up_to tab l)) _ e).1).0
  go false e r = never r

-- as many weights are left as are wanted
pub fine_count : (s : List ℕ) (i n : ℕ) → fine (tail_at s i n) ≡ true → length (weights_at s i) ≡ n
unfolding weights_at
fine_count s i n h = length-map (later tab (up_to feed (drop i s))) value ∙ fine_fields n i _ _ h

-- none where none is wanted
pub weights-none : (s : List ℕ) (i : ℕ) → fine (tail_at s i 0) ≡ true → weights_at s i ≡ []
weights-none s i h = empty (weights_at s i) (fine_count s i 0 h)

-- a fine line is not wrong
pub not_fine : {t : Option ℕ} → t ≡ None → fine t ≡ true → ⊥
not_fine e h = never (sym (ap fine e) ∙ h)

-- a fine line with no weight wanted is at its line feed
pub tail_fine : (s : List ℕ) (i : ℕ) → fine (tail_at s i 0) ≡ true → tail_at s i 0 ≡ ends_at i
tail_fine s i h = go (byte_is s i feed) refl where
  go : (t : Bool) → byte_is s i feed ≡ t → tail_at s i 0 ≡ ends_at i
  go true e = tail_ended s i e
  go false e = absurd (not_fine (tail_unended s i e) h)

-- ─── a part of a table that takes the weights ────────────────────────────────

-- one weight stored
pub store_weight : (table : List ℕ) (j : ℕ) {v : ℕ} {left left' ws : List ℕ} → j < length table → left ≡ v ∷ left' → take j table ++ left ≡ ws
    → take (j + 1) (set table j v) ++ left' ≡ ws
store_weight table j {v} {left} {left'} {ws} l e h =
    let a : take (j + 1) (set table j v) ≡ take j table ++ (v ∷ []) = rw (add-one, take-suc-set) refl in
    ap (λ (x : List ℕ). x ++ left') a ∙ (append_assoc (take j table) (v ∷ []) left' ∙ (ap (λ (x : List ℕ). take j table ++ x) (sym e) ∙ h))

-- all stored, from o on in the whole table
pub stored_weights : (o n j : ℕ) (whole table : List ℕ) {ws left : List ℕ} → length table ≡ n → n ≤ j → left ≡ [] → take j table ++ left ≡ ws
    → put_mid o (o + n - o) whole table ≡ put o ws whole
stored_weights o n j whole table {ws} {left} size l e h =
    let a : table ≡ take j table = sym (take_all j table (omega arith)) in
    let b : table ≡ ws = a ∙ (sym (append-nil (take j table)) ∙ (ap (λ (x : List ℕ). take j table ++ x) (sym e) ∙ h)) in
    let k : o + n - o ≡ n = omega arith in
    let d : drop (o + n - o) (drop o whole) ≡ drop (o + length table) whole = drop-drop (o + n - o) o whole ∙ ap (λ (x : ℕ). drop x whole) (omega arith) in
    (λ i. take o whole ++ (table ++ d i)) ∙ ap (λ (x : List ℕ). put o x whole) b
