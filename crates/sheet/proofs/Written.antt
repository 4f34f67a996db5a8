-- The text of a k in range and of strings that a sheet can hold is accepted, and means them. Assumes nothing.
use mathlib.Core.Path.{◌≡◌, refl, sym, ap, ◌∙◌}
use mathlib.Core.Bool.{true, false, not}
use mathlib.Core.List.{List, [], ◌∷◌, ◌++◌, map, append-nil}
use Prim.Native.Nat.{ℕ, suc, ◌<◌}
use native.Mathlib.Omega.{arith}
use borrow.Author.Tests.{eq-eqb, le-leb}
use lib.Dec.{eqb}
use lib.ListN.{length-map}
use Rattle.alphabet.specs.Letter.{is_letter}
use Rattle.collection.specs.Judge.{k_verdict}
use Rattle.collection_faults.specs.Faults.{is_weight}
use Rattle.collection.specs.Verdict.{and_then, at_place, good}
use Rattle.collection.proofs.Judged.{k_good}
use Rattle.lists.specs.Every.{All, every}
use Rattle.lists.proofs.Every.{and_both}
use Rattle.lists.proofs.Refuted.{never}
use Rattle.text.specs.Numbers.{is_digit, value, digits}
use Rattle.text.specs.Parts.{up_to, later, tab, feed}
use Rattle.collection.specs.Strings.{Str}
use Rattle.sheet.specs.Sheet.{
  is_mark,
  is_k,
  is_k_line,
  is_weight_field,
  is_string,
  is_string_line,
  string,
  string_of,
  strings_of,
  first_wrong,
  k_of,
  sheet_k,
  sheet_strings,
  is_head,
  sheet_verdict,
  Accepted,
}
use Rattle.sheet.specs.Text.{weights_text, string_text, lines_text, sheet_text}
use Rattle.text.proofs.Tests.{both, every_more, every_append, digit_range, unequal}
use Rattle.sheet.proofs.Accepted.{Holds}
use Rattle.text.proofs.Parts.{Free, up_last, later_last, up_first, later_first}
use Rattle.text.proofs.Numbers.{value-digits, number_digits, all_digits}
use Rattle.text.proofs.Digits.{digits_short}

-- ─── no separator stands in a letter or a digit ──────────────────────────────

-- a byte that is no letter is not this letter
clear_letter : (c b : ℕ) → (is_letter c ≡ false) → is_letter b ≡ true → not (eqb b c) ≡ true
clear_letter c b p q = unequal b c (λ s. never (sym p ∙ (ap is_letter (sym s) ∙ q)))

-- a byte below `0` is not this digit
pub clear_digit : (c b : ℕ) → c < 48 → is_digit b ≡ true → not (eqb b c) ≡ true
clear_digit c b p q =
    let d = digit_range b q in
    unequal b c (λ e. omega arith)

free_letters : (c : ℕ) (ls : List ℕ) → is_letter c ≡ false → every is_letter ls ≡ true → Free c ls
free_letters c ls p h = every_more _ _ (λ b q. clear_letter c b p q) ls h

free_digits : (c n : ℕ) → c < 48 → Free c (digits n)
free_digits c n p = every_more _ _ (λ b q. clear_digit c b p q) (digits n) (all_digits n)

-- one byte more
pub free_next : (c b : ℕ) (bs : List ℕ) → (b ≡ c → ⊥) → Free c bs → Free c (b ∷ bs)
unfolding every
free_next c b bs p h = and_both (unequal b c p) h

free_none : (c : ℕ) → Free c []
unfolding every
free_none c = refl

weights_free : (ws : List ℕ) → Free feed (weights_text ws)
unfolding weights_text
weights_free [] = free_none feed
weights_free (w ∷ ws) =
    free_next feed tab _ (λ e. omega arith) (every_append _ (digits w) (weights_text ws) (free_digits feed w (omega arith)) (weights_free ws))

-- ─── a written line ──────────────────────────────────────────────────────────

-- letters or digits before the weights end where the weights begin
field_first : (f ws : List ℕ) → Free tab f → up_to tab (f ++ weights_text ws) ≡ f
unfolding weights_text
field_first f [] h = ap (up_to tab) (append-nil f) ∙ up_last tab f h
field_first f (w ∷ ws) h = up_first tab f _ h

field-later : (f ws : List ℕ) → Free tab f → later tab (f ++ weights_text ws) ≡ map digits ws
unfolding weights_text
field-later f [] h = ap (later tab) (append-nil f) ∙ later_last tab f h
field-later f (w ∷ ws) h =
    let a = field_first (digits w) ws (free_digits tab w (omega arith)) in
    let b = field-later (digits w) ws (free_digits tab w (omega arith)) in
    later_first tab f _ h ∙ (λ i. a i ∷ b i)

values : (ws : List ℕ) → map value (map digits ws) ≡ ws
values [] = refl
values (w ∷ ws) = λ i. value-digits w i ∷ values ws i

good_weights : (ws : List ℕ) → every is_weight ws ≡ true → every is_weight_field (map digits ws) ≡ true
unfolding every is_weight_field
good_weights [] h = refl
good_weights (w ∷ ws) h =
    let t = both (is_weight w) _ h in
    and_both (and_both (number_digits w) (ap is_weight (value-digits w) ∙ t.0)) (good_weights ws t.1)

-- a line's mark alone is its first field
pub mark_free : (m : ℕ) → (m ≡ tab → ⊥) → Free tab (m ∷ [])
mark_free m h = free_next tab m [] h (free_none tab)

-- the fields behind `S`
fields_of : (k : ℕ) (s : Str) → Holds k s → later tab (string_text s) ≡ s.letters ∷ map digits s.weights
unfolding is_letter
fields_of k s h =
    let f = free_letters tab s.letters refl h.letters in
    let a = field_first s.letters s.weights f in
    let b = field-later s.letters s.weights f in
    later_first tab (83 ∷ []) _ (mark_free 83 (λ e. omega arith)) ∙ (λ i. a i ∷ b i)

good_fields : (k : ℕ) (s : Str) → Holds k s → is_string k (s.letters ∷ map digits s.weights) ≡ true
unfolding is_string
good_fields k s h =
    and_both (and_both (le-leb k _ h.whole.long) h.letters)
    (and_both (eq-eqb _ _ (length-map s.weights digits ∙ h.whole.counted)) (good_weights s.weights h.weights))

-- the line is good, and means the string
written_line : (k : ℕ) (s : Str) → Holds k s → is_string_line k (string_text s) ≡ true
unfolding is_string_line
written_line k s h =
    and_both (ap (is_mark 83) (up_first tab (83 ∷ []) _ (mark_free 83 (λ e. omega arith)))) (ap (is_string k) (fields_of k s h) ∙ good_fields k s h)

written_string : (k : ℕ) (s : Str) → Holds k s → string_of (later tab (string_text s)) ≡ s
written_string k s h = ap string_of (fields_of k s h) ∙ ap (string s.letters) (values s.weights)

line_free : (k : ℕ) (s : Str) → Holds k s → Free feed (string_text s)
unfolding is_letter
line_free k s h =
    free_next feed 83 _ (λ e. omega arith)
    (free_next feed tab _ (λ e. omega arith) (every_append _ s.letters _ (free_letters feed s.letters refl h.letters) (weights_free s.weights)))

-- ─── the written lines ───────────────────────────────────────────────────────

-- the parts of the written lines: a text for each string, and nothing after the last line feed
abbrev texts : List Str → List (List ℕ)
texts ss = map string_text ss ++ ([] ∷ [])

lines_parts : (k : ℕ) (ss : List Str) → All (Holds k) ss → up_to feed (lines_text ss) ∷ later feed (lines_text ss) ≡ texts ss
unfolding lines_text up_to later
lines_parts k [] h = refl
lines_parts k (s ∷ ss) h =
    let f = line_free k s h.0 in
    let a = up_first feed (string_text s) (lines_text ss) f in
    let b = later_first feed (string_text s) (lines_text ss) f ∙ lines_parts k ss h.1 in
    λ i. a i ∷ b i

wrong_step : (k i : ℕ) (l m : List ℕ) (ls : List (List ℕ)) → is_string_line k l ≡ true → first_wrong k i (l ∷ (m ∷ ls)) ≡ first_wrong k (suc i) (m ∷ ls)
unfolding first_wrong
wrong_step k i l m ls h = rw h

none_wrong : (k i : ℕ) (ss : List Str) → All (Holds k) ss → first_wrong k i (texts ss) ≡ 0
unfolding first_wrong
none_wrong k i [] h = refl
none_wrong k i (s ∷ []) h = wrong_step k i (string_text s) [] [] (written_line k s h.0) ∙ none_wrong k (suc i) [] h.1
none_wrong k i (s ∷ (f ∷ ss)) h = wrong_step k i (string_text s) (string_text f) (texts ss) (written_line k s h.0) ∙ none_wrong k (suc i) (f ∷ ss) h.1

same-strings : (k : ℕ) (ss : List Str) → All (Holds k) ss → strings_of (texts ss) ≡ ss
unfolding strings_of
same-strings k [] h = refl
same-strings k (s ∷ []) h = λ i. written_string k s h.0 i ∷ same-strings k [] h.1 i
same-strings k (s ∷ (f ∷ ss)) h = λ i. written_string k s h.0 i ∷ same-strings k (f ∷ ss) h.1 i

-- ─── the written sheet ───────────────────────────────────────────────────────

module _ (k : ℕ) (ss : List Str) (range : k_verdict k ≡ good) (each : All (Holds k) ss) where
  abbrev head_text : List ℕ
  head_text = 75 ∷ (tab ∷ digits k)

  head_free : Free feed head_text
  head_free = free_next feed 75 _ (λ e. omega arith) (free_next feed tab _ (λ e. omega arith) (free_digits feed k (omega arith)))

  first_line : up_to feed (sheet_text k ss) ≡ head_text
  unfolding sheet_text
  first_line = up_first feed (75 ∷ (tab ∷ digits k)) _ head_free

  later-lines : later feed (sheet_text k ss) ≡ texts ss
  unfolding sheet_text
  later-lines = later_first feed (75 ∷ (tab ∷ digits k)) _ head_free ∙ lines_parts k ss each

  k_fields : later tab head_text ≡ digits k ∷ []
  k_fields =
      let f = free_digits tab k (omega arith) in
      let a = up_last tab (digits k) f in
      let b = later_last tab (digits k) f in
      later_first tab (75 ∷ []) _ (mark_free 75 (λ e. omega arith)) ∙ (λ i. a i ∷ b i)

  -- the sheet of k and strings has this k
  pub text_k : sheet_k (sheet_text k ss) ≡ k
  text_k = ap (λ (l : List ℕ). k_of (later tab l)) first_line ∙ (ap k_of k_fields ∙ value-digits k)

  -- and these strings
  pub text_strings : sheet_strings (sheet_text k ss) ≡ ss
  text_strings = ap strings_of later-lines ∙ same-strings k ss each

  k_form : is_k_line head_text ≡ true
  unfolding is_k_line
  k_form =
      let l = k_good k range in
      and_both (ap (is_mark 75) (up_first tab (75 ∷ []) (digits k) (mark_free 75 (λ e. omega arith))))
      (ap is_k k_fields ∙ and_both (number_digits k) (le-leb _ 2 (digits_short 1 k (omega arith))))

  head_good : is_head (up_to feed (sheet_text k ss)) (later feed (sheet_text k ss)) ≡ true
  head_good = (λ i. is_head (first_line i) (later-lines i)) ∙ shown ss where
    shown : (ss : List Str) → is_head head_text (texts ss) ≡ true
    shown [] = k_form
    shown (s ∷ ss) = k_form

  -- and it is accepted
  pub text_accepted : Accepted (sheet_text k ss)
  unfolding sheet_verdict and_then at_place
  text_accepted =
      let a : first_wrong (sheet_k (sheet_text k ss)) 2 (later feed (sheet_text k ss)) ≡ 0 =
      (λ i. first_wrong (text_k i) 2 (later-lines i)) ∙ none_wrong k 2 ss each in
      rw (head_good, a, text_k, range)
