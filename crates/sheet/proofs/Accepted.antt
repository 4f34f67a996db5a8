-- What accepted bytes are: the text of the k and the strings that they mean. Line by line, by `join_parts`. Assumes nothing.
use mathlib.Core.Path.{◌≡◌, refl, sym, ap, ◌∙◌}
use mathlib.Core.Bool.{Bool, true, false, ◌&&◌}
use mathlib.Core.List.{List, [], ◌∷◌, ◌++◌, map, append-nil}
use Prim.Native.Nat.{ℕ, suc, ◌+◌, ◌-◌}
use native.Mathlib.Omega.{arith}
use borrow.Author.Tests.{eqb-true, leb-true}
use lib.Dec.{leb, eqb}
use lib.ListN.{length, length-map}
use Rattle.collection.specs.Verdict.{good}
use Rattle.collection.specs.declared.refusal.Refusal.TheVariants.{Line}
use Rattle.lists.specs.Choose.{choose}
use Rattle.alphabet.specs.Letter.{is_letter}
use Rattle.collection.specs.Judge.{k_verdict}
use Rattle.collection_faults.specs.Faults.{is_weight}
use Rattle.collection.proofs.Strings.{Whole}
use Rattle.collection.proofs.Verdicts.{both_good, place_good, test_good}
use Rattle.lists.specs.Every.{All, every}
use Rattle.lists.proofs.Every.{and_both}
use Rattle.lists.proofs.Refuted.{never}
use Rattle.text.specs.Numbers.{is_number, value, digits}
use Rattle.text.specs.Parts.{up_to, later, tab, feed}
use Rattle.collection.specs.Strings.{Str}
use Rattle.sheet.specs.Sheet.{
  is_mark,
  is_k,
  is_k_line,
  is_weight_field,
  is_string,
  is_string_line,
  string_of,
  strings_of,
  first_wrong,
  k_of,
  sheet_k,
  sheet_strings,
  is_head,
  sheet_verdict,
  Accepted,
}
use Rattle.sheet.specs.Text.{weights_text, string_text, lines_text, sheet_text}
use Rattle.text.proofs.Tests.{both, empty}
use Rattle.text.proofs.Parts.{joined, join_parts}
use Rattle.text.proofs.Numbers.{digits_value}

-- ─── its text ────────────────────────────────────────────────────────────────

-- a mark is that one byte
pub mark_is : (m : ℕ) (f : List ℕ) → is_mark m f ≡ true → f ≡ m ∷ []
mark_is m [] h = never h
mark_is m (b ∷ []) h = ap (λ (x : ℕ). x ∷ []) (eqb-true b m h)
mark_is m (b ∷ (c ∷ f)) h = never h

-- good weight fields are what their values are written as
weights_text_lem : (fs : List (List ℕ)) → every is_weight_field fs ≡ true → weights_text (map value fs) ≡ joined tab fs
unfolding every is_weight_field weights_text joined
weights_text_lem [] h = refl
weights_text_lem (f ∷ fs) h =
    let t = both (is_weight_field f) _ h in
    let u = both (is_number f) _ t.0 in
    rw (digits_value f u.0, weights_text_lem fs t.1)

-- so are the fields behind `S`
fields_text : (k : ℕ) (fs : List (List ℕ)) → is_string k fs ≡ true → joined tab fs ≡ tab ∷ ((string_of fs).letters ++ weights_text (string_of fs).weights)
unfolding is_string joined
fields_text k [] h = never h
fields_text k (f ∷ fs) h =
    let t = both (leb k (length f) && every is_letter f) _ h in
    let u = both (eqb (length fs) (length f + 1 - k)) _ t.1 in
    rw (weights_text_lem fs u.1)

-- a good line is what its string is written as
line_text : (k : ℕ) (l : List ℕ) → is_string_line k l ≡ true → string_text (string_of (later tab l)) ≡ l
unfolding is_string_line
line_text k l h =
    let t = both (is_mark 83 (up_to tab l)) _ h in
    let a : up_to tab l ≡ 83 ∷ [] = mark_is 83 _ t.0 in
    let b = fields_text k (later tab l) t.1 in
    sym (ap (λ (r : List ℕ). 83 ∷ r) b) ∙ (ap (λ (m : List ℕ). m ++ joined tab (later tab l)) (sym a) ∙ join_parts tab l)

-- none is wrong: this one is not, and none after it
pub choose-zero : (t : Bool) (v i : ℕ) → choose t v (suc i) ≡ 0 → (t ≡ true) × (v ≡ 0)
choose-zero true v i h = (refl, h)
choose-zero false v i h = absurd (omega arith)

-- lines none of which is wrong are what their strings are written as
lines_text_lem : (k i : ℕ) (ls : List (List ℕ)) → first_wrong k (suc i) ls ≡ 0 → joined feed ls ≡ feed ∷ lines_text (strings_of ls)
unfolding first_wrong joined lines_text strings_of
lines_text_lem k i [] h = absurd (omega arith)
lines_text_lem k i (l ∷ []) h = rw (empty l (eqb-true _ _ (choose-zero (eqb (length l) 0) 0 i h).0))
lines_text_lem k i (l ∷ (m ∷ ls)) h =
    let t = choose-zero (is_string_line k l) _ i h in
    let a = line_text k l t.0 in
    let b = lines_text_lem k (suc i) (m ∷ ls) t.1 in
    ap (λ (x : List ℕ). feed ∷ (l ++ x)) b ∙ ap (λ (x : List ℕ). feed ∷ (x ++ (feed ∷ lines_text (strings_of (m ∷ ls))))) (sym a)

k_fields : (fs : List (List ℕ)) → is_k fs ≡ true → joined tab fs ≡ tab ∷ digits (k_of fs)
unfolding joined
k_fields [] h = never h
k_fields (f ∷ []) h =
    let t = both (is_number f) _ h in
    rw (digits_value f t.0, append-nil)
k_fields (f ∷ (g ∷ fs)) h = never h

-- a good line 1 is what its k is written as
k_text : (l : List ℕ) → is_k_line l ≡ true → 75 ∷ (tab ∷ digits (k_of (later tab l))) ≡ l
unfolding is_k_line
k_text l h =
    let t = both (is_mark 75 (up_to tab l)) _ h in
    let a : up_to tab l ≡ 75 ∷ [] = mark_is 75 _ t.0 in
    let b = k_fields (later tab l) t.1 in
    sym (ap (λ (r : List ℕ). 75 ∷ r) b) ∙ (ap (λ (m : List ℕ). m ++ joined tab (later tab l)) (sym a) ∙ join_parts tab l)

head_k : (l : List ℕ) (ls : List (List ℕ)) → is_head l ls ≡ true → is_k_line l ≡ true
head_k l [] h = never h
head_k l (m ∷ ls) h = h

-- what an accepted sheet keeps to
pub record Sheet (bs : List ℕ) : Type 0 where
  pub head : is_k_line (up_to feed bs) ≡ true
  pub range : k_verdict (sheet_k bs) ≡ good
  pub lines : first_wrong (sheet_k bs) 2 (later feed bs) ≡ 0

-- none of the three refusals is given
pub sheet_good : (bs : List ℕ) → Accepted bs → Sheet bs
unfolding sheet_verdict
sheet_good bs h =
    let a = both_good _ _ h in
    let b = both_good _ _ a.1 in
    record {
      head =
          head_k (up_to feed bs) (later feed bs) (test_good (is_head (up_to feed bs) (later feed bs)) (Line 1) good a.0).0;
      range = b.0;
      lines = place_good Line _ b.1;
    }

-- an accepted sheet is the text of its k and its strings
pub accepted_text : (bs : List ℕ) → Accepted bs → sheet_text (sheet_k bs) (sheet_strings bs) ≡ bs
unfolding sheet_text
accepted_text bs h =
    let s = sheet_good bs h in
    let a : 75 ∷ (tab ∷ digits (sheet_k bs)) ≡ up_to feed bs = k_text (up_to feed bs) s.head in
    let b : joined feed (later feed bs) ≡ feed ∷ lines_text (sheet_strings bs) = lines_text_lem (sheet_k bs) 1 (later feed bs) s.lines in
    ap (λ (x : List ℕ). x ++ (feed ∷ lines_text (sheet_strings bs))) a ∙ (ap (λ (x : List ℕ). up_to feed bs ++ x) (sym b) ∙ join_parts feed bs)

-- ─── its strings ─────────────────────────────────────────────────────────────

-- a string that a sheet can hold: at least k letters, all A C G T, and a weight in range for each k-mer
pub record Holds (k : ℕ) (s : Str) : Type 0 where
  pub whole : Whole k s
  pub letters : every is_letter s.letters ≡ true
  pub weights : every is_weight s.weights ≡ true

values_weigh : (fs : List (List ℕ)) → every is_weight_field fs ≡ true → every is_weight (map value fs) ≡ true
unfolding every is_weight_field
values_weigh [] h = refl
values_weigh (f ∷ fs) h =
    let t = both (is_weight_field f) _ h in
    and_both (both (is_number f) _ t.0).1 (values_weigh fs t.1)

fields_hold : (k : ℕ) (fs : List (List ℕ)) → is_string k fs ≡ true → Holds k (string_of fs)
unfolding is_string
fields_hold k [] h = never h
fields_hold k (f ∷ fs) h =
    let t = both (leb k (length f) && every is_letter f) _ h in
    let a = both (leb k (length f)) _ t.0 in
    let u = both (eqb (length fs) (length f + 1 - k)) _ t.1 in
    record {
      whole = record { long = leb-true k _ a.0; counted = length-map fs value ∙ eqb-true _ _ u.0 };
      letters = a.1;
      weights = values_weigh fs u.1;
    }

lines_hold : (k i : ℕ) (ls : List (List ℕ)) → first_wrong k (suc i) ls ≡ 0 → All (Holds k) (strings_of ls)
unfolding first_wrong strings_of is_string_line
lines_hold k i [] h = tt
lines_hold k i (l ∷ []) h = tt
lines_hold k i (l ∷ (m ∷ ls)) h =
    let t = choose-zero (is_string_line k l) _ i h in
    (fields_hold k (later tab l) (both (is_mark 83 (up_to tab l)) _ t.0).1, lines_hold k (suc i) (m ∷ ls) t.1)

-- each string of an accepted sheet is such a string
pub accepted_holds : (bs : List ℕ) → Accepted bs → All (Holds (sheet_k bs)) (sheet_strings bs)
accepted_holds bs h = lines_hold (sheet_k bs) 1 (later feed bs) (sheet_good bs h).lines
