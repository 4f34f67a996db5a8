-- Which bytes are a sheet, the collection it means, and its first wrong line.
-- Specification: 7.1, 7.3.
use Rattle.collection.specs.declared.refusal.Refusal.TheVariants.{Line}
use Rattle.std.specs.Prelude.{Bool, false, ◌&&◌, List, [], ◌∷◌, map, ◌≡◌, ℕ, suc, ◌+◌, ◌-◌, leb, eqb, length, Err}
use Rattle.lists.specs.Choose.{choose}
use Rattle.lists.specs.Every.{every}
use Rattle.alphabet.specs.Letter.{is_letter}
use Rattle.collection.specs.Judge.{k_verdict}
use Rattle.collection_faults.specs.Faults.{is_weight}
use Rattle.collection.specs.Strings.{Str}
use Rattle.collection.specs.Verdict.{and_then, at_place, Verdict, good}
use Rattle.text.specs.Numbers.{is_number, value}
use Rattle.text.specs.Parts.{up_to, later, tab, feed}

-- ─── a line, without its line feed ───────────────────────────────────────────

-- a field that is one given byte
abbrev pub is_mark : ℕ → List ℕ → Bool
is_mark mark [] = false
is_mark mark (b ∷ []) = eqb b mark
is_mark mark (b ∷ (c ∷ bs)) = false

-- the fields behind `K`: k in one or two digits
abbrev pub is_k : List (List ℕ) → Bool
is_k [] = false
is_k (f ∷ []) = is_number f && leb (length f) 2
is_k (f ∷ (g ∷ fs)) = false

-- line 1: `K` (75), tab, k
unfoldable pub is_k_line : List ℕ → Bool
is_k_line l = is_mark 75 (up_to tab l) && is_k (later tab l)

-- a decimal that is a weight
unfoldable pub is_weight_field : List ℕ → Bool
is_weight_field f = is_number f && is_weight (value f)

-- the fields behind `S`: at least k letters, all A C G T, then exactly one weight for each k-mer, each in range
unfoldable pub is_string : ℕ → List (List ℕ) → Bool
is_string k [] = false
is_string k (f ∷ fs) = (leb k (length f) && every is_letter f) && (eqb (length fs) (length f + 1 - k) && every is_weight_field fs)

-- a further line: `S` (83), tab, letters, then a tab and a decimal per weight
unfoldable pub is_string_line : ℕ → List ℕ → Bool
is_string_line k l = is_mark 83 (up_to tab l) && is_string k (later tab l)

-- ─── what a sheet means ──────────────────────────────────────────────────────

-- a string with its weights
abbrev pub string : List ℕ → List ℕ → Str
string letters weights = record { letters = letters; weights = weights }

-- the string that the fields behind `S` give
abbrev pub string_of : List (List ℕ) → Str
string_of [] = string [] []
string_of (f ∷ fs) = string f (map value fs)

-- the strings of lines; the last part is what stands behind the last line feed, no line
unfoldable pub strings_of : List (List ℕ) → List Str
strings_of [] = []
strings_of (l ∷ []) = []
strings_of (l ∷ (m ∷ ls)) = string_of (later tab l) ∷ strings_of (m ∷ ls)

-- k, by the fields behind `K`
abbrev pub k_of : List (List ℕ) → ℕ
k_of [] = 0
k_of (f ∷ fs) = value f

-- the k of a sheet
abbrev pub sheet_k : List ℕ → ℕ
sheet_k bs = k_of (later tab (up_to feed bs))

-- its strings
abbrev pub sheet_strings : List ℕ → List Str
sheet_strings bs = strings_of (later feed bs)

-- ─── which bytes are a sheet ─────────────────────────────────────────────────

-- the number of the first wrong line, where the first of the lines has number i; 0 where none is wrong.
-- Each line ends in a line feed, so nothing may stand behind the last one.
unfoldable pub first_wrong : ℕ → ℕ → List (List ℕ) → ℕ
first_wrong k i [] = i
first_wrong k i (l ∷ []) = choose (eqb (length l) 0) 0 i
first_wrong k i (l ∷ (m ∷ ls)) = choose (is_string_line k l) (first_wrong k (suc i) (m ∷ ls)) i

-- line 1 ends in a line feed and has its form; `ls` is what stands behind the line feeds
abbrev pub is_head : List ℕ → List (List ℕ) → Bool
is_head l [] = false
is_head l (m ∷ ls) = is_k_line l

-- the form of line 1 (11), then k (2), then the first wrong later line (11)
unfoldable pub sheet_verdict : List ℕ → Verdict
sheet_verdict bs =
    and_then (choose (is_head (up_to feed bs) (later feed bs)) good (Err (Line 1)))
    (and_then (k_verdict (sheet_k bs)) (at_place Line (first_wrong (sheet_k bs) 2 (later feed bs))))

-- bytes that are a sheet, with k in range
abbrev pub Accepted : List ℕ → Type 0
Accepted bs = sheet_verdict bs ≡ good
