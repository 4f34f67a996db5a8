-- Inner: what the steps of READ find at a place of a sheet. READ's promise (`sheet`, specs/Read) cites nothing of
-- this. Each is said by the sheet's parts: the line is what stands up to the next line feed, the field what stands in it up to the next tab.
use Rattle.std.specs.Prelude.{ℕ, suc, ◌+◌, Bool, true, false, ◌&&◌, List, [], ◌∷◌, map, length, drop, eqb, Option, None, Some, Result, Ok, Err}
use Rattle.lists.specs.Choose.{choose}
use Rattle.lists.specs.Limits.{most_weight}
use Rattle.lists.specs.Every.{every}
use Rattle.alphabet.specs.Letter.{is_letter}
use Rattle.collection.specs.Strings.{Str, letters_in, weights_in}
use Rattle.text.specs.Numbers.{value}
use Rattle.text.specs.Parts.{up_to, later, tab, feed}
use Rattle.text.specs.Fields.{byte_is, number_at}
use Rattle.text.specs.declared.Number.{Number}
use Rattle.sheet.specs.Sheet.{is_weight_field, is_string_line, string_of, strings_of, first_wrong, is_head, k_of}
use Rattle.sheet_lines.specs.declared.Line.{Line}
use Rattle.sheet_lines.specs.declared.Head.{Head}
use Rattle.sheet_lines.specs.declared.Totals.{Totals}

-- ─── bytes and fields ────────────────────────────────────────────────────────

-- how many letters stand in front
unfoldable pub span : List ℕ → ℕ
span [] = 0
span (b ∷ bs) = choose (is_letter b) (suc (span bs)) 0

-- the weight at a place of the sheet s: the number there, up to the next tab
abbrev pub weight_at : List ℕ → ℕ → Option Number
weight_at s at = number_at tab most_weight s at

-- ─── lines ───────────────────────────────────────────────────────────────────

-- no byte
abbrev pub is_empty : List ℕ → Bool
is_empty [] = true
is_empty (b ∷ bs) = false

-- exactly n weight fields up to the line's end, and its line feed; l is the line from i on, ls the parts after it
unfoldable pub tail_of : ℕ → ℕ → List ℕ → List (List ℕ) → Option ℕ
tail_of n i l [] = None
tail_of n i l (m ∷ ls) =
    choose (is_empty (up_to tab l) && (eqb (length (later tab l)) n && every is_weight_field (later tab l))) (Some (i + length l + 1)) None

-- the same at a place of the sheet s
abbrev pub tail_at : List ℕ → ℕ → ℕ → Option ℕ
tail_at s i n = tail_of n i (up_to feed (drop i s)) (later feed (drop i s))

-- exactly the wanted weights stand there, up to the line's end
abbrev pub fine : Option ℕ → Bool
fine (Some next) = true
fine None = false

-- a line whose feed stands at i
abbrev pub ends_at : ℕ → Option ℕ
ends_at i = Some (i + 1)

-- the weights from i to the line's end
unfoldable pub weights_at : List ℕ → ℕ → List ℕ
weights_at s i = map value (later tab (up_to feed (drop i s)))

-- `S` (83) and a tab in front
abbrev pub marked : List ℕ → Bool
marked [] = false
marked (b ∷ []) = false
marked (b ∷ (c ∷ bs)) = choose (eqb b 83) (eqb c tab) false

-- a good line of a string
abbrev pub line : ℕ → ℕ → ℕ → Line
line next letters weights = record { next = next; letters = letters; weights = weights }

-- a string's line l, which starts at i: where the next one starts, and how many letters and weights it has
unfoldable pub line_of : ℕ → ℕ → List ℕ → List (List ℕ) → Option Line
line_of k i l [] = None
line_of k i l (m ∷ ls) =
    choose (is_string_line k l)
    (Some (line (i + length l + 1) (length (string_of (later tab l)).letters) (length (string_of (later tab l)).weights))) None

-- the same at a place of the sheet s
abbrev pub line_at : ℕ → List ℕ → ℕ → Option Line
line_at k s at = line_of k at (up_to feed (drop at s)) (later feed (drop at s))

-- ─── the sheet ───────────────────────────────────────────────────────────────

-- the lines from i on
abbrev pub lines_at : List ℕ → ℕ → List (List ℕ)
lines_at s i = up_to feed (drop i s) ∷ later feed (drop i s)

-- their strings
abbrev pub strings_at : List ℕ → ℕ → List Str
strings_at s i = strings_of (lines_at s i)

-- what good lines hold
abbrev pub totals : ℕ → ℕ → ℕ → Totals
totals letters strings weights = record { letters = letters; strings = strings; weights = weights }

-- what lines hold, after n letters, m strings and w weights; or their first wrong one. Line 2 is the first string's.
unfoldable pub count_of : ℕ → ℕ → ℕ → ℕ → List (List ℕ) → Result Totals ℕ
count_of k n m w ls =
    choose (eqb (first_wrong k (m + 2) ls) 0)
    (Ok (totals (n + length (letters_in (strings_of ls))) (m + length (strings_of ls)) (w + length (weights_in (strings_of ls)))))
    (Err (first_wrong k (m + 2) ls))

-- a good line 1
abbrev pub head : ℕ → ℕ → Head
head k next = record { k = k; next = next }

-- line 1, l, and the parts after it, ls: k, and where line 2 starts
unfoldable pub head_of : List ℕ → List (List ℕ) → Option Head
head_of l ls = choose (is_head l ls) (Some (head (k_of (later tab l)) (length l + 1))) None

-- line 1 of the sheet s
abbrev pub head_in : List ℕ → Option Head
head_in s = head_of (up_to feed s) (later feed s)

-- line 1 where k has been read and its line feed should stand at i
abbrev pub head_end : List ℕ → ℕ → ℕ → Option Head
head_end s k i = choose (byte_is s i feed) (Some (head k (i + 1))) None
