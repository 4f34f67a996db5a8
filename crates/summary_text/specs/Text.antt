-- The lines that `tally` writes: one of a refusal, or nine of numbers.
-- Specification: 10.2.
use Rattle.collection.specs.declared.refusal.Told.{Told}
use Rattle.std.specs.Prelude.{List, [], ◌∷◌, ◌++◌, ℕ, Ok, Err, Result}
use Rattle.text.specs.Numbers.{digits}
use Rattle.text.specs.Parts.{tab, feed}
use Rattle.summary_text.specs.declared.Numbers.{Numbers}

-- a label, a tab, and a number in decimal
unfoldable pub entry : List ℕ → ℕ → List ℕ
entry label n = label ++ (tab ∷ digits n)

-- the same as a line
unfoldable pub line : List ℕ → ℕ → List ℕ
line label n = entry label n ++ (feed ∷ [])

-- lines, each of a label and a number
unfoldable pub lines : List (List ℕ × ℕ) → List ℕ
lines [] = []
lines (l ∷ ls) = line l.0 l.1 ++ lines ls

-- ─── labels, letter by letter ────────────────────────────────────────────────

-- `strings`
abbrev pub strings_label : List ℕ
strings_label = 115 ∷ 116 ∷ 114 ∷ 105 ∷ 110 ∷ 103 ∷ 115 ∷ []

-- `kmers`
abbrev pub kmers_label : List ℕ
kmers_label = 107 ∷ 109 ∷ 101 ∷ 114 ∷ 115 ∷ []

-- `total`
abbrev pub total_label : List ℕ
total_label = 116 ∷ 111 ∷ 116 ∷ 97 ∷ 108 ∷ []

-- `inner`
abbrev pub inner_label : List ℕ
inner_label = 105 ∷ 110 ∷ 110 ∷ 101 ∷ 114 ∷ []

-- `given`
abbrev pub given_label : List ℕ
given_label = 103 ∷ 105 ∷ 118 ∷ 101 ∷ 110 ∷ []

-- `paths`
abbrev pub paths_label : List ℕ
paths_label = 112 ∷ 97 ∷ 116 ∷ 104 ∷ 115 ∷ []

-- `least`
abbrev pub least_label : List ℕ
least_label = 108 ∷ 101 ∷ 97 ∷ 115 ∷ 116 ∷ []

-- `distinct`
abbrev pub distinct_label : List ℕ
distinct_label = 100 ∷ 105 ∷ 115 ∷ 116 ∷ 105 ∷ 110 ∷ 99 ∷ 116 ∷ []

-- `bits`
abbrev pub bits_label : List ℕ
bits_label = 98 ∷ 105 ∷ 116 ∷ 115 ∷ []

-- `refused`
abbrev pub refused_label : List ℕ
refused_label = 114 ∷ 101 ∷ 102 ∷ 117 ∷ 115 ∷ 101 ∷ 100 ∷ []

-- ─── the text ────────────────────────────────────────────────────────────────

-- the nine lines
unfoldable pub counted_text : Numbers → List ℕ
counted_text n =
    lines (
    (strings_label, n.strings)
    ∷ (kmers_label, n.kmers)
    ∷ (total_label, n.total)
    ∷ (inner_label, n.inner)
    ∷ (given_label, n.given)
    ∷ (paths_label, n.paths)
    ∷ (least_label, n.least)
    ∷ (distinct_label, n.distinct)
    ∷ (bits_label, n.bits)
    ∷ []
    )

-- one line: `refused`, number and place, parted by tabs
unfoldable pub refused_text : ℕ → ℕ → List ℕ
refused_text number place = entry refused_label number ++ line [] place

-- what is written of a summary: its numbers, or the number and the place that are told of a refusal, whichever they are
unfoldable pub text_for : Result Numbers Told → List ℕ
text_for (Ok numbers) = counted_text numbers
text_for (Err t) = refused_text t.number t.place
