-- Inner: what the functions of WRITE store: lines with their line feeds. WRITE's promise (`sheet`, specs/Write) cites nothing of this.
use Rattle.std.specs.Prelude.{List, [], ◌∷◌, ◌++◌, ℕ, ◌-◌, take, drop}
use Rattle.collection.specs.Strings.{Str}
use Rattle.text.specs.Numbers.{digits}
use Rattle.text.specs.Parts.{tab, feed}
use Rattle.sheet.specs.Sheet.{string}
use Rattle.sheet.specs.Text.{weights_text}

-- line 1: `K` (75), tab, k
unfoldable pub head_line : ℕ → List ℕ
head_line k = 75 ∷ (tab ∷ (digits k ++ (feed ∷ [])))

-- the string of the letters from b to e and the n weights from entry w on
abbrev pub cut_string : List ℕ → ℕ → ℕ → List ℕ → ℕ → ℕ → Str
cut_string letters b e weights w n = string (take (e - b) (drop b letters)) (take n (drop w weights))

-- a string's line: `S` (83), tab, letters, weights
unfoldable pub string_line : Str → List ℕ
string_line s = 83 ∷ (tab ∷ (s.letters ++ (weights_text s.weights ++ (feed ∷ []))))
