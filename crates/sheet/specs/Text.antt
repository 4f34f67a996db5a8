-- How a collection is written as a sheet.
-- Specification: 7.1, 9.2.
use Rattle.std.specs.Prelude.{List, [], ◌∷◌, ◌++◌, ℕ}
use Rattle.collection.specs.Collection.{Collection}
use Rattle.collection.specs.Strings.{Str, strings}
use Rattle.text.specs.Numbers.{digits}
use Rattle.text.specs.Parts.{tab, feed}

-- a tab and a decimal per weight
unfoldable pub weights_text : List ℕ → List ℕ
weights_text [] = []
weights_text (w ∷ ws) = tab ∷ (digits w ++ weights_text ws)

-- a string's line, without its line feed: `S` (83), tab, letters, weights
abbrev pub string_text : Str → List ℕ
string_text s = 83 ∷ (tab ∷ (s.letters ++ weights_text s.weights))

-- the lines of strings, each with its line feed
unfoldable pub lines_text : List Str → List ℕ
lines_text [] = []
lines_text (s ∷ ss) = string_text s ++ (feed ∷ lines_text ss)

-- the sheet of a k and strings: `K` (75), tab, k, then the lines
unfoldable pub sheet_text : ℕ → List Str → List ℕ
sheet_text k ss = (75 ∷ (tab ∷ digits k)) ++ (feed ∷ lines_text ss)

-- the sheet of a collection
unfoldable pub write_text : Collection → List ℕ
write_text c = sheet_text c.k (strings c)
