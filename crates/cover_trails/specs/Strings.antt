-- A string by its end weights: those of its first and last k-mer.
-- Specification: 5.2.
use Rattle.std.specs.Prelude.{List, [], ◌∷◌, ℕ}

-- the weight of the first k-mer and that of the last; a string of one k-mer has the same weight at both ends
abbrev pub Ends : Type 0
Ends = ℕ × ℕ

-- the weight of the first k-mer
abbrev pub front : Ends → ℕ
front s = s.0

-- the weight of the last k-mer
abbrev pub back : Ends → ℕ
back s = s.1

-- the string turned: its weights stand the other way round
abbrev pub turned : Ends → Ends
turned s = (back s, front s)

-- all end weights: each string gives two, so that a string of one k-mer counts its weight twice
unfoldable pub weights : List Ends → List ℕ
weights [] = []
weights (s ∷ strings) = front s ∷ (back s ∷ weights strings)
