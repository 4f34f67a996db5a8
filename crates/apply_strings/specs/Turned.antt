-- A string turned: its letters' reverse complement, in capitals, and its weights the other way round.
-- Specification: 3.5.
use Rattle.std.specs.Prelude.{Bool, List, map, reverse, ℕ}
use Rattle.lists.specs.Choose.{choose}
use Rattle.alphabet.specs.Letter.{capital}
use Rattle.words.specs.Word.{spell, turn}
use Rattle.collection.specs.Strings.{Str}

-- the letters of the reverse complement
unfoldable pub turn_letters : List ℕ → List ℕ
turn_letters letters = map capital (turn (spell letters))

-- letters as they stand, or turned
abbrev pub letters_by : Bool → List ℕ → List ℕ
letters_by turned letters = choose turned (turn_letters letters) letters

-- a column of weights as it stands, or turned
abbrev pub column_by : Bool → List ℕ → List ℕ
column_by turned weights = choose turned (reverse weights) weights

-- a string turned
abbrev pub turn_str : Str → Str
turn_str s = record { letters = turn_letters s.letters; weights = reverse s.weights }
