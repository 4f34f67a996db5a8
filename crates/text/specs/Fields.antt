-- Inner: what stands at a place of a text: one byte, or a field with a number. A field ends at its separator or with its line.
use Rattle.std.specs.Prelude.{Bool, true, false, ◌&&◌, List, Option, None, Some, ℕ, ◌+◌, leb, ltb, eqb, length, drop, get_or}
use Rattle.lists.specs.Choose.{choose}
use Rattle.text.specs.Numbers.{is_number, value}
use Rattle.text.specs.Parts.{up_to, feed}
use Rattle.text.specs.declared.Number.{Number}

-- the byte b stands at i
abbrev pub byte_is : List ℕ → ℕ → ℕ → Bool
byte_is s i b = choose (ltb i (length s)) (eqb (get_or s i 0) b) false

-- a byte that ends a field: the separator, or the line feed
abbrev pub is_end : ℕ → ℕ → Bool
is_end sep b = choose (eqb b sep) true (eqb b feed)

-- the field in front
unfoldable pub field : ℕ → List ℕ → List ℕ
field sep r = up_to sep (up_to feed r)

-- a number from 1 to `most`
abbrev pub in_range : ℕ → ℕ → Bool
in_range most v = leb 1 v && leb v most

-- a number that is there: its value, and where its field ends
abbrev pub number : ℕ → ℕ → Number
number value next = record { value = value; next = next }

-- a number of the value v that ends at i
abbrev pub ended_at : ℕ → ℕ → ℕ → Option Number
ended_at most v i = choose (in_range most v) (Some (number v i)) None

-- the same where the byte b stands behind it
abbrev pub number_end : ℕ → ℕ → ℕ → ℕ → ℕ → Option Number
number_end sep most b v i = choose (is_end sep b) (ended_at most v i) None

-- the number from 1 to `most` whose field is f and starts at i
unfoldable pub number_of : ℕ → ℕ → List ℕ → Option Number
number_of most i f = choose (is_number f && in_range most (value f)) (Some (number (value f) (i + length f))) None

-- the number at a place of the text s, up to the separator
abbrev pub number_at : ℕ → ℕ → List ℕ → ℕ → Option Number
number_at sep most s at = number_of most at (field sep (drop at s))
