-- Inner: what the functions of READ that fill the tables ask: judged lines, and room for what they hold.
use Rattle.std.specs.Prelude.{ℕ, ◌≤◌, ◌≡◌, List, length}
use Rattle.lists.specs.Limits.{most_letters}
use Rattle.collection.specs.Strings.{letters_in, weights_in}
use Rattle.sheet.specs.Sheet.{first_wrong}
use Rattle.sheet_lines.specs.Cursor.{lines_at, strings_at}

-- the lines from `at` on are good and not too large for tables of these lengths
pub record Fits (k : ℕ) (s : List ℕ) (at letters ends weights : ℕ) : Type 0 where
  pub inside : at ≤ length s
  pub lines : first_wrong k 2 (lines_at s at) ≡ 0
  pub small : length (letters_in (strings_at s at)) ≤ most_letters
  pub letters_room : length (letters_in (strings_at s at)) ≤ letters
  pub ends_room : length (strings_at s at) ≤ ends
  pub weights_room : length (weights_in (strings_at s at)) ≤ weights
