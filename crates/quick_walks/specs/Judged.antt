-- Inner: what the walks ask of a judged index.
use Rattle.std.specs.Prelude.{true, ◌≡◌, ℕ, ◌+◌, ◌<◌, ◌≤◌, length}
use Rattle.lists.specs.Limits.{most_letters}
use Rattle.index_stretches.specs.Index.{Index, row_fits}

-- the tables of the stretches are equally long, and not too long
pub record Alike (t : Index) : Type 0 where
  pub positions_long : length t.positions ≡ length t.firsts
  pub numbers_long : length t.numbers ≡ length t.firsts
  pub few : length t.firsts ≤ most_letters

-- the row of the minimizer v can be walked over N letters
pub record Row (k N : ℕ) (t : Index) (v : ℕ) : Type 0 where
  pub alike : Alike t
  pub inside : v + 1 < length t.before
  pub fits : row_fits k N t v ≡ true
