-- Inner: bytes stored in a lent table, as the functions of this room and of those that write text promise it.
use Rattle.std.specs.Prelude.{List, ◌≡◌, ℕ, ◌+◌, length}
use Rattle.lists.specs.Fill.{put}

-- bytes stored in a table from `at` on: where they end, and what the table is afterwards
abbrev pub Stores : ℕ → List ℕ → List ℕ → ℕ → List ℕ → Type 0
Stores at bytes table end table' = (end ≡ at + length bytes) × (table' ≡ put at bytes table)
