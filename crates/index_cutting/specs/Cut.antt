-- Inner: stretches as four tables hold them, which are first handles, positions, numbers of k-mers, and minimizers.
use Rattle.std.specs.Prelude.{◌≡◌, List, map, ℕ, ◌+◌, ◌≤◌, length}
use Rattle.lists.specs.Fill.{put}
use Rattle.index_stretches.specs.Stretches.{Stretch}

-- each of four tables has room for `count` entries from entry o on
pub record Room4 (o count : ℕ) (firsts positions numbers keys : List ℕ) : Type 0 where
  pub firsts_room : o + count ≤ length firsts
  pub positions_room : o + count ≤ length positions
  pub numbers_room : o + count ≤ length numbers
  pub keys_room : o + count ≤ length keys

-- The tables hold the stretches ss from entry o on, and are else as they were; `q a` is the minimizer of the k-mer at position a. Of each table the first list
-- is the one before, the second the one after.
pub record Cut (q : ℕ → ℕ) (o : ℕ) (ss : List Stretch) (firsts firsts' positions positions' numbers numbers' keys keys' : List ℕ) : Type 0 where
  pub firsts_held : firsts' ≡ put o (map (λ s. s.first) ss) firsts
  pub positions_held : positions' ≡ put o (map (λ s. s.at) ss) positions
  pub numbers_held : numbers' ≡ put o (map (λ s. s.number) ss) numbers
  pub keys_held : keys' ≡ put o (map (λ s. q s.at) ss) keys
