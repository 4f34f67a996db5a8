-- Inner: what the search for a handle's string finds.
use Rattle.std.specs.Prelude.{List, ℕ, ◌+◌, ◌≤◌, ◌<◌, length, take}
use Rattle.collection.specs.Kmers.{kmers}

-- string i (from 0) has the k-mer of the handle
pub record Holds (k : ℕ) (ends : List ℕ) (handle i : ℕ) : Type 0 where
  pub inside : i < length ends
  pub before : length (kmers k (take i ends)) < handle
  pub up_to : handle ≤ length (kmers k (take (i + 1) ends))
