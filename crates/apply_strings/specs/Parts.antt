-- Inner: where a string of a collection stands in its tables.
use Rattle.std.specs.Prelude.{◌≡◌, List, ℕ, ◌+◌, ◌-◌, ◌*◌, ℤ, pos, take, get_or}
use Rattle.collection_faults.specs.Faults.{last_end}
use Rattle.collection.specs.Kmers.{within}
use Rattle.cover_trails.specs.Places.{is_turned}
use Rattle.apply_strings.specs.declared.inner.Part.{Part}

-- string i, from 0, starts where the one before ends
abbrev pub start_of : List ℕ → ℕ → ℕ
start_of ends i = last_end 0 (take i ends)

-- and its first weight stands k - 1 entries earlier for each string before
abbrev pub first_of : ℕ → List ℕ → ℕ → ℕ
first_of k ends i = start_of ends i - i * (k - 1)

pub record PartOf (k : ℕ) (ends : List ℕ) (places : List ℤ) (i : ℕ) (r : Part) : Type 0 where
  pub start_is : r.start ≡ start_of ends i
  pub end_is : r.end ≡ get_or ends i 0
  pub first_is : r.first ≡ first_of k ends i
  pub last_is : r.last ≡ first_of k ends i + within k (start_of ends i) (get_or ends i 0)
  pub turned_is : r.turned ≡ is_turned (get_or places i (pos 0))
