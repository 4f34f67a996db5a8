-- Inner: the numbers as they are counted, and tables that hold every sheet.
use Rattle.std.specs.Prelude.{List, ℕ, ◌+◌, ◌-◌, ◌≤◌, length}
use Rattle.lists.specs.Count.{sum}
use Rattle.runs.specs.Runs.{run_count}
use Rattle.summary_counts.specs.Counts.{distinct, bits_of}
use Rattle.summary_counts.specs.Inner.{inner_from}
use Rattle.summary_text.specs.declared.Numbers.{Numbers}
use Rattle.summary.specs.Summary.{most_bytes}

-- the numbers of a collection, from ends, weights and the number of paths
unfoldable pub numbers_from : ℕ → List ℕ → List ℕ → ℕ → Numbers
numbers_from k ends weights paths =
    record {
      strings = length ends;
      kmers = length weights;
      total = sum weights;
      inner = inner_from k 0 ends weights;
      given = run_count weights;
      paths = paths;
      least = inner_from k 0 ends weights - length ends + paths;
      distinct = distinct weights;
      bits = bits_of weights;
    }

-- lengths of tables that hold every sheet of at most 8,192 bytes
pub record Ample (letters ends weights places work : ℕ) : Type 0 where
  pub letters_room : most_bytes ≤ letters
  pub ends_room : 4096 ≤ ends
  pub weights_room : 4096 ≤ weights
  pub places_room : 4096 ≤ places
  pub work_room : 65536 ≤ work
