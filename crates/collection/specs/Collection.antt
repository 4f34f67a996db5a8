-- A collection as one value: k and its tables. What reads no weight takes the spelling of a collection, so that calls that are lent no weights cite it too.
-- Specification: 3.1.
use Rattle.std.specs.Prelude.{List, ℕ}

-- k, the letters of all strings end to end, and where each string ends
pub record Spelling : Type 0 where
  pub k : ℕ
  pub letters : List ℕ
  pub ends : List ℕ

abbrev pub spelling : ℕ → List ℕ → List ℕ → Spelling
spelling k letters ends = record { k = k; letters = letters; ends = ends }

-- and the weights of all k-mers
pub record Collection : Type 0 where
  pub k : ℕ
  pub letters : List ℕ
  pub ends : List ℕ
  pub weights : List ℕ

abbrev pub collection : ℕ → List ℕ → List ℕ → List ℕ → Collection
collection k letters ends weights = record { k = k; letters = letters; ends = ends; weights = weights }

abbrev pub spelling_of : Collection → Spelling
spelling_of c = spelling c.k c.letters c.ends
