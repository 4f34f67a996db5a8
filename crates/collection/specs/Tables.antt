-- The tables that are lent for a collection, and what a call leaves in them.
-- Specification: 8.4, 8.5.
use Rattle.std.specs.Prelude.{List, ℕ, length, take}
use Rattle.lists.specs.Fill.{fill}
use Rattle.collection.specs.Collection.{Collection, collection}
use Rattle.collection.specs.Strings.{Str, letters_in, ends_in, weights_in}
use Rattle.collection.specs.Verdict.{Verdict, and_then, room_verdict}

-- tables for letters, ends and weights
pub record Tables : Type 0 where
  pub letters : List ℕ
  pub ends : List ℕ
  pub weights : List ℕ

abbrev pub tables : List ℕ → List ℕ → List ℕ → Tables
tables letters ends weights = record { letters = letters; ends = ends; weights = weights }

-- the tables with the strings ss in their first entries; the rest as it was
abbrev pub filled_by : List Str → Tables → Tables
filled_by ss t = tables (fill (letters_in ss) t.letters) (fill (ends_in 0 ss) t.ends) (fill (weights_in ss) t.weights)

-- the collection in the first entries: N letters, m ends and n weights
abbrev pub collection_in : ℕ → ℕ → ℕ → ℕ → Tables → Collection
collection_in k N m n t = collection k (take N t.letters) (take m t.ends) (take n t.weights)

-- how many entries each table has
pub record Rooms : Type 0 where
  pub letters : ℕ
  pub ends : ℕ
  pub weights : ℕ

abbrev pub rooms : ℕ → ℕ → ℕ → Rooms
rooms letters ends weights = record { letters = letters; ends = ends; weights = weights }

abbrev pub rooms_of : Tables → Rooms
rooms_of t = rooms (length t.letters) (length t.ends) (length t.weights)

-- 1: tables of these lengths for N letters, m ends and n weights
unfoldable pub rooms_verdict : Rooms → ℕ → ℕ → ℕ → Verdict
rooms_verdict r N m n = and_then (room_verdict r.letters N) (and_then (room_verdict r.ends m) (room_verdict r.weights n))
