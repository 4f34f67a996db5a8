-- APPLY: a collection and signed places to a new collection.
-- Specification: 9.5.
use Rattle.apply.specs.declared.Filled.{Filled}
use Rattle.collection.specs.declared.refusal.Refusal.{Refusal}
use Rattle.std.specs.Prelude.{List, ℕ, ℤ, length, replicate, Err, Result, Ok}
use Rattle.lists.specs.Fill.{fill}
use Rattle.collection.specs.Collection.{Collection}
use Rattle.collection.specs.Judge.{collection_verdict}
use Rattle.collection.specs.Tables.{Tables, filled_by, Rooms, rooms_of, rooms_verdict}
use Rattle.collection.specs.Verdict.{and_then, settle, room_verdict, Verdict}
use Rattle.apply_strings.specs.Reordered.{reordered}
use Rattle.apply_places.specs.Places.{places_verdict}

-- the lent tables: those of the new collection, and work
pub record Lent : Type 0 where
  pub new : Tables
  pub work : List ℕ

abbrev pub lent : Tables → List ℕ → Lent
lent new work = record { new = new; work = work }

-- so many letters, ends and weights are filled
abbrev pub filled : ℕ → ℕ → ℕ → Result Filled Refusal
filled letters ends weights = Ok (record { letters = letters; ends = ends; weights = weights })

-- the answer, and what the lent tables hold afterwards
pub record Outcome : Type 0 where
  pub answer : Result Filled Refusal
  pub after : Lent

abbrev pub outcome : Result Filled Refusal → Lent → Outcome
outcome answer after = record { answer = answer; after = after }

-- 2 to 6, then 1: new tables as long as the old ones, and m entries to work with
unfoldable pub tables_verdict : Collection → Rooms → ℕ → Verdict
tables_verdict c new work =
    and_then (collection_verdict c) (and_then (rooms_verdict new (length c.letters) (length c.ends) (length c.weights)) (room_verdict work (length c.ends)))

-- the first m entries of work zero, the rest as it was
abbrev pub zeroed : ℕ → List ℕ → List ℕ
zeroed m work = fill (replicate m 0) work

-- refused by 8: the new tables as they were. Else they hold the reordered strings. Work is zeroed in both cases.
unfoldable pub placed_of : Collection → List ℤ → Lent → Outcome
placed_of c places t =
    settle (places_verdict (length c.ends) places)
    (λ r. outcome (Err r) (lent t.new (zeroed (length c.ends) t.work)))
    (outcome (filled (length c.letters) (length c.ends) (length c.weights)) (lent (filled_by (reordered c places) t.new) (zeroed (length c.ends) t.work)))

-- refused up to 1: all tables as they were
unfoldable pub apply_of : Collection → List ℤ → Lent → Outcome
unfolding placed_of
apply_of c places t =
    settle (tables_verdict c (rooms_of t.new) (length t.work)) (λ r. outcome (Err r) t) (placed_of c places t)
