-- What a host sees of a call: what is told, and the tables it lent.
-- Specification: 11.
use Prim.{Unit, tt}
use Rattle.collection.specs.declared.refusal.Told as refusal
use Rattle.std.specs.Prelude.{List, ℕ, ltb, length, Result}
use Rattle.lists.specs.Choose.{choose}
use Rattle.exports_replies.specs.declared.Reply.{Reply}
use Rattle.exports_replies.specs.Told.{Told, told, told_of}

-- the number returned and the answer table, with the other lent tables afterwards
pub record Exported (Tables : Type 0) : Type 0 where
  pub telling : Told
  pub tables : Tables

abbrev pub exported : {Tables : Type 0} → ℕ → List ℕ → Tables → Exported Tables
exported number answer tables = record { telling = told number answer; tables = tables }

-- a call that fills no other table
abbrev pub none : Unit {0}
none = tt

-- The answer table needs 4 entries. Where it has fewer, 1 is returned and nothing is written; else the reply is told, and the tables are as the call leaves
-- them.
unfoldable pub exported_of : {Tables : Type 0} → List ℕ → Tables → Result Reply refusal.Told → Tables → Exported Tables
exported_of answer before reply after = choose (ltb (length answer) 4) (exported 1 answer before) (record { telling = told_of reply answer; tables = after })
