-- What it means that a word stands in a collection, and what each answer of PLAIN says.
-- Specification: 9.10, 12.2.
use Rattle.plain.specs.Plain.{found_at}
use Rattle.plain.specs.declared.Standing.{Standing}
use Rattle.std.specs.Prelude.{◌≡◌, List, ℕ, ◌<◌, ◌≤◌, length, Option, None}
use Rattle.words.specs.Word.{turn}
use Rattle.collection.specs.Collection.{Spelling}
use Rattle.collection.specs.declared.Side.TheVariants.{Asked, Turned}
use Rattle.collection.specs.Kmers.{kmers, word_of}

module _ (t : Spelling) where
  -- the word w stands at a handle
  pub record Stands (w : List ℕ) (handle : ℕ) : Type 0 where
    pub low : 1 ≤ handle
    pub high : handle ≤ length (kmers t.k t.ends)
    pub word : word_of t handle ≡ w

  -- it stands at no handle
  abbrev pub Nowhere : List ℕ → Type 0
  Nowhere w = (handle : ℕ) → Stands w handle → ⊥

  -- it stands at this handle and at none below
  pub record Lowest (w : List ℕ) (handle : ℕ) : Type 0 where
    pub here : Stands w handle
    pub none_below : (other : ℕ) → other < handle → Stands w other → ⊥

  -- what each answer to the word w says
  pub data Says (w : List ℕ) : Option Standing → Type 0 where
    as_asked : (handle : ℕ) → Lowest w handle → Says w (found_at handle Asked)
    as_turned : (handle : ℕ) → Nowhere w → Lowest (turn w) handle → Says w (found_at handle Turned)
    absent : Nowhere w → Nowhere (turn w) → Says w None
