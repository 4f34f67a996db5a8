-- Demand 2, over a collection that passes the checks, with the index and the run list made of it.
-- Specification: 12.2.
use Rattle.collection.specs.Verdict.{good}
use Rattle.collection.specs.declared.refusal.Refusal.{Refusal}
use Rattle.std.specs.Prelude.{◌≡◌, List, ℕ, ◌≤◌, length, Err, Result, Option, Ok, Some}
use Rattle.words.specs.Word.{spell, turn}
use Rattle.collection.specs.Collection.{Collection, spelling_of}
use Rattle.collection.specs.declared.Side.{Side}
use Rattle.collection.specs.declared.Side.TheVariants.{Asked}
use Rattle.collection.specs.Judge.{Passes, word_verdict}
use Rattle.collection.specs.Kmers.{word_of, weight_of, Distinct}
use Rattle.access.specs.Access.{access_verdict, access_part}
use Rattle.plain.specs.Says.{Stands, Nowhere}
use Rattle.runs.specs.Runs.{weights_of_runs, firsts_of_runs}
use Rattle.index.specs.Indexing.{index_with}
use Rattle.quick.specs.declared.QuickAnswer.{QuickAnswer}
use Rattle.quick.specs.declared.QuickAnswer.TheVariants.{Found, Absent}
use Rattle.quick.specs.Quick.{quick_of}
use Rattle.quick.specs.Weighed.{weighed_of}
use Rattle.dictionary.specs.Agreement.{sided}

-- a collection that passes CHECK: 2 to 6, and no word repeats
pub record Sound (c : Collection) : Type 0 where
  pub passes : Passes c
  pub distinct : Distinct (spelling_of c)

module _ (c : Collection) (p : ℕ) where
  -- what QUICK answers to a word, over the index
  abbrev pub asked : List ℕ → Result QuickAnswer Refusal
  asked word = quick_of c.k p word c.letters (index_with (spelling_of c) p)

  -- what the word weighs, over the index and the run list
  abbrev pub weighed : List ℕ → Result (Option ℕ) Refusal
  weighed word = weighed_of (asked word) (weights_of_runs c.weights) (firsts_of_runs c.weights) (length c.weights)

  pub record Answers : Type 0 where
    -- a word that stands at a handle, as asked or turned, is found with that handle and its weight
    pub stands : (word : List ℕ) → word_verdict c.k word ≡ good → (side : Side) (handle : ℕ) → Stands (spelling_of c) (sided side (spell word)) handle
        → (found : Side) × (compared : ℕ) × (asked word ≡ Ok (Found handle found compared)) × (weighed word ≡ Ok (Some (weight_of c.weights handle)))
    -- and what is found stands there, on the side that is told
    pub found : (word : List ℕ) → word_verdict c.k word ≡ good → (handle : ℕ) (side : Side) (compared : ℕ) → asked word ≡ Ok (Found handle side compared)
        → Stands (spelling_of c) (sided side (spell word)) handle
    -- what is absent stands nowhere, as asked or turned
    pub absent : (word : List ℕ) → word_verdict c.k word ≡ good → (compared : ℕ) → asked word ≡ Ok (Absent compared)
        → Nowhere (spelling_of c) (spell word) × Nowhere (spelling_of c) (turn (spell word))
    -- no word of k letters is refused
    pub taken : (word : List ℕ) → word_verdict c.k word ≡ good → (r : Refusal) → asked word ≡ Err r → ⊥
    -- each handle gives back its word, and that word its handle
    pub given_back : (handle : ℕ) → 1 ≤ handle → handle ≤ length c.weights
        → (access_verdict (spelling_of c) handle ≡ good) × (spell (access_part (spelling_of c) handle) ≡ word_of (spelling_of c) handle)
        × ((compared : ℕ) × (asked (access_part (spelling_of c) handle) ≡ Ok (Found handle Asked compared)))
