-- The three demands, each as a type; proofs/Demands inhabits them.
-- Specification: 9.2, 12.1, 12.2, 12.3.
use Rattle.collection.specs.Verdict.{good}
use Rattle.std.specs.Prelude.{◌≡◌, List, [], ℕ, suc, ◌+◌, ◌-◌, ◌/◌, ◌<◌, ◌≤◌, ℤ, pos, nat_abs, length, get_or, take, Ok}
use Rattle.lists.specs.Fill.{fill}
use Rattle.collection.specs.Collection.{Collection, collection}
use Rattle.collection.specs.Judge.{Passes}
use Rattle.collection.specs.Strings.{strings, joined}
use Rattle.collection.specs.Tables.{Tables, collection_in}
use Rattle.collection.specs.EndWeights.{end_weights}
use Rattle.sheet.specs.Read.{read_of}
use Rattle.sheet.specs.Write.{write_outcome, write_of}
use Rattle.cover_trails.specs.Groups.{even_groups, odd_weights}
use Rattle.cover_trails.specs.Places.{SignedPermutation, turned_by}
use Rattle.cover.specs.Cover.{Promise}
use Rattle.apply_strings.specs.Reordered.{reordered}
use Rattle.apply_strings.specs.Turned.{turn_str}
use Rattle.apply_strings.specs.Weighs.{none, WeighsAt}
use Rattle.cover_fewest.specs.Fewest.{runs_at, least_runs, FewestRuns}
use Rattle.index_minimizers.specs.Minimizer.{sizes_verdict}
use Rattle.dictionary.specs.Determined.{OneOutcome, Kept}
use Rattle.dictionary.specs.Dictionary.{Sound, Answers}
use Rattle.sheet.specs.Read as reading
use Rattle.cover.specs.Cover as covering

-- 1: whatever comes in, a call has one outcome, and a refusal leaves its outputs.
pub record DemandOne : Type 0 where
  pub one_outcome : OneOutcome
  pub refusals_keep : Kept

module _ (c : Collection) (places : List ℤ) where
  -- the collection that APPLY makes
  abbrev pub applied : Collection
  applied = joined c.k (reordered c places)

  -- What reordering keeps: each string stands once, at its place, turned where the place is negative, its weights turned with it; and every word has the
  -- weights that it had.
  pub record Reordered : Type 0 where
    pub stands : (i : ℕ) → i < length c.ends
        → get_or (strings applied) (nat_abs (get_or places i (pos 0)) - 1) none ≡ turned_by turn_str (get_or places i (pos 0)) (get_or (strings c) i none)
    pub one_place : (i j : ℕ) → i < length c.ends → j < length c.ends → nat_abs (get_or places i (pos 0)) ≡ nat_abs (get_or places j (pos 0)) → i ≡ j
    pub each_place : (j : ℕ) → j < length c.ends → (i : ℕ) × (i < length c.ends) × (nat_abs (get_or places i (pos 0)) ≡ suc j)
    pub weights_kept : (word : List ℕ) (weight : ℕ) → WeighsAt c word weight → WeighsAt applied word weight
    pub none_new : (word : List ℕ) (weight : ℕ) → WeighsAt applied word weight → WeighsAt c word weight
    pub sound_kept : Sound c → Sound applied

-- 2: a word is found exactly if it or its reverse complement stands there, with its own handle and weight; each handle gives back its word. Reordering keeps
-- each string once. An accepted sheet, read and written, is the same bytes.
pub record DemandTwo : Type 0 where
  pub found : (c : Collection) (p : ℕ) → Sound c → sizes_verdict c.k p ≡ good → Answers c p
  pub reordering : (c : Collection) (places : List ℤ) → Passes c → SignedPermutation (length c.ends) places → Reordered c places
  pub same_bytes : (sheet : List ℕ) (t : Tables) (k N m n : ℕ) → (read_of sheet t).answer ≡ reading.filled k N m n → (out : List ℕ) → length sheet ≤ length out
      → write_of (collection_in k N m n (read_of sheet t).after) out ≡ write_outcome (Ok (length sheet)) (fill sheet out)

-- 3: for each collection that passes 2 to 6, the runs in the weights reordered by COVER's places are the fewest of any order and turning, R - m + E + O/2, and
-- the number of paths that COVER answers is E + O/2; with no strings all are 0.
pub record DemandThree : Type 0 where
  pub fewest : (c : Collection) → Passes c → FewestRuns c (least_runs c)
  pub covered : (c : Collection) (places : List ℤ) (work : List ℕ) (m paths : ℕ) (places' : List ℤ) (work' : List ℕ)
      → Promise c places work (covering.covered m paths) places' work'
      → SignedPermutation (length c.ends) (take m places') × (runs_at c (take m places') ≡ least_runs c)
      × (paths ≡ even_groups (end_weights c) + odd_weights (end_weights c) / 2)
  pub empty : (k : ℕ) → (least_runs (collection k [] [] []) ≡ 0) × (runs_at (collection k [] [] []) [] ≡ 0)
