-- From a sheet to the weight of a word: READ, CHECK, COVER, APPLY, RUNS, INDEX, and then QUICK and WEIGHT, each over the tables that the one before filled.
-- Specification: 12.4.
use Rattle.collection.specs.Verdict.{good}
use Rattle.collection.specs.declared.refusal.Refusal.{Refusal}
use Rattle.std.specs.Prelude.{◌≡◌, List, ℕ, ℤ, take, Ok, Result, Option, Some, None}
use Rattle.words.specs.Word.{spell}
use Rattle.collection.specs.Collection.{Collection}
use Rattle.collection.specs.Judge.{word_verdict}
use Rattle.collection.specs.Tables.{Tables, collection_in}
use Rattle.sheet.specs.Read.{read_of}
use Rattle.sheet.specs.Sheet.{sheet_k, sheet_strings}
use Rattle.repeats.specs.Check.{check_of}
use Rattle.cover.specs.Cover.{Promise}
use Rattle.apply.specs.Apply as applying
use Rattle.apply.specs.Apply.{apply_of}
use Rattle.apply_strings.specs.Weighs.{Weighs}
use Rattle.runs.specs.Calls.{runs_of}
use Rattle.cover_fewest.specs.Fewest.{FewestRuns}
use Rattle.index.specs.Indexing.{Lent, first_entries, index_of}
use Rattle.index_stretches.specs.Index.{Index}
use Rattle.quick.specs.Quick.{quick_of}
use Rattle.quick.specs.Weighed.{weighed_of}
use Rattle.sheet.specs.Read as reading
use Rattle.cover.specs.Cover as covering
use Rattle.index.specs.Indexing as indexing

-- Of each table a caller lends on the part that was filled: so many entries as the answer says. No call of the row is refused.

-- ─── READ ────────────────────────────────────────────────────────────────────

pub record Reading (sheet : List ℕ) : Type 0 where
  pub lent : Tables
  pub k : ℕ
  pub N : ℕ
  pub m : ℕ
  pub n : ℕ
  pub filled : (read_of sheet lent).answer ≡ reading.filled k N m n

module _ {sheet : List ℕ} (r : Reading sheet) where
  -- the collection that READ filled in
  abbrev pub collection_read : Collection
  collection_read = collection_in r.k r.N r.m r.n (read_of sheet r.lent).after

-- ─── CHECK, COVER and APPLY ──────────────────────────────────────────────────

pub record Reordering {sheet : List ℕ} (r : Reading sheet) : Type 0 where
  -- CHECK
  pub work₁ : List ℕ
  pub checked : (check_of (collection_read r) work₁).answer ≡ Ok r.n
  -- COVER
  pub places₀ : List ℤ
  pub places : List ℤ
  pub work₂ : List ℕ
  pub work₃ : List ℕ
  pub paths : ℕ
  pub covered : Promise (collection_read r) places₀ work₂ (covering.covered r.m paths) places work₃
  -- APPLY
  pub tables₁ : applying.Lent
  pub applied : (apply_of (collection_read r) (take r.m places) tables₁).answer ≡ applying.filled r.N r.m r.n

module _ {sheet : List ℕ} {r : Reading sheet} (o : Reordering r) where
  -- the collection that APPLY filled in
  abbrev pub collection_applied : Collection
  collection_applied = collection_in r.k r.N r.m r.n (apply_of (collection_read r) (take r.m o.places) o.tables₁).after.new

-- ─── RUNS and INDEX ──────────────────────────────────────────────────────────

pub record Indexing {sheet : List ℕ} {r : Reading sheet} (o : Reordering r) (p : ℕ) : Type 0 where
  pub run_weights₀ : List ℕ
  pub run_firsts₀ : List ℕ
  pub runs : ℕ
  pub listed : (runs_of (collection_applied o) run_weights₀ run_firsts₀).answer ≡ Ok runs
  pub tables₀ : Lent
  pub stretches : ℕ
  pub starts : ℕ
  pub indexed : (index_of (collection_applied o) p tables₀).answer ≡ indexing.filled stretches starts

module _ {sheet : List ℕ} {r : Reading sheet} {o : Reordering r} {p : ℕ} (x : Indexing o p) where
  abbrev pub run_weights_listed : List ℕ
  run_weights_listed = take x.runs (runs_of (collection_applied o) x.run_weights₀ x.run_firsts₀).weights_after

  abbrev pub run_firsts_listed : List ℕ
  run_firsts_listed = take x.runs (runs_of (collection_applied o) x.run_weights₀ x.run_firsts₀).firsts_after

  abbrev pub index_made : Index
  index_made = first_entries x.stretches x.starts (index_of (collection_applied o) p x.tables₀).after

  -- QUICK, and WEIGHT of the handle found
  abbrev pub weighed : List ℕ → Result (Option ℕ) Refusal
  weighed asked = weighed_of (quick_of r.k p asked (collection_applied o).letters index_made) run_weights_listed run_firsts_listed r.n

-- ─── the end ─────────────────────────────────────────────────────────────────

-- What the sheet itself says of a word: its weight, where it or its reverse complement is a k-mer of a string; absent, where neither is.
pub data Says (sheet asked : List ℕ) : Result (Option ℕ) Refusal → Type 0 where
  weighs : (weight : ℕ) → Weighs (sheet_k sheet) (sheet_strings sheet) asked weight → Says sheet asked (Ok (Some weight))
  absent : ((weight : ℕ) → Weighs (sheet_k sheet) (sheet_strings sheet) asked weight → ⊥) → Says sheet asked (Ok None)

-- The whole way: for every sheet and every word of k letters, what the calls in a row answer is what the sheet says. And the run list that WEIGHT reads is as
-- short as any order and turning of the sheet's strings can make it.
pub record EndToEnd : Type 0 where
  pub says : (sheet : List ℕ) (p : ℕ) (r : Reading sheet) (o : Reordering r) (x : Indexing o p) (asked : List ℕ) → word_verdict r.k asked ≡ good
      → Says sheet (spell asked) (weighed x asked)
  pub shortest : (sheet : List ℕ) (p : ℕ) (r : Reading sheet) (o : Reordering r) (x : Indexing o p) → FewestRuns (collection_read r) x.runs
