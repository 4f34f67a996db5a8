-- Demand 1: whatever comes in, a public call has one outcome: its answer, and the content of every lent table afterwards. That each call ends, and that it has
-- an outcome at all, is what the check of its function says: none of them asks anything of its caller.
-- Specification: 8.5, 12.1.
use Rattle.cover.specs.declared.Covered.{Covered}
use Rattle.plain.specs.declared.Standing.{Standing}
use Rattle.collection.specs.declared.refusal.Refusal.{Refusal}
use Rattle.std.specs.Prelude.{◌≡◌, ◌⊎◌, List, map, ℕ, ◌*◌, ℤ, length, replicate, Err, Result, Option}
use Rattle.lists.specs.Fill.{fill}
use Rattle.collection.specs.Collection.{Spelling, Collection, spelling_of}
use Rattle.collection.specs.declared.Told.{Told}
use Rattle.collection.specs.Judge.{kmers_in}
use Rattle.collection.specs.Tables.{Tables}
use Rattle.collection.specs.Verdict.{told, number_of}
use Rattle.sheet.specs.Read.{ReadOutcome, read_outcome, read_of}
use Rattle.sheet.specs.Write.{WriteOutcome, write_outcome, write_of}
use Rattle.repeats.specs.Check as checking
use Rattle.repeats.specs.Check.{check_of}
use Rattle.cover.specs.Cover.{Promise}
use Rattle.apply.specs.Apply as applying
use Rattle.apply.specs.Apply.{apply_of}
use Rattle.runs.specs.Calls as listing
use Rattle.runs.specs.Calls.{runs_of}
use Rattle.weight.specs.Weight.{weight_answer}
use Rattle.weight_records.specs.declared.Run.{Run}
use Rattle.weight_records.specs.Records.{weight_in, first_in}
use Rattle.access.specs.Access.{access_verdict, access_part, access_start, access_at}
use Rattle.plain.specs.Plain.{plain_of}
use Rattle.index.specs.Indexing as indexing
use Rattle.index.specs.Indexing.{Lent, index_of}
use Rattle.index_stretches.specs.Index.{Index}
use Rattle.quick.specs.declared.QuickAnswer.{QuickAnswer}
use Rattle.quick.specs.Quick.{quick_of}
use Rattle.quick.specs.Weighed.{weighed_of}
use Rattle.summary_text.specs.Written as reporting
use Rattle.summary.specs.Report.{report_of}

-- a promise that one outcome alone meets
abbrev pub One : (Out : Type 0) → (Out → Type 0) → Type 0
One Out promise = (a b : Out) → promise a → promise b → a ≡ b

-- ─── one outcome for each call ───────────────────────────────────────────────

-- COVER stands apart: its answer and its work table are determined, and its places where it refuses; else they are any with the fewest runs.
pub record OneOutcome : Type 0 where
  pub read : (sheet : List ℕ) (t : Tables) → One ReadOutcome (λ o. o ≡ read_of sheet t)
  pub write : (c : Collection) (sheet : List ℕ) → One WriteOutcome (λ o. o ≡ write_of c sheet)
  pub check : (c : Collection) (work : List ℕ) → One checking.Outcome (λ o. o ≡ check_of c work)
  pub apply : (c : Collection) (places : List ℤ) (t : applying.Lent)
      → One applying.Outcome (λ o. o ≡ apply_of c places t)
  pub runs : (c : Collection) (weights_of_runs firsts_of_runs : List ℕ) → One listing.Outcome (λ o. o ≡ runs_of c weights_of_runs firsts_of_runs)
  pub index : (c : Collection) (p : ℕ) (t : Lent) → One indexing.Outcome (λ o. o ≡ index_of c p t)
  pub access : (t : Spelling) (handle : ℕ) → One (List ℕ) (λ part. part ≡ access_part t handle)
  pub access_start_is : (t : Spelling) (handle : ℕ) → One ℕ (λ at. at ≡ access_start t handle)
  pub access_at_once : (t : Spelling) (handle : ℕ) → One (Result ℕ Refusal) (λ r. r ≡ access_at t handle)
  pub access_told : (t : Spelling) (handle : ℕ) → One Told (λ r. r ≡ told (access_verdict t handle))
  pub plain : (c : Collection) (word : List ℕ) → One (Result (Option Standing) Refusal) (λ r. r ≡ plain_of c word)
  pub quick : (k p : ℕ) (word letters : List ℕ) (t : Index) → One (Result QuickAnswer Refusal) (λ r. r ≡ quick_of k p word letters t)
  pub weigh : (answer : Result QuickAnswer Refusal) (weights_of_runs firsts_of_runs : List ℕ) (n : ℕ)
      → One (Result (Option ℕ) Refusal) (λ r. r ≡ weighed_of answer weights_of_runs firsts_of_runs n)
  pub weight : (weights_of_runs firsts_of_runs : List ℕ) (n handle : ℕ)
      → One (Result ℕ Refusal) (λ r. r ≡ weight_answer weights_of_runs firsts_of_runs n handle)
  pub weight_records : (records : List Run) (n handle : ℕ)
      → One (Result ℕ Refusal) (λ r. r ≡ weight_answer (map weight_in records) (map first_in records) n handle)
  pub report : (sheet text : List ℕ) → One reporting.Outcome (λ o. o ≡ report_of sheet text)
  pub cover : (c : Collection) (places : List ℤ) (work : List ℕ) (a b : Result Covered Refusal) (places₁ places₂ : List ℤ) (work₁ work₂ : List ℕ)
      → Promise c places work a places₁ work₁ → Promise c places work b places₂ work₂ → (a ≡ b) × (work₁ ≡ work₂)

-- ─── a refusal leaves the outputs ────────────────────────────────────────────

pub record Kept : Type 0 where
  pub read : (sheet : List ℕ) (t : Tables) (r : Refusal) → (read_of sheet t).answer ≡ Err r
      → read_of sheet t ≡ read_outcome (Err r) t
  pub write : (c : Collection) (sheet : List ℕ) (r : Refusal) → (write_of c sheet).answer ≡ Err r
      → write_of c sheet ≡ write_outcome (Err r) sheet
  pub runs : (c : Collection) (weights_of_runs firsts_of_runs : List ℕ) (r : Refusal)
      → (runs_of c weights_of_runs firsts_of_runs).answer ≡ Err r
      → runs_of c weights_of_runs firsts_of_runs ≡ listing.outcome (Err r) weights_of_runs firsts_of_runs
  -- COVER's places; its work is as it was too
  pub cover : (c : Collection) (places : List ℤ) (work : List ℕ) (r : Refusal) (places' : List ℤ) (work' : List ℕ)
      → Promise c places work (Err r) places' work' → (places' ≡ places) × (work' ≡ work)
  -- after 7 work is zeroed, after all else it is as it was
  pub check : (c : Collection) (work : List ℕ) (r : Refusal) → (check_of c work).answer ≡ Err r
      → ((check_of c work).work ≡ work)
      ⊎ ((number_of r ≡ 7) × ((check_of c work).work ≡ fill (replicate (4 * kmers_in (spelling_of c)) 0) work))
  pub apply : (c : Collection) (places : List ℤ) (t : applying.Lent) (r : Refusal)
      → (apply_of c places t).answer ≡ Err r
      → (apply_of c places t ≡ applying.outcome (Err r) t)
      ⊎ (apply_of c places t ≡ applying.outcome (Err r) (applying.lent t.new (applying.zeroed (length c.ends) t.work)))
  pub index : (c : Collection) (p : ℕ) (t : Lent) (r : Refusal) → (index_of c p t).answer ≡ Err r
      → ((index_of c p t).after ≡ t)
      ⊎ ((number_of r ≡ 7) × ((index_of c p t).after ≡ indexing.untouched (kmers_in (spelling_of c)) t))
