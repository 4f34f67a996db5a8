-- The two forms of WEIGHT agree: over two tables, and over the records of the two tables. Assumes nothing.
use mathlib.Core.Path.{◌≡◌, refl, sym, ap, ap₂, ◌∙◌}
use mathlib.Core.Bool.{true}
use mathlib.Core.List.{List, [], ◌∷◌, map}
use Prim.Native.Nat.{ℕ, ◌≤◌}
use native.Mathlib.Omega.{arith}
use lib.ListN.{length, length-map}
use Rattle.std.specs.Prelude.{Ok}
use Rattle.collection.specs.Collection.{Collection}
use Rattle.collection.specs.Judge.{Passes}
use Rattle.collection.specs.Kmers.{weight_of}
use Rattle.weight.specs.Weight.{weight_answer}
use Rattle.runs.specs.Runs.{runs, weights_of_runs, firsts_of_runs}
use Rattle.weight.specs.RunList.{is_run_list}
use Rattle.weight.proofs.GivenBack.{runs_then_weight}
use Rattle.weight.proofs.RunLists.{list_good}
use Rattle.weight_records.specs.Records.{weight_in, first_in, records_of}

weights_of : (weights firsts : List ℕ) → length weights ≡ length firsts → map weight_in (records_of weights firsts) ≡ weights
unfolding records_of
weights_of [] firsts e = refl
weights_of (w ∷ weights) [] e = absurd (omega arith)
weights_of (w ∷ weights) (f ∷ firsts) e = ap (λ (ws : List ℕ). w ∷ ws) (weights_of weights firsts (omega arith))

firsts_of : (weights firsts : List ℕ) → length weights ≡ length firsts → map first_in (records_of weights firsts) ≡ firsts
unfolding records_of
firsts_of [] [] e = refl
firsts_of [] (f ∷ firsts) e = absurd (omega arith)
firsts_of (w ∷ weights) [] e = absurd (omega arith)
firsts_of (w ∷ weights) (f ∷ firsts) e = ap (λ (fs : List ℕ). f ∷ fs) (firsts_of weights firsts (omega arith))

-- two tables of one length and their records have one answer, a refusal too
pub tables_agree : (weights firsts : List ℕ) (n handle : ℕ) → length weights ≡ length firsts
    → weight_answer (map weight_in (records_of weights firsts)) (map first_in (records_of weights firsts)) n handle ≡ weight_answer weights firsts n handle
tables_agree weights firsts n handle e =
    ap₂ (λ (ws fs : List ℕ). weight_answer ws fs n handle) (weights_of weights firsts e) (firsts_of weights firsts e)

-- for every run list the two forms agree
pub records_agree : (weights firsts : List ℕ) (n handle : ℕ) → is_run_list n weights firsts ≡ true
    → weight_answer (map weight_in (records_of weights firsts)) (map first_in (records_of weights firsts)) n handle ≡ weight_answer weights firsts n handle
records_agree weights firsts n handle e = tables_agree weights firsts n handle (list_good n weights firsts e).same_length

-- RUNS, its list as records, then WEIGHT over them of any handle 1 to n, is that k-mer's weight
pub runs_then_records : (c : Collection) → Passes c → (handle : ℕ) → 1 ≤ handle → handle ≤ length c.weights
    → weight_answer (map weight_in (records_of (weights_of_runs c.weights) (firsts_of_runs c.weights)))
    (map first_in (records_of (weights_of_runs c.weights) (firsts_of_runs c.weights))) (length c.weights) handle
    ≡ Ok (weight_of c.weights handle)
runs_then_records c p handle l m =
    tables_agree (weights_of_runs c.weights) (firsts_of_runs c.weights) (length c.weights) handle
    (length-map (runs c.weights) (λ r. r.0) ∙ sym (length-map (runs c.weights) (λ r. r.1)))
    ∙ runs_then_weight c p handle l m
