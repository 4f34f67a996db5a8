-- The whole way from a sheet to the weight of a word: what the calls in a row answer is what the sheet itself says. Assumes nothing.
use mathlib.Core.Path.{◌≡◌, sym, ap, ap₂, ◌∙◌, subst}
use mathlib.Core.Logic.{inl, inr}
use mathlib.Core.List.{List}
use Prim.Native.Nat.{ℕ, ◌+◌, ◌^◌}
use lib.IntN.{ℤ}
use lib.ListN.{length, take, length-map}
use Rattle.index.specs.declared.Indexed.{Indexed}
use Rattle.cover.specs.declared.Covered.{Covered}
use Rattle.std.specs.Prelude.{Ok, Err, Result}
use Rattle.collection.specs.Verdict.{good}
use Rattle.collection.specs.declared.refusal.Refusal.{Refusal}
use Rattle.lists.proofs.Every.{all_map}
use Rattle.lists.proofs.Storing.{take_fill}
use Rattle.lists.proofs.Refuted.{refuted}
use Rattle.words.specs.Word.{spell}
use Rattle.collection.specs.Collection.{Collection, collection, spelling_of}
use Rattle.collection.specs.Judge.{Passes}
use Rattle.collection.specs.Kmers.{Distinct}
use Rattle.collection.specs.Strings.{Str, strings, weights_in, joined}
use Rattle.collection.specs.EndWeights.{end_weights}
use Rattle.collection.proofs.Strings.{strings-back}
use Rattle.collection.proofs.Verdicts.{both_good, done_by}
use Rattle.sheet.specs.Sheet.{sheet_k, sheet_strings}
use Rattle.sheet.proofs.Accepted.{accepted_holds}
use Rattle.sheet.proofs.Calls.{ReadDone, read_done_lem, read_passes}
use Rattle.repeats.proofs.Checked.{check_distinct}
use Rattle.cover_trails.specs.Groups.{least}
use Rattle.cover_trails.specs.Places.{SignedPermutation}
use Rattle.cover.specs.Cover.{Fewest, cover_verdict}
use Rattle.cover.proofs.Laws.{cover_fills}
use Rattle.apply.specs.Apply as applying
use Rattle.apply_strings.specs.Reordered.{reordered}
use Rattle.collection.specs.Tables.{collection_in, rooms_of}
use Rattle.apply.specs.Apply.{apply_of, placed_of, tables_verdict}
use Rattle.apply_strings.specs.Weighs.{Weighs, WeighsAt}
use Rattle.apply_places.specs.Places.{places_verdict}
use Rattle.apply.proofs.Applying.{applied}
use Rattle.apply_places.proofs.Permutation.{places_good}
use Rattle.apply_strings.proofs.Handles.{weighs_handle, handle_weighs}
use Rattle.apply_strings.proofs.Reordered.{reordered_sizes}
use Rattle.cover_fewest.specs.Fewest.{FewestRuns}
use Rattle.cover_fewest.proofs.Fewest.{fewest_runs, cover_fewest}
use Rattle.runs.specs.Calls as runs_calls
use Rattle.runs.specs.Calls.{runs_of}
use Rattle.runs.specs.Runs.{runs, weights_of_runs, firsts_of_runs, run_count}
use Rattle.index.specs.Indexing.{stretch_count, first_entries, index_with, index_verdict, index_of}
use Rattle.index.proofs.Success.{index_told, index_success}
use Rattle.index_minimizers.specs.Minimizer.{sizes_verdict}
use Rattle.quick.specs.Quick.{quick_of}
use Rattle.quick.specs.Weighed.{weighed_of}
use Rattle.dictionary.specs.Dictionary.{weighed as weighed_over}
use Rattle.dictionary.specs.Journey.{
  Reading,
  collection_read,
  Reordering,
  collection_applied,
  Indexing,
  run_weights_listed,
  run_firsts_listed,
  index_made,
  weighed,
  Says,
  weighs,
  absent,
  EndToEnd,
}
use Rattle.dictionary.proofs.Said.{Said, reordered_says}
use Rattle.cover.specs.Cover as covering
use Rattle.apply.specs.declared.Filled as apply

-- what an answer of APPLY or of INDEX says is filled; nothing where it refuses
abbrev applied_in : Result apply.Filled Refusal → apply.Filled
applied_in (Ok f) = f
applied_in (Err r) = record { letters = 0; ends = 0; weights = 0 }

abbrev indexed_in : Result Indexed Refusal → Indexed
indexed_in (Ok i) = i
indexed_in (Err r) = record { stretches = 0; starts = 0 }

-- ─── the calls in a row ──────────────────────────────────────────────────────

module _ {sheet : List ℕ} (r : Reading sheet) where
  abbrev k : ℕ
  k = r.k

  done : ReadDone sheet r.lent r.k r.N r.m r.n
  done = read_done_lem sheet r.lent r.k r.N r.m r.n r.filled

  -- what READ gave passes, and its strings are those of the sheet
  passes_read : Passes (collection_read r)
  passes_read = read_passes sheet r.lent r.k r.N r.m r.n r.filled

  strings_read : strings (collection_read r) ≡ sheet_strings sheet
  strings_read =
      (λ i. strings (collection (done.k_is i) (done.letters_are i) (done.ends_are i) (done.weights_are i)))
      ∙ strings-back (sheet_k sheet) (sheet_strings sheet) (all_map (λ s h. h.whole) (sheet_strings sheet) (accepted_holds sheet done.accepted))

  -- so what the collection says of a word is what the sheet says
  read_says : (w : List ℕ) (weight : ℕ) → WeighsAt (collection_read r) w weight → Weighs (sheet_k sheet) (sheet_strings sheet) w weight
  read_says w weight u =
      subst (λ (x : ℕ). Weighs x (sheet_strings sheet) w weight) done.k_is
      (subst (λ (ss : List Str). Weighs r.k ss w weight) strings_read (weighs_handle (collection_read r) passes_read w weight u))

  says_read : (w : List ℕ) (weight : ℕ) → Weighs (sheet_k sheet) (sheet_strings sheet) w weight → WeighsAt (collection_read r) w weight
  says_read w weight u =
      handle_weighs (collection_read r) passes_read w weight
      (subst (λ (ss : List Str). Weighs r.k ss w weight) (sym strings_read) (subst (λ (x : ℕ). Weighs x (sheet_strings sheet) w weight) (sym done.k_is) u))

module _ {sheet : List ℕ} {r : Reading sheet} (o : Reordering r) where
  distinct_read : Distinct (spelling_of (collection_read r))
  distinct_read = (check_distinct (collection_read r) o.work₁ r.n o.checked).0.distinct

  -- APPLY's two verdicts are good
  apply_good : (tables_verdict (collection_read r) (rooms_of o.tables₁.new) (length o.tables₁.work) ≡ good)
      × (places_verdict (length (collection_read r).ends) (take r.m o.places) ≡ good)
  unfolding apply_of placed_of
  apply_good =
      let t = done_by (λ (x : applying.Outcome). x.answer) _ _ _ (applying.filled r.N r.m r.n) (λ r q. refuted (cc)) o.applied in
      let u = done_by (λ (x : applying.Outcome). x.answer) _ _ _ (applying.filled r.N r.m r.n) (λ r q. refuted (cc)) t.2 in
      (t.0, u.0)

  abbrev placed : List ℤ
  placed = take r.m o.places

  permutation : SignedPermutation (length (collection_read r).ends) placed
  permutation = places_good (length (collection_read r).ends) placed apply_good.1

  -- what it filled are the tables of the reordered strings
  abbrev strung : List Str
  strung = reordered (collection_read r) placed

  pub record Applied : Type 0 where
    pub strings_many : r.m ≡ length (collection_read r).ends
    pub collection_is : collection_applied o ≡ joined r.k strung
    pub weights_many : r.n ≡ length (weights_in strung)

  filled : Applied
  filled =
      let t = applied (collection_read r) placed o.tables₁ apply_good.0 apply_good.1 in
      let a : length (collection_read r).letters ≡ r.N = ap (λ (f : Result apply.Filled Refusal). (applied_in f).letters) (sym t.0 ∙ o.applied) in
      let b : length (collection_read r).ends ≡ r.m = ap (λ (f : Result apply.Filled Refusal). (applied_in f).ends) (sym t.0 ∙ o.applied) in
      let c : length (collection_read r).weights ≡ r.n = ap (λ (f : Result apply.Filled Refusal). (applied_in f).weights) (sym t.0 ∙ o.applied) in
      record {
        strings_many = sym b;
        collection_is = sym (λ i. collection_in r.k (a i) (b i) (c i) (apply_of (collection_read r) placed o.tables₁).after.new) ∙ t.1;
        weights_many = sym c ∙ sym (reordered_sizes (collection_read r) placed (passes_read r) permutation).weights_number;
      }

  -- the places are those that COVER found
  covered_good : cover_verdict (collection_read r) o.places₀ o.work₂ ≡ good
  covered_good =
      (done_by (λ (x : Result Covered Refusal). x) _ Err (covering.covered (length (collection_read r).ends) (least (end_weights (collection_read r))))
      (covering.covered r.m o.paths)
      (λ r q. refuted (cc)) (sym o.covered.answered)).0

  fewest_placed : Fewest (end_weights (collection_read r)) placed
  fewest_placed =
      let c = cover_fills (collection_read r) o.places₀ o.work₂ o.covered covered_good in
      let e : placed ≡ c.0 = ap (take r.m) c.1 ∙ take_fill c.0 o.places₀ r.m (c.2.number ∙ sym filled.strings_many) in
      subst (Fewest (end_weights (collection_read r))) (sym e) c.3

module _ {sheet : List ℕ} {r : Reading sheet} {o : Reordering r} {p : ℕ} (x : Indexing o p) where
  abbrev new : Collection
  new = collection_applied o

  -- RUNS listed the runs of the new weights
  pub record Listed : Type 0 where
    pub runs_many : x.runs ≡ run_count new.weights
    pub weights_are : run_weights_listed x ≡ weights_of_runs new.weights
    pub firsts_are : run_firsts_listed x ≡ firsts_of_runs new.weights

  listed : Listed
  unfolding runs_of
  listed =
      let t = done_by (λ (y : runs_calls.Outcome). y.answer) _ _ _ (Ok x.runs) (λ r q. refuted (cc)) x.listed in
      let q : ◌≡◌ {A = Result ℕ Refusal} (Ok (run_count new.weights)) (Ok x.runs) = t.2 in
      let n : run_count new.weights ≡ x.runs = cc in
      record {
        runs_many = sym n;
        weights_are =
            ap (λ (y : runs_calls.Outcome). take x.runs y.weights_after) t.1
            ∙ take_fill (weights_of_runs new.weights) x.run_weights₀ x.runs (length-map (runs new.weights) (λ e. e.0) ∙ n);
        firsts_are = ap (λ (y : runs_calls.Outcome). take x.runs y.firsts_after) t.1
            ∙ take_fill (firsts_of_runs new.weights) x.run_firsts₀ x.runs (length-map (runs new.weights) (λ e. e.1) ∙ n);
      }

  -- INDEX made the index of the new collection
  sizes_good : sizes_verdict r.k p ≡ good
  unfolding index_verdict
  sizes_good = (both_good (sizes_verdict r.k p) _ (index_told new p x.tables₀ x.indexed).0).0

  made : index_made x ≡ index_with (spelling_of new) p
  made =
      let t = index_told new p x.tables₀ x.indexed in
      let s = index_success new p x.tables₀ t.0 t.1 in
      let a : stretch_count (spelling_of new) p ≡ x.stretches = ap (λ (f : Result Indexed Refusal). (indexed_in f).stretches) (sym s.0 ∙ x.indexed) in
      let b : 4 ^ p + 1 ≡ x.starts = ap (λ (f : Result Indexed Refusal). (indexed_in f).starts) (sym s.0 ∙ x.indexed) in
      ap₂ (λ (m n : ℕ). first_entries m n (index_of new p x.tables₀).after) (sym a) (sym b) ∙ s.1

  -- the answer over the tables that were filled is the answer over the reordered collection
  on_the_way : (asked : List ℕ) → weighed x asked ≡ weighed_over (joined r.k (strung o)) p asked
  on_the_way asked =
      let f = filled o in
      let i = made ∙ ap (λ (x : Collection). index_with (spelling_of x) p) f.collection_is in
      let a = listed.weights_are ∙ ap (λ (x : Collection). weights_of_runs x.weights) f.collection_is in
      let b = listed.firsts_are ∙ ap (λ (x : Collection). firsts_of_runs x.weights) f.collection_is in
      λ j. weighed_of (quick_of r.k p asked (f.collection_is j).letters (i j)) (a j) (b j) (f.weights_many j)

-- ─── the end ─────────────────────────────────────────────────────────────────

pub end_to_end : EndToEnd
end_to_end =
    record {
      says = λ sheet p r o x asked good.
          tell sheet r o x asked (reordered_says (collection_read r) p (placed o) (passes_read r) (permutation o) (distinct_read o) (sizes_good x) asked good);
      shortest = λ sheet p r o x.
          let e = (listed x).runs_many
          ∙ (ap (λ (x : Collection). run_count x.weights) (filled o).collection_is
          ∙ cover_fewest (collection_read r) (passes_read r) (placed o) (fewest_placed o)) in
          subst (FewestRuns (collection_read r)) (sym e) (fewest_runs (collection_read r) (passes_read r));
    }
  where
    tell : (sheet : List ℕ) (r : Reading sheet) (o : Reordering r) {p : ℕ} (x : Indexing o p) (asked : List ℕ)
        → Said (collection_read r) (spell asked) (weighed_over (joined r.k (strung o)) p asked)
        → Says sheet (spell asked) (weighed x asked)
    tell sheet r o x asked (inl t) =
        subst (Says sheet (spell asked)) (sym (on_the_way x asked ∙ t.1)) (weighs t.0 (read_says r (spell asked) t.0 t.2))
    tell sheet r o x asked (inr t) =
        subst (Says sheet (spell asked)) (sym (on_the_way x asked ∙ t.0)) (absent (λ weight u. t.1 weight (says_read r (spell asked) weight u)))
