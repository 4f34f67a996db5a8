-- Demand 1 holds: each call has one outcome, and a refusal leaves the outputs. Assumes nothing.
use mathlib.Core.Path.{◌≡◌, refl, sym, ap, ◌∙◌}
use mathlib.Core.Logic.{◌⊎◌, inl, inr}
use mathlib.Core.List.{List}
use Prim.Native.Nat.{ℕ, zero, suc, ◌*◌}
use lib.IntN.{ℤ}
use lib.ListN.{length, replicate}
use Rattle.index.specs.declared.Indexed.{Indexed}
use Rattle.sheet.specs.declared.Filled.{Filled}
use Rattle.std.specs.Prelude.{Ok, Err, Result}
use Rattle.collection.specs.declared.refusal.Refusal.TheVariants.{Repeated}
use Rattle.collection.specs.declared.refusal.Refusal.{Refusal}
use Rattle.lists.specs.Fill.{fill}
use Rattle.lists.proofs.Refuted.{refuted}
use Rattle.collection.specs.Collection.{Collection, spelling_of}
use Rattle.collection.specs.Judge.{kmers_in}
use Rattle.collection.specs.Tables.{Tables}
use Rattle.collection.specs.Verdict.{at_place, settle, Verdict, number_of}
use Rattle.collection.specs.EndWeights.{end_weights}
use Rattle.collection.proofs.Verdicts.{refused_by}
use Rattle.sheet.specs.Read.{ReadOutcome, read_outcome, read_of}
use Rattle.sheet.specs.Write.{WriteOutcome, write_outcome, write_of}
use Rattle.repeats.specs.Check as checking
use Rattle.repeats.specs.Check.{first_repeat, check_verdict, check_of}
use Rattle.cover_trails.specs.Strings.{Ends}
use Rattle.cover.specs.Cover.{CoverOf, Promise, cover_verdict}
use Rattle.cover.proofs.Laws.{cover_only}
use Rattle.apply.specs.Apply as applying
use Rattle.apply.specs.Apply.{placed_of, apply_of}
use Rattle.apply_places.specs.Places.{places_verdict}
use Rattle.runs.specs.Calls as listing
use Rattle.runs.specs.Calls.{runs_of}
use Rattle.index.specs.Indexing as indexing
use Rattle.index.specs.Indexing.{Lent, index_of}
use Rattle.dictionary.specs.Determined.{OneOutcome, Kept}
use Rattle.apply.specs.declared.Filled as apply

pub one_outcome : OneOutcome
one_outcome =
    record {
      read = λ sheet t a b e f. e ∙ sym f;
      write = λ c sheet a b e f. e ∙ sym f;
      check = λ c work a b e f. e ∙ sym f;
      apply = λ c places t a b e f. e ∙ sym f;
      runs = λ c weights_of_runs firsts_of_runs a b e f. e ∙ sym f;
      index = λ c p t a b e f. e ∙ sym f;
      access = λ t handle a b e f. e ∙ sym f;
      access_start_is = λ t handle a b e f. e ∙ sym f;
      access_at_once = λ t handle a b e f. e ∙ sym f;
      access_told = λ t handle a b e f. e ∙ sym f;
      plain = λ c word a b e f. e ∙ sym f;
      quick = λ k p word letters t a b e f. e ∙ sym f;
      weigh = λ answer weights_of_runs firsts_of_runs n a b e f. e ∙ sym f;
      weight = λ weights_of_runs firsts_of_runs n handle a b e f. e ∙ sym f;
      weight_records = λ records n handle a b e f. e ∙ sym f;
      report = λ sheet text a b e f. e ∙ sym f;
      cover = λ c places work a b places₁ places₂ work₁ work₂ p q. cover_only c places work p q;
    }

-- ─── refusals ────────────────────────────────────────────────────────────────

-- 7 is given at a repeat alone
refused_seven : {Out : Type 0} (repeat : ℕ) (refuse : Refusal → Out) (done : Out)
    → ((place : ℕ) × (settle (at_place Repeated repeat) refuse done ≡ refuse (Repeated place))) ⊎ (settle (at_place Repeated repeat) refuse done ≡ done)
unfolding settle at_place
refused_seven zero refuse done = inr refl
refused_seven (suc place) refuse done = inl (suc place, refl)

-- an answer that only a refusal gives, of two verdicts in a row
refused_twice : {Out Answer : Type 0} (answer : Out → Answer) (v u : Verdict) (refuse refuse' : Refusal → Out) (done : Out) (r : Answer) → (answer done ≡ r → ⊥)
    → answer (settle v refuse (settle u refuse' done)) ≡ r
    → ((x : Refusal) × (settle v refuse (settle u refuse' done) ≡ refuse x) × (answer (refuse x) ≡ r))
    ⊎ ((x : Refusal) × (settle v refuse (settle u refuse' done) ≡ refuse' x) × (answer (refuse' x) ≡ r) × (u ≡ Err x))
unfolding settle
refused_twice answer (Err x) u refuse refuse' done r not e = inl (x, refl, e)
refused_twice answer (Ok w) (Err x) refuse refuse' done r not e = inr (x, refl, e, refl)
refused_twice answer (Ok w) (Ok y) refuse refuse' done r not e = absurd (not e)

at_seven : (repeat : ℕ) (r : Refusal) → at_place Repeated repeat ≡ Err r → number_of r ≡ 7
unfolding at_place
at_seven zero r e = refuted (cc)
at_seven (suc repeat) r e = let same : Repeated (suc repeat) ≡ r = cc in ap number_of (sym same)

read_kept : (sheet : List ℕ) (t : Tables) (r : Refusal) → (read_of sheet t).answer ≡ Err r
    → read_of sheet t ≡ read_outcome (Err r) t
unfolding read_of
read_kept sheet t r e =
    let by = refused_by (λ (o : ReadOutcome). o.answer) _ _ _ (Err r) (λ q. refuted (cc)) e in
    by.1 ∙ ap (λ (r : Result Filled Refusal). read_outcome r t) by.2

write_kept : (c : Collection) (sheet : List ℕ) (r : Refusal) → (write_of c sheet).answer ≡ Err r
    → write_of c sheet ≡ write_outcome (Err r) sheet
unfolding write_of
write_kept c sheet r e =
    let t = refused_by (λ (o : WriteOutcome). o.answer) _ _ _ (Err r) (λ q. refuted (cc)) e in
    t.1 ∙ ap (λ (r : Result ℕ Refusal). write_outcome r sheet) t.2

runs-kept : (c : Collection) (weights_of_runs firsts_of_runs : List ℕ) (r : Refusal)
    → (runs_of c weights_of_runs firsts_of_runs).answer ≡ Err r
    → runs_of c weights_of_runs firsts_of_runs ≡ listing.outcome (Err r) weights_of_runs firsts_of_runs
unfolding runs_of
runs-kept c weights_of_runs firsts_of_runs r e =
    let t = refused_by (λ (o : listing.Outcome). o.answer) _ _ _ (Err r) (λ q. refuted (cc)) e in
    t.1 ∙ ap (λ (r : Result ℕ Refusal). listing.outcome r weights_of_runs firsts_of_runs) t.2

check_kept : (c : Collection) (work : List ℕ) (r : Refusal) → (check_of c work).answer ≡ Err r
    → ((check_of c work).work ≡ work)
    ⊎ ((number_of r ≡ 7) × ((check_of c work).work ≡ fill (replicate (4 * kmers_in (spelling_of c)) 0) work))
unfolding check_of settle
check_kept c work r e = go (check_verdict c (length work)) e
  where
    n : ℕ
    n = kmers_in (spelling_of c)

    done : checking.Outcome
    done = checking.outcome (settle (at_place Repeated (first_repeat (spelling_of c))) Err (Ok n)) (fill (replicate (4 * n) 0) work)

    go : (v : Verdict) → (settle v (λ x. checking.outcome (Err x) work) done).answer ≡ Err r
        → ((settle v (λ x. checking.outcome (Err x) work) done).work ≡ work)
        ⊎ ((number_of r ≡ 7) × ((settle v (λ x. checking.outcome (Err x) work) done).work ≡ fill (replicate (4 * n) 0) work))
    go (Err x) q = inl refl
    go (Ok u) q = inr (seven (refused_seven (first_repeat (spelling_of c)) Err (Ok n)), refl)
      where
        seven : ((at : ℕ) × (settle (at_place Repeated (first_repeat (spelling_of c))) Err (Ok n) ≡ Err (Repeated at)))
            ⊎ (settle (at_place Repeated (first_repeat (spelling_of c))) Err (Ok n) ≡ Ok n)
            → number_of r ≡ 7
        seven (inl t) =
            let clash : ◌≡◌ {A = Result ℕ Refusal} (Err r) (Err (Repeated t.0)) = sym q ∙ t.1 in
            let same : r ≡ Repeated t.0 = cc in
            ap number_of same
        seven (inr t) = let clash : ◌≡◌ {A = Result ℕ Refusal} (Err r) (Ok n) = sym q ∙ t in refuted (cc)

apply_kept : (c : Collection) (places : List ℤ) (t : applying.Lent) (r : Refusal)
    → (apply_of c places t).answer ≡ Err r
    → (apply_of c places t ≡ applying.outcome (Err r) t)
    ⊎ (apply_of c places t ≡ applying.outcome (Err r) (applying.lent t.new (applying.zeroed (length c.ends) t.work)))
unfolding apply_of placed_of
apply_kept c places t r e =
    go (refused_twice (λ (o : applying.Outcome). o.answer) _ _ _ _ _ (Err r) (λ q. refuted (cc)) e)
  where
    again : applying.Lent
    again = applying.lent t.new (applying.zeroed (length c.ends) t.work)

    go : ((x : Refusal) × (apply_of c places t ≡ applying.outcome (Err x) t) × (◌≡◌ {A = Result apply.Filled Refusal} (Err x) (Err r)))
        ⊎ ((x : Refusal) × (apply_of c places t ≡ applying.outcome (Err x) again) × (◌≡◌ {A = Result apply.Filled Refusal} (Err x) (Err r))
        × (places_verdict (length c.ends) places ≡ Err x))
        → (apply_of c places t ≡ applying.outcome (Err r) t) ⊎ (apply_of c places t ≡ applying.outcome (Err r) again)
    go (inl u) = inl (u.1 ∙ ap (λ (r : Result apply.Filled Refusal). applying.outcome r t) u.2)
    go (inr u) = inr (u.1 ∙ ap (λ (r : Result apply.Filled Refusal). applying.outcome r again) u.2)

index_kept : (c : Collection) (p : ℕ) (t : Lent) (r : Refusal) → (index_of c p t).answer ≡ Err r
    → ((index_of c p t).after ≡ t)
    ⊎ ((number_of r ≡ 7) × ((index_of c p t).after ≡ indexing.untouched (kmers_in (spelling_of c)) t))
unfolding index_of
index_kept c p t r e =
    go (refused_twice (λ (o : indexing.Outcome). o.answer) _ _ _ _ _ (Err r) (λ q. refuted (cc)) e)
  where
    n : ℕ
    n = kmers_in (spelling_of c)

    go : ((x : Refusal) × (index_of c p t ≡ indexing.outcome (Err x) t) × (◌≡◌ {A = Result Indexed Refusal} (Err x) (Err r)))
        ⊎ ((x : Refusal) × (index_of c p t ≡ indexing.outcome (Err x) (indexing.untouched n t)) × (◌≡◌ {A = Result Indexed Refusal} (Err x) (Err r))
        × (at_place Repeated (first_repeat (spelling_of c)) ≡ Err x))
        → ((index_of c p t).after ≡ t) ⊎ ((number_of r ≡ 7) × ((index_of c p t).after ≡ indexing.untouched n t))
    go (inl u) = inl (ap (λ (o : indexing.Outcome). o.after) u.1)
    go (inr u) =
        let clash = u.2 in
        let same : u.0 ≡ r = cc in
        inr (ap number_of (sym same) ∙ at_seven (first_repeat (spelling_of c)) u.0 u.3, ap (λ (o : indexing.Outcome). o.after) u.1)

cover_kept : (c : Collection) (places : List ℤ) (work : List ℕ) (r : Refusal) (places' : List ℤ) (work' : List ℕ)
    → Promise c places work (Err r) places' work' → (places' ≡ places) × (work' ≡ work)
unfolding settle
cover_kept c places work r places' work' = go (cover_verdict c places work) (end_weights c) (length c.ends)
  where
    go : (v : Verdict) (strings : List Ends) (m : ℕ) → CoverOf v strings m places work (Err r) places' work'
        → (places' ≡ places) × (work' ≡ work)
    go (Ok u) strings m covered = let clash = covered.answered in refuted (cc)
    go (Err x) strings m covered = (covered.placed, covered.cleared)

pub kept : Kept
kept = record { read = read_kept; write = write_kept; runs = runs-kept; cover = cover_kept; check = check_kept; apply = apply_kept; index = index_kept }
