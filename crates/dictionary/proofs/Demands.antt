-- The three demands hold. Assumes nothing.
use mathlib.Core.Path.{◌≡◌, sym, ap, ◌∙◌, subst}
use mathlib.Core.List.{List}
use Prim.Native.Nat.{ℕ, ◌+◌, ◌-◌, ◌/◌}
use lib.IntN.{ℤ, pos, nat_abs}
use lib.ListN.{length, get_or, take}
use Rattle.cover.specs.declared.Covered.{Covered}
use Rattle.std.specs.Prelude.{Err, Result, Ok}
use Rattle.collection.specs.declared.refusal.Refusal.{Refusal}
use Rattle.lists.proofs.Storing.{take_fill}
use Rattle.lists.proofs.Refuted.{refuted}
use Rattle.collection.specs.Collection.{Collection}
use Rattle.collection.specs.Judge.{Passes, collection_verdict}
use Rattle.collection.specs.Strings.{Str}
use Rattle.collection.specs.EndWeights.{end_weights}
use Rattle.collection.proofs.Verdicts.{both_good, done_by}
use Rattle.sheet.proofs.Calls.{write_of_read}
use Rattle.cover_trails.specs.Groups.{least, even_groups, odd_weights}
use Rattle.cover_trails.specs.Places.{SignedPermutation}
use Rattle.cover.specs.Cover.{Promise, cover_verdict}
use Rattle.cover.proofs.Laws.{cover_fills}
use Rattle.apply_strings.specs.Weighs.{none}
use Rattle.apply_strings.proofs.Handles.{weight_kept, weight_from}
use Rattle.apply_places.proofs.Permutation.{one_string}
use Rattle.apply_strings.proofs.Reordered.{reordered_passes, reordered-strings, string_stands, string_from}
use Rattle.cover_fewest.specs.Fewest.{runs_at, least_runs}
use Rattle.cover_fewest.proofs.Fewest.{fewest_runs, cover_fewest, none-zero}
use Rattle.dictionary.specs.Demands.{DemandOne, Reordered, DemandTwo, DemandThree}
use Rattle.dictionary.proofs.Determined.{one_outcome, kept}
use Rattle.dictionary.proofs.Dictionary.{answers}
use Rattle.dictionary.proofs.OnceEach.{reordered-distinct}
use Rattle.cover.specs.Cover as covering

pub demand_one : DemandOne
demand_one = record { one_outcome = one_outcome; refusals_keep = kept }

reordered : (c : Collection) (places : List ℤ) → Passes c → SignedPermutation (length c.ends) places → Reordered c places
reordered c places passes perm =
    record {
      stands = λ i l.
          ap (λ (ss : List Str). get_or ss (nat_abs (get_or places i (pos 0)) - 1) none) (reordered-strings c places passes perm)
          ∙ string_stands c places passes perm i l;
      one_place = one_string perm;
      each_place = string_from c places passes perm;
      weights_kept = weight_kept c places passes perm;
      none_new = weight_from c places passes perm;
      sound_kept = λ s.
          record {
            passes = reordered_passes c places passes perm;
            distinct = reordered-distinct c places passes perm s.distinct;
          };
    }

pub demand_two : DemandTwo
demand_two = record { found = answers; reordering = reordered; same_bytes = write_of_read }

-- what an answer of COVER says; nothing where it refuses
abbrev told : Result Covered Refusal → Covered
told (Ok m) = m
told (Err r) = record { places = 0; paths = 0 }

covered : (c : Collection) (places : List ℤ) (work : List ℕ) (m paths : ℕ) (places' : List ℤ) (work' : List ℕ)
    → Promise c places work (covering.covered m paths) places' work'
    → SignedPermutation (length c.ends) (take m places') × (runs_at c (take m places') ≡ least_runs c)
    × (paths ≡ even_groups (end_weights c) + odd_weights (end_weights c) / 2)
unfolding cover_verdict least
covered c places work m paths places' work' p =
    let good = done_by (λ (x : Result Covered Refusal). x) (cover_verdict c places work) Err (covering.covered (length c.ends) (least (end_weights c)))
    (covering.covered m paths)
    (λ r q. refuted (cc)) (sym p.answered) in
    let passes : Passes c = (both_good (collection_verdict c) _ good.0).0 in
    let filled = cover_fills c places work p good.0 in
    let a : length c.ends ≡ m = ap (λ (r : Result Covered Refusal). (told r).places) good.2 in
    let b : least (end_weights c) ≡ paths = ap (λ (r : Result Covered Refusal). (told r).paths) good.2 in
    let e : filled.0 ≡ take m places' = sym (ap (take m) filled.1 ∙ take_fill filled.0 places m (filled.2.number ∙ a)) in (
      subst (SignedPermutation (length c.ends)) e filled.2,
      ap (runs_at c) (sym e) ∙ cover_fewest c passes filled.0 filled.3,
      sym b,
    )

pub demand_three : DemandThree
demand_three = record { fewest = fewest_runs; covered = covered; empty = none-zero }
