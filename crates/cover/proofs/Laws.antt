-- What a caller reads off COVER's promise: no order and turning has fewer paths, and the promise determines all but which of the best orders is filled in.
use mathlib.Core.Path.{◌≡◌, refl, sym, ◌∙◌, subst}
use mathlib.Core.List.{List}
use Prim.Native.Nat.{ℕ, ◌+◌, ◌/◌, ◌≤◌}
use lib.IntN.{ℤ}
use lib.ListN.{length, length-map}
use Rattle.cover.specs.declared.Covered.{Covered}
use Rattle.std.specs.Prelude.{Err, Result}
use Rattle.collection.specs.Verdict.{Verdict, good}
use Rattle.collection.specs.declared.refusal.Refusal.{Refusal}
use Rattle.lists.specs.Fill.{fill}
use Rattle.collection.specs.Collection.{Collection}
use Rattle.collection.specs.Strings.{strings}
use Rattle.collection.specs.EndWeights.{ends_of, end_weights}
use Rattle.collection.proofs.Strings.{strings_count}
use Rattle.cover_trails.specs.Groups.{even_groups, odd_weights, least}
use Rattle.cover_trails.specs.Paths.{path_count}
use Rattle.cover_trails.specs.Places.{SignedPermutation, arranged}
use Rattle.cover_trails.specs.Strings.{Ends, turned}
use Rattle.cover_trails.proofs.Bounds.{none_fewer}
use Rattle.cover.specs.Cover.{cover_verdict, Fewest, PlacesAfter, Promise, covered}
use Rattle.collection.proofs.Verdicts.{settled}

-- ─── the strings ─────────────────────────────────────────────────────────────

-- each of the m strings has its end weights
pub ends_count : (c : Collection) → length (end_weights c) ≡ length c.ends
unfolding end_weights
ends_count c = length-map (strings c) ends_of ∙ strings_count c

-- ─── fewest ──────────────────────────────────────────────────────────────────

-- no signed permutation has fewer paths
pub cover_least : {strings : List Ends} {ps : List ℤ} → Fewest strings ps
    → (qs : List ℤ) → SignedPermutation (length strings) qs → path_count (arranged turned ps strings) ≤ path_count (arranged turned qs strings)
cover_least {strings} f qs s = rw f.fewest (none_fewer strings qs s)

-- the number is E + O / 2
pub cover_number : {strings : List Ends} {ps : List ℤ} → Fewest strings ps
    → path_count (arranged turned ps strings) ≡ even_groups strings + odd_weights strings / 2
unfolding least
cover_number f = f.fewest

module _ (c : Collection) (places : List ℤ) (work : List ℕ) {answer : Result Covered Refusal} {places' : List ℤ} {work' : List ℕ}
    (p : Promise c places work answer places' work') where
  -- accepted, the call answers m and the least number of paths
  pub cover_answers : cover_verdict c places work ≡ good → answer ≡ covered (length c.ends) (least (end_weights c))
  cover_answers e = p.answered ∙ sym (settled Err refl e)

  -- and fills in places that are a signed permutation of 1 to m with as many paths
  pub cover_fills : cover_verdict c places work ≡ good
      → (ps : List ℤ) × (places' ≡ fill ps places) × SignedPermutation (length c.ends) ps × Fewest (end_weights c) ps
  cover_fills e =
      let u = subst (λ (v : Verdict). PlacesAfter v (end_weights c) places places') e p.placed in
      (u.0, u.1, subst (λ (m : ℕ). SignedPermutation m u.0) (ends_count c) u.2.permutation, u.2)

  -- no second answer, and no second table of work, meets the promise
  pub cover_only : {answer₂ : Result Covered Refusal} {places₂ : List ℤ} {work₂ : List ℕ} → Promise c places work answer₂ places₂ work₂
      → (answer ≡ answer₂) × (work' ≡ work₂)
  cover_only q = (p.answered ∙ sym q.answered, p.cleared ∙ sym q.cleared)
