-- COVER's promise from its verdict: refused, with no strings, and done.
use mathlib.Core.Path.{◌≡◌, refl, ap, sym, ◌∙◌, subst}
use mathlib.Core.List.{List, [], ◌∷◌, ◌++◌}
use Prim.Native.Nat.{ℕ, ◌*◌, ◌≤◌}
use native.Mathlib.Omega.{arith}
use lib.IntN.{ℤ}
use lib.ListN.{length, take, drop, replicate, length-replicate}
use lib.Seq.{length-take-le}
use Rattle.std.specs.Prelude.{Err}
use Rattle.collection.specs.declared.refusal.Refusal.{Refusal}
use Rattle.lists.specs.Fill.{fill}
use Rattle.collection.specs.Collection.{Collection, collection, spelling_of}
use Rattle.collection.specs.Judge.{collection_verdict}
use Rattle.collection.specs.Strings.{strings_from}
use Rattle.collection.specs.Verdict.{room_verdict, Verdict, good}
use Rattle.collection.specs.EndWeights.{end_weights}
use Rattle.collection.proofs.Judged.{Judged, collection_good}
use Rattle.collection.proofs.Verdicts.{both_good, room_good, refused, settled}
use Rattle.collection.proofs.Strung.{each_weighed}
use Rattle.cover_trails.specs.Strings.{Ends}
use Rattle.cover_trails.specs.Places.{SignedPermutation, arranged_to}
use Rattle.cover_trails.proofs.Bounds.{no_strings}
use Rattle.cover_trails.proofs.Paths.{paths-none}
use Rattle.cover_tours.specs.Layout.{Fits}
use Rattle.cover_vertices.specs.Promises.{ends_from}
use Rattle.cover_vertices.proofs.EndWeights.{end_weights_lem}
use Rattle.cover.specs.Cover.{cover_verdict, Fewest, PlacesAfter, CoverOf, Promise, covered}
use Rattle.cover.specs.Covering.{Covering}

-- ─── what a good verdict tells ───────────────────────────────────────────────

-- the collection passes, and there is room for the places and the work
pub record Roomy (c : Collection) (places : List ℤ) (work : List ℕ) : Type 0 where
  pub judged : Judged c
  pub places_room : length c.ends ≤ length places
  pub work_room : 16 * length c.ends ≤ length work

-- which a good verdict tells
pub cover_good : (c : Collection) (places : List ℤ) (work : List ℕ) → cover_verdict c places work ≡ good → Roomy c places work
unfolding cover_verdict
cover_good c places work h =
    let a = both_good (collection_verdict c) _ h in
    let b = both_good (room_verdict (length places) (length c.ends)) _ a.1 in
    record {
      judged = collection_good c a.0;
      places_room = room_good (length places) (length c.ends) b.0;
      work_room = room_good (length work) (16 * length c.ends) b.1;
    }

module _ {c : Collection} {places : List ℤ} {work : List ℕ} (r : Roomy c places work) where
  -- the end weights that are covered are those of the strings
  pub same_ends : ends_from c.k 0 c.ends c.weights ≡ end_weights c
  same_ends = sym (end_weights_lem (spelling_of c) c.weights r.judged.shape.long (each_weighed r.judged))

  -- the lent part of the work
  pub work_fits : (length c.ends ≡ 0 → ⊥) → Fits (length c.ends) (take (16 * length c.ends) work)
  work_fits h = record { some = omega arith; few = r.judged.shape.m_high; size = length-take-le (16 * length c.ends) work r.work_room }

  -- the lent part of the places
  pub places_fit : length (take (length c.ends) places) ≡ length c.ends
  places_fit = length-take-le (length c.ends) places r.places_room

-- ─── the three ends of a call ────────────────────────────────────────────────

module _ {verdict : Verdict} {strings : List Ends} {m : ℕ} {places : List ℤ} {work : List ℕ} where
  -- where it is refused
  pub cover_refused : {r : Refusal} → verdict ≡ Err r → CoverOf verdict strings m places work (Err r) places work
  cover_refused e = record {
    answered = refused Err _ e;
    cleared = refused (λ r. work) _ e;
    placed = subst (λ (v : Verdict). PlacesAfter v strings places places) (sym e) refl;
  }

  -- where all strings are covered
  pub cover_done : verdict ≡ good → {qs places' : List ℤ} {v work' : List ℕ} {n : ℕ} → Covering strings m qs v n → places' ≡ qs ++ drop m places
      → work' ≡ v ++ drop (16 * m) work
      → CoverOf verdict strings m places work (covered m n) places' work'
  cover_done e {qs} {places'} {v} {work'} {n} c p w = record {
    answered = settled Err (ap (covered m) c.paths) e;
    cleared = settled (λ r. work) (w ∙ zeros) e;
    placed = subst (λ (x : Verdict). PlacesAfter x strings places places') (sym e)
        (qs, p ∙ ap (λ (i : ℕ). qs ++ drop i places) (sym c.places_size), c.places_fewest);
  }
    where
      zeros : v ++ drop (16 * m) work ≡ fill (replicate (16 * m) 0) work
      zeros =
          ap (λ (x : List ℕ). x ++ drop (16 * m) work) c.work_zero
          ∙ ap (λ (i : ℕ). replicate (16 * m) 0 ++ drop i work) (sym (length-replicate (16 * m) 0))

-- no strings: nothing to fill
nothing_permuted : SignedPermutation 0 []
nothing_permuted = record { number = refl; range = tt; once = λ k a b. absurd (omega arith) }

fewest_none : Fewest [] []
unfolding arranged_to
fewest_none = record { permutation = nothing_permuted; fewest = paths-none ∙ sym no_strings.2 }

no_ends : (k : ℕ) (letters ends weights : List ℕ) → length ends ≡ 0 → end_weights (collection k letters ends weights) ≡ []
unfolding end_weights strings_from
no_ends k letters [] weights e = refl
no_ends k letters (x ∷ ends) weights e = absurd (omega arith)

-- so the promise is kept with no strings
pub cover_none : {verdict : Verdict} (k : ℕ) (letters ends weights : List ℕ) {places : List ℤ} {work : List ℕ} → verdict ≡ good → length ends ≡ 0
    → CoverOf verdict (end_weights (collection k letters ends weights)) (length ends) places work (covered 0 0) places work
cover_none {verdict} k letters ends weights {places} {work} e z =
    subst (λ (m : ℕ). CoverOf verdict (end_weights (collection k letters ends weights)) m places work (covered 0 0) places work) (sym z)
    (subst (λ (L : List Ends). CoverOf verdict L 0 places work (covered 0 0) places work) (sym (no_ends k letters ends weights z))
    (cover_done e (record { paths = sym no_strings.2; places_fewest = fewest_none; places_size = refl; work_zero = refl }) refl refl))

-- all strings covered, in parts of the lent tables
pub cover_all : (c : Collection) (places : List ℤ) (work : List ℕ) → cover_verdict c places work ≡ good
    → {qs : List ℤ} {v : List ℕ} {n : ℕ} → Covering (ends_from c.k 0 c.ends c.weights) (length c.ends) qs v n
    → Promise c places work (covered (length c.ends) n) (qs ++ drop (length c.ends) places) (v ++ drop (16 * length c.ends) work)
cover_all c places work e {qs} {v} {n} covering =
    cover_done e (subst (λ (L : List Ends). Covering L (length c.ends) qs v n) (same_ends (cover_good c places work e)) covering) refl refl
