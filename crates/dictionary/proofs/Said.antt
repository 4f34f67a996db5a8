-- What QUICK and WEIGHT answer over a reordered collection is what the collection itself says of the word, for any collection that passes the checks and any
-- places. Assumes nothing.
use mathlib.Core.Path.{◌≡◌, refl, sym, ap, ◌∙◌}
use mathlib.Core.Logic.{◌⊎◌, inl, inr}
use mathlib.Core.List.{List}
use Prim.Native.Nat.{ℕ}
use native.Mathlib.Omega.{arith}
use lib.IntN.{ℤ}
use lib.ListN.{length}
use Rattle.std.specs.Prelude.{Ok, Err, Result, Option, Some, None}
use Rattle.collection.specs.Verdict.{good}
use Rattle.collection.specs.declared.refusal.Refusal.{Refusal}
use Rattle.words.specs.Word.{Letters, spell, turn}
use Rattle.words.proofs.Turning.{turn-turn}
use Rattle.collection.specs.Collection.{Collection, spelling_of}
use Rattle.collection.specs.declared.Side.{Side}
use Rattle.collection.specs.declared.Side.TheVariants.{Asked, Turned}
use Rattle.collection.specs.Judge.{Passes, word_verdict}
use Rattle.collection.specs.Kmers.{position_of, word_of, weight_of, Distinct}
use Rattle.collection.specs.Strings.{joined}
use Rattle.collection.proofs.Judged.{collection_good}
use Rattle.collection.proofs.Ready.{judged_ready, word_letters}
use Rattle.plain.specs.Says.{Stands}
use Rattle.cover_trails.specs.Places.{SignedPermutation}
use Rattle.apply_strings.specs.Reordered.{reordered}
use Rattle.apply_strings.specs.Weighs.{WeighsAt}
use Rattle.apply_strings.proofs.Handles.{weight_kept, weight_from}
use Rattle.apply_strings.proofs.Reordered.{reordered_passes}
use Rattle.runs.specs.Runs.{weights_of_runs, firsts_of_runs}
use Rattle.index.specs.Indexing.{index_with}
use Rattle.index_minimizers.specs.Minimizer.{sizes_verdict}
use Rattle.quick.specs.declared.QuickAnswer.{QuickAnswer}
use Rattle.quick.specs.declared.QuickAnswer.TheVariants.{Found, Absent}
use Rattle.quick.specs.Quick.{quick_of}
use Rattle.quick.specs.Weighed.{weighed_of}
use Rattle.dictionary.specs.Agreement.{sided}
use Rattle.dictionary.specs.Dictionary.{Answers, weighed}
use Rattle.dictionary.proofs.Dictionary.{word_spelt, found_weighs, many, answers}
use Rattle.dictionary.proofs.OnceEach.{reordered-distinct}

-- an answer says what the collection says of the word w: its weight, where it stands there as asked or turned; absent, where it does not
abbrev pub Said : Collection → List ℕ → Result (Option ℕ) Refusal → Type 0
Said c w answer =
    ((weight : ℕ) × (answer ≡ Ok (Some weight)) × WeighsAt c w weight)
    ⊎ ((answer ≡ Ok None) × ((weight : ℕ) → WeighsAt c w weight → ⊥))

-- a word that stands at a handle on either side has the handle's weight
stands_weighs : (c : Collection) (w : List ℕ) → Letters w → (side : Side) (handle : ℕ) → Stands (spelling_of c) (sided side w) handle
    → WeighsAt c w (weight_of c.weights handle)
stands_weighs c w g Asked handle s = (handle, s.low, s.high, inl s.word, refl)
stands_weighs c w g Turned handle s = (handle, s.low, s.high, inr (ap turn s.word ∙ turn-turn w g), refl)

module _ (c : Collection) (p : ℕ) (places : List ℤ) (passes : Passes c) (perm : SignedPermutation (length c.ends) places) (distinct : Distinct (spelling_of c))
    (sizes : sizes_verdict c.k p ≡ good) (asked : List ℕ) (good : word_verdict c.k asked ≡ good) where
  -- the reordered collection
  abbrev new : Collection
  new = joined c.k (reordered c places)

  passes' : Passes new
  passes' = reordered_passes c places passes perm

  a : Answers new p
  a = answers new p (record { passes = passes'; distinct = reordered-distinct c places passes perm distinct }) sizes

  -- QUICK and WEIGHT over the reordered collection answer what the collection says
  pub reordered_says : Said c (spell asked) (weighed new p asked)
  unfolding weighed_of
  reordered_says = go (quick_of c.k p asked new.letters (index_with (spelling_of new) p)) refl
    where
      back : (weight : ℕ) → WeighsAt new (spell asked) weight → WeighsAt c (spell asked) weight
      back weight = weight_from c places passes perm (spell asked) weight

      none : (compared : ℕ) → quick_of c.k p asked new.letters (index_with (spelling_of new) p) ≡ Ok (Absent compared) → (weight : ℕ)
          → WeighsAt c (spell asked) weight
          → ⊥
      none compared e weight u =
          let t = weight_kept c places passes perm (spell asked) weight u in
          let n = a.absent asked good compared e in
          either n t
        where
          either : (((h : ℕ) → Stands (spelling_of new) (spell asked) h → ⊥) × ((h : ℕ) → Stands (spelling_of new) (turn (spell asked)) h → ⊥))
              → WeighsAt new (spell asked) weight → ⊥
          either n (h, l, m, inl q, x) = n.0 h (record { low = l; high = m; word = q })
          either n (h, l, m, inr q, x) =
              n.1 h (record {
                low =
                    l;
                high = m;
                word = sym (turn-turn (word_of (spelling_of new) h) (word_letters (judged_ready (collection_good new passes')) (position_of c.k new.ends h)))
                    ∙ ap turn q;
              })

      go : (x : Result QuickAnswer Refusal) → quick_of c.k p asked new.letters (index_with (spelling_of new) p) ≡ x → Said c (spell asked) (weighed new p asked)
      go (Ok (Found handle side compared)) e =
          let s = a.found asked good handle side compared e in
          inl (
            weight_of new.weights handle,
            found_weighs new passes' _ handle side compared s.low (omega (arith, s.high, many new p passes' sizes)) e,
            back (weight_of new.weights handle) (stands_weighs new (spell asked) (word_spelt c.k asked good) side handle s),
          )
      go (Ok (Absent compared)) e =
          inr (
            ap (λ (x : Result QuickAnswer Refusal). weighed_of x (weights_of_runs new.weights) (firsts_of_runs new.weights) (length new.weights)) e,
            none compared e,
          )
      go (Err r) e = absurd (a.taken asked good r e)
