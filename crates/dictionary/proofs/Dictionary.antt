-- Demand 2 holds over every collection that passes the checks: QUICK finds exactly the words that stand there, each with its own handle and weight. Assumes
-- nothing.
use mathlib.Core.Path.{◌≡◌, sym, ap, ap₂, ◌∙◌}
use mathlib.Core.Bool.{Bool}
use mathlib.Core.Logic.{◌⊎◌, inl, inr}
use mathlib.Core.List.{List}
use Prim.Native.Nat.{ℕ, ◌+◌, ◌-◌, ◌≤◌}
use native.Mathlib.Omega.{arith}
use borrow.Author.Tests.{le-leb}
use lib.ListN.{length}
use Rattle.plain.specs.Plain.{found_at}
use Rattle.collection.specs.declared.refusal.Refusal.{Refusal}
use Rattle.std.specs.Prelude.{Err, Ok, Result, Some}
use Rattle.collection.specs.Verdict.{good}
use Rattle.collection.specs.declared.refusal.Refusal.TheVariants.{Question}
use Rattle.lists.specs.Choose.{choose}
use Rattle.lists.proofs.Every.{and_both, every-all}
use Rattle.lists.proofs.Refuted.{refuted}
use Rattle.alphabet.specs.Letter.{is_letter}
use Rattle.words.specs.Word.{Letters, spell, turn}
use Rattle.words.proofs.Spelled.{spell-letters}
use Rattle.words.proofs.Turning.{turn-turn}
use Rattle.collection.specs.Collection.{Collection, spelling_of}
use Rattle.collection.specs.declared.Side.{Side}
use Rattle.collection.specs.declared.Side.TheVariants.{Asked, Turned}
use Rattle.collection.specs.Judge.{Passes, word_verdict, shape_verdict, handle_verdict, collection_verdict}
use Rattle.collection.specs.Kmers.{kmers, word_of, weight_of, Distinct}
use Rattle.collection.proofs.Judged.{Judged, collection_good, word_good}
use Rattle.collection.proofs.Verdicts.{both_good, then_good}
use Rattle.collection.proofs.Strung.{each_weighed}
use Rattle.access.specs.Access.{access_verdict}
use Rattle.access.proofs.Accessed.{access_word}
use Rattle.plain.specs.Says.{Stands}
use Rattle.runs.specs.Runs.{weights_of_runs, firsts_of_runs}
use Rattle.weight.proofs.GivenBack.{runs_then_weight}
use Rattle.index_minimizers.specs.Minimizer.{sizes_verdict}
use Rattle.quick.specs.declared.QuickAnswer.{QuickAnswer}
use Rattle.quick.specs.declared.QuickAnswer.TheVariants.{Found, Absent}
use Rattle.quick.specs.Weighed.{weighs, weighed_of}
use Rattle.dictionary.specs.Agreement.{unnumbered, as_plain, sided}
use Rattle.dictionary.proofs.Agreed.{standing_same, plain_same, found_stands, absent_nowhere, never_refused, stands_found, quick_own}
use Rattle.dictionary.specs.Dictionary.{Sound, Answers}

-- a judged word has letters only
pub word_spelt : (k : ℕ) (word : List ℕ) → word_verdict k word ≡ good → Letters (spell word)
word_spelt k word fits = spell-letters word (every-all is_letter word (word_good k word fits).1)

-- a word found weighs what its handle weighs
pub found_weighs : (c : Collection) → Passes c → (answer : Result QuickAnswer Refusal) (handle : ℕ) (side : Side) (compared : ℕ)
    → 1 ≤ handle → handle ≤ length c.weights
    → answer ≡ Ok (Found handle side compared)
    → weighed_of answer (weights_of_runs c.weights) (firsts_of_runs c.weights) (length c.weights) ≡ Ok (Some (weight_of c.weights handle))
unfolding weighed_of weighs
found_weighs c passes answer handle side compared l m e =
    ap (λ (a : Result QuickAnswer Refusal). weighed_of a (weights_of_runs c.weights) (firsts_of_runs c.weights) (length c.weights)) e
    ∙ ap weighs (runs_then_weight c passes handle l m)

module _ (c : Collection) (p : ℕ) (passes : Passes c) (sizes : sizes_verdict c.k p ≡ good) where
  judged : Judged c
  judged = collection_good c passes

  -- as many weights as k-mers
  pub many : length c.weights ≡ length (kmers c.k c.ends)
  many = each_weighed judged

  module _ (word : List ℕ) (good : word_verdict c.k word ≡ good) where
    -- two handles at which the word stands, on either side, are one
    one_handle : Distinct (spelling_of c) → (s t : Side) (h j : ℕ) → Stands (spelling_of c) (sided s (spell word)) h
        → Stands (spelling_of c) (sided t (spell word)) j → h ≡ j
    one_handle d s t h j a b =
        omega (arith, d (h - 1) (j - 1) (omega (arith, a.low, a.high)) (omega (arith, b.low, b.high)) (alike s t a.word b.word), a.low, b.low)
      where
        back : (i : ℕ) → 1 ≤ i → word_of (spelling_of c) (i - 1 + 1) ≡ word_of (spelling_of c) i
        back i l = let e : i - 1 + 1 ≡ i = omega arith in ap (word_of (spelling_of c)) e

        u : List ℕ
        u = word_of (spelling_of c) (h - 1 + 1)

        v : List ℕ
        v = word_of (spelling_of c) (j - 1 + 1)

        alike : (s t : Side) → word_of (spelling_of c) h ≡ sided s (spell word) → word_of (spelling_of c) j ≡ sided t (spell word) → (u ≡ v) ⊎ (u ≡ turn v)
        alike Asked Asked x y = inl (back h a.low ∙ (x ∙ (sym y ∙ sym (back j b.low))))
        alike Turned Turned x y = inl (back h a.low ∙ (x ∙ (sym y ∙ sym (back j b.low))))
        alike Turned Asked x y = inr (back h a.low ∙ (x ∙ ap turn (sym y ∙ sym (back j b.low))))
        alike Asked Turned x y =
            inr (back h a.low ∙ (x ∙ (sym (turn-turn (spell word) (word_spelt c.k word good)) ∙ ap turn (sym y ∙ sym (back j b.low)))))

  handle_good : (handle : ℕ) → 1 ≤ handle → handle ≤ length c.weights → access_verdict (spelling_of c) handle ≡ good
  unfolding access_verdict handle_verdict collection_verdict
  handle_good handle l m =
      then_good _ (both_good (shape_verdict (spelling_of c)) _ passes).0
      (ap (λ (t : Bool). choose t good (Err Question)) (and_both (le-leb 1 handle l) (le-leb handle _ (omega (arith, judged.counted)))))

-- a QUICK that agrees with PLAIN's find found it
found_as : (a : Result QuickAnswer Refusal) (handle : ℕ) (side : Side) → as_plain a ≡ Ok (found_at handle side)
    → (compared : ℕ) × (a ≡ Ok (Found handle side compared))
unfolding unnumbered as_plain
found_as (Ok (Found h s c)) handle side e =
    let q = standing_same (plain_same e) in (c, ap₂ (λ (x : ℕ) (y : Side). Ok (Found x y c)) q.0 q.1)
found_as (Ok (Absent c)) handle side e = refuted (cc)
found_as (Err r) handle side e = refuted (cc)

pub answers : (c : Collection) (p : ℕ) → Sound c → sizes_verdict c.k p ≡ good → Answers c p
answers c p sound sizes =
    record {
      stands = λ word good side handle s.
          let either : (x : Side) → Stands (spelling_of c) (sided x (spell word)) handle
          → Stands (spelling_of c) (spell word) handle ⊎ Stands (spelling_of c) (turn (spell word)) handle = by_side word handle in
          let f = stands_found c p passes sizes word good handle (either side s) in
          let t = found_stands c p passes sizes word good f.0 f.1 f.2 f.3 in
          let h = one_handle c p passes sizes word good sound.distinct f.1 side f.0 handle t s in
          let e = f.3 ∙ ap (λ (i : ℕ). Ok (Found i f.1 f.2)) h in
          (f.1, f.2, e, found_weighs c passes _ handle f.1 f.2 s.low (omega (arith, s.high, many c p passes sizes)) e);
      found = found_stands c p passes sizes;
      absent = λ word good compared e. absent_nowhere c p passes sizes word good compared e;
      taken = never_refused c p passes sizes;
      given_back = λ handle l m.
          let v = handle_good c p passes sizes handle l m in
          (v, access_word (spelling_of c) handle v, found_as _ handle Asked (quick_own c p passes sizes handle v sound.distinct));
    }
  where
    passes : Passes c
    passes = sound.passes

    by_side : (word : List ℕ) (handle : ℕ) (x : Side) → Stands (spelling_of c) (sided x (spell word)) handle
        → Stands (spelling_of c) (spell word) handle ⊎ Stands (spelling_of c) (turn (spell word)) handle
    by_side word handle Asked s = inl s
    by_side word handle Turned s = inr s
