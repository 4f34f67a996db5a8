-- QUICK over the index of a collection that passes 2 to 6, by its minimizers: it is not refused, it agrees with PLAIN, and what its answers
-- say. Assumes nothing.
use mathlib.Core.Path.{◌≡◌, refl, sym, ap, ◌∙◌, subst}
use mathlib.Core.Bool.{Bool, true, ◌&&◌}
use mathlib.Core.Logic.{◌⊎◌, ⊎_elim}
use mathlib.Core.List.{List}
use Prim.Native.Nat.{ℕ, ◌^◌, ◌<◌}
use native.Mathlib.Omega.{arith}
use borrow.Author.Tests.{le-leb, eq-eqb}
use lib.Dec.{eqb}
use lib.ListN.{length, take, drop}
use Rattle.plain.specs.declared.Standing.{Standing}
use Rattle.std.specs.Prelude.{Err, Ok, Result, Option, Some, None}
use Rattle.collection.specs.Verdict.{good}
use Rattle.collection.specs.declared.refusal.Refusal.TheVariants.{Limits, Question}
use Rattle.collection.specs.declared.refusal.Refusal.{Refusal}
use Rattle.lists.specs.Choose.{choose}
use Rattle.lists.specs.Every.{every}
use Rattle.lists.specs.Limits.{most_letters, most_strings}
use Rattle.lists.proofs.Every.{and_both, all-every, all_take, all_drop}
use Rattle.lists.proofs.Refuted.{refuted}
use Rattle.alphabet.specs.Letter.{is_letter}
use Rattle.words.specs.Word.{spell, turn}
use Rattle.words.proofs.Rolling.{length_at}
use Rattle.collection.specs.Collection.{Collection, spelling_of}
use Rattle.collection.specs.declared.Side.{Side}
use Rattle.collection.specs.declared.Side.TheVariants.{Asked, Turned}
use Rattle.collection.specs.Judge.{Passes, size_verdict, word_verdict}
use Rattle.collection.specs.Kmers.{position_of, Distinct}
use Rattle.collection.proofs.Judged.{Judged, collection_good}
use Rattle.collection.proofs.Kmers.{position_fits}
use Rattle.collection.proofs.Verdicts.{then_good, settled}
use Rattle.access.specs.Access.{access_verdict, access_part}
use Rattle.plain.specs.Plain.{plain_found, plain_of, found_at}
use Rattle.access.proofs.Accessed.{access_good, access_word}
use Rattle.plain.specs.Says.{Says, as_asked, as_turned, absent, Stands, Nowhere}
use Rattle.plain.proofs.Found.{plain_own}
use Rattle.index_minimizers.specs.Minimizer.{sizes_verdict, minimizer, minimizer_at}
use Rattle.index_stretches.specs.Index.{Index, indexed}
use Rattle.quick.specs.declared.QuickAnswer.{QuickAnswer}
use Rattle.quick.specs.declared.QuickAnswer.TheVariants.{Found, Absent}
use Rattle.quick.specs.Quick.{quick_found, ask_verdict, quick_verdict, quick_of}
use Rattle.quick.proofs.Asked.{ask_good, row_below, other_below}
use Rattle.dictionary.specs.Agreement.{unnumbered, as_plain, sided}
use Rattle.dictionary.proofs.Found.{quick_plain, quick_says, never_ten}

-- the parts of two answers that are the same are the same
abbrev quick_in : Result QuickAnswer Refusal → QuickAnswer
quick_in (Ok a) = a
quick_in (Err r) = Absent 0

quick_same : {a b : QuickAnswer} → ◌≡◌ {A = Result QuickAnswer Refusal} (Ok a) (Ok b) → a ≡ b
quick_same e = ap quick_in e

abbrev plain_in : Result (Option Standing) Refusal → Option Standing
plain_in (Ok a) = a
plain_in (Err r) = None

pub plain_same : {a b : Option Standing} → ◌≡◌ {A = Result (Option Standing) Refusal} (Ok a) (Ok b) → a ≡ b
plain_same e = ap plain_in e

abbrev standing_in : Option Standing → Standing
standing_in (Some s) = s
standing_in None = record { handle = 0; side = Asked }

pub standing_same : {h handle : ℕ} {s side : Side} → found_at h s ≡ found_at handle side → (h ≡ handle) × (s ≡ side)
standing_same e = (ap (λ (o : Option Standing). (standing_in o).handle) e, ap (λ (o : Option Standing). (standing_in o).side) e)

module _ (c : Collection) (p : ℕ) (passes : Passes c) (sizes : sizes_verdict c.k p ≡ good) where
  -- the index of the collection
  abbrev pub index : Index
  index = indexed (minimizer_at c.k p c.letters) (4 ^ p) c.k c.ends

  judged : Judged c
  judged = collection_good c passes

  module _ (word : List ℕ) (fits : word_verdict c.k word ≡ good) where
    few_letters : size_verdict (length c.letters) 0 ≡ good
    unfolding size_verdict
    few_letters =
        ap (λ (t : Bool). choose t good (Err Limits))
        (and_both (le-leb (length c.letters) most_letters judged.shape.letters_high) (le-leb 0 most_strings (omega arith)))

    -- no verdict refuses it
    asking : ask_verdict c.k p word (length c.letters) ≡ good
    unfolding ask_verdict
    asking = then_good _ sizes (then_good _ few_letters fits)

    asked_below : minimizer p (spell word) < 4 ^ p
    asked_below = row_below (ask_good c.k p word (length c.letters) asking)

    turned_below : minimizer p (turn (spell word)) < 4 ^ p
    turned_below = other_below (ask_good c.k p word (length c.letters) asking)

    quick_passes : quick_verdict c.k p word c.letters index ≡ good
    unfolding quick_verdict
    quick_passes = then_good _ asking (never_ten (minimizer p) (4 ^ p) c.k c.letters c.ends judged.shape (spell word) asked_below turned_below)

    quick_answers : quick_of c.k p word c.letters index ≡ Ok (quick_found (minimizer p) c.k c.letters index (spell word))
    unfolding quick_of
    quick_answers = sym (settled Err refl quick_passes)

    -- QUICK and PLAIN agree
    pub quick_agrees : as_plain (quick_of c.k p word c.letters index) ≡ plain_of c word
    unfolding plain_of as_plain
    quick_agrees =
        ap as_plain quick_answers
        ∙ settled Err (ap Ok (quick_plain (minimizer p) (4 ^ p) c.k c.letters c.ends (spell word) asked_below turned_below))
        (then_good (word_verdict c.k word) passes fits)

    -- it is answered, and what it finds are exactly the words that stand in the collection, as asked or turned, with their lowest handles
    pub quick_finds : (answer : QuickAnswer) × (quick_of c.k p word c.letters index ≡ Ok answer) × Says (spelling_of c) (spell word) (unnumbered answer)
    quick_finds = (
      quick_found (minimizer p) c.k c.letters index (spell word),
      quick_answers,
      quick_says (minimizer p) (4 ^ p) c.k c.letters c.ends (spell word) asked_below turned_below,
    )

    -- the same of the answer that it gave
    pub answer_says : (answer : QuickAnswer) → quick_of c.k p word c.letters index ≡ Ok answer → Says (spelling_of c) (spell word) (unnumbered answer)
    answer_says answer e =
        let f = quick_finds in subst (λ (a : QuickAnswer). Says (spelling_of c) (spell word) (unnumbered a)) (quick_same (sym f.1 ∙ e)) f.2

    -- found, the asked word stands at the handle, on the side that is told
    pub found_stands : (handle : ℕ) (side : Side) (compared : ℕ) → quick_of c.k p word c.letters index ≡ Ok (Found handle side compared)
        → Stands (spelling_of c) (sided side (spell word)) handle
    unfolding unnumbered
    found_stands handle side compared e = go (answer_says (Found handle side compared) e) refl
      where
        at : (h : ℕ) (s : Side) → Stands (spelling_of c) (sided s (spell word)) h → (h ≡ handle) × (s ≡ side)
            → Stands (spelling_of c) (sided side (spell word)) handle
        at h s x q =
            subst (λ (i : ℕ). Stands (spelling_of c) (sided side (spell word)) i) q.0
            (subst (λ (t : Side). Stands (spelling_of c) (sided t (spell word)) h) q.1 x)

        go : {answer : Option Standing} → Says (spelling_of c) (spell word) answer → answer ≡ found_at handle side
            → Stands (spelling_of c) (sided side (spell word)) handle
        go (as_asked h s) q = at h Asked s.here (standing_same q)
        go (as_turned h none s) q = at h Turned s.here (standing_same q)
        go (absent none none') q = refuted (cc)

    -- absent, neither stands anywhere
    pub absent_nowhere : (compared : ℕ) → quick_of c.k p word c.letters index ≡ Ok (Absent compared)
        → Nowhere (spelling_of c) (spell word) × Nowhere (spelling_of c) (turn (spell word))
    unfolding unnumbered
    absent_nowhere compared e = go (answer_says (Absent compared) e) refl
      where
        go : {answer : Option Standing} → Says (spelling_of c) (spell word) answer → answer ≡ None
            → Nowhere (spelling_of c) (spell word) × Nowhere (spelling_of c) (turn (spell word))
        go (as_asked h s) q = refuted (cc)
        go (as_turned h none s) q = refuted (cc)
        go (absent none none') q = (none, none')

    -- no word of k letters is refused
    pub never_refused : (r : Refusal) → quick_of c.k p word c.letters index ≡ Err r → ⊥
    never_refused r e = let clash = sym quick_answers ∙ e in refuted (cc)

    -- what stands there on either side is found
    pub stands_found : (handle : ℕ) → Stands (spelling_of c) (spell word) handle ⊎ Stands (spelling_of c) (turn (spell word)) handle
        → (found : ℕ) × (side : Side) × (compared : ℕ) × (quick_of c.k p word c.letters index ≡ Ok (Found found side compared))
    stands_found handle s = go (quick_of c.k p word c.letters index) refl
      where
        go : (answer : Result QuickAnswer Refusal) → quick_of c.k p word c.letters index ≡ answer
            → (found : ℕ) × (side : Side) × (compared : ℕ) × (quick_of c.k p word c.letters index ≡ Ok (Found found side compared))
        go (Ok (Found found side compared)) e = (found, side, compared, e)
        go (Ok (Absent compared)) e = let a = absent_nowhere compared e in absurd (⊎_elim (a.0 handle) (a.1 handle) s)
        go (Err r) e = absurd (never_refused r e)

  -- ─── what ACCESS hands back ────────────────────────────────────────────────

  module _ (handle : ℕ) (inside : access_verdict (spelling_of c) handle ≡ good) where
    part_is : take c.k (drop (position_of c.k c.ends handle) c.letters) ≡ access_part (spelling_of c) handle
    unfolding access_part
    part_is = settled (λ r. _) refl inside

    -- it is a word that QUICK takes
    pub access_passes : word_verdict c.k (access_part (spelling_of c) handle) ≡ good
    unfolding word_verdict
    access_passes =
        let a = access_good (spelling_of c) handle inside in
        let long = length_at c.letters c.k (position_of c.k c.ends handle) (position_fits judged.shape handle a.low a.high) in
        let all = all_take (λ b. is_letter b ≡ true) c.k (drop (position_of c.k c.ends handle) c.letters)
        (all_drop (λ b. is_letter b ≡ true) (position_of c.k c.ends handle) c.letters judged.all_letters) in
        subst (λ (word : List ℕ). choose (eqb (length word) c.k && every is_letter word) good (Err Question) ≡ good) part_is
        (ap (λ (t : Bool). choose t good (Err Question)) (and_both (eq-eqb _ c.k long) (all-every is_letter _ all)))

    -- with no repeated words, asking QUICK for it gives its handle
    pub quick_own : Distinct (spelling_of c) → as_plain (quick_of c.k p (access_part (spelling_of c) handle) c.letters index) ≡ Ok (found_at handle Asked)
    unfolding plain_of
    quick_own d =
        let a = access_good (spelling_of c) handle inside in
        quick_agrees (access_part (spelling_of c) handle) access_passes
        ∙ (sym (settled Err refl (then_good _ passes access_passes))
        ∙ ap Ok (ap (plain_found (spelling_of c)) (access_word (spelling_of c) handle inside) ∙ plain_own (spelling_of c) d handle a.low a.high))
