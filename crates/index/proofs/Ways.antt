-- What INDEX comes to on each of its ways: refused by 2 to 6 or 1, refused by 7, or the index made. Assumes nothing.
use mathlib.Core.Path.{◌≡◌, refl, sym, ap, ap₂, subst, ◌∙◌}
use mathlib.Core.Bool.{Bool, true, false, ◌&&◌}
use mathlib.Core.List.{List}
use Prim.Native.Nat.{ℕ, ◌+◌, ◌*◌, ◌^◌, ◌≤◌}
use native.Mathlib.Omega.{arith}
use borrow.Author.Tests.{leb-true}
use lib.Dec.{leb}
use lib.ListN.{length, replicate, length-replicate}
use Rattle.index.specs.declared.Indexed.{Indexed}
use Rattle.std.specs.Prelude.{Ok, Err, Result}
use Rattle.collection.specs.declared.refusal.Refusal.TheVariants.{Room, Repeated}
use Rattle.collection.specs.declared.refusal.Refusal.{Refusal}
use Rattle.lists.specs.Choose.{choose}
use Rattle.lists.specs.Fill.{fill}
use Rattle.lists.specs.Regions.{Only}
use Rattle.lists.proofs.Every.{and_left, and_right}
use Rattle.lists.proofs.Regions.{among_trans}
use Rattle.lists.proofs.Zeroed.{only_fill}
use Rattle.lists.proofs.Refuted.{refuted}
use Rattle.collection.specs.Collection.{Spelling, Collection, spelling_of}
use Rattle.collection.specs.Judge.{collection_verdict, kmers_in, Passes}
use Rattle.collection.specs.Verdict.{at_place, settle, Verdict, good}
use Rattle.collection.proofs.Judged.{collection_good}
use Rattle.collection.proofs.Verdicts.{both_good, test_good, then_bad, then_good, place_none, place_some, refused, settled}
use Rattle.collection.proofs.Ready.{judged_ready}
use Rattle.collection.proofs.Strung.{each_weighed}
use Rattle.repeats.specs.Check.{first_repeat}
use Rattle.index_minimizers.specs.Minimizer.{sizes_verdict}
use Rattle.index_minimizers.proofs.Sizes.{sizes_good, words_few}
use Rattle.index.specs.Indexing.{Lent, lent, stretch_count, rooms_verdict, index_verdict, Outcome, outcome, cleared, index_with, index_of, filled}
use Rattle.index.specs.Judged.{Sized, foreseen, Judged, Held, judged_of}

-- ─── 2 to 6, then 1 ──────────────────────────────────────────────────────────

module _ (c : Collection) (p : ℕ) where
  abbrev kmer_number : ℕ
  kmer_number = kmers_in (spelling_of c)

  -- 2, of k and p
  pub sizes_refused : {r : Refusal} → sizes_verdict c.k p ≡ Err r → (t : Lent) → Err r ≡ foreseen c p t
  unfolding foreseen index_verdict
  sizes_refused e t = refused Err _ (then_bad _ e)

  module _ (sizes : sizes_verdict c.k p ≡ good) where
    -- 2 to 6, of the collection
    pub collection_refused : {r : Refusal} → collection_verdict c ≡ Err r → (t : Lent) → Err r ≡ foreseen c p t
    unfolding foreseen index_verdict
    collection_refused e t = refused Err _ (then_good _ sizes (then_bad _ e))

    module _ (passes : Passes c) {count starts : ℕ} (counted : count ≡ stretch_count (spelling_of c) p) (all : starts ≡ 4 ^ p + 1)
        (firsts positions numbers before work : ℕ) where
      -- the test of the five sizes
      abbrev room : Bool
      room = leb count firsts && (leb count positions && (leb count numbers && (leb starts before && leb (4 * length c.weights) work)))

      rooms : (t : Lent) → Sized t firsts positions numbers before work
          → rooms_verdict (stretch_count (spelling_of c) p) (4 ^ p) kmer_number t ≡ choose room good (Err Room)
      unfolding rooms_verdict
      rooms t s =
          let number = sym (collection_good c passes).counted in
          let many = sym counted in
          let entries = sym all in
          λ i.
          choose
          (leb (many i) (s.firsts_size i)
          && (leb (many i) (s.positions_size i)
          && (leb (many i) (s.numbers_size i) && (leb (entries i) (s.before_size i) && leb (4 * number i) (s.work_size i)))))
          good (Err Room)

      verdict : (t : Lent) → Sized t firsts positions numbers before work → index_verdict c p t ≡ choose room good (Err Room)
      unfolding index_verdict
      verdict t s = then_good _ sizes (then_good _ passes (rooms t s))

      -- enough room: the answer that is foreseen
      pub room_enough : room ≡ true → (t : Lent) → Sized t firsts positions numbers before work → filled count starts ≡ foreseen c p t
      unfolding foreseen
      room_enough h t s = settled Err (ap₂ filled counted all) (verdict t s ∙ ap (λ (b : Bool). choose b good (Err Room)) h)

      -- 1
      pub room_refused : room ≡ false → (t : Lent) → Sized t firsts positions numbers before work → Err Room ≡ foreseen c p t
      unfolding foreseen
      room_refused h t s = refused Err _ (verdict t s ∙ ap (λ (b : Bool). choose b good (Err Room)) h)

  -- where the verdict is good there are n weights
  weights-counted : (t : Lent) → index_verdict c p t ≡ good → length c.weights ≡ kmer_number
  unfolding index_verdict
  weights-counted t h = (collection_good c (both_good (collection_verdict c) _ (both_good (sizes_verdict c.k p) _ h).1).0).counted

  -- the parts of a good verdict
  pub index_good : (t : Lent) → index_verdict c p t ≡ good → Judged (spelling_of c) p (length c.weights) (stretch_count (spelling_of c) p) t
  unfolding index_verdict rooms_verdict
  index_good t h =
      let a = both_good (sizes_verdict c.k p) _ h in
      let b = both_good (collection_verdict c) _ a.1 in
      let s = sizes_good c.k p a.0 in
      let j = collection_good c b.0 in
      let count = stretch_count (spelling_of c) p in
      let r = (test_good _ Room good b.1).0 in
      let r1 = and_right (leb count (length t.firsts)) _ r in
      let r2 = and_right (leb count (length t.positions)) _ r1 in
      let r3 = and_right (leb count (length t.numbers)) _ r2 in
      record {
        ready = judged_ready j;
        p_low = s.p_low;
        p_high = s.p_high;
        p_fits = s.p_fits;
        each = each_weighed j;
        counted = refl;
        firsts_room = leb-true count (length t.firsts) (and_left _ _ r);
        positions_room = leb-true count (length t.positions) (and_left _ _ r1);
        numbers_room = leb-true count (length t.numbers) (and_left _ _ r2);
        before_room = leb-true (4 ^ p + 1) (length t.before) (and_left _ _ r3);
        work_room = omega (arith, j.counted, leb-true (4 * kmer_number) (length t.work) (and_right (leb (4 ^ p + 1) (length t.before)) _ r3));
      }

-- ─── 7, or the index ─────────────────────────────────────────────────────────

module _ {spelt : Spelling} {p : ℕ} {n m : ℕ} (t : Lent) (j : Judged spelt p n m t) where
  -- work is zeroed, whatever was written into its first 4n entries
  zeroed : {u z : List ℕ} → Only 0 (4 * n) t.work u → z ≡ fill (replicate (4 * n) 0) u → z ≡ cleared n t.work
  zeroed {u} only e = e ∙ only_fill (4 * n) (replicate (4 * n) 0) t.work u (length-replicate (4 * n) 0) j.work_room only

  module _ {repeat : ℕ} {u : List ℕ} (search : (repeat ≡ first_repeat spelt) × Only 0 (4 * n) t.work u) where
    -- 7
    pub repeat_refused : {z : List ℕ} → (repeat ≡ 0 → ⊥) → z ≡ fill (replicate (4 * n) 0) u
        → outcome (Err (Repeated repeat)) (lent t.firsts t.positions t.numbers t.before z) ≡ judged_of spelt p n t
    unfolding judged_of
    repeat_refused h e =
        ap (λ (w : List ℕ). outcome (Err (Repeated repeat)) (lent t.firsts t.positions t.numbers t.before w)) (zeroed search.1 e)
        ∙ refused _ _ (ap (at_place Repeated) (sym search.0) ∙ sym (place_some Repeated repeat h))

    -- the search leaves the tables fit
    pub judged_still : Judged spelt p n m (lent t.firsts t.positions t.numbers t.before u)
    judged_still =
        record {
          ready = j.ready;
          p_low = j.p_low;
          p_high = j.p_high;
          p_fits = j.p_fits;
          each = j.each;
          counted = j.counted;
          firsts_room = j.firsts_room;
          positions_room = j.positions_room;
          numbers_room = j.numbers_room;
          before_room = j.before_room;
          work_room = omega (arith, j.work_room, search.1.size);
        }

    module _ {t' : Lent} (h : Held (index_with spelt p) n (lent t.firsts t.positions t.numbers t.before u) t') where
      -- no word repeats: the index is made, and work zeroed
      pub index_made_lem : {z : List ℕ} {starts : ℕ} → repeat ≡ 0 → z ≡ fill (replicate (4 * n) 0) t'.work → starts ≡ 4 ^ p + 1
          → outcome (filled m starts) (lent t'.firsts t'.positions t'.numbers t'.before z) ≡ judged_of spelt p n t
      unfolding judged_of
      index_made_lem none e s =
          let w = zeroed (among_trans _ t.work u t'.work search.1 h.rest) e in
          settled _ (λ i. outcome (filled (j.counted i) (s i)) (lent (h.firsts_held i) (h.positions_held i) (h.numbers_held i) (h.before_held i) (w i)))
          (sym (place_none Repeated (sym search.0 ∙ none)))

      -- work keeps its size
      pub work_still : 4 * n ≤ length t'.work
      work_still = omega (arith, j.work_room, search.1.size, h.rest.size)

-- ─── the whole call ──────────────────────────────────────────────────────────

-- five tables have their sizes
pub lent_sized : (t : Lent) → Sized t (length t.firsts) (length t.positions) (length t.numbers) (length t.before) (length t.work)
lent_sized t = record { firsts_size = refl; positions_size = refl; numbers_size = refl; before_size = refl; work_size = refl }

-- an answer that is foreseen as refused: the verdict refuses
told_refused : (verdict : Verdict) (m starts : ℕ) {answer : Result Indexed Refusal} {r : Refusal} (t : Lent) (done : Outcome)
    → answer ≡ settle verdict Err (filled m starts) → answer ≡ Err r
    → outcome answer t ≡ settle verdict (λ r. outcome (Err r) t) done
unfolding settle
told_refused (Ok u) m starts t done e f = refuted (cc)
told_refused (Err r) m starts t done e f = ap (λ (r : Result Indexed Refusal). outcome r t) e

-- how many stretches an answer says
abbrev count_in : Result Indexed Refusal → ℕ
count_in (Ok i) = i.stretches
count_in (Err r) = 0

-- one that is foreseen as an index: it does not
told_good : (verdict : Verdict) (m starts : ℕ) {answer : Result Indexed Refusal} {m' starts' : ℕ} → answer ≡ settle verdict Err (filled m starts)
    → answer ≡ filled m' starts' → (verdict ≡ good) × (m' ≡ m)
unfolding settle
told_good (Ok u) m starts e f = (refl, ap count_in (sym f ∙ e))
told_good (Err r) m starts e f = refuted (cc)

module _ (c : Collection) (p : ℕ) (t : Lent) {answer : Result Indexed Refusal} (e : answer ≡ foreseen c p t) where
  -- a foreseen refusal is the answer, and nothing is written
  pub index_refused : {r : Refusal} → answer ≡ Err r → outcome (Err r) t ≡ index_of c p t
  unfolding foreseen index_of
  index_refused f =
      ap (λ (a : Result Indexed Refusal). outcome a t) (sym f)
      ∙ told_refused (index_verdict c p t) (stretch_count (spelling_of c) p) (4 ^ p + 1) t _ e f

  module _ {m starts : ℕ} (f : answer ≡ filled m starts) where
    fit : (index_verdict c p t ≡ good) × (m ≡ stretch_count (spelling_of c) p)
    unfolding foreseen
    fit = told_good (index_verdict c p t) (stretch_count (spelling_of c) p) (4 ^ p + 1) e f

    -- a foreseen index: 2 to 6 and 1 refuse nothing
    pub foreseen_judged : Judged (spelling_of c) p (length c.weights) m t
    foreseen_judged = subst (λ (i : ℕ). Judged (spelling_of c) p (length c.weights) i t) (sym fit.1) (index_good c p t fit.0)

    -- and the rest of the call decides
    pub index_goes_on : {done : Outcome} → done ≡ judged_of (spelling_of c) p (length c.weights) t → done ≡ index_of c p t
    unfolding judged_of index_of
    index_goes_on d = settled _ (d ∙ ap (λ (n : ℕ). judged_of (spelling_of c) p n t) (weights-counted c p t fit.0)) fit.0

-- what `foresee` needs of its steps
pub ruleset foreseeing = (collection_refused, sizes_good, words_few)
