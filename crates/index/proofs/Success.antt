-- What a call of INDEX that succeeds leaves: the index, in the first entries of the tables. Assumes nothing.
use mathlib.Core.Path.{◌≡◌, refl, sym, ap, ◌∙◌}
use mathlib.Core.List.{List, map}
use Prim.Native.Nat.{ℕ, ◌+◌, ◌^◌}
use lib.ListN.{length, take, length-map}
use Rattle.std.specs.Prelude.{Err}
use Rattle.collection.specs.declared.refusal.Refusal.TheVariants.{Repeated}
use Rattle.lists.specs.Count.{count_from}
use Rattle.lists.specs.Fill.{fill}
use Rattle.lists.specs.Pick.{up_to}
use Rattle.lists.proofs.Count.{length_count}
use Rattle.lists.proofs.Picks.{length-up_to}
use Rattle.lists.proofs.Storing.{take_fill}
use Rattle.lists.proofs.Refuted.{refuted}
use Rattle.collection.specs.Collection.{Collection, spelling_of}
use Rattle.collection.specs.Judge.{kmers_in}
use Rattle.collection.specs.Verdict.{at_place, good}
use Rattle.collection.proofs.Verdicts.{place_good, place_none, settled, done_by}
use Rattle.repeats.specs.Check.{first_repeat}
use Rattle.index_minimizers.specs.Minimizer.{minimizer_at}
use Rattle.index_stretches.specs.Index.{tables, built}
use Rattle.index_stretches.specs.Stretches.{Stretch, stretches}
use Rattle.index_cutting.proofs.Keys.{keys_small}
use Rattle.index.specs.Indexing.{Lent, stretch_count, index_verdict, Outcome, outcome, untouched, holding, first_entries, index_with, index_of, filled}
use Rattle.index.proofs.Ways.{index_good}

module _ (c : Collection) (p : ℕ) (t : Lent) where
  -- an index is made only where nothing is refused
  pub index_told : {m starts : ℕ} → (index_of c p t).answer ≡ filled m starts → (index_verdict c p t ≡ good) × (first_repeat (spelling_of c) ≡ 0)
  unfolding index_of
  index_told {m} {starts} e =
      let a = done_by (λ (o : Outcome). o.answer) (index_verdict c p t) _ _ (filled m starts) (λ r q. refuted (cc)) e in
      let b = done_by (λ (o : Outcome). o.answer) (at_place Repeated (first_repeat (spelling_of c))) _ _ (filled m starts) (λ r q. refuted (cc)) a.2 in
      (a.0, place_good Repeated _ b.0)

  module _ (fit : index_verdict c p t ≡ good) where
    abbrev ss : List Stretch
    ss = stretches (minimizer_at c.k p c.letters) c.k c.ends

    abbrev arranged_by : List Stretch
    arranged_by = up_to (λ s. minimizer_at c.k p c.letters s.at) (4 ^ p) ss

    -- the table of one number of each stretch has as many entries as there are stretches
    taken : (g : Stretch → ℕ) (old : List ℕ) → take (length ss) (fill (map g arranged_by) old) ≡ map g arranged_by
    taken g old =
        let j = index_good c p t fit in
        take_fill (map g arranged_by) old (length ss)
        (length-map arranged_by g ∙ length-up_to (λ s. minimizer_at c.k p c.letters s.at) (4 ^ p) ss (keys_small (spelling_of c) p j.ready j.p_fits))

    held : (n : ℕ) → first_entries (stretch_count (spelling_of c) p) (4 ^ p + 1) (holding (index_with (spelling_of c) p) n t) ≡ index_with (spelling_of c) p
    unfolding built
    held n =
        let firsts = taken (λ s. s.first) t.firsts in
        let positions = taken (λ s. s.at) t.positions in
        let numbers = taken (λ s. s.number) t.numbers in
        let starts : ℕ → ℕ = λ i. length (up_to (λ s. minimizer_at c.k p c.letters s.at) i ss) in
        let before = take_fill (map starts (count_from 0 (4 ^ p + 1))) t.before (4 ^ p + 1)
        (length-map (count_from 0 (4 ^ p + 1)) starts ∙ length_count 0 (4 ^ p + 1)) in
        λ i. tables (firsts i) (positions i) (numbers i) (before i)

    -- where nothing is refused, the answer says how many entries are filled, and these are the index
    pub index_success : first_repeat (spelling_of c) ≡ 0
        → ((index_of c p t).answer ≡ filled (stretch_count (spelling_of c) p) (4 ^ p + 1))
        × (first_entries (stretch_count (spelling_of c) p) (4 ^ p + 1) (index_of c p t).after ≡ index_with (spelling_of c) p)
    unfolding index_of
    index_success none =
        let n : ℕ = kmers_in (spelling_of c) in
        let done : Outcome = outcome (filled (stretch_count (spelling_of c) p) (4 ^ p + 1)) (holding (index_with (spelling_of c) p) n t) in
        let o = settled (λ r. outcome (Err r) t)
        (settled (λ r. outcome (Err r) (untouched n t)) {answer = done} refl (sym (place_none Repeated none))) fit in
        (ap (λ (r : Outcome). r.answer) (sym o), ap (λ (r : Outcome). first_entries (stretch_count (spelling_of c) p) (4 ^ p + 1) r.after) (sym o) ∙ held n)
