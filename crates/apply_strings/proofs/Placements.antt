-- Writing the strings one new place after the other: work names the string of each place, and its part of the tables is what stands there. Assumes nothing.
use mathlib.Core.Path.{◌≡◌, refl, sym, ap, ◌∙◌}
use mathlib.Core.Bool.{Bool, true, false}
use mathlib.Core.List.{List, [], ◌∷◌, ◌++◌, map}
use Prim.Native.Nat.{ℕ, zero, suc, ◌+◌, ◌-◌, ◌<◌, ◌≤◌}
use native.Mathlib.Omega.{arith}
use borrow.Author.Tests.{eq-eqb, eqb-true}
use lib.Dec.{eqb}
use lib.IntN.{ℤ, pos, nat_abs}
use lib.ListN.{length, take, drop, get_or, set, length-map, length-append, length-drop, length-reverse, drop_of_length-le}
use lib.Seq.{length-take-le}
use Rattle.lists.specs.Choose.{choose}
use Rattle.lists.specs.Every.{every}
use Rattle.lists.specs.Fill.{put, fill}
use Rattle.lists.specs.Limits.{most_letters}
use Rattle.lists.proofs.Every.{all_at, all_take, all_drop, all-every}
use Rattle.lists.proofs.First.{first_none, first_found_from}
use Rattle.lists.proofs.Mapped.{map_at}
use Rattle.lists.proofs.Storing.{Storing, begin, store, store_many, restated, stored, drop_next}
use Rattle.lists.proofs.Refuted.{refuted}
use Rattle.alphabet.specs.Letter.{is_letter}
use Rattle.collection.specs.Collection.{Collection}
use Rattle.collection.specs.Kmers.{within}
use Rattle.collection.specs.Ready.{Long}
use Rattle.collection.specs.Tables.{tables, filled_by}
use Rattle.collection.specs.Strings.{Str, strings, letters_in, weights_in, ends_in}
use Rattle.collection.proofs.Judged.{Judged, collection_good, shape_long}
use Rattle.cover_trails.specs.Counting.{occurs}
use Rattle.cover_trails.specs.Places.{turned_by}
use Rattle.cover_trails.proofs.Counting.{occurs_where}
use Rattle.apply_strings.specs.declared.inner.Part.{Part}
use Rattle.apply_strings.specs.Reordered.{reordered}
use Rattle.apply_strings.specs.Placeable.{Placeable}
use Rattle.apply_strings.specs.Parts.{start_of, PartOf}
use Rattle.apply_places.specs.Places.{holder}
use Rattle.apply_strings.specs.Turned.{letters_by, column_by, turn_str}
use Rattle.apply_strings.specs.Weighs.{none}
use Rattle.apply_strings.proofs.Reordered.{Sizes, reordered_sizes, string_stands}
use Rattle.apply_strings.proofs.Parts.{string_at, string_long, end_inside, last_inside}
use Rattle.apply_strings.proofs.Turning.{length-turned}

-- ─── the string of a place ───────────────────────────────────────────────────

-- a place that is used has a string
holder_found : (a : ℕ) (places : List ℕ) → 1 ≤ occurs a places
    → (1 ≤ holder a places) × (holder a places ≤ length places) × (get_or places (holder a places - 1) 0 ≡ a)
holder_found a places h = go (holder a places) refl (occurs_where a places h)
  where
    go : (n : ℕ) → holder a places ≡ n → (i : ℕ) × (i < length places) × (get_or places i 0 ≡ a) → (1 ≤ n) × (n ≤ length places) × (get_or places (n - 1) 0 ≡ a)
    go zero e u =
        let f : eqb a (get_or places u.0 0) ≡ false = all_at (λ b. eqb a b ≡ false) places (first_none (eqb a) places e) u.0 0 u.1 in
        let t : eqb a (get_or places u.0 0) ≡ true = eq-eqb a (get_or places u.0 0) (sym u.2) in
        refuted (cc)
    go (suc n) e u =
        let f = first_found_from (eqb a) 0 places n e in
        (omega arith, omega (arith, f.high), sym (eqb-true a (get_or places (suc n - 1) 0) (f.meets 0)))

module _ {c : Collection} {places : List ℤ} {work : List ℕ} (p : Placeable c places work) where
  judged : Judged c
  judged = collection_good c p.passes

  long : Long c.k c.ends
  long = shape_long judged.shape

  -- no number that is counted here comes near the widest
  pub few_weights : length c.weights ≤ most_letters
  few_weights = omega (arith, judged.counted, judged.shape.letters_high)

  sizes : Sizes c.letters c.ends c.weights (reordered c places)
  sizes = reordered_sizes c places p.passes p.permutation

  -- what work names at an entry is a string, and that entry is its place
  pub named : (j : ℕ) → j < length c.ends
      → (1 ≤ get_or work j 0) × (get_or work j 0 - 1 < length c.ends) × (nat_abs (get_or places (get_or work j 0 - 1) (pos 0)) ≡ suc j)
  named j l =
      let q = p.permutation in
      let e = p.marked j l in
      let f = holder_found (suc j) (map nat_abs places) (omega (arith, q.once (suc j) (omega arith) (omega arith))) in (
        omega (arith, e, f.0),
        omega (arith, e, f.0, f.1, length-map places nat_abs, q.number),
        sym (map_at nat_abs (pos 0) places (get_or work j 0 - 1)) ∙ (ap (λ (n : ℕ). get_or (map nat_abs places) (n - 1) 0) e ∙ f.2),
      )

  -- work names a string for each place
  pub part-asked : (j : ℕ) → j < length c.ends → Long c.k c.ends × (get_or work j 0 - 1 < length c.ends) × (length places ≡ length c.ends)
  part-asked j l = (long, (named j l).1, p.permutation.number)

  there : (j : ℕ) → j < length c.ends
      → get_or (reordered c places) j none ≡ turned_by turn_str (get_or places (get_or work j 0 - 1) (pos 0)) (get_or (strings c) (get_or work j 0 - 1) none)
  there j l =
      let i = get_or work j 0 - 1 in
      let n = named j l in
      let e : nat_abs (get_or places i (pos 0)) - 1 ≡ j = omega (arith, n.2) in
      ap (λ (x : ℕ). get_or (reordered c places) x none) (sym e)
      ∙ string_stands c places p.passes p.permutation i n.1

  -- ─── its part of the tables ────────────────────────────────────────────────

  module _ (j : ℕ) (l : j < length c.ends) (r : Part) (o : PartOf c.k c.ends places (get_or work j 0 - 1) r) where
    pub letters_inside : (r.start ≤ r.end) × (r.end ≤ length c.letters)
    letters_inside =
        let n = (named j l).1 in (
          omega (arith, o.start_is, o.end_is, string_long long (get_or work j 0 - 1) n),
          omega (arith, o.end_is, end_inside long (get_or work j 0 - 1) n, judged.shape.last),
        )

    pub weights_inside : (r.first ≤ r.last) × (r.last ≤ length c.weights)
    weights_inside =
        let n = (named j l).1 in
        (omega (arith, o.first_is, o.last_is), omega (arith, o.last_is, last_inside long (get_or work j 0 - 1) n, judged.shape.last, judged.counted))

    -- its letters and weights, as they stand before
    abbrev letters_from : List ℕ
    letters_from = take (r.end - r.start) (drop r.start c.letters)

    abbrev weights_from : List ℕ
    weights_from = take (r.last - r.first) (drop r.first c.weights)

    before : get_or (strings c) (get_or work j 0 - 1) none ≡ record { letters = letters_from; weights = weights_from }
    before =
        let i : ℕ = get_or work j 0 - 1 in
        let a = sym o.start_is in
        let b = sym o.end_is in
        let f = sym o.first_is in
        let w : within c.k (start_of c.ends i) (get_or c.ends i 0) ≡ r.last - r.first = omega (arith, o.last_is) in
        string_at c none long i (named j l).1
        ∙ (λ t. record { letters = take (b t - a t) (drop (a t) c.letters); weights = take (w t) (drop (f t) c.weights) })

    now_there : get_or (reordered c places) j none
        ≡ choose r.turned (turn_str (record { letters = letters_from; weights = weights_from })) (record { letters = letters_from; weights = weights_from })
    now_there = let u = sym o.turned_is in there j l ∙ (λ t. choose (u t) (turn_str (before t)) (before t))

    letters_there : (get_or (reordered c places) j none).letters ≡ letters_by r.turned letters_from
    letters_there = ap (λ (s : Str). s.letters) now_there ∙ go r.turned
      where
        go : (t : Bool)
            → (choose t (turn_str (record { letters = letters_from; weights = weights_from }))
            (record { letters = letters_from; weights = weights_from })).letters ≡ letters_by t letters_from
        go true = refl
        go false = refl

    weights_there : (get_or (reordered c places) j none).weights ≡ column_by r.turned weights_from
    weights_there = ap (λ (s : Str). s.weights) now_there ∙ go r.turned
      where
        go : (t : Bool)
            → (choose t (turn_str (record { letters = letters_from; weights = weights_from }))
            (record { letters = letters_from; weights = weights_from })).weights ≡ column_by t weights_from
        go true = refl
        go false = refl

    letters-length : length (letters_by r.turned letters_from) ≡ r.end - r.start
    letters-length = go r.turned ∙ length-take-le (r.end - r.start) (drop r.start c.letters) (rw length-drop (omega (arith, letters_inside)))
      where
        go : (t : Bool) → length (letters_by t letters_from) ≡ length letters_from
        go true = length-turned letters_from
        go false = refl

    weights-length : length (column_by r.turned weights_from) ≡ r.last - r.first
    weights-length = go r.turned ∙ length-take-le (r.last - r.first) (drop r.first c.weights) (rw length-drop (omega (arith, weights_inside)))
      where
        go : (t : Bool) → length (column_by t weights_from) ≡ length weights_from
        go true = length-reverse weights_from
        go false = refl

    pub letters-asked : every is_letter letters_from ≡ true
    letters-asked =
        all-every is_letter letters_from
        (all_take (λ b. is_letter b ≡ true) (r.end - r.start) (drop r.start c.letters)
        (all_drop (λ b. is_letter b ≡ true) r.start c.letters judged.all_letters))

    -- what is left to be written starts with it
    next_there : drop j (reordered c places) ≡ get_or (reordered c places) j none ∷ drop (j + 1) (reordered c places)
    next_there = drop_next (reordered c places) j none (omega (arith, sizes.number))

    -- the letters of one string more
    pub letters_next : letters_in (drop j (reordered c places)) ≡ letters_by r.turned letters_from ++ letters_in (drop (j + 1) (reordered c places))
    unfolding letters_in
    letters_next = ap letters_in next_there ∙ ap (λ (x : List ℕ). x ++ letters_in (drop (j + 1) (reordered c places))) letters_there

    -- the weights of one string more
    pub weights_next : weights_in (drop j (reordered c places)) ≡ column_by r.turned weights_from ++ weights_in (drop (j + 1) (reordered c places))
    unfolding weights_in
    weights_next = ap weights_in next_there ∙ ap (λ (x : List ℕ). x ++ weights_in (drop (j + 1) (reordered c places))) weights_there

    -- one end more
    pub ends_next : (at : ℕ)
        → ends_in at (drop j (reordered c places)) ≡ (at + (r.end - r.start)) ∷ ends_in (at + (r.end - r.start)) (drop (j + 1) (reordered c places))
    unfolding ends_in
    ends_next at =
        ap (ends_in at) next_there
        ∙ ap (λ (n : ℕ). (at + n) ∷ ends_in (at + n) (drop (j + 1) (reordered c places))) (ap length letters_there ∙ letters-length)

-- ─── the loop over the new places ────────────────────────────────────────────

-- the strings at the first j places are written: `at` letters and `kmer` weights
pub record Placing (ss : List Str) (m : ℕ) (letters₀ ends₀ weights₀ letters ends weights : List ℕ) (at kmer j : ℕ) : Type 0 where
  pub inside : j ≤ m
  pub few : at + length (letters_in (drop j ss)) ≤ most_letters
  pub few_weights : kmer + length (weights_in (drop j ss)) ≤ most_letters
  pub letters_left : Storing (length letters₀) letters (fill (letters_in ss) letters₀) (letters_in (drop j ss)) at
  pub ends_left : Storing (length ends₀) ends (fill (ends_in 0 ss) ends₀) (ends_in at (drop j ss)) j
  pub weights_left : Storing (length weights₀) weights (fill (weights_in ss) weights₀) (weights_in (drop j ss)) kmer

module _ {c : Collection} {places : List ℤ} {work : List ℕ} (p : Placeable c places work) {letters₀ ends₀ weights₀ : List ℕ} where
  pub placing_begins : length c.letters ≤ length letters₀ → length c.ends ≤ length ends₀ → length c.weights ≤ length weights₀
      → Placing (reordered c places) (length c.ends) letters₀ ends₀ weights₀ letters₀ ends₀ weights₀ 0 0 0
  placing_begins letters-fit ends-fit weights-fit =
      record {
        inside = omega arith;
        few = omega (arith, (sizes p).letters_number, (judged p).shape.letters_high);
        few_weights = omega (arith, (sizes p).weights_number, (judged p).counted, (judged p).shape.letters_high);
        letters_left = begin letters₀ (letters_in (reordered c places)) (omega (arith, (sizes p).letters_number));
        ends_left = begin ends₀ (ends_in 0 (reordered c places)) (omega (arith, (sizes p).ends_number));
        weights_left = begin weights₀ (weights_in (reordered c places)) (omega (arith, (sizes p).weights_number));
      }

  module _ {letters₁ ends₁ weights₁ : List ℕ} {at kmer j : ℕ}
      (w : Placing (reordered c places) (length c.ends) letters₀ ends₀ weights₀ letters₁ ends₁ weights₁ at kmer j) where
    module _ (l : j < length c.ends) (r : Part) (o : PartOf c.k c.ends places (get_or work j 0 - 1) r) where
      letters_step : Storing (length letters₀) letters₁ (fill (letters_in (reordered c places)) letters₀)
          (letters_by r.turned (letters_from p j l r o) ++ letters_in (drop (j + 1) (reordered c places))) at
      letters_step = restated (letters_next p j l r o) w.letters_left

      ends_step : Storing (length ends₀) ends₁ (fill (ends_in 0 (reordered c places)) ends₀)
          ((at + (r.end - r.start)) ∷ ends_in (at + (r.end - r.start)) (drop (j + 1) (reordered c places))) j
      ends_step = restated (ends_next p j l r o at) w.ends_left

      weights_step : Storing (length weights₀) weights₁ (fill (weights_in (reordered c places)) weights₀)
          (column_by r.turned (weights_from p j l r o) ++ weights_in (drop (j + 1) (reordered c places))) kmer
      weights_step = restated (weights_next p j l r o) w.weights_left

      pub letters_room : at + length (letters_from p j l r o) ≤ length letters₁
      letters_room =
          let n = length-take-le (r.end - r.start) (drop r.start c.letters) (rw length-drop (omega (arith, letters_inside p j l r o))) in
          omega (
            arith,
            letters_step.room,
            length-append (letters_by r.turned (letters_from p j l r o)) (letters_in (drop (j + 1) (reordered c places))),
            letters-length p j l r o,
          )

      pub weights_room : kmer + length (weights_from p j l r o) ≤ length weights₁
      weights_room =
          let n = length-take-le (r.last - r.first) (drop r.first c.weights) (rw length-drop (omega (arith, weights_inside p j l r o))) in
          omega (
            arith,
            weights_step.room,
            length-append (column_by r.turned (weights_from p j l r o)) (weights_in (drop (j + 1) (reordered c places))),
            weights-length p j l r o,
          )

      few_left : at + (r.end - r.start) + length (letters_in (drop (j + 1) (reordered c places))) ≤ most_letters
      few_left =
          omega (
            arith,
            w.few,
            ap length (letters_next p j l r o),
            length-append (letters_by r.turned (letters_from p j l r o)) (letters_in (drop (j + 1) (reordered c places))),
            letters-length p j l r o,
          )

      pub at_few : at + (r.end - r.start) ≤ most_letters
      at_few = omega (arith, few_left)

      few_weights-left : kmer + (r.last - r.first) + length (weights_in (drop (j + 1) (reordered c places))) ≤ most_letters
      few_weights-left =
          omega (
            arith,
            w.few_weights,
            ap length (weights_next p j l r o),
            length-append (column_by r.turned (weights_from p j l r o)) (weights_in (drop (j + 1) (reordered c places))),
            weights-length p j l r o,
          )

      -- the next string is written
      pub placing_next : {letters₂ weights₂ : List ℕ} → letters₂ ≡ put at (letters_by r.turned (letters_from p j l r o)) letters₁
          → weights₂ ≡ put kmer (column_by r.turned (weights_from p j l r o)) weights₁
          → Placing (reordered c places) (length c.ends) letters₀ ends₀ weights₀ letters₂ (set ends₁ j (at + (r.end - r.start))) weights₂
          (at + (r.end - r.start)) (kmer + (r.last - r.first)) (j + 1)
      placing_next e f =
          record {
            inside = omega arith;
            few = few_left;
            few_weights = few_weights-left;
            letters_left = rw (← letters-length p j l r o, e) (store_many (letters_by r.turned (letters_from p j l r o)) letters_step);
            ends_left = store ends_step;
            weights_left = rw (← weights-length p j l r o, f) (store_many (column_by r.turned (weights_from p j l r o)) weights_step);
          }

    -- all places passed
    pub placing_ends : length c.ends ≤ j → tables letters₁ ends₁ weights₁ ≡ filled_by (reordered c places) (tables letters₀ ends₀ weights₀)
    unfolding letters_in ends_in weights_in
    placing_ends l =
        let e : drop j (reordered c places) ≡ [] = drop_of_length-le (reordered c places) {i = j} (omega (arith, (sizes p).number)) in
        let letters = stored (restated (ap letters_in e) w.letters_left) in
        let ends = stored (restated (ap (ends_in at) e) w.ends_left) in
        let weights = stored (restated (ap weights_in e) w.weights_left) in
        λ x. tables (letters x) (ends x) (weights x)
