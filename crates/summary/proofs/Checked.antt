-- What CHECK, COVER and the counting functions answer of a judged collection comes to what `tally` says of it. Assumes nothing.
use mathlib.Core.Path.{◌≡◌, refl, sym, ap, subst, ◌∙◌}
use mathlib.Core.List.{List}
use Prim.Native.Nat.{ℕ, ◌+◌, ◌-◌, ◌*◌, ◌≤◌}
use native.Mathlib.Omega.{arith}
use lib.IntN.{ℤ}
use lib.ListN.{length, replicate}
use Rattle.cover.specs.declared.Covered.{Covered}
use Rattle.std.specs.Prelude.{Ok, Err, Result}
use Rattle.collection.specs.declared.refusal.Refusal.TheVariants.{Repeated}
use Rattle.collection.specs.declared.refusal.Refusal.{Refusal}
use Rattle.lists.specs.Count.{sum}
use Rattle.lists.specs.Fill.{fill}
use Rattle.lists.proofs.Refuted.{refuted}
use Rattle.collection.specs.Collection.{Collection, spelling_of}
use Rattle.collection.specs.Judge.{Passes, kmers_in}
use Rattle.collection.specs.Verdict.{at_place, settle, Verdict, good}
use Rattle.collection.proofs.Judged.{Judged, collection_good}
use Rattle.collection.proofs.Verdicts.{then_good, settled}
use Rattle.collection.proofs.Verdicts.{good_room}
use Rattle.repeats.specs.Check.{first_repeat, check_verdict, check_of, Outcome, outcome}
use Rattle.cover_trails.specs.Groups.{least}
use Rattle.collection.specs.Ready.{Strung}
use Rattle.collection.specs.EndWeights.{end_weights}
use Rattle.collection.proofs.Strung.{judged_strung}
use Rattle.cover.specs.Cover.{cover_verdict, Promise, covered}
use Rattle.cover.proofs.Laws.{cover_answers, ends_count}
use Rattle.runs.specs.Runs.{run_count}
use Rattle.summary_counts.specs.Counts.{distinct, bits_of}
use Rattle.summary_counts.specs.Inner.{inner_from, Weighed}
use Rattle.summary_counts.proofs.Inside.{inner_runs_lem}
use Rattle.summary_text.specs.declared.Numbers.{Numbers}
use Rattle.summary.specs.Inner.{numbers_from}
use Rattle.summary.specs.Summary.{numbers_of, checked_of}
use Rattle.summary.proofs.Fits.{least_few}

-- ─── the numbers ─────────────────────────────────────────────────────────────

-- nine numbers, in the order of their lines
abbrev numbers : ℕ → ℕ → ℕ → ℕ → ℕ → ℕ → ℕ → ℕ → ℕ → Numbers
numbers strings kmers total inner given paths least distinct bits =
    record {
      strings = strings;
      kmers = kmers;
      total = total;
      inner = inner;
      given = given;
      paths = paths;
      least = least;
      distinct = distinct;
      bits = bits;
    }

-- each number is what its function counted
pub counted_from : (k : ℕ) (ends weights : List ℕ) (paths : ℕ) {total inner given different bits : ℕ}
    → total ≡ sum weights → inner ≡ inner_from k 0 ends weights → given ≡ run_count weights → different ≡ distinct weights → bits ≡ bits_of weights
    → numbers (length ends) (length weights) total inner given paths (inner - length ends + paths) different bits ≡ numbers_from k ends weights paths
unfolding numbers_from
counted_from k ends weights paths t i g d b = λ j. numbers (length ends) (length weights) (t j) (i j) (g j) paths (i j - length ends + paths) (d j) (b j)

-- with the least number of paths they are the numbers of the collection
numbers_are : (c : Collection) {paths : ℕ} → paths ≡ least (end_weights c) → numbers_from c.k c.ends c.weights paths ≡ numbers_of c
unfolding numbers_from numbers_of
numbers_are c p =
    λ j.
    numbers (length c.ends) (length c.weights) (sum c.weights) (sym (inner_runs_lem c) j) (run_count c.weights) (p j)
    (sym (inner_runs_lem c) j - length c.ends + p j)
    (distinct c.weights) (bits_of c.weights)

-- how many paths an answer of COVER says
abbrev paths_in : Result Covered Refusal → ℕ
paths_in (Ok m) = m.paths
paths_in (Err r) = 0

-- ─── a judged collection ─────────────────────────────────────────────────────

module _ (c : Collection) (passes : Passes c) where
  judged : Judged c
  judged = collection_good c passes

  -- what the counting functions ask of the weights
  pub weighed : Weighed c.weights
  weighed = record { few = omega (arith, judged.counted, judged.shape.letters_high); within_range = judged.all_weights }

  module _ (work : List ℕ) (room : 4 * length c.weights ≤ length work) where
    check_good : check_verdict c (length work) ≡ good
    unfolding check_verdict
    check_good = then_good _ passes (good_room (subst (λ (n : ℕ). 4 * n ≤ length work) judged.counted room))

    -- CHECK, with room: 7 at the first repeated word is all that it can refuse by
    pub words_checked : check_of c work ≡ outcome (settle (at_place Repeated (first_repeat (spelling_of c))) Err (Ok (kmers_in (spelling_of c))))
        (fill (replicate (4 * kmers_in (spelling_of c)) 0) work)
    unfolding check_of
    words_checked = sym (settled _ refl check_good)

    module _ {a : Result ℕ Refusal} {work' : List ℕ} (e : outcome a work' ≡ check_of c work) where
      check_answers : a ≡ settle (at_place Repeated (first_repeat (spelling_of c))) Err (Ok (kmers_in (spelling_of c)))
      check_answers = ap (λ (o : Outcome). o.answer) (e ∙ words_checked)

      -- a refusal of CHECK is one of `tally`
      pub check_refused : {r : Refusal} → a ≡ Err r → Err r ≡ checked_of c
      unfolding checked_of settle
      check_refused {r} q = go (at_place Repeated (first_repeat (spelling_of c))) (sym check_answers ∙ q)
        where
          go : (v : Verdict) → settle v Err (Ok (kmers_in (spelling_of c))) ≡ Err r → Err r ≡ settle v Err (Ok (numbers_of c))
          go (Ok u) h = refuted (cc)
          go (Err x) h = let p : r ≡ x = cc in ap (λ (y : Refusal). Err y) p

      -- else the numbers count
      pub check_passed : {n : ℕ} → a ≡ Ok n → {s : Result Numbers Refusal} → s ≡ Ok (numbers_of c) → s ≡ checked_of c
      unfolding checked_of settle
      check_passed {n} q {s} r = go (at_place Repeated (first_repeat (spelling_of c))) (sym check_answers ∙ q)
        where
          go : (v : Verdict) → settle v Err (Ok (kmers_in (spelling_of c))) ≡ Ok n → s ≡ settle v Err (Ok (numbers_of c))
          go (Ok u) h = r
          go (Err x) h = refuted (cc)

  -- v is what there is to say of the words
  module _ {v : Verdict} (e : v ≡ at_place Repeated (first_repeat (spelling_of c))) where
    -- a repeated word is a refusal of `tally`
    pub words_refused : {r : Refusal} → v ≡ Err r → Err r ≡ checked_of c
    unfolding checked_of settle
    words_refused {r} q = rw (sym e ∙ q) refl

    -- else the numbers count
    pub words_passed : {u : Unit {0}} → v ≡ Ok u → {s : Result Numbers Refusal} → s ≡ Ok (numbers_of c) → s ≡ checked_of c
    unfolding checked_of settle
    words_passed {u} q {s} r = rw (sym e ∙ q) r

  -- and of the ends
  pub strung : Strung c.k c.ends c.weights
  strung = judged_strung judged

  module _ {places : List ℤ} {work : List ℕ} {b : Result Covered Refusal} {places' : List ℤ} {work' : List ℕ} (p : Promise c places work b places' work')
      (places_room : length c.ends ≤ length places) (work_room : 16 * length c.ends ≤ length work) where
    all_covered : b ≡ covered (length c.ends) (least (end_weights c))
    unfolding cover_verdict
    all_covered = cover_answers c places work p (then_good _ passes (then_good _ (good_room places_room) (good_room work_room)))

    -- COVER refuses nothing here
    pub cover_refused : {r : Refusal} {s : Result Numbers Refusal} → b ≡ Err r → s ≡ checked_of c
    cover_refused q = let h = all_covered in refuted (cc)

    module _ {m : Covered} (q : b ≡ Ok m) where
      paths-least : m.paths ≡ least (end_weights c)
      paths-least = ap paths_in (sym q ∙ all_covered)

      -- as few as the strings, so that no number wraps
      pub paths_low : m.paths ≤ length c.ends
      paths_low = omega (arith, paths-least, least_few (end_weights c), ends_count c)

      -- the numbers from these paths are those of the collection
      pub numbers-told : {n : Numbers} → n ≡ numbers_from c.k c.ends c.weights m.paths → ◌≡◌ {A = Result Numbers Refusal} (Ok n) (Ok (numbers_of c))
      numbers-told r = ap (λ (x : Numbers). Ok x) (r ∙ numbers_are c paths-least)
